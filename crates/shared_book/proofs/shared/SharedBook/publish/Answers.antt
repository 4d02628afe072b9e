use Rattle.std.proofs.Common.{rules, refl, ap, sym, subst, ◌∙◌, ◌≡◌, ◌∷◌, ◌++◌, [], ℕ, List, true, false, length}
use Rattle.std.proofs.lemmas.List.{append-nil}
use mathlib.Core.List.{IsPrefix}
use Rattle.doc_book.specs.declared.entries.Act.TheVariants as act
use Rattle.doc_book.specs.declared.entries.Entry.{Entry}
use Rattle.doc_book.specs.Calls.{IsPublished}
use Rattle.doc_book.specs.Document.{Document}
use Rattle.doc_book.specs.Growing.{entry_of}
use Rattle.doc_book.specs.Jobs.{IsJobOf}
use Rattle.doc_book.specs.Turns.{published, is_published}
use Rattle.shared_book.proofs.Committing.{published_at}
use Rattle.shared_book.specs.declared.shelf.Shelf.{Shelf}
use Rattle.shared_book.proofs.Owning.{kept_same, kept_added, by_itself}
use Rattle.shared_book.specs.Committed.{IsCommitted, IsPublishedAt}
use Rattle.shared_book.proofs.Turning.{turned_published, published_budget, published_grows, published_stays, job_later}
use Rattle.shared_book.proofs.shared.SharedBook.publish.Goals.{then-is_published, else-is_published}
use Rattle.shared_book.proofs.shared.SharedBook.publish.Goals as goal

pub invariant_of-pass : goal.invariant_of-pass
invariant_of-pass g c = let who : ℕ = c.pass.inside.who in let seen : List Entry = c.pass.inside.seat.seen in let own : List ℕ = c.pass.inside.seat.own in let list : List Entry = c.take-turn.result.book.history in
    let old : Document = c.value.result.now.book in let new : Document = c.publish-answer.new.self in
    let same : old ≡ c.take-turn.result.book = ap (λ (s : Shelf). s.book) c.value.ensures.value in
    let here : old.history ≡ list = ap (λ (d : Document). d.history) same in (
      search rules,
      elim c.if-is_published.branch [
        | then-is_published w ↦ let entered : is_published c.publish-answer.result ≡ true = search rules in let grew = published_grows old new who c.args.line c.args.solved c.publish-answer.result entered c.publish-answer.ensures.answer in let i : c.if-is_published.pass-inside.who ≡ who = search rules in
            let s : c.give.new.seat.seen ≡ list ++ entry_of who c.args.line (act.Frame c.args.solved.frame) ∷ [] = search (rules, grew.0, here) in
            let o : c.give.new.seat.own ≡ own ++ length list ∷ [] = search (rules, here) in
            rw i (kept_added who seen list c.give.new.seat.seen own c.give.new.seat.own (entry_of who c.args.line (act.Frame c.args.solved.frame)) (by_itself who (entry_of who c.args.line (act.Frame c.args.solved.frame)) refl) c.take-turn.ensures.begins c.pass.invariant.1 s o)
        | else-is_published w ↦ let handed_back : is_published c.publish-answer.result ≡ false = search rules in let stays = published_stays old new who c.args.line c.args.solved c.publish-answer.result handed_back c.publish-answer.ensures.answer in let i : c.if-is_published.pass-inside.who ≡ who = search rules in
            let s : c.give.new.seat.seen ≡ list = search (rules, stays.0, here) in
            let o : c.give.new.seat.own ≡ own = search rules in
            rw i (kept_same who seen list c.give.new.seat.seen own c.give.new.seat.own c.take-turn.ensures.begins c.pass.invariant.1 s o)
      ],
    )

pub publish-answer-requires : goal.publish-answer-requires
publish-answer-requires g c = let same : c.value.result.now.book ≡ c.take-turn.result.book = ap (λ (s : Shelf). s.book) c.value.ensures.value in
    let begins : IsPrefix c.args.pass.now.seen c.take-turn.result.book.history = search rules in
    let terms : c.take-turn.result.book.budget ≡ c.args.self.now.terms.frames = search rules in
    subst (λ (d : Document). IsJobOf d.history d.budget c.args.solved.job.front c.args.solved.job.scene c.args.solved.job.places) (sym same)
    (job_later c.args.pass.now.seen c.args.self.now.terms.frames c.take-turn.result.book c.args.solved.job.front c.args.solved.job.scene c.args.solved.job.places begins terms c.requires.job)

pub commit-requires-clause-entry : goal.commit-requires-clause-entry
commit-requires-clause-entry g c = let old : Document = c.value.result.now.book in let new : Document = c.publish-answer.new.self in
    let mine : c.pass.inside.who ≡ c.args.pass.now.who = search rules in
    let answer : IsPublished old new c.args.pass.now.who c.args.line c.args.solved c.publish-answer.result = subst (λ (w : ℕ). IsPublished old new w c.args.line c.args.solved c.publish-answer.result) mine c.publish-answer.ensures.answer in
    let same : old ≡ c.take-turn.result.book = ap (λ (s : Shelf). s.book) c.value.ensures.value in
    let here : old.history ≡ c.take-turn.result.book.history = ap (λ (d : Document). d.history) same in let entered : is_published c.publish-answer.result ≡ true = search rules in let grew = published_grows old new c.args.pass.now.who c.args.line c.args.solved c.publish-answer.result entered answer in
    (entry_of c.args.pass.now.who c.args.line (act.Frame c.args.solved.frame), search (rules, grew.0, here))

pub give-requires-clause-in_turn : goal.give-requires-clause-in_turn
give-requires-clause-in_turn g c = elim c.if-is_published.branch [ then-is_published w ↦ search rules | else-is_published w ↦ search rules ]

pub give-requires-clause-committed : goal.give-requires-clause-committed
give-requires-clause-committed g c = let old : Document = c.value.result.now.book in let new : Document = c.publish-answer.new.self in
    let mine : c.pass.inside.who ≡ c.args.pass.now.who = search rules in
    let answer : IsPublished old new c.args.pass.now.who c.args.line c.args.solved c.publish-answer.result = subst (λ (w : ℕ). IsPublished old new w c.args.line c.args.solved c.publish-answer.result) mine c.publish-answer.ensures.answer in
    let same : old ≡ c.take-turn.result.book = ap (λ (s : Shelf). s.book) c.value.ensures.value in
    let here : old.history ≡ c.take-turn.result.book.history = ap (λ (d : Document). d.history) same in
    elim c.if-is_published.branch [ then-is_published w ↦ search rules | else-is_published w ↦ let handed_back : is_published c.publish-answer.result ≡ false = search rules in let stays = published_stays old new c.args.pass.now.who c.args.line c.args.solved c.publish-answer.result handed_back answer in search (rules, stays.0, here) ]

pub give-requires-clause-terms : goal.give-requires-clause-terms
give-requires-clause-terms g c = let old : Document = c.value.result.now.book in let new : Document = c.publish-answer.new.self in
    let mine : c.pass.inside.who ≡ c.args.pass.now.who = search rules in
    let answer : IsPublished old new c.args.pass.now.who c.args.line c.args.solved c.publish-answer.result = subst (λ (w : ℕ). IsPublished old new w c.args.line c.args.solved c.publish-answer.result) mine c.publish-answer.ensures.answer in
    let same : old ≡ c.take-turn.result.book = ap (λ (s : Shelf). s.book) c.value.ensures.value in
    let budget : new.budget ≡ c.take-turn.result.book.budget = published_budget old new c.args.pass.now.who c.args.line c.args.solved c.publish-answer.result answer ∙ ap (λ (d : Document). d.budget) same in
    elim c.if-is_published.branch [ then-is_published w ↦ search (rules, budget) | else-is_published w ↦ search (rules, budget) ]

pub returns-clause-same : goal.returns-clause-same
returns-clause-same g c = elim c.if-is_published.branch [ then-is_published w ↦ search rules | else-is_published w ↦ search rules ]

pub returns-clause-turn : goal.returns-clause-turn
returns-clause-turn g c = let old : Document = c.value.result.now.book in let new : Document = c.publish-answer.new.self in
    let mine : c.pass.inside.who ≡ c.args.pass.now.who = search rules in
    let answer : IsPublished old new c.args.pass.now.who c.args.line c.args.solved c.publish-answer.result = subst (λ (w : ℕ). IsPublished old new w c.args.line c.args.solved c.publish-answer.result) mine c.publish-answer.ensures.answer in
    let same : old ≡ c.take-turn.result.book = ap (λ (s : Shelf). s.book) c.value.ensures.value in
    let here : old.history ≡ c.take-turn.result.book.history = ap (λ (d : Document). d.history) same in
    let begins : IsPrefix c.args.pass.now.seen c.take-turn.result.book.history = search rules in
    let terms : c.take-turn.result.book.budget ≡ c.args.self.now.terms.frames = search rules in
    let all : c.give.new.seat.seen ≡ new.history = elim c.if-is_published.branch [ then-is_published w ↦ search rules | else-is_published w ↦ let handed_back : is_published c.publish-answer.result ≡ false = search rules in let stays = published_stays old new c.args.pass.now.who c.args.line c.args.solved c.publish-answer.result handed_back answer in search (rules, stays.0, here) ] in
    let owned : c.give.new.seat.own ≡ c.args.pass.now.own ++ published c.publish-answer.result = elim c.if-is_published.branch [ then-is_published w ↦ let entered : is_published c.publish-answer.result ≡ true = search rules in let grew = published_grows old new c.args.pass.now.who c.args.line c.args.solved c.publish-answer.result entered answer in search (rules, grew.1, here) | else-is_published w ↦ let handed_back : is_published c.publish-answer.result ≡ false = search rules in let stays = published_stays old new c.args.pass.now.who c.args.line c.args.solved c.publish-answer.result handed_back answer in search (rules, stays.1, append-nil c.args.pass.now.own) ] in
    turned_published c.args.self.now.terms.frames c.args.pass.now.who c.args.line c.args.solved old new c.publish-answer.result c.args.pass.now.seen _ c.args.pass.now.own _ (ap (λ (d : Document). d.budget) same ∙ terms) (subst (λ (d : Document). IsPrefix c.args.pass.now.seen d.history) (sym same) begins) c.publish-answer.ensures.legal_before c.publish-answer.ensures.legal c.publish-answer.ensures.short answer all owned

pub returns-clause-committed : goal.returns-clause-committed
returns-clause-committed g c = let old : Document = c.value.result.now.book in let new : Document = c.publish-answer.new.self in
    let mine : c.pass.inside.who ≡ c.args.pass.now.who = search rules in
    let answer : IsPublished old new c.args.pass.now.who c.args.line c.args.solved c.publish-answer.result = subst (λ (w : ℕ). IsPublished old new w c.args.line c.args.solved c.publish-answer.result) mine c.publish-answer.ensures.answer in
    let same : old ≡ c.take-turn.result.book = ap (λ (s : Shelf). s.book) c.value.ensures.value in
    let here : old.history ≡ c.take-turn.result.book.history = ap (λ (d : Document). d.history) same in
    let all : c.give.new.seat.seen ≡ new.history = elim c.if-is_published.branch [ then-is_published w ↦ search rules | else-is_published w ↦ let handed_back : is_published c.publish-answer.result ≡ false = search rules in let stays = published_stays old new c.args.pass.now.who c.args.line c.args.solved c.publish-answer.result handed_back answer in search (rules, stays.0, here) ] in
    subst (λ (h : List Entry). IsPublishedAt c.publish-answer.result (λ place. IsCommitted h place c.args.pass.now.who c.args.line c.args.solved.frame)) (sym all)
    (published_at old new c.args.pass.now.who c.args.line c.args.solved c.publish-answer.result answer)
