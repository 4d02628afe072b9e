use Rattle.std.proofs.Common.{rules, ap, sym, subst, ◌∙◌, ◌≡◌, ◌∷◌, ◌++◌, [], ℕ, List, length}
use mathlib.Core.List.{IsPrefix}
use Rattle.doc_book.specs.declared.entries.Act.TheVariants as act
use Rattle.doc_book.specs.declared.entries.Entry.{Entry}
use Rattle.doc_book.specs.Document.{Document}
use Rattle.doc_book.specs.Events.{Ends}
use Rattle.doc_book.specs.Growing.{entry_of}
use Rattle.doc_book.specs.Turns.{placed}
use Rattle.shared_book.specs.declared.shelf.Shelf.{Shelf}
use Rattle.shared_book.proofs.Owning.{kept_same, kept_added, end_by}
use Rattle.shared_book.proofs.Turning.{turned_entered}
use Rattle.shared_book.proofs.shared.SharedBook.end.Goals.{then-is_ok, else-is_ok}
use Rattle.shared_book.proofs.shared.SharedBook.end.Goals as goal

pub invariant_of-pass : goal.invariant_of-pass
invariant_of-pass g c = let who : ℕ = c.pass.inside.who in let seen : List Entry = c.pass.inside.seat.seen in let own : List ℕ = c.pass.inside.seat.own in let list : List Entry = c.take-turn.result.book.history in (
  search rules,
  elim c.if-is_ok.branch [
    | then-is_ok w ↦ let i : c.if-is_ok.pass-inside.who ≡ who = search rules in
        let s : c.give.new.seat.seen ≡ list ++ entry_of 0 0 act.End ∷ [] = search rules in
        let o : c.give.new.seat.own ≡ own ++ length list ∷ [] = search rules in
        rw i (kept_added who seen list c.give.new.seat.seen own c.give.new.seat.own (entry_of 0 0 act.End) (end_by who) c.take-turn.ensures.begins c.pass.invariant.1 s o)
    | else-is_ok w ↦ let i : c.if-is_ok.pass-inside.who ≡ who = search rules in
        let s : c.give.new.seat.seen ≡ list = search rules in
        let o : c.give.new.seat.own ≡ own = search rules in
        rw i (kept_same who seen list c.give.new.seat.seen own c.give.new.seat.own c.take-turn.ensures.begins c.pass.invariant.1 s o)
  ],
)

pub commit-requires-clause-entry : goal.commit-requires-clause-entry
commit-requires-clause-entry g c = (entry_of 0 0 act.End, search rules)

pub returns-clause-turn : goal.returns-clause-turn
returns-clause-turn g c = let old : Document = c.value.result.now.book in let new : Document = c.end-answer.new.self in
    let same : old ≡ c.take-turn.result.book = ap (λ (s : Shelf). s.book) c.value.ensures.value in
    let begins : IsPrefix c.args.pass.now.seen c.take-turn.result.book.history = search rules in
    let terms : c.take-turn.result.book.budget ≡ c.args.self.now.terms.frames = search rules in
    let all : c.give.new.seat.seen ≡ new.history = elim c.if-is_ok.branch [ then-is_ok w ↦ search rules | else-is_ok w ↦ search rules ] in
    let owned : c.give.new.seat.own ≡ c.args.pass.now.own ++ placed c.end-answer.result = elim c.if-is_ok.branch [ then-is_ok w ↦ search rules | else-is_ok w ↦ search rules ] in
    turned_entered c.args.self.now.terms.frames Ends old new c.end-answer.result c.args.pass.now.seen _ c.args.pass.now.own _ (ap (λ (d : Document). d.budget) same ∙ terms) (subst (λ (d : Document). IsPrefix c.args.pass.now.seen d.history) (sym same) begins) c.end-answer.ensures.legal_before c.end-answer.ensures.legal c.end-answer.ensures.short c.end-answer.ensures.answer all owned
