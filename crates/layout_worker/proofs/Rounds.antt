-- Rounds of a worker.
use Rattle.std.proofs.Common.{◌≡◌, ℕ, ◌≤◌, List, [], ◌∷◌, ◌++◌, None, length, take, refl, ap, sym, ◌∙◌, subst, arith, append_assoc}
use Rattle.std.specs.List.{AllByRecursion}
use Rattle.std.proofs.lemmas.List.{append-nil, length-append}
use Rattle.std.proofs.lemmas.Option.{slice_get_within}
use mathlib.Core.List.{IsPrefix}
use Rattle.doc_book.specs.declared.entries.Entry.{Entry}
use Rattle.doc_book.specs.declared.entries.Act.TheVariants as act
use Rattle.doc_book.specs.declared.looking.Look.{Look}
use Rattle.doc_book.specs.declared.publishing.Publish.TheVariants as publish
use Rattle.doc_book.specs.declared.replies.Reply.TheVariants as reply
use Rattle.doc_book.specs.Calls.{IsLooked, IsPublished}
use Rattle.doc_book.specs.Desks.{Standing, Called}
use Rattle.doc_book.specs.Document.{Document}
use Rattle.doc_book.specs.Events.{Replied}
use Rattle.doc_book.specs.Growing.{Grows, entry_of}
use Rattle.doc_book.specs.History.{end_place}
use Rattle.doc_book.specs.Jobs.{SolvedOf}
use Rattle.doc_book.specs.Replies.{IsEntryAt, IsFrameAct}
use Rattle.doc_book.specs.Steps.{IsPublishStep}
use Rattle.doc_book.specs.Turns.{counted}
use Rattle.doc_book.proofs.Later.{slice_get-append, front-same}
use Rattle.doc_book.proofs.Running.{IsPrefix-trans}
use Rattle.doc_book.proofs.Stepping.{grown, before_entered, publish_right}
use Rattle.layout_worker.specs.Working.{IsWorkFrame, IsWorked, Tells, IsRound}
use Rattle.layout_worker.specs.declared.working.Round.{Round}
use Rattle.layout_worker.specs.declared.working.Round.TheVariants as round

-- ---- frames of a worker, as more entries come after them

frames-append : (h more : List Entry) (who : ℕ) (places : List ℕ) → AllByRecursion (IsWorkFrame h who) places → AllByRecursion (IsWorkFrame (h ++ more) who) places
frames-append h more who [] all = tt
frames-append h more who (p ∷ ps) all =
    let at : IsEntryAt h p who 0 IsFrameAct = all.0.0 in
    let within = slice_get_within h p at.0 at.1 in (
      ((at.0, slice_get-append h more p at.0 at.1, at.2, at.3, at.4), subst (λ (t : List Entry). end_place t ≡ None) (front-same h more p (omega (arith, within))) all.0.1),
      frames-append h more who ps all.1,
    )

frames-both : (h : List Entry) (who : ℕ) (ps qs : List ℕ) → AllByRecursion (IsWorkFrame h who) ps → AllByRecursion (IsWorkFrame h who) qs → AllByRecursion (IsWorkFrame h who) (ps ++ qs)
frames-both h who [] qs left right = right
frames-both h who (p ∷ ps) qs left right = (left.0, frames-both h who ps qs left.1 right)

longer : (xs ys : List Entry) → IsPrefix xs ys → length xs ≤ length ys
longer xs ys p = let whole = ap length p.1 in let parts = length-append xs p.0 in omega (arith, whole, parts)

-- ---- what a worker has made

pub worked-none : (s : Standing) → IsWorked s s []
worked-none s = record {
  same = record { who = refl; budget = refl; loan = refl };
  begins = ([], append-nil s.seen);
  own = sym (append-nil s.own);
  frames = tt;
  grew = omega arith;
}

pub worked-then : (a b c : Standing) (ms ns : List ℕ) → IsWorked a b ms → IsWorked b c ns → IsWorked a c (ms ++ ns)
worked-then a b c ms ns ab bc =
    let later : AllByRecursion (IsWorkFrame c.seen b.who) ms =
    subst (λ (h : List Entry). AllByRecursion (IsWorkFrame h b.who) ms) bc.begins.1 (frames-append b.seen bc.begins.0 b.who ms ab.frames) in
    let older : AllByRecursion (IsWorkFrame c.seen c.who) ms = subst (λ (w : ℕ). AllByRecursion (IsWorkFrame c.seen w) ms) (sym bc.same.who) later in
    let count = length-append ms ns in record {
      same = record { who = bc.same.who ∙ ab.same.who; budget = bc.same.budget ∙ ab.same.budget; loan = bc.same.loan ∙ ab.same.loan };
      begins = IsPrefix-trans a.seen b.seen c.seen ab.begins bc.begins;
      own = bc.own ∙ ap (λ (ps : List ℕ). ps ++ ns) ab.own ∙ append_assoc a.own ms ns;
      frames = frames-both c.seen c.who ms ns older bc.frames;
      grew = omega (arith, ab.grew, bc.grew, count);
    }

-- a call that enters nothing
worked-same : (A : Document → Document → Type 0) (old new : Standing) (c : Called A old new []) → new.seen ≡ c.turned.before → IsWorked old new []
worked-same A old new c same =
    let begins : IsPrefix old.seen new.seen = subst (IsPrefix old.seen) (sym same) c.turned.begins in
    let long = longer old.seen new.seen begins in
    record { same = c.same; begins = begins; own = c.turned.owned; frames = tt; grew = omega (arith, long) }

pub worked-looked : (old new : Standing) (l : Look) → Called (λ o n. IsLooked o l × (n ≡ o)) old new [] → IsWorked old new []
worked-looked old new l c = worked-same (λ o n. IsLooked o l × (n ≡ o)) old new c (ap (λ (d : Document). d.history) c.turned.answer.1)

pub worked-stale : (old new : Standing) (who line : ℕ) (solved back : SolvedOf) (front : ℕ)
    → Called (λ o n. IsPublished o n who line solved (publish.Stale front back)) old new [] → IsWorked old new []
worked-stale old new who line solved back front c =
    worked-same (λ o n. IsPublished o n who line solved (publish.Stale front back)) old new c (ap (λ (d : Document). d.history) c.turned.answer.0.2.same)

pub worked-memory : (old new : Standing) (who line : ℕ) (solved back : SolvedOf)
    → Called (λ o n. IsPublished o n who line solved (publish.Memory back)) old new [] → IsWorked old new []
worked-memory old new who line solved back c =
    worked-same (λ o n. IsPublished o n who line solved (publish.Memory back)) old new c (ap (λ (d : Document). d.history) c.turned.answer.0.2)

-- a frame was published with line 0: End doesn't stand where a look finds one to make
pub worked-published : (old new : Standing) (solved : SolvedOf) (place : ℕ)
    → Called (λ o n. IsPublished o n old.who 0 solved (publish.Published place)) old new (place ∷ []) → IsWorked old new (place ∷ [])
worked-published old new solved place c =
    let o : Document = record { history = c.turned.before; budget = old.budget } in
    let n : Document = record { history = new.seen; budget = old.budget } in
    let entry : Entry = entry_of old.who 0 (act.Frame solved.frame) in
    let step : IsPublishStep o n old.who 0 solved.job.front (Replied (reply.Published place)) = c.turned.answer.0 in
    let grows : Grows o n place entry = c.turned.answer.1 in
    let whole = ap length (grown o n place entry grows) in
    let one = length-append c.turned.before (entry ∷ []) in
    let long = longer old.seen c.turned.before c.turned.begins in
    let at : IsEntryAt new.seen place old.who 0 IsFrameAct = (publish_right o n old.who 0 solved.job.front (Replied (reply.Published place)) step).1 in
    let unended : end_place (take place new.seen) ≡ None = subst (λ (h : List Entry). end_place h ≡ None) (before_entered o n place entry grows) step.1.0 in
    record {
      same = c.same;
      begins = IsPrefix-trans old.seen c.turned.before new.seen c.turned.begins (entry ∷ [], sym (grown o n place entry grows));
      own = c.turned.owned;
      frames = (subst (λ (w : ℕ). IsWorkFrame new.seen w place) (sym c.same.who) (at, unended), tt);
      grew = omega (arith, long, whole, one);
    }

-- ---- rounds

tells-after : (a b c : Standing) (stale idle stale' idle' : ℕ) → stale ≡ stale' → idle ≡ idle' → Tells c stale idle → Tells c stale' idle'
tells-after a b c stale idle stale' idle' s i tells = record { stale_is = tells.stale_is ∙ s; idle_is = tells.idle_is ∙ i }

-- a round behind a call that enters nothing, and that tells of neither stale frames nor idle looks
pub round-after : (a b c : Standing) (r : Round) → IsWorked a b [] → b.told.stale ≡ a.told.stale → b.told.idle ≡ a.told.idle → IsRound b c r → IsRound a c r
round-after a b c round.Published same stale idle is =
    ((is.0.0, worked-then a b c [] (is.0.0 ∷ []) same is.0.1), tells-after a b c _ _ _ _ stale idle is.1, is.2, is.3)
round-after a b c round.Stale same stale idle is =
    (worked-then a b c [] [] same is.0, tells-after a b c _ _ _ _ (ap counted stale) idle is.1, is.2)
round-after a b c round.Idle same stale idle is =
    (worked-then a b c [] [] same is.0, tells-after a b c _ _ _ _ stale (ap counted idle) is.1, is.2)
round-after a b c (round.Last l) same stale idle is =
    (worked-then a b c [] [] same is.0, tells-after a b c _ _ _ _ stale idle is.1, is.2)
