-- One line that is played at a desk.
use Rattle.std.proofs.Common.{◌≡◌, ℕ, ◌≤◌, List, [], ◌∷◌, ◌++◌, if◌then◌else◌, Some, None, length, refl, ap, sym, ◌∙◌, subst, arith, append_assoc, inl, inr}
use Rattle.std.specs.Prelude.{Result, Ok, Err, IfOk}
use Rattle.std.proofs.lemmas.List.{append-nil, length-append}
use mathlib.Core.List.{IsPrefix}
use Rattle.units.specs.declared.memory.Memory.{Memory as Want}
use Rattle.edit_rules.specs.declared.edits.Edit.{Edit}
use Rattle.script_text.specs.declared.scripts.Command.{Command}
use Rattle.script_text.specs.declared.scripts.Command.TheVariants as command
use Rattle.script_text.specs.declared.scripts.Line.{Line}
use Rattle.doc_book.specs.declared.entries.Entry.{Entry}
use Rattle.doc_book.specs.declared.entries.Act.TheVariants as act
use Rattle.doc_book.specs.declared.publishing.Publish.{Publish}
use Rattle.doc_book.specs.declared.publishing.Publish.TheVariants as publish
use Rattle.doc_book.specs.declared.replies.Refused.{Refused}
use Rattle.doc_book.specs.declared.replies.Reply.{Reply}
use Rattle.doc_book.specs.declared.replies.Reply.TheVariants as reply
use Rattle.doc_book.specs.declared.told.Told.{Told}
use Rattle.doc_book.specs.Calls.{IsEntered, IsPublished}
use Rattle.doc_book.specs.Desks.{Standing, IsSameDesk, Called}
use Rattle.doc_book.specs.Document.{Document}
use Rattle.doc_book.specs.Events.{Event, Edits, Undoes, Publishes, Replied, Memory}
use Rattle.doc_book.specs.Growing.{Grows, entry_of}
use Rattle.doc_book.specs.Jobs.{SolvedOf}
use Rattle.doc_book.specs.Plays.{IsPlayedLine, IsPlayedAs, IsFresh}
use Rattle.doc_book.specs.Replies.{IsRightReply, made_places, from_of, after_of}
use Rattle.doc_book.specs.Steps.{IsStep, IsPublishStep}
use Rattle.doc_book.specs.Turns.{placed, published, counted, told_publish}
use Rattle.doc_book.proofs.Playing.{after_from, plays_line}
use Rattle.doc_book.proofs.Running.{adds_prefix}
use Rattle.doc_book.proofs.Stepping.{step_adds, grown, publish_right}
use Rattle.session_run.specs.Answers.{IsReplyTo}
use Rattle.session_run.specs.AtDesk.{is_stale, IsKeptAt, IsRepliedAt}

-- ---- prefixes

pub prefix-self : {A : Type 0} (xs : List A) → IsPrefix xs xs
prefix-self xs = ([], append-nil xs)

pub prefix-then : {A : Type 0} (a b c : List A) → IsPrefix a b → IsPrefix b c → IsPrefix a c
prefix-then a b c ab bc = (ab.0 ++ bc.0, sym (append_assoc a ab.0 bc.0) ∙ ap (λ h. h ++ bc.0) ab.1 ∙ bc.1)

pub prefix-length : {A : Type 0} (a b : List A) → IsPrefix a b → length a ≤ length b
prefix-length a b ab = let whole = ap length ab.1 in let parts = length-append a ab.0 in omega (arith, whole, parts)

-- ---- what a call keeps

-- the history of a call at a desk, before and behind
abbrev before_it : {A : Document → Document → Type 0} {old new : Standing} {places : List ℕ} → Called A old new places → Document
before_it {old = old} c = record { history = c.turned.before; budget = old.budget }

abbrev behind_it : {A : Document → Document → Type 0} {old new : Standing} {places : List ℕ} → Called A old new places → Document
behind_it {old = old} {new = new} c = record { history = new.seen; budget = old.budget }

kept_by : (A : Document → Document → Type 0) (old new : Standing) (places : List ℕ) (c : Called A old new places) → IsPrefix c.turned.before new.seen → IsKeptAt old new
kept_by A old new places c grows = record {
  same = c.same;
  begins = prefix-then old.seen c.turned.before new.seen c.turned.begins grows;
  own = (places, sym c.turned.owned);
}

entered_grows : (o n : Document) (call : Event) (answer : Result ℕ Refused) → IsEntered o n call answer → IsPrefix o.history n.history
entered_grows o n call (Ok place) is = adds_prefix o n call (Some place) (step_adds o n call (Replied (reply.Accepted place)) is)
entered_grows o n call (Err r) (inl is) = adds_prefix o n call None (step_adds o n call (Replied (reply.Refused r)) is)
entered_grows o n call (Err r) (inr is) = adds_prefix o n call None (step_adds o n call Memory is.0)

-- a call that enters an entry keeps what was seen
pub entered_kept : (old new : Standing) (call : Event) (answer : Result ℕ Refused) → Called (λ o n. IsEntered o n call answer) old new (placed answer) → IsKeptAt old new
entered_kept old new call answer c =
    kept_by (λ o n. IsEntered o n call answer) old new (placed answer) c (entered_grows (before_it c) (behind_it c) call answer c.turned.answer)

-- so does one that enters nothing
pub same_kept : (A : Document → Type 0) (old new : Standing) → Called (λ o n. A o × (n ≡ o)) old new [] → IsKeptAt old new
same_kept A old new c =
    kept_by (λ o n. A o × (n ≡ o)) old new [] c ([], append-nil c.turned.before ∙ sym (ap (λ (d : Document). d.history) c.turned.answer.1))

published_grows : (o n : Document) (who line : ℕ) (solved : SolvedOf) (answer : Publish) → IsPublished o n who line solved answer → IsPrefix o.history n.history
published_grows o n who line solved (publish.Published place) is =
    adds_prefix o n (Publishes who line solved.job.front) (Some place) (step_adds o n (Publishes who line solved.job.front) (Replied (reply.Published place)) is.0)
published_grows o n who line solved (publish.Stale front back) is =
    adds_prefix o n (Publishes who line solved.job.front) None (step_adds o n (Publishes who line solved.job.front) (Replied (reply.Stale front)) is.0)
published_grows o n who line solved (publish.Memory back) is =
    adds_prefix o n (Publishes who line solved.job.front) None (step_adds o n (Publishes who line solved.job.front) Memory is.0)

-- so does a publication
pub published_kept : (old new : Standing) (who line : ℕ) (solved : SolvedOf) (answer : Publish) → Called (λ o n. IsPublished o n who line solved answer) old new (published answer) → IsKeptAt old new
published_kept old new who line solved answer c =
    kept_by (λ o n. IsPublished o n who line solved answer) old new (published answer) c (published_grows (before_it c) (behind_it c) who line solved answer c.turned.answer)

pub kept-then : (a b c : Standing) → IsKeptAt a b → IsKeptAt b c → IsKeptAt a c
kept-then a b c ab bc = record {
  same = record { who = bc.same.who ∙ ab.same.who; budget = bc.same.budget ∙ ab.same.budget; loan = bc.same.loan ∙ ab.same.loan };
  begins = prefix-then a.seen b.seen c.seen ab.begins bc.begins;
  own = prefix-then a.own b.own c.own ab.own bc.own;
}

pub kept-self : (a : Standing) → IsKeptAt a a
kept-self a = record { same = record { who = refl; budget = refl; loan = refl }; begins = prefix-self a.seen; own = prefix-self a.own }

-- ---- what makes a reply right

-- a reply that is right where more was seen before it is right where less was
pub right_below : (h : List Entry) (budget who less seen : ℕ) (line : Line) (r : Reply) → less ≤ seen → IsRightReply h budget who seen line r → IsRightReply h budget who less line r
right_below h budget who less seen line (reply.Accepted place) le is = is
right_below h budget who less seen line (reply.Published place) le is = is
right_below h budget who less seen line (reply.Refused r) le is = is
right_below h budget who less seen line (reply.Idle front) le is = is
right_below h budget who less seen line (reply.Spent front) le is = is
right_below h budget who less seen line (reply.Stale now) le is =
    (is.0, is.1, (is.2.0, is.2.1, omega (arith, le, is.2.2), is.2.3))
right_below h budget who less seen line (reply.Answer a) le is = is

-- whose line it is doesn't matter, nor its number where the reply names no entry
abbrev line_by : ℕ → Line → Line
line_by session line = record { number = line.number; session = session; command = line.command }

right_by : (h : List Entry) (budget who seen session : ℕ) (line : Line) (r : Reply) → IsRightReply h budget who seen (line_by session line) r → IsRightReply h budget who seen line r
right_by h budget who seen session line (reply.Accepted place) is = is
right_by h budget who seen session line (reply.Published place) is = is
right_by h budget who seen session line (reply.Refused r) is = is
right_by h budget who seen session line (reply.Idle front) is = is
right_by h budget who seen session line (reply.Spent front) is = is
right_by h budget who seen session line (reply.Stale now) is = is
right_by h budget who seen session line (reply.Answer a) is = is

-- a reply that was given at all that the call found, shows no more than stands behind it, and is right
replied_by : (old new : Standing) (line : Line) (r : Reply) (before : List Entry) → IsSameDesk old new → IsPrefix old.seen before
    → from_of r ≡ length before → after_of r ≤ length new.seen → new.own ≡ old.own ++ made_places (r ∷ [])
    → IsRightReply new.seen old.budget old.who (length old.seen) line r
    → new.told.stale ≡ (if is_stale r then counted old.told.stale else old.told.stale) → new.told.job ≡ None → IsRepliedAt old new line r
replied_by old new line r before same begins from after own right stale job =
    let long = prefix-length old.seen before begins in record {
      own = own;
      right = subst (λ (b : ℕ). IsRightReply new.seen b new.who (length old.seen) line r) (sym same.budget)
          (subst (λ (w : ℕ). IsRightReply new.seen old.budget w (length old.seen) line r) (sym same.who) right);
      from = omega (arith, from, long);
      seen = after;
      stale = stale;
      job = job;
    }

fresh_count : (r : Reply) (n : ℕ) → IsFresh r → (if is_stale r then counted n else n) ≡ n
fresh_count (reply.Accepted place) n fresh = refl
fresh_count (reply.Published place) n fresh = refl
fresh_count (reply.Refused r) n fresh = refl
fresh_count (reply.Idle front) n fresh = refl
fresh_count (reply.Spent front) n fresh = refl
fresh_count (reply.Stale now) n fresh = absurd fresh
fresh_count (reply.Answer a) n fresh = refl

-- a line that is one call, which isn't answered by a stale frame
played_at : (old new : Standing) (line : Line) (r : Reply) (before : List Entry) → IsSameDesk old new → IsPrefix old.seen before
    → new.own ≡ old.own ++ made_places (r ∷ []) → new.told.stale ≡ old.told.stale → new.told.job ≡ None
    → IsPlayedLine (record { history = before; budget = old.budget }) (record { history = new.seen; budget = old.budget }) (line_by old.who line) r
    → IsRepliedAt old new line r
played_at old new line r before same begins own stale job played =
    let p = plays_line (record { history = before; budget = old.budget }) (record { history = new.seen; budget = old.budget }) (line_by old.who line) r played in
    let shown = after_from r in
    replied_by old new line r before same begins p.from (omega (arith, shown, p.longer, p.from)) own
    (right_by new.seen old.budget old.who (length old.seen) old.who line r (p.right (length old.seen)))
    (stale ∙ sym (fresh_count r old.told.stale p.fresh)) job

-- ---- edits and undos

entered_replied : (old new : Standing) (line : Line) (call : Event) (answer : Result ℕ Refused) (made : Result Reply Want)
    → ((o n : Document) (r : Reply) → IsStep o n call (Replied r) → IsPlayedLine o n (line_by old.who line) r)
    → old.told.job ≡ None → new.told ≡ old.told → Called (λ o n. IsEntered o n call answer) old new (placed answer) → IsReplyTo answer made
    → IfOk made (λ r. IsRepliedAt old new line r)
entered_replied old new line call (Ok place) made as_line job told c is =
    subst (λ (m : Result Reply Want). IfOk m (λ r. IsRepliedAt old new line r)) (sym is)
    (played_at old new line (reply.Accepted place) c.turned.before c.same c.turned.begins c.turned.owned
    (ap (λ (t : Told). t.stale) told) (ap (λ (t : Told). t.job) told ∙ job) (as_line (before_it c) (behind_it c) (reply.Accepted place) c.turned.answer))
entered_replied old new line call (Err r) (Err memory) as_line job told c is = tt
entered_replied old new line call (Err r) (Ok made) as_line job told c is =
    subst (λ (m : Reply). IsRepliedAt old new line m) (sym is.1)
    (played_at old new line (reply.Refused r) c.turned.before c.same c.turned.begins c.turned.owned
    (ap (λ (t : Told). t.stale) told) (ap (λ (t : Told). t.job) told ∙ job) (as_line (before_it c) (behind_it c) (reply.Refused r) (step c.turned.answer)))
  where
    step : IsEntered (before_it c) (behind_it c) call (Err r) → IsStep (before_it c) (behind_it c) call (Replied (reply.Refused r))
    step (inl by_cause) = by_cause
    step (inr wanting) = absurd (is.0 (ap (λ (x : Refused). x.refusal) wanting.1))

pub edit_replied : (old new : Standing) (line : Line) (e : Edit) (answer : Result ℕ Refused) (made : Result Reply Want) → line.command ≡ command.Edit e
    → old.told.job ≡ None → new.told ≡ old.told → Called (λ o n. IsEntered o n (Edits old.who line.number e) answer) old new (placed answer) → IsReplyTo answer made
    → IfOk made (λ r. IsRepliedAt old new line r)
edit_replied old new line e answer made is =
    entered_replied old new line (Edits old.who line.number e) answer made
    (λ o n r step. subst (λ (c : Command). IsPlayedAs o n (line_by old.who line) r c) (sym is) step)

pub undo_replied : (old new : Standing) (line : Line) (answer : Result ℕ Refused) (made : Result Reply Want) → line.command ≡ command.Undo
    → old.told.job ≡ None → new.told ≡ old.told → Called (λ o n. IsEntered o n (Undoes old.who line.number) answer) old new (placed answer) → IsReplyTo answer made
    → IfOk made (λ r. IsRepliedAt old new line r)
undo_replied old new line answer made is =
    entered_replied old new line (Undoes old.who line.number) answer made
    (λ o n r step. subst (λ (c : Command). IsPlayedAs o n (line_by old.who line) r c) (sym is) step)

-- ---- a look before it

-- the reply after a call that entered nothing, if there is one
pub replied_after : (A : Document → Type 0) (a b c : Standing) (line : Line) (made : Result Reply Want) → Called (λ o n. A o × (n ≡ o)) a b [] → b.told.stale ≡ a.told.stale
    → IfOk made (λ r. IsRepliedAt b c line r) → IfOk made (λ r. IsRepliedAt a c line r)
replied_after A a b c line (Err wanting) call stale next = tt
replied_after A a b c line (Ok r) call stale next =
    let kept = same_kept A a b call in
    let long = prefix-length a.seen b.seen kept.begins in record {
      own = next.own ∙ ap (λ (ps : List ℕ). ps ++ made_places (r ∷ [])) (call.turned.owned ∙ append-nil a.own);
      right = right_below c.seen c.budget c.who (length a.seen) (length b.seen) line r long next.right;
      from = omega (arith, long, next.from);
      seen = next.seen;
      stale = next.stale ∙ ap (λ (n : ℕ). if is_stale r then counted n else n) stale;
      job = next.job;
    }

-- ---- publications

-- the line that a publication is read as
right_published : (o n : Document) (who front seen : ℕ) (line : Line) (r : Reply) → line.command ≡ command.Layout → seen ≡ front
    → IsPublishStep o n who line.number front (Replied r) → IsRightReply n.history o.budget who seen line r
right_published o n who front seen line r is same step =
    right_by n.history o.budget who seen who line r
    (subst (λ (k : Command). IsRightReply n.history o.budget who seen (record { number = line.number; session = who; command = k }) r) (sym is)
    (subst (λ (s : ℕ). IsRightReply n.history o.budget who s (record { number = line.number; session = who; command = command.Layout }) r) (sym same)
    (publish_right o n who line.number front (Replied r) step)))

pub published_replied : (old new : Standing) (line : Line) (solved : SolvedOf) (place : ℕ) → line.command ≡ command.Layout → length old.seen ≡ solved.job.front
    → new.told ≡ told_publish old.told (publish.Published place) → Called (λ o n. IsPublished o n old.who line.number solved (publish.Published place)) old new (place ∷ [])
    → IsRepliedAt old new line (reply.Published place)
published_replied old new line solved place is all told c =
    let grows : Grows (before_it c) (behind_it c) place (entry_of old.who line.number (act.Frame solved.frame)) = c.turned.answer.1 in
    let longer = ap length (grown (before_it c) (behind_it c) place (entry_of old.who line.number (act.Frame solved.frame)) grows) in
    let one = length-append c.turned.before (entry_of old.who line.number (act.Frame solved.frame) ∷ []) in
    replied_by old new line (reply.Published place) c.turned.before c.same c.turned.begins grows.place_is (omega (arith, grows.place_is, longer, one)) c.turned.owned
    (right_published (before_it c) (behind_it c) old.who solved.job.front (length old.seen) line (reply.Published place) is all c.turned.answer.0)
    (ap (λ (t : Told). t.stale) told) (ap (λ (t : Told). t.job) told)

pub stale_replied : (old new : Standing) (line : Line) (solved back : SolvedOf) (front : ℕ) → line.command ≡ command.Layout → length old.seen ≡ solved.job.front
    → new.told ≡ told_publish old.told (publish.Stale front back) → Called (λ o n. IsPublished o n old.who line.number solved (publish.Stale front back)) old new []
    → IsRepliedAt old new line (reply.Stale front)
stale_replied old new line solved back front is all told c =
    let stays = c.turned.answer.0.2 in
    let same = ap (λ (d : Document). length d.history) stays.same in
    replied_by old new line (reply.Stale front) c.turned.before c.same c.turned.begins stays.front_is (omega (arith, stays.front_is, same)) c.turned.owned
    (right_published (before_it c) (behind_it c) old.who solved.job.front (length old.seen) line (reply.Stale front) is all c.turned.answer.0)
    (ap (λ (t : Told). t.stale) told) (ap (λ (t : Told). t.job) told)
