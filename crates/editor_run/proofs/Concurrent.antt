-- From a run of sessions beside workers to the finished document.
use Rattle.std.proofs.Common.{◌≡◌, ◌≢◌, ◌+◌, ◌≤◌, ℕ, zero, suc, List, [], ◌∷◌, ◌++◌, Bool, true, false, cond, Option, Some, None, length, refl, ap, sym, ◌∙◌, subst, arith}
use Rattle.std.specs.Prelude.{drop, slice_get, take}
use Rattle.std.specs.List.{AllByRecursion}
use Rattle.std.specs.Option.{option_map}
use Rattle.std.proofs.lemmas.List.{append-nil, take-append-le}
use Rattle.std.proofs.lemmas.List.Elements.{filter-append}
use Rattle.script_text.specs.declared.scripts.Line.{Line}
use Rattle.doc_book.specs.declared.entries.Entry.{Entry}
use Rattle.doc_book.specs.declared.replies.Reply.{Reply}
use Rattle.doc_book.specs.Document.{Document}
use Rattle.doc_book.specs.Finished.{IsFinished, IsFinishing}
use Rattle.doc_book.specs.History.{end_place, after_end, is_end}
use Rattle.doc_book.specs.Legal.{IsLegal}
use Rattle.doc_book.specs.Listing.{session_lines}
use Rattle.doc_book.specs.Replies.{AreRightReplies, OwnEntriesAre, own_entries}
use Rattle.doc_book.proofs.Later.{AreRightReplies-append, OwnEntriesAre-append_run, own_entries-others}
use Rattle.session_run.specs.Sessions.{ForSessions}
use Rattle.session_run.proofs.Elements.{all-then}
use Rattle.session_run.proofs.Lists.{ForSessions-then}
use Rattle.layout_worker.specs.declared.tallies.Tally.{Tally}
use Rattle.concurrent_run.specs.Beside.{ForWorkers, IsByCaller, IsRightLast, IsRightTally, IsRunBeside, first_worker}
use Rattle.editor_run.specs.Finishing.{GrowsByFinishing}
use Rattle.editor_run.specs.Played.{AreOwnEntries, HaveRightReplies, AreCallers, IsPlayedToEnd}
use Rattle.editor_run.proofs.Together.{end_place-append}

none≢some : (k : ℕ) → None ≡ Some k → ⊥
none≢some k e = cc

-- where End is the last entry, none follows it
pub last_ended : (h : List Entry) (k : ℕ) → end_place h ≡ Some k → k + 1 ≡ length h → after_end h ≡ []
last_ended [] k at last = absurd (none≢some k at)
last_ended (e ∷ es) k at last = by (is_end e) at (λ j there. last_ended es j there)
  where
    empty : (es : List Entry) → 0 ≡ length es → es ≡ []
    empty [] none = refl
    empty (x ∷ xs) none = absurd (omega (arith, none))

    here : (k : ℕ) → Some 0 ≡ Some k → 0 ≡ k
    here k e = cc

    further : (o : Option ℕ) → option_map (λ j. j + 1) o ≡ Some k → ((j : ℕ) → o ≡ Some j → j + 1 ≡ length es → after_end es ≡ []) → after_end es ≡ []
    further None at rest = absurd (none≢some k at)
    further (Some j) at rest = let same : j + 1 ≡ k = cc in rest j refl (omega (arith, same, last))

    by : (b : Bool) → cond b (Some 0) (option_map (λ j. j + 1) (end_place es)) ≡ Some k → ((j : ℕ) → end_place es ≡ Some j → j + 1 ≡ length es → after_end es ≡ [])
        → cond b es (after_end es) ≡ []
    by true at rest = empty es (omega (arith, here k at, last))
    by false at rest = further (end_place es) at rest

-- what holds of the last element and of each of those added holds of each from the last one on
from_last : {A : Type 0} (P : A → Type 0) (xs more : List A) (k : ℕ) (x : A) → slice_get xs k ≡ Some x → k + 1 ≡ length xs → P x → AllByRecursion P more
    → AllByRecursion P (drop k (xs ++ more))
from_last P [] more k x at last this all = absurd (omega (arith, last))
from_last P (y ∷ []) more zero x at last this all = let same : y ≡ x = cc in (subst P (sym same) this, all)
from_last P (y ∷ z ∷ zs) more zero x at last this all = absurd (omega (arith, last))
from_last P (y ∷ ys) more (suc k) x at last this all = from_last P ys more k x at (omega (arith, last)) this all

-- what holds for each worker, and what follows from it
ForWorkers-then : (P Q : ℕ → Tally → Type 0) (n : ℕ) (tallies : List Tally) → ((worker : ℕ) (t : Tally) → n ≤ worker → P worker t → Q worker t) → ForWorkers n P tallies → ForWorkers n Q tallies
ForWorkers-then P Q n [] step all = tt
ForWorkers-then P Q n (t ∷ more) step all = (step n t (omega arith) all.0, ForWorkers-then P Q (n + 1) more (λ worker x le p. step worker x (omega (arith, le)) p) all.1)

-- the entries of a caller but the run stay as the run makes further ones
own_kept : (h more : List Entry) (who : ℕ) → 1 ≤ who → AllByRecursion (λ (e : Entry). e.who ≡ 0) more → own_entries (h ++ more) who ≡ own_entries h who
own_kept h more who other run =
    let split : own_entries (h ++ more) who ≡ own_entries h who ++ own_entries more who = filter-append _ h more in
    split ∙ ap (λ (es : List Entry). own_entries h who ++ es) (own_entries-others more who (others more run)) ∙ append-nil (own_entries h who)
  where
    others : (es : List Entry) → AllByRecursion (λ (e : Entry). e.who ≡ 0) es → AllByRecursion (λ (e : Entry). e.who ≢ who) es
    others [] of = tt
    others (e ∷ es) of = ((λ same. omega (arith, of.0, same, other)), others es of.1)

-- what a run beside workers tells of a session
abbrev IsSessions : List Line → List Entry → ℕ → ℕ → List Reply → Type 0
IsSessions script h frames session rs = AreRightReplies h frames session 0 (session_lines session script) rs × OwnEntriesAre h session rs

module _ (frames workers : ℕ) (script : List Line) (d1 d2 : Document) (lists : List (List Reply)) (tallies : List Tally)
    (beside : IsRunBeside frames workers script d1 lists tallies) (grown : GrowsByFinishing d1 d2) where
  finishing : AllByRecursion (λ (e : Entry). e.who ≡ 0) grown.more
  finishing = all-then IsFinishing _ grown.more (λ (e : Entry) f. f.who) grown.finishing

  still_ended : end_place d2.history ≡ Some beside.place
  still_ended = ap end_place grown.grown ∙ end_place-append d1.history grown.more beside.place beside.ended

  before_kept : take beside.place d2.history ≡ take beside.place d1.history
  before_kept = ap (take beside.place) grown.grown ∙ take-append-le beside.place d1.history grown.more (omega (arith, beside.last))

  own_entries_kept : AreOwnEntries d2 lists
  own_entries_kept =
      subst (λ h. ForSessions 1 (OwnEntriesAre h) lists) (sym grown.grown)
      (ForSessions-then (IsSessions script d1.history frames) (OwnEntriesAre (d1.history ++ grown.more)) 1 lists (λ t rs le both. OwnEntriesAre-append_run d1.history grown.more t rs le finishing both.1) beside.each)

  right_kept : HaveRightReplies d2 script lists
  right_kept = record {
    eight = beside.eight;
    right = subst (λ b. ForSessions 1 (λ session replies. AreRightReplies d2.history b session 0 (session_lines session script) replies) lists) (sym (grown.budget ∙ beside.budget))
        (subst (λ h. ForSessions 1 (λ session replies. AreRightReplies h frames session 0 (session_lines session script) replies) lists) (sym grown.grown)
        (ForSessions-then (IsSessions script d1.history frames) (λ session replies. AreRightReplies (d1.history ++ grown.more) frames session 0 (session_lines session script) replies) 1 lists
        (λ t rs le both. AreRightReplies-append d1.history grown.more frames t 0 (session_lines t script) rs both.0) beside.each));
  }

  callers_kept : AreCallers workers d2.history lists
  callers_kept = record {
    place = beside.place;
    ended = still_ended;
    before = subst (AllByRecursion (IsByCaller workers)) (sym before_kept) beside.callers;
    run = subst (λ h. AllByRecursion (λ (e : Entry). e.who ≡ 0) (drop beside.place h)) (sym grown.grown)
        (from_last (λ (e : Entry). e.who ≡ 0) d1.history grown.more beside.place beside.ending.0 beside.ending.1 beside.last beside.ending.2 finishing);
    before_end = beside.before_end;
  }

  tally_kept : (worker : ℕ) (t : Tally) → first_worker ≤ worker → IsRightTally d1.history frames beside.place worker t → IsRightTally d2.history frames beside.place worker t
  tally_kept worker t le right = record {
    published = right.published ∙ sym (ap length (ap (λ h. own_entries h worker) grown.grown ∙ own_kept d1.history grown.more worker (omega (arith, le)) finishing));
    last = subst (λ before. IsRightLast before frames t.last) (sym before_kept) right.last;
  }

  -- the finished document is what sessions, workers and the run made of it
  pub beside_to_end : 1 ≤ workers → IsLegal d2.history d2.budget → IsFinished d2.history → IsPlayedToEnd frames workers script d2 lists tallies
  beside_to_end some legal finished = record {
    history = record { budget_is = grown.budget ∙ beside.budget; legal = subst (IsLegal d2.history) (grown.budget ∙ beside.budget) legal; finished = finished };
    own_entries = own_entries_kept;
    replies = right_kept;
    callers = callers_kept;
    order = λ none. absurd (omega (arith, some, none));
    counts = record {
      one_each = beside.one_each;
      place = beside.place;
      ended = still_ended;
      right = ForWorkers-then (IsRightTally d1.history frames beside.place) (IsRightTally d2.history frames beside.place) first_worker tallies tally_kept beside.tallies_right;
    };
  }
