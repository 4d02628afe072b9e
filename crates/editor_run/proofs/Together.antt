-- From the lines that were played to the finished document.
use Rattle.std.proofs.Common.{◌≡◌, ◌+◌, ◌≤◌, ℕ, inl, List, [], ◌∷◌, ◌++◌, Bool, false, cond, Option, Some, None, length, refl, ap, sym, ◌∙◌, subst, append_assoc}
use Rattle.std.specs.Option.{option_map}
use Rattle.std.proofs.lemmas.List.{append-nil}
use Rattle.std.specs.List.{AllByRecursion}
use Rattle.std.proofs.Math.Seq.{take-append_seam, drop-append_seam}
use Rattle.script_text.specs.declared.scripts.Line.{Line}
use Rattle.doc_book.specs.declared.entries.Entry.{Entry}
use Rattle.doc_book.specs.declared.entries.Act.TheVariants as act
use Rattle.doc_book.specs.declared.replies.Reply.{Reply}
use Rattle.layout_worker.specs.declared.tallies.Tally.{Tally}
use Rattle.doc_book.specs.Document.{Document}
use Rattle.doc_book.specs.Finished.{IsFinished, IsFinishing}
use Rattle.doc_book.specs.Legal.{IsLegal}
use Rattle.doc_book.specs.Growing.{entry_of}
use Rattle.doc_book.specs.History.{end_place, after_end, is_end}
use Rattle.doc_book.specs.Listing.{session_lines}
use Rattle.doc_book.specs.Replies.{AreRightReplies, OwnEntriesAre, after_of}
use Rattle.doc_book.proofs.Growing.{end_place-push_end, end_place-push_some, after_end-push_end}
use Rattle.editor_run.specs.Finishing.{GrowsByFinishing}
use Rattle.doc_book.proofs.Later.{AreRightReplies-append, OwnEntriesAre-append_run}
use Rattle.session_run.specs.Sessions.{ForSessions}
use Rattle.session_run.proofs.Elements.{all-then}
use Rattle.session_run.proofs.Lists.{ForSessions-then}
use Rattle.concurrent_run.specs.Beside.{IsByCaller}
use Rattle.editor_run.specs.Played.{IsRightHistory, AreOwnEntries, HaveRightReplies, AreCallers, AreInFileOrder, AreTallies}
use Rattle.editor_run.proofs.Counting.{HasReplies, HasPlayed, IsSessionEntry}

-- a history of session entries wasn't ended
pub not_ended_by : (h : List Entry) → AllByRecursion IsSessionEntry h → end_place h ≡ None
not_ended_by [] all = refl
not_ended_by (e ∷ es) all = rest (end_place es) (not_ended_by es all.1) (is_end e) all.0.open_entry
  where
    rest : (o : Option ℕ) → o ≡ None → (b : Bool) → b ≡ false → cond b (Some 0) (option_map (λ k. k + 1) o) ≡ None
    rest o none b open_entry = ap (λ t. cond t (Some 0) (option_map (λ k. k + 1) o)) open_entry ∙ ap (option_map (λ k. k + 1)) none

-- each session's entries are those that its replies name
pub own_whole : (d : Document) (lines : List Line) (lists : List (List Reply)) (tail : List Entry) → HasPlayed d lines lists → AllByRecursion (λ (e : Entry). e.who ≡ 0) tail
    → ForSessions 1 (OwnEntriesAre (d.history ++ tail)) lists
own_whole d lines lists tail p run =
    ForSessions-then (HasReplies d lines) (OwnEntriesAre (d.history ++ tail)) 1 lists (λ t rs le has. OwnEntriesAre-append_run d.history tail t rs le run has.own) p.each

-- each session's replies are right
pub replies_whole : (d : Document) (lines : List Line) (lists : List (List Reply)) (tail : List Entry) → HasPlayed d lines lists
    → ForSessions 1 (λ session replies. AreRightReplies (d.history ++ tail) d.budget session 0 (session_lines session lines) replies) lists
replies_whole d lines lists tail p =
    ForSessions-then (HasReplies d lines) (λ session replies. AreRightReplies (d.history ++ tail) d.budget session 0 (session_lines session lines) replies) 1 lists
    (λ t rs le has. AreRightReplies-append d.history tail d.budget t 0 (session_lines t lines) rs has.right) p.each

pub end_place-append : (h more : List Entry) (k : ℕ) → end_place h ≡ Some k → end_place (h ++ more) ≡ Some k
end_place-append h [] k at = ap end_place (append-nil h) ∙ at
end_place-append h (e ∷ es) k at = ap end_place (sym (append_assoc h (e ∷ []) es)) ∙ end_place-append (h ++ e ∷ []) es k (end_place-push_some h e k at)

-- what holds of each list of replies, whatever its session
all_lists : (P : ℕ → List Reply → Type 0) (Q : List Reply → Type 0) (n : ℕ) (lists : List (List Reply)) → ((t : ℕ) (rs : List Reply) → P t rs → Q rs) → ForSessions n P lists → AllByRecursion Q lists
all_lists P Q n [] step all = tt
all_lists P Q n (rs ∷ more) step all = (step n rs all.0, all_lists P Q (n + 1) more step all.1)

-- sessions alone made entries before End, the run alone from it on, and no reply was given after it
pub callers_whole : (d : Document) (lines : List Line) (lists : List (List Reply)) (more : List Entry) → HasPlayed d lines lists → AllByRecursion IsFinishing more
    → AreCallers 0 (d.history ++ entry_of 0 0 act.End ∷ more) lists
callers_whole d lines lists more p finishing =
    let ending = entry_of 0 0 act.End in
    record {
      place = length d.history;
      ended = ap end_place (sym (append_assoc d.history (ending ∷ []) more)) ∙ end_place-append (d.history ++ ending ∷ []) more (length d.history) (end_place-push_end d.history ending (not_ended_by d.history p.entries) refl);
      before = subst (AllByRecursion (IsByCaller 0)) (sym (take-append_seam d.history (ending ∷ more)))
          (all-then IsSessionEntry _ d.history (λ (e : Entry) one. inl (one.first, one.last)) p.entries);
      run = subst (AllByRecursion (λ (e : Entry). e.who ≡ 0)) (sym (drop-append_seam d.history (ending ∷ more))) (refl, all-then IsFinishing _ more (λ (e : Entry) f. f.who) finishing);
      before_end = all_lists (HasReplies d lines) (AllByRecursion (λ (r : Reply). after_of r ≤ length d.history)) 1 lists (λ t rs has. has.seen) p.each;
    }

-- what follows the lines is by the run alone
pub run_alone_after : (more : List Entry) → AllByRecursion IsFinishing more → AllByRecursion (λ (e : Entry). e.who ≡ 0) (entry_of 0 0 act.End ∷ more)
run_alone_after more finishing = (refl, all-then IsFinishing _ more (λ (e : Entry) f. f.who) finishing)

-- ---- a document that was played, ended and finished

-- the document with End
abbrev pub ended_now : Document → Document
ended_now d = record d { history = d.history ++ entry_of 0 0 act.End ∷ [] }

whole_history : (d0 d1 d2 : Document) → d1 ≡ ended_now d0 → (g : GrowsByFinishing d1 d2) → d2.history ≡ d0.history ++ entry_of 0 0 act.End ∷ g.more
whole_history d0 d1 d2 ended g =
    g.grown ∙ (ap (λ (d : Document). d.history ++ g.more) ended ∙ append_assoc d0.history (entry_of 0 0 act.End ∷ []) g.more)

pub ended_place : (d0 d1 : Document) (lines : List Line) (lists : List (List Reply)) → HasPlayed d0 lines lists → d1 ≡ ended_now d0 → end_place d1.history ≡ Some (length d0.history)
ended_place d0 d1 lines lists p ended = ap (λ (d : Document). end_place d.history) ended ∙ end_place-push_end d0.history (entry_of 0 0 act.End) (not_ended_by d0.history p.entries) refl

pub ended_last : (d0 d1 : Document) (lines : List Line) (lists : List (List Reply)) → HasPlayed d0 lines lists → d1 ≡ ended_now d0 → after_end d1.history ≡ []
ended_last d0 d1 lines lists p ended = ap (λ (d : Document). after_end d.history) ended ∙ after_end-push_end d0.history (entry_of 0 0 act.End) (not_ended_by d0.history p.entries) refl

pub finished_own : (d0 d1 d2 : Document) (lines : List Line) (lists all : List (List Reply)) → HasPlayed d0 lines lists → d1 ≡ ended_now d0 → GrowsByFinishing d1 d2
    → all ≡ lists → AreOwnEntries d2 all
finished_own d0 d1 d2 lines lists all p ended g same =
    subst (λ ls. ForSessions 1 (OwnEntriesAre d2.history) ls) (sym same)
    (subst (λ h. ForSessions 1 (OwnEntriesAre h) lists) (sym (whole_history d0 d1 d2 ended g)) (own_whole d0 lines lists (entry_of 0 0 act.End ∷ g.more) p (run_alone_after g.more g.finishing)))

pub finished_replies : (d0 d1 d2 : Document) (lines : List Line) (lists all : List (List Reply)) → HasPlayed d0 lines lists → d1 ≡ ended_now d0 → GrowsByFinishing d1 d2
    → all ≡ lists → HaveRightReplies d2 lines all
finished_replies d0 d1 d2 lines lists all p ended g same =
    let budget : d2.budget ≡ d0.budget = g.budget ∙ ap (λ (d : Document). d.budget) ended in
    record {
      eight = ap length same ∙ p.eight;
      right = subst (λ ls. ForSessions 1 (λ session replies. AreRightReplies d2.history d2.budget session 0 (session_lines session lines) replies) ls) (sym same)
          (subst (λ b. ForSessions 1 (λ session replies. AreRightReplies d2.history b session 0 (session_lines session lines) replies) lists) (sym budget)
          (subst (λ h. ForSessions 1 (λ session replies. AreRightReplies h d0.budget session 0 (session_lines session lines) replies) lists) (sym (whole_history d0 d1 d2 ended g))
          (replies_whole d0 lines lists (entry_of 0 0 act.End ∷ g.more) p)));
    }

pub finished_callers : (d0 d1 d2 : Document) (lines : List Line) (lists all : List (List Reply)) → HasPlayed d0 lines lists → d1 ≡ ended_now d0 → GrowsByFinishing d1 d2
    → all ≡ lists → AreCallers 0 d2.history all
finished_callers d0 d1 d2 lines lists all p ended g same =
    subst (AreCallers 0 d2.history) (sym same)
    (subst (λ h. AreCallers 0 h lists) (sym (whole_history d0 d1 d2 ended g)) (callers_whole d0 lines lists g.more p g.finishing))

pub finished_history : (budget : ℕ) (d0 d1 d2 : Document) → d0.budget ≡ budget → d1 ≡ ended_now d0 → GrowsByFinishing d1 d2 → IsLegal d2.history d2.budget → IsFinished d2.history
    → IsRightHistory budget d2
finished_history budget d0 d1 d2 is ended g legal finished =
    let same : d2.budget ≡ budget = g.budget ∙ ap (λ (d : Document). d.budget) ended ∙ is in
    record { budget_is = same; legal = subst (λ (b : ℕ). IsLegal d2.history b) same legal; finished = finished }

pub finished_order : (lines : List Line) (lists all : List (List Reply)) → AreInFileOrder lines lists → all ≡ lists → AreInFileOrder lines all
finished_order lines lists all order same = subst (AreInFileOrder lines) (sym same) order

-- without workers there is no tally
pub finished_counts : (budget : ℕ) (d0 d1 d2 : Document) (lines : List Line) (lists : List (List Reply)) (tallies : List Tally) → HasPlayed d0 lines lists → d1 ≡ ended_now d0
    → GrowsByFinishing d1 d2 → tallies ≡ [] → AreTallies budget 0 d2.history tallies
finished_counts budget d0 d1 d2 lines lists tallies p ended g none = subst (AreTallies budget 0 d2.history) (sym none) (record {
  one_each = refl;
  place = length d0.history;
  ended = ap end_place g.grown ∙ end_place-append d1.history g.more (length d0.history) (ended_place d0 d1 lines lists p ended);
  right = tt;
})
