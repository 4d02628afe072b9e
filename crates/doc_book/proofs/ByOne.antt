-- Calls at a document which no one else calls.
use Rattle.std.proofs.Common.{◌≡◌, ℕ, ◌<◌, ◌^◌, List, [], ◌++◌, Bool, true, false, cond, length, refl, ap, sym, ◌∙◌, subst, arith, ◌==◌, inl, inr, Result, Ok, Err}
use Rattle.std.proofs.lemmas.Bool.{false≢true}
use Rattle.std.proofs.lemmas.List.{append-nil}
use Rattle.scene_model.specs.Names.{NameOf}
use Rattle.doc_book.specs.declared.asking.Answer.{Answer}
use Rattle.doc_book.specs.declared.looking.Look.{Look}
use Rattle.doc_book.specs.declared.publishing.Publish.{Publish}
use Rattle.doc_book.specs.declared.publishing.Publish.TheVariants as publish
use Rattle.doc_book.specs.declared.replies.Refused.{Refused}
use Rattle.doc_book.specs.declared.replies.Reply.TheVariants as reply
use Rattle.doc_book.specs.declared.told.Told.{Told}
use Rattle.doc_book.specs.Calls.{IsEntered, IsAsked, IsLooked, IsPublished}
use Rattle.doc_book.specs.Desks.{Called, alone_at}
use Rattle.doc_book.specs.Document.{Document}
use Rattle.doc_book.specs.Events.{Event, Publishes, Said, Replied, Memory, caller_of, place_made}
use Rattle.doc_book.specs.Jobs.{SolvedOf}
use Rattle.doc_book.specs.Legal.{IsLegal}
use Rattle.doc_book.specs.Replies.{own_places}
use Rattle.doc_book.specs.Steps.{IsStep}
use Rattle.doc_book.specs.Turns.{placed, published}
use Rattle.doc_book.proofs.Running.{listed, adds_budget, adds_own}
use Rattle.doc_book.proofs.Stepping.{step_adds}

-- a call that leaves the budget and adds these places to the own ones
alone_called : (IsAnswer : Document → Document → Type 0) (old new : Document) (who : ℕ) (told told' : Told) (loan : ℕ) (places : List ℕ)
    → IsLegal old.history old.budget → IsLegal new.history new.budget → length new.history < 2 ^ 32 → IsAnswer old new
    → new.budget ≡ old.budget → own_places new.history who ≡ own_places old.history who ++ places
    → Called IsAnswer (alone_at old who told loan) (alone_at new who told' loan) places
alone_called IsAnswer old new who told told' loan places legal_before legal short answer budget own = record {
  turned = record {
    before = old.history;
    begins = ([], append-nil old.history);
    legal_before = legal_before;
    legal = subst (IsLegal new.history) budget legal;
    short = short;
    answer = subst (λ (b : ℕ). IsAnswer old (record { history = new.history; budget = b })) budget answer;
    owned = own;
  };
  same = record { who = refl; budget = budget; loan = refl };
}

own_call : (who : ℕ) (call : Event) (places : List ℕ) → caller_of call ≡ who → cond (caller_of call == who) places [] ≡ places
own_call who call places is = by (caller_of call == who) (grind (arith, is))
  where
    by : (b : Bool) → b ≡ true → cond b places [] ≡ places
    by true is = refl
    by false is = absurd (false≢true is)

-- a step that the caller makes
step_called : (IsAnswer : Document → Document → Type 0) (old new : Document) (call : Event) (said : Said) (who : ℕ) (told told' : Told) (loan : ℕ)
    → IsLegal old.history old.budget → IsLegal new.history new.budget → length new.history < 2 ^ 32 → caller_of call ≡ who → IsStep old new call said → IsAnswer old new
    → Called IsAnswer (alone_at old who told loan) (alone_at new who told' loan) (listed (place_made said))
step_called IsAnswer old new call said who told told' loan legal_before legal short by_caller step answer =
    let adds = step_adds old new call said step in
    alone_called IsAnswer old new who told told' loan (listed (place_made said)) legal_before legal short answer (adds_budget old new call (place_made said) adds)
    (adds_own old new call who (place_made said) adds ∙ ap (λ (ps : List ℕ). own_places old.history who ++ ps) (own_call who call (listed (place_made said)) by_caller))

pub entered_alone : (old new : Document) (call : Event) (who : ℕ) (told told' : Told) (loan : ℕ) (r : Result ℕ Refused)
    → IsLegal old.history old.budget → IsLegal new.history new.budget → length new.history < 2 ^ 32 → caller_of call ≡ who → IsEntered old new call r
    → Called (λ o n. IsEntered o n call r) (alone_at old who told loan) (alone_at new who told' loan) (placed r)
entered_alone old new call who told told' loan (Ok place) legal_before legal short by_caller is =
    step_called (λ o n. IsEntered o n call (Ok place)) old new call (Replied (reply.Accepted place)) who told told' loan legal_before legal short by_caller is is
entered_alone old new call who told told' loan (Err r) legal_before legal short by_caller (inl is) =
    step_called (λ o n. IsEntered o n call (Err r)) old new call (Replied (reply.Refused r)) who told told' loan legal_before legal short by_caller is (inl is)
entered_alone old new call who told told' loan (Err r) legal_before legal short by_caller (inr is) =
    step_called (λ o n. IsEntered o n call (Err r)) old new call Memory who told told' loan legal_before legal short by_caller is.0 (inr is)

pub published_alone : (old new : Document) (who line : ℕ) (solved : SolvedOf) (told told' : Told) (loan : ℕ) (r : Publish)
    → IsLegal old.history old.budget → IsLegal new.history new.budget → length new.history < 2 ^ 32 → IsPublished old new who line solved r
    → Called (λ o n. IsPublished o n who line solved r) (alone_at old who told loan) (alone_at new who told' loan) (published r)
published_alone old new who line solved told told' loan (publish.Published place) legal_before legal short is =
    step_called (λ o n. IsPublished o n who line solved (publish.Published place)) old new (Publishes who line solved.job.front) (Replied (reply.Published place)) who told told' loan legal_before legal short refl is.0 is
published_alone old new who line solved told told' loan (publish.Stale front back) legal_before legal short is =
    step_called (λ o n. IsPublished o n who line solved (publish.Stale front back)) old new (Publishes who line solved.job.front) (Replied (reply.Stale front)) who told told' loan legal_before legal short refl is.0 is
published_alone old new who line solved told told' loan (publish.Memory back) legal_before legal short is =
    step_called (λ o n. IsPublished o n who line solved (publish.Memory back)) old new (Publishes who line solved.job.front) Memory who told told' loan legal_before legal short refl is.0 is

-- a call that changes nothing
same_called : (IsAnswer : Document → Type 0) (d : Document) (who : ℕ) (told told' : Told) (loan : ℕ)
    → IsLegal d.history d.budget → length d.history < 2 ^ 32 → IsAnswer d
    → Called (λ o n. IsAnswer o × (n ≡ o)) (alone_at d who told loan) (alone_at d who told' loan) []
same_called IsAnswer d who told told' loan legal short answer =
    alone_called (λ o n. IsAnswer o × (n ≡ o)) d d who told told' loan [] legal legal short (answer, refl) refl (sym (append-nil (own_places d.history who)))

pub asked_alone : (d : Document) (name : NameOf) (who : ℕ) (told : Told) (loan : ℕ) (r : Result Answer Refused)
    → IsLegal d.history d.budget → length d.history < 2 ^ 32 → IsAsked d name r
    → Called (λ o n. IsAsked o name r × (n ≡ o)) (alone_at d who told loan) (alone_at d who told loan) []
asked_alone d name who told loan r legal short is = same_called (λ o. IsAsked o name r) d who told told loan legal short is

pub looked_alone : (d : Document) (who : ℕ) (told told' : Told) (loan : ℕ) (r : Look)
    → IsLegal d.history d.budget → length d.history < 2 ^ 32 → IsLooked d r
    → Called (λ o n. IsLooked o r × (n ≡ o)) (alone_at d who told loan) (alone_at d who told' loan) []
looked_alone d who told told' loan r legal short is = same_called (λ o. IsLooked o r) d who told told' loan legal short is
