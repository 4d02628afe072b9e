-- One turn at a shared book, from the answer of its book.
use Rattle.std.proofs.Common.{◌≡◌, ℕ, ◌<◌, ◌^◌, List, [], ◌∷◌, ◌++◌, true, false, length, refl, ap, sym, ◌∙◌, subst, inl, inr, Result, Ok, Err}
use mathlib.Core.List.{IsPrefix}
use Rattle.scene_model.specs.Diagram.{Diagram}
use Rattle.frame_store.specs.declared.places.Places.{Places}
use Rattle.doc_book.specs.declared.entries.Act.TheVariants as act
use Rattle.doc_book.specs.declared.entries.Entry.{Entry}
use Rattle.doc_book.specs.declared.publishing.Publish.{Publish}
use Rattle.doc_book.specs.declared.publishing.Publish.TheVariants as publish
use Rattle.doc_book.specs.declared.replies.Refused.{Refused}
use Rattle.doc_book.specs.declared.replies.Reply.TheVariants as reply
use Rattle.doc_book.specs.Calls.{IsEntered, IsPublished}
use Rattle.doc_book.specs.Document.{Document}
use Rattle.doc_book.specs.Events.{Event, Publishes, Said, Replied, Memory, place_made}
use Rattle.doc_book.specs.Growing.{entry_of}
use Rattle.doc_book.specs.Jobs.{IsJobOf, SolvedOf}
use Rattle.doc_book.specs.Legal.{IsLegal}
use Rattle.doc_book.specs.Steps.{IsStep}
use Rattle.doc_book.specs.Turns.{Turned, placed, published, is_published}
use Rattle.doc_book.proofs.Jobs.{IsJobOf-append}
use Rattle.doc_book.proofs.Running.{adds_budget}
use Rattle.doc_book.proofs.Stepping.{step_adds}

step_budget : (old new : Document) (call : Event) (said : Said) → IsStep old new call said → new.budget ≡ old.budget
step_budget old new call said is = adds_budget old new call (place_made said) (step_adds old new call said is)

entered_budget : (old new : Document) (call : Event) (r : Result ℕ Refused) → IsEntered old new call r → new.budget ≡ old.budget
entered_budget old new call (Ok place) is = step_budget old new call (Replied (reply.Accepted place)) is
entered_budget old new call (Err r) (inl is) = step_budget old new call (Replied (reply.Refused r)) is
entered_budget old new call (Err r) (inr is) = step_budget old new call Memory is.0

pub published_budget : (old new : Document) (who line : ℕ) (solved : SolvedOf) (r : Publish) → IsPublished old new who line solved r → new.budget ≡ old.budget
published_budget old new who line solved (publish.Published place) is = step_budget old new (Publishes who line solved.job.front) (Replied (reply.Published place)) is.0
published_budget old new who line solved (publish.Stale front back) is = step_budget old new (Publishes who line solved.job.front) (Replied (reply.Stale front)) is.0
published_budget old new who line solved (publish.Memory back) is = step_budget old new (Publishes who line solved.job.front) Memory is.0

turned : (budget : ℕ) (IsAnswer : Document → Document → Type 0) (old new : Document) (seen seen' : List Entry) (own own' places : List ℕ)
    → old.budget ≡ budget → IsPrefix seen old.history → IsLegal old.history old.budget → IsLegal new.history new.budget → length new.history < 2 ^ 32
    → IsAnswer old new → new.budget ≡ old.budget → seen' ≡ new.history → own' ≡ own ++ places
    → Turned budget IsAnswer seen seen' own own' places
turned budget IsAnswer old new seen seen' own own' places terms begins legal_before legal short answer same all owned =
    let before : Document = record { history = old.history; budget = budget } in
    let first : IsAnswer before new = subst (λ (b : ℕ). IsAnswer (record { history = old.history; budget = b }) new) terms answer in
    let both : IsAnswer before (record { history = new.history; budget = budget }) = subst (λ (b : ℕ). IsAnswer before (record { history = new.history; budget = b })) (same ∙ terms) first in
    record {
      before = old.history;
      begins = begins;
      legal_before = subst (IsLegal old.history) terms legal_before;
      legal = subst (λ (h : List Entry). IsLegal h budget) (sym all) (subst (IsLegal new.history) (same ∙ terms) legal);
      short = subst (λ (h : List Entry). length h < 2 ^ 32) (sym all) short;
      answer = subst (λ (h : List Entry). IsAnswer before (record { history = h; budget = budget })) (sym all) both;
      owned = owned;
    }

-- The turn of an edit, an undo or an end.
pub turned_entered : (budget : ℕ) (call : Event) (old new : Document) (r : Result ℕ Refused) (seen seen' : List Entry) (own own' : List ℕ)
    → old.budget ≡ budget → IsPrefix seen old.history → IsLegal old.history old.budget → IsLegal new.history new.budget → length new.history < 2 ^ 32
    → IsEntered old new call r → seen' ≡ new.history → own' ≡ own ++ placed r
    → Turned budget (λ o n. IsEntered o n call r) seen seen' own own' (placed r)
turned_entered budget call old new r seen seen' own own' terms begins legal_before legal short answer all owned =
    turned budget (λ o n. IsEntered o n call r) old new seen seen' own own' (placed r) terms begins legal_before legal short answer (entered_budget old new call r answer) all owned

-- The turn of a publication.
pub turned_published : (budget who line : ℕ) (solved : SolvedOf) (old new : Document) (r : Publish) (seen seen' : List Entry) (own own' : List ℕ)
    → old.budget ≡ budget → IsPrefix seen old.history → IsLegal old.history old.budget → IsLegal new.history new.budget → length new.history < 2 ^ 32
    → IsPublished old new who line solved r → seen' ≡ new.history → own' ≡ own ++ published r
    → Turned budget (λ o n. IsPublished o n who line solved r) seen seen' own own' (published r)
turned_published budget who line solved old new r seen seen' own own' terms begins legal_before legal short answer all owned =
    turned budget (λ o n. IsPublished o n who line solved r) old new seen seen' own own' (published r) terms begins legal_before legal short answer (published_budget old new who line solved r answer) all owned

-- A publication that entered its frame has made one entry, at the place behind the old ones.
pub published_grows : (old new : Document) (who line : ℕ) (solved : SolvedOf) (r : Publish) → is_published r ≡ true → IsPublished old new who line solved r
    → (new.history ≡ old.history ++ entry_of who line (act.Frame solved.frame) ∷ []) × (published r ≡ length old.history ∷ [])
published_grows old new who line solved (publish.Published place) entered is = (ap (λ (d : Document). d.history) is.1.entered, ap (λ (n : ℕ). n ∷ []) is.1.place_is)
published_grows old new who line solved (publish.Stale front back) entered is = absurd cc
published_grows old new who line solved (publish.Memory back) entered is = absurd cc

-- One that didn't has changed nothing.
pub published_stays : (old new : Document) (who line : ℕ) (solved : SolvedOf) (r : Publish) → is_published r ≡ false → IsPublished old new who line solved r
    → (new.history ≡ old.history) × (published r ≡ [])
published_stays old new who line solved (publish.Published place) handed_back is = absurd cc
published_stays old new who line solved (publish.Stale front back) handed_back is = (ap (λ (d : Document). d.history) is.0.2.same, refl)
published_stays old new who line solved (publish.Memory back) handed_back is = (ap (λ (d : Document). d.history) is.0.2, refl)

-- A job of what was seen is a job of the history that goes on from it.
pub job_later : (seen : List Entry) (budget : ℕ) (document : Document) (front : ℕ) (scene : Diagram) (places : Places)
    → IsPrefix seen document.history → document.budget ≡ budget → IsJobOf seen budget front scene places → IsJobOf document.history document.budget front scene places
job_later seen budget document front scene places begins terms job =
    subst (λ (b : ℕ). IsJobOf document.history b front scene places) (sym terms)
    (subst (λ (h : List Entry). IsJobOf h budget front scene places) begins.1 (IsJobOf-append seen begins.0 budget front scene places job))
