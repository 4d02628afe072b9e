-- A frame that was made of a job: it stays publishable, and at its own front it is legal.
use Rattle.std.proofs.Common.{◌≡◌, ◌<◌, ℕ, List, ◌++◌, length, take, refl, ap, sym, ◌∙◌, subst, arith, inl, inr}
use Rattle.std.specs.Prelude.{Result, Ok, Err}
use Rattle.std.proofs.lemmas.List.{length-append, take_all, take-append-le}
use Rattle.scene_model.specs.Diagram.{Diagram}
use Rattle.frame_store.specs.declared.places.Places.{Places}
use Rattle.frame_store.specs.declared.frames.Frame.{Frame}
use Rattle.doc_book.specs.declared.entries.Entry.{Entry}
use Rattle.doc_book.specs.declared.entries.Act.TheVariants as act
use Rattle.doc_book.specs.Document.{Document}
use Rattle.doc_book.specs.declared.looking.Look.TheVariants as look
use Rattle.doc_book.specs.declared.replies.Refused.{Refused}
use Rattle.doc_book.specs.declared.replies.Reply.TheVariants as reply
use Rattle.doc_book.specs.Calls.{IsEntered, IsLooked}
use Rattle.doc_book.specs.Events.{Event, Publishes, Said, Replied, Memory, place_made}
use Rattle.doc_book.specs.Frames.{IsFrameOf}
use Rattle.doc_book.specs.Growing.{Grows, entry_of}
use Rattle.doc_book.specs.History.{scene_at, places_at}
use Rattle.doc_book.specs.Jobs.{IsJobOf, JobOf}
use Rattle.doc_book.specs.Replies.{IsLook, Job}
use Rattle.doc_book.specs.Steps.{IsStep}
use Rattle.doc_book.proofs.Running.{adds_prefix, adds_budget}
use Rattle.doc_book.proofs.Stepping.{step_adds}

-- a look that finds a frame to make gives a job of the present front
pub job_here : (h : List Entry) (budget front : ℕ) → front ≡ length h → IsLook h budget Job → IsJobOf h budget front (scene_at h) (places_at h)
job_here h budget front is look =
    let whole : h ≡ take front h = sym (take_all front h (omega (arith, is))) in
    record {
      within = omega (arith, is);
      scene_is = ap scene_at whole;
      places_are = ap places_at whole;
      found = subst (λ (t : List Entry). IsLook t budget Job) whole look;
    }

-- it stays a job as more entries come
pub IsJobOf-append : (h more : List Entry) (budget front : ℕ) (scene : Diagram) (places : Places) → IsJobOf h budget front scene places → IsJobOf (h ++ more) budget front scene places
IsJobOf-append h more budget front scene places job =
    let same : take front h ≡ take front (h ++ more) = sym (take-append-le front h more job.within) in
    record {
      within = omega (arith, job.within, length-append h more);
      scene_is = job.scene_is ∙ ap scene_at same;
      places_are = job.places_are ∙ ap places_at same;
      found = subst (λ (t : List Entry). IsLook t budget Job) same job.found;
    }

-- so it does behind each call
pub IsJobOf-step : (old new : Document) (call : Event) (said : Said) (front : ℕ) (scene : Diagram) (places : Places) → IsStep old new call said → IsJobOf old.history old.budget front scene places
    → IsJobOf new.history new.budget front scene places
IsJobOf-step old new call said front scene places is job =
    let adds = step_adds old new call said is in
    let grows = adds_prefix old new call (place_made said) adds in
    subst (λ (h : List Entry). IsJobOf h new.budget front scene places) grows.1
    (subst (λ (b : ℕ). IsJobOf (old.history ++ grows.0) b front scene places) (sym (adds_budget old new call (place_made said) adds))
    (IsJobOf-append old.history grows.0 old.budget front scene places job))

-- also behind a call that enters an entry, whatever it returns
pub entered_job : (old new : Document) (call : Event) (answer : Result ℕ Refused) (front : ℕ) (scene : Diagram) (places : Places) → IsEntered old new call answer → IsJobOf old.history old.budget front scene places
    → IsJobOf new.history new.budget front scene places
entered_job old new call (Ok place) front scene places is job = IsJobOf-step old new call (Replied (reply.Accepted place)) front scene places is job
entered_job old new call (Err r) front scene places (inl is) job = IsJobOf-step old new call (Replied (reply.Refused r)) front scene places is job
entered_job old new call (Err r) front scene places (inr is) job = IsJobOf-step old new call Memory front scene places is.0 job

-- a job that a look gave is a job of the history
pub looked_job : (d : Document) (job : JobOf) → IsLooked d (look.Job job) → IsJobOf d.history d.budget job.front job.scene job.places
looked_job d job is =
    subst (λ (s : Diagram). IsJobOf d.history d.budget job.front s job.places) (sym is.0.scene_is)
    (subst (λ (p : Places). IsJobOf d.history d.budget job.front (scene_at d.history) p) (sym is.0.places_are) (job_here d.history d.budget job.front is.0.front_is is.1.0))

-- at its own front a job is of the whole history
whole_of : (h : List Entry) (front : ℕ) → front ≡ length h → take front h ≡ h
whole_of h front is = take_all front h (omega (arith, is))

pub found_here : (h : List Entry) (budget front : ℕ) (scene : Diagram) (places : Places) → IsJobOf h budget front scene places → front ≡ length h → IsLook h budget Job
found_here h budget front scene places job is = subst (λ (t : List Entry). IsLook t budget Job) (whole_of h front is) job.found

-- so a frame that was made of it is a frame of the whole history
pub legal_here : (h : List Entry) (budget front : ℕ) (scene : Diagram) (places : Places) (frame : Frame) → IsJobOf h budget front scene places → front ≡ length h
    → IsFrameOf scene places frame → IsFrameOf (scene_at h) (places_at h) frame
legal_here h budget front scene places frame job is legal =
    subst (λ (d : Diagram). IsFrameOf d (places_at h) frame) (job.scene_is ∙ ap scene_at (whole_of h front is))
    (subst (λ (p : Places). IsFrameOf scene p frame) (job.places_are ∙ ap places_at (whole_of h front is)) legal)

-- publishing at the job's own front is a step
pub published_step : (old new : Document) (who line front place : ℕ) (scene : Diagram) (places : Places) (frame : Frame)
    → IsJobOf old.history old.budget front scene places → IsFrameOf scene places frame → front ≡ length old.history
    → Grows old new place (entry_of who line (act.Frame frame)) → IsStep old new (Publishes who line front) (Replied (reply.Published place))
published_step old new who line front place scene places frame job legal is grows = (
  is,
  found_here old.history old.budget front scene places job is,
  record { frame = frame; legal = legal_here old.history old.budget front scene places frame job is legal; grows = grows },
)

-- and behind it, where the history went on, a stale one
pub stale_step : (old : Document) (who line front : ℕ) (scene : Diagram) (places : Places)
    → IsJobOf old.history old.budget front scene places → front < length old.history
    → IsStep old old (Publishes who line front) (Replied (reply.Stale (length old.history)))
stale_step old who line front scene places job behind = (behind, job.found, record { front_is = refl; same = refl })
