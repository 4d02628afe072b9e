-- Jobs that a look gave at a shared book, and how many passes there are.
use Rattle.std.proofs.Common.{◌≡◌, ◌∙◌, ℕ, List, length, sym, ap, subst}
use Rattle.std.proofs.lemmas.List.{length-map}
use Rattle.doc_book.specs.declared.entries.Entry.{Entry}
use Rattle.doc_book.specs.declared.looking.Look.TheVariants as look
use Rattle.doc_book.specs.Calls.{IsLooked}
use Rattle.doc_book.specs.Document.{Document}
use Rattle.doc_book.specs.Jobs.{IsJobOf, JobOf}
use Rattle.doc_book.specs.Turns.{Turned}
use Rattle.doc_book.proofs.Jobs.{looked_job}
use Rattle.shared_book.specs.Held.{Held, whos_of}

-- A job that a turn of a look gave is a job of what was seen then.
pub turn_job : (budget : ℕ) (job : JobOf) (seen seen' : List Entry) (own own' places : List ℕ)
    → Turned budget (λ old new. IsLooked old (look.Job job) × (new ≡ old)) seen seen' own own' places
    → IsJobOf seen' budget job.front job.scene job.places
turn_job budget job seen seen' own own' places turn =
    let document : Document = record { history = turn.before; budget = budget } in
    let same : turn.before ≡ seen' = sym (ap (λ (d : Document). d.history) turn.answer.1) in
    subst (λ (h : List Entry). IsJobOf h budget job.front job.scene job.places) same (looked_job document job turn.answer.0)

-- There are as many passes as callers' numbers.
pub as_many : (passes : List Held) (whos : List ℕ) → whos_of passes ≡ whos → length passes ≡ length whos
as_many passes whos same = sym (length-map passes (λ (p : Held). p.who)) ∙ ap length same
