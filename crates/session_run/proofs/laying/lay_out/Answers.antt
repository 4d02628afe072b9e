use Rattle.std.proofs.Common.{◌≡◌, ℕ, Result, Ok, Err, inr}
use Rattle.std.specs.Prelude.{MatchResult}
use Rattle.units.specs.declared.memory.Memory.{Memory as Want}
use Rattle.script_text.specs.declared.scripts.Command.TheVariants as command
use Rattle.script_text.specs.declared.scripts.Line.{Line}
use Rattle.doc_book.specs.declared.replies.Reply.{Reply}
use Rattle.doc_book.specs.Document.{Document}
use Rattle.doc_book.specs.Events.{Looks, Publishes, Replied, Found}
use Rattle.doc_book.specs.Plays.{IsPlayedAs}
use Rattle.doc_book.specs.Steps.{IsStep}
use Rattle.session_run.proofs.laying.lay_out.Goals as goal

-- a look that found a frame to make, and its publication
laid_out : (old new : Document) (line : Line) (front : ℕ) (made : Result Reply Want) → IsStep old old (Looks line.session) (Found front)
    → MatchResult made (λ reply. IsStep old new (Publishes line.session line.number front) (Replied reply)) (λ _. new ≡ old)
    → MatchResult made (λ reply. IsPlayedAs old new line reply command.Layout) (λ _. new ≡ old)
laid_out old new line front (Ok reply) found published = inr (record { between = old; front = front; found = found; published = published })
laid_out old new line front (Err want) found same = same

pub returns-in-Job : goal.returns-in-Job
returns-in-Job g c = laid_out c.args.book.now c.publish_now.new.book c.args.line.now c.in-Job.job.front c.publish_now.result c.in-Job.ensures.answer.1 c.publish_now.ensures
