-- What the reply to a line is made of.
use Rattle.std.specs.Prelude.{◌≡◌, ◌≢◌, ℕ, Result, Ok, Err}
use Rattle.units.specs.declared.memory.Memory.{Memory}
use Rattle.edit_rules.specs.declared.refusals.Refusal.TheVariants as refusal
use Rattle.doc_book.specs.declared.asking.Answer.{Answer}
use Rattle.doc_book.specs.declared.replies.Refused.{Refused}
use Rattle.doc_book.specs.declared.replies.Reply.{Reply}
use Rattle.doc_book.specs.declared.replies.Reply.TheVariants as reply

-- the reply to an edit or undo that was answered so: for want of memory there is none
abbrev pub IsReplyTo : Result ℕ Refused → Result Reply Memory → Type 0
IsReplyTo (Ok place) made = made ≡ Ok (reply.Accepted place)
IsReplyTo (Err r) (Ok made) = (r.refusal ≢ refusal.Memory) × (made ≡ reply.Refused r)
IsReplyTo (Err r) (Err memory) = r.refusal ≡ refusal.Memory

-- the reply to a question that was answered so
abbrev pub reply_to_ask : Result Answer Refused → Reply
reply_to_ask (Ok answer) = reply.Answer answer
reply_to_ask (Err r) = reply.Refused r
