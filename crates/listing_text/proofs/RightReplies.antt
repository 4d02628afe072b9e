-- Right replies can be shown in a listing.
use Rattle.std.proofs.Common.{◌≡◌, ℕ, suc, List, [], ◌∷◌, take, Some, refl, ap, subst, ◌∙◌}
use Rattle.edit_rules.specs.declared.refusals.Refusal.{Refusal}
use Rattle.edit_rules.specs.declared.refusals.Refusal.TheVariants as refusal
use Rattle.script_text.specs.declared.scripts.Command.{Command}
use Rattle.script_text.specs.declared.scripts.Command.TheVariants as command
use Rattle.script_text.specs.declared.scripts.Line.{Line}
use Rattle.doc_book.specs.declared.entries.Entry.{Entry}
use Rattle.doc_book.specs.declared.replies.Reply.{Reply}
use Rattle.doc_book.specs.declared.replies.Reply.TheVariants as reply
use Rattle.doc_book.specs.History.{scene_at}
use Rattle.doc_book.specs.Verdicts.{IsVerdict}
use Rattle.doc_book.specs.Replies.{IsRefused, IsRightReply, AreRightReplies, after_of}
use Rattle.listing_text.specs.Replies.{HasText, HaveReplies}
use Rattle.listing_text.proofs.Causes.{IsVerdict-not_memory, undo_verdict-not_memory, ask_refusal-not_memory}

-- what is refused rightly is not refused for want of memory
not_memory : (h : List Entry) (budget front : ℕ) (r : Refusal) (c : Command) → IsRefused h budget front r c → r ≡ refusal.Memory → ⊥
not_memory h budget front r (command.Edit e) is same = IsVerdict-not_memory (take front h) e (subst (λ c. IsVerdict (take front h) e (Some c)) same is)
not_memory h budget front r command.Undo is same = undo_verdict-not_memory (take front h) (is ∙ ap Some same)
not_memory h budget front r command.Layout is same = let other = is.1 in cc
not_memory h budget front r (command.Where name) is same = ask_refusal-not_memory (scene_at (take front h)) name (is ∙ ap Some same)

has_text : (h : List Entry) (budget who seen : ℕ) (l : Line) (r : Reply) → IsRightReply h budget who seen l r → HasText r
has_text h budget who seen l (reply.Accepted place) is = tt
has_text h budget who seen l (reply.Published place) is = tt
has_text h budget who seen l (reply.Refused r) is = not_memory h budget r.front r.refusal l.command is.1
has_text h budget who seen l (reply.Idle front) is = tt
has_text h budget who seen l (reply.Spent front) is = tt
has_text h budget who seen l (reply.Stale front) is = tt
has_text h budget who seen l (reply.Answer a) is = tt

-- lines have the replies that are right for them
pub have_replies : (h : List Entry) (budget who seen : ℕ) (ls : List Line) (rs : List Reply) → AreRightReplies h budget who seen ls rs → HaveReplies ls rs
have_replies h budget who seen [] [] are = record { as_many = refl; texts = tt }
have_replies h budget who seen (l ∷ ls) (r ∷ rs) are =
    let more = have_replies h budget who (after_of r) ls rs are.2 in
    record { as_many = ap suc more.as_many; texts = (has_text h budget who seen l r are.0, more.texts) }
have_replies h budget who seen [] (r ∷ rs) are = absurd are
have_replies h budget who seen (l ∷ ls) [] are = absurd are
