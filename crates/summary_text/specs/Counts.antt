-- Replies that are counted.
use Rattle.std.specs.Prelude.{ℕ, ◌≤◌, List, length, count_by, All, Bool, true, false}
use Rattle.std.specs.List.{sum_by}
use Rattle.doc_book.specs.declared.replies.Reply.{Reply}
use Rattle.doc_book.specs.declared.replies.Reply.TheVariants as reply
use Rattle.summary_text.specs.declared.counting.Verdict.{Verdict}
use Rattle.summary_text.specs.declared.counting.Verdict.TheVariants as verdict

-- the reply says that the edit or undo was accepted
abbrev pub is_accepted : Reply → Bool
is_accepted (reply.Accepted place) = true
is_accepted (reply.Published place) = false
is_accepted (reply.Refused r) = false
is_accepted (reply.Idle front) = false
is_accepted (reply.Spent front) = false
is_accepted (reply.Stale front) = false
is_accepted (reply.Answer a) = false

-- the reply is a refusal
abbrev pub is_refused : Reply → Bool
is_refused (reply.Accepted place) = false
is_refused (reply.Published place) = false
is_refused (reply.Refused r) = true
is_refused (reply.Idle front) = false
is_refused (reply.Spent front) = false
is_refused (reply.Stale front) = false
is_refused (reply.Answer a) = false

-- the reply has the verdict
abbrev pub is_verdict : Verdict → Reply → Bool
is_verdict verdict.Accepted r = is_accepted r
is_verdict verdict.Refused r = is_refused r

-- how many replies of all sessions have the verdict
abbrev pub count_of : Verdict → List (List Reply) → ℕ
count_of which replies = sum_by (λ (rs : List Reply). count_by (is_verdict which) rs) replies

-- at most eight lists of at most 2,000 replies
pub record AreFew (replies : List (List Reply)) : Type 0 where
  pub lists : length replies ≤ 8
  pub each : All (λ (rs : List Reply). length rs ≤ 2000) replies
