-- A script's replies are few.
use Rattle.std.proofs.Common.{◌≡◌, ℕ, ◌+◌, ◌≤◌, ◌==◌, List, [], ◌∷◌, length, arith}
use Rattle.std.specs.List.{AllByRecursion}
use Rattle.std.proofs.lemmas.List.Elements.{All-from_recursion}
use Rattle.std.proofs.lemmas.List.Sums.{count_by-le-length, length-filter}
use Rattle.script_text.specs.declared.scripts.Line.{Line}
use Rattle.script_text.specs.Scripts.{IsScript}
use Rattle.doc_book.specs.declared.replies.Reply.{Reply}
use Rattle.doc_book.specs.Listing.{session_lines}
use Rattle.listing_text.specs.Replies.{ScriptHasReplies, SessionsHaveReplies}
use Rattle.summary_text.specs.Counts.{AreFew}

few_lines : (session : ℕ) (script : List Line) → length (session_lines session script) ≤ length script
few_lines session script =
    let n = length-filter (λ (l : Line). l.session == session) script in
    let l = count_by-le-length (λ (l : Line). l.session == session) script in
    omega (arith, n, l)

few_each : (session : ℕ) (script : List Line) (replies : List (List Reply)) → length script ≤ 2000 → SessionsHaveReplies session script replies
    → AllByRecursion (λ (rs : List Reply). length rs ≤ 2000) replies
few_each session script [] few have = tt
few_each session script (rs ∷ more) few have =
    let l = few_lines session script in
    let s : length rs ≡ length (session_lines session script) = have.0.as_many in
    (omega (arith, l, s, few), few_each (session + 1) script more few have.1)

pub few_replies : (script : List Line) (replies : List (List Reply)) → IsScript script → ScriptHasReplies script replies → AreFew replies
few_replies script replies is have = record {
  lists = omega (arith, have.lists);
  each = All-from_recursion (λ (rs : List Reply). length rs ≤ 2000) replies (few_each 1 script replies is.few have.each);
}
