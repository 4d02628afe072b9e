-- The replies of a run can be shown in a listing.
use Rattle.std.proofs.Common.{ℕ, ◌+◌, List, [], ◌∷◌}
use Rattle.script_text.specs.declared.scripts.Line.{Line}
use Rattle.doc_book.specs.declared.entries.Entry.{Entry}
use Rattle.doc_book.specs.declared.replies.Reply.{Reply}
use Rattle.doc_book.specs.Document.{Document}
use Rattle.doc_book.specs.Listing.{session_lines}
use Rattle.doc_book.specs.Replies.{AreRightReplies}
use Rattle.listing_text.specs.Replies.{SessionsHaveReplies, ScriptHasReplies}
use Rattle.listing_text.proofs.RightReplies.{have_replies}
use Rattle.session_run.specs.Sessions.{ForSessions}
use Rattle.editor_run.specs.Played.{HaveRightReplies}

sessions_have : (h : List Entry) (budget : ℕ) (script : List Line) (session : ℕ) (lists : List (List Reply))
    → ForSessions session (λ s rs. AreRightReplies h budget s 0 (session_lines s script) rs) lists → SessionsHaveReplies session script lists
sessions_have h budget script session [] right = tt
sessions_have h budget script session (rs ∷ more) right =
    (have_replies h budget session 0 (session_lines session script) rs right.0, sessions_have h budget script (session + 1) more right.1)

-- right replies are ones that a listing can show
pub have_shown : (document : Document) (script : List Line) (replies : List (List Reply)) → HaveRightReplies document script replies → ScriptHasReplies script replies
have_shown document script replies right = record {
  lists = right.eight;
  each = sessions_have document.history document.budget script 1 replies right.right;
}
