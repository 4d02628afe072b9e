-- The output of a run: what a plan writes of a script, the history of its document and the replies to its lines.
use Rattle.std.specs.Prelude.{ℕ, List, if◌then◌else◌}
use Rattle.std.specs.Option.{option_map_or}
use Rattle.script_text.specs.declared.scripts.Line.{Line}
use Rattle.doc_book.specs.declared.entries.Entry.{Entry}
use Rattle.doc_book.specs.declared.replies.Reply.{Reply}
use Rattle.doc_book.specs.Listing.{listing_text}
use Rattle.svg_text.specs.Picture.{svg_text}
use Rattle.command_line.specs.declared.plans.Plan.{Plan}
use Rattle.summary_text.specs.LastFrame.{drawn_places, drawn_scene}
use Rattle.summary_text.specs.Summary.{summary_text}

-- the picture of the last frame: its scene, and the places where it drew the variables
abbrev pub picture_text : List Entry → List ℕ
picture_text history = svg_text (drawn_scene history) (drawn_places history)

-- with a made script the summary, else the picture of the last frame where the plan wants one, else the listing
abbrev pub output_text : Plan → List Line → List Entry → List (List Reply) → List ℕ
output_text plan script history replies =
    option_map_or (λ (number : ℕ). summary_text number history replies) plan.made
    (if plan.svg then picture_text history else listing_text script history replies)
