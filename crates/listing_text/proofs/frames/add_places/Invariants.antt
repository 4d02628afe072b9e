use Rattle.std.proofs.Common.{◌≡◌, ◌++◌, drop}
use Rattle.scene_model.specs.Variables.{variables}
use Rattle.doc_book.specs.Listing.{text_lines, place_lines}
use Rattle.listing_text.proofs.frames.add_places.Given as goal

abbrev pub invariant-loop-var : goal.invariant-loop-var
invariant-loop-var l =
    l.text.items ++ text_lines (place_lines l.axis (drop l.var (variables l.scene l.axis)) (drop l.var l.desired) (drop l.var l.places))
    ≡ l.fn.text.items ++ text_lines (place_lines l.axis (variables l.scene l.axis) l.desired l.places)
