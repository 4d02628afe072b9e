use Rattle.std.proofs.Common.{◌≡◌, ◌++◌, drop}
use Rattle.doc_book.specs.Listing.{text_lines, multiplier_lines}
use Rattle.listing_text.proofs.frames.add_multipliers.Given as goal

abbrev pub invariant-loop-number : goal.invariant-loop-number
invariant-loop-number l =
    l.text.items ++ text_lines (multiplier_lines l.axis l.number (drop l.number l.multipliers))
    ≡ l.fn.text.items ++ text_lines (multiplier_lines l.axis 0 l.multipliers)
