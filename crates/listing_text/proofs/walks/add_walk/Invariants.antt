use Rattle.std.proofs.Common.{◌≡◌, ◌++◌, drop, map}
use Rattle.script_text.specs.Words.{behind}
use Rattle.doc_book.specs.Listing.{arc_word}
use Rattle.listing_text.proofs.walks.add_walk.Given as goal

abbrev pub invariant-loop-at : goal.invariant-loop-at
invariant-loop-at l = l.text.items ++ behind (map arc_word (drop l.at l.arcs)) ≡ l.fn.text.items ++ behind (map arc_word l.arcs)
