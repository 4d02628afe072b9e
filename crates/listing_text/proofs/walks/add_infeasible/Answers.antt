use Rattle.std.proofs.Common.{◌≡◌, List, [], ◌∷◌, ◌++◌, map, ap, sym, ◌∙◌, subst}
use Rattle.std.proofs.lemmas.List.{append-nil}
use Rattle.std.specs.Prelude.{codes, OnOk}
use Rattle.cycle_test.specs.declared.arc.CycleArc.{CycleArc}
use Rattle.script_text.specs.Grammar.{axis_word}
use Rattle.script_text.specs.Words.{behind}
use Rattle.doc_book.specs.Listing.{arc_word}
use Rattle.listing_text.proofs.Lines.{made_behind}
use Rattle.listing_text.proofs.walks.add_infeasible.Goals as goal

pub returns : goal.returns
returns c =
    made_behind c.add_walk.result c.args.text.now.items c.add_word.new.text.items c.add_word-2.new.text.items c.add_walk.new.text.items
    (codes "infeasible" ∷ []) (axis_word c.args.axis ∷ []) (map arc_word c.args.walk.now)
    c.in_ok-add_word.ensures
    (c.in_ok-add_word-2.ensures ∙ ap (λ word. c.add_word.new.text.items ++ 32 ∷ word) (c.axis_word.ensures ∙ sym (append-nil (axis_word c.args.axis))))
    (subst (λ (arcs : List CycleArc). OnOk c.add_walk.result (c.add_walk.new.text.items ≡ c.add_word-2.new.text.items ++ behind (map arc_word arcs))) c.arcs.ensures c.add_walk.ensures)
