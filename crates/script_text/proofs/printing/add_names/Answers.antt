use Rattle.std.proofs.Common.{add-one, ap, ◌∙◌, ◌++◌, ◌∷◌, List, ℕ}
use Rattle.script_text.proofs.Printed.{next_name}
use Rattle.script_text.proofs.printing.add_names.Goals as goal

pub loop-name-preserved : goal.loop-name-preserved
loop-name-preserved c =
    rw add-one (next_name c.args.text.now.items c.loop-name.text.items c.add_word.new.text.items c.args.names.now c.loop-name.name-index c.name-item.result c.loop-name-test.true c.name-item.is c.loop-name.invariant
    (c.in_ok-add_word.ensures ∙ ap (λ (x : List ℕ). c.loop-name.text.items ++ 32 ∷ x) c.bytes.ensures.value))
