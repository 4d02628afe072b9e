use Rattle.std.proofs.Common.{◌≡◌, arith, rules, true}
use Rattle.std.specs.Prelude.{decimal}
use Rattle.std.proofs.lemmas.Grind.{common_steps}
use Rattle.units.specs.Name.{is_name}
use Rattle.made_script.specs.Steps.{item_name}
use Rattle.made_script.proofs.Names.{is_item_name}
use Rattle.made_script.proofs.boxes.item_name.Goals as goal

pub unwrap-requires : goal.unwrap-requires
unwrap-requires c =
    let digits : c.as_bytes-digits.result.now ≡ decimal c.args.number = search rules in
    let h : is_name (item_name c.args.letter c.args.number) ≡ true = is_item_name c.args.letter c.args.number c.requires.letter c.requires.small in
    first_of (search (rules, h), grind (arith, common_steps, h, digits))
