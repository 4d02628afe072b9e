use Rattle.std.proofs.Common.{◌≡◌, [], ◌∷◌, rules}
use Rattle.std.specs.Fmt.{signed_decimal}
use Rattle.script_text.specs.Words.{spaced}
use Rattle.script_text.specs.Keywords.{keyword_word}
use Rattle.script_text.specs.declared.keywords.Keyword.TheVariants as keyword
use Rattle.script_text.proofs.Printed.{with_members}
use Rattle.script_text.proofs.printing.group_text.Goals as goal

pub returns : goal.returns
returns c =
    let front : c.in_ok-text.text.items ≡ spaced (keyword_word keyword.Group ∷ c.args.name.now ∷ signed_decimal c.args.pad ∷ []) = search rules in
    with_members (keyword_word keyword.Group) (c.args.name.now ∷ signed_decimal c.args.pad ∷ []) c.args.members.now c.in_ok-text.text.items c.add_names.new.text.items
    front (rw c.list.ensures.value at c.in_ok-add_names.ensures)
