use Rattle.std.proofs.Common.{◌≡◌, [], ◌∷◌, rules}
use Rattle.std.specs.Fmt.{signed_decimal}
use Rattle.script_text.specs.Words.{spaced}
use Rattle.script_text.specs.Keywords.{keyword_word}
use Rattle.script_text.specs.Grammar.{axis_word}
use Rattle.script_text.proofs.Printed.{with_members}
use Rattle.script_text.proofs.printing.row_text.Goals as goal

pub returns : goal.returns
returns c =
    let front : c.in_ok-text.text.items ≡ spaced (keyword_word c.args.keyword ∷ c.args.name.now ∷ axis_word c.args.axis ∷ signed_decimal c.args.gap ∷ []) = search rules in
    with_members (keyword_word c.args.keyword) (c.args.name.now ∷ axis_word c.args.axis ∷ signed_decimal c.args.gap ∷ []) c.args.members.now c.in_ok-text.text.items c.add_names.new.text.items
    front (rw c.list.ensures.value at c.in_ok-add_names.ensures)
