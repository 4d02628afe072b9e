use Rattle.std.proofs.Common.{◌≡◌, [], ◌∷◌, rules, append_assoc}
use Rattle.script_text.specs.Words.{spaced}
use Rattle.script_text.specs.Keywords.{keyword_word}
use Rattle.script_text.specs.Grammar.{align_word}
use Rattle.script_text.specs.declared.keywords.Keyword.TheVariants as keyword
use Rattle.script_text.proofs.Printed.{with_members}
use Rattle.script_text.proofs.printing.align_text.Goals as goal

pub returns : goal.returns
returns c =
    let front : c.add_word-2.new.text.items ≡ spaced (keyword_word keyword.Align ∷ c.args.name.now ∷ c.args.guide.now ∷ align_word c.args.line ∷ []) = search (rules, append_assoc) in
    with_members (keyword_word keyword.Align) (c.args.name.now ∷ c.args.guide.now ∷ align_word c.args.line ∷ []) c.args.members.now c.add_word-2.new.text.items c.add_names.new.text.items
    front (rw c.list.ensures.value at c.in_ok-add_names.ensures)
