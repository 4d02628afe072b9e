use Rattle.std.proofs.Common.{◌≡◌, sym, map}
use Rattle.script_text.specs.Keywords.{keyword_word, all_keywords}
use Rattle.script_text.proofs.Table.{no_keyword}
use Rattle.script_text.proofs.keywords.read_keyword.Goals as goal

pub returns-in_default-2 : goal.returns-in_default-2
returns-in_default-2 c =
    let table : c.new-words.result ≡ map keyword_word all_keywords = c.new-words.ensures.rows in
    sym (no_keyword c.new-words.result c.find.result c.args.word.now table c.find.ensures.own c.in_default.is)
