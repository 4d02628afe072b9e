use Rattle.std.proofs.Common.{arith}
use Rattle.keyword_table.proofs.Rows.{slice_get-spellings}
use Rattle.keyword_table.proofs.words.Words.word.Goals as goal

pub returns : goal.returns
returns g c = rw (← c.self.view_is) (slice_get-spellings c.self.inside.rows.now c.args.row _ (omega arith))
