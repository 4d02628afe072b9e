use Rattle.std.proofs.Common.{◌≡◌, ◌<◌, ℕ, ◌∙◌, length, subst}
use Rattle.std.specs.Prelude.{IfSome}
use Rattle.keyword_table.specs.Spellings.{spellings}
use Rattle.keyword_table.proofs.Rows.{finds_row, length-spellings}
use Rattle.keyword_table.proofs.words.Words.find.Goals as goal

pub returns-clause-row : goal.returns-clause-row
returns-clause-row g c = rw (← c.self.view_is) (finds_row c.args.word.now c.self.inside.rows.now c.find_row.result c.self.invariant.1 c.find_row.ensures).row

pub returns-clause-in_table : goal.returns-clause-in_table
returns-clause-in_table g c =
    let rows : length (spellings c.self.inside.rows.now) ≡ g.row.N = length-spellings c.self.inside.rows.now ∙ c.self.invariant.0 in
    let within = (finds_row c.args.word.now c.self.inside.rows.now c.find_row.result c.self.invariant.1 c.find_row.ensures).in_table in
    let P = λ (n : ℕ). IfSome c.find_row.result (λ row. row < n) in
    subst P rows within

pub returns-clause-none : goal.returns-clause-none
returns-clause-none g c =
    let finds = (finds_row c.args.word.now c.self.inside.rows.now c.find_row.result c.self.invariant.1 c.find_row.ensures) in
    rw (← c.self.view_is) (finds.no_row, finds.none)

pub returns-clause-own : goal.returns-clause-own
returns-clause-own g c = rw (← c.self.view_is) (finds_row c.args.word.now c.self.inside.rows.now c.find_row.result c.self.invariant.1 c.find_row.ensures).own
