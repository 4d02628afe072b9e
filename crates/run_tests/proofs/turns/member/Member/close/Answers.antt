use Rattle.std.proofs.Common.{rules, ◌≡◌, ◌∷◌, [], subst}
use mathlib.Core.List.{IsPrefix}
use Rattle.turn_table.specs.Counting.{OnlyOne}
use Rattle.turn_table.specs.States.{owns}
use Rattle.turn_table.proofs.Marking.{of_two, of_both}
use Rattle.run_tests.proofs.turns.member.Member.close.Goals as goal

pub returns-clause-marked : goal.returns-clause-marked
returns-clause-marked c = let a = c.args.first in let b = c.args.second in let both : c.push_reserved-2.new.self.items ≡ a.seat ∷ b.seat ∷ [] = search rules in
    let begun = of_both (λ s. IsPrefix s.seen c.close.result.marks.items) a.seat b.seat c.push_reserved-2.new.self.items both c.close.ensures.seen in λ place low high.
    of_two a.mark b.mark place a.seat b.seat c.close.result.marks.items a.marked b.marked begun.0 begun.1 (subst (λ z. OnlyOne (owns place) z) both (c.close.ensures.own.since_opening place low high))
