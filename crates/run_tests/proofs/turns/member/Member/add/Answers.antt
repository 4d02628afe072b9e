use Rattle.std.proofs.Common.{rules, ◌≡◌, ◌++◌, ◌∷◌, [], true, length, ℕ, List, subst, sym}
use Rattle.turn_table.specs.Marks.{all_marked}
use Rattle.turn_table.proofs.Marking.{grown, added}
use Rattle.run_tests.proofs.turns.member.Member.add.Goals.{then-added, else-added}
use Rattle.run_tests.proofs.turns.member.Member.add.Goals as goal

pub invariant_of-self : goal.invariant_of-self
invariant_of-self g c = let mark : ℕ = c.args.self.now.mark in let seen : List ℕ = c.args.self.now.seat.seen in let own : List ℕ = c.args.self.now.seat.own in
    let marked : all_marked mark seen own ≡ true = c.args.self.now.marked in let list : List ℕ = c.take-turn.result.marks.items in record {
      marked = elim c.if-added.branch [
        | then-added w ↦ let s : c.give.new.seat.seen ≡ list ++ mark ∷ [] = search rules in let o : c.give.new.seat.own ≡ own ++ length list ∷ [] = search rules in
            subst (λ (z : List ℕ × List ℕ). all_marked mark z.0 z.1 ≡ true) (λ i. (sym s i, sym o i)) (added mark seen list own c.take-turn.ensures.begins marked)
        | else-added w ↦ let s : c.give.new.seat.seen ≡ list = search rules in let o : c.give.new.seat.own ≡ own = search rules in
            subst (λ (z : List ℕ × List ℕ). all_marked mark z.0 z.1 ≡ true) (λ i. (sym s i, sym o i)) (grown mark seen list own c.take-turn.ensures.begins marked)
      ];
    }
