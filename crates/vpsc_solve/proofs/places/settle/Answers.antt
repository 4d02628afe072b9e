use Rattle.std.proofs.Common.{◌≡◌, ◌<◌, ℕ, List, Bool, true, length, get_or, ◌⊎◌, Result, Ok, Err, IfOk}
use Rattle.units.specs.Problem.{Problem}
use Rattle.vpsc_solve.specs.declared.places.Place.{Place}
use Rattle.vpsc_solve.specs.Places.{place_at, is_settled, IsPlaced, IsJoinedTo, AreSettled}
use Rattle.vpsc_solve.proofs.Placing.{all-placed}
use Rattle.vpsc_solve.proofs.places.settle.Goals as goal

if-placed : {T E : Type 0} (r : Result T E) (p : Problem) (active roots : List ℕ) (before places : List Place) (settled : List Bool) → IfOk r (λ _. AreSettled p active before places settled)
    → IfOk r (λ _. (k : ℕ) → k < length roots → is_settled settled (get_or roots k 0) ≡ true)
    → ((i : ℕ) → i < length p.desired → IsPlaced p active i (place_at before i) ⊎ IsJoinedTo p active roots i) → IfOk r (λ _. (i : ℕ) → i < length p.desired → IsPlaced p active i (place_at places i))
if-placed (Ok u) p active roots before places settled h g others = all-placed p active roots before places settled h g others
if-placed (Err e) p active roots before places settled h g others = tt

pub returns : goal.returns
returns c = if-placed c.settle_all.result c.args.problem.now c.args.active.now c.args.roots.now c.args.places.now c.settle_all.new.places c.settle_all.new.settled c.settle_all.ensures.settled c.settle_all.ensures.roots c.requires.others
