use Rattle.std.proofs.Common.{◌≡◌, ℕ, ℤ, List, Bool, Option, length, sym, subst}
use Rattle.units.specs.declared.geometry.Sep.{Sep}
use Rattle.block_sums.specs.declared.legs.Leg.{Leg}
use Rattle.vpsc_solve.specs.declared.dropping.Fallen.{Fallen}
use Rattle.vpsc_solve.specs.Hints.{IsLeastOf, AreMarked, IsSeen}
use Rattle.vpsc_solve.proofs.Negative.{block-seen}
use Rattle.vpsc_solve.proofs.dropping.fallen_from.Goals as goal

least-at : (seps ss : List Sep) (legs : List Leg) (weights moments : List ℤ) (n : ℕ) (least : Option Fallen) → seps ≡ ss → IsLeastOf seps legs weights moments n least → IsLeastOf ss legs weights moments n least
least-at seps ss legs weights moments n least e h = subst (λ s. IsLeastOf s legs weights moments n least) e h

marked-at : (lent legs : List Leg) (was seen : List Bool) → lent ≡ legs → AreMarked lent (length lent) was seen → AreMarked legs (length legs) was seen
marked-at lent legs was seen e h = subst (λ l. AreMarked l (length l) was seen) e h

pub returns : goal.returns
returns c =
    let p = c.args.problem.now in
    let b = c.in_ok-block.block in
    let e = c.in_ok-block.ensures in
    subst (λ found. IsSeen p c.args.active.now c.args.root c.args.seen.now c.mark.new.seen found) (sym c.number_of.ensures)
    (block-seen p c.args.active.now c.args.root b.legs.items b.weights.items b.moments.items c.args.seen.now c.mark.new.seen c.least_of-least.result c.requires.active (record { sums = e.sums; heavy = e.heavy; tells = e.tells })
    (least-at c.seps.result.now p.separations b.legs.items b.weights.items b.moments.items (length b.legs.items) c.least_of-least.result c.seps.ensures.value c.least_of-least.ensures)
    (marked-at c.deref.result.now b.legs.items c.args.seen.now c.mark.new.seen c.deref.ensures.value c.mark.ensures) c.requires.seen)
