use Rattle.std.proofs.Common.{◌≡◌, List, ℤ, length, IfSome, subst, ap, ◌∙◌}
use Rattle.units.specs.Separation.{SatisfiesAll}
use Rattle.cycle_test.specs.declared.reach.Reach.{Reach}
use Rattle.cycle_test.specs.Search.{IsRelaxation, values}
use Rattle.cycle_test.proofs.Bounds.{within_limits}
use Rattle.cycle_test.proofs.Rounds.{begins, nearer, rests}
use Rattle.cycle_test.proofs.Verdicts.{no_cycle}
use Rattle.cycle_test.proofs.verdict.test.Goals as goal

pub rounds-init : goal.rounds-init
rounds-init c = begins c.args.seps.now c.args.n c.in_ok-reaches.reaches.items c.in_ok-reaches.ensures

pub returns-in-AtRest : goal.returns-in-AtRest
returns-in-AtRest c =
    let seps = c.args.seps.now in
    let old = c.rounds.reaches.items in
    let new = c.sweep.new.reaches.items in
    let rest = subst (IsRelaxation seps old new _) c.in-AtRest.is c.in_ok-sweep.ensures in
    let places = c.in_ok-places_of-in-AtRest.field-0 in
    let met = rests seps c.args.n old new places c.rounds.invariant.0 rest
    (c.in_ok-places_of-in-AtRest.ensures ∙ ap (λ (xs : List Reach). values xs) c.deref.ensures.value) in
    record { counted = met.0; satisfied = met.1; positive = tt; exactly = no_cycle seps places met.1 }

pub rounds-smaller : goal.rounds-smaller
rounds-smaller c =
    let seps = c.args.seps.now in
    let old = c.rounds.reaches.items in
    let new = c.sweep.new.reaches.items in
    let rise = subst (IsRelaxation seps old new _) c.in-Raised.is c.in_ok-sweep.ensures in
    nearer seps c.args.n 1000000 old new (within_limits c.args.n seps c.requires.sound) c.rounds.invariant.0 rise

pub returns-in-Some-clause-exactly : goal.returns-in-Some-clause-exactly
returns-in-Some-clause-exactly c =
    let seps = c.args.seps.now in
    let met = subst (λ found. IfSome found (λ (places : List ℤ). (length places ≡ c.args.n) × SatisfiesAll places 1 seps)) c.in-Some.is c.in_ok-places.ensures in
    no_cycle seps c.in-Some.places met.1
