use Rattle.std.proofs.Common.{◌≡◌, ℕ, ℤ, ◌≤◌, T, Fits, w32, w64, nat_abs, ap, ◌∙◌, rules, List, length, arith, pos, ◌<ℤ◌, ◌≤ℤ◌}
use Rattle.std.proofs.lemmas.Int.{ints, to_z-of_z}
use mir.Val.{SFits}
use lib.Signed.{non_neg}
use Rattle.units.specs.declared.geometry.Sep.{Sep}
use Rattle.cycle_test.specs.declared.arc.CycleArc.{CycleArc}
use Rattle.cycle_test.specs.declared.reach.Reach.{Reach}
use Rattle.cycle_test.specs.Cycle.{start_of}
use Rattle.cycle_test.specs.Search.{reach_at, value_at, asked_by}
use Rattle.cycle_test.proofs.Steps.{closes_at, rises_at, path_taken}
use Rattle.cycle_test.proofs.Bounds.{within_limits, start_below, end_below, gap_near, value_below}
use Rattle.cycle_test.proofs.relax.relax.Goals as goal

-- what was read through a borrow of the state
path_there : (reaches view : List Reach) (v : ℕ) (path : List CycleArc) → view ≡ reaches → path ≡ (reach_at view v).path →
    path ≡ (reach_at reaches v).path
path_there reaches view v path same is = is ∙ ap (λ (xs : List Reach). (reach_at xs v).path) same

asked_there : (seps : List Sep) (reaches view : List Reach) (arc : CycleArc) (asked : ℤ) → view ≡ reaches →
    asked ≡ asked_by seps view arc → asked ≡ asked_by seps reaches arc
asked_there seps reaches view arc asked same is = is ∙ ap (λ (xs : List Reach). asked_by seps xs arc) same

more_there : (reaches view : List Reach) (v value : ℕ) (asked : ℤ) → view ≡ reaches → value ≡ value_at view v → pos value <ℤ asked →
    pos (value_at reaches v) <ℤ asked
more_there reaches view v value asked same is more =
    let there : value_at view v ≡ value_at reaches v = ap (λ (xs : List Reach). value_at xs v) same in omega (arith, ints)

fits_word : (asked : ℤ) (value : ℕ) → pos value <ℤ asked → asked ≤ℤ pos 259000000 → T (non_neg asked) × Fits w32 (nat_abs asked)
fits_word asked value above below = (omega (arith, ints), omega (arith, ints))

pub visit-requires : goal.visit-requires
visit-requires c =
    let seps = c.args.seps.now in
    let reaches = c.args.reaches.now.items in
    let below = start_below seps (length reaches) 1000000 c.args.arc (within_limits (length reaches) seps c.requires.sound) c.requires.arc in
    rw (c.path_of-path.ensures, c.deref-3.ensures.value, c.start-from.ensures) (path_taken seps reaches (start_of seps c.args.arc) (c.requires.state (start_of seps c.args.arc) below))

pub returns-in-Some : goal.returns-in-Some
returns-in-Some c =
    let seps = c.args.seps.now in
    let reaches = c.args.reaches.now.items in
    let arc = c.args.arc in
    let below = start_below seps (length reaches) 1000000 arc (within_limits (length reaches) seps c.requires.sound) c.requires.arc in
    let found = c.in-Some.ensures in
    closes_at seps reaches c.start-from.result c.end-to.result arc c.in-Some.k c.path_of-path.result.now c.in_ok-extended-in-Some.field-0 c.asked_by-asked.result
    c.requires.state (rw (← c.start-from.ensures) at below) c.requires.arc c.start-from.ensures c.end-to.ensures
    (path_there reaches c.deref-3.result.now c.start-from.result c.path_of-path.result.now c.deref-3.ensures.value c.path_of-path.ensures)
    found.0 found.1 c.in_ok-extended-in-Some.ensures
    (asked_there seps reaches c.deref.result.now arc c.asked_by-asked.result c.deref.ensures.value c.asked_by-asked.ensures)
    (more_there reaches c.deref-2.result.now c.end-to.result c.value_of.result c.asked_by-asked.result c.deref-2.ensures.value c.value_of.ensures (omega (arith, ints)))

pub overflow_cast-asked : goal.overflow_cast-asked
overflow_cast-asked c =
    let seps = c.args.seps.now in
    let reaches = c.args.reaches.now.items in
    let arc = c.args.arc in
    let within = within_limits (length reaches) seps c.requires.sound in
    let below = start_below seps (length reaches) 1000000 arc within c.requires.arc in
    let value = value_below seps (length reaches) 1000000 reaches (start_of seps arc) within (c.requires.state (start_of seps arc) below) below in
    let gap = gap_near seps (length reaches) 1000000 arc within c.requires.arc in
    let asked = asked_there seps reaches c.deref.result.now arc c.asked_by-asked.result c.deref.ensures.value c.asked_by-asked.ensures in
    let few : length reaches ≤ 258 = c.requires.few in
    let low : c.asked_by-asked.result ≤ℤ pos 259000000 = omega (arith, ints) in
    let high : pos c.value_of.result <ℤ c.asked_by-asked.result = omega (arith, ints) in
    let fits : SFits w64 c.asked_by-asked.result = search rules in
    rw (to_z-of_z w64 c.asked_by-asked.result fits) (fits_word c.asked_by-asked.result c.value_of.result high low)

pub returns : goal.returns
returns c =
    let seps = c.args.seps.now in
    let reaches = c.args.reaches.now.items in
    let arc = c.args.arc in
    let within = within_limits (length reaches) seps c.requires.sound in
    let from_below = start_below seps (length reaches) 1000000 arc within c.requires.arc in
    let to_below = end_below seps (length reaches) 1000000 arc within c.requires.arc in
    let fits : SFits w64 c.asked_by-asked.result = search rules in
    rises_at seps reaches c.start-from.result c.end-to.result arc c.path_of-path.result.now c.in_ok-path.path c.asked_by-asked.result _
    c.requires.state (rw (← c.start-from.ensures) at from_below) (rw (← c.end-to.ensures) at to_below) c.requires.arc c.start-from.ensures c.end-to.ensures
    (path_there reaches c.deref-3.result.now c.start-from.result c.path_of-path.result.now c.deref-3.ensures.value c.path_of-path.ensures)
    c.in-None.ensures c.in_ok-path.ensures
    (asked_there seps reaches c.deref.result.now arc c.asked_by-asked.result c.deref.ensures.value c.asked_by-asked.ensures)
    (more_there reaches c.deref-2.result.now c.end-to.result c.value_of.result c.asked_by-asked.result c.deref-2.ensures.value c.value_of.ensures (omega (arith, ints)))
    (ap nat_abs (to_z-of_z w64 c.asked_by-asked.result fits))
