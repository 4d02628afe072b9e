-- Each list of separations has places that satisfy it, or a positive cycle: the search, followed in the logic.
use Rattle.std.proofs.Common.{◌≡◌, ℕ, zero, suc, ◌+◌, ◌-◌, ◌*◌, ◌<◌, ◌≤◌, ℤ, pos, neg_ℤ, nat_abs, ◌+ℤ◌, ◌*ℤ◌, ◌≤ℤ◌, ◌<ℤ◌, List, [], ◌∷◌, ◌++◌, length, drop, replicate, Bool, true, false, eqb, slice_set, IsTrue, ◌⊎◌, inl, inr, ⊎_elim, sym, refl, ◌∙◌, arith, subst}
use Rattle.std.proofs.lemmas.Int.{ints, by_lt_z}
use Rattle.std.proofs.lemmas.Bool.{cases_eq, false≢true, eqb-true}
use Rattle.std.specs.List.{list_any}
use Rattle.std.proofs.Math.ListN.{get_or-map}
use Rattle.std.proofs.lemmas.List.{get_or_read, length-append}
use Rattle.std.proofs.lemmas.List.Elements.{All-nil, All-cons, All-weaker, All-from_get_or}
use Rattle.std.proofs.lemmas.List.Folds.{Any-from_list_any}
use Rattle.units.specs.declared.geometry.Sep.{Sep}
use Rattle.units.specs.Separation.{IsApart, Satisfies, place_of, separation_at, no_separation}
use Rattle.cycle_test.specs.declared.arc.CycleArc.{CycleArc}
use Rattle.cycle_test.specs.declared.reach.Reach.{Reach}
use Rattle.cycle_test.specs.Cycle.{IsArc, start_of, end_of, starts, HasPositiveCycle}
use Rattle.cycle_test.specs.Feasibility.{HasPlaces}
use Rattle.cycle_test.specs.Search.{reach_at, value_at, asked_by, values, value_sum, IsState, IsRaised}
use Rattle.cycle_test.proofs.Walks.{length_starts}
use Rattle.cycle_test.proofs.Bounds.{IsWithin, AreWithin, start_below, end_below}
use Rattle.cycle_test.proofs.Cancel.{times_one}
use Rattle.cycle_test.proofs.Steps.{closes, rises}
use Rattle.cycle_test.proofs.Rounds.{begins, nearer}

-- some number of variables and some bound on the gaps
pub limits_of : (seps : List Sep) → (n : ℕ) × (b : ℕ) × AreWithin n b seps
limits_of [] = (0, 0, All-nil (λ sep. IsWithin 0 0 sep))
limits_of (sep ∷ seps) =
    let rest = limits_of seps in
    let n = suc (rest.0 + (sep.left + sep.right)) in
    let b = rest.1 + nat_abs sep.gap in (
      n,
      b,
      All-cons (λ one. IsWithin n b one) sep seps
          (record { left = omega arith; right = omega arith; gap = omega arith })
          (All-weaker (λ one. IsWithin rest.0 rest.1 one) (λ one. IsWithin n b one)
          (λ one fits. record { left = omega (arith, fits.left); right = omega (arith, fits.right); gap = omega (arith, fits.gap) }) seps rest.2),
    )

-- an arc asks for more than the value at its end
pub record AsksMore (seps : List Sep) (reaches : List Reach) (arc : CycleArc) : Type 0 where
  pub taken : IsArc seps arc
  pub more : pos (value_at reaches (end_of seps arc)) <ℤ asked_by seps reaches arc

apart_by : (left right gap : ℤ) (exact : Bool) → (left +ℤ gap) ≤ℤ right → (IsTrue exact → (right +ℤ neg_ℤ gap) ≤ℤ left) →
    IsApart left right (pos 1 *ℤ gap) exact
apart_by left right gap true forth back = let from_right : (right +ℤ neg_ℤ gap) ≤ℤ left = back refl in omega (arith, ints, times_one gap)
apart_by left right gap false forth back = omega (arith, ints, times_one gap)

place_is : (reaches : List Reach) (v : ℕ) → place_of (values reaches) v ≡ pos (value_at reaches v)
place_is reaches v = get_or-map (λ (reach : Reach). pos reach.value) reaches v (record { value = 0; path = [] })

satisfied_by : (reaches : List Reach) (sep : Sep) →
    (pos (value_at reaches sep.left) +ℤ sep.gap) ≤ℤ pos (value_at reaches sep.right) → (IsTrue sep.exact → (pos (value_at reaches sep.right) +ℤ neg_ℤ sep.gap) ≤ℤ pos (value_at reaches sep.left)) →
    Satisfies (values reaches) 1 sep
satisfied_by reaches sep forth back =
    rw (place_is reaches sep.left, place_is reaches sep.right)
    (apart_by (pos (value_at reaches sep.left)) (pos (value_at reaches sep.right)) sep.gap sep.exact forth back)

-- a separation is satisfied, or one of its arcs asks for more
tried_back : (seps : List Sep) (reaches : List Reach) (k : ℕ) (exact : Bool) → exact ≡ (separation_at seps k).exact → k < length seps →
    (pos (value_at reaches (separation_at seps k).left) +ℤ (separation_at seps k).gap) ≤ℤ pos (value_at reaches (separation_at seps k).right) →
    Satisfies (values reaches) 1 (separation_at seps k) ⊎ ((arc : CycleArc) × AsksMore seps reaches arc)
tried_back seps reaches k true is within forth =
    by_lt_z (pos (value_at reaches (separation_at seps k).left)) (pos (value_at reaches (separation_at seps k).right) +ℤ neg_ℤ (separation_at seps k).gap)
    (λ more. inr (record { sep = k; back = true }, record { taken = record { among = within; both_ways = λ _. sym is }; more = more }))
    (λ back. inl (satisfied_by reaches (separation_at seps k) forth (λ _. back)))
tried_back seps reaches k false is within forth =
    inl (satisfied_by reaches (separation_at seps k) forth (λ says. absurd (false≢true (is ∙ says))))

tried_one : (seps : List Sep) (reaches : List Reach) (k : ℕ) → k < length seps →
    Satisfies (values reaches) 1 (separation_at seps k) ⊎ ((arc : CycleArc) × AsksMore seps reaches arc)
tried_one seps reaches k within =
    by_lt_z (pos (value_at reaches (separation_at seps k).right)) (pos (value_at reaches (separation_at seps k).left) +ℤ (separation_at seps k).gap)
    (λ more. inr (record { sep = k; back = false }, record { taken = record { among = within; both_ways = λ says. absurd (false≢true says) }; more = more }))
    (λ forth. tried_back seps reaches k (separation_at seps k).exact refl within forth)

tried : (seps : List Sep) (reaches : List Reach) (k : ℕ) → k ≤ length seps → ((j : ℕ) → j < k → Satisfies (values reaches) 1 (separation_at seps j)) ⊎ ((arc : CycleArc) × AsksMore seps reaches arc)
tried seps reaches zero within = inl (λ j below. absurd (omega arith))
tried seps reaches (suc k) within =
    ⊎_elim
    (λ before. ⊎_elim
    (λ here. inl (λ j below. ⊎_elim
    (λ same. subst (λ (i : ℕ). Satisfies (values reaches) 1 (separation_at seps i)) (sym same) here)
    (λ other. before j (omega arith))
    (cases_eq j k)))
    (λ asks. inr asks)
    (tried_one seps reaches k (omega arith)))
    (λ asks. inr asks)
    (tried seps reaches k (omega arith))

whole_of : (value : ℕ) (asked : ℤ) → pos value <ℤ asked → asked ≡ pos (nat_abs asked)
whole_of value asked more = omega (arith, ints)

above_of : (old new : ℕ) (asked : ℤ) → pos old <ℤ asked → asked ≡ pos new → old < new
above_of old new asked more is = omega (arith, ints)

-- an arc that asks for more closes a cycle or raises a value
stepped : (seps : List Sep) (n b : ℕ) (reaches : List Reach) (arc : CycleArc) (visited : Bool) → AreWithin n b seps →
    IsState seps reaches → length reaches ≡ n → AsksMore seps reaches arc →
    list_any (eqb (end_of seps arc)) (starts seps (reach_at reaches (start_of seps arc)).path ++ start_of seps arc ∷ []) ≡ visited →
    HasPositiveCycle seps ⊎ ((new : List Reach) × IsRaised seps reaches new)
stepped seps n b reaches arc true within state as_long asks is =
    let from = start_of seps arc in
    let path = (reach_at reaches from).path in
    let found = Any-from_list_any (eqb (end_of seps arc)) (starts seps path ++ from ∷ []) is in
    let below = start_below seps n b arc within asks.taken in
    let same : end_of seps arc ≡ found.1 = eqb-true (end_of seps arc) found.1 found.4 in
    let k_within : found.0 ≤ length path = omega (arith, found.2, length-append (starts seps path) (from ∷ []), length_starts seps path) in
    inl (
      drop found.0 path ++ arc ∷ [],
      closes seps reaches from arc found.0 (state from (omega arith)) asks.taken refl k_within
          (sym (get_or_read (starts seps path ++ from ∷ []) found.0 found.1 found.2 (sym found.3) 0) ∙ sym same) asks.more,
    )
stepped seps n b reaches arc false within state as_long asks is =
    let from = start_of seps arc in
    let to = end_of seps arc in
    let path = (reach_at reaches from).path in
    let value = nat_abs (asked_by seps reaches arc) in
    let from_below = start_below seps n b arc within asks.taken in
    let to_below = end_below seps n b arc within asks.taken in
    let more = asks.more in
    let whole : asked_by seps reaches arc ≡ pos value = whole_of (value_at reaches to) (asked_by seps reaches arc) more in
    inr (
      slice_set reaches to (record { value = value; path = path ++ arc ∷ [] }),
      rises seps reaches from arc value state (omega arith) (omega arith) asks.taken refl whole
          (above_of (value_at reaches to) value (asked_by seps reaches arc) more whole) is,
    )

followed : (fuel : ℕ) (seps : List Sep) (n b : ℕ) (reaches : List Reach) → AreWithin n b seps → IsState seps reaches →
    length reaches ≡ n → n * (b * n) - value_sum reaches < fuel → HasPlaces seps ⊎ HasPositiveCycle seps
followed zero seps n b reaches within state as_long left = absurd (omega arith)
followed (suc fuel) seps n b reaches within state as_long left =
    ⊎_elim
    (λ all. inl (values reaches, All-from_get_or (λ separation. Satisfies (values reaches) 1 separation) seps no_separation all))
    (λ asks. ⊎_elim
    (λ cycle. inr cycle)
    (λ rise.
    let closer = nearer seps n b reaches rise.0 within as_long rise.1 in
    followed fuel seps n b rise.0 within rise.1.state (rise.1.same_length ∙ as_long) (omega arith))
    (stepped seps n b reaches asks.0 _ within state as_long asks.1 refl))
    (tried seps reaches (length seps) (omega arith))

pub one_of_both : (seps : List Sep) → HasPlaces seps ⊎ HasPositiveCycle seps
one_of_both seps =
    let limits = limits_of seps in
    let n = limits.0 in
    let none : Reach = record { value = 0; path = [] } in
    let start = begins seps n (replicate n none) refl in
    followed (suc (n * (limits.1 * n) - value_sum (replicate n none))) seps n limits.1 (replicate n none) limits.2 start.1 start.0 (omega arith)
