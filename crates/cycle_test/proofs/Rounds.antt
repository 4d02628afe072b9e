-- The rounds of the search: how they begin, that they come to an end, and what they end with.
use Rattle.std.proofs.Common.{◌≡◌, ℕ, ◌-◌, ◌*◌, ◌<◌, ℤ, pos, List, [], ◌∷◌, ◌++◌, length, replicate, nat_eq, sym, refl, ap, ◌∙◌, arith, subst}
use Rattle.std.specs.List.{IsDistinct}
use Rattle.std.proofs.lemmas.List.{length-map, length-replicate, get_or-replicate}
use Rattle.units.specs.declared.geometry.Sep.{Sep}
use Rattle.units.specs.Separation.{SatisfiesAll}
use Rattle.cycle_test.specs.declared.reach.Reach.{Reach}
use Rattle.cycle_test.specs.Cycle.{starts}
use Rattle.cycle_test.specs.Search.{reach_at, values, value_sum, Climbs, IsReached, IsState, IsRaised}
use Rattle.cycle_test.proofs.Bounds.{AreWithin, total_below}

one_distinct : (v : ℕ) → IsDistinct nat_eq (v ∷ [])
unfolding IsDistinct
one_distinct v = (tt, tt)

-- at 0 each variable is reached by the path without arcs
pub all_unreached : (seps : List Sep) (n v : ℕ) → v < n → IsReached seps (replicate n (record { value = 0; path = [] })) v
all_unreached seps n v within =
    let none : Reach = record { value = 0; path = [] } in
    let there : reach_at (replicate n none) v ≡ none = get_or-replicate n v none none within in
    record {
      climbs = (v, subst (λ (reach : Reach). Climbs seps (replicate n none) v (pos 0) reach.path v (pos reach.value)) (sym there) (refl, refl));
      simple = subst (λ (reach : Reach). IsDistinct nat_eq (starts seps reach.path ++ v ∷ [])) (sym there) (one_distinct v);
    }

pub begins : (seps : List Sep) (n : ℕ) (reaches : List Reach) → reaches ≡ replicate n (record { value = 0; path = [] }) →
    (length reaches ≡ n) × IsState seps reaches
begins seps n reaches is =
    let none : Reach = record { value = 0; path = [] } in (
      ap (λ (xs : List Reach). length xs) is ∙ length-replicate n none,
      subst (IsState seps) (sym is) (λ v within. all_unreached seps n v (omega (arith, length-replicate n none))),
    )

-- a round that raised a value brings the values nearer to their bound
pub nearer : (seps : List Sep) (n b : ℕ) (old new : List Reach) → AreWithin n b seps → length old ≡ n → IsRaised seps old new →
    n * (b * n) - value_sum new < n * (b * n) - value_sum old
nearer seps n b old new within as_long rise =
    omega (arith, rise.more, total_below seps n b new within rise.state (rise.same_length ∙ as_long))

-- values at rest are places that satisfy the list
pub rests : (seps : List Sep) (n : ℕ) (old new : List Reach) (places : List ℤ) → length old ≡ n →
    (new ≡ old) × SatisfiesAll (values old) 1 seps → places ≡ values new → (length places ≡ n) × SatisfiesAll places 1 seps
rests seps n old new places as_long rest is =
    let places_is : places ≡ values old = is ∙ ap (λ (xs : List Reach). values xs) rest.0 in (
      ap (λ (ys : List ℤ). length ys) places_is ∙ length-map old (λ (reach : Reach). pos reach.value) ∙ as_long,
      subst (λ (ys : List ℤ). SatisfiesAll ys 1 seps) (sym places_is) rest.1,
    )
