-- Desired places lie within 2,000,000 of 0.
use Rattle.std.proofs.Common.{◌≡◌, ◌<◌, ◌≤◌, ℕ, zero, suc, ℤ, pos, negsuc, ◌+ℤ◌, nat_abs, int_div, List, [], ◌∷◌, ◌++◌, Bool, true, false, cond, length, map, take, drop, get_or, slice_get, Option, Some, None, refl, sym, subst, arith}
use Rattle.std.specs.Prelude.{fold, nat_lt, All, IfSome}
use Rattle.std.specs.Int.{int_min, int_max}
use Rattle.std.specs.List.{range_with_len, flat_map, AllByRecursion}
use Rattle.std.specs.Option.{option_map_or}
use Rattle.std.proofs.lemmas.Int.{ints, int_min_is, int_max_is}
use Rattle.std.proofs.lemmas.List.Elements.{All-append, All-map, All-from_get_or}
use Rattle.units.specs.Number.{clamped}
use Rattle.units.specs.declared.geometry.Axis.{Axis}
use Rattle.units.specs.declared.geometry.Axis.TheVariants.{X, Y}
use Rattle.scene_model.specs.declared.items.Shape.{Shape}
use Rattle.scene_model.specs.declared.items.Group.{Group}
use Rattle.scene_model.specs.declared.items.Page.{Page}
use Rattle.scene_model.specs.Names.{NameOf}
use Rattle.scene_model.specs.Diagram.{Diagram}
use Rattle.scene_model.specs.Sound.{IsShape, IsGroup, IsPage, IsSound}
use Rattle.scene_model.specs.Variables.{guides_on}
use Rattle.frame_store.specs.declared.places.Places.{Places}
use Rattle.hop_graph.specs.Links.{shape_number}
use Rattle.stress_step.specs.Spots.{on_axis, low_at, size_at}
use Rattle.stress_step.specs.Stress.{stress}
use Rattle.stress_step.specs.Pulls.{pull}
use Rattle.stress_step.specs.Proposal.{candidate, first_better, better_places, divisors, lesser, greater, or_zero, edge_low, edge_high, group_edges, page_edges, desired, proposal, HasNearDesired}
use Rattle.stress_step.proofs.Ranges.{extent}

abbrev Near : ℤ → Type 0
Near z = nat_abs z ≤ 2000000

clamped-near : (z : ℤ) → nat_abs (clamped z) ≤ 1000000
clamped-near z = omega (arith, ints, int_min_is z (pos 1000000), int_max_is (negsuc 999999) (int_min z (pos 1000000)))

-- a list of clamped numbers
clamped-all : {A : Type 0} (f : A → ℤ) (xs : List A) (e : A) → All Near (map (λ x. clamped (f x)) xs)
clamped-all f xs e = All-map Near (λ x. clamped (f x)) xs (All-from_get_or (λ x. Near (clamped (f x))) xs e (λ i inside. let near = clamped-near (f (get_or xs i e)) in omega (arith, near)))

-- ---- the shapes

module _ (d : Diagram) (places : Places) where
  record IsNearBy (p : Places) : Type 0 where
    x : All Near p.x
    y : All Near p.y

  candidate-near : (divisor : ℕ) → IsNearBy (candidate d places divisor)
  candidate-near divisor = record {
    x = clamped-all (λ (i : ℕ). low_at X places i +ℤ int_div (pull d X places i) (pos divisor)) (range_with_len 0 (length d.shapes)) 0;
    y = clamped-all (λ (i : ℕ). low_at Y places i +ℤ int_div (pull d Y places i) (pos divisor)) (range_with_len 0 (length d.shapes)) 0;
  }

  better-near : (ds : List ℕ) → IsNearBy (first_better d places ds)
  unfolding first_better
  better-near [] = record {
    x = clamped-all (λ (i : ℕ). get_or places.x i (pos 0)) (range_with_len 0 (length d.shapes)) 0;
    y = clamped-all (λ (i : ℕ). get_or places.y i (pos 0)) (range_with_len 0 (length d.shapes)) 0;
  }
  better-near (divisor ∷ others) = by (nat_lt (stress d (candidate d places divisor)) (stress d places)) (better-near others)
    where
      by : (b : Bool) → IsNearBy (first_better d places others) → IsNearBy (cond b (candidate d places divisor) (first_better d places others))
      by true rest = candidate-near divisor
      by false rest = rest

-- ---- groups and page

-- what a fold chooses among numbers near 0 is near 0
module _ (choose : ℤ → ℤ → ℤ) (either : (a b : ℤ) → nat_abs a ≤ 1010000 → nat_abs b ≤ 1010000 → nat_abs (choose a b) ≤ 1010000) where
  fold-near : {A : Type 0} (f : A → ℤ) → ((x : A) → nat_abs (f x) ≤ 1010000) → (xs : List A) (o : Option ℤ) → IfSome o (λ z. nat_abs z ≤ 1010000)
      → nat_abs (or_zero (fold (λ (o : Option ℤ) (z : ℤ). Some (option_map_or (choose z) o z)) o (map f xs))) ≤ 1010000
  fold-near f near [] None at = omega arith
  fold-near f near [] (Some z) at = at
  fold-near f near (x ∷ xs) None at = fold-near f near xs (Some (f x)) (near x)
  fold-near f near (x ∷ xs) (Some z) at = fold-near f near xs (Some (choose (f x) z)) (either (f x) z (near x) at)

min-near : (a b : ℤ) → nat_abs a ≤ 1010000 → nat_abs b ≤ 1010000 → nat_abs (int_min a b) ≤ 1010000
min-near a b at_a at_b = omega (arith, ints, int_min_is a b, at_a, at_b)

max-near : (a b : ℤ) → nat_abs a ≤ 1010000 → nat_abs b ≤ 1010000 → nat_abs (int_max a b) ≤ 1010000
max-near a b at_a at_b = omega (arith, ints, int_max_is a b, at_a, at_b)

shape-at : (ss : List Shape) → AllByRecursion IsShape ss → (i : ℕ) (s : Shape) → slice_get ss i ≡ Some s → IsShape s
shape-at [] all i s at = cc
shape-at (t ∷ ss) all zero s at = let same : t ≡ s = cc in subst IsShape same all.0
shape-at (t ∷ ss) all (suc i) s at = shape-at ss all.1 i s at

module _ (d : Diagram) (axis : Axis) (better : Places) (sound : IsSound d) where
  size-near : (i : ℕ) (o : Option Shape) → slice_get d.shapes i ≡ o → nat_abs (low_at axis better i +ℤ size_at axis (slice_get d.shapes i)) ≤ 1010000
  size-near i o e = subst (λ (p : Option Shape). nat_abs (low_at axis better i +ℤ size_at axis p) ≤ 1010000) (sym e) (at o e)
    where
      low : nat_abs (low_at axis better i) ≤ 1000000
      low = clamped-near (get_or (on_axis axis better) i (pos 0))

      at : (o : Option Shape) → slice_get d.shapes i ≡ o → nat_abs (low_at axis better i +ℤ size_at axis o) ≤ 1010000
      at None e = omega (arith, ints, low)
      at (Some s) e = let whole = extent axis s (shape-at d.shapes sound.shapes i s e) in omega (arith, ints, low, whole.0, whole.1)

  low-near : (name : NameOf) → nat_abs (edge_low d axis better name) ≤ 1010000
  low-near name = by (shape_number d name)
    where
      by : (o : Option ℕ) → nat_abs (option_map_or (low_at axis better) o (pos 0)) ≤ 1010000
      by None = omega arith
      by (Some i) = let near : nat_abs (low_at axis better i) ≤ 1000000 = clamped-near (get_or (on_axis axis better) i (pos 0)) in omega (arith, near)

  high-near : (name : NameOf) → nat_abs (edge_high d axis better name) ≤ 1010000
  high-near name = by (shape_number d name)
    where
      by : (o : Option ℕ) → nat_abs (option_map_or (λ i. low_at axis better i +ℤ size_at axis (slice_get d.shapes i)) o (pos 0)) ≤ 1010000
      by None = omega arith
      by (Some i) = size-near i (slice_get d.shapes i) refl

  group-near : (g : Group) → IsGroup d.shapes d.guides g → All Near (group_edges d axis better g)
  group-near g is = All-from_get_or Near (group_edges d axis better g) (pos 0) at
    where
      least : nat_abs (or_zero (fold lesser None (map (edge_low d axis better) g.members))) ≤ 1010000
      least = fold-near int_min min-near (edge_low d axis better) low-near g.members None tt

      greatest : nat_abs (or_zero (fold greater None (map (edge_high d axis better) g.members))) ≤ 1010000
      greatest = fold-near int_max max-near (edge_high d axis better) high-near g.members None tt

      at : (i : ℕ) → i < 2 → Near (get_or (group_edges d axis better g) i (pos 0))
      at zero inside = omega (arith, ints, least, is.pad.0, is.pad.1)
      at (suc zero) inside = omega (arith, ints, greatest, is.pad.0, is.pad.1)
      at (suc (suc i)) inside = absurd (omega arith)

  groups-near : (gs : List Group) → AllByRecursion (IsGroup d.shapes d.guides) gs → All Near (flat_map (group_edges d axis better) gs)
  groups-near [] all = All-from_get_or Near [] (pos 0) (λ i inside. absurd (omega arith))
  groups-near (g ∷ gs) all = All-append Near (group_edges d axis better g) (flat_map (group_edges d axis better) gs) (group-near g all.0) (groups-near gs all.1)

  page-near : (p : Page) → IsPage p → All Near (page_edges axis p)
  page-near p is = All-from_get_or Near (page_edges axis p) (pos 0) (on axis)
    where
      on : (axis : Axis) (i : ℕ) → i < 2 → Near (get_or (page_edges axis p) i (pos 0))
      on X zero inside = omega (arith, ints, is.x)
      on Y zero inside = omega (arith, ints, is.y)
      on X (suc zero) inside = omega (arith, ints, is.x, is.w.0, is.w.1)
      on Y (suc zero) inside = omega (arith, ints, is.y, is.h.0, is.h.1)
      on axis (suc (suc i)) inside = absurd (omega arith)

  pages-near : (ps : List Page) → AllByRecursion IsPage ps → All Near (flat_map (page_edges axis) ps)
  pages-near [] all = All-from_get_or Near [] (pos 0) (λ i inside. absurd (omega arith))
  pages-near (p ∷ ps) all = All-append Near (page_edges axis p) (flat_map (page_edges axis) ps) (page-near p all.0) (pages-near ps all.1)

  desired-near : (places : Places) → All Near (on_axis axis better) → All Near (desired d axis better places)
  desired-near places shapes =
      let guides = take (length (guides_on axis d.guides)) (drop (length d.shapes) (on_axis axis places)) in
      let groups = flat_map (group_edges d axis better) d.groups in
      All-append Near (on_axis axis better ++ map clamped guides ++ groups) (flat_map (page_edges axis) d.pages)
      (All-append Near (on_axis axis better ++ map clamped guides) groups
      (All-append Near (on_axis axis better) (map clamped guides) shapes (clamped-all (λ z. z) guides (pos 0)))
      (groups-near d.groups sound.groups))
      (pages-near d.pages sound.pages)

pub proposal-near : (d : Diagram) (places : Places) → IsSound d → HasNearDesired (proposal d places)
proposal-near d places sound =
    let better = better-near d places divisors in
    record {
      x = desired-near d X (better_places d places) sound places better.x;
      y = desired-near d Y (better_places d places) sound places better.y;
    }
