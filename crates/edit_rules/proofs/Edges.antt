-- The corners of a group.
use Rattle.std.proofs.Common.{◌≡◌, ◌≤◌, ◌+◌, ℕ, zero, suc, ℤ, pos, ◌+ℤ◌, ◌-ℤ◌, ◌≤ℤ◌, ◌⊎◌, inl, inr, nat_abs, List, [], ◌∷◌, ◌++◌, Bool, true, false, cond, map, take, length, slice_get, Option, Some, None, refl, ap, sym, ◌∙◌, subst, arith}
use Rattle.std.specs.Prelude.{fold, filter, int_lt, IfSome}
use Rattle.std.specs.Int.{int_min, int_max}
use Rattle.std.specs.List.{AllByRecursion, list_any}
use Rattle.std.specs.Option.{option_map_or}
use Rattle.std.proofs.lemmas.Int.{ints, int_min_is, int_max_is}
use Rattle.std.proofs.lemmas.List.{map-append, append-nil}
use Rattle.std.proofs.lemmas.List.Elements.{filter-append}
use Rattle.std.proofs.Math.Seq.{take-length}
use Rattle.scene_model.proofs.Named.{take-next}
use Rattle.units.specs.declared.geometry.Axis.{Axis}
use Rattle.units.specs.declared.geometry.Axis.TheVariants.{X, Y}
use Rattle.scene_model.specs.declared.items.Shape.{Shape}
use Rattle.scene_model.specs.Names.{NameOf, same_name}
use Rattle.scene_model.specs.Diagram.{Diagram}
use Rattle.scene_model.specs.Sound.{IsShape, IsBorder}
use Rattle.scene_model.specs.Variables.{low, high}
use Rattle.edit_rules.specs.Corners.{IsMember, IsLowCorner, IsHighCorner}
use Rattle.edit_rules.specs.Effects.{least, greatest, member_shapes, low_corner, high_corner}

-- ---- bounds

-- a choice between two numbers near 0 is near 0, and so is that of a list
module _ (bound : ℕ) (choose : ℤ → ℤ → ℤ) (near : (a b : ℤ) → nat_abs a ≤ bound → nat_abs b ≤ bound → nat_abs (choose a b) ≤ bound) where
  fold-near : (zs : List ℤ) (o : Option ℤ) → IfSome o (λ z. nat_abs z ≤ bound) → AllByRecursion (λ z. nat_abs z ≤ bound) zs → IfSome (fold (λ (o : Option ℤ) (z : ℤ). Some (option_map_or (choose z) o z)) o zs) (λ z. nat_abs z ≤ bound)
  fold-near [] o at all = at
  fold-near (z ∷ zs) o at all = fold-near zs (Some (option_map_or (choose z) o z)) (next o at) all.1
    where
      next : (o : Option ℤ) → IfSome o (λ y. nat_abs y ≤ bound) → nat_abs (option_map_or (choose z) o z) ≤ bound
      next None at = all.0
      next (Some y) at = near z y all.0 at

or_zero : (bound : ℕ) (o : Option ℤ) → IfSome o (λ z. nat_abs z ≤ bound) → nat_abs (option_map_or (λ z. z) o (pos 0)) ≤ bound
or_zero bound None at = omega arith
or_zero bound (Some z) at = at

min-near : (bound : ℕ) (a b : ℤ) → nat_abs a ≤ bound → nat_abs b ≤ bound → nat_abs (int_min a b) ≤ bound
min-near bound a b at_a at_b = omega (arith, ints, int_min_is a b, at_a, at_b)

max-near : (bound : ℕ) (a b : ℤ) → nat_abs a ≤ bound → nat_abs b ≤ bound → nat_abs (int_max a b) ≤ bound
max-near bound a b at_a at_b = omega (arith, ints, int_max_is a b, at_a, at_b)

low-near : (axis : Axis) (s : Shape) → IsShape s → nat_abs (low axis s) ≤ 1010000
low-near X s sound = omega (arith, sound.x)
low-near Y s sound = omega (arith, sound.y)

high-near : (axis : Axis) (s : Shape) → IsShape s → nat_abs (high axis s) ≤ 1010000
high-near X s sound = omega (arith, ints, sound.x, sound.w.0, sound.w.1)
high-near Y s sound = omega (arith, ints, sound.y, sound.h.0, sound.h.1)

edges-near : (edge : Shape → ℤ) → ((s : Shape) → IsShape s → nat_abs (edge s) ≤ 1010000) → (p : Shape → Bool) (ss : List Shape) → AllByRecursion IsShape ss → AllByRecursion (λ z. nat_abs z ≤ 1010000) (map edge (filter p ss))
edges-near edge near p [] all = tt
edges-near edge near p (s ∷ ss) all = by (p s) (edges-near edge near p ss all.1)
  where
    by : (b : Bool) → AllByRecursion (λ z. nat_abs z ≤ 1010000) (map edge (filter p ss)) → AllByRecursion (λ z. nat_abs z ≤ 1010000) (map edge (cond b (s ∷ filter p ss) (filter p ss)))
    by true rest = (near s all.0, rest)
    by false rest = rest

pub least-near : (d : Diagram) (members : List NameOf) (axis : Axis) → AllByRecursion IsShape d.shapes → IfSome (least (map (low axis) (member_shapes d members))) (λ z. nat_abs z ≤ 1010000)
least-near d members axis sound =
    fold-near 1010000 int_min (min-near 1010000) (map (low axis) (member_shapes d members)) None tt
    (edges-near (low axis) (low-near axis) (λ (s : Shape). list_any (same_name s.name) members) d.shapes sound)

pub greatest-near : (d : Diagram) (members : List NameOf) (axis : Axis) → AllByRecursion IsShape d.shapes → IfSome (greatest (map (high axis) (member_shapes d members))) (λ z. nat_abs z ≤ 1010000)
greatest-near d members axis sound =
    fold-near 1010000 int_max (max-near 1010000) (map (high axis) (member_shapes d members)) None tt
    (edges-near (high axis) (high-near axis) (λ (s : Shape). list_any (same_name s.name) members) d.shapes sound)

pub low_corner-near : (d : Diagram) (members : List NameOf) (pad : ℤ) (axis : Axis) → AllByRecursion IsShape d.shapes → IsBorder pad → nat_abs (low_corner d members pad axis) ≤ 1020000
low_corner-near d members pad axis sound border =
    let edge = or_zero 1010000 (least (map (low axis) (member_shapes d members))) (least-near d members axis sound) in
    omega (arith, ints, edge, border.0, border.1)

pub high_corner-near : (d : Diagram) (members : List NameOf) (pad : ℤ) (axis : Axis) → AllByRecursion IsShape d.shapes → IsBorder pad → nat_abs (high_corner d members pad axis) ≤ 1020000
high_corner-near d members pad axis sound border =
    let edge = or_zero 1010000 (greatest (map (high axis) (member_shapes d members))) (greatest-near d members axis sound) in
    omega (arith, ints, edge, border.0, border.1)

-- ---- the shapes so far

fold-push : {A B : Type 0} (f : B → A → B) (b : B) (xs : List A) (x : A) → fold f b (xs ++ x ∷ []) ≡ f (fold f b xs) x
fold-push f b [] x = refl
fold-push f b (y ∷ ys) x = fold-push f (f b y) ys x

module _ (f : Option ℤ → ℤ → Option ℤ) (edge : Shape → ℤ) (p : Shape → Bool) (ss : List Shape) (k : ℕ) (s : Shape) (at : slice_get ss k ≡ Some s) where
  split : filter p (take (k + 1) ss) ≡ filter p (take k ss) ++ filter p (s ∷ [])
  split = ap (filter p) (take-next ss k s at) ∙ filter-append p (take k ss) (s ∷ [])

  -- one that is a member comes last
  one_member_more : p s ≡ true → fold f None (map edge (filter p (take (k + 1) ss))) ≡ f (fold f None (map edge (filter p (take k ss)))) (edge s)
  one_member_more is =
      ap (λ xs. fold f None (map edge xs)) (split ∙ ap (λ b. filter p (take k ss) ++ cond b (s ∷ []) []) is)
      ∙ (ap (fold f None) (map-append edge (filter p (take k ss)) (s ∷ [])) ∙ fold-push f None (map edge (filter p (take k ss))) (edge s))

  -- one that is none changes nothing
  no_member_more : p s ≡ false → fold f None (map edge (filter p (take (k + 1) ss))) ≡ fold f None (map edge (filter p (take k ss)))
  no_member_more is = ap (λ xs. fold f None (map edge xs)) (split ∙ (ap (λ b. filter p (take k ss) ++ cond b (s ∷ []) []) is ∙ append-nil (filter p (take k ss))))

  -- one more shape
  pub next_shape : fold f None (map edge (filter p (take (k + 1) ss))) ≡ cond (p s) (f (fold f None (map edge (filter p (take k ss)))) (edge s)) (fold f None (map edge (filter p (take k ss))))
  next_shape = by (p s) refl
    where
      by : (b : Bool) → p s ≡ b → fold f None (map edge (filter p (take (k + 1) ss))) ≡ cond b (f (fold f None (map edge (filter p (take k ss)))) (edge s)) (fold f None (map edge (filter p (take k ss))))
      by true is = one_member_more is
      by false is = no_member_more is

-- all of them
pub all_members : (f : Option ℤ → ℤ → Option ℤ) (edge : Shape → ℤ) (p : Shape → Bool) (ss : List Shape) (k : ℕ) → k ≡ length ss
    → fold f None (map edge (filter p (take k ss))) ≡ fold f None (map edge (filter p ss))
all_members f edge p ss k end = ap (λ xs. fold f None (map edge (filter p xs))) (ap (λ i. take i ss) end ∙ take-length ss)

-- ---- the least edge, and the greatest, is that of a member

-- the shape at some place passes, and has the edge
pub record HasEdge (edge : Shape → ℤ) (p : Shape → Bool) (ss : List Shape) (m : ℤ) : Type 0 where
  pub at : ℕ
  pub shape : Shape
  pub there : slice_get ss at ≡ Some shape
  pub passes : p shape ≡ true
  pub is : m ≡ edge shape

later_edge : (edge : Shape → ℤ) (p : Shape → Bool) (s : Shape) (ss : List Shape) (m : ℤ) → HasEdge edge p ss m → HasEdge edge p (s ∷ ss) m
later_edge edge p s ss m h = record { at = suc h.at; shape = h.shape; there = h.there; passes = h.passes; is = h.is }

-- the number is before the edges of all that pass
abbrev AllBehind : (before : ℤ → ℤ → Type 0) (edge : Shape → ℤ) (p : Shape → Bool) (ss : List Shape) (m : ℤ) → Type 0
AllBehind before edge p ss m = (k : ℕ) (s : Shape) → slice_get ss k ≡ Some s → p s ≡ true → before m (edge s)

module _ (before : ℤ → ℤ → Type 0) (same : (a : ℤ) → before a a) (then : (a b c : ℤ) → before a b → before b c → before a c)
    (choose : ℤ → ℤ → ℤ) (first : (a b : ℤ) → before (choose a b) a) (second : (a b : ℤ) → before (choose a b) b) (either : (a b : ℤ) → (choose a b ≡ a) ⊎ (choose a b ≡ b))
    (edge : Shape → ℤ) (p : Shape → Bool) where
  abbrev best : Option ℤ → List ℤ → Option ℤ
  best o zs = fold (λ (o : Option ℤ) (z : ℤ). Some (option_map_or (choose z) o z)) o zs

  -- the best of an edge and those of the shapes that pass
  record IsBest (ss : List Shape) (y m : ℤ) : Type 0 where
    value : best (Some y) (map edge (filter p ss)) ≡ Some m
    least : before m y
    all : AllBehind before edge p ss m
    some : (m ≡ y) ⊎ HasEdge edge p ss m

  best_from : (ss : List Shape) (y : ℤ) → (m : ℤ) × IsBest ss y m
  best_from [] y = (y, record { value = refl; least = same y; all = λ k s there. cc; some = inl refl })
  best_from (s ∷ ss) y = by (p s) refl (best_from ss (choose (edge s) y)) (best_from ss y)
    where
      by : (b : Bool) → p s ≡ b → (m : ℤ) × IsBest ss (choose (edge s) y) m → (m : ℤ) × IsBest ss y m → (m : ℤ) × IsBest (s ∷ ss) y m
      by true passes with_s without_s = (
        with_s.0,
        record {
          value = ap (λ b. best (Some y) (map edge (cond b (s ∷ filter p ss) (filter p ss)))) passes ∙ with_s.1.value;
          least = then with_s.0 (choose (edge s) y) y with_s.1.least (second (edge s) y);
          all = all;
          some = some with_s.1.some;
        },
      )
        where
          all : AllBehind before edge p (s ∷ ss) with_s.0
          all zero t there h = let is : s ≡ t = cc in subst (λ (u : Shape). before with_s.0 (edge u)) is (then with_s.0 (choose (edge s) y) (edge s) with_s.1.least (first (edge s) y))
          all (suc k) t there h = with_s.1.all k t there h

          some : (with_s.0 ≡ choose (edge s) y) ⊎ HasEdge edge p ss with_s.0 → (with_s.0 ≡ y) ⊎ HasEdge edge p (s ∷ ss) with_s.0
          some (inl is) = chosen (either (edge s) y)
            where
              chosen : (choose (edge s) y ≡ edge s) ⊎ (choose (edge s) y ≡ y) → (with_s.0 ≡ y) ⊎ HasEdge edge p (s ∷ ss) with_s.0
              chosen (inl e) = inr (record { at = 0; shape = s; there = refl; passes = passes; is = is ∙ e })
              chosen (inr e) = inl (is ∙ e)
          some (inr has) = inr (later_edge edge p s ss with_s.0 has)
      by false fails with_s without_s = (
        without_s.0,
        record {
          value = ap (λ b. best (Some y) (map edge (cond b (s ∷ filter p ss) (filter p ss)))) fails ∙ without_s.1.value;
          least = without_s.1.least;
          all = all;
          some = some without_s.1.some;
        },
      )
        where
          all : AllBehind before edge p (s ∷ ss) without_s.0
          all zero t there h = let is : s ≡ t = cc in let no = ap p is in cc
          all (suc k) t there h = without_s.1.all k t there h

          some : (without_s.0 ≡ y) ⊎ HasEdge edge p ss without_s.0 → (without_s.0 ≡ y) ⊎ HasEdge edge p (s ∷ ss) without_s.0
          some (inl is) = inl is
          some (inr has) = inr (later_edge edge p s ss without_s.0 has)

  -- the best edge of the shapes that pass, of which there is one
  pub record IsBestEdge (ss : List Shape) (m : ℤ) : Type 0 where
    pub value : best None (map edge (filter p ss)) ≡ Some m
    pub all : AllBehind before edge p ss m
    pub some : HasEdge edge p ss m

  pub best_edge : (ss : List Shape) (k : ℕ) (t : Shape) → slice_get ss k ≡ Some t → p t ≡ true → (m : ℤ) × IsBestEdge ss m
  best_edge [] k t there passes = cc
  best_edge (s ∷ ss) k t there passes = by (p s) refl (best_edge ss)
    where
      by : (b : Bool) → p s ≡ b → ((k : ℕ) (t : Shape) → slice_get ss k ≡ Some t → p t ≡ true → (m : ℤ) × IsBestEdge ss m) → (m : ℤ) × IsBestEdge (s ∷ ss) m
      by true here rest =
          let x = best_from ss (edge s) in (
            x.0,
            record {
              value = ap (λ b. best None (map edge (cond b (s ∷ filter p ss) (filter p ss)))) here ∙ x.1.value;
              all = all x.0 x.1.least x.1.all;
              some = some x.0 x.1.some;
            },
          )
        where
          all : (m : ℤ) → before m (edge s) → AllBehind before edge p ss m → AllBehind before edge p (s ∷ ss) m
          all m lowest rest zero u at h = let is : s ≡ u = cc in subst (λ (v : Shape). before m (edge v)) is lowest
          all m lowest rest (suc j) u at h = rest j u at h

          some : (m : ℤ) → (m ≡ edge s) ⊎ HasEdge edge p ss m → HasEdge edge p (s ∷ ss) m
          some m (inl is) = record { at = 0; shape = s; there = refl; passes = here; is = is }
          some m (inr has) = later_edge edge p s ss m has
      by false here rest = later k there
        where
          all : (m : ℤ) → AllBehind before edge p ss m → AllBehind before edge p (s ∷ ss) m
          all m rest zero u at h = let is : s ≡ u = cc in let no = ap p is in cc
          all m rest (suc j) u at h = rest j u at h

          later : (k : ℕ) → slice_get (s ∷ ss) k ≡ Some t → (m : ℤ) × IsBestEdge (s ∷ ss) m
          later zero at = let is : s ≡ t = cc in let no = ap p is in cc
          later (suc j) at =
              let x = rest j t at passes in (
                x.0,
                record {
                  value = ap (λ b. best None (map edge (cond b (s ∷ filter p ss) (filter p ss)))) here ∙ x.1.value;
                  all = all x.0 x.1.all;
                  some = later_edge edge p s ss x.0 x.1.some;
                },
              )

-- ---- the corners of a group

le-same : (a : ℤ) → a ≤ℤ a
le-same a = omega (arith, ints)

le-then : (a b c : ℤ) → a ≤ℤ b → b ≤ℤ c → a ≤ℤ c
le-then a b c ab bc = omega (arith, ints, ab, bc)

ge-then : (a b c : ℤ) → b ≤ℤ a → c ≤ℤ b → c ≤ℤ a
ge-then a b c ba cb = omega (arith, ints, ba, cb)

min-first : (a b : ℤ) → int_min a b ≤ℤ a
min-first a b = omega (arith, ints, int_min_is a b)

min-second : (a b : ℤ) → int_min a b ≤ℤ b
min-second a b = omega (arith, ints, int_min_is a b)

max-first : (a b : ℤ) → a ≤ℤ int_max a b
max-first a b = omega (arith, ints, int_max_is a b)

max-second : (a b : ℤ) → b ≤ℤ int_max a b
max-second a b = omega (arith, ints, int_max_is a b)

one_of : (b : Bool) (x y : ℤ) → (cond b x y ≡ x) ⊎ (cond b x y ≡ y)
one_of true x y = inl refl
one_of false x y = inr refl

other_of : (b : Bool) (x y : ℤ) → (cond b y x ≡ x) ⊎ (cond b y x ≡ y)
other_of true x y = inr refl
other_of false x y = inl refl

-- the low corner lies the pad before the least low edge of the members
pub low_corner_is : (d : Diagram) (members : List NameOf) (pad : ℤ) (axis : Axis) (s : Shape) → IsMember d members s → IsLowCorner d members pad axis (low_corner d members pad axis)
low_corner_is d members pad axis s member =
    let best =
    best_edge (λ a b. a ≤ℤ b) le-same le-then int_min min-first min-second (λ a b. other_of (int_lt b a) a b) (low axis) (λ (t : Shape). list_any (same_name t.name) members) d.shapes member.at s member.there
    member.named in
    let corner : low_corner d members pad axis ≡ best.0 -ℤ pad = ap (λ o. option_map_or (λ z. z) o (pos 0) -ℤ pad) best.1.value in
    record {
      shape = best.1.some.shape;
      member = record { at = best.1.some.at; there = best.1.some.there; named = best.1.some.passes };
      is = corner ∙ ap (λ z. z -ℤ pad) best.1.some.is;
      least = λ other m. subst (λ z. z ≤ℤ (low axis other -ℤ pad)) (sym corner) (before best.0 (low axis other) (best.1.all m.at other m.there m.named));
    }
  where
    before : (a b : ℤ) → a ≤ℤ b → (a -ℤ pad) ≤ℤ (b -ℤ pad)
    before a b le = omega (arith, ints, le)

-- the high corner lies the pad behind the greatest high edge of the members
pub high_corner_is : (d : Diagram) (members : List NameOf) (pad : ℤ) (axis : Axis) (s : Shape) → IsMember d members s → IsHighCorner d members pad axis (high_corner d members pad axis)
high_corner_is d members pad axis s member =
    let best =
    best_edge (λ a b. b ≤ℤ a) le-same ge-then int_max max-first max-second (λ a b. one_of (int_lt b a) a b) (high axis) (λ (t : Shape). list_any (same_name t.name) members) d.shapes member.at s member.there
    member.named in
    let corner : high_corner d members pad axis ≡ best.0 +ℤ pad = ap (λ o. option_map_or (λ z. z) o (pos 0) +ℤ pad) best.1.value in
    record {
      shape = best.1.some.shape;
      member = record { at = best.1.some.at; there = best.1.some.there; named = best.1.some.passes };
      is = corner ∙ ap (λ z. z +ℤ pad) best.1.some.is;
      greatest = λ other m. subst (λ z. (high axis other +ℤ pad) ≤ℤ z) (sym corner) (before (high axis other) best.0 (best.1.all m.at other m.there m.named));
    }
  where
    before : (a b : ℤ) → a ≤ℤ b → (a +ℤ pad) ≤ℤ (b +ℤ pad)
    before a b le = omega (arith, ints, le)
