-- The hull of spans holds them, and reaches no further.
use Rattle.std.proofs.Common.{◌≡◌, ◌⊎◌, ◌∙◌, ◌≤ℤ◌, ℤ, List, [], ◌∷◌, ◌++◌, Bool, true, false, cond, Option, Some, None, refl, sym, inl, inr, arith}
use Rattle.std.specs.Prelude.{fold, unwrap_or, pos, int_lt}
use Rattle.std.specs.Int.{int_max, int_min}
use Rattle.std.specs.List.{AllByRecursion}
use Rattle.std.proofs.lemmas.Int.{clamps, ints}
use Rattle.units.specs.declared.geometry.Axis.{Axis}
use Rattle.scene_model.specs.Diagram.{Diagram}
use Rattle.frame_store.specs.declared.places.Places.{Places}
use Rattle.svg_text.specs.Holding.{BeginsOne, EndsOne, HoldsAll, IsWithin}
use Rattle.svg_text.specs.Picture.{bounds, group_spans, hull, page_spans, shape_spans, taken}
use Rattle.svg_text.specs.Steps.{over_page}
use Rattle.svg_text.specs.declared.spans.Span.{Span}

abbrev none : Span
none = record { low = pos 0; high = pos 0 }

-- the hull of a first span and further ones
abbrev joined : Span → List Span → Span
joined t ss = unwrap_or (fold hull (Some t) ss) none

abbrev both : Span → Span → Span
both t s = record { low = int_min t.low s.low; high = int_max t.high s.high }

least_of : (x y : ℤ) → (int_min x y ≡ x) ⊎ (int_min x y ≡ y)
least_of x y = go (int_lt y x)
  where
    go : (b : Bool) → (cond b y x ≡ x) ⊎ (cond b y x ≡ y)
    go true = inr refl
    go false = inl refl

greatest_of : (x y : ℤ) → (int_max x y ≡ x) ⊎ (int_max x y ≡ y)
greatest_of x y = go (int_lt y x)
  where
    go : (b : Bool) → (cond b x y ≡ x) ⊎ (cond b x y ≡ y)
    go true = inl refl
    go false = inr refl

-- it holds the first and all the others
holds : (t : Span) (ss : List Span) → IsWithin (joined t ss) t × AllByRecursion (IsWithin (joined t ss)) ss
holds t [] = ((omega (arith, ints), omega (arith, ints)), tt)
holds t (s ∷ ss) =
    let more = holds (both t s) ss in
    let low : (joined (both t s) ss).low ≤ℤ int_min t.low s.low = more.0.0 in
    let high : int_max t.high s.high ≤ℤ (joined (both t s) ss).high = more.0.1 in
    ((omega (arith, ints, clamps), omega (arith, ints, clamps)), ((omega (arith, ints, clamps), omega (arith, ints, clamps)), more.1))

begins : (t : Span) (ss : List Span) → ((t.low ≡ (joined t ss).low) ⊎ BeginsOne (joined t ss).low ss)
begins t [] = inl refl
begins t (s ∷ ss) = elim (begins (both t s) ss) [
  | inl here ↦ elim (least_of t.low s.low) [ inl first ↦ inl (sym first ∙ here) | inr second ↦ inr (inl (sym second ∙ here)) ]
  | inr there ↦ inr (inr there)
]

ends : (t : Span) (ss : List Span) → ((t.high ≡ (joined t ss).high) ⊎ EndsOne (joined t ss).high ss)
ends t [] = inl refl
ends t (s ∷ ss) = elim (ends (both t s) ss) [
  | inl here ↦ elim (greatest_of t.high s.high) [ inl first ↦ inl (sym first ∙ here) | inr second ↦ inr (inl (sym second ∙ here)) ]
  | inr there ↦ inr (inr there)
]

holds_all : (ss : List Span) → HoldsAll ss (unwrap_or (fold hull None ss) none)
holds_all [] = refl
holds_all (s ∷ ss) = ((((holds s ss).0, (holds s ss).1)), begins s ss, ends s ss)

fold_behind : (o : Option Span) (xs ys : List Span) → fold hull o (xs ++ ys) ≡ fold hull (fold hull o xs) ys
fold_behind o [] ys = refl
fold_behind o (x ∷ xs) ys = fold_behind (hull o x) xs ys

-- the hull of all, sort by sort
pub over_all : (d : Diagram) (axis : Axis) (places : Places) → over_page d axis places ≡ fold hull None (taken d axis places)
over_all d axis places =
    let shapes = shape_spans d axis places in
    let groups = group_spans d axis places in
    let pages = page_spans d axis places in
    sym (fold_behind None shapes (groups ++ pages) ∙ fold_behind (fold hull None shapes) groups pages)

-- the law
pub bounds_hold : (d : Diagram) (axis : Axis) (places : Places) → HoldsAll (taken d axis places) (bounds d axis places)
bounds_hold d axis places = holds_all (taken d axis places)
