-- The size of a shape that is found by the number of its variable.
use Rattle.std.proofs.Common.{◌≡◌, ◌+◌, ◌≤◌, ℕ, zero, suc, pos, List, [], ◌∷◌, ◌++◌, Bool, true, false, cond, length, map, not, refl, ap, sym, ◌∙◌, arith, slice_get, Some, None}
use Rattle.std.specs.Prelude.{find, position}
use Rattle.std.specs.List.{position_or_len}
use Rattle.std.specs.Option.{option_map_or}
use Rattle.std.proofs.lemmas.Bool.Decides.{nat_tests}
use Rattle.units.specs.declared.geometry.Axis.{Axis}
use Rattle.scene_model.specs.declared.items.Shape.{Shape}
use Rattle.scene_model.specs.declared.variables.VariableName.TheVariants.{OfItem}
use Rattle.scene_model.specs.declared.variables.Variable.{Variable}
use Rattle.scene_model.specs.Names.{NameOf, same_name}
use Rattle.scene_model.specs.Diagram.{Diagram}
use Rattle.scene_model.specs.Variables.{number_or_count, same_variable, shape_variable, size}
use Rattle.scene_model.specs.Meaning.{size_of}
use Rattle.scene_model.proofs.Axes.{variables-front}

-- the first place or the length, one element at a time
pub first-next : {A : Type 0} (p : A → Bool) (x : A) (xs : List A) → position_or_len p (x ∷ xs) ≡ cond (p x) 0 (suc (position_or_len p xs))
first-next p x xs = by (p x)
  where
    by : (b : Bool) → cond (not b) (1 + position_or_len p xs) 0 ≡ cond b 0 (suc (position_or_len p xs))
    by true = refl
    by false = omega arith

-- what is found first among the mapped elements of a list that stands in front is found in it
found-front : {A B : Type 0} (f : A → B) (p : B → Bool) (q : A → Bool) → ((x : A) → p (f x) ≡ q x) → (xs : List A) (rest : List B) (k : ℕ) (x : A)
    → position_or_len p (map f xs ++ rest) ≡ k → slice_get xs k ≡ Some x → find q xs ≡ Some x
found-front f p q agree [] rest k x at there = cc
found-front {A} f p q agree (y ∷ ys) rest k x at there =
    by (q y) k (sym (agree y)) (sym (first-next p (f y) (map f ys ++ rest)) ∙ at) there (λ k at there. found-front f p q agree ys rest k x at there)
  where
    by : (b : Bool) (k : ℕ) → b ≡ p (f y) → cond (p (f y)) 0 (suc (position_or_len p (map f ys ++ rest))) ≡ k → slice_get (y ∷ ys) k ≡ Some x
        → ((k : ℕ) → position_or_len p (map f ys ++ rest) ≡ k → slice_get ys k ≡ Some x → find q ys ≡ Some x) → cond b (Some y) (find q ys) ≡ Some x
    by true k e at there behind = let first : k ≡ 0 = sym at ∙ ap (λ b. cond b 0 (suc (position_or_len p (map f ys ++ rest)))) (sym e) in sym (ap (slice_get (y ∷ ys)) first) ∙ there
    by false zero e at there behind = let no_zero : suc (position_or_len p (map f ys ++ rest)) ≡ 0 = ap (λ b. cond b 0 (suc (position_or_len p (map f ys ++ rest)))) e ∙ at in absurd (omega arith)
    by false (suc k) e at there behind =
        let more : suc (position_or_len p (map f ys ++ rest)) ≡ suc k = ap (λ b. cond b 0 (suc (position_or_len p (map f ys ++ rest)))) e ∙ at in
        behind k (omega arith) there

-- what is found behind it isn't
missed-front : {A B : Type 0} (f : A → B) (p : B → Bool) (q : A → Bool) → ((x : A) → p (f x) ≡ q x) → (xs : List A) (rest : List B)
    → length xs ≤ position_or_len p (map f xs ++ rest) → find q xs ≡ None
missed-front f p q agree [] rest behind = refl
missed-front {A} f p q agree (y ∷ ys) rest behind = by (q y) (sym (agree y)) (first-next p (f y) (map f ys ++ rest)) (λ behind. missed-front f p q agree ys rest behind)
  where
    by : (b : Bool) → b ≡ p (f y) → position_or_len p (map f (y ∷ ys) ++ rest) ≡ cond (p (f y)) 0 (suc (position_or_len p (map f ys ++ rest)))
        → (length ys ≤ position_or_len p (map f ys ++ rest) → find q ys ≡ None) → cond b (Some y) (find q ys) ≡ None
    by true e at more = let first : position_or_len p (map f (y ∷ ys) ++ rest) ≡ 0 = at ∙ ap (λ b. cond b 0 (suc (position_or_len p (map f ys ++ rest)))) (sym e) in absurd (omega arith)
    by false e at passed =
        let more : position_or_len p (map f (y ∷ ys) ++ rest) ≡ suc (position_or_len p (map f ys ++ rest)) = at ∙ ap (λ b. cond b 0 (suc (position_or_len p (map f ys ++ rest)))) (sym e) in
        passed (omega arith)

-- the size of the shape whose variable has the number of the name
pub size_found : (d : Diagram) (axis : Axis) (name : NameOf) (number : ℕ) (s : Shape) → number ≡ number_or_count d axis (OfItem name) → slice_get d.shapes number ≡ Some s → size axis s ≡ size_of d axis name
size_found d axis name number s at there =
    let front = variables-front d axis in
    let found = found-front (shape_variable axis) (λ (v : Variable). same_variable (OfItem name) v.name) (λ (s : Shape). same_name name s.name) (λ s. refl) d.shapes front.0 number s (ap (position_or_len (λ (v : Variable). same_variable (OfItem name) v.name)) (sym front.1) ∙ sym at) there in
    sym (ap (λ o. option_map_or (size axis) o (pos 0)) found)

-- a name whose variable is none of a shape has no size
pub size_missed : (d : Diagram) (axis : Axis) (name : NameOf) (number : ℕ) → number ≡ number_or_count d axis (OfItem name) → length d.shapes ≤ number → pos 0 ≡ size_of d axis name
size_missed d axis name number at behind =
    let front = variables-front d axis in
    let place = ap (position_or_len (λ (v : Variable). same_variable (OfItem name) v.name)) (sym front.1) ∙ sym at in
    let missed = missed-front (shape_variable axis) (λ (v : Variable). same_variable (OfItem name) v.name) (λ (s : Shape). same_name name s.name) (λ s. refl) d.shapes front.0 (omega arith) in
    sym (ap (λ o. option_map_or (size axis) o (pos 0)) missed)

-- a first place is never behind the length
first-within : {A : Type 0} (p : A → Bool) (xs : List A) → position_or_len p xs ≤ length xs
first-within p [] = omega arith
first-within p (x ∷ xs) = by (p x) (first-next p x xs) (first-within p xs)
  where
    by : (b : Bool) → position_or_len p (x ∷ xs) ≡ cond b 0 (suc (position_or_len p xs)) → position_or_len p xs ≤ length xs → position_or_len p (x ∷ xs) ≤ length (x ∷ xs)
    by true e less = omega arith
    by false e less = omega arith

pub number_missed : {A : Type 0} (p : A → Bool) (xs : List A) → position p xs ≡ None → length xs ≡ position_or_len p xs
number_missed p xs at = grind (arith, nat_tests, first-within p xs)
