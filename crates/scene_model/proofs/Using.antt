-- The first user of a name, and what an item uses.
use Rattle.std.proofs.Common.{◌≡◌, ◌+◌, ℕ, zero, suc, List, [], ◌∷◌, ◌++◌, Bool, true, false, cond, ◌||◌, length, map, take, Option, Some, None, refl, ap, sym, ◌∙◌, slice_get, subst}
use Rattle.std.specs.Prelude.{find, position, slice_set}
use Rattle.std.specs.List.{list_any, AllByRecursion, IsDistinct}
use Rattle.std.proofs.lemmas.Map.Keys.{IsDistinct-head, IsDistinct-tail}
use Rattle.std.proofs.lemmas.Slice.Eq.{bytes_eq-Decides}
use Rattle.scene_model.specs.Naming.{replaced}
use Rattle.std.specs.Option.{option_or}
use Rattle.std.specs.Option.{option_map}
use Rattle.std.proofs.lemmas.List.Folds.{find-append}
use Rattle.std.proofs.Math.Seq.{take-length}
use Rattle.scene_model.specs.declared.uses.Wanted.{Wanted}
use Rattle.scene_model.specs.Names.{NameOf, same_name}
use Rattle.scene_model.specs.Uses.{each, Use, User, is_used_in}
use Rattle.scene_model.proofs.Named.{take-next}
use Rattle.scene_model.proofs.Positions.{position-next}

-- the names of a list are those that it uses
pub used_each : (w : Wanted) (names : List NameOf) (n : NameOf) → is_used_in (each w names) n ≡ list_any (same_name n) names
used_each w [] n = refl
used_each w (m ∷ ms) n = ap (λ b. same_name n m || b) (used_each w ms n)

-- the first that passes stands behind those that don't
pub find-at : {A : Type 0} (p : A → Bool) (xs : List A) (k : ℕ) (x : A) → find p (take k xs) ≡ None → slice_get xs k ≡ Some x → p x ≡ true → find p xs ≡ Some x
find-at p [] k x none at is = cc
find-at p (y ∷ ys) zero x none at is = let same : y ≡ x = cc in ap (λ b. cond b (Some y) (find p ys)) (ap p same ∙ is) ∙ ap Some same
find-at {A} p (y ∷ ys) (suc k) x none at is = by (p y) none (find-at p ys k x)
  where
    by : (b : Bool) → cond b (Some y) (find p (take k ys)) ≡ None → (find p (take k ys) ≡ None → slice_get ys k ≡ Some x → p x ≡ true → find p ys ≡ Some x) → cond b (Some y) (find p ys) ≡ Some x
    by true none rest = cc
    by false none rest = rest none at is

-- one more that doesn't
pub find-next : {A : Type 0} (p : A → Bool) (xs : List A) (k : ℕ) (x : A) → find p (take k xs) ≡ None → slice_get xs k ≡ Some x → p x ≡ false → find p (take (k + 1) xs) ≡ None
find-next p xs k x none at fails =
    ap (find p) (take-next xs k x at) ∙ (find-append p (take k xs) (x ∷ []) ∙ (ap (λ o. option_or o (find p (x ∷ []))) none ∙ ap (λ b. cond b (Some x) None) fails))

-- the same of whether any passes
pub any-at : {A : Type 0} (p : A → Bool) (xs : List A) (k : ℕ) (x : A) → slice_get xs k ≡ Some x → p x ≡ true → list_any p xs ≡ true
any-at p [] k x at is = cc
any-at p (y ∷ ys) zero x at is = let same : y ≡ x = cc in ap (λ b. b || list_any p ys) (ap p same ∙ is)
any-at {A} p (y ∷ ys) (suc k) x at is = by (p y) (any-at p ys k x at is)
  where
    by : (b : Bool) → list_any p ys ≡ true → (b || list_any p ys) ≡ true
    by true rest = refl
    by false rest = rest

pub any-next : {A : Type 0} (p : A → Bool) (xs : List A) (k : ℕ) (x : A) → list_any p (take k xs) ≡ false → slice_get xs k ≡ Some x → p x ≡ false → list_any p (take (k + 1) xs) ≡ false
any-next {A} p xs k x none at fails = ap (list_any p) (take-next xs k x at) ∙ behind (take k xs) none
  where
    behind : (ys : List A) → list_any p ys ≡ false → list_any p (ys ++ x ∷ []) ≡ false
    behind [] none = ap (λ b. b || false) fails
    behind (y ∷ ys) none = by (p y) none (behind ys)
      where
        by : (b : Bool) → (b || list_any p ys) ≡ false → (list_any p ys ≡ false → list_any p (ys ++ x ∷ []) ≡ false) → (b || list_any p (ys ++ x ∷ [])) ≡ false
        by true none rest = cc
        by false none rest = rest none

-- the first of a list that was mapped
pub find-map : {A B : Type 0} (p : B → Bool) (f : A → B) (xs : List A) → find p (map f xs) ≡ option_map f (find (λ x. p (f x)) xs)
find-map p f [] = refl
find-map {A} {B} p f (x ∷ xs) = by (p (f x)) (find-map p f xs)
  where
    by : (b : Bool) → find p (map f xs) ≡ option_map f (find (λ y. p (f y)) xs) → cond b (Some (f x)) (find p (map f xs)) ≡ option_map f (cond b (Some x) (find (λ y. p (f y)) xs))
    by true rest = refl
    by false rest = rest

module _ {T : Type 0} (name_of : T → NameOf) (uses_of : T → List Use) (n : NameOf) where
  as_user : T → User
  as_user x = record { name = name_of x; uses = uses_of x }

  -- the name of the first item that uses a name, behind those that don't
  pub first_user_at : (xs : List T) (k : ℕ) (x : T) → find (λ y. is_used_in (uses_of y) n) (take k xs) ≡ None → slice_get xs k ≡ Some x → is_used_in (uses_of x) n ≡ true
      → Some (name_of x) ≡ option_map (λ (u : User). u.name) (find (λ (u : User). is_used_in u.uses n) (map (λ y. record { name = name_of y; uses = uses_of y }) xs))
  unfolding as_user
  first_user_at xs k x none at is =
      sym (ap (option_map (λ (u : User). u.name)) (find-map (λ (u : User). is_used_in u.uses n) as_user xs ∙ ap (option_map as_user) (find-at (λ y. is_used_in (uses_of y) n) xs k x none at is)))

  -- none uses it
  pub no_user : (xs : List T) (k : ℕ) → k ≡ length xs → find (λ y. is_used_in (uses_of y) n) (take k xs) ≡ None
      → None ≡ option_map (λ (u : User). u.name) (find (λ (u : User). is_used_in u.uses n) (map (λ y. record { name = name_of y; uses = uses_of y }) xs))
  unfolding as_user
  no_user xs k end none =
      let whole : take k xs ≡ xs = ap (λ i. take i xs) end ∙ take-length xs in
      sym (ap (option_map (λ (u : User). u.name)) (find-map (λ (u : User). is_used_in u.uses n) as_user xs ∙ ap (option_map as_user) (ap (find (λ y. is_used_in (uses_of y) n)) (sym whole) ∙ none)))

-- the first of three lists, one behind the other
pub first_of_three : {A B : Type 0} (f : A → B) (p : A → Bool) (xs ys zs : List A)
    → option_map f (find p (xs ++ ys ++ zs)) ≡ option_or (option_or (option_map f (find p xs)) (option_map f (find p ys))) (option_map f (find p zs))
first_of_three {A} {B} f p xs ys zs =
    ap (option_map f) (find-append p (xs ++ ys) zs)
    ∙ (either (find p (xs ++ ys)) (find p zs)
    ∙ ap (λ o. option_or o (option_map f (find p zs))) (ap (option_map f) (find-append p xs ys) ∙ either (find p xs) (find p ys)))
  where
    either : (a b : Option A) → option_map f (option_or a b) ≡ option_or (option_map f a) (option_map f b)
    either None b = refl
    either (Some x) b = refl

module _ {T : Type 0} (name_of : T → NameOf) (x : T) where
  -- where no item has the name, none is replaced
  replaced-absent : (items : List T) → AllByRecursion (λ n. same_name (name_of x) n ≡ false) (map name_of items) → replaced name_of x items ≡ items
  replaced-absent [] all = refl
  replaced-absent (y ∷ ys) all = λ j. cond (all.0 j) x y ∷ replaced-absent ys all.1 j

  -- the item put where its name is found takes the place of the one of its name
  pub set-replaced : (items : List T) (k : ℕ) → IsDistinct same_name (map name_of items) → position (same_name (name_of x)) (map name_of items) ≡ Some k → slice_set items k x ≡ replaced name_of x items
  set-replaced [] k distinct found = cc
  set-replaced (y ∷ ys) k distinct found =
      by (same_name (name_of x) (name_of y)) (position (same_name (name_of x)) (map name_of ys)) refl refl (sym (position-next (same_name (name_of x)) (name_of y) (map name_of ys)) ∙ found)
      (λ j. set-replaced ys j (IsDistinct-tail same_name (name_of y) (map name_of ys) distinct))
    where
      by : (b : Bool) (o : Option ℕ) → same_name (name_of x) (name_of y) ≡ b → position (same_name (name_of x)) (map name_of ys) ≡ o → cond b (Some 0) (option_map suc o) ≡ Some k
          → ((j : ℕ) → position (same_name (name_of x)) (map name_of ys) ≡ Some j → slice_set ys j x ≡ replaced name_of x ys)
          → slice_set (y ∷ ys) k x ≡ cond b x y ∷ replaced name_of x ys
      by true o same at e rest =
          let first : 0 ≡ k = cc in
          let equal : name_of x ≡ name_of y = (bytes_eq-Decides (name_of x) (name_of y)).0 same in
          let others = subst (λ n. AllByRecursion (λ m. same_name n m ≡ false) (map name_of ys)) (sym equal) (IsDistinct-head same_name (name_of y) (map name_of ys) distinct) in
          subst (λ i. slice_set (y ∷ ys) i x ≡ x ∷ replaced name_of x ys) first (ap (λ zs. x ∷ zs) (sym (replaced-absent ys others)))
      by false (Some j) differs at e rest =
          let later : suc j ≡ k = cc in
          subst (λ i. slice_set (y ∷ ys) i x ≡ y ∷ replaced name_of x ys) later (ap (λ zs. y ∷ zs) (rest j at))
      by false None differs at e rest = cc
