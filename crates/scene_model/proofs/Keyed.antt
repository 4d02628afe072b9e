-- Items under their names in a map.
use Rattle.std.proofs.Common.{◌≡◌, ◌+◌, ◌≤◌, ℕ, zero, suc, List, [], ◌∷◌, ◌++◌, Bool, true, false, cond, not, ◌||◌, length, map, take, refl, ap, sym, ◌∙◌, subst, arith, slice_get, Some, None, if◌then◌else◌}
use Rattle.std.specs.Prelude.{slice_set}
use Rattle.std.specs.List.{list_any, insert, remove, IsDistinct, AllByRecursion, position_or_len}
use Rattle.std.specs.Map.{keys_of, values_of, lookup}
use Rattle.std.proofs.lemmas.Map.Keys.{IsDistinct-head, IsDistinct-tail}
use Rattle.indexmap.specs.IndexMap.{insert_entry, move_index, set_value_at}
use Rattle.indexmap.proofs.MoveLemmas.{push_moved}
use Rattle.scene_model.specs.Names.{NameOf, same_name}
use Rattle.scene_model.proofs.Changes.{map-insert, map-remove}
use Rattle.scene_model.proofs.Named.{same_name-sym}

-- ---- entries of a new name

module _ {T : Type 0} where
  -- a name that no key has is looked up in vain
  pub lookup-free : (es : List (NameOf × T)) (n : NameOf) → list_any (same_name n) (keys_of es) ≡ false → lookup (same_name n) es ≡ None
  lookup-free [] n free = refl
  lookup-free (e ∷ es) n free = by (same_name n e.0) free (lookup-free es n)
    where
      by : (b : Bool) → (b || list_any (same_name n) (keys_of es)) ≡ false → (list_any (same_name n) (keys_of es) ≡ false → lookup (same_name n) es ≡ None) → cond b (Some e.1) (lookup (same_name n) es) ≡ None
      by true free rest = cc
      by false free rest = rest free

  -- and goes last
  pub entries-new : (es : List (NameOf × T)) (n : NameOf) (x : T) → list_any (same_name n) (keys_of es) ≡ false → insert_entry same_name es n x ≡ es ++ (n, x) ∷ []
  entries-new [] n x free = refl
  entries-new (e ∷ es) n x free = by (same_name n e.0) free (entries-new es n x)
    where
      by : (b : Bool) → (b || list_any (same_name n) (keys_of es)) ≡ false → (list_any (same_name n) (keys_of es) ≡ false → insert_entry same_name es n x ≡ es ++ (n, x) ∷ [])
          → (if b then (e.0, x) ∷ es else e ∷ insert_entry same_name es n x) ≡ e ∷ es ++ (n, x) ∷ []
      by true free rest = cc
      by false free rest = ap (λ fs. e ∷ fs) (rest free)

  or_len-free : (es : List (NameOf × T)) (n : NameOf) → list_any (same_name n) (keys_of es) ≡ false → position_or_len (same_name n) (keys_of es) ≡ length es
  or_len-free [] n free = refl
  or_len-free (e ∷ es) n free = by (same_name n e.0) free (or_len-free es n)
    where
      by : (b : Bool) → (b || list_any (same_name n) (keys_of es)) ≡ false → (list_any (same_name n) (keys_of es) ≡ false → position_or_len (same_name n) (keys_of es) ≡ length es)
          → cond (not b) (1 + position_or_len (same_name n) (keys_of es)) 0 ≡ suc (length es)
      by true free rest = cc
      by false free rest = ap (λ k. 1 + k) (rest free) ∙ omega arith

  -- or at a place that is asked for
  pub entries-inserted : (es : List (NameOf × T)) (i : ℕ) (n : NameOf) (x : T) → list_any (same_name n) (keys_of es) ≡ false → i ≤ length es
      → move_index (insert_entry same_name es n x) (position_or_len (same_name n) (keys_of es)) i ≡ insert es i (n, x)
  entries-inserted es i n x free within = (λ j. move_index (entries-new es n x free j) (or_len-free es n free j) i) ∙ push_moved es (n, x) i within

  -- ---- the values

  pub values-push : (es : List (NameOf × T)) (n : NameOf) (x : T) → values_of (es ++ (n, x) ∷ []) ≡ values_of es ++ x ∷ []
  values-push [] n x = refl
  values-push (e ∷ es) n x = ap (λ xs. e.1 ∷ xs) (values-push es n x)

  pub values-insert : (es : List (NameOf × T)) (i : ℕ) (n : NameOf) (x : T) → values_of (insert es i (n, x)) ≡ insert (values_of es) i x
  values-insert es i n x = map-insert (λ (e : NameOf × T). e.1) es i (n, x)

  pub values-remove : (es : List (NameOf × T)) (i : ℕ) → values_of (remove es i) ≡ remove (values_of es) i
  values-remove es i = map-remove (λ (e : NameOf × T). e.1) es i

  pub values-set : (es : List (NameOf × T)) (i : ℕ) (x : T) → values_of (set_value_at es i x) ≡ slice_set (values_of es) i x
  values-set [] i x = refl
  values-set (e ∷ es) zero x = refl
  values-set (e ∷ es) (suc i) x = ap (λ xs. e.1 ∷ xs) (values-set es i x)

  pub value-at : (es : List (NameOf × T)) (i : ℕ) (n : NameOf) (x : T) → Some (n, x) ≡ slice_get es i → Some x ≡ slice_get (values_of es) i
  value-at [] i n x at = cc
  value-at (e ∷ es) zero n x at = let same : (n, x) ≡ e = cc in ap (λ d. Some d.1) same
  value-at (e ∷ es) (suc i) n x at = value-at es i n x at

  keys-set : (es : List (NameOf × T)) (i : ℕ) (x : T) → keys_of (set_value_at es i x) ≡ keys_of es
  keys-set [] i x = refl
  keys-set (e ∷ es) zero x = refl
  keys-set (e ∷ es) (suc i) x = ap (λ ns. e.0 ∷ ns) (keys-set es i x)

-- ---- each key the name of its value

module _ {T : Type 0} (name_of : T → NameOf) where
  abbrev pub IsKeyed : List (NameOf × T) → Type 0
  IsKeyed es = keys_of es ≡ map name_of (values_of es)

  pub keyed-push : (es : List (NameOf × T)) (n : NameOf) (x : T) → n ≡ name_of x → IsKeyed es → IsKeyed (es ++ (n, x) ∷ [])
  keyed-push [] n x same keyed = ap (λ m. m ∷ []) same
  keyed-push (e ∷ es) n x same keyed =
      let head : e.0 ≡ name_of e.1 = cc in
      let rest : keys_of es ≡ map name_of (values_of es) = cc in
      λ j. head j ∷ keyed-push es n x same rest j

  pub keyed-insert : (es : List (NameOf × T)) (i : ℕ) (n : NameOf) (x : T) → n ≡ name_of x → IsKeyed es → IsKeyed (insert es i (n, x))
  keyed-insert es i n x same keyed =
      map-insert (λ (e : NameOf × T). e.0) es i (n, x)
      ∙ ((λ j. insert (keyed j) i (same j)) ∙ (sym (map-insert name_of (values_of es) i x) ∙ ap (map name_of) (sym (values-insert es i n x))))

  pub keyed-remove : (es : List (NameOf × T)) (i : ℕ) → IsKeyed es → IsKeyed (remove es i)
  keyed-remove es i keyed =
      map-remove (λ (e : NameOf × T). e.0) es i
      ∙ (ap (λ ns. remove ns i) keyed ∙ (sym (map-remove name_of (values_of es) i) ∙ ap (map name_of) (sym (values-remove es i))))

  names-set : (xs : List T) (i : ℕ) (was x : T) → slice_get xs i ≡ Some was → name_of was ≡ name_of x → map name_of (slice_set xs i x) ≡ map name_of xs
  names-set [] i was x at same = cc
  names-set (y ∷ ys) zero was x at same = let first : y ≡ was = cc in ap (λ n. n ∷ map name_of ys) (sym (ap name_of first ∙ same))
  names-set (y ∷ ys) (suc i) was x at same = ap (λ ns. name_of y ∷ ns) (names-set ys i was x at same)

  pub keyed-set : (es : List (NameOf × T)) (i : ℕ) (was x : T) → slice_get (values_of es) i ≡ Some was → name_of was ≡ name_of x → IsKeyed es → IsKeyed (set_value_at es i x)
  keyed-set es i was x at same keyed =
      keys-set es i x ∙ (keyed ∙ (sym (names-set (values_of es) i was x at same) ∙ ap (map name_of) (sym (values-set es i x))))

-- ---- entries that come, against the items that are seen

length-values : {T : Type 0} (es : List (NameOf × T)) → length (values_of es) ≡ length es
length-values [] = refl
length-values (e ∷ es) = ap suc (length-values es)

module _ {T : Type 0} (name_of : T → NameOf) (es : List (NameOf × T)) (xs : List T) (n : NameOf) (x : T) (keyed : keys_of es ≡ map name_of (values_of es)) (seen : values_of es ≡ xs) (same : n ≡ name_of x)
    (free : list_any (same_name (name_of x)) (map name_of xs) ≡ false) where
  free-key : list_any (same_name n) (keys_of es) ≡ false
  free-key = (λ j. list_any (same_name (same j)) ((keyed ∙ ap (map name_of) seen) j)) ∙ free

  pub lookup-new : lookup (same_name n) es ≡ None
  lookup-new = lookup-free es n free-key

  pub keyed-new : (fs : List (NameOf × T)) → fs ≡ insert_entry same_name es n x → keys_of fs ≡ map name_of (values_of fs)
  keyed-new fs made = subst (λ gs. keys_of gs ≡ map name_of (values_of gs)) (sym (made ∙ entries-new es n x free-key)) (keyed-push name_of es n x same keyed)

  pub values-new : (fs : List (NameOf × T)) → fs ≡ insert_entry same_name es n x → values_of fs ≡ xs ++ x ∷ []
  values-new fs made = ap values_of (made ∙ entries-new es n x free-key) ∙ (values-push es n x ∙ ap (λ ys. ys ++ x ∷ []) seen)

  module _ (i : ℕ) (within : i ≤ length xs) where
    entries-put : (fs : List (NameOf × T)) → fs ≡ move_index (insert_entry same_name es n x) (position_or_len (same_name n) (keys_of es)) i → fs ≡ insert es i (n, x)
    entries-put fs made = made ∙ entries-inserted es i n x free-key (subst (λ k. i ≤ k) (sym (ap length seen) ∙ length-values es) within)

    pub keyed-put : (fs : List (NameOf × T)) → fs ≡ move_index (insert_entry same_name es n x) (position_or_len (same_name n) (keys_of es)) i → keys_of fs ≡ map name_of (values_of fs)
    keyed-put fs made = subst (λ gs. keys_of gs ≡ map name_of (values_of gs)) (sym (entries-put fs made)) (keyed-insert name_of es i n x same keyed)

    pub values-put : (fs : List (NameOf × T)) → fs ≡ move_index (insert_entry same_name es n x) (position_or_len (same_name n) (keys_of es)) i → values_of fs ≡ insert xs i x
    values-put fs made = ap values_of (entries-put fs made) ∙ (values-insert es i n x ∙ ap (λ ys. insert ys i x) seen)

-- ---- names that differ

all_at : {A : Type 0} (P : A → Type 0) (xs : List A) (k : ℕ) (x : A) → AllByRecursion P xs → slice_get xs k ≡ Some x → P x
all_at P [] k x all at = cc
all_at P (y ∷ ys) zero x all at = let same : y ≡ x = cc in subst P same all.0
all_at P (y ∷ ys) (suc k) x all at = all_at P ys k x all.1 at

free_before : (ns : List NameOf) (k : ℕ) (n : NameOf) → IsDistinct same_name ns → slice_get ns k ≡ Some n → list_any (same_name n) (take k ns) ≡ false
free_before [] k n distinct at = cc
free_before (m ∷ ms) zero n distinct at = refl
free_before (m ∷ ms) (suc k) n distinct at =
    let apart : same_name n m ≡ false = same_name-sym n m ∙ all_at (λ y. same_name m y ≡ false) ms k n (IsDistinct-head same_name m ms distinct) at in
    ap (λ b. b || list_any (same_name n) (take k ms)) apart ∙ free_before ms k n (IsDistinct-tail same_name m ms distinct) at

map-take : {A B : Type 0} (f : A → B) (xs : List A) (k : ℕ) → map f (take k xs) ≡ take k (map f xs)
map-take f [] zero = refl
map-take f [] (suc k) = refl
map-take f (x ∷ xs) zero = refl
map-take f (x ∷ xs) (suc k) = ap (λ ys. f x ∷ ys) (map-take f xs k)

get-map : {A B : Type 0} (f : A → B) (xs : List A) (k : ℕ) (x : A) → slice_get xs k ≡ Some x → slice_get (map f xs) k ≡ Some (f x)
get-map f [] k x at = cc
get-map f (y ∷ ys) zero x at = let same : y ≡ x = cc in ap (λ z. Some (f z)) same
get-map f (y ∷ ys) (suc k) x at = get-map f ys k x at

-- of items whose names differ, none before a place has the name of the one there
pub free_so_far : {T : Type 0} (name_of : T → NameOf) (xs : List T) (k : ℕ) (x : T) → IsDistinct same_name (map name_of xs) → slice_get xs k ≡ Some x → list_any (same_name (name_of x)) (map name_of (take k xs)) ≡ false
free_so_far name_of xs k x distinct at =
    ap (list_any (same_name (name_of x))) (map-take name_of xs k) ∙ free_before (map name_of xs) k (name_of x) distinct (get-map name_of xs k x at)
