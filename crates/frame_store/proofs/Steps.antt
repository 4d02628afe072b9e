-- One more value of a list that is made in order.
use Rattle.std.proofs.Common.{◌≡◌, ◌+◌, ℕ, List, [], ◌∷◌, ◌++◌, map, take, slice_get, Some, ap, sym, ◌∙◌, refl}
use Rattle.scene_model.proofs.Named.{take-next}

map-push : {A B : Type 0} (f : A → B) (xs : List A) (x : A) → map f (xs ++ x ∷ []) ≡ map f xs ++ f x ∷ []
map-push f [] x = refl
map-push f (y ∷ ys) x = ap (λ zs. f y ∷ zs) (map-push f ys x)

-- what was made of the elements before a place, with what is made of the one there
pub map-next : {A B : Type 0} (f : A → B) (xs : List A) (k : ℕ) (x : A) (made : List B) (y : B) → made ≡ map f (take k xs) → slice_get xs k ≡ Some x → y ≡ f x → made ++ y ∷ [] ≡ map f (take (k + 1) xs)
map-next f xs k x made y so_far at is =
    ap (λ ys. ys ++ y ∷ []) so_far
    ∙ (ap (λ z. map f (take k xs) ++ z ∷ []) is ∙ (sym (map-push f (take k xs) x) ∙ ap (map f) (sym (take-next xs k x at))))
