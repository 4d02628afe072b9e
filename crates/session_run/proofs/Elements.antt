-- What holds of each element of a list.
use Rattle.std.proofs.Common.{◌<◌, ℕ, zero, suc, List, [], ◌∷◌, ◌++◌, length, get_or, arith}
use Rattle.std.specs.List.{AllByRecursion}

-- of one element more
pub all-push : {A : Type 0} (P : A → Type 0) (xs : List A) (x : A) → AllByRecursion P xs → P x → AllByRecursion P (xs ++ x ∷ [])
all-push P [] x all this = (this, tt)
all-push P (y ∷ ys) x all this = (all.0, all-push P ys x all.1 this)

-- what follows from it
pub all-then : {A : Type 0} (P Q : A → Type 0) (xs : List A) → ((x : A) → P x → Q x) → AllByRecursion P xs → AllByRecursion Q xs
all-then P Q [] step all = tt
all-then P Q (y ∷ ys) step all = (step y all.0, all-then P Q ys step all.1)

-- of the element at a place
pub all-at : {A : Type 0} (P : A → Type 0) (xs : List A) (i : ℕ) (d : A) → AllByRecursion P xs → i < length xs → P (get_or xs i d)
all-at P [] i d all within = absurd (omega arith)
all-at P (y ∷ ys) zero d all within = all.0
all-at P (y ∷ ys) (suc i) d all within = all-at P ys i d all.1 (omega arith)
