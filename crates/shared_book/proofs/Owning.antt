-- Own places hold entries by the caller.
use Rattle.std.proofs.Common.{◌≡◌, ℕ, zero, suc, ◌==◌, List, [], ◌∷◌, ◌++◌, length, refl, subst, arith, Bool, true, false, if◌then◌else◌, Some, slice_get}
use Rattle.std.proofs.lemmas.Grind.{common_steps}
use mathlib.Core.List.{IsPrefix}
use Rattle.doc_book.specs.declared.entries.Act.TheVariants as act
use Rattle.doc_book.specs.declared.entries.Entry.{Entry}
use Rattle.doc_book.specs.Growing.{entry_of}
use Rattle.shared_book.specs.Held.{all_by, is_by}

parts : (a b : Bool) → (if a then b else false) ≡ true → (a ≡ true) × (b ≡ true)
parts true b e = (refl, e)
parts false b e = absurd cc

whole : (a b : Bool) → a ≡ true → b ≡ true → (if a then b else false) ≡ true
whole a b e d = rw e d

is_by_front : (who : ℕ) (xs ys : List Entry) (p : ℕ) → is_by who (slice_get xs p) ≡ true → is_by who (slice_get (xs ++ ys) p) ≡ true
is_by_front who [] ys p e = absurd cc
is_by_front who (x ∷ xs) ys zero e = e
is_by_front who (x ∷ xs) ys (suc p) e = is_by_front who xs ys p e

is_by_end : (who : ℕ) (xs : List Entry) (e : Entry) → is_by who (Some e) ≡ true → is_by who (slice_get (xs ++ e ∷ []) (length xs)) ≡ true
is_by_end who [] e is = is
is_by_end who (x ∷ xs) e is = is_by_end who xs e is

longer : (who : ℕ) (xs ys : List Entry) (ps : List ℕ) → all_by who xs ps ≡ true → all_by who (xs ++ ys) ps ≡ true
longer who xs ys [] e = refl
longer who xs ys (p ∷ ps) e = let t = parts _ _ e in whole _ _ (is_by_front who xs ys p t.0) (longer who xs ys ps t.1)

one_more : (who : ℕ) (xs : List Entry) (ps : List ℕ) (p : ℕ) → all_by who xs ps ≡ true → is_by who (slice_get xs p) ≡ true → all_by who xs (ps ++ p ∷ []) ≡ true
one_more who xs [] p e is = whole _ _ is refl
one_more who xs (q ∷ qs) p e is = let t = parts _ _ e in whole _ _ t.0 (one_more who xs qs p t.1 is)

-- The history has grown.
pub grown : (who : ℕ) (xs ys : List Entry) (ps : List ℕ) → IsPrefix xs ys → all_by who xs ps ≡ true → all_by who ys ps ≡ true
grown who xs ys ps p e = subst (λ z. all_by who z ps ≡ true) p.1 (longer who xs p.0 ps e)

added : (who : ℕ) (xs ys : List Entry) (ps : List ℕ) (e : Entry) → is_by who (Some e) ≡ true → IsPrefix xs ys → all_by who xs ps ≡ true → all_by who (ys ++ e ∷ []) (ps ++ length ys ∷ []) ≡ true
added who xs ys ps e is p all = one_more who (ys ++ e ∷ []) ps (length ys) (longer who ys (e ∷ []) ps (grown who xs ys ps p all)) (is_by_end who ys e is)

-- What is kept of a seat that has seen more entries, and then one of its own.
pub kept_added : (who : ℕ) (xs ys zs : List Entry) (ps qs : List ℕ) (e : Entry) → is_by who (Some e) ≡ true → IsPrefix xs ys → all_by who xs ps ≡ true → zs ≡ ys ++ e ∷ [] → qs ≡ ps ++ length ys ∷ [] → all_by who zs qs ≡ true
kept_added who xs ys zs ps qs e is p all z q = rw (z, q) (added who xs ys ps e is p all)

-- What is kept of a seat that has seen more entries.
pub kept_same : (who : ℕ) (xs ys zs : List Entry) (ps qs : List ℕ) → IsPrefix xs ys → all_by who xs ps ≡ true → zs ≡ ys → qs ≡ ps → all_by who zs qs ≡ true
kept_same who xs ys zs ps qs p all z q = rw (z, q) (grown who xs ys ps p all)

pub by_itself : (who : ℕ) (e : Entry) → e.who ≡ who → is_by who (Some e) ≡ true
by_itself who e is = grind (arith, common_steps, is)

either_way : (b : Bool) → (if b then true else true) ≡ true
either_way true = refl
either_way false = refl

pub end_by : (who : ℕ) → is_by who (Some (entry_of 0 0 act.End)) ≡ true
end_by who = either_way (0 == who)
