-- Names that stand at two places of a list.
use Rattle.std.proofs.Common.{◌≡◌, ◌+◌, ◌<◌, ℕ, zero, suc, List, [], ◌∷◌, ◌++◌, Bool, true, false, cond, ◌||◌, Option, Some, None, take, drop, refl, ap, sym, ◌∙◌, subst, arith, slice_get, append_assoc, append-nil, add-one, drop-cons}
use Rattle.std.specs.List.{list_any}
use Rattle.std.proofs.lemmas.Option.{get_or_from_slice_get, slice_get_within}
use Rattle.std.proofs.lemmas.Slice.Eq.{bytes_eq-Decides}
use Rattle.scene_model.specs.Names.{NameOf, same_name}
use Rattle.scene_model.proofs.Named.{take-next}
use Rattle.edit_rules.specs.Firsts.{IsFirst, IsRepeat}
use Rattle.edit_rules.specs.Refusals.{first_twice}
use Rattle.edit_rules.proofs.Firsts.{HoldsNowhere, first-here, first-later, nowhere-later, first-unique, first-same}

-- a name was seen, or stands before a place
abbrev WasSeen : List NameOf → List NameOf → ℕ → NameOf → Type 0
WasSeen seen names k name = list_any (same_name name) (seen ++ take k names) ≡ true

-- one more name was seen
more_seen : (seen : List NameOf) (n : NameOf) (ns : List NameOf) (k : ℕ) (name : NameOf) → list_any (same_name name) ((seen ++ n ∷ []) ++ take k ns) ≡ list_any (same_name name) (seen ++ take (suc k) (n ∷ ns))
more_seen seen n ns k name = ap (list_any (same_name name)) (append_assoc seen (n ∷ []) (take k ns))

seen_now : (seen names : List NameOf) (n : NameOf) → WasSeen seen names 0 n → list_any (same_name n) seen ≡ true
seen_now seen names n holds = sym (ap (list_any (same_name n)) (append-nil seen)) ∙ holds

pub twice-first : (seen names : List NameOf) (x : NameOf) → first_twice seen names ≡ Some x → IsFirst (WasSeen seen names) names x
twice-first seen [] x is = cc
twice-first seen (n ∷ ns) x is = by (list_any (same_name n) seen) refl is (twice-first (seen ++ n ∷ []) ns x)
  where
    by : (b : Bool) → list_any (same_name n) seen ≡ b → cond b (Some n) (first_twice (seen ++ n ∷ []) ns) ≡ Some x
        → (first_twice (seen ++ n ∷ []) ns ≡ Some x → IsFirst (WasSeen (seen ++ n ∷ []) ns) ns x) → IsFirst (WasSeen seen (n ∷ ns)) (n ∷ ns) x
    by true here is rest =
        let same : n ≡ x = cc in
        subst (IsFirst (WasSeen seen (n ∷ ns)) (n ∷ ns)) same (first-here (WasSeen seen (n ∷ ns)) n ns (ap (list_any (same_name n)) (append-nil seen) ∙ here))
    by false here is rest =
        first-later (WasSeen seen (n ∷ ns)) n x ns (λ holds. let seen_it = seen_now seen (n ∷ ns) n holds in cc)
        (first-same (WasSeen (seen ++ n ∷ []) ns) (λ k. WasSeen seen (n ∷ ns) (suc k)) ns x (λ k y h. sym (more_seen seen n ns k y) ∙ h) (λ k y h. more_seen seen n ns k y ∙ h) (rest is))

pub twice-nowhere : (seen names : List NameOf) → first_twice seen names ≡ None → HoldsNowhere (WasSeen seen names) names
twice-nowhere seen [] none = λ k x there holds. cc
twice-nowhere seen (n ∷ ns) none = by (list_any (same_name n) seen) refl none (twice-nowhere (seen ++ n ∷ []) ns)
  where
    by : (b : Bool) → list_any (same_name n) seen ≡ b → cond b (Some n) (first_twice (seen ++ n ∷ []) ns) ≡ None
        → (first_twice (seen ++ n ∷ []) ns ≡ None → HoldsNowhere (WasSeen (seen ++ n ∷ []) ns) ns) → HoldsNowhere (WasSeen seen (n ∷ ns)) (n ∷ ns)
    by true here none rest = cc
    by false here none rest =
        nowhere-later (WasSeen seen (n ∷ ns)) n ns (λ holds. let seen_it = seen_now seen (n ∷ ns) n holds in cc)
        (λ k y there h. rest none k y there (more_seen seen n ns k y ∙ h))

-- ---- seen before a place: at an earlier place

or_true : (a b : Bool) → (a || b) ≡ true → a ≡ false → b ≡ true
or_true true b is no_a = cc
or_true false b is no_a = is

seen_repeats : (names : List NameOf) (k : ℕ) (n : NameOf) → list_any (same_name n) (take k names) ≡ true → IsRepeat names k n
seen_repeats names zero n is = cc
seen_repeats [] (suc k) n is = cc
seen_repeats (m ∷ ms) (suc k) n is = by (same_name n m) refl (seen_repeats ms k n)
  where
    by : (b : Bool) → same_name n m ≡ b → (list_any (same_name n) (take k ms) ≡ true → IsRepeat ms k n) → IsRepeat (m ∷ ms) (suc k) n
    by true same rest = let equal : n ≡ m = (bytes_eq-Decides n m).0 same in record { earlier = 0; before = omega arith; same = ap Some (sym equal) }
    by false same rest =
        let later = rest (or_true (same_name n m) _ is same) in
        record { earlier = suc later.earlier; before = omega (arith, later.before); same = later.same }

any_right : (a b : Bool) → b ≡ true → (a || b) ≡ true
any_right true b is = refl
any_right false b is = is

any_left : (a b : Bool) → a ≡ true → (a || b) ≡ true
any_left true b is = refl
any_left false b is = cc

repeats_seen : (names : List NameOf) (k : ℕ) (n : NameOf) (j : ℕ) → j < k → slice_get names j ≡ Some n → list_any (same_name n) (take k names) ≡ true
repeats_seen names zero n j before there = absurd (omega (arith, before))
repeats_seen [] (suc k) n j before there = cc
repeats_seen (m ∷ ms) (suc k) n zero before there = let equal : n ≡ m = cc in any_left (same_name n m) _ ((bytes_eq-Decides n m).1 equal)
repeats_seen (m ∷ ms) (suc k) n (suc j) before there = any_right (same_name n m) _ (repeats_seen ms k n j (omega (arith, before)) there)

-- ---- the first name that stands at an earlier place too

pub twice-repeat : (names : List NameOf) (x : NameOf) → first_twice [] names ≡ Some x → IsFirst (IsRepeat names) names x
twice-repeat names x is =
    first-same (WasSeen [] names) (IsRepeat names) names x (λ k y h. seen_repeats names k y h) (λ k y h. repeats_seen names k y h.earlier h.before h.same) (twice-first [] names x is)

pub repeat-twice : (names : List NameOf) (x : NameOf) → IsFirst (IsRepeat names) names x → first_twice [] names ≡ Some x
repeat-twice names x first = by (first_twice [] names) refl
  where
    by : (o : Option NameOf) → first_twice [] names ≡ o → first_twice [] names ≡ Some x
    by None is = absurd (twice-nowhere [] names is first.at x first.there (repeats_seen names first.at x first.holds.earlier first.holds.before first.holds.same))
    by (Some y) is = let same : y ≡ x = first-unique (IsRepeat names) names y x (twice-repeat names y is) first in subst (λ z. first_twice [] names ≡ Some z) same is

-- ---- one name further

-- the element at a place, and those behind it
drop-next : {A : Type 0} (xs : List A) (k : ℕ) (x : A) → slice_get xs k ≡ Some x → drop k xs ≡ x ∷ drop (k + 1) xs
drop-next xs k x at = drop-cons xs k x (slice_get_within xs k x at) ∙ (ap (λ y. y ∷ drop (suc k) xs) (get_or_from_slice_get xs k x x at) ∙ ap (λ j. x ∷ drop j xs) (sym (add-one k)))

-- one name further: it equals one before it, or the next ones are looked at behind it
next_twice : (xs : List NameOf) (k : ℕ) (x : NameOf) → slice_get xs k ≡ Some x
    → first_twice (take k xs) (drop k xs) ≡ cond (list_any (same_name x) (take k xs)) (Some x) (first_twice (take (k + 1) xs) (drop (k + 1) xs))
next_twice xs k x at =
    ap (first_twice (take k xs)) (drop-next xs k x at)
    ∙ ap (λ ys. cond (list_any (same_name x) (take k xs)) (Some x) (first_twice ys (drop (k + 1) xs))) (sym (take-next xs k x at))

pub twice_here : (xs : List NameOf) (k : ℕ) (x : NameOf) → slice_get xs k ≡ Some x → list_any (same_name x) (take k xs) ≡ true → first_twice (take k xs) (drop k xs) ≡ Some x
twice_here xs k x at is = next_twice xs k x at ∙ ap (λ b. cond b (Some x) (first_twice (take (k + 1) xs) (drop (k + 1) xs))) is

pub twice_later : (xs : List NameOf) (k : ℕ) (x : NameOf) → slice_get xs k ≡ Some x → list_any (same_name x) (take k xs) ≡ false
    → first_twice (take k xs) (drop k xs) ≡ first_twice (take (k + 1) xs) (drop (k + 1) xs)
twice_later xs k x at is = next_twice xs k x at ∙ ap (λ b. cond b (Some x) (first_twice (take (k + 1) xs) (drop (k + 1) xs))) is
