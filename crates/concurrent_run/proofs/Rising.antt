-- Rising lists of places, and lists that hold each place equally often.
use Rattle.std.proofs.Common.{◌≡◌, ◌≢◌, ℕ, zero, suc, ◌+◌, ◌<◌, ◌≤◌, ◌==◌, List, [], ◌∷◌, length, refl, sym, ap, ◌∙◌, subst, arith, eq-eqb, ne_eqb, if◌then◌else◌, slice_index_or}
use Rattle.std.specs.Prelude.{⊤}
use Rattle.std.specs.List.{AllByRecursion}
use Rattle.std.proofs.Math.Decide.{dec_lt}
use mathlib.Core.Logic.{dite}
use native.Mathlib.Decide.{ℕ_discrete}
use Rattle.turn_table.specs.Counting.{occurrences}

-- the numbers rise, from this one on
abbrev pub Rises : ℕ → List ℕ → Type 0
Rises low [] = ⊤
Rises low (p ∷ ps) = (low ≤ p) × Rises (p + 1) ps

pub hit : (k x : ℕ) (ys : List ℕ) → x ≡ k → occurrences k (x ∷ ys) ≡ 1 + occurrences k ys
hit k x ys e = ap (λ b. (if b then 1 else 0) + occurrences k ys) (eq-eqb x k e)

pub miss : (k x : ℕ) (ys : List ℕ) → x ≢ k → occurrences k (x ∷ ys) ≡ occurrences k ys
miss k x ys n = ap (λ b. (if b then 1 else 0) + occurrences k ys) (ne_eqb x k n) ∙ omega arith

-- below its first number a rising list holds nothing
pub rises_below : (low k : ℕ) (ps : List ℕ) → Rises low ps → k < low → occurrences k ps ≡ 0
rises_below low k [] r lt = refl
rises_below low k (p ∷ ps) r lt =
    let le : low ≤ p = r.0 in
    miss k p ps (λ e. omega (arith, e, le, lt)) ∙ rises_below (p + 1) k ps r.1 (omega (arith, le, lt))

pub rises_from : (low low' : ℕ) (ps : List ℕ) → low' ≤ low → Rises low ps → Rises low' ps
rises_from low low' [] le r = tt
rises_from low low' (p ∷ ps) le r = (omega (arith, le, r.0), r.1)

-- no number of a rising list is below its first
pub rises_at : (low : ℕ) (ps : List ℕ) (j d : ℕ) → Rises low ps → j < length ps → low ≤ slice_index_or ps j d
rises_at low [] j d r lt = absurd (omega (arith, lt))
rises_at low (p ∷ ps) zero d r lt = r.0
rises_at low (p ∷ ps) (suc j) d r lt = let le = rises_at (p + 1) ps j d r.1 (omega (arith, lt)) in omega (arith, le, r.0)

-- so the numbers of a rising list differ
pub rises_apart : (low : ℕ) (ps : List ℕ) (i j d : ℕ) → Rises low ps → i < j → j < length ps → slice_index_or ps i d < slice_index_or ps j d
rises_apart low [] i j d r lt within = absurd (omega (arith, within))
rises_apart low (p ∷ ps) i zero d r lt within = absurd (omega (arith, lt))
rises_apart low (p ∷ ps) zero (suc j) d r lt within = let le = rises_at (p + 1) ps j d r.1 (omega (arith, within)) in omega (arith, le)
rises_apart low (p ∷ ps) (suc i) (suc j) d r lt within = rises_apart (p + 1) ps i j d r.1 (omega (arith, lt)) (omega (arith, within))

tails : (p : ℕ) (ps qs : List ℕ) → ((k : ℕ) → occurrences k (p ∷ ps) ≡ occurrences k (p ∷ qs)) → (k : ℕ) → occurrences k ps ≡ occurrences k qs
tails p ps qs same k = let n : ℕ = if p == k then 1 else 0 in let e : n + occurrences k ps ≡ n + occurrences k qs = same k in omega (arith, e)

heads : (low p q : ℕ) (ps qs : List ℕ) → Rises (q + 1) qs → occurrences p (p ∷ ps) ≡ occurrences p (q ∷ qs) → p < q → ⊥
heads low p q ps qs s same lt =
    let none : occurrences p (q ∷ qs) ≡ 0 = miss p q qs (λ e. omega (arith, e, lt)) ∙ rises_below (q + 1) p qs s (omega (arith, lt)) in
    let one : 1 + occurrences p ps ≡ 0 = sym (hit p p ps refl) ∙ same ∙ none in
    omega (arith, one)

-- rising lists that hold the same numbers are the same
pub rises_same : (low : ℕ) (ps qs : List ℕ) → Rises low ps → Rises low qs → ((k : ℕ) → occurrences k ps ≡ occurrences k qs) → ps ≡ qs
rises_same low [] [] r s same = refl
rises_same low [] (q ∷ qs) r s same = let one : 0 ≡ 1 + occurrences q qs = same q ∙ hit q q qs refl in absurd (omega (arith, one))
rises_same low (p ∷ ps) [] r s same = let one : 0 ≡ 1 + occurrences p ps = sym (same p) ∙ hit p p ps refl in absurd (omega (arith, one))
rises_same low (p ∷ ps) (q ∷ qs) r s same =
    let here : p ≡ q = dite (dec_lt p q) (λ l. absurd (heads low p q ps qs s.1 (same p) l)) (λ n. dite (dec_lt q p) (λ l. absurd (heads low q p qs ps r.1 (sym (same q)) l)) (λ m. omega (arith, n, m))) in
    let same' : (k : ℕ) → occurrences k (p ∷ ps) ≡ occurrences k (p ∷ qs) = subst (λ z. (k : ℕ) → occurrences k (p ∷ ps) ≡ occurrences k (z ∷ qs)) (sym here) same in
    let rest : ps ≡ qs = rises_same (p + 1) ps qs r.1 (subst (λ z. Rises (z + 1) qs) (sym here) s.1) (tails p ps qs same') in
    ap (λ z. z ∷ ps) here ∙ ap (λ zs. q ∷ zs) rest

-- ---- lists that hold each number equally often have one length

abbrev without : ℕ → List ℕ → List ℕ
without x [] = []
without x (y ∷ ys) = if y == x then ys else y ∷ without x ys

without_hit : (x y : ℕ) (ys : List ℕ) → y ≡ x → without x (y ∷ ys) ≡ ys
without_hit x y ys e = ap (λ b. if b then ys else y ∷ without x ys) (eq-eqb y x e)

without_miss : (x y : ℕ) (ys : List ℕ) → y ≢ x → without x (y ∷ ys) ≡ y ∷ without x ys
without_miss x y ys n = ap (λ b. if b then ys else y ∷ without x ys) (ne_eqb y x n)

without_length : (x : ℕ) (ys : List ℕ) → 0 < occurrences x ys → length (without x ys) + 1 ≡ length ys
without_length x [] there = absurd (omega (arith, there))
without_length x (y ∷ ys) there = dite (ℕ_discrete y x)
    (λ e. let is = ap length (without_hit x y ys e) in omega (arith, is))
    (λ n. let is = ap length (without_miss x y ys n) in let rest = without_length x ys (let m = miss x y ys n in omega (arith, m, there)) in omega (arith, is, rest))

without_count : (x k : ℕ) (ys : List ℕ) → 0 < occurrences x ys → occurrences k (x ∷ without x ys) ≡ occurrences k ys
without_count x k [] there = absurd (omega (arith, there))
without_count x k (y ∷ ys) there = dite (ℕ_discrete y x)
    (λ e. ap (λ zs. occurrences k (x ∷ zs)) (without_hit x y ys e) ∙ ap (λ z. occurrences k (z ∷ ys)) (sym e))
    (λ n. let rest = without_count x k ys (let m = miss x y ys n in omega (arith, m, there)) in
    let a : ℕ = if x == k then 1 else 0 in let b : ℕ = if y == k then 1 else 0 in
    let r : a + occurrences k (without x ys) ≡ occurrences k ys = rest in
    let swapped : a + (b + occurrences k (without x ys)) ≡ b + occurrences k ys = omega (arith, r) in
    ap (λ zs. occurrences k (x ∷ zs)) (without_miss x y ys n) ∙ swapped)

pub length_same : (xs ys : List ℕ) → ((k : ℕ) → occurrences k xs ≡ occurrences k ys) → length xs ≡ length ys
length_same [] [] same = refl
length_same [] (y ∷ ys) same = let one : 0 ≡ 1 + occurrences y ys = same y ∙ hit y y ys refl in absurd (omega (arith, one))
length_same (x ∷ xs) ys same =
    let one : occurrences x ys ≡ 1 + occurrences x xs = sym (same x) ∙ hit x x xs refl in
    let there : 0 < occurrences x ys = omega (arith, one) in
    let rest = length_same xs (without x ys) (tails x xs (without x ys) (λ k. same k ∙ sym (without_count x k ys there))) in
    let len = without_length x ys there in omega (arith, rest, len)

-- what holds of all numbers of a list holds of each that it holds
pub of_each : (P : ℕ → Type 0) (k : ℕ) (ps : List ℕ) → AllByRecursion P ps → 0 < occurrences k ps → P k
of_each P k [] all there = absurd (omega (arith, there))
of_each P k (p ∷ ps) all there = dite (ℕ_discrete p k)
    (λ e. subst P e all.0)
    (λ n. of_each P k ps all.1 (let m = miss k p ps n in omega (arith, m, there)))
