-- Whose each entry is: where each place is own of one pass, and holds an entry by its caller, the caller's entries are
-- those at the pass's own places.
use Rattle.std.proofs.Common.{◌≡◌, ◌≢◌, ℕ, zero, suc, ◌+◌, ◌≤◌, ◌==◌, List, [], ◌∷◌, Bool, true, false, cond, Some, None, length, refl, sym, ap, ◌∙◌, arith, eq-eqb, ne_eqb, slice_get}
use Rattle.turn_table.specs.Counting.{occurrences}
use Rattle.doc_book.specs.declared.entries.Entry.{Entry}
use Rattle.doc_book.specs.Replies.{own_places_from}
use Rattle.concurrent_run.proofs.Rising.{Rises, hit, miss, rises_below, rises_from}

-- ---- the places of a caller's entries

pub own_rises : (first : ℕ) (h : List Entry) (who : ℕ) → Rises first (own_places_from first h who)
own_rises first [] who = tt
own_rises first (e ∷ es) who = by (e.who == who) (own_rises (first + 1) es who)
  where
    by : (b : Bool) → Rises (first + 1) (own_places_from (first + 1) es who) → Rises first (cond b (first ∷ own_places_from (first + 1) es who) (own_places_from (first + 1) es who))
    by true rest = (omega arith, rest)
    by false rest = rises_from (first + 1) first (own_places_from (first + 1) es who) (omega arith) rest

other_first : (b : Bool) (first n : ℕ) (ps : List ℕ) → first ≢ n → occurrences n (cond b (first ∷ ps) ps) ≡ occurrences n ps
other_first true first n ps differs = miss n first ps differs
other_first false first n ps differs = refl

some_same : {A : Type 0} (x y : A) → Some x ≡ Some y → x ≡ y
some_same x y e = cc

pub own_here : (first n : ℕ) (h : List Entry) (who k : ℕ) (e : Entry) → n ≡ first + k → slice_get h k ≡ Some e → e.who ≡ who → occurrences n (own_places_from first h who) ≡ 1
own_here first n [] who k e is at by_who = absurd (never at)
  where
    never : None ≡ Some e → ⊥
    never e = cc
own_here first n (x ∷ xs) who zero e is at by_who =
    let yes : (x.who == who) ≡ true = eq-eqb x.who who (ap (λ (y : Entry). y.who) (some_same x e at) ∙ by_who) in
    let rest : List ℕ = own_places_from (first + 1) xs who in
    ap (λ b. occurrences n (cond b (first ∷ rest) rest)) yes
    ∙ (hit n first rest (omega (arith, is)) ∙ ap (λ z. 1 + z) (rises_below (first + 1) n rest (own_rises (first + 1) xs who) (omega (arith, is))))
own_here first n (x ∷ xs) who (suc k) e is at by_who =
    other_first (x.who == who) first n (own_places_from (first + 1) xs who) (λ s. omega (arith, s, is)) ∙ own_here (first + 1) n xs who k e (omega (arith, is)) at by_who

pub own_else : (first n : ℕ) (h : List Entry) (who k : ℕ) (e : Entry) → n ≡ first + k → slice_get h k ≡ Some e → e.who ≢ who → occurrences n (own_places_from first h who) ≡ 0
own_else first n [] who k e is at other = refl
own_else first n (x ∷ xs) who zero e is at other =
    let no : (x.who == who) ≡ false = ne_eqb x.who who (λ s. other (sym (ap (λ (y : Entry). y.who) (some_same x e at)) ∙ s)) in
    let rest : List ℕ = own_places_from (first + 1) xs who in
    ap (λ b. occurrences n (cond b (first ∷ rest) rest)) no ∙ rises_below (first + 1) n rest (own_rises (first + 1) xs who) (omega (arith, is))
own_else first n (x ∷ xs) who (suc k) e is at other =
    other_first (x.who == who) first n (own_places_from (first + 1) xs who) (λ s. omega (arith, s, is)) ∙ own_else (first + 1) n xs who k e (omega (arith, is)) at other

pub own_past : (first n : ℕ) (h : List Entry) (who : ℕ) → first + length h ≤ n → occurrences n (own_places_from first h who) ≡ 0
own_past first n [] who past = refl
own_past first n (x ∷ xs) who past =
    other_first (x.who == who) first n (own_places_from (first + 1) xs who) (λ s. omega (arith, s, past)) ∙ own_past (first + 1) n xs who (omega (arith, past))
