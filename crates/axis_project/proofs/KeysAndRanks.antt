-- Steps of the loops that make keys, ranks and the lists of those of a key.
use Rattle.std.proofs.Common.{◌≡◌, ◌∙◌, ap, sym, refl, subst, ℕ, suc, ◌+◌, ◌<◌, ◌≤◌, List, [], ◌∷◌, ◌++◌, length, get_or, set, drop, replicate, ◌==◌, if◌then◌else◌, ⊎_elim, append_assoc, append-nil, add-one, arith}
use Rattle.std.proofs.lemmas.Bool.{eq-eqb, ne_eqb, cases_eq, cases_lt, cond-true, cond-false}
use Rattle.std.proofs.lemmas.List.{length-append, length-set, length-replicate, get_or-replicate, get_or_push, get_or_append_left, get_or-set_same, get_or-set_other, get_or_past, get_or_default, drop_more, drop_all}
use Rattle.axis_project.specs.Components.{those, before, rank}
use Rattle.axis_project.proofs.Chains.{below_or_at}
use Rattle.axis_project.proofs.Those.{before_none, before_next, before_small}

-- a list with an element more, below and at its end
longer : {A : Type 0} (xs : List A) (x : A) (n : ℕ) → length xs ≡ n → length (xs ++ x ∷ []) ≡ n + 1
longer xs x n long = omega (arith, length-append xs (x ∷ []))

-- ---- keys

-- the keys of the first variables, which have these parts
pub record AreKeysOf (parts keys : List ℕ) (var count : ℕ) : Type 0 where
  pub as_long : length keys ≡ var
  pub few : count ≤ var
  pub below : (v : ℕ) → v < var → get_or keys v 0 < count
  pub same : (v : ℕ) → v < var → get_or keys v 0 ≡ get_or keys (get_or parts v 0) 0

pub key_small : (parts keys : List ℕ) (var count part : ℕ) → AreKeysOf parts keys var count → get_or keys part count ≤ count
key_small parts keys var count part are = ⊎_elim
    (λ within. let is = get_or_default keys part count 0 within in let less = are.below part (omega (arith, are.as_long)) in omega arith)
    (λ past. let is = get_or_past keys part count past in omega arith) (cases_lt part (length keys))

module _ (parts keys : List ℕ) (var count key more : ℕ) (are : AreKeysOf parts keys var count) (least : (v : ℕ) → v ≤ var → get_or parts v 0 ≤ v)
    (is : key ≡ get_or keys (get_or parts var 0) count) (counted : count ≤ more) (below : key < more) (few : more ≤ var + 1) where
  old_key : (v : ℕ) → v < var → get_or (keys ++ key ∷ []) v 0 ≡ get_or keys v 0
  old_key v within = get_or_append_left keys (key ∷ []) 0 v (omega (arith, are.as_long))

  new_key : get_or (keys ++ key ∷ []) var 0 ≡ key
  new_key = get_or_push keys key 0 var are.as_long

  -- the least variable of its part has its key
  part_key : get_or (keys ++ key ∷ []) (get_or parts var 0) 0 ≡ key
  part_key = ⊎_elim
      (λ earlier. old_key (get_or parts var 0) earlier ∙ get_or_default keys (get_or parts var 0) 0 count (omega (arith, are.as_long)) ∙ sym is)
      (λ here. ap (λ v. get_or (keys ++ key ∷ []) v 0) here ∙ new_key)
      (below_or_at (get_or parts var 0) var (let low = least var (omega arith) in omega arith))

  pub keys_next : AreKeysOf parts (keys ++ key ∷ []) (var + 1) more
  keys_next = record {
    as_long = longer keys key var are.as_long;
    few = few;
    below = λ v within. ⊎_elim
        (λ earlier. let old = are.below v earlier in let same = old_key v earlier in omega arith)
        (λ here. let same = ap (λ w. get_or (keys ++ key ∷ []) w 0) here in let new = new_key in omega arith) (below_or_at v var within);
    same = λ v within. ⊎_elim
        (λ earlier. old_key v earlier ∙ are.same v earlier ∙ sym (old_key (get_or parts v 0) (let low = least v (omega arith) in omega arith)))
        (λ here. subst (λ w. get_or (keys ++ key ∷ []) w 0 ≡ get_or (keys ++ key ∷ []) (get_or parts w 0) 0) (sym here) (new_key ∙ sym part_key)) (below_or_at v var within);
  }

-- variables of one part have one key
pub keys_together : (parts keys : List ℕ) (var count : ℕ) → AreKeysOf parts keys var count
    → (v w : ℕ) → v < var → w < var → get_or parts v 0 ≡ get_or parts w 0 → get_or keys v 0 ≡ get_or keys w 0
keys_together parts keys var count are v w v_within w_within is = are.same v v_within ∙ ap (λ part. get_or keys part 0) is ∙ sym (are.same w w_within)

-- ---- ranks

-- so many of each of the first keys, and the ranks of the first elements
pub record AreRanksOf (keys counts ranks : List ℕ) (at count : ℕ) : Type 0 where
  pub all_keys : length counts ≡ count
  pub counted : (key : ℕ) → key < count → get_or counts key 0 ≡ before key keys at
  pub as_long : length ranks ≡ at
  pub each : (v : ℕ) → v < at → get_or ranks v 0 ≡ rank keys v

pub ranks_none : (keys ranks : List ℕ) (count : ℕ) → ranks ≡ [] → AreRanksOf keys (replicate count 0) ranks 0 count
ranks_none keys ranks count none = record {
  all_keys = length-replicate count 0;
  counted = λ key within. get_or-replicate count key 0 0 within ∙ sym (before_none key keys);
  as_long = ap length none;
  each = λ v within. absurd (omega arith);
}

module _ (keys counts ranks : List ℕ) (at count : ℕ) (are : AreRanksOf keys counts ranks at count) (within : at < length keys) (below : get_or keys at 0 < count) where
  pub rank_is : get_or counts (get_or keys at 0) 0 ≡ rank keys at
  rank_is = are.counted (get_or keys at 0) below

  pub rank_small : get_or counts (get_or keys at 0) 0 ≤ at
  rank_small = let small = before_small (get_or keys at 0) keys at in omega (arith, rank_is)

  pub ranks_next : (result : ℕ) → result ≡ get_or counts (get_or keys at 0) 0
      → AreRanksOf keys (set counts (get_or keys at 0) (get_or counts (get_or keys at 0) 0 + 1)) (ranks ++ result ∷ []) (at + 1) count
  ranks_next result is = record {
    all_keys = length-set counts (get_or keys at 0) (get_or counts (get_or keys at 0) 0 + 1) ∙ are.all_keys;
    counted = λ key key_within. ⊎_elim (counted_here key) (counted_other key key_within) (cases_eq (get_or keys at 0) key);
    as_long = longer ranks result at are.as_long;
    each = λ v v_within. ⊎_elim
        (λ earlier. get_or_append_left ranks (result ∷ []) 0 v (omega (arith, are.as_long)) ∙ are.each v earlier)
        (λ here. subst (λ w. get_or (ranks ++ result ∷ []) w 0 ≡ rank keys w) (sym here) (get_or_push ranks result 0 at are.as_long ∙ is ∙ rank_is)) (below_or_at v at v_within);
  }
    where
      further : (key : ℕ) → before key keys (at + 1) ≡ (if get_or keys at 0 == key then suc (before key keys at) else before key keys at)
      further key = ap (before key keys) (add-one at) ∙ before_next key keys at within

      counted_here : (key : ℕ) → get_or keys at 0 ≡ key → get_or (set counts (get_or keys at 0) (get_or counts (get_or keys at 0) 0 + 1)) key 0 ≡ before key keys (at + 1)
      counted_here key same = subst (λ k. get_or (set counts (get_or keys at 0) (get_or counts (get_or keys at 0) 0 + 1)) k 0 ≡ before k keys (at + 1)) same
          (get_or-set_same counts (get_or keys at 0) (get_or counts (get_or keys at 0) 0 + 1) 0 (omega (arith, are.all_keys, below)) ∙ ap (λ n. n + 1) rank_is ∙ add-one (rank keys at)
          ∙ sym (further (get_or keys at 0) ∙ cond-true (get_or keys at 0 == get_or keys at 0) (suc (before (get_or keys at 0) keys at)) (before (get_or keys at 0) keys at) (eq-eqb (get_or keys at 0) (get_or keys at 0) refl)))

      counted_other : (key : ℕ) → key < count → (get_or keys at 0 ≡ key → ⊥) → get_or (set counts (get_or keys at 0) (get_or counts (get_or keys at 0) 0 + 1)) key 0 ≡ before key keys (at + 1)
      counted_other key key_within differ =
          get_or-set_other counts (get_or keys at 0) key (get_or counts (get_or keys at 0) 0 + 1) 0 (λ same. differ (sym same)) ∙ are.counted key key_within
          ∙ sym (further key ∙ cond-false (get_or keys at 0 == key) (suc (before key keys at)) (before key keys at) (ne_eqb (get_or keys at 0) key differ))

-- ---- those of a key

module _ {A : Type 0} (key : ℕ) (ks : List ℕ) (xs list : List A) (i : ℕ) (d : A) (long : length ks ≡ length xs) (within : i < length ks)
    (so_far : list ++ those key (drop i ks) (drop i xs) ≡ those key ks xs) where
  opened : those key (drop i ks) (drop i xs) ≡ (if get_or ks i 0 == key then get_or xs i d ∷ those key (drop (i + 1) ks) (drop (i + 1) xs) else those key (drop (i + 1) ks) (drop (i + 1) xs))
  opened = ap (λ rest. those key rest (drop i xs)) (drop_more ks i 0 within) ∙ ap (those key (get_or ks i 0 ∷ drop (i + 1) ks)) (drop_more xs i d (omega arith))

  those_with : get_or ks i 0 ≡ key → (list ++ get_or xs i d ∷ []) ++ those key (drop (i + 1) ks) (drop (i + 1) xs) ≡ those key ks xs
  those_with is =
      append_assoc list (get_or xs i d ∷ []) (those key (drop (i + 1) ks) (drop (i + 1) xs))
      ∙ ap (λ rest. list ++ rest) (sym (opened ∙ cond-true (get_or ks i 0 == key) (get_or xs i d ∷ those key (drop (i + 1) ks) (drop (i + 1) xs)) (those key (drop (i + 1) ks) (drop (i + 1) xs)) (eq-eqb (get_or ks i 0) key is))) ∙ so_far

  those_without : (get_or ks i 0 ≡ key → ⊥) → list ++ those key (drop (i + 1) ks) (drop (i + 1) xs) ≡ those key ks xs
  those_without is =
      ap (λ rest. list ++ rest) (sym (opened ∙ cond-false (get_or ks i 0 == key) (get_or xs i d ∷ those key (drop (i + 1) ks) (drop (i + 1) xs)) (those key (drop (i + 1) ks) (drop (i + 1) xs)) (ne_eqb (get_or ks i 0) key is))) ∙ so_far

  -- an element of the key was pushed
  pub those_pushed : (new : List A) → get_or ks i 0 ≡ key → new ≡ list ++ d ∷ [] → d ≡ get_or xs i d → new ++ those key (drop (i + 1) ks) (drop (i + 1) xs) ≡ those key ks xs
  those_pushed new is pushed read =
      ap (λ ys. ys ++ those key (drop (i + 1) ks) (drop (i + 1) xs)) (pushed ∙ ap (λ x. list ++ x ∷ []) read) ∙ those_with is

  those_past : (new : List A) → (get_or ks i 0 ≡ key → ⊥) → new ≡ list → new ++ those key (drop (i + 1) ks) (drop (i + 1) xs) ≡ those key ks xs
  those_past new is same = ap (λ ys. ys ++ those key (drop (i + 1) ks) (drop (i + 1) xs)) same ∙ those_without is

some_element : {A : Type 0} (xs : List A) → 0 < length xs → A
some_element [] some = absurd (omega arith)
some_element (x ∷ xs) some = x

-- an element of another key was passed over
pub those_passed : {A : Type 0} (key : ℕ) (ks : List ℕ) (xs list : List A) (i : ℕ) → length ks ≡ length xs → i < length ks → list ++ those key (drop i ks) (drop i xs) ≡ those key ks xs
    → (new : List A) → (get_or ks i 0 ≡ key → ⊥) → new ≡ list → new ++ those key (drop (i + 1) ks) (drop (i + 1) xs) ≡ those key ks xs
those_passed key ks xs list i long within = those_past key ks xs list i (some_element xs (omega arith)) long within

pub those_whole : {A : Type 0} (key : ℕ) (ks : List ℕ) (xs list : List A) (i : ℕ) → length ks ≤ i → list ++ those key (drop i ks) (drop i xs) ≡ those key ks xs → list ≡ those key ks xs
those_whole key ks xs list i past so_far = sym (append-nil list) ∙ ap (λ rest. list ++ those key rest (drop i xs)) (sym (drop_all i ks past)) ∙ so_far
