-- Histories that are ended: where End stands, and what stands before it.
use Rattle.std.proofs.Common.{◌≡◌, ℕ, zero, suc, ◌+◌, ◌<◌, ◌≤◌, List, [], ◌∷◌, ◌++◌, Bool, true, false, cond, Option, Some, None, length, take, refl, ap, sym, ◌∙◌, subst, arith, slice_get}
use Rattle.std.specs.Prelude.{filter}
use Rattle.std.specs.Option.{option_map}
use Rattle.std.proofs.lemmas.List.Sums.{length-filter}
use Rattle.std.proofs.Math.Decide.{dec_lt}
use mathlib.Core.Logic.{dite}
use Rattle.doc_book.specs.declared.entries.Entry.{Entry}
use Rattle.doc_book.specs.History.{is_end, is_frame, end_place, frame_count}

next_place : (o : Option ℕ) (k : ℕ) → option_map (λ j. j + 1) o ≡ Some k → (j : ℕ) × (o ≡ Some j) × (k ≡ j + 1)
next_place None k at = absurd (never at)
  where
    never : None ≡ Some k → ⊥
    never e = cc
next_place (Some j) k at = (j, refl, sym (same at))
  where
    same : Some (j + 1) ≡ Some k → j + 1 ≡ k
    same e = cc

first_place : (k : ℕ) → Some 0 ≡ Some k → 0 ≡ k
first_place k e = cc

-- ---- End stays where it is

pub end_place-front : (h more : List Entry) (place : ℕ) → end_place h ≡ Some place → end_place (h ++ more) ≡ Some place
end_place-front [] more place at = absurd (never at)
  where
    never : None ≡ Some place → ⊥
    never e = cc
end_place-front (e ∷ es) more place at = by (is_end e) at (λ j here. end_place-front es more j here)
  where
    by : (b : Bool) → cond b (Some 0) (option_map (λ k. k + 1) (end_place es)) ≡ Some place → ((j : ℕ) → end_place es ≡ Some j → end_place (es ++ more) ≡ Some j)
        → cond b (Some 0) (option_map (λ k. k + 1) (end_place (es ++ more))) ≡ Some place
    by true at rest = at
    by false at rest = let n = next_place (end_place es) place at in ap (option_map (λ k. k + 1)) (rest n.0 n.1) ∙ ap Some (sym n.2)

-- entries up to behind End have it
pub end_place-taken : (h : List Entry) (place n : ℕ) → end_place h ≡ Some place → place < n → end_place (take n h) ≡ Some place
end_place-taken [] place n at lt = absurd (never at)
  where
    never : None ≡ Some place → ⊥
    never e = cc
end_place-taken (e ∷ es) place zero at lt = absurd (omega (arith, lt))
end_place-taken (e ∷ es) place (suc n) at lt = by (is_end e) at (λ j here less. end_place-taken es j n here less)
  where
    by : (b : Bool) → cond b (Some 0) (option_map (λ k. k + 1) (end_place es)) ≡ Some place → ((j : ℕ) → end_place es ≡ Some j → j < n → end_place (take n es) ≡ Some j)
        → cond b (Some 0) (option_map (λ k. k + 1) (end_place (take n es))) ≡ Some place
    by true at rest = at
    by false at rest = let f = next_place (end_place es) place at in ap (option_map (λ k. k + 1)) (rest f.0 f.1 (omega (arith, f.2, lt))) ∙ ap Some (sym f.2)

-- entries before End don't have it
pub end_place-before : (h : List Entry) (place : ℕ) → end_place h ≡ Some place → end_place (take place h) ≡ None
end_place-before [] place at = absurd (never at)
  where
    never : None ≡ Some place → ⊥
    never e = cc
end_place-before (e ∷ es) zero at = refl
end_place-before (e ∷ es) (suc place) at = by (is_end e) at (λ here. end_place-before es place here)
  where
    by : (b : Bool) → cond b (Some 0) (option_map (λ k. k + 1) (end_place es)) ≡ Some (suc place) → (end_place es ≡ Some place → end_place (take place es) ≡ None)
        → cond b (Some 0) (option_map (λ k. k + 1) (end_place (take place es))) ≡ None
    by true at rest = let z = first_place (suc place) at in absurd (omega (arith, z))
    by false at rest = let f = next_place (end_place es) (suc place) at in ap (option_map (λ k. k + 1)) (rest (f.1 ∙ ap Some (omega (arith, f.2))))

-- so a part that isn't ended is no longer than End's place
pub open_within : (h : List Entry) (place n : ℕ) → end_place h ≡ Some place → end_place (take n h) ≡ None → n ≤ place
open_within h place n at none = dite (dec_lt place n) (λ l. absurd (never (sym none ∙ end_place-taken h place n at l))) (λ m. omega (arith, m))
  where
    never : None ≡ Some place → ⊥
    never e = cc

-- ---- what stands at End's place, and where End stands

pub end_stands : (h : List Entry) (place : ℕ) → end_place h ≡ Some place → (e : Entry) × (slice_get h place ≡ Some e) × (is_end e ≡ true)
end_stands [] place at = absurd (never at)
  where
    never : None ≡ Some place → ⊥
    never e = cc
end_stands (e ∷ es) place at = by (is_end e) refl at (λ j here. end_stands es j here)
  where
    by : (b : Bool) → is_end e ≡ b → cond b (Some 0) (option_map (λ k. k + 1) (end_place es)) ≡ Some place → ((j : ℕ) → end_place es ≡ Some j → (x : Entry) × (slice_get es j ≡ Some x) × (is_end x ≡ true))
        → (x : Entry) × (slice_get (e ∷ es) place ≡ Some x) × (is_end x ≡ true)
    by true is at rest = (e, subst (λ k. slice_get (e ∷ es) k ≡ Some e) (first_place place at) refl, is)
    by false is at rest = let f = next_place (end_place es) place at in let r = rest f.0 f.1 in
        let next : suc f.0 ≡ place = omega (arith, f.2) in
        (r.0, subst (λ k. slice_get (e ∷ es) k ≡ Some r.0) next (later f.0 r.0 r.1), r.2)
      where
        later : (j : ℕ) (x : Entry) → slice_get es j ≡ Some x → slice_get (e ∷ es) (suc j) ≡ Some x
        later j x g = g

pub end_within : (h : List Entry) (place : ℕ) → end_place h ≡ Some place → place < length h
end_within [] place at = absurd (never at)
  where
    never : None ≡ Some place → ⊥
    never e = cc
end_within (e ∷ es) place at = by (is_end e) at (λ j here. end_within es j here)
  where
    by : (b : Bool) → cond b (Some 0) (option_map (λ k. k + 1) (end_place es)) ≡ Some place → ((j : ℕ) → end_place es ≡ Some j → j < length es) → place < length (e ∷ es)
    by true at rest = let z = first_place place at in omega (arith, z)
    by false at rest = let f = next_place (end_place es) place at in let less = rest f.0 f.1 in omega (arith, f.2, less)

some_same : {A : Type 0} (x y : A) → Some x ≡ Some y → x ≡ y
some_same x y e = cc

-- an entry that isn't End doesn't stand at End's place
pub other_place : (h : List Entry) (place k : ℕ) (e : Entry) → end_place h ≡ Some place → slice_get h k ≡ Some e → is_end e ≡ false → k ≡ place → ⊥
other_place h place k e at stands other same =
    let s = end_stands h place at in
    let it : slice_get h place ≡ Some e = subst (λ n. slice_get h n ≡ Some e) same stands in
    let is : s.0 ≡ e = some_same s.0 e (sym s.1 ∙ it) in
    never (sym s.2 ∙ (ap is_end is ∙ other))
  where
    never : true ≡ false → ⊥
    never e = cc

-- End isn't before its place
pub end_first : (h : List Entry) (place k : ℕ) (e : Entry) → end_place h ≡ Some place → slice_get h k ≡ Some e → is_end e ≡ true → place ≤ k
end_first [] place k e at stands is = absurd (never at)
  where
    never : None ≡ Some place → ⊥
    never e = cc
end_first (x ∷ xs) place zero e at stands is =
    let this : is_end x ≡ true = ap is_end (some_same x e stands) ∙ is in
    let zero_is : 0 ≡ place = first_place place (sym (ap (λ b. cond b (Some 0) (option_map (λ k. k + 1) (end_place xs))) this) ∙ at) in
    omega (arith, zero_is)
end_first (x ∷ xs) place (suc k) e at stands is = by (is_end x) at (λ j here. end_first xs j k e here stands is)
  where
    by : (b : Bool) → cond b (Some 0) (option_map (λ k. k + 1) (end_place xs)) ≡ Some place → ((j : ℕ) → end_place xs ≡ Some j → j ≤ k) → place ≤ suc k
    by true at rest = let z = first_place place at in omega (arith, z)
    by false at rest = let f = next_place (end_place xs) place at in let less = rest f.0 f.1 in omega (arith, f.2, less)

-- ---- frames

frames_kept : (h more : List Entry) (n : ℕ) → length h ≤ n → length (filter is_frame h) ≤ length (filter is_frame (take n (h ++ more)))
frames_kept [] more n le = omega arith
frames_kept (e ∷ es) more zero le = absurd (omega (arith, le))
frames_kept (e ∷ es) more (suc n) le = by (is_frame e) (frames_kept es more n (omega (arith, le)))
  where
    by : (b : Bool) → length (filter is_frame es) ≤ length (filter is_frame (take n (es ++ more)))
        → length (cond b (e ∷ filter is_frame es) (filter is_frame es)) ≤ length (cond b (e ∷ filter is_frame (take n (es ++ more))) (filter is_frame (take n (es ++ more))))
    by true rest = omega (arith, rest)
    by false rest = rest

-- more entries have no fewer frames
pub frames_more : (h more : List Entry) (n : ℕ) → length h ≤ n → frame_count h ≤ frame_count (take n (h ++ more))
frames_more h more n le =
    let kept = frames_kept h more n le in let few = length-filter is_frame h in let all = length-filter is_frame (take n (h ++ more)) in omega (arith, kept, few, all)
