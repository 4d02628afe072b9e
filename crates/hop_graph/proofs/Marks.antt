-- Marking shapes with their distance.
use Rattle.std.proofs.Common.{◌≡◌, ◌+◌, ◌<◌, ℕ, suc, List, Bool, true, false, ◌||◌, ◌&&◌, nat_eq, length, Option, Some, None, refl, ap, sym, ◌∙◌, subst, arith}
use Rattle.std.specs.Option.{option_or}
use Rattle.std.proofs.Math.Bool.{or-false}
use Rattle.std.proofs.lemmas.Bool.{eqb-true}
use Rattle.hop_graph.specs.Links.{is_number}
use Rattle.hop_graph.specs.Walks.{any_below, where_passed}
use Rattle.hop_graph.specs.Search.{IsMarked, has_distance}
use Rattle.hop_graph.specs.Tables.{entry_at}

-- one more chance to pass
pub passed-or : (o : Option ℕ) (k : ℕ) (b c : Bool) → option_or (option_or o (where_passed k b)) (where_passed k c) ≡ option_or o (where_passed k (b || c))
passed-or (Some x) k b c = refl
passed-or None k true c = refl
passed-or None k false c = refl

-- shapes that are marked one level on aren't at this one
level-kept : (o : Option ℕ) (b : Bool) (level : ℕ) → is_number (option_or o (where_passed (level + 1) b)) level ≡ is_number o level
level-kept (Some x) b level = refl
level-kept None false level = refl
level-kept None true level = differs (nat_eq (level + 1) level) refl
  where
    differs : (b : Bool) → nat_eq (level + 1) level ≡ b → nat_eq (level + 1) level ≡ false
    differs true e = let same : level + 1 ≡ level = eqb-true (level + 1) level e in absurd (omega arith)
    differs false e = e

module _ (old row : List (Option ℕ)) (level : ℕ) (linked : ℕ → ℕ → Bool) (shape : ℕ) where
  -- the targets below a number
  abbrev pub is_target : ℕ → ℕ → Bool
  is_target n j = any_below (λ i. has_distance old level i && linked i j) n

  target-next : (j : ℕ) (b : Bool) → has_distance old level shape ≡ b → is_target (shape + 1) j ≡ (is_target shape j || (b && linked shape j))
  unfolding any_below
  target-next j b e =
      let next : shape + 1 ≡ suc shape = omega arith in
      ap (λ n. is_target n j) next ∙ ap (λ s. is_target shape j || (s && linked shape j)) e

  module _ (so_far : IsMarked old (level + 1) (is_target shape) row) (inside : shape < length old) where
    level-same : has_distance row level shape ≡ has_distance old level shape
    level-same = ap (λ o. is_number o level) (so_far shape inside) ∙ level-kept (entry_at old shape) (is_target shape shape) level

    -- a shape at the level, whose neighbours were marked
    pub spread-from : (new : List (Option ℕ)) (targets : ℕ → Bool) → length row ≡ length old → has_distance row level shape ≡ true → ((j : ℕ) → targets j ≡ linked shape j) → IsMarked row (level + 1) targets new → IsMarked old (level + 1) (is_target (shape + 1)) new
    spread-from new targets as_long at are further j within =
        further j (subst (λ n. j < n) (sym as_long) within)
        ∙ (ap (λ o. option_or o (where_passed (level + 1) (targets j))) (so_far j within)
        ∙ (passed-or (entry_at old j) (level + 1) (is_target shape j) (targets j)
        ∙ ap (λ b. option_or (entry_at old j) (where_passed (level + 1) b)) (ap (λ b. is_target shape j || b) (are j) ∙ sym (target-next j true (sym level-same ∙ at)))))

    -- a shape at another level
    pub spread-past : has_distance row level shape ≡ false → IsMarked old (level + 1) (is_target (shape + 1)) row
    spread-past at j within =
        so_far j within
        ∙ ap (λ b. option_or (entry_at old j) (where_passed (level + 1) b)) (sym (target-next j false (sym level-same ∙ at) ∙ or-false (is_target shape j)))

-- no target yet
pub spread-none : (old : List (Option ℕ)) (hops : ℕ) (p : ℕ → ℕ → Bool) → IsMarked old hops (λ j. any_below (λ i. p i j) 0) old
unfolding any_below
spread-none old hops p j within = sym (alone (entry_at old j))
  where
    alone : (o : Option ℕ) → option_or o None ≡ o
    alone None = refl
    alone (Some x) = refl
