-- How long the list of separations is.
use Rattle.std.proofs.Common.{pos, ◌≡◌, ◌+◌, ◌-◌, ◌*◌, ℕ, List, [], ◌∷◌, ◌++◌, Bool, true, false, length, drop, refl, ap, ◌∙◌, arith, slice_get, Some, length-append}
use Rattle.std.proofs.lemmas.List.{length-map}
use Rattle.std.specs.Prelude.{if◌then◌else◌}
use Rattle.std.specs.List.{flat_map}
use Rattle.units.specs.declared.geometry.Axis.{Axis}
use Rattle.units.specs.declared.geometry.Sep.{Sep}
use Rattle.scene_model.specs.declared.items.Rule.{Rule}
use Rattle.scene_model.specs.declared.items.Rule.TheVariants as rule
use Rattle.scene_model.specs.declared.items.Compound.{Compound}
use Rattle.scene_model.specs.declared.items.Group.{Group}
use Rattle.scene_model.specs.declared.items.Page.{Page}
use Rattle.scene_model.specs.Names.{same_axis, map_neighbours}
use Rattle.scene_model.specs.Diagram.{Diagram}
use Rattle.scene_model.specs.Uses.{has_guide_on}
use Rattle.scene_model.specs.Variables.{page_size}
use Rattle.scene_model.specs.Separations.{on_guide, behind, within, edges_apart, rule_separations, compound_separations, group_separations, on_page, declared_size, page_separations, separations}
use Rattle.sep_gen.specs.Counted.{rule_count, compound_count, group_count, page_count, total_of, separation_count}
use Rattle.scene_model.proofs.Positions.{length-pairs, drop-get}

length-neighbours : {A B : Type 0} (f : A → A → B) (xs : List A) → length (map_neighbours f xs) ≡ length xs - 1
length-neighbours f [] = omega arith
length-neighbours f (x ∷ []) = omega arith
length-neighbours f (x ∷ y ∷ xs) = let behind = length-neighbours f (y ∷ xs) in omega arith

-- the lengths of what a list's elements make
length-flat : {A B : Type 0} (f : A → List B) (size : A → ℕ) → ((x : A) → length (f x) ≡ size x) → (xs : List A) → length (flat_map f xs) ≡ total_of size xs
length-flat f size each [] = refl
length-flat f size each (x ∷ xs) =
    let both = length-append (f x) (flat_map f xs) in
    let here = each x in
    let behind = length-flat f size each xs in
    omega arith

-- the length of a list that is there only on a condition
length-if : {A : Type 0} (b : Bool) (xs : List A) (n : ℕ) → length xs ≡ n → length (if b then xs else []) ≡ (if b then n else 0)
length-if true xs n e = e
length-if false xs n e = refl

rule_counted : (d : Diagram) (axis : Axis) (r : Rule) → length (rule_separations d axis r) ≡ rule_count axis d.guides r
rule_counted d axis (rule.Align guide line members) = length-if (has_guide_on axis d.guides guide) _ (length members) (length-map members (on_guide d axis guide line))
rule_counted d axis (rule.Spread own gap members) = length-if (same_axis own axis) _ (length members - 1) (length-neighbours (behind d axis gap true) members)
rule_counted d axis (rule.Rank own gap members) = length-if (same_axis own axis) _ (length members - 1) (length-neighbours (behind d axis gap false) members)
rule_counted d axis (rule.Apart own a b gap exact) = length-if (same_axis own axis) (behind d axis gap exact a b ∷ []) 1 refl

group_counted : (d : Diagram) (axis : Axis) (g : Group) → length (group_separations d axis g) ≡ group_count g
group_counted d axis g =
    let edges = edges_apart d axis g.name (pos 0) false ∷ [] in
    let members = length-pairs (within d axis g.name g.pad) (λ m. refl) g.members in
    let both = length-append (flat_map (within d axis g.name g.pad) g.members) edges in
    both ∙ ap (λ n. n + 1) members

page_counted : (d : Diagram) (axis : Axis) (p : Page) → length (page_separations d axis p) ≡ page_count (length d.shapes) p
page_counted d axis p =
    length-append (flat_map (on_page d axis p) d.shapes) (edges_apart d axis p.name (pos 0) false ∷ declared_size d axis p)
    ∙ (ap (λ n. n + length (edges_apart d axis p.name (pos 0) false ∷ declared_size d axis p)) (length-pairs (on_page d axis p) (λ s. refl) d.shapes)
    ∙ ap (λ n. 2 * length d.shapes + n) (by p.rigid))
  where
    by : (b : Bool) → length (edges_apart d axis p.name (pos 0) false ∷ (if b then edges_apart d axis p.name (page_size axis p) true ∷ [] else [])) ≡ (if b then 2 else 1)
    by true = refl
    by false = refl

-- the list is as long as the sums over its items
pub all_counted : (d : Diagram) (axis : Axis) → length (separations d axis) ≡ separation_count d axis
all_counted d axis =
    by (flat_map (compound_separations d axis) d.compounds) (flat_map (group_separations d axis) d.groups) (flat_map (page_separations d axis) d.pages)
    (length-flat (compound_separations d axis) (compound_count axis d.guides) (λ (c : Compound). rule_counted d axis c.rule) d.compounds)
    (length-flat (group_separations d axis) group_count (group_counted d axis) d.groups)
    (length-flat (page_separations d axis) (page_count (length d.shapes)) (page_counted d axis) d.pages)
  where
    by : (a b c : List Sep) {k m n : ℕ} → length a ≡ k → length b ≡ m → length c ≡ n → length (a ++ (b ++ c)) ≡ k + m + n
    by a b c first middle last = let outer = length-append a (b ++ c) in let inner = length-append b c in omega arith

-- one element more, of those that are left
pub sum-next : {A : Type 0} (size : A → ℕ) (xs : List A) (k : ℕ) (x : A) (total more whole : ℕ) → slice_get xs k ≡ Some x → more ≡ total + size x
    → total + total_of size (drop k xs) ≡ whole → more + total_of size (drop (k + 1) xs) ≡ whole
sum-next size xs k x total more whole at added so_far = let left = ap (total_of size) (drop-get xs k x at) in omega arith
