-- How many separations an item more makes.
use Rattle.std.proofs.Common.{◌≡◌, ◌+◌, ◌*◌, ℕ, List, [], ◌∷◌, ◌++◌, length, refl, ap, ◌∙◌, arith, length-append}
use Rattle.units.specs.declared.geometry.Axis.{Axis}
use Rattle.scene_model.specs.declared.items.Shape.{Shape}
use Rattle.scene_model.specs.declared.items.Compound.{Compound}
use Rattle.scene_model.specs.declared.items.Group.{Group}
use Rattle.scene_model.specs.declared.items.Page.{Page}
use Rattle.scene_model.specs.declared.items.Thing.TheVariants as thing
use Rattle.scene_model.specs.Diagram.{Diagram}
use Rattle.scene_model.specs.Items.{with_thing}
use Rattle.scene_model.specs.Separations.{separations}
use Rattle.sep_gen.specs.Counted.{compound_count, group_count, page_count, total_of, separation_count, count_with}
use Rattle.sep_gen.proofs.Counts.{all_counted}

pub total_of-push : {A : Type 0} (number : A → ℕ) (xs : List A) (x : A) → total_of number (xs ++ x ∷ []) ≡ total_of number xs + number x
total_of-push number [] x = omega arith
total_of-push number (y ∷ ys) x = let behind = total_of-push number ys x in omega arith

-- one shape more makes two more for each page
pages-more : (shapes : ℕ) (ps : List Page) → total_of (page_count (shapes + 1)) ps ≡ total_of (page_count shapes) ps + 2 * length ps
pages-more shapes [] = refl
pages-more shapes (p ∷ ps) = let behind = pages-more shapes ps in omega arith

module _ (d : Diagram) (axis : Axis) (standing : ℕ) (now : standing ≡ length (separations d axis)) where
  before : standing ≡ separation_count d axis
  before = now ∙ all_counted d axis

  pub with_shape : (s : Shape) (pages result : ℕ) → pages ≡ length d.pages → result ≡ standing + 2 * pages → result ≡ count_with d axis (thing.Shape s)
  with_shape s pages result count sum =
      let longer = length-append d.shapes (s ∷ []) in
      let paged = ap (λ n. total_of (page_count n) d.pages) longer ∙ pages-more (length d.shapes) d.pages in
      let stood = before in
      let after = all_counted (with_thing d (thing.Shape s)) axis in
      omega arith

  pub with_compound : (k : Compound) (more result : ℕ) → more ≡ compound_count axis d.guides k → result ≡ standing + more → result ≡ count_with d axis (thing.Compound k)
  with_compound k more result added sum =
      let pushed = total_of-push (compound_count axis d.guides) d.compounds k in
      let stood = before in
      let after = all_counted (with_thing d (thing.Compound k)) axis in
      omega arith

  pub with_group : (g : Group) (more result : ℕ) → more ≡ group_count g → result ≡ standing + more → result ≡ count_with d axis (thing.Group g)
  with_group g more result added sum =
      let pushed = total_of-push group_count d.groups g in
      let stood = before in
      let after = all_counted (with_thing d (thing.Group g)) axis in
      omega arith

  pub with_page : (p : Page) (more result : ℕ) → more ≡ page_count (length d.shapes) p → result ≡ standing + more → result ≡ count_with d axis (thing.Page p)
  with_page p more result added sum =
      let pushed = total_of-push (page_count (length d.shapes)) d.pages p in
      let stood = before in
      let after = all_counted (with_thing d (thing.Page p)) axis in
      omega arith
