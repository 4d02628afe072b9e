-- What other changes do to the number of separations: none makes it greater.
use Rattle.std.proofs.Common.{◌≡◌, ◌+◌, ◌≤◌, ℕ, zero, suc, List, [], ◌∷◌, ◌++◌, Bool, true, false, ◌||◌, ◌&&◌, length, refl, ap, sym, ◌∙◌, arith, Option, Some, None}
use Rattle.std.specs.Prelude.{if◌then◌else◌}
use Rattle.std.specs.List.{AllByRecursion, list_any, remove}
use Rattle.std.specs.Option.{option_map_or}
use Rattle.std.proofs.lemmas.List.{length-map}
use Rattle.std.proofs.lemmas.Slice.Eq.{bytes_eq-Decides}
use Rattle.units.specs.declared.geometry.Axis.{Axis}
use Rattle.scene_model.specs.declared.items.Shape.{Shape}
use Rattle.scene_model.specs.declared.items.Guide.{Guide}
use Rattle.scene_model.specs.declared.items.Link.{Link}
use Rattle.scene_model.specs.declared.items.Rule.{Rule}
use Rattle.scene_model.specs.declared.items.Rule.TheVariants as rule
use Rattle.scene_model.specs.declared.items.Compound.{Compound}
use Rattle.scene_model.specs.declared.items.Page.{Page}
use Rattle.scene_model.specs.declared.items.Sort.{Sort}
use Rattle.scene_model.specs.declared.items.Sort.TheVariants as sort
use Rattle.scene_model.specs.declared.items.Item.{Item}
use Rattle.scene_model.specs.declared.items.Thing.TheVariants as thing
use Rattle.scene_model.specs.Names.{NameOf, same_name, same_axis}
use Rattle.scene_model.specs.Naming.{replaced}
use Rattle.scene_model.specs.Diagram.{Diagram}
use Rattle.scene_model.specs.Items.{stands, thing_named, item_named, with_thing, with_replaced, without_at, without}
use Rattle.scene_model.specs.Sound.{IsSound, IsCompound}
use Rattle.scene_model.specs.Uses.{has_guide, has_guide_on, stands_as, Use, rule_uses}
use Rattle.scene_model.specs.Separations.{separations}
use Rattle.scene_model.proofs.Changes.{length-remove}
use Rattle.scene_model.proofs.Places.{free_in}
use Rattle.scene_model.proofs.Sound.{has_guide_on-set}
use Rattle.sep_gen.specs.Counted.{rule_count, compound_count, group_count, page_count, total_of, separation_count}
use Rattle.sep_gen.proofs.Counts.{all_counted}

-- ---- sums

total_of-mono : {A : Type 0} (f g : A → ℕ) → ((x : A) → f x ≤ g x) → (xs : List A) → total_of f xs ≤ total_of g xs
total_of-mono f g less [] = omega arith
total_of-mono f g less (x ∷ xs) = let here = less x in let behind = total_of-mono f g less xs in omega arith

total_of-remove : {A : Type 0} (f : A → ℕ) (xs : List A) (k : ℕ) → total_of f (remove xs k) ≤ total_of f xs
total_of-remove f [] zero = omega arith
total_of-remove f [] (suc k) = omega arith
total_of-remove f (x ∷ xs) zero = omega arith
total_of-remove f (x ∷ xs) (suc k) =
    let behind = total_of-remove f xs k in
    let whole : total_of f (remove (x ∷ xs) (suc k)) ≡ f x + total_of f (remove xs k) = refl in
    omega arith

any-removed : {A : Type 0} (p : A → Bool) (xs : List A) (k : ℕ) → list_any p (remove xs k) ≡ true → list_any p xs ≡ true
any-removed p [] zero is = is
any-removed p [] (suc k) is = is
any-removed p (x ∷ xs) zero is = by (p x) (list_any p xs) is
  where
    by : (b c : Bool) → c ≡ true → (b || c) ≡ true
    by true c is = refl
    by false c is = is
any-removed p (x ∷ xs) (suc k) is = by (p x) (any-removed p xs k) is
  where
    by : (b : Bool) → (list_any p (remove xs k) ≡ true → list_any p xs ≡ true) → (b || list_any p (remove xs k)) ≡ true → (b || list_any p xs) ≡ true
    by true rest is = refl
    by false rest is = rest is

-- ---- guidelines and shapes

-- where no other name has a guideline of the axis, no rule has more
rule_fewer : (axis : Axis) (before after : List Guide) → ((n : NameOf) → has_guide_on axis after n ≡ true → has_guide_on axis before n ≡ true) → (r : Rule) → rule_count axis after r ≤ rule_count axis before r
rule_fewer axis before after keeps (rule.Align guide line members) = by (has_guide_on axis after guide) (has_guide_on axis before guide) (keeps guide)
  where
    by : (b c : Bool) → (b ≡ true → c ≡ true) → (if b then length members else 0) ≤ (if c then length members else 0)
    by true true keep = omega arith
    by true false keep = let is = keep refl in cc
    by false c keep = omega arith
rule_fewer axis before after keeps (rule.Spread own gap members) = omega arith
rule_fewer axis before after keeps (rule.Rank own gap members) = omega arith
rule_fewer axis before after keeps (rule.Apart own a b gap exact) = omega arith

pages_fewer : (fewer more : ℕ) → fewer ≤ more → (ps : List Page) → total_of (page_count fewer) ps ≤ total_of (page_count more) ps
pages_fewer fewer more less ps = total_of-mono (page_count fewer) (page_count more) (λ p. omega arith) ps

-- ---- without an item

fewer_at : (d : Diagram) (axis : Axis) (s : Sort) (at : ℕ) → separation_count (without_at d s at) axis ≤ separation_count d axis
fewer_at d axis sort.Shape at = let less = pages_fewer (length (remove d.shapes at)) (length d.shapes) (length-remove d.shapes at) d.pages in omega arith
fewer_at d axis sort.Guide at =
    let less =
    total_of-mono (compound_count axis (remove d.guides at)) (compound_count axis d.guides)
    (λ (c : Compound). rule_fewer axis d.guides (remove d.guides at) (λ n. any-removed (λ (g : Guide). same_name n g.name && same_axis g.axis axis) d.guides at) c.rule) d.compounds in
    omega arith
fewer_at d axis sort.Link at = omega arith
fewer_at d axis sort.Compound at = let less = total_of-remove (compound_count axis d.guides) d.compounds at in omega arith
fewer_at d axis sort.Group at = let less = total_of-remove group_count d.groups at in omega arith
fewer_at d axis sort.Page at = let less = total_of-remove (page_count (length d.shapes)) d.pages at in omega arith

pub fewer_without : (d : Diagram) (axis : Axis) (name : NameOf) → length (separations (without d name) axis) ≤ length (separations d axis)
fewer_without d axis name =
    let before = all_counted d axis in
    let after = all_counted (without d name) axis in
    let less = by (item_named d name) in
    omega arith
  where
    by : (o : Option Item) → separation_count (option_map_or (λ (item : Item). without_at d item.sort item.at) o d) axis ≤ separation_count d axis
    by (Some item) = fewer_at d axis item.sort item.at
    by None = omega arith

-- ---- an item changed in its place

pub same_with_shape : (d : Diagram) (axis : Axis) (s : Shape) → length (separations (with_replaced d (thing.Shape s)) axis) ≡ length (separations d axis)
same_with_shape d axis s =
    let before = all_counted d axis in
    let after = all_counted (with_replaced d (thing.Shape s)) axis in
    let long : length (replaced (λ (x : Shape). x.name) s d.shapes) ≡ length d.shapes = length-map d.shapes _ in
    let paged = ap (λ n. total_of (page_count n) d.pages) long in
    omega arith

pub same_with_guide : (d : Diagram) (axis : Axis) (g h : Guide) → IsSound d → thing_named d g.name ≡ Some (thing.Guide h) → h.axis ≡ g.axis → length (separations (with_replaced d (thing.Guide g)) axis) ≡ length (separations d axis)
same_with_guide d axis g h sound found axes =
    let guides = replaced (λ (x : Guide). x.name) g d.guides in
    let on = has_guide_on-set d g h sound found axes axis in
    let before = all_counted d axis in
    let after = all_counted (with_replaced d (thing.Guide g)) axis in
    let less = total_of-mono (compound_count axis guides) (compound_count axis d.guides) (λ (c : Compound). rule_fewer axis d.guides guides (λ n is. sym (on n) ∙ is) c.rule) d.compounds in
    let more = total_of-mono (compound_count axis d.guides) (compound_count axis guides) (λ (c : Compound). rule_fewer axis guides d.guides (λ n is. on n ∙ is) c.rule) d.compounds in
    omega arith

-- ---- an item more that asks nothing

pub same_with_link : (d : Diagram) (axis : Axis) (l : Link) → length (separations (with_thing d (thing.Link l)) axis) ≡ length (separations d axis)
same_with_link d axis l = all_counted (with_thing d (thing.Link l)) axis ∙ sym (all_counted d axis)

any-push : {A : Type 0} (p : A → Bool) (xs : List A) (x : A) → p x ≡ false → list_any p (xs ++ x ∷ []) ≡ list_any p xs
any-push p [] x fails = ap (λ b. b || false) fails
any-push p (y ∷ ys) x fails = ap (λ b. p y || b) (any-push p ys x fails)

-- a name that stands as a guideline isn't a new one
differs : (d : Diagram) (n new : NameOf) → has_guide d.guides n ≡ true → stands d new ≡ false → same_name n new ≡ false
differs d n new standing free = by (same_name n new) refl
  where
    by : (b : Bool) → same_name n new ≡ b → b ≡ false
    by true same = let is = (bytes_eq-Decides n new).0 same in let none = free_in d new free sort.Guide in let some = sym (ap (has_guide d.guides) is) ∙ standing in cc
    by false same = refl

pub same_with_new_guide : (d : Diagram) (axis : Axis) (g : Guide) → IsSound d → stands d g.name ≡ false → length (separations (with_thing d (thing.Guide g)) axis) ≡ length (separations d axis)
same_with_new_guide d axis g sound free =
    all_counted (with_thing d (thing.Guide g)) axis
    ∙ (ap (λ n. n + total_of group_count d.groups + total_of (page_count (length d.shapes)) d.pages) (compounds d.compounds sound.compounds) ∙ sym (all_counted d axis))
  where
    of_rule : (r : Rule) → AllByRecursion (λ (u : Use). stands_as d.shapes d.guides u.wanted u.name ≡ true) (rule_uses r) → rule_count axis (d.guides ++ g ∷ []) r ≡ rule_count axis d.guides r
    of_rule (rule.Align guide line members) stand =
        ap (λ b. if b then length members else 0)
        (any-push (λ (h : Guide). same_name guide h.name && same_axis h.axis axis) d.guides g (ap (λ b. b && same_axis g.axis axis) (differs d guide g.name stand.0 free)))
    of_rule (rule.Spread own gap members) stand = refl
    of_rule (rule.Rank own gap members) stand = refl
    of_rule (rule.Apart own a b gap exact) stand = refl

    compounds : (cs : List Compound) → AllByRecursion (IsCompound d.shapes d.guides) cs → total_of (compound_count axis (d.guides ++ g ∷ [])) cs ≡ total_of (compound_count axis d.guides) cs
    compounds [] all = refl
    compounds (c ∷ cs) all = λ j. of_rule c.rule all.0.user.stand j + compounds cs all.1 j
