-- A scene that can be laid out still can without one of its items that none of the others uses.
use Rattle.std.proofs.Common.{◌≡◌, ◌+ℤ◌, ◌-ℤ◌, ◌≤ℤ◌, ℕ, ℤ, pos, List, [], ◌∷◌, ◌++◌, Bool, true, false, ◌||◌, ◌&&◌, MatchBool, map, ⊎_elim, refl, ap, sym, ◌∙◌, subst, slice_get, Some, arith}
use Rattle.std.specs.Bool.{OnTrue}
use Rattle.std.specs.List.{flat_map, AllByRecursion}
use Rattle.std.specs.Option.{option_map_or}
use Rattle.std.proofs.lemmas.Slice.Eq.{bytes_eq-Decides}
use Rattle.units.specs.declared.geometry.Axis.{Axis}
use Rattle.scene_model.specs.declared.items.AlignLine.{AlignLine}
use Rattle.scene_model.specs.declared.items.Shape.{Shape}
use Rattle.scene_model.specs.declared.items.Guide.{Guide}
use Rattle.scene_model.specs.declared.items.Item.{Item}
use Rattle.scene_model.specs.declared.items.Rule.{Rule}
use Rattle.scene_model.specs.declared.items.Rule.TheVariants as rule
use Rattle.scene_model.specs.declared.items.Compound.{Compound}
use Rattle.scene_model.specs.declared.items.Group.{Group}
use Rattle.scene_model.specs.declared.items.Page.{Page}
use Rattle.scene_model.specs.declared.items.Sort.{Sort}
use Rattle.scene_model.specs.declared.items.Sort.TheVariants as sort
use Rattle.scene_model.specs.declared.items.Thing.{Thing}
use Rattle.scene_model.specs.declared.items.Thing.TheVariants as thing
use Rattle.scene_model.specs.declared.uses.Wanted.{Wanted}
use Rattle.scene_model.specs.declared.uses.Wanted.TheVariants as wanted
use Rattle.scene_model.specs.declared.variables.Variable.{Variable}
use Rattle.scene_model.specs.declared.variables.VariableName.{VariableName}
use Rattle.scene_model.specs.declared.variables.VariableName.TheVariants.{OfItem, LowEdge, HighEdge}
use Rattle.scene_model.specs.Names.{NameOf, same_name, same_axis, AllNeighbours}
use Rattle.scene_model.specs.Diagram.{Diagram}
use Rattle.scene_model.specs.Items.{stands, name_of_thing, sort_of, thing_at, thing_named, without_at, without}
use Rattle.scene_model.specs.Meaning.{size_of, line_offset, scaled, place, IsOnGuide, IsExactlyBehind, IsAtLeastBehind, IsWithin, IsOrdered, HasDeclaredSize, MeetsRule, MeetsCompound, MeetsGroup, IsOnPage, MeetsPage}
use Rattle.scene_model.specs.Separations.{separations}
use Rattle.scene_model.specs.Sound.{IsSound, IsCompound, IsGroup}
use Rattle.scene_model.specs.Uses.{has_guide, has_guide_on, stands_as, Use, each, rule_uses, group_uses}
use Rattle.scene_model.specs.Variables.{variables, same_variable, size, shape_variable, guide_variable, group_variables, page_variables, guides_on}
use Rattle.scene_model.proofs.AllNames.{free-without_at}
use Rattle.scene_model.proofs.Changes.{All-remove}
use Rattle.scene_model.proofs.Named.{same_name-sym}
use Rattle.scene_model.proofs.Places.{found_as, free_in, thing_found_is}
use Rattle.scene_model.proofs.Sound.{IsFree, IsSound-without_at}
use Rattle.cycle_test.specs.Feasibility.{HasPlaces}
use Rattle.cycle_test.proofs.Cancel.{never_both}
use Rattle.cycle_test.proofs.Existence.{one_of_both}
use Rattle.sep_gen.specs.Feasibility.{IsFeasibleAxis}
use Rattle.sep_gen.proofs.Meanings.{MeetsAll, meets_where_satisfied}
use Rattle.sep_gen.proofs.Thinning.{Thins, dropped, none, thinned, all_left, joined, mapped_without, filtered_without, parts_without, same_place, find-without, any-without}
use Rattle.sep_gen.proofs.Unchanged.{none_named}

-- ---- the variables that are left

-- the item whose variable, or edge, it is
abbrev item_of : VariableName → NameOf
item_of (OfItem n) = n
item_of (LowEdge n) = n
item_of (HighEdge n) = n

abbrev is_of : NameOf → Variable → Bool
is_of n v = same_name n (item_of v.name)

-- a variable of another item is none of the item's
other_variable : (n : NameOf) (v w : VariableName) → same_name n (item_of v) ≡ false → same_name n (item_of w) ≡ true → same_variable v w ≡ false
other_variable n v w differs is = by v w differs ((bytes_eq-Decides n (item_of w)).0 is)
  where
    by : (v w : VariableName) → same_name n (item_of v) ≡ false → n ≡ item_of w → same_variable v w ≡ false
    by (OfItem a) (OfItem b) differs same = ap (same_name a) (sym same) ∙ (same_name-sym a n ∙ differs)
    by (LowEdge a) (LowEdge b) differs same = ap (same_name a) (sym same) ∙ (same_name-sym a n ∙ differs)
    by (HighEdge a) (HighEdge b) differs same = ap (same_name a) (sym same) ∙ (same_name-sym a n ∙ differs)
    by (OfItem a) w differs same = refl
    by (LowEdge a) w differs same = refl
    by (HighEdge a) w differs same = refl

own_name : (n : NameOf) → same_name n n ≡ true
own_name n = (bytes_eq-Decides n n).1 refl

-- without an item its variables are gone
variables_left : (d : Diagram) (axis : Axis) (at : ℕ) (t : Thing) → thing_at d (sort_of t) at ≡ Some t → Thins (is_of (name_of_thing t)) (variables d axis) (variables (without_at d (sort_of t) at) axis)
variables_left d axis at (thing.Shape s) there =
    joined (joined (joined
    (mapped_without (is_of s.name) (shape_variable axis) d.shapes at s (found_as thing.Shape (λ a b e. cc) (slice_get d.shapes at) s there) (own_name s.name))
    (all_left (is_of s.name) (map guide_variable (guides_on axis d.guides)))) (all_left (is_of s.name) (flat_map (group_variables axis) d.groups))) (all_left (is_of s.name) (flat_map (page_variables axis) d.pages))
variables_left d axis at (thing.Guide g) there =
    joined (joined (joined (all_left (is_of g.name) (map (shape_variable axis) d.shapes))
    (filtered_without (is_of g.name) guide_variable (λ (h : Guide). same_axis h.axis axis) d.guides at g (found_as thing.Guide (λ a b e. cc) (slice_get d.guides at) g there) (own_name g.name)))
    (all_left (is_of g.name) (flat_map (group_variables axis) d.groups))) (all_left (is_of g.name) (flat_map (page_variables axis) d.pages))
variables_left d axis at (thing.Link l) there = all_left (is_of l.name) (variables d axis)
variables_left d axis at (thing.Compound c) there = all_left (is_of c.name) (variables d axis)
variables_left d axis at (thing.Group g) there =
    joined (joined (all_left (is_of g.name) (map (shape_variable axis) d.shapes ++ map guide_variable (guides_on axis d.guides)))
    (parts_without (is_of g.name) (group_variables axis) d.groups at g (found_as thing.Group (λ a b e. cc) (slice_get d.groups at) g there) (dropped (own_name g.name) (dropped (own_name g.name) none))))
    (all_left (is_of g.name) (flat_map (page_variables axis) d.pages))
variables_left d axis at (thing.Page p) there =
    joined (all_left (is_of p.name) (map (shape_variable axis) d.shapes ++ map guide_variable (guides_on axis d.guides) ++ flat_map (group_variables axis) d.groups))
    (parts_without (is_of p.name) (page_variables axis) d.pages at p (found_as thing.Page (λ a b e. cc) (slice_get d.pages at) p there) (dropped (own_name p.name) (dropped (own_name p.name) none)))

-- ---- what the meanings read

-- two placements of two diagrams agree at all names but one
record AgreesBut (n : NameOf) (d e : Diagram) (axis : Axis) (ys zs : List ℤ) : Type 0 where
  places : (v : VariableName) → same_name n (item_of v) ≡ false → place e axis zs 1 v ≡ place d axis ys 1 v
  sizes : (m : NameOf) → same_name n m ≡ false → size_of e axis m ≡ size_of d axis m
  guides : (m : NameOf) → same_name n m ≡ false → has_guide_on axis e.guides m ≡ has_guide_on axis d.guides m

agrees : (d : Diagram) (axis : Axis) (ys : List ℤ) (at : ℕ) (t : Thing) (there : thing_at d (sort_of t) at ≡ Some t)
    → AgreesBut (name_of_thing t) d (without_at d (sort_of t) at) axis ys (thinned (variables_left d axis at t there) ys)
agrees d axis ys at t there = record {
  places = λ v differs. same_place (λ (w : Variable). same_variable v w.name) (λ w is. other_variable (name_of_thing t) v w.name differs is) (variables_left d axis at t there) ys;
  sizes = sizes t there;
  guides = guides t there;
}
  where
    sizes : (t : Thing) → thing_at d (sort_of t) at ≡ Some t → (m : NameOf) → same_name (name_of_thing t) m ≡ false → size_of (without_at d (sort_of t) at) axis m ≡ size_of d axis m
    sizes (thing.Shape s) there m differs =
        ap (λ o. option_map_or (size axis) o (pos 0))
        (find-without (λ (x : Shape). same_name m x.name) d.shapes at s (found_as thing.Shape (λ a b e. cc) (slice_get d.shapes at) s there) (same_name-sym m s.name ∙ differs))
    sizes (thing.Guide x) there m differs = refl
    sizes (thing.Link x) there m differs = refl
    sizes (thing.Compound x) there m differs = refl
    sizes (thing.Group x) there m differs = refl
    sizes (thing.Page x) there m differs = refl

    guides : (t : Thing) → thing_at d (sort_of t) at ≡ Some t → (m : NameOf) → same_name (name_of_thing t) m ≡ false → has_guide_on axis (without_at d (sort_of t) at).guides m ≡ has_guide_on axis d.guides m
    guides (thing.Guide g) there m differs =
        any-without (λ (x : Guide). same_name m x.name && same_axis x.axis axis) d.guides at g (found_as thing.Guide (λ a b e. cc) (slice_get d.guides at) g there)
        (ap (λ b. b && same_axis g.axis axis) (same_name-sym m g.name ∙ differs))
    guides (thing.Shape x) there m differs = refl
    guides (thing.Link x) there m differs = refl
    guides (thing.Compound x) there m differs = refl
    guides (thing.Group x) there m differs = refl
    guides (thing.Page x) there m differs = refl

-- ---- the meanings without the name

-- each name that is used is another
abbrev AreOthers : NameOf → List Use → Type 0
AreOthers n uses = AllByRecursion (λ (u : Use). same_name n u.name ≡ false) uses

module _ (n : NameOf) (d e : Diagram) (axis : Axis) (ys zs : List ℤ) (agree : AgreesBut n d e axis ys zs) where
  still_on_guide : (guide : NameOf) (line : AlignLine) (m : NameOf) → same_name n guide ≡ false → same_name n m ≡ false → IsOnGuide d axis ys 1 guide line m → IsOnGuide e axis zs 1 guide line m
  still_on_guide guide line m other others is =
      let low = agree.places (OfItem m) others in
      let extent = agree.sizes m others in
      (λ i. low i +ℤ scaled 1 (line_offset line (extent i))) ∙ (is ∙ sym (agree.places (OfItem guide) other))

  still_exactly : (gap : ℤ) (a b : NameOf) → same_name n a ≡ false → same_name n b ≡ false → IsExactlyBehind d axis ys 1 gap a b → IsExactlyBehind e axis zs 1 gap a b
  still_exactly gap a b other others is = let from = agree.places (OfItem a) other in let to = agree.places (OfItem b) others in (λ i. to i -ℤ from i) ∙ is

  still_at_least : (gap : ℤ) (a b : NameOf) → same_name n a ≡ false → same_name n b ≡ false → IsAtLeastBehind d axis ys 1 gap a b → IsAtLeastBehind e axis zs 1 gap a b
  still_at_least gap a b other others is =
      let from = agree.places (OfItem a) other in
      let to = agree.places (OfItem b) others in
      subst (λ z. scaled 1 gap ≤ℤ z) (sym (λ i. to i -ℤ from i)) is

  -- the members, each another
  members_still : (w : Wanted) (P Q : NameOf → Type 0) → ((m : NameOf) → same_name n m ≡ false → P m → Q m) → (ms : List NameOf) → AreOthers n (each w ms) → AllByRecursion P ms → AllByRecursion Q ms
  members_still w P Q still [] others all = tt
  members_still w P Q still (m ∷ ms) others all = (still m others.0 all.0, members_still w P Q still ms others.1 all.1)

  neighbours_still : (w : Wanted) (R S : NameOf → NameOf → Type 0) → ((a b : NameOf) → same_name n a ≡ false → same_name n b ≡ false → R a b → S a b) → (ms : List NameOf) → AreOthers n (each w ms) → AllNeighbours R ms → AllNeighbours S ms
  neighbours_still w R S still [] others all = tt
  neighbours_still w R S still (a ∷ []) others all = tt
  neighbours_still w R S still (a ∷ b ∷ ms) others all = (still a b others.0 others.1.0 all.0, neighbours_still w R S still (b ∷ ms) others.1 all.1)

  where_true : (b : Bool) (P Q : Type 0) → (P → Q) → OnTrue b P → OnTrue b Q
  where_true true P Q to is = to is
  where_true false P Q to is = tt

  rule_still : (r : Rule) → AreOthers n (rule_uses r) → MeetsRule d axis ys 1 r → MeetsRule e axis zs 1 r
  rule_still (rule.Align guide line members) others is =
      where_true (has_guide_on axis e.guides guide) (AllByRecursion (IsOnGuide d axis ys 1 guide line) members) (AllByRecursion (IsOnGuide e axis zs 1 guide line) members)
      (members_still wanted.Shape (IsOnGuide d axis ys 1 guide line) (IsOnGuide e axis zs 1 guide line) (λ m. still_on_guide guide line m others.0) members others.1)
      (subst (λ b. OnTrue b (AllByRecursion (IsOnGuide d axis ys 1 guide line) members)) (sym (agree.guides guide others.0)) is)
  rule_still (rule.Spread own gap members) others is =
      where_true (same_axis own axis) _ _ (neighbours_still (wanted.Placed own) (IsExactlyBehind d axis ys 1 gap) (IsExactlyBehind e axis zs 1 gap) (still_exactly gap) members others) is
  rule_still (rule.Rank own gap members) others is =
      where_true (same_axis own axis) _ _ (neighbours_still (wanted.Placed own) (IsAtLeastBehind d axis ys 1 gap) (IsAtLeastBehind e axis zs 1 gap) (still_at_least gap) members others) is
  rule_still (rule.Apart own a b gap exact) others is = where_true (same_axis own axis) _ _ (by exact) is
    where
      by : (exact : Bool) → MatchBool exact (IsExactlyBehind d axis ys 1 gap a b) (IsAtLeastBehind d axis ys 1 gap a b) → MatchBool exact (IsExactlyBehind e axis zs 1 gap a b) (IsAtLeastBehind e axis zs 1 gap a b)
      by true = still_exactly gap a b others.0 others.1.0
      by false = still_at_least gap a b others.0 others.1.0

  moved : (a b c d : ℤ) → c ≡ a → d ≡ b → a ≤ℤ b → c ≤ℤ d
  moved a b c d same other le = subst (λ z. z ≤ℤ d) (sym same) (subst (λ z. a ≤ℤ z) (sym other) le)

  within_still : (area : NameOf) (inset : ℤ) (m : NameOf) → same_name n area ≡ false → same_name n m ≡ false → IsWithin d axis ys 1 area inset m → IsWithin e axis zs 1 area inset m
  within_still area inset m other others is =
      let low = agree.places (LowEdge area) other in
      let high = agree.places (HighEdge area) other in
      let own = agree.places (OfItem m) others in
      let extent = agree.sizes m others in
      (moved _ _ _ _ (λ i. low i +ℤ scaled 1 inset) own is.0, moved _ _ _ _ (λ i. (own i +ℤ scaled 1 (extent i)) +ℤ scaled 1 inset) high is.1)

  ordered_still : (area : NameOf) → same_name n area ≡ false → IsOrdered d axis ys 1 area → IsOrdered e axis zs 1 area
  ordered_still area other is = moved _ _ _ _ (agree.places (LowEdge area) other) (agree.places (HighEdge area) other) is

  group_still : (g : Group) → same_name n g.name ≡ false → AreOthers n (group_uses g) → MeetsGroup d axis ys 1 g → MeetsGroup e axis zs 1 g
  group_still g other others is =
      (members_still wanted.Shape (IsWithin d axis ys 1 g.name g.pad) (IsWithin e axis zs 1 g.name g.pad) (λ m. within_still g.name g.pad m other) g.members others is.0, ordered_still g.name other is.1)

  -- the shapes that are left lie on a page
  page_still : (p : Page) → same_name n p.name ≡ false → AllByRecursion (λ (s : Shape). same_name n s.name ≡ false) e.shapes
      → AllByRecursion (IsOnPage d axis ys 1 p) e.shapes → IsOrdered d axis ys 1 p.name → OnTrue p.rigid (HasDeclaredSize d axis ys 1 p) → MeetsPage e axis zs 1 p
  page_still p other others on is rigid = (
    shapes e.shapes others on,
    ordered_still p.name other is,
    where_true p.rigid (HasDeclaredSize d axis ys 1 p) (HasDeclaredSize e axis zs 1 p)
        (λ size. let low = agree.places (LowEdge p.name) other in let high = agree.places (HighEdge p.name) other in (λ i. high i -ℤ low i) ∙ size) rigid,
  )
    where
      shapes : (ss : List Shape) → AllByRecursion (λ (s : Shape). same_name n s.name ≡ false) ss → AllByRecursion (IsOnPage d axis ys 1 p) ss → AllByRecursion (IsOnPage e axis zs 1 p) ss
      shapes [] others on = tt
      shapes (s ∷ ss) others on = (within_still p.name p.margin s.name other others.0 on.0, shapes ss others.1 on.1)

-- ---- each name that is used is another

guide_of_axis : (axis : Axis) (n : NameOf) (gs : List Guide) → has_guide gs n ≡ false → has_guide_on axis gs n ≡ false
guide_of_axis axis n [] free = refl
guide_of_axis axis n (g ∷ gs) free = by (same_name n g.name) free (guide_of_axis axis n gs)
  where
    by : (b : Bool) → (b || has_guide gs n) ≡ false → (has_guide gs n ≡ false → has_guide_on axis gs n ≡ false) → ((b && same_axis g.axis axis) || has_guide_on axis gs n) ≡ false
    by true free rest = cc
    by false free rest = rest free

module _ (e : Diagram) (n : NameOf) (free : stands e n ≡ false) where
  stands_not : (w : Wanted) → stands_as e.shapes e.guides w n ≡ false
  stands_not wanted.Shape = free_in e n free sort.Shape
  stands_not wanted.Guide = free_in e n free sort.Guide
  stands_not (wanted.Placed axis) = (λ i. free_in e n free sort.Shape i || has_guide_on axis e.guides n) ∙ guide_of_axis axis n e.guides (free_in e n free sort.Guide)

  are_others : (us : List Use) → AllByRecursion (λ (u : Use). stands_as e.shapes e.guides u.wanted u.name ≡ true) us → AreOthers n us
  are_others [] all = tt
  are_others (u ∷ us) all = (by (same_name n u.name) refl, are_others us all.1)
    where
      by : (b : Bool) → same_name n u.name ≡ b → same_name n u.name ≡ false
      by true is = let same = (bytes_eq-Decides n u.name).0 is in let no = ap (stands_as e.shapes e.guides u.wanted) same in let none = stands_not u.wanted in let some = all.0 in cc
      by false is = is

-- ---- the scene without the item

-- the rest of a scene meets what the whole does
module _ (d : Diagram) (axis : Axis) (ys : List ℤ) (met : MeetsAll d axis ys 1) where
  -- the shapes that are left lie on the page
  abbrev IsPageOf : Diagram → Page → Type 0
  IsPageOf e p = AllByRecursion (IsOnPage d axis ys 1 p) e.shapes × IsOrdered d axis ys 1 p.name × OnTrue p.rigid (HasDeclaredSize d axis ys 1 p)

  abbrev IsMetPart : Diagram → Type 0
  IsMetPart e = AllByRecursion (MeetsCompound d axis ys 1) e.compounds × AllByRecursion (MeetsGroup d axis ys 1) e.groups × AllByRecursion (IsPageOf e) e.pages

  met_part : (s : Sort) (at : ℕ) → IsMetPart (without_at d s at)
  met_part sort.Shape at = (met.0, met.1, fewer d.pages met.2)
    where
      fewer : (ps : List Page) → AllByRecursion (MeetsPage d axis ys 1) ps → AllByRecursion (IsPageOf (without_at d sort.Shape at)) ps
      fewer [] all = tt
      fewer (p ∷ ps) all = ((All-remove (IsOnPage d axis ys 1 p) d.shapes at all.0.0, all.0.1, all.0.2), fewer ps all.1)
  met_part sort.Guide at = met
  met_part sort.Link at = met
  met_part sort.Compound at = (All-remove (MeetsCompound d axis ys 1) d.compounds at met.0, met.1, met.2)
  met_part sort.Group at = (met.0, All-remove (MeetsGroup d axis ys 1) d.groups at met.1, met.2)
  met_part sort.Page at = (met.0, met.1, All-remove (MeetsPage d axis ys 1) d.pages at met.2)

  still_met : (n : NameOf) (e : Diagram) (zs : List ℤ) → AgreesBut n d e axis ys zs → IsSound e → stands e n ≡ false → IsMetPart e → MeetsAll e axis zs 1
  still_met n e zs agree sound free part = (compounds e.compounds sound.compounds part.0, groups e.groups (none_named (λ (g : Group). g.name) n e.groups (free_in e n free sort.Group)) sound.groups part.1, pages e.pages (none_named (λ (p : Page). p.name) n e.pages (free_in e n free sort.Page)) part.2)
    where
      compounds : (cs : List Compound) → AllByRecursion (IsCompound e.shapes e.guides) cs → AllByRecursion (MeetsCompound d axis ys 1) cs → AllByRecursion (MeetsCompound e axis zs 1) cs
      compounds [] are all = tt
      compounds (c ∷ cs) are all = (rule_still n d e axis ys zs agree c.rule (are_others e n free (rule_uses c.rule) are.0.user.stand) all.0, compounds cs are.1 all.1)

      groups : (gs : List Group) → AllByRecursion (λ (g : Group). same_name n g.name ≡ false) gs → AllByRecursion (IsGroup e.shapes e.guides) gs → AllByRecursion (MeetsGroup d axis ys 1) gs → AllByRecursion (MeetsGroup e axis zs 1) gs
      groups [] others are all = tt
      groups (g ∷ gs) others are all = (group_still n d e axis ys zs agree g others.0 (are_others e n free (group_uses g) are.0.user.stand) all.0, groups gs others.1 are.1 all.1)

      pages : (ps : List Page) → AllByRecursion (λ (p : Page). same_name n p.name ≡ false) ps → AllByRecursion (IsPageOf e) ps → AllByRecursion (MeetsPage e axis zs 1) ps
      pages [] others all = tt
      pages (p ∷ ps) others all =
          (page_still n d e axis ys zs agree p others.0 (none_named (λ (s : Shape). s.name) n e.shapes (free_in e n free sort.Shape)) all.0.0 all.0.1 all.0.2, pages ps others.1 all.1)

-- places that satisfy the list show that it is feasible
placed : (d : Diagram) (axis : Axis) → HasPlaces (separations d axis) → IsFeasibleAxis d axis
placed d axis has cycle = never_both (separations d axis) cycle.0 has.0 1 cycle.1 (omega arith) has.1

feasible_without_at : (d : Diagram) (axis : Axis) (at : ℕ) (t : Thing) → IsSound d → thing_at d (sort_of t) at ≡ Some t → IsFree d t → IsFeasibleAxis d axis → IsFeasibleAxis (without_at d (sort_of t) at) axis
feasible_without_at d axis at t sound there free feasible =
    ⊎_elim
    (λ (has : HasPlaces (separations d axis)). placed (without_at d (sort_of t) at) axis (zs has.0, (meets_where_satisfied (without_at d (sort_of t) at) axis (zs has.0) 1).0 (met has.0 ((meets_where_satisfied d axis has.0 1).1 has.1))))
    (λ cycle. absurd (feasible cycle)) (one_of_both (separations d axis))
  where
    zs : List ℤ → List ℤ
    zs ys = thinned (variables_left d axis at t there) ys

    met : (ys : List ℤ) → MeetsAll d axis ys 1 → MeetsAll (without_at d (sort_of t) at) axis (zs ys) 1
    met ys all =
        still_met d axis ys all (name_of_thing t) (without_at d (sort_of t) at) (zs ys) (agrees d axis ys at t there) (IsSound-without_at d at t sound there free) (free-without_at d at t sound.distinct there)
        (met_part d axis ys all (sort_of t) at)

-- without an item that none of the others uses
pub feasible_without : (d : Diagram) (axis : Axis) (n : NameOf) (t : Thing) → IsSound d → thing_named d n ≡ Some t → IsFree d t → IsFeasibleAxis d axis → IsFeasibleAxis (without d n) axis
feasible_without d axis n t sound found free feasible =
    let x = thing_found_is d n t found in
    subst (λ c. IsFeasibleAxis c axis) (sym (ap (λ o. option_map_or (λ (item : Item). without_at d item.sort item.at) o d) x.item))
    (feasible_without_at d axis x.at t sound x.there free feasible)
