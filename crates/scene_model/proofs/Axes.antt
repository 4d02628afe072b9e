-- The variables of an axis: how many there are, the one of a number, and the number of a name.
use Rattle.std.proofs.Common.{◌≡◌, ◌+◌, ◌*◌, ◌/◌, ◌%◌, ◌<◌, ℕ, suc, List, [], ◌∷◌, ◌++◌, Bool, true, false, cond, length, map, drop, refl, ap, sym, ◌∙◌, arith, slice_get, Option, Some, None, length-append, append_assoc}
use Rattle.std.specs.Prelude.{position, nat_eq, if◌then◌else◌}
use Rattle.std.specs.List.{flat_map}
use Rattle.std.specs.Option.{option_map, option_or}
use Rattle.std.proofs.lemmas.List.{length-map}
use Rattle.std.proofs.lemmas.Option.{slice_get-map}
use Rattle.std.proofs.lemmas.Bool.Decides.{nat_tests}
use Rattle.units.specs.declared.geometry.Axis.{Axis}
use Rattle.scene_model.specs.declared.items.Shape.{Shape}
use Rattle.scene_model.specs.declared.items.Guide.{Guide}
use Rattle.scene_model.specs.declared.items.Group.{Group}
use Rattle.scene_model.specs.declared.items.Page.{Page}
use Rattle.scene_model.specs.declared.variables.Variable.{Variable}
use Rattle.scene_model.specs.declared.variables.VariableName.{VariableName}
use Rattle.scene_model.specs.declared.variables.VariableName.TheVariants.{OfItem, LowEdge, HighEdge}
use Rattle.scene_model.specs.Names.{NameOf, same_name, same_axis}
use Rattle.scene_model.specs.Diagram.{Diagram, shape_names, guide_names, group_names, page_names}
use Rattle.scene_model.specs.Variables.{variables, same_variable, shape_variable, guide_variable, group_variables, page_variables, guides_on, variable_number}
use Rattle.scene_model.proofs.Positions.{position-next, position-append, position-agree, position-no_part, position-nowhere, position-inside, position-pairs, length-pairs, slice_get-front, slice_get-behind, slice_get-pairs, drop-get}

-- the variables of the edges: those of the groups, then those of the page
abbrev pub edges : Diagram → Axis → List Variable
edges d axis = flat_map (group_variables axis) d.groups ++ flat_map (page_variables axis) d.pages

-- the names of what has edges
abbrev pub area_names : Diagram → List NameOf
area_names d = group_names d.groups ++ page_names d.pages

-- the variables, part behind part
abbrev parts : Diagram → Axis → List Variable
parts d axis = map (shape_variable axis) d.shapes ++ (map guide_variable (guides_on axis d.guides) ++ edges d axis)

variables-parts : (d : Diagram) (axis : Axis) → variables d axis ≡ parts d axis
variables-parts d axis =
    by (map (shape_variable axis) d.shapes) (map guide_variable (guides_on axis d.guides)) (flat_map (group_variables axis) d.groups) (flat_map (page_variables axis) d.pages)
  where
    by : (a b c e : List Variable) → ((a ++ b) ++ c) ++ e ≡ a ++ (b ++ (c ++ e))
    by a b c e = simp append_assoc

-- the variables of the shapes stand in front
pub variables-front : (d : Diagram) (axis : Axis) → (rest : List Variable) × (variables d axis ≡ map (shape_variable axis) d.shapes ++ rest)
variables-front d axis = (map guide_variable (guides_on axis d.guides) ++ edges d axis, variables-parts d axis)

-- ---- the guidelines of an axis

-- the guidelines of the axis from a place on, and those from the next on
pub guides_on-next : (axis : Axis) (gs : List Guide) (at : ℕ) (g : Guide) → slice_get gs at ≡ Some g
    → guides_on axis (drop at gs) ≡ cond (same_axis g.axis axis) (g ∷ guides_on axis (drop (at + 1) gs)) (guides_on axis (drop (at + 1) gs))
guides_on-next axis gs at g there = ap (guides_on axis) (drop-get gs at g there)

pub guides_on-here : (axis : Axis) (gs : List Guide) (at : ℕ) (g : Guide) → slice_get gs at ≡ Some g → same_axis g.axis axis ≡ true → guides_on axis (drop at gs) ≡ g ∷ guides_on axis (drop (at + 1) gs)
guides_on-here axis gs at g there on = guides_on-next axis gs at g there ∙ ap (λ b. cond b (g ∷ guides_on axis (drop (at + 1) gs)) (guides_on axis (drop (at + 1) gs))) on

pub guides_on-passed : (axis : Axis) (gs : List Guide) (at : ℕ) (g : Guide) → slice_get gs at ≡ Some g → same_axis g.axis axis ≡ false → guides_on axis (drop at gs) ≡ guides_on axis (drop (at + 1) gs)
guides_on-passed axis gs at g there off = guides_on-next axis gs at g there ∙ ap (λ b. cond b (g ∷ guides_on axis (drop (at + 1) gs)) (guides_on axis (drop (at + 1) gs))) off

-- what is left to pass of the guidelines of the axis, up to the one of a number
pub number_here : (axis : Axis) (gs : List Guide) (at left : ℕ) (g : Guide) (out : Option Guide) → slice_get gs at ≡ Some g → same_axis g.axis axis ≡ true → left ≡ 0
    → slice_get (guides_on axis (drop at gs)) left ≡ out → Some g ≡ out
number_here axis gs at left g out there on none found =
    sym (ap (slice_get (g ∷ guides_on axis (drop (at + 1) gs))) none) ∙ (sym (ap (λ xs. slice_get xs left) (guides_on-here axis gs at g there on)) ∙ found)

pub number_next : (axis : Axis) (gs : List Guide) (at left more : ℕ) (g : Guide) (out : Option Guide) → slice_get gs at ≡ Some g → same_axis g.axis axis ≡ true → left ≡ suc more
    → slice_get (guides_on axis (drop at gs)) left ≡ out → slice_get (guides_on axis (drop (at + 1) gs)) more ≡ out
number_next axis gs at left more g out there on some found =
    sym (ap (slice_get (g ∷ guides_on axis (drop (at + 1) gs))) some) ∙ (sym (ap (λ xs. slice_get xs left) (guides_on-here axis gs at g there on)) ∙ found)

pub number_passed : (axis : Axis) (gs : List Guide) (at left more : ℕ) (g : Guide) (out : Option Guide) → slice_get gs at ≡ Some g → same_axis g.axis axis ≡ false → left ≡ more
    → slice_get (guides_on axis (drop at gs)) left ≡ out → slice_get (guides_on axis (drop (at + 1) gs)) more ≡ out
number_passed axis gs at left more g out there off same found =
    sym (ap (slice_get (guides_on axis (drop (at + 1) gs))) same) ∙ (sym (ap (λ xs. slice_get xs left) (guides_on-passed axis gs at g there off)) ∙ found)

-- the place of a name among the guidelines of the axis from a place on
abbrev pub place_from : Axis → NameOf → List Guide → ℕ → Option ℕ
place_from axis n gs at = position (same_name n) (guide_names (guides_on axis (drop at gs)))

-- the name stands here, further on, or further on since the guideline is of the other axis
pub place_here : (axis : Axis) (n : NameOf) (gs : List Guide) (at passed : ℕ) (g : Guide) (out : Option ℕ) → slice_get gs at ≡ Some g → same_axis g.axis axis ≡ true → same_name n g.name ≡ true
    → out ≡ option_map (λ k. passed + k) (place_from axis n gs at) → Some passed ≡ out
place_here axis n gs at passed g out there on same found =
    let first : place_from axis n gs at ≡ Some 0 =
    ap (λ xs. position (same_name n) (guide_names xs)) (guides_on-here axis gs at g there on)
    ∙ (position-next (same_name n) g.name (guide_names (guides_on axis (drop (at + 1) gs))) ∙ ap (λ b. cond b (Some 0) (option_map suc (place_from axis n gs (at + 1)))) same) in
    let none_more : passed + 0 ≡ passed = omega arith in
    sym (found ∙ (ap (option_map (λ k. passed + k)) first ∙ ap Some none_more))

pub place_next : (axis : Axis) (n : NameOf) (gs : List Guide) (at passed more : ℕ) (g : Guide) (out : Option ℕ) → slice_get gs at ≡ Some g → same_axis g.axis axis ≡ true → same_name n g.name ≡ false → more ≡ passed + 1
    → out ≡ option_map (λ k. passed + k) (place_from axis n gs at) → out ≡ option_map (λ k. more + k) (place_from axis n gs (at + 1))
place_next axis n gs at passed more g out there on differs one found =
    let later : place_from axis n gs at ≡ option_map suc (place_from axis n gs (at + 1)) =
    ap (λ xs. position (same_name n) (guide_names xs)) (guides_on-here axis gs at g there on)
    ∙ (position-next (same_name n) g.name (guide_names (guides_on axis (drop (at + 1) gs))) ∙ ap (λ b. cond b (Some 0) (option_map suc (place_from axis n gs (at + 1)))) differs) in
    found ∙ (ap (option_map (λ k. passed + k)) later ∙ by (place_from axis n gs (at + 1)))
  where
    by : (o : Option ℕ) → option_map (λ k. passed + k) (option_map suc o) ≡ option_map (λ k. more + k) o
    by (Some k) = ap Some (omega arith)
    by None = refl

pub place_passed : (axis : Axis) (n : NameOf) (gs : List Guide) (at passed more : ℕ) (g : Guide) (out : Option ℕ) → slice_get gs at ≡ Some g → same_axis g.axis axis ≡ false → more ≡ passed
    → out ≡ option_map (λ k. passed + k) (place_from axis n gs at) → out ≡ option_map (λ k. more + k) (place_from axis n gs (at + 1))
place_passed axis n gs at passed more g out there off none found =
    found
    ∙ (ap (λ xs. option_map (λ k. passed + k) (position (same_name n) (guide_names xs))) (guides_on-passed axis gs at g there off)
    ∙ ap (λ m. option_map (λ k. m + k) (place_from axis n gs (at + 1))) (sym none))

-- ---- how many

pub length-edges : (d : Diagram) (axis : Axis) → length (edges d axis) ≡ 2 * (length d.groups + length d.pages)
length-edges d axis =
    let groups = length-pairs (group_variables axis) (λ g. refl) d.groups in
    let pages = length-pairs (page_variables axis) (λ p. refl) d.pages in
    let both = length-append (flat_map (group_variables axis) d.groups) (flat_map (page_variables axis) d.pages) in
    omega arith

pub length-variables : (d : Diagram) (axis : Axis) → length (variables d axis) ≡ length d.shapes + length (guides_on axis d.guides) + length (edges d axis)
length-variables d axis =
    let shapes = length-map d.shapes (shape_variable axis) in
    let guides = length-map (guides_on axis d.guides) guide_variable in
    let all = length-append (map (shape_variable axis) d.shapes) (map guide_variable (guides_on axis d.guides) ++ edges d axis) in
    let rest = length-append (map guide_variable (guides_on axis d.guides)) (edges d axis) in
    let same = ap length (variables-parts d axis) in
    omega arith

pub variables_counted : (d : Diagram) (axis : Axis) → length (variables d axis) ≡ length d.shapes + length (guides_on axis d.guides) + 2 * (length d.groups + length d.pages)
variables_counted d axis = let all = length-variables d axis in let of_edges = length-edges d axis in omega arith

-- ---- the variable of a number

pub shape_at : (d : Diagram) (axis : Axis) (var : ℕ) (s : Shape) → slice_get d.shapes var ≡ Some s → var < length d.shapes → slice_get (variables d axis) var ≡ Some (shape_variable axis s)
shape_at d axis var s at less =
    let shapes = length-map d.shapes (shape_variable axis) in
    ap (λ vs. slice_get vs var) (variables-parts d axis)
    ∙ (slice_get-front (map (shape_variable axis) d.shapes) (map guide_variable (guides_on axis d.guides) ++ edges d axis) var (omega arith)
    ∙ (slice_get-map (shape_variable axis) d.shapes var ∙ ap (option_map (shape_variable axis)) at))

pub guide_at : (d : Diagram) (axis : Axis) (var number : ℕ) (v : Variable) → slice_get (map guide_variable (guides_on axis d.guides)) number ≡ Some v → number < length (guides_on axis d.guides) → var ≡ length d.shapes + number
    → slice_get (variables d axis) var ≡ Some v
guide_at d axis var number v at less split =
    let shapes = length-map d.shapes (shape_variable axis) in
    let guides = length-map (guides_on axis d.guides) guide_variable in
    ap (λ vs. slice_get vs var) (variables-parts d axis)
    ∙ (slice_get-behind (map (shape_variable axis) d.shapes) (map guide_variable (guides_on axis d.guides) ++ edges d axis) var number (omega arith)
    ∙ (slice_get-front (map guide_variable (guides_on axis d.guides)) (edges d axis) number (omega arith) ∙ at))

pub edge_at : (d : Diagram) (axis : Axis) (var number : ℕ) (v : Variable) → slice_get (edges d axis) number ≡ Some v → var ≡ length d.shapes + length (guides_on axis d.guides) + number → slice_get (variables d axis) var ≡ Some v
edge_at d axis var number v at split =
    let shapes = length-map d.shapes (shape_variable axis) in
    let guides = length-map (guides_on axis d.guides) guide_variable in
    ap (λ vs. slice_get vs var) (variables-parts d axis)
    ∙ (slice_get-behind (map (shape_variable axis) d.shapes) (map guide_variable (guides_on axis d.guides) ++ edges d axis) var (length (guides_on axis d.guides) + number) (omega arith)
    ∙ (slice_get-behind (map guide_variable (guides_on axis d.guides)) (edges d axis) (length (guides_on axis d.guides) + number) number (omega arith) ∙ at))

-- a number is twice its half, and one more where it is odd
halves : (k : ℕ) → (k ≡ 2 * (k / 2) + cond (nat_eq (k % 2) 1) 1 0) × (cond (nat_eq (k % 2) 1) 1 0 < 2)
halves k = (grind (arith, nat_tests), grind (arith, nat_tests))

pub group_edge_at : (d : Diagram) (axis : Axis) (number : ℕ) (g : Group) → slice_get d.groups (number / 2) ≡ Some g → number / 2 < length d.groups
    → slice_get (edges d axis) number ≡ slice_get (group_variables axis g) (if nat_eq (number % 2) 1 then 1 else 0)
group_edge_at d axis number g at less =
    let split = halves number in
    let size = length-pairs (group_variables axis) (λ g. refl) d.groups in
    slice_get-front (flat_map (group_variables axis) d.groups) (flat_map (page_variables axis) d.pages) number (omega arith)
    ∙ slice_get-pairs (group_variables axis) (λ g. refl) d.groups number (number / 2) (cond (nat_eq (number % 2) 1) 1 0) g at split.1 split.0

pub page_edge_at : (d : Diagram) (axis : Axis) (number at : ℕ) (p : Page) → slice_get d.pages at ≡ Some p → number / 2 ≡ length d.groups + at
    → slice_get (edges d axis) number ≡ slice_get (page_variables axis p) (if nat_eq (number % 2) 1 then 1 else 0)
page_edge_at d axis number at p there behind =
    let split = halves number in
    let size = length-pairs (group_variables axis) (λ g. refl) d.groups in
    slice_get-behind (flat_map (group_variables axis) d.groups) (flat_map (page_variables axis) d.pages) number (2 * at + cond (nat_eq (number % 2) 1) 1 0) (omega arith)
    ∙ slice_get-pairs (page_variables axis) (λ p. refl) d.pages (2 * at + cond (nat_eq (number % 2) 1) 1 0) at (cond (nat_eq (number % 2) 1) 1 0) p there split.1 refl

-- ---- the number of a name

-- whether a variable has the name
abbrev has : VariableName → Variable → Bool
has name v = same_variable name v.name

-- the first place in the three parts
number-parts : (d : Diagram) (axis : Axis) (name : VariableName)
    → variable_number d axis name
    ≡ option_or (position (has name) (map (shape_variable axis) d.shapes))
    (option_map (λ k. length d.shapes + k) (option_or (position (has name) (map guide_variable (guides_on axis d.guides)))
    (option_map (λ k. length (guides_on axis d.guides) + k) (position (has name) (edges d axis)))))
number-parts d axis name =
    let shapes = length-map d.shapes (shape_variable axis) in
    let guides = length-map (guides_on axis d.guides) guide_variable in
    ap (position (has name)) (variables-parts d axis)
    ∙ (position-append (has name) (map (shape_variable axis) d.shapes) (map guide_variable (guides_on axis d.guides) ++ edges d axis)
    ∙ (ap (λ o. option_or (position (has name) (map (shape_variable axis) d.shapes)) (option_map (λ k. length (map (shape_variable axis) d.shapes) + k) o)) (position-append (has name) (map guide_variable (guides_on axis d.guides)) (edges d axis))
    ∙ (ap (λ n. option_or (position (has name) (map (shape_variable axis) d.shapes)) (option_map (λ k. n + k) (option_or (position (has name) (map guide_variable (guides_on axis d.guides))) (option_map (λ k. length (map guide_variable (guides_on axis d.guides)) + k) (position (has name) (edges d axis)))))) shapes
    ∙ ap (λ n. option_or (position (has name) (map (shape_variable axis) d.shapes)) (option_map (λ k. length d.shapes + k) (option_or (position (has name) (map guide_variable (guides_on axis d.guides))) (option_map (λ k. n + k) (position (has name) (edges d axis)))))) guides)))

-- an edge has no name of an item
item-no_edge : (d : Diagram) (axis : Axis) (n : NameOf) → position (has (OfItem n)) (edges d axis) ≡ None
item-no_edge d axis n =
    position-append (has (OfItem n)) (flat_map (group_variables axis) d.groups) (flat_map (page_variables axis) d.pages)
    ∙ (ap (λ o. option_or o (option_map (λ k. length (flat_map (group_variables axis) d.groups) + k) (position (has (OfItem n)) (flat_map (page_variables axis) d.pages)))) (position-no_part (group_variables axis) (has (OfItem n)) (λ g. refl) d.groups)
    ∙ ap (option_map (λ k. length (flat_map (group_variables axis) d.groups) + k)) (position-no_part (page_variables axis) (has (OfItem n)) (λ p. refl) d.pages))

-- the number of a shape or guideline
pub item_number : (d : Diagram) (axis : Axis) (n : NameOf)
    → variable_number d axis (OfItem n)
    ≡ option_or (position (same_name n) (shape_names d.shapes)) (option_map (λ k. length d.shapes + k) (position (same_name n) (guide_names (guides_on axis d.guides))))
item_number d axis n =
    number-parts d axis (OfItem n)
    ∙ (ap (λ o. option_or (position (has (OfItem n)) (map (shape_variable axis) d.shapes))
    (option_map (λ k. length d.shapes + k) (option_or (position (has (OfItem n)) (map guide_variable (guides_on axis d.guides))) (option_map (λ k. length (guides_on axis d.guides) + k) o)))) (item-no_edge d axis n)
    ∙ (ap (λ o. option_or o (option_map (λ k. length d.shapes + k) (option_or (position (has (OfItem n)) (map guide_variable (guides_on axis d.guides))) None)))
    (position-agree (shape_variable axis) (λ (s : Shape). s.name) (has (OfItem n)) (same_name n) (λ s. refl) d.shapes)
    ∙ (ap (λ o. option_or (position (same_name n) (shape_names d.shapes)) (option_map (λ k. length d.shapes + k) (option_or o None)))
    (position-agree guide_variable (λ (g : Guide). g.name) (has (OfItem n)) (same_name n) (λ g. refl) (guides_on axis d.guides))
    ∙ by (position (same_name n) (shape_names d.shapes)) (position (same_name n) (guide_names (guides_on axis d.guides))))))
  where
    by : (o r : Option ℕ) → option_or o (option_map (λ k. length d.shapes + k) (option_or r None)) ≡ option_or o (option_map (λ k. length d.shapes + k) r)
    by o (Some k) = refl
    by o None = refl

-- the name of an edge
abbrev pub edge_name : NameOf → Bool → VariableName
edge_name n high = if high then HighEdge n else LowEdge n

-- the place of an edge among the two of a group or page
pair-low : (n m : NameOf) (a b : Variable) → a.name ≡ LowEdge m → b.name ≡ HighEdge m → position (has (LowEdge n)) (a ∷ b ∷ []) ≡ cond (same_name n m) (Some 0) None
pair-low n m a b low high =
    position-next (has (LowEdge n)) a (b ∷ [])
    ∙ (ap (λ v. cond (same_variable (LowEdge n) v) (Some 0) (option_map suc (position (has (LowEdge n)) (b ∷ [])))) low
    ∙ ap (λ o. cond (same_name n m) (Some 0) (option_map suc o)) (position-next (has (LowEdge n)) b [] ∙ ap (λ v. cond (same_variable (LowEdge n) v) (Some 0) None) high))

pair-high : (n m : NameOf) (a b : Variable) → a.name ≡ LowEdge m → b.name ≡ HighEdge m → position (has (HighEdge n)) (a ∷ b ∷ []) ≡ cond (same_name n m) (Some 1) None
pair-high n m a b low high =
    position-next (has (HighEdge n)) a (b ∷ [])
    ∙ (ap (λ v. cond (same_variable (HighEdge n) v) (Some 0) (option_map suc (position (has (HighEdge n)) (b ∷ [])))) low
    ∙ (ap (option_map suc) (position-next (has (HighEdge n)) b [] ∙ ap (λ v. cond (same_variable (HighEdge n) v) (Some 0) None) high) ∙ by (same_name n m)))
  where
    by : (c : Bool) → option_map suc (cond c (Some 0) None) ≡ cond c (Some 1) None
    by true = refl
    by false = refl

pair : (n m : NameOf) (high : Bool) (a b : Variable) → a.name ≡ LowEdge m → b.name ≡ HighEdge m → position (has (edge_name n high)) (a ∷ b ∷ []) ≡ cond (same_name n m) (Some (cond high 1 0)) None
pair n m true a b low high = pair-high n m a b low high
pair n m false a b low high = pair-low n m a b low high

pair-of : (n m : NameOf) (high : Bool) (vs : List Variable) → map (λ (v : Variable). v.name) vs ≡ LowEdge m ∷ HighEdge m ∷ [] → position (has (edge_name n high)) vs ≡ cond (same_name n m) (Some (cond high 1 0)) None
pair-of n m high [] named = cc
pair-of n m high (a ∷ []) named = cc
pair-of n m high (a ∷ b ∷ []) named =
    let first : a.name ≡ LowEdge m = cc in
    let second : b.name ≡ HighEdge m = cc in
    pair n m high a b first second
pair-of n m high (a ∷ b ∷ c ∷ vs) named = cc

-- the place of an edge among the edges
edge-place : (d : Diagram) (axis : Axis) (n : NameOf) (high : Bool) → position (has (edge_name n high)) (edges d axis) ≡ option_map (λ k. 2 * k + cond high 1 0) (position (same_name n) (area_names d))
edge-place d axis n high =
    let size = length-pairs (group_variables axis) (λ g. refl) d.groups in
    let names = length-map d.groups (λ (g : Group). g.name) in
    position-append (has (edge_name n high)) (flat_map (group_variables axis) d.groups) (flat_map (page_variables axis) d.pages)
    ∙ (ap (λ o. option_or o (option_map (λ k. length (flat_map (group_variables axis) d.groups) + k) (position (has (edge_name n high)) (flat_map (page_variables axis) d.pages))))
    (position-pairs (group_variables axis) (λ (g : Group). g.name) (has (edge_name n high)) (same_name n) (cond high 1 0) (λ g. refl) (λ g. pair-of n g.name high (group_variables axis g) refl) d.groups)
    ∙ (ap (λ o. option_or (option_map (λ k. 2 * k + cond high 1 0) (position (same_name n) (group_names d.groups))) (option_map (λ k. length (flat_map (group_variables axis) d.groups) + k) o))
    (position-pairs (page_variables axis) (λ (p : Page). p.name) (has (edge_name n high)) (same_name n) (cond high 1 0) (λ p. refl) (λ p. pair-of n p.name high (page_variables axis p) refl) d.pages)
    ∙ (by (length (flat_map (group_variables axis) d.groups)) (length (group_names d.groups)) (cond high 1 0) (position (same_name n) (group_names d.groups)) (position (same_name n) (page_names d.pages)) (omega arith)
    ∙ ap (option_map (λ k. 2 * k + cond high 1 0)) (sym (position-append (same_name n) (group_names d.groups) (page_names d.pages))))))
  where
    by : (e m r : ℕ) (o p : Option ℕ) → e ≡ 2 * m → option_or (option_map (λ k. 2 * k + r) o) (option_map (λ k. e + k) (option_map (λ k. 2 * k + r) p)) ≡ option_map (λ k. 2 * k + r) (option_or o (option_map (λ k. m + k) p))
    by e m r (Some i) p same = refl
    by e m r None (Some k) same = ap Some (omega arith)
    by e m r None None same = refl

-- a shape or guideline has no name of an edge
edge-no_item : (n m : NameOf) (high : Bool) → same_variable (edge_name n high) (OfItem m) ≡ false
edge-no_item n m true = refl
edge-no_item n m false = refl

-- the number of an edge
pub edge_number : (d : Diagram) (axis : Axis) (n : NameOf) (high : Bool)
    → variable_number d axis (if high then HighEdge n else LowEdge n)
    ≡ option_map (λ k. length d.shapes + length (guides_on axis d.guides) + (2 * k + cond high 1 0)) (position (same_name n) (area_names d))
edge_number d axis n high =
    number-parts d axis (edge_name n high)
    ∙ (ap (λ o. option_or o (option_map (λ k. length d.shapes + k) (option_or (position (has (edge_name n high)) (map guide_variable (guides_on axis d.guides))) (option_map (λ k. length (guides_on axis d.guides) + k) (position (has (edge_name n high)) (edges d axis))))))
    (position-nowhere (shape_variable axis) (has (edge_name n high)) (λ s. edge-no_item n s.name high) d.shapes)
    ∙ (ap (λ o. option_map (λ k. length d.shapes + k) (option_or o (option_map (λ k. length (guides_on axis d.guides) + k) (position (has (edge_name n high)) (edges d axis)))))
    (position-nowhere guide_variable (has (edge_name n high)) (λ g. edge-no_item n g.name high) (guides_on axis d.guides))
    ∙ (ap (λ o. option_map (λ k. length d.shapes + k) (option_map (λ k. length (guides_on axis d.guides) + k) o)) (edge-place d axis n high)
    ∙ by (length d.shapes) (length (guides_on axis d.guides)) (cond high 1 0) (position (same_name n) (area_names d)))))
  where
    by : (s g r : ℕ) (o : Option ℕ) → option_map (λ k. s + k) (option_map (λ k. g + k) (option_map (λ k. 2 * k + r) o)) ≡ option_map (λ k. s + g + (2 * k + r)) o
    by s g r (Some k) = ap Some (omega arith)
    by s g r None = refl

-- what a name finds, part by part
pub shape_found : (d : Diagram) (axis : Axis) (n : NameOf) (at : ℕ) → position (same_name n) (shape_names d.shapes) ≡ Some at → Some at ≡ variable_number d axis (OfItem n)
shape_found d axis n at there =
    sym (item_number d axis n ∙ ap (λ o. option_or o (option_map (λ k. length d.shapes + k) (position (same_name n) (guide_names (guides_on axis d.guides))))) there)

pub guide_found : (d : Diagram) (axis : Axis) (n : NameOf) (number : Option ℕ) → position (same_name n) (shape_names d.shapes) ≡ None → position (same_name n) (guide_names (guides_on axis d.guides)) ≡ number
    → option_map (λ k. length d.shapes + k) number ≡ variable_number d axis (OfItem n)
guide_found d axis n number no_shape there =
    sym (item_number d axis n
    ∙ (ap (λ o. option_or o (option_map (λ k. length d.shapes + k) (position (same_name n) (guide_names (guides_on axis d.guides))))) no_shape
    ∙ ap (option_map (λ k. length d.shapes + k)) there))

edge_found : (d : Diagram) (axis : Axis) (n : NameOf) (high : Bool) (area var : ℕ) → position (same_name n) (area_names d) ≡ Some area → var ≡ length d.shapes + length (guides_on axis d.guides) + 2 * area + cond high 1 0
    → Some var ≡ variable_number d axis (if high then HighEdge n else LowEdge n)
edge_found d axis n high area var there split =
    let sum : var ≡ length d.shapes + length (guides_on axis d.guides) + (2 * area + cond high 1 0) = omega arith in
    ap Some sum ∙ sym (edge_number d axis n high ∙ ap (option_map (λ k. length d.shapes + length (guides_on axis d.guides) + (2 * k + cond high 1 0))) there)

pub high_found : (d : Diagram) (axis : Axis) (n : NameOf) (high : Bool) (area var : ℕ) → high ≡ true → position (same_name n) (area_names d) ≡ Some area → var ≡ length d.shapes + length (guides_on axis d.guides) + 2 * area + 1
    → Some var ≡ variable_number d axis (if high then HighEdge n else LowEdge n)
high_found d axis n high area var is_high there split =
    let one : cond {A = ℕ} high 1 0 ≡ 1 = ap (λ (b : Bool). cond {A = ℕ} b 1 0) is_high in
    edge_found d axis n high area var there (omega arith)

pub low_found : (d : Diagram) (axis : Axis) (n : NameOf) (high : Bool) (area var : ℕ) → high ≡ false → position (same_name n) (area_names d) ≡ Some area → var ≡ length d.shapes + length (guides_on axis d.guides) + 2 * area
    → Some var ≡ variable_number d axis (if high then HighEdge n else LowEdge n)
low_found d axis n high area var is_low there split =
    let none : cond {A = ℕ} high 1 0 ≡ 0 = ap (λ (b : Bool). cond {A = ℕ} b 1 0) is_low in
    edge_found d axis n high area var there (omega arith)

pub edge_missed : (d : Diagram) (axis : Axis) (n : NameOf) (high : Bool) → position (same_name n) (area_names d) ≡ None → None ≡ variable_number d axis (if high then HighEdge n else LowEdge n)
edge_missed d axis n high none =
    sym (edge_number d axis n high ∙ ap (option_map (λ k. length d.shapes + length (guides_on axis d.guides) + (2 * k + cond high 1 0))) none)

-- a number that was found lies below the count
pub number_within : (d : Diagram) (axis : Axis) (name : VariableName) (var : ℕ) → Some var ≡ variable_number d axis name → var < length (variables d axis)
number_within d axis name var found = position-inside (has name) (variables d axis) var (sym found)

-- the place of the name of a group or page among both
pub group_found : (d : Diagram) (n : NameOf) (at : ℕ) → position (same_name n) (group_names d.groups) ≡ Some at → Some at ≡ position (same_name n) (area_names d)
group_found d n at there =
    sym (position-append (same_name n) (group_names d.groups) (page_names d.pages) ∙ ap (λ o. option_or o (option_map (λ k. length (group_names d.groups) + k) (position (same_name n) (page_names d.pages)))) there)

pub page_found : (d : Diagram) (n : NameOf) (at : Option ℕ) → position (same_name n) (group_names d.groups) ≡ None → position (same_name n) (page_names d.pages) ≡ at
    → option_map (λ k. length d.groups + k) at ≡ position (same_name n) (area_names d)
page_found d n at no_group there =
    let names = length-map d.groups (λ (g : Group). g.name) in
    sym (position-append (same_name n) (group_names d.groups) (page_names d.pages)
    ∙ (ap (λ o. option_or o (option_map (λ k. length (group_names d.groups) + k) (position (same_name n) (page_names d.pages)))) no_group
    ∙ (ap (option_map (λ k. length (group_names d.groups) + k)) there
    ∙ ap (λ m. option_map (λ k. m + k) at) names)))
