-- How many variables an axis has at most, and how much each weighs.
use Rattle.std.proofs.Common.{◌≤◌, List, [], ◌∷◌, ◌++◌, Bool, true, false, cond, length, map, arith}
use Rattle.std.specs.List.{AllByRecursion, flat_map}
use Rattle.units.specs.declared.geometry.Axis.{Axis}
use Rattle.scene_model.specs.declared.items.Shape.{Shape}
use Rattle.scene_model.specs.declared.items.Guide.{Guide}
use Rattle.scene_model.specs.declared.variables.Variable.{Variable}
use Rattle.scene_model.specs.Names.{same_axis}
use Rattle.scene_model.specs.Diagram.{Diagram}
use Rattle.scene_model.specs.Sound.{IsSound}
use Rattle.scene_model.specs.Variables.{variables, shape_variable, guide_variable, group_variables, page_variables, guides_on}
use Rattle.scene_model.proofs.Axes.{variables_counted}

-- no more guidelines are of an axis than there are
pub length-guides_on : (axis : Axis) (gs : List Guide) → length (guides_on axis gs) ≤ length gs
length-guides_on axis [] = omega arith
length-guides_on axis (g ∷ gs) = by (same_axis g.axis axis) (length-guides_on axis gs)
  where
    by : (b : Bool) → length (guides_on axis gs) ≤ length gs → length (cond b (g ∷ guides_on axis gs) (guides_on axis gs)) ≤ length (g ∷ gs)
    by true few = omega arith
    by false few = omega arith

-- a sound diagram has at most 258 variables on an axis
pub variables-count : {d : Diagram} (axis : Axis) → IsSound d → length (variables d axis) ≤ 258
variables-count {d} axis sound =
    let all = variables_counted d axis in
    let guides = length-guides_on axis d.guides in
    let shapes = sound.counts.shapes in
    let of_guides = sound.counts.guides in
    let groups = sound.counts.groups in
    let pages = sound.counts.pages in
    omega arith

-- a weight from 1 to 1000
abbrev pub IsWeight : Variable → Type 0
IsWeight v = (1 ≤ v.weight) × (v.weight ≤ 1000)

weighted-append : (vs ws : List Variable) → AllByRecursion IsWeight vs → AllByRecursion IsWeight ws → AllByRecursion IsWeight (vs ++ ws)
weighted-append [] ws all more = more
weighted-append (v ∷ vs) ws all more = (all.0, weighted-append vs ws all.1 more)

weighted-map : {A : Type 0} (f : A → Variable) → ((x : A) → IsWeight (f x)) → (xs : List A) → AllByRecursion IsWeight (map f xs)
weighted-map f each [] = tt
weighted-map f each (x ∷ xs) = (each x, weighted-map f each xs)

weighted-flat_map : {A : Type 0} (f : A → List Variable) → ((x : A) → AllByRecursion IsWeight (f x)) → (xs : List A) → AllByRecursion IsWeight (flat_map f xs)
weighted-flat_map f each [] = tt
weighted-flat_map f each (x ∷ xs) = weighted-append (f x) (flat_map f xs) (each x) (weighted-flat_map f each xs)

shape-weight : (axis : Axis) (s : Shape) → IsWeight (shape_variable axis s)
shape-weight axis s = by s.held
  where
    by : (b : Bool) → (1 ≤ cond b 1000 1) × (cond b 1000 1 ≤ 1000)
    by true = (omega arith, omega arith)
    by false = (omega arith, omega arith)

weights-map : (vs : List Variable) → AllByRecursion IsWeight vs → AllByRecursion (λ w. (1 ≤ w) × (w ≤ 1000)) (map (λ (v : Variable). v.weight) vs)
weights-map [] all = tt
weights-map (v ∷ vs) all = (all.0, weights-map vs all.1)

-- each variable weighs 1 to 1000
pub variables-weighted : (d : Diagram) (axis : Axis) → AllByRecursion (λ w. (1 ≤ w) × (w ≤ 1000)) (map (λ (v : Variable). v.weight) (variables d axis))
variables-weighted d axis =
    weights-map (variables d axis)
    (weighted-append _ _
    (weighted-append _ _
    (weighted-append _ _ (weighted-map (shape_variable axis) (shape-weight axis) d.shapes) (weighted-map guide_variable (λ g. (omega arith, omega arith)) (guides_on axis d.guides)))
    (weighted-flat_map (group_variables axis) (λ g. ((omega arith, omega arith), ((omega arith, omega arith), tt))) d.groups))
    (weighted-flat_map (page_variables axis) (λ p. ((omega arith, omega arith), ((omega arith, omega arith), tt))) d.pages))
