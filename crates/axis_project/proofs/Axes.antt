-- The list of the components of two problems, and the certificates that come of it.
use Rattle.std.proofs.Common.{◌≡◌, ◌∙◌, ap, sym, refl, subst, ℕ, zero, suc, ◌+◌, ◌<◌, List, [], ◌∷◌, ◌++◌, length, get_or, map, All, ⊎_elim, Result, Ok, Err, IfOk, ℤ, add-one, arith}
use Rattle.std.specs.Prelude.{MatchResult, Contains}
use Rattle.std.specs.List.{AllZip, AllByRecursion}
use Rattle.std.proofs.lemmas.List.{append-nil, length-append, get_or_append_left, get_or-append-add, get_or_push}
use Rattle.std.proofs.lemmas.List.Elements.{All-from_recursion, recursion_from_All, All-append, All-push}
use Rattle.units.specs.declared.geometry.Axis.{Axis}
use Rattle.units.specs.Problem.{Problem, IsBounded}
use Rattle.multiplier_check.specs.declared.certificate.Certificate.{Certificate}
use Rattle.multiplier_check.specs.Certificate.{IsCertificate}
use Rattle.multiplier_check.proofs.Zips.{zip_at}
use Rattle.multiplier_check.specs.Placement.{IsProjection}
use Rattle.scene_model.specs.Diagram.{Diagram}
use Rattle.scene_model.specs.Variables.{variables}
use Rattle.vpsc_solve.specs.Stops.{IsFeasible}
use Rattle.axis_project.specs.declared.apart.Apart.{Apart}
use Rattle.axis_project.specs.declared.apart.Component.{Component}
use Rattle.axis_project.specs.Components.{component, AreKeys}
use Rattle.axis_project.specs.Apart.{IsTakenApart, components, problems}
use Rattle.axis_project.specs.Gather.{certificate_at, AreShownFrom}
use Rattle.axis_project.proofs.Chains.{below_or_at}
use Rattle.axis_project.specs.Projection.{problem_of, IsShown}
use Rattle.axis_project.proofs.Projected.{shown}
use Rattle.axis_project.proofs.Components.{component_feasible}

-- ---- the components of a problem, by their keys

length-components : (problem : Problem) (keys : List ℕ) (count : ℕ) → length (components problem keys count) ≡ count
length-components problem keys zero = refl
length-components problem keys (suc count) = length-append (components problem keys count) (component problem keys count ∷ []) ∙ ap (λ n. n + 1) (length-components problem keys count) ∙ add-one count

components-at : (problem : Problem) (keys : List ℕ) (count key : ℕ) (d : Problem) → key < count → get_or (components problem keys count) key d ≡ component problem keys key
components-at problem keys zero key d within = absurd (omega arith)
components-at problem keys (suc count) key d within = ⊎_elim
    (λ earlier. get_or_append_left (components problem keys count) (component problem keys count ∷ []) d key (omega (arith, length-components problem keys count)) ∙ components-at problem keys count key d earlier)
    (λ here. subst (λ k. get_or (components problem keys (suc count)) k d ≡ component problem keys k) (sym here) (get_or_push (components problem keys count) (component problem keys count) d count (length-components problem keys count)))
    (below_or_at key count (omega arith))

components_feasible : (problem : Problem) (keys : List ℕ) (count : ℕ) → IsBounded problem → AreKeys problem keys → IsFeasible problem → All IsFeasible (components problem keys count)
components_feasible problem keys zero bounded are_keys feasible = λ k d within. absurd (omega arith)
components_feasible problem keys (suc count) bounded are_keys feasible =
    All-push IsFeasible (components problem keys count) (component problem keys count) (components_feasible problem keys count bounded are_keys feasible) (component_feasible problem keys bounded are_keys count feasible)

-- ---- one list

-- what holds of all problems of a list holds of its components
of_problems : (P : Problem → Type 0) (list : List Component) → AllByRecursion P (problems list) → AllByRecursion (λ (c : Component). P c.problem) list
of_problems P [] all = tt
of_problems P (c ∷ cs) all = (all.0, of_problems P cs all.1)

-- all components of two problems are feasible
pub all_feasible : (x y : Problem) (x_apart y_apart : Apart) (list : List Component) → IsBounded x → IsBounded y → IsTakenApart x x_apart → IsTakenApart y y_apart → IsFeasible x → IsFeasible y
    → problems list ≡ components x x_apart.keys.items x_apart.count ++ components y y_apart.keys.items y_apart.count → All (λ (c : Component). IsFeasible c.problem) list
all_feasible x y x_apart y_apart list x_bounded y_bounded x_is y_is x_feasible y_feasible list_is =
    All-from_recursion (λ (c : Component). IsFeasible c.problem) list (of_problems IsFeasible list (recursion_from_All IsFeasible (problems list) (subst (All IsFeasible) (sym list_is)
    (All-append IsFeasible (components x x_apart.keys.items x_apart.count) (components y y_apart.keys.items y_apart.count)
    (components_feasible x x_apart.keys.items x_apart.count x_bounded x_is.keys x_feasible) (components_feasible y y_apart.keys.items y_apart.count y_bounded y_is.keys y_feasible)))))

-- certificates of a list are certificates of its problems
zip_problems : (list : List Component) (certificates : List Certificate) → AllZip (λ (c : Component) certificate. IsCertificate c.problem certificate) list certificates
    → AllZip IsCertificate (problems list) certificates
zip_problems [] [] all = tt
zip_problems [] (z ∷ zs) all = absurd all
zip_problems (c ∷ cs) [] all = absurd all
zip_problems (c ∷ cs) (z ∷ zs) all = (all.0, zip_problems cs zs all.1)

zip_long : (ps : List Problem) (certificates : List Certificate) → AllZip IsCertificate ps certificates → length certificates ≡ length ps
zip_long [] [] all = refl
zip_long [] (z ∷ zs) all = absurd all
zip_long (p ∷ ps) [] all = absurd all
zip_long (p ∷ ps) (z ∷ zs) all = ap suc (zip_long ps zs all.1)

-- where the components of a problem stand behind others, so do their certificates
shown_behind : (problem : Problem) (keys : List ℕ) (count first : ℕ) (before behind ps : List Problem) (certificates : List Certificate) → length before ≡ first
    → ps ≡ before ++ (components problem keys count ++ behind) → AllZip IsCertificate ps certificates → AreShownFrom problem keys count first certificates
shown_behind problem keys count first before behind ps certificates long is all = record {
  enough = λ key within. inside key within;
  shown = λ key within. subst (λ p. IsCertificate p (certificate_at certificates (first + key))) (there key within)
      (zip_at IsCertificate ps certificates problem (record { places = []; multipliers = [] }) all (first + key) (omega (arith, inside key within, zip_long ps certificates all)));
}
  where
    inside : (key : ℕ) → key < count → first + key < length certificates
    inside key within =
        let all_long = zip_long ps certificates all ∙ ap length is in
        let outer = length-append before (components problem keys count ++ behind) in
        let inner = length-append (components problem keys count) behind in
        omega (arith, length-components problem keys count)

    there : (key : ℕ) → key < count → get_or ps (first + key) problem ≡ component problem keys key
    there key within =
        ap (λ (qs : List Problem). get_or qs (first + key) problem) is
        ∙ ap (λ n. get_or (before ++ (components problem keys count ++ behind)) (n + key) problem) (sym long)
        ∙ get_or-append-add before (components problem keys count ++ behind) key problem
        ∙ get_or_append_left (components problem keys count) behind problem key (omega (arith, length-components problem keys count))
        ∙ components-at problem keys count key problem within

module _ (x y : Problem) (x_apart y_apart : Apart) (list : List Component) (certificates : List Certificate)
    (list_is : problems list ≡ components x x_apart.keys.items x_apart.count ++ components y y_apart.keys.items y_apart.count)
    (all : AllZip (λ (c : Component) certificate. IsCertificate c.problem certificate) list certificates) where
  pub first_shown : AreShownFrom x x_apart.keys.items x_apart.count 0 certificates
  first_shown = shown_behind x x_apart.keys.items x_apart.count 0 [] (components y y_apart.keys.items y_apart.count) (problems list) certificates refl list_is (zip_problems list certificates all)

  pub second_shown : AreShownFrom y y_apart.keys.items y_apart.count x_apart.count certificates
  second_shown = shown_behind y y_apart.keys.items y_apart.count x_apart.count (components x x_apart.keys.items x_apart.count) [] (problems list) certificates
      (length-components x x_apart.keys.items x_apart.count) (list_is ∙ ap (λ (ps : List Problem). components x x_apart.keys.items x_apart.count ++ ps) (sym (append-nil (components y y_apart.keys.items y_apart.count)))) (zip_problems list certificates all)

-- ---- what the threads gave

-- where each item was solved, so was the list
pub all_collected : {V E : Type 0} (items : V → List Certificate) (list : List Component) (xs : List (Result Certificate E)) (result : Result V E)
    → AllZip (λ (c : Component) (r : Result Certificate E). IfOk r (IsCertificate c.problem)) list xs
    → MatchResult result (λ v. (ys : List Certificate) × (xs ≡ map Ok ys) × (items v ≡ ys)) (λ e. Contains xs (Err e))
    → IfOk result (λ v. AllZip (λ (c : Component) certificate. IsCertificate c.problem certificate) list (items v))
all_collected items list xs (Err e) all is = tt
all_collected {V} {E} items list xs (Ok v) all is =
    subst (AllZip (λ (c : Component) certificate. IsCertificate c.problem certificate) list) (sym is.2)
    (opened list is.0 (subst (AllZip (λ (c : Component) (r : Result Certificate E). IfOk r (IsCertificate c.problem)) list) is.1 all))
  where
    opened : (cs : List Component) (ys : List Certificate) → AllZip (λ (c : Component) (r : Result Certificate E). IfOk r (IsCertificate c.problem)) cs (map Ok ys)
        → AllZip (λ (c : Component) certificate. IsCertificate c.problem certificate) cs ys
    opened [] [] h = tt
    opened [] (y ∷ ys) h = absurd h
    opened (c ∷ cs) [] h = absurd h
    opened (c ∷ cs) (y ∷ ys) h = (h.0, opened cs ys h.1)

-- certificates of axes' problems that show their projections show those of the scene, for a part of what a call gives
pub all_shown_by : (scene : Diagram) (axis : Axis) (desired : List ℤ) {P E : Type 0} (of : P → Certificate) (result : Result P E) → length desired ≡ length (variables scene axis)
    → IfOk result (λ p. IsCertificate (problem_of scene axis desired) (of p)) → IfOk result (λ p. IsProjection (problem_of scene axis desired) (of p).places) → IfOk result (λ p. IsShown scene axis desired (of p))
all_shown_by scene axis desired of (Ok p) as_long shows projection = shown scene axis desired as_long (of p) shows projection
all_shown_by scene axis desired of (Err e) as_long shows projection = tt
