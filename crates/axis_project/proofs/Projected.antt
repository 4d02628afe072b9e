-- What shows the projection of a problem shows that of the scene.
use Rattle.std.proofs.Common.{◌≡◌, ◌≤◌, ◌+◌, ◌++◌, ◌∷◌, [], Some, take, slice_get, ◌↔◌, ⊎_elim, ◌∙◌, ap, sym, subst, ℕ, ℤ, List, length, Result, Ok, Err, IfOk, arith}
use Rattle.std.specs.Prelude.{All, nat_abs}
use Rattle.std.specs.Option.{option_map}
use Rattle.std.proofs.lemmas.List.{length-map}
use Rattle.std.proofs.lemmas.List.Elements.{All-from_recursion}
use Rattle.std.proofs.lemmas.Option.{slice_get-map}
use Rattle.units.specs.declared.geometry.Axis.{Axis}
use Rattle.units.specs.declared.geometry.Sep.{Sep}
use Rattle.units.specs.Problem.{Problem, IsBounded, IsSeparation}
use Rattle.scene_model.specs.Diagram.{Diagram}
use Rattle.scene_model.specs.Meaning.{Fits}
use Rattle.scene_model.specs.Separations.{separations}
use Rattle.scene_model.specs.Sound.{IsSound}
use Rattle.scene_model.specs.Variables.{variables}
use Rattle.scene_model.specs.declared.variables.Variable.{Variable}
use Rattle.scene_model.proofs.Bounds.{variables-count, variables-weighted}
use Rattle.scene_model.proofs.Named.{take-next}
use Rattle.sep_gen.proofs.Meanings.{fits_where_satisfied}
use Rattle.cycle_test.specs.Cycle.{HasPositiveCycle}
use Rattle.cycle_test.specs.Feasibility.{HasPlaces}
use Rattle.cycle_test.proofs.Existence.{one_of_both}
use Rattle.multiplier_check.specs.declared.certificate.Certificate.{Certificate}
use Rattle.multiplier_check.specs.Certificate.{IsCertificate}
use Rattle.multiplier_check.specs.Placement.{Placement, IsPlacement, Keeps, IsProjection}
use Rattle.multiplier_check.proofs.Law.{IsLeast-same}
use Rattle.vpsc_solve.specs.Stops.{IsFeasible}
use Rattle.sep_gen.specs.Feasibility.{IsFeasibleAxis}
use Rattle.axis_project.specs.Projection.{weights, problem_of, IsShown}
use Rattle.axis_project.proofs.Separated.{separations_sound}

module _ (scene : Diagram) (axis : Axis) (desired : List ℤ) where
  -- the problem lies within its bounds
  pub bounded : IsSound scene → length desired ≡ length (variables scene axis) → All (λ d. nat_abs d ≤ 2000000) desired → length (separations scene axis) ≤ 2048 → IsBounded (problem_of scene axis desired)
  bounded sound as_long near few =
      let count = variables-count {d = scene} axis sound in
      record {
        as_long = length-map (variables scene axis) (λ (v : Variable). v.weight) ∙ sym as_long;
        variables = omega (arith, as_long, count);
        weighted = All-from_recursion (λ w. (1 ≤ w) × (w ≤ 1000)) _ (variables-weighted scene axis);
        near = near;
        count = few;
        sound = subst (λ n. All (λ separation. IsSeparation n separation) (separations scene axis)) (sym as_long) (All-from_recursion _ _ (separations_sound scene axis sound));
      }

  -- where the separations have no positive cycle, some whole places satisfy them
  pub feasible : IsFeasibleAxis scene axis → IsFeasible (problem_of scene axis desired)
  feasible none = ⊎_elim (λ (places : HasPlaces (separations scene axis)). record { places = places.0; denominator = 1; above = omega arith; satisfied = places.1 }) (λ (cycle : HasPositiveCycle (separations scene axis)). absurd (none cycle)) (one_of_both (separations scene axis))

  -- what satisfies the separations is what fits
  satisfied_fits : length desired ≡ length (variables scene axis) → (placement : Placement) → IsPlacement (length desired) placement
      → Keeps (separations scene axis) placement ↔ Fits scene axis placement.places placement.denominator
  satisfied_fits as_long placement placed = let law = fits_where_satisfied scene axis placement.places placement.denominator placed.above (placed.as_long ∙ as_long) in (law.1, law.0)

  -- the projection of the problem is that of the scene
  pub shown : length desired ≡ length (variables scene axis) → (certificate : Certificate)
      → IsCertificate (problem_of scene axis desired) certificate → IsProjection (problem_of scene axis desired) certificate.places → IsShown scene axis desired certificate
  shown as_long certificate shows projection = record {
    projects = record {
      as_long = as_long;
      least = IsLeast-same (Keeps (separations scene axis)) (λ (p : Placement). Fits scene axis p.places p.denominator) desired (weights scene axis) (satisfied_fits as_long) _ projection;
    };
    shown = shows;
  }

  -- so do all certificates that a call may return
  pub all_shown : length desired ≡ length (variables scene axis) → {E : Type 0} (result : Result Certificate E)
      → IfOk result (IsCertificate (problem_of scene axis desired)) → IfOk result (λ certificate. IsProjection (problem_of scene axis desired) certificate.places) → IfOk result (IsShown scene axis desired)
  all_shown as_long (Ok certificate) shows projection = shown as_long certificate shows projection
  all_shown as_long (Err e) shows projection = tt

-- a problem made of lists that are equal to others
pub at_lists : (P : Problem → Type 0) {w v : List ℕ} {d e : List ℤ} {s t : List Sep} → w ≡ v → d ≡ e → s ≡ t
    → P (record { weights = v; desired = e; separations = t }) → P (record { weights = w; desired = d; separations = s })
at_lists P {w} {v} {d} {e} {s} {t} weights_are desired_are separations_are h =
    subst (λ ws. P (record { weights = ws; desired = d; separations = s })) (sym weights_are)
    (subst (λ ds. P (record { weights = v; desired = ds; separations = s })) (sym desired_are)
    (subst (λ ss. P (record { weights = v; desired = e; separations = ss })) (sym separations_are) h))

-- one weight more
pub weights_next : (scene : Diagram) (axis : Axis) (list : List ℕ) (k w : ℕ) → list ≡ take k (weights scene axis)
    → option_map (λ (v : Variable). v.weight) (slice_get (variables scene axis) k) ≡ Some w → list ++ w ∷ [] ≡ take (k + 1) (weights scene axis)
weights_next scene axis list k w so_far is =
    ap (λ (ws : List ℕ). ws ++ w ∷ []) so_far ∙ sym (take-next (weights scene axis) k w (slice_get-map (λ (v : Variable). v.weight) (variables scene axis) k ∙ is))
