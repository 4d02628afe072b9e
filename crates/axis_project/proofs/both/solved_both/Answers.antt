use Rattle.std.proofs.Common.{sym, subst, List, ℕ, All}
use Rattle.std.specs.List.{AllZip}
use Rattle.multiplier_check.specs.Certificate.{IsCertificate}
use Rattle.vpsc_solve.specs.Stops.{IsFeasible}
use Rattle.axis_project.specs.declared.apart.Component.{Component}
use Rattle.axis_project.specs.Gather.{AreShownFrom}
use Rattle.axis_project.proofs.Axes.{all_feasible, first_shown, second_shown}
use Rattle.axis_project.proofs.both.solved_both.Goals as goal

pub solved_all-requires-after_bounds : goal.solved_all-requires-after_bounds
solved_all-requires-after_bounds g c κs within =
    subst (λ (list : List Component). All (λ (component : Component). IsFeasible component.problem) list) (sym c.deref.ensures.value)
    (all_feasible c.args.x.now c.args.y.now c.in_ok-x_apart.x_apart c.in_ok-y_apart.y_apart c.in_ok-list.list.items c.taken_apart.ensures.bounded c.taken_apart-2.ensures.bounded
    c.in_ok-x_apart.ensures.apart c.in_ok-y_apart.ensures.apart c.requires.feasible_x c.requires.feasible_y c.in_ok-list.ensures)

pub together-requires-clause-shown : goal.together-requires-clause-shown
together-requires-clause-shown g c =
    subst (AreShownFrom c.args.x.now c.in_ok-x_apart.x_apart.keys.items c.in_ok-x_apart.x_apart.count 0) (sym c.deref-2.ensures.value)
    (first_shown c.args.x.now c.args.y.now c.in_ok-x_apart.x_apart c.in_ok-y_apart.y_apart c.in_ok-list.list.items c.in_ok-certificates.certificates.items c.in_ok-list.ensures
    (subst (λ (list : List Component). AllZip (λ (component : Component) certificate. IsCertificate component.problem certificate) list c.in_ok-certificates.certificates.items) c.deref.ensures.value c.in_ok-certificates.ensures))

pub together-requires-2-clause-shown : goal.together-requires-2-clause-shown
together-requires-2-clause-shown g c =
    subst (λ (first : ℕ). AreShownFrom c.args.y.now c.in_ok-y_apart.y_apart.keys.items c.in_ok-y_apart.y_apart.count first c.deref-3.result.now) (sym c.from.ensures)
    (subst (AreShownFrom c.args.y.now c.in_ok-y_apart.y_apart.keys.items c.in_ok-y_apart.y_apart.count c.in_ok-x_apart.x_apart.count) (sym c.deref-3.ensures.value)
    (second_shown c.args.x.now c.args.y.now c.in_ok-x_apart.x_apart c.in_ok-y_apart.y_apart c.in_ok-list.list.items c.in_ok-certificates.certificates.items c.in_ok-list.ensures
    (subst (λ (list : List Component). AllZip (λ (component : Component) certificate. IsCertificate component.problem certificate) list c.in_ok-certificates.certificates.items) c.deref.ensures.value c.in_ok-certificates.ensures)))
