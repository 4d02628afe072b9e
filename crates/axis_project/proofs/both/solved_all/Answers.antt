use Rattle.std.proofs.Common.{ap, ◌∙◌, Result, IfOk}
use Rattle.multiplier_check.specs.Certificate.{IsCertificate}
use Rattle.multiplier_check.specs.declared.certificate.Certificate.{Certificate}
use Rattle.units.specs.declared.memory.Memory.{Memory}
use Rattle.axis_project.specs.declared.apart.Component.{Component}
use Rattle.rayon.proofs.ToStd.{slice-AllZip}
use Rattle.axis_project.proofs.Axes.{all_collected}
use Rattle.axis_project.proofs.both.solved_all.Goals as goal

pub returns : goal.returns
returns g c =
    let h = c.in_ok-collect.ensures in
    all_collected (λ v. v.items) c.args.list.now h.0 c.in_ok-collect.field-0
    (slice-AllZip h.1.0 c.args.list.now (h.1.1 ∙ (ap (λ it. it.slice.now) c.map.ensures.base ∙ c.par_iter.ensures))
    (λ (component : Component) (r : Result Certificate Memory). IfOk r (IsCertificate component.problem)) h.0 h.1.2) h.2
