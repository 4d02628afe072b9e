-- Whether an axis of a diagram can be laid out.
use Rattle.units.specs.declared.geometry.Axis.{Axis}
use Rattle.scene_model.specs.Diagram.{Diagram}
use Rattle.scene_model.specs.Separations.{separations}
use Rattle.cycle_test.specs.Cycle.{HasPositiveCycle}

-- the separations of the scene on the axis have no positive cycle, so that some places satisfy them
abbrev pub IsFeasibleAxis : Diagram → Axis → Type 0
IsFeasibleAxis scene axis = HasPositiveCycle (separations scene axis) → ⊥
