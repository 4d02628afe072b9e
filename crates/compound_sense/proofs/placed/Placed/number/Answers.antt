use Rattle.std.proofs.Common.{sym, ◌∙◌}
use Rattle.scene_model.specs.declared.variables.Variable.{Variable}
use Rattle.scene_model.specs.Variables.{variables, same_variable}
use Rattle.scene_model.proofs.Sizes.{number_missed}
use Rattle.compound_sense.proofs.placed.Placed.number.Goals as goal

pub returns-in-None : goal.returns-in-None
returns-in-None c =
    c.vars.ensures.value
    ∙ number_missed (λ (v : Variable). same_variable c.args.name.now v.name) (variables c.args.self.now.scene.now c.args.self.now.axis) (sym c.variable_number.ensures.value ∙ c.in-None.is)
