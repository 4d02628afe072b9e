-- An index of the variables of an axis by name.
use Rattle.std.specs.Prelude.{◌≡◌, ℕ, ◌+◌, length, drop, if◌then◌else◌}
use Rattle.std.specs.List.{position_or_len}
use Rattle.std.specs.Option.{unwrap_or}
use Rattle.units.specs.declared.geometry.Axis.{Axis}
use Rattle.indexmap.specs.IndexMap.{get_by}
use Rattle.scene_model.specs.declared.variables.Variable.{Variable}
use Rattle.scene_model.specs.declared.variables.VariableName.{VariableName}
use Rattle.scene_model.specs.Diagram.{Diagram}
use Rattle.scene_model.specs.Variables.{variables, number_or_count, same_variable}
use Rattle.sep_gen.specs.declared.index.VariableIndex.{VariableIndex}

-- the number that an index gives for a name
abbrev pub number_in : VariableIndex → VariableName → ℕ
number_in index name = unwrap_or (get_by (same_variable name) index.numbers) index.count

-- the new index gives the number for the name, and what the old one gave for each other name
pub record IsNoted (old new : VariableIndex) (name : VariableName) (number : ℕ) : Type 0 where
  pub count : new.count ≡ old.count
  pub numbers : (other : VariableName) → number_in new other ≡ (if same_variable name other then number else number_in old other)

-- the index gives the numbers of the variables from one number on; for each other name it gives how many variables there are
pub record IsIndexFrom (d : Diagram) (axis : Axis) (from : ℕ) (index : VariableIndex) : Type 0 where
  pub count : index.count ≡ length (variables d axis)
  pub numbers : (name : VariableName) → number_in index name ≡ from + position_or_len (λ (v : Variable). same_variable name v.name) (drop from (variables d axis))

-- the index gives the number of each variable
abbrev pub IsIndex : Diagram → Axis → VariableIndex → Type 0
IsIndex d axis index = (name : VariableName) → number_in index name ≡ number_or_count d axis name
