-- The standing edits of a history, an act at a time.
use Rattle.std.specs.Prelude.{◌≡◌, ◌<◌, ℤ, List, length, None, ⊤}
use Rattle.units.specs.declared.geometry.Axis.{Axis}
use Rattle.units.specs.declared.geometry.Axis.TheVariants.{X, Y}
use Rattle.scene_model.specs.Diagram.{Diagram}
use Rattle.scene_model.specs.Variables.{variables}
use Rattle.edit_rules.specs.declared.edits.Edit.{Edit}
use Rattle.edit_rules.specs.Effects.{scene_of}
use Rattle.edit_rules.specs.Refusals.{refusal_of}
use Rattle.multiplier_check.specs.declared.certificate.Certificate.{Certificate}
use Rattle.doc_book.specs.declared.entries.Act.{Act}
use Rattle.doc_book.specs.declared.entries.Act.TheVariants as act

-- the scene of the standing edits accepts the act, where it is an edit, and one more edit may stand
abbrev pub IsAccepting : List Edit → Act → Type 0
IsAccepting edits (act.Edit e) = (refusal_of (scene_of edits) e ≡ None) × (length edits < 20000)
IsAccepting edits act.Undo = ⊤
IsAccepting edits (act.Frame f) = ⊤
IsAccepting edits act.End = ⊤

-- each variable of an axis has a desired place and a place
pub record HasPlaces (scene : Diagram) (axis : Axis) (desired : List ℤ) (certificate : Certificate) : Type 0 where
  pub wanted : length desired ≡ length (variables scene axis)
  pub placed : length certificate.places ≡ length (variables scene axis)

-- the act, where it is a frame, has places for each variable of both axes
abbrev pub IsPlacing : Diagram → Act → Type 0
IsPlacing scene (act.Edit e) = ⊤
IsPlacing scene act.Undo = ⊤
IsPlacing scene (act.Frame f) = HasPlaces scene X f.desired.x f.x × HasPlaces scene Y f.desired.y f.y
IsPlacing scene act.End = ⊤
