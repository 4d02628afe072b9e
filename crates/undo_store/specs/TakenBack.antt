-- What takes an edit back.
use Rattle.std.specs.Prelude.{◌≡◌, ◌≤◌, List, [], ◌∷◌, ◌++◌, true, false, Some, ⊤}
use Rattle.scene_model.specs.Diagram.{Diagram}
use Rattle.scene_model.specs.Items.{stands, count_of, sort_named, name_of_thing, sort_of, without, with_thing_at, with_replaced}
use Rattle.scene_model.specs.Sound.{IsSound}
use Rattle.edit_rules.specs.declared.edits.Edit.{Edit}
use Rattle.edit_rules.specs.Effects.{scene_of}
use Rattle.undo_store.specs.declared.records.Record.{Record}
use Rattle.undo_store.specs.declared.records.Record.TheVariants as back

-- the diagram with an edit taken back: without the item that the edit made, with the item that it took out at its old
-- number, or with the item that it changed as it was
abbrev pub taken_back : Record → Diagram → Diagram
taken_back (back.Made name) d = without d name
taken_back (back.Taken at thing) d = with_thing_at d at thing
taken_back (back.Changed thing) d = with_replaced d thing

-- the item that the edit made or changed stands, as the sort that it was; the one that it took out doesn't, and its old
-- number is at most one behind the last of its sort
abbrev pub CanBeTakenBack : Record → Diagram → Type 0
CanBeTakenBack (back.Made name) d = stands d name ≡ true
CanBeTakenBack (back.Taken at thing) d = (at ≤ count_of d (sort_of thing)) × (stands d (name_of_thing thing) ≡ false)
CanBeTakenBack (back.Changed thing) d = sort_named d (name_of_thing thing) ≡ Some (sort_of thing)

-- a record takes an edit back: it leads from the diagram after the edit to the one before, which is sound
pub record TakesBack (r : Record) (before after : Diagram) : Type 0 where
  pub can : CanBeTakenBack r after
  pub is : taken_back r after ≡ before
  pub sound : IsSound before

-- there is a record for each of the further edits, which takes it back
abbrev pub AllTakenBack : List Edit → List Edit → List Record → Type 0
AllTakenBack before [] [] = ⊤
AllTakenBack before [] (r ∷ rs) = ⊥
AllTakenBack before (e ∷ es) [] = ⊥
AllTakenBack before (e ∷ es) (r ∷ rs) = TakesBack r (scene_of before) (scene_of (before ++ e ∷ [])) × AllTakenBack (before ++ e ∷ []) es rs
