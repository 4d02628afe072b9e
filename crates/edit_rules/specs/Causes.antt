-- Why a diagram refuses an edit: what each refusal says, and the first that holds. The causes and their order are this
-- project's own.
use Rattle.std.specs.Prelude.{◌≡◌, ℕ, ℤ, ◌<◌, ◌≤◌, length, true, false, Some}
use Rattle.units.specs.declared.geometry.Axis.{Axis}
use Rattle.scene_model.specs.declared.items.Sort.{Sort}
use Rattle.scene_model.specs.declared.items.Sort.TheVariants as sort
use Rattle.scene_model.specs.declared.items.Thing.{Thing}
use Rattle.scene_model.specs.Names.{NameOf}
use Rattle.scene_model.specs.Diagram.{Diagram, most_of}
use Rattle.scene_model.specs.Uses.{User, users, is_used_in, most_members}
use Rattle.scene_model.specs.Items.{stands, count_of}
use Rattle.scene_model.specs.Separations.{separations}
use Rattle.edit_rules.specs.declared.edits.Edit.{Edit}
use Rattle.edit_rules.specs.declared.naming.Ask.{Ask}
use Rattle.edit_rules.specs.declared.naming.NewItem.{NewItem}
use Rattle.edit_rules.specs.declared.ranges.Ranged.{Ranged}
use Rattle.edit_rules.specs.declared.refusals.Counted.{Counted}
use Rattle.edit_rules.specs.declared.refusals.Counted.TheVariants as counted
use Rattle.edit_rules.specs.declared.refusals.Refusal.{Refusal}
use Rattle.edit_rules.specs.declared.refusals.Refusal.TheVariants as refusal
use Rattle.edit_rules.specs.Effects.{made, edited}
use Rattle.edit_rules.specs.Firsts.{IsFirst, IsRepeat}
use Rattle.edit_rules.specs.Naming.{naming, is_of_kind, old_names}
use Rattle.edit_rules.specs.Ranges.{IsWithin, numbers}
use Rattle.edit_rules.specs.Refusals.{most_separations}

-- ---- what each refusal says

-- the value is that of the first number of the line outside its range
pub record IsOutOfRange (e : Edit) (value : ℤ) : Type 0 where
  pub number : Ranged
  pub first : IsFirst (λ at (r : Ranged). IsWithin r → ⊥) (numbers e) number
  pub is : number.value ≡ value

-- the name is the first of the line that must stand and doesn't
abbrev pub IsUnknown : Diagram → Edit → NameOf → Type 0
IsUnknown d e name = IsFirst (λ at old. stands d old ≡ false) (old_names e) name

-- the name is that of the new item, and an item of that name stands
pub record IsTaken (d : Diagram) (e : Edit) (name : NameOf) : Type 0 where
  pub item : NewItem
  pub makes : (naming e).makes ≡ Some item
  pub named : item.name ≡ name
  pub stands : stands d name ≡ true

-- the name is the first of the line that stands as another kind than is wanted
pub record IsOtherKind (d : Diagram) (e : Edit) (name : NameOf) : Type 0 where
  pub ask : Ask
  pub first : IsFirst (λ at (other : Ask). is_of_kind d other.kind other.name ≡ false) (naming e).asks ask
  pub named : ask.name ≡ name

-- the name is the first of the row that stands at an earlier place of it too
abbrev pub IsTwice : Edit → NameOf → Type 0
IsTwice e name = IsFirst (IsRepeat (naming e).row) (naming e).row name

-- the name is that of the first link, compound or group, in this order, that uses the item that is to be removed
pub record IsInUse (d : Diagram) (e : Edit) (by : NameOf) : Type 0 where
  pub name : NameOf
  pub frees : (naming e).frees ≡ Some name
  pub user : User
  pub first : IsFirst (λ at (other : User). is_used_in other.uses name ≡ true) (users d) user
  pub named : user.name ≡ by

-- the new item is of this sort, of which so many stand that no more may
pub record IsFull (d : Diagram) (e : Edit) (s : Sort) (count : ℕ) : Type 0 where
  pub item : NewItem
  pub makes : (naming e).makes ≡ Some item
  pub sorted : item.sort ≡ s
  pub full : most_of s ≤ count_of d s
  pub most : count ≡ most_of s

-- the edit makes an item, and the edited diagram has more separations on an axis than it may
pub record IsCrowded (d : Diagram) (e : Edit) (count : ℕ) : Type 0 where
  pub thing : Thing
  pub makes : made d e ≡ Some thing
  pub axis : Axis
  pub more : most_separations < length (separations (edited e d) axis)
  pub most : count ≡ most_separations

-- the limit would be passed: the edit lists more members, so many of the new item's sort stand, or the edited diagram
-- has more separations. The limit on entries is the document's
abbrev pub IsPassed : Diagram → Edit → Counted → ℕ → Type 0
IsPassed d e counted.Members count = (most_members < length (naming e).row) × (count ≡ most_members)
IsPassed d e counted.Shapes count = IsFull d e sort.Shape count
IsPassed d e counted.Guides count = IsFull d e sort.Guide count
IsPassed d e counted.Links count = IsFull d e sort.Link count
IsPassed d e counted.Compounds count = IsFull d e sort.Compound count
IsPassed d e counted.Groups count = IsFull d e sort.Group count
IsPassed d e counted.Pages count = IsFull d e sort.Page count
IsPassed d e counted.Seps count = IsCrowded d e count
IsPassed d e counted.Entries count = ⊥

-- what a refusal says of a diagram and an edit. An axis that can't be met, a document that was ended, a document without
-- an edit to take off and want of memory are no causes of a diagram
abbrev pub Holds : Diagram → Edit → Refusal → Type 0
Holds d e (refusal.Range value) = IsOutOfRange e value
Holds d e (refusal.Unknown name) = IsUnknown d e name
Holds d e (refusal.Taken name) = IsTaken d e name
Holds d e (refusal.Kind name) = IsOtherKind d e name
Holds d e (refusal.Twice name) = IsTwice e name
Holds d e (refusal.InUse by) = IsInUse d e by
Holds d e (refusal.Limit what count) = IsPassed d e what count
Holds d e (refusal.Infeasible axis walk) = ⊥
Holds d e (refusal.Ended place) = ⊥
Holds d e refusal.NothingToUndo = ⊥
Holds d e refusal.Memory = ⊥

-- ---- the first

-- the order of the limits, behind the six other causes
abbrev pub limit_rank : Counted → ℕ
limit_rank counted.Members = 6
limit_rank counted.Shapes = 7
limit_rank counted.Guides = 7
limit_rank counted.Links = 7
limit_rank counted.Compounds = 7
limit_rank counted.Groups = 7
limit_rank counted.Pages = 7
limit_rank counted.Seps = 8
limit_rank counted.Entries = 9

-- the order of the causes
abbrev pub rank : Refusal → ℕ
rank (refusal.Range value) = 0
rank (refusal.Unknown name) = 1
rank (refusal.Taken name) = 2
rank (refusal.Kind name) = 3
rank (refusal.Twice name) = 4
rank (refusal.InUse by) = 5
rank (refusal.Limit what count) = limit_rank what
rank (refusal.Infeasible axis walk) = 9
rank (refusal.Ended place) = 9
rank refusal.NothingToUndo = 9
rank refusal.Memory = 9

-- the diagram refuses the edit for this cause: it holds, and none that comes before it does
pub record IsRefused (d : Diagram) (e : Edit) (r : Refusal) : Type 0 where
  pub holds : Holds d e r
  pub first : (other : Refusal) → rank other < rank r → Holds d e other → ⊥

-- the diagram accepts the edit: no cause holds
abbrev pub Accepts : Diagram → Edit → Type 0
Accepts d e = (r : Refusal) → Holds d e r → ⊥
