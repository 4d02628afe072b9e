-- What an edit changes: how often items were moved.
use Rattle.std.proofs.Common.{◌≡◌, ◌+◌, ◌<◌, ◌≤◌, ℕ, zero, suc, List, [], ◌∷◌, ◌++◌, Option, Some, None, length, refl, subst, arith, slice_get}
use Rattle.std.specs.Prelude.{fold, IfSome}
use Rattle.std.specs.Option.{option_map_or}
use Rattle.std.specs.List.{AllByRecursion}
use Rattle.scene_model.specs.declared.items.Item.{Item}
use Rattle.scene_model.specs.declared.items.Shape.{Shape}
use Rattle.scene_model.specs.declared.items.Guide.{Guide}
use Rattle.scene_model.specs.declared.items.Sort.{Sort}
use Rattle.scene_model.specs.declared.items.Sort.TheVariants as sort
use Rattle.scene_model.specs.declared.items.Thing.{Thing}
use Rattle.scene_model.specs.declared.items.Thing.TheVariants as thing
use Rattle.scene_model.specs.Names.{NameOf}
use Rattle.scene_model.specs.Diagram.{Diagram}
use Rattle.scene_model.specs.Items.{item_named, thing_named, without, without_at}
use Rattle.scene_model.proofs.Changes.{All-replaced, All-remove}
use Rattle.scene_model.proofs.Places.{found_as, thing_found_is}
use Rattle.edit_rules.specs.declared.edits.Edit.{Edit}
use Rattle.edit_rules.specs.declared.edits.Edit.TheVariants as edit
use Rattle.edit_rules.specs.Effects.{with_found_shape, with_found_guide, edited, HasFewMoves}
use Rattle.edit_rules.specs.Moves.{moves_of, CanMove, HasMovesLeft}

-- what holds of each element, at a place
all_at : {A : Type 0} (P : A → Type 0) (xs : List A) (k : ℕ) (x : A) → AllByRecursion P xs → slice_get xs k ≡ Some x → P x
all_at P [] zero x all at = cc
all_at P [] (suc k) x all at = cc
all_at P (y ∷ ys) zero x all at = let same : y ≡ x = cc in subst P same all.0
all_at P (y ∷ ys) (suc k) x all at = all_at P ys k x all.1 at

-- a shape that is found has the name, and was moved no more often than any
pub shape_named : (d : Diagram) (n : NameOf) (s : Shape) → thing_named d n ≡ Some (thing.Shape s) → s.name ≡ n
shape_named d n s found = (thing_found_is d n (thing.Shape s) found).named

pub shape_moves : (n : ℕ) (d : Diagram) (name : NameOf) (s : Shape) → HasFewMoves n d → thing_named d name ≡ Some (thing.Shape s) → s.moves ≤ n
shape_moves n d name s few found =
    let x = thing_found_is d name (thing.Shape s) found in
    all_at (λ (y : Shape). y.moves ≤ n) d.shapes x.at s few.shapes (found_as thing.Shape (λ a b e. cc) (slice_get d.shapes x.at) s x.there)

-- and so a guideline
pub guide_named : (d : Diagram) (n : NameOf) (g : Guide) → thing_named d n ≡ Some (thing.Guide g) → g.name ≡ n
guide_named d n g found = (thing_found_is d n (thing.Guide g) found).named

pub guide_moves : (n : ℕ) (d : Diagram) (name : NameOf) (g : Guide) → HasFewMoves n d → thing_named d name ≡ Some (thing.Guide g) → g.moves ≤ n
guide_moves n d name g few found =
    let x = thing_found_is d name (thing.Guide g) found in
    all_at (λ (y : Guide). y.moves ≤ n) d.guides x.at g few.guides (found_as thing.Guide (λ a b e. cc) (slice_get d.guides x.at) g x.there)

-- ---- items that can be moved once more

pub shape_can_move : (d : Diagram) (n : NameOf) (s : Shape) → thing_named d n ≡ Some (thing.Shape s) → CanMove d n → s.moves < 4294967295
shape_can_move d n s found can = subst (λ o. IfSome o (λ t. moves_of t < 4294967295)) found can

pub guide_can_move : (d : Diagram) (n : NameOf) (g : Guide) → thing_named d n ≡ Some (thing.Guide g) → CanMove d n → g.moves < 4294967295
guide_can_move d n g found can = subst (λ o. IfSome o (λ t. moves_of t < 4294967295)) found can

can_move : (d : Diagram) (n : NameOf) → HasFewMoves 4294967294 d → CanMove d n
can_move d n few = by (thing_named d n) refl
  where
    by : (o : Option Thing) → thing_named d n ≡ o → IfSome o (λ t. moves_of t < 4294967295)
    by None is = tt
    by (Some (thing.Shape s)) is = let le = shape_moves 4294967294 d n s few is in omega (arith, le)
    by (Some (thing.Guide g)) is = let le = guide_moves 4294967294 d n g few is in omega (arith, le)
    by (Some (thing.Link l)) is = omega arith
    by (Some (thing.Compound c)) is = omega arith
    by (Some (thing.Group g)) is = omega arith
    by (Some (thing.Page p)) is = omega arith

-- where no item was moved more often, the item that an edit names can be moved once more
pub HasFewMoves-left : (d : Diagram) (e : Edit) → HasFewMoves 4294967294 d → HasMovesLeft d e
HasFewMoves-left d (edit.Move name x y) few = can_move d name few
HasFewMoves-left d (edit.Shift name at) few = can_move d name few
HasFewMoves-left d (edit.Put name form x y w h) few = tt
HasFewMoves-left d (edit.Size name w h) few = tt
HasFewMoves-left d (edit.Hold name) few = tt
HasFewMoves-left d (edit.Free name) few = tt
HasFewMoves-left d (edit.Remove name) few = tt
HasFewMoves-left d (edit.Join name a b) few = tt
HasFewMoves-left d (edit.Unlink name) few = tt
HasFewMoves-left d (edit.Guide name axis at) few = tt
HasFewMoves-left d (edit.Align name guide line members) few = tt
HasFewMoves-left d (edit.Spread name axis gap members) few = tt
HasFewMoves-left d (edit.Rank name axis gap members) few = tt
HasFewMoves-left d (edit.Apart name axis a b gap exact) few = tt
HasFewMoves-left d (edit.Group name pad members) few = tt
HasFewMoves-left d (edit.Page name x y w h margin rigid) few = tt
HasFewMoves-left d (edit.Drop name) few = tt

-- ---- an edit moves an item at most once more

all_mono : {A : Type 0} (moves : A → ℕ) (m n : ℕ) → m ≤ n → (xs : List A) → AllByRecursion (λ x. moves x ≤ m) xs → AllByRecursion (λ x. moves x ≤ n) xs
all_mono moves m n le [] all = tt
all_mono moves m n le (x ∷ xs) all = (omega (arith, le, all.0), all_mono moves m n le xs all.1)

all_push : {A : Type 0} (P : A → Type 0) (xs : List A) (x : A) → AllByRecursion P xs → P x → AllByRecursion P (xs ++ x ∷ [])
all_push P [] x all this = (this, tt)
all_push P (y ∷ ys) x all this = (all.0, all_push P ys x all.1 this)

-- no item was moved more often than a greater number
pub HasFewMoves-weaker : (m n : ℕ) (d : Diagram) → m ≤ n → HasFewMoves m d → HasFewMoves n d
HasFewMoves-weaker m n d le few = record { shapes = all_mono (λ (s : Shape). s.moves) m n le d.shapes few.shapes; guides = all_mono (λ (g : Guide). g.moves) m n le d.guides few.guides }

-- a changed shape was moved at most once more
changed_shape : (n : ℕ) (d : Diagram) (name : NameOf) → HasFewMoves n d → (change : Shape → Shape) → ((s : Shape) → s.moves ≤ n → (change s).moves ≤ n + 1)
    → (o : Option Thing) → thing_named d name ≡ o → HasFewMoves (n + 1) (with_found_shape d change o)
changed_shape n d name few change keeps (Some (thing.Shape s)) is =
    let more = HasFewMoves-weaker n (n + 1) d (omega arith) few in
    record { shapes = All-replaced (λ (x : Shape). x.name) (change s) (λ (x : Shape). x.moves ≤ n + 1) d.shapes more.shapes (keeps s (shape_moves n d name s few is)); guides = more.guides }
changed_shape n d name few change keeps None is = HasFewMoves-weaker n (n + 1) d (omega arith) few
changed_shape n d name few change keeps (Some (thing.Guide x)) is = HasFewMoves-weaker n (n + 1) d (omega arith) few
changed_shape n d name few change keeps (Some (thing.Link x)) is = HasFewMoves-weaker n (n + 1) d (omega arith) few
changed_shape n d name few change keeps (Some (thing.Compound x)) is = HasFewMoves-weaker n (n + 1) d (omega arith) few
changed_shape n d name few change keeps (Some (thing.Group x)) is = HasFewMoves-weaker n (n + 1) d (omega arith) few
changed_shape n d name few change keeps (Some (thing.Page x)) is = HasFewMoves-weaker n (n + 1) d (omega arith) few

-- and so a changed guideline
changed_guide : (n : ℕ) (d : Diagram) (name : NameOf) → HasFewMoves n d → (change : Guide → Guide) → ((g : Guide) → g.moves ≤ n → (change g).moves ≤ n + 1)
    → (o : Option Thing) → thing_named d name ≡ o → HasFewMoves (n + 1) (with_found_guide d change o)
changed_guide n d name few change keeps (Some (thing.Guide g)) is =
    let more = HasFewMoves-weaker n (n + 1) d (omega arith) few in
    record { shapes = more.shapes; guides = All-replaced (λ (x : Guide). x.name) (change g) (λ (x : Guide). x.moves ≤ n + 1) d.guides more.guides (keeps g (guide_moves n d name g few is)) }
changed_guide n d name few change keeps None is = HasFewMoves-weaker n (n + 1) d (omega arith) few
changed_guide n d name few change keeps (Some (thing.Shape x)) is = HasFewMoves-weaker n (n + 1) d (omega arith) few
changed_guide n d name few change keeps (Some (thing.Link x)) is = HasFewMoves-weaker n (n + 1) d (omega arith) few
changed_guide n d name few change keeps (Some (thing.Compound x)) is = HasFewMoves-weaker n (n + 1) d (omega arith) few
changed_guide n d name few change keeps (Some (thing.Group x)) is = HasFewMoves-weaker n (n + 1) d (omega arith) few
changed_guide n d name few change keeps (Some (thing.Page x)) is = HasFewMoves-weaker n (n + 1) d (omega arith) few

-- an item that goes takes its moves along
gone : (n : ℕ) (d : Diagram) (name : NameOf) → HasFewMoves n d → HasFewMoves (n + 1) (without d name)
gone n d name few = by (item_named d name)
  where
    more : HasFewMoves (n + 1) d
    more = HasFewMoves-weaker n (n + 1) d (omega arith) few

    at_sort : (s : Sort) (at : ℕ) → HasFewMoves (n + 1) (without_at d s at)
    at_sort sort.Shape at = record { shapes = All-remove (λ (s : Shape). s.moves ≤ n + 1) d.shapes at more.shapes; guides = more.guides }
    at_sort sort.Guide at = record { shapes = more.shapes; guides = All-remove (λ (g : Guide). g.moves ≤ n + 1) d.guides at more.guides }
    at_sort sort.Link at = record { shapes = more.shapes; guides = more.guides }
    at_sort sort.Compound at = record { shapes = more.shapes; guides = more.guides }
    at_sort sort.Group at = record { shapes = more.shapes; guides = more.guides }
    at_sort sort.Page at = record { shapes = more.shapes; guides = more.guides }

    by : (o : Option Item) → HasFewMoves (n + 1) (option_map_or (λ (item : Item). without_at d item.sort item.at) o d)
    by None = more
    by (Some item) = at_sort item.sort item.at

-- a new item was never moved
pub HasFewMoves-edited : (n : ℕ) (e : Edit) (d : Diagram) → HasFewMoves n d → HasFewMoves (n + 1) (edited e d)
unfolding edited
HasFewMoves-edited n e d few = by e (HasFewMoves-weaker n (n + 1) d (omega arith) few)
  where
    by : (e : Edit) → HasFewMoves (n + 1) d → HasFewMoves (n + 1) (edited e d)
    by (edit.Put name form x y w h) more = record { shapes = all_push (λ (s : Shape). s.moves ≤ n + 1) d.shapes _ more.shapes (omega arith); guides = more.guides }
    by (edit.Guide name axis at) more = record { shapes = more.shapes; guides = all_push (λ (g : Guide). g.moves ≤ n + 1) d.guides _ more.guides (omega arith) }
    by (edit.Size name w h) more = changed_shape n d name few _ (λ s le. omega (arith, le)) (thing_named d name) refl
    by (edit.Move name x y) more = changed_shape n d name few _ (λ s le. omega (arith, le)) (thing_named d name) refl
    by (edit.Shift name at) more = changed_guide n d name few _ (λ g le. omega (arith, le)) (thing_named d name) refl
    by (edit.Hold name) more = changed_shape n d name few _ (λ s le. omega (arith, le)) (thing_named d name) refl
    by (edit.Free name) more = changed_shape n d name few _ (λ s le. omega (arith, le)) (thing_named d name) refl
    by (edit.Remove name) more = gone n d name few
    by (edit.Unlink name) more = gone n d name few
    by (edit.Drop name) more = gone n d name few
    by (edit.Join name a b) more = record { shapes = more.shapes; guides = more.guides }
    by (edit.Align name guide line members) more = record { shapes = more.shapes; guides = more.guides }
    by (edit.Spread name axis gap members) more = record { shapes = more.shapes; guides = more.guides }
    by (edit.Rank name axis gap members) more = record { shapes = more.shapes; guides = more.guides }
    by (edit.Apart name axis a b gap exact) more = record { shapes = more.shapes; guides = more.guides }
    by (edit.Group name pad members) more = record { shapes = more.shapes; guides = more.guides }
    by (edit.Page name x y w h margin rigid) more = record { shapes = more.shapes; guides = more.guides }

-- so many edits move an item at most so often
pub HasFewMoves-scene_of : (n : ℕ) (edits : List Edit) (d : Diagram) → HasFewMoves n d → HasFewMoves (n + length edits) (fold (λ c e. edited e c) d edits)
HasFewMoves-scene_of n [] d few = subst (λ k. HasFewMoves k d) (omega arith) few
HasFewMoves-scene_of n (e ∷ es) d few =
    subst (λ k. HasFewMoves k (fold (λ c x. edited x c) (edited e d) es)) (omega arith) (HasFewMoves-scene_of (n + 1) es (edited e d) (HasFewMoves-edited n e d few))
