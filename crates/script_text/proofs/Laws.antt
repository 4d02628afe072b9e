-- The fields of a command: what is read is spelled so, and what is spelled so is read.
use Rattle.std.proofs.Common.{◌≡◌, ◌<◌, Bool, true, false, cond, not, ◌&&◌, eqb, List, [], ◌∷◌, ◌++◌, length, map, Option, Some, None, refl, sym, ap, subst, ◌∙◌, arith}
use Rattle.std.specs.List.{list_all}
use Rattle.std.proofs.lemmas.Bool.{and_parts, ne_eqb}
use Rattle.std.proofs.lemmas.List.{append-nil}
use Rattle.units.specs.Name.{is_name, name_of}
use Rattle.scene_model.specs.declared.items.Form.TheVariants as form
use Rattle.edit_rules.specs.declared.edits.Edit.{Edit}
use Rattle.edit_rules.specs.declared.edits.Edit.TheVariants as edit
use Rattle.script_text.specs.declared.scripts.Command.{Command}
use Rattle.script_text.specs.declared.scripts.Command.TheVariants as command
use Rattle.script_text.specs.declared.keywords.Keyword.{Keyword}
use Rattle.script_text.specs.declared.keywords.Keyword.TheVariants as keyword
use Rattle.script_text.specs.Words.{Word}
use Rattle.script_text.specs.Numbers.{number_of}
use Rattle.script_text.specs.Grammar.{Slot, NameSlot, NumberSlot, ChoiceSlot, MembersSlot, slots, is_choice}
use Rattle.script_text.specs.Commands.{Field, NameField, NumberField, ChoiceField, MembersField, slot_of, edit_keyword, edit_fields, command_keyword, command_fields, field_words, fields_words, IsField, AreFields, AreNames}
use Rattle.script_text.specs.Reading.{◌>>=◌, word_field, members_of, field_at, ends_at, fields_at}
use Rattle.script_text.proofs.Numerals.{number_sound, number_again}

-- a step that gave a value
pub bind_some : {A B : Type 0} (r : Option A) (f : A → Option B) (y : B) → (r >>= f) ≡ Some y → (x : A) × (r ≡ Some x) × (f x ≡ Some y)
bind_some (Some x) f y e = (x, refl, e)
bind_some None f y e = absurd cc

same_some : {A : Type 0} (x y : A) → let f : A → Option A = (λ z. Some z) in f x ≡ f y → x ≡ y
same_some x y e = cc

guarded : {A : Type 0} (b : Bool) (x y : A) → cond b (Some x) None ≡ Some y → (b ≡ true) × (x ≡ y)
guarded true x y e = (refl, cc)
guarded false x y e = absurd cc

chosen : (b : Bool) (x y : Field) → cond b (Some x) None ≡ Some y → (b ≡ true) × (x ≡ y)
chosen true x y e = (refl, cc)
chosen false x y e = absurd cc

members_guarded : (b : Bool) (x y : List Word) → cond b (Some x) None ≡ Some y → (b ≡ true) × (x ≡ y)
members_guarded true x y e = (refl, cc)
members_guarded false x y e = absurd cc

-- ---- what is read is spelled so

-- the field says the one word
pub record Says (f : Field) (w : Word) : Type 0 where
  pub words : field_words f ≡ w ∷ []
  pub is : IsField f

word_sound : (slot : Slot) (w : Word) (f : Field) → word_field slot w ≡ Some f → Says f w
word_sound NameSlot w f e =
    let b = bind_some (name_of w) (λ n. Some (NameField n)) f e in
    let g = guarded (is_name w) w b.0 b.1 in
    rw (← same_some (NameField b.0) f b.2, ← g.1) record { words = refl; is = g.0 }
word_sound NumberSlot w f e =
    let b = bind_some (number_of w) (λ z. Some (NumberField z)) f e in
    let g = number_sound w b.0 b.1 in
    rw (← same_some (NumberField b.0) f b.2) record { words = ap (λ (v : Word). v ∷ []) (sym g.0); is = g.1 }
word_sound (ChoiceSlot c) w f e =
    let g = chosen (is_choice c w) (ChoiceField c w) f e in
    rw (← g.1) record { words = refl; is = g.0 }
word_sound MembersSlot w f e = absurd cc

-- the field takes the first words, and leaves the rest
pub record Takes (ws : List Word) (f : Field) (rest : List Word) : Type 0 where
  pub parts : ws ≡ field_words f ++ rest
  pub is : IsField f

word_takes : (s : Slot) (w : Word) (ws : List Word) (x : Field × List Word) → (word_field s w >>= λ f. Some (f, ws)) ≡ Some x → Takes (w ∷ ws) x.0 x.1
word_takes s w ws x e =
    let b = bind_some (word_field s w) (λ f. Some (f, ws)) x e in
    let t = word_sound s w b.0 b.1 in
    subst (λ (y : Field × List Word). Takes (w ∷ ws) y.0 y.1) (same_some (b.0, ws) x b.2) record { parts = ap (λ (v : List Word). v ++ ws) (sym t.words); is = t.is }

are_names : (ws : List Word) → list_all is_name ws ≡ true → AreNames ws
are_names [] e = tt
are_names (w ∷ ws) e = let p = and_parts (is_name w) (list_all is_name ws) e in (p.0, are_names ws p.1)

some_length : (ws : List Word) → not (eqb (length ws) 0) ≡ true → 0 < length ws
some_length [] e = absurd cc
some_length (w ∷ ws) e = omega arith

field_takes : (s : Slot) (ws : List Word) (x : Field × List Word) → field_at s ws ≡ Some x → Takes ws x.0 x.1
field_takes MembersSlot ws x e =
    let b = bind_some (members_of ws) (λ ms. Some (MembersField ms, [])) x e in
    let g = members_guarded (not (eqb (length ws) 0) && list_all is_name ws) ws b.0 b.1 in
    let p = and_parts (not (eqb (length ws) 0)) (list_all is_name ws) g.0 in
    let t : Takes ws (MembersField ws) [] = record { parts = sym (append-nil ws); is = (some_length ws p.0, are_names ws p.1) } in
    subst (λ (y : Field × List Word). Takes ws y.0 y.1) (same_some (MembersField b.0, []) x b.2) (rw (← g.1) t)
field_takes NameSlot [] x e = absurd cc
field_takes NumberSlot [] x e = absurd cc
field_takes (ChoiceSlot c) [] x e = absurd cc
field_takes NameSlot (w ∷ ws) x e = word_takes NameSlot w ws x e
field_takes NumberSlot (w ∷ ws) x e = word_takes NumberSlot w ws x e
field_takes (ChoiceSlot c) (w ∷ ws) x e = word_takes (ChoiceSlot c) w ws x e

-- the fields say the words
pub record SaysAll (ws : List Word) (fs : List Field) : Type 0 where
  pub words : ws ≡ fields_words fs
  pub are : AreFields fs

ends_sound : (ws : List Word) (fs : List Field) → ends_at ws ≡ Some fs → SaysAll ws fs
ends_sound [] fs e = rw (← same_some [] fs e) record { words = refl; are = tt }
ends_sound (w ∷ ws) fs e = absurd cc

pub fields_sound : (ss : List Slot) (ws : List Word) (fs : List Field) → fields_at ss ws ≡ Some fs → SaysAll ws fs
fields_sound [] ws fs e = ends_sound ws fs e
fields_sound (s ∷ ss) ws fs e =
    let a = bind_some (field_at s ws) (λ f. fields_at ss f.1 >>= λ gs. Some (f.0 ∷ gs)) fs e in
    let b = bind_some (fields_at ss a.0.1) (λ gs. Some (a.0.0 ∷ gs)) fs a.2 in
    let t = field_takes s ws a.0 a.1 in
    let r = fields_sound ss a.0.1 b.0 b.1 in
    rw (← same_some (a.0.0 ∷ b.0) fs b.2) record { words = t.parts ∙ ap (λ (v : List Word). field_words a.0.0 ++ v) r.words; are = (t.is, r.are) }

-- ---- what is spelled so is read

-- members stand last
abbrev members_last : List Slot → Bool
members_last [] = true
members_last (MembersSlot ∷ []) = true
members_last (MembersSlot ∷ s ∷ ss) = false
members_last (NameSlot ∷ ss) = members_last ss
members_last (NumberSlot ∷ ss) = members_last ss
members_last (ChoiceSlot c ∷ ss) = members_last ss

all_names : (ws : List Word) → AreNames ws → list_all is_name ws ≡ true
all_names [] h = refl
all_names (w ∷ ws) h = rw (h.0, all_names ws h.1) refl

members_again : (ms : List Word) → 0 < length ms → AreNames ms → members_of ms ≡ Some ms
members_again [] lt h = absurd (omega arith)
members_again (m ∷ ms) lt h = let t : eqb (length (m ∷ ms)) 0 ≡ false = ne_eqb _ _ (λ z. omega arith) in rw (t, all_names (m ∷ ms) h) refl

again : (fs : List Field) → members_last (map slot_of fs) ≡ true → AreFields fs → fields_at (map slot_of fs) (fields_words fs) ≡ Some fs
again [] last h = refl
again (MembersField ms ∷ []) last h = rw (append-nil, members_again ms h.0.0 h.0.1) refl
again (MembersField ms ∷ f ∷ fs) last h = absurd cc
again (NameField n ∷ fs) last h = rw (h.0, again fs last h.1) refl
again (NumberField z ∷ fs) last h = rw (number_again z h.0, again fs last h.1) refl
again (ChoiceField c w ∷ fs) last h = rw (h.0, again fs last h.1) refl

-- ---- the table, a line for each command

last_again : (k : Keyword) → members_last (slots k) ≡ true
last_again keyword.Box = refl
last_again keyword.Oval = refl
last_again keyword.Diamond = refl
last_again keyword.Size = refl
last_again keyword.Move = refl
last_again keyword.Shift = refl
last_again keyword.Hold = refl
last_again keyword.Free = refl
last_again keyword.Remove = refl
last_again keyword.Link = refl
last_again keyword.Unlink = refl
last_again keyword.Guide = refl
last_again keyword.Align = refl
last_again keyword.Spread = refl
last_again keyword.Rank = refl
last_again keyword.Apart = refl
last_again keyword.Group = refl
last_again keyword.Page = refl
last_again keyword.Drop = refl
last_again keyword.Undo = refl
last_again keyword.Layout = refl
last_again keyword.Where = refl

-- fields that fit the slots of a command are read from their words
pub fields_again : (k : Keyword) (fs : List Field) → map slot_of fs ≡ slots k → AreFields fs → fields_at (slots k) (fields_words fs) ≡ Some fs
fields_again k fs fit h =
    let last : members_last (map slot_of fs) ≡ true = ap members_last fit ∙ last_again k in
    subst (λ (ss : List Slot). fields_at ss (fields_words fs) ≡ Some fs) fit (again fs last h)

edit_slots : (e : Edit) → map slot_of (edit_fields e) ≡ slots (edit_keyword e)
edit_slots (edit.Put n form.Box x y w h) = refl
edit_slots (edit.Put n form.Oval x y w h) = refl
edit_slots (edit.Put n form.Diamond x y w h) = refl
edit_slots (edit.Size n w h) = refl
edit_slots (edit.Move n x y) = refl
edit_slots (edit.Shift n p) = refl
edit_slots (edit.Hold n) = refl
edit_slots (edit.Free n) = refl
edit_slots (edit.Remove n) = refl
edit_slots (edit.Join n a b) = refl
edit_slots (edit.Unlink n) = refl
edit_slots (edit.Guide n x p) = refl
edit_slots (edit.Align n g l ms) = refl
edit_slots (edit.Spread n x gap ms) = refl
edit_slots (edit.Rank n x gap ms) = refl
edit_slots (edit.Apart n x a b gap exact) = refl
edit_slots (edit.Group n pad ms) = refl
edit_slots (edit.Page n x y w h margin rigid) = refl
edit_slots (edit.Drop n) = refl

pub command_slots : (c : Command) → map slot_of (command_fields c) ≡ slots (command_keyword c)
command_slots (command.Edit e) = edit_slots e
command_slots command.Undo = refl
command_slots command.Layout = refl
command_slots (command.Where n) = refl
