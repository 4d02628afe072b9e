-- Nothing that the history says refuses an edit, an undo or a question for want of memory.
use Rattle.std.proofs.Common.{◌≡◌, List, [], ◌∷◌, length, Bool, true, false, cond, Option, Some, None, sym}
use Rattle.std.specs.Prelude.{ℕ, nat_le, MatchOption}
use Rattle.std.specs.List.{AllByRecursion}
use Rattle.std.specs.Option.{option_map}
use Rattle.scene_model.specs.declared.items.Sort.{Sort}
use Rattle.scene_model.specs.declared.items.Sort.TheVariants as sort
use Rattle.scene_model.specs.Diagram.{Diagram}
use Rattle.scene_model.specs.Items.{sort_named}
use Rattle.scene_model.specs.Names.{NameOf}
use Rattle.edit_rules.specs.declared.edits.Edit.{Edit}
use Rattle.edit_rules.specs.declared.refusals.Refusal.{Refusal}
use Rattle.edit_rules.specs.declared.refusals.Refusal.TheVariants as refusal
use Rattle.edit_rules.specs.declared.refusals.Counted.TheVariants as counted
use Rattle.edit_rules.specs.Effects.{edited}
use Rattle.edit_rules.specs.Refusals.{first_of, refusal_of}
use Rattle.edit_rules.proofs.Judging.{refusal_of-not_memory}
use Rattle.doc_book.specs.declared.entries.Entry.{Entry}
use Rattle.doc_book.specs.History.{end_place, standing, scene_at}
use Rattle.doc_book.specs.Spots.{ask_refusal, ask_refusal_by}
use Rattle.doc_book.specs.Verdicts.{closed_refusal, nothing_refusal, undo_verdict, IsFeasibility, IsSceneVerdict, IsVerdict, ended_refusal, entries_refusal, most_entries}

-- it is another cause, or none
abbrev NotMemory : Option Refusal → Type 0
NotMemory cause = cause ≡ Some refusal.Memory → ⊥

first_given : (causes : List (Option Refusal)) → AllByRecursion NotMemory causes → NotMemory (first_of causes)
first_given [] all e = cc
first_given (None ∷ causes) all e = first_given causes all.1 e
first_given (Some r ∷ causes) all e = all.0 e

ended_given : (end : Option ℕ) → NotMemory (option_map refusal.Ended end)
ended_given None e = cc
ended_given (Some place) e = cc

full_given : (full : Bool) → NotMemory (cond full (Some (refusal.Limit counted.Entries most_entries)) None)
full_given true e = cc
full_given false e = cc

closed-not_memory : (h : List Entry) → NotMemory (closed_refusal h)
closed-not_memory h = first_given (ended_refusal h ∷ entries_refusal h ∷ []) (ended_given (end_place h), (full_given (nat_le most_entries (length h)), tt))

-- a verdict is a cause, or else what the rest says
rest_given : (P : Option Refusal → Type 0) (cause : Option Refusal) → NotMemory cause → (P (Some refusal.Memory) → ⊥) → MatchOption cause (P (Some refusal.Memory)) (λ r. Some refusal.Memory ≡ Some r) → ⊥
rest_given P None other never is = never is
rest_given P (Some r) other never is = other (sym is)

-- no verdict is want of memory
pub IsVerdict-not_memory : (h : List Entry) (e : Edit) → IsVerdict h e (Some refusal.Memory) → ⊥
IsVerdict-not_memory h e is =
    rest_given (IsSceneVerdict (scene_at h) e) (closed_refusal h) (closed-not_memory h)
    (λ scene. rest_given (IsFeasibility (edited e (scene_at h))) (refusal_of (scene_at h) e) (refusal_of-not_memory (scene_at h) e) (λ none. none) scene)
    is

nothing_given : (edits : List Edit) → NotMemory (nothing_refusal edits)
nothing_given [] e = cc
nothing_given (edit ∷ edits) e = cc

pub undo_verdict-not_memory : (h : List Entry) → undo_verdict h ≡ Some refusal.Memory → ⊥
undo_verdict-not_memory h = first_given (closed_refusal h ∷ nothing_refusal (standing h) ∷ []) (closed-not_memory h, (nothing_given (standing h), tt))

ask_given : (name : NameOf) (s : Option Sort) → NotMemory (ask_refusal_by name s)
ask_given name None e = cc
ask_given name (Some sort.Shape) e = cc
ask_given name (Some sort.Guide) e = cc
ask_given name (Some sort.Link) e = cc
ask_given name (Some sort.Compound) e = cc
ask_given name (Some sort.Group) e = cc
ask_given name (Some sort.Page) e = cc

pub ask_refusal-not_memory : (d : Diagram) (name : NameOf) → ask_refusal d name ≡ Some refusal.Memory → ⊥
ask_refusal-not_memory d name = ask_given name (sort_named d name)
