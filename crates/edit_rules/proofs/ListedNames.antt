-- Lists of names of which each must stand as one kind.
use Rattle.std.proofs.Common.{◌≡◌, List, [], ◌∷◌, map, Option, Some, None, refl, ap, ◌∙◌}
use Rattle.std.specs.Prelude.{find, not}
use Rattle.std.specs.Option.{option_map}
use Rattle.scene_model.specs.Names.{NameOf}
use Rattle.scene_model.specs.Diagram.{Diagram}
use Rattle.scene_model.proofs.Using.{find-map}
use Rattle.edit_rules.specs.declared.naming.Ask.{Ask}
use Rattle.edit_rules.specs.declared.naming.Kind.{Kind}
use Rattle.edit_rules.specs.declared.refusals.Refusal.TheVariants as refusal
use Rattle.edit_rules.specs.Naming.{is_of_kind, each_as}
use Rattle.edit_rules.specs.Refusals.{kind_among}

-- their names are these names
pub names_of_each : (k : Kind) (names : List NameOf) → map (λ (ask : Ask). ask.name) (each_as k names) ≡ names
names_of_each k [] = refl
names_of_each k (n ∷ ns) = ap (λ ms. n ∷ ms) (names_of_each k ns)

-- the first of them that stands as another kind
pub kind_of_each : (d : Diagram) (k : Kind) (names : List NameOf) → kind_among d (each_as k names) ≡ option_map refusal.Kind (find (λ name. not (is_of_kind d k name)) names)
kind_of_each d k names =
    ap (option_map (λ (ask : Ask). refusal.Kind ask.name)) (find-map (λ (ask : Ask). not (is_of_kind d ask.kind ask.name)) (λ (n : NameOf). record { kind = k; name = n }) names)
    ∙ named (find (λ name. not (is_of_kind d k name)) names)
  where
    named : (o : Option NameOf) → option_map (λ (ask : Ask). refusal.Kind ask.name) (option_map (λ (n : NameOf). record { kind = k; name = n }) o) ≡ option_map refusal.Kind o
    named None = refl
    named (Some n) = refl
