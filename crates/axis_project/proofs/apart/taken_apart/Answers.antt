use Rattle.std.proofs.Common.{◌∙◌, ap, sym, subst, map, length, List, ℕ, ◌<◌, All}
use Rattle.units.specs.declared.geometry.Sep.{Sep}
use Rattle.units.specs.Problem.{IsSeparation}
use Rattle.axis_project.specs.Components.{separation_keys}
use Rattle.axis_project.specs.Apart.{AreRanks, renumbered_by}
use Rattle.axis_project.proofs.Components.{separation_keys_below}
use Rattle.axis_project.proofs.apart.taken_apart.Goals as goal

pub ranks-requires-2-clause-below : goal.ranks-requires-2-clause-below
ranks-requires-2-clause-below c =
    let count = c.in_ok-keys.field-0.count in
    subst (All (λ key. key < count)) (sym (c.deref-3.ensures.value ∙ c.in_ok-separation_keys.ensures))
    (separation_keys_below count c.deref-2.result.now c.seps-seps.result.now
    (subst (All (λ key. key < count)) (sym c.deref-2.ensures.value) c.in_ok-keys.ensures.below)
    (subst (λ (seps : List Sep). All (λ separation. IsSeparation (length c.deref-2.result.now) separation) seps) (sym c.seps-seps.ensures.value)
    (subst (λ n. All (λ separation. IsSeparation n separation) c.args.problem.now.separations) (sym (ap length c.deref-2.ensures.value ∙ c.in_ok-keys.ensures.keys.as_long)) c.seps-seps.ensures.bounded.sound)))

pub returns-clause-apart : goal.returns-clause-apart
returns-clause-apart c =
    let keys = c.in_ok-keys.field-0.of_variables.items in
    record {
      keys = c.in_ok-keys.ensures.keys;
      below = c.in_ok-keys.ensures.below;
      ranks = subst (λ (ks : List ℕ). AreRanks ks c.in_ok-ranks_of_variables.ranks_of_variables.items) c.deref.ensures.value c.in_ok-ranks_of_variables.ensures;
      separation_keys = c.in_ok-separation_keys.ensures ∙ ap (λ (ks : List ℕ). separation_keys ks c.seps-seps.result.now) c.deref-2.ensures.value ∙ ap (separation_keys keys) c.seps-seps.ensures.value;
      separation_ranks = subst (λ (ks : List ℕ). AreRanks ks c.in_ok-separation_ranks.separation_ranks.items) c.deref-3.ensures.value c.in_ok-separation_ranks.ensures;
      renumbered = c.in_ok-renumbered.ensures ∙ ap (λ (ranks : List ℕ). map (renumbered_by ranks) c.seps-seps.result.now) c.deref-4.ensures.value
          ∙ ap (map (renumbered_by c.in_ok-ranks_of_variables.ranks_of_variables.items)) c.seps-seps.ensures.value;
    }
