use Rattle.std.proofs.Common.{sym, subst, length, get_or, List, ℕ, ◌<◌, ◌+◌}
use Rattle.frac128.specs.Fraction.{Fraction}
use Rattle.multiplier_check.specs.Certificate.{IsCertificate}
use Rattle.multiplier_check.proofs.Law.{certificate_projection}
use Rattle.axis_project.specs.declared.gather.Half.{Half}
use Rattle.axis_project.specs.declared.gather.Half.TheVariants.{Places, Multipliers}
use Rattle.axis_project.specs.Gather.{half_of, certificate_at, IsGathered}
use Rattle.axis_project.proofs.Gathering.{places_within, multipliers_within, separation_keys_enough, together_shown}
use Rattle.axis_project.proofs.gather.together.Goals as goal

pub gathered-requires-clause-within : goal.gathered-requires-clause-within
gathered-requires-clause-within c =
    let certificates = c.args.certificates.now in
    let lists = λ (key : ℕ). half_of Places (certificate_at certificates (c.args.first + key)) in
    subst (λ (ks : List ℕ). (v : ℕ) → v < length ks → get_or c.deref-2.result.now v 0 < length (lists (get_or ks v 0))) (sym c.deref.ensures.value)
    (subst (λ (ranks : List ℕ). (v : ℕ) → v < length c.args.apart.now.keys.items → get_or ranks v 0 < length (lists (get_or c.args.apart.now.keys.items v 0))) (sym c.deref-2.ensures.value)
    (places_within c.args.problem.now c.args.apart.now certificates c.args.first c.seps-seps.ensures.bounded c.requires.apart c.requires.shown))

pub gathered-requires-2-clause-enough : goal.gathered-requires-2-clause-enough
gathered-requires-2-clause-enough c =
    subst (λ (ks : List ℕ). (v : ℕ) → v < length ks → c.args.first + get_or ks v 0 < length c.args.certificates.now) (sym c.deref-3.ensures.value)
    (separation_keys_enough c.args.problem.now c.args.apart.now c.args.certificates.now c.args.first c.seps-seps.ensures.bounded c.requires.apart c.requires.shown)

pub gathered-requires-2-clause-within : goal.gathered-requires-2-clause-within
gathered-requires-2-clause-within c =
    let certificates = c.args.certificates.now in
    let lists = λ (key : ℕ). half_of Multipliers (certificate_at certificates (c.args.first + key)) in
    subst (λ (ks : List ℕ). (v : ℕ) → v < length ks → get_or c.deref-4.result.now v 0 < length (lists (get_or ks v 0))) (sym c.deref-3.ensures.value)
    (subst (λ (ranks : List ℕ). (v : ℕ) → v < length c.args.apart.now.separation_keys.items → get_or ranks v 0 < length (lists (get_or c.args.apart.now.separation_keys.items v 0))) (sym c.deref-4.ensures.value)
    (multipliers_within c.args.problem.now c.args.apart.now certificates c.args.first c.seps-seps.ensures.bounded c.requires.apart c.requires.shown))

pub returns-clause-shows : goal.returns-clause-shows
returns-clause-shows c =
    let apart = c.args.apart.now in
    let lists = λ (half : Half) (key : ℕ). half_of half (certificate_at c.args.certificates.now (c.args.first + key)) in
    let places =
    subst (λ (ks : List ℕ). IsGathered ks apart.ranks.items (lists Places) c.in_ok-places.places.items) c.deref.ensures.value
    (subst (λ (ranks : List ℕ). IsGathered c.deref.result.now ranks (lists Places) c.in_ok-places.places.items) c.deref-2.ensures.value c.in_ok-places.ensures) in
    let multipliers =
    subst (λ (ks : List ℕ). IsGathered ks apart.separation_ranks.items (lists Multipliers) c.in_ok-multipliers.multipliers.items) c.deref-3.ensures.value
    (subst (λ (ranks : List ℕ). IsGathered c.deref-3.result.now ranks (lists Multipliers) c.in_ok-multipliers.multipliers.items) c.deref-4.ensures.value c.in_ok-multipliers.ensures) in
    subst (λ (ps : List Fraction). IsCertificate c.args.problem.now (record { places = ps; multipliers = c.of-2.result })) (sym c.of.ensures)
    (subst (λ (ms : List Fraction). IsCertificate c.args.problem.now (record { places = c.in_ok-places.places.items; multipliers = ms })) (sym c.of-2.ensures)
    (together_shown c.args.problem.now apart c.args.certificates.now c.args.first c.seps-seps.ensures.bounded c.requires.apart c.requires.shown c.in_ok-places.places.items c.in_ok-multipliers.multipliers.items places multipliers))

pub returns-clause-projection : goal.returns-clause-projection
returns-clause-projection c = certificate_projection c.args.problem.now (record { places = c.of.result; multipliers = c.of-2.result }) c.seps-seps.ensures.bounded (returns-clause-shows c)
