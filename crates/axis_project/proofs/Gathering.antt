-- What was gathered from certificates of components is a certificate of the whole.
use Rattle.std.proofs.Common.{◌≡◌, ◌∙◌, ap, sym, refl, subst, ℕ, ◌+◌, ◌<◌, pos, List, length, get_or, map, arith}
use Rattle.std.proofs.lemmas.List.{length-map, get_or_default}
use Rattle.units.specs.declared.geometry.Sep.{Sep}
use Rattle.units.specs.Problem.{Problem, IsBounded}
use Rattle.units.specs.Separation.{separation_at, no_separation}
use Rattle.frac128.specs.Fraction.{Fraction, whole}
use Rattle.multiplier_check.specs.declared.certificate.Certificate.{Certificate}
use Rattle.multiplier_check.specs.Certificate.{fraction_at, IsCertificate}
use Rattle.axis_project.specs.declared.apart.Apart.{Apart}
use Rattle.axis_project.specs.declared.gather.Half.TheVariants.{Places, Multipliers}
use Rattle.axis_project.specs.Components.{those, before, separation_keys, renumbered, component, share}
use Rattle.axis_project.specs.Apart.{AreRanks, IsTakenApart}
use Rattle.axis_project.specs.Gather.{half_of, certificate_at, IsGathered, AreShownFrom}
use Rattle.axis_project.proofs.Those.{those-at, those-are, length-those}
use Rattle.axis_project.proofs.Together.{together, kept, keyed, at_variable}

-- ---- gathering

-- the fractions of the first keys
pub record AreGathered (keys ranks : List ℕ) (lists : ℕ → List Fraction) (at : ℕ) (list : List Fraction) : Type 0 where
  pub as_long : length list ≡ at
  pub each : (v : ℕ) → v < at → fraction_at list v ≡ fraction_at (lists (get_or keys v 0)) (get_or ranks v 0)

-- those of a key are the list of the key
pub gathered_those : (keys ranks : List ℕ) (lists : ℕ → List Fraction) (list : List Fraction) (key : ℕ) → AreRanks keys ranks → IsGathered keys ranks lists list
    → length (lists key) ≡ length (those key keys list) → those key keys list ≡ lists key
gathered_those keys ranks lists list key are_ranks gathered long =
    those-are key keys list (lists key) gathered.as_long long (λ v d within key_is.
    let there = those-at key keys list v d within (omega (arith, gathered.as_long)) key_is in
    get_or_default list v d (whole (pos 0)) (omega (arith, gathered.as_long)) ∙ gathered.each v within
    ∙ ap (λ k. fraction_at (lists k) (get_or ranks v 0)) key_is
    ∙ ap (fraction_at (lists key)) (are_ranks.each v within ∙ ap (λ k. before k keys v) key_is)
    ∙ get_or_default (lists key) (before key keys v) (whole (pos 0)) d (omega (arith, there.0)))

-- ---- the whole

module _ (problem : Problem) (apart : Apart) (certificates : List Certificate) (first : ℕ) (bounded : IsBounded problem) (is : IsTakenApart problem apart)
    (shown : AreShownFrom problem apart.keys.items apart.count first certificates) where
  below : (v : ℕ) → v < length problem.desired → get_or apart.keys.items v 0 < apart.count
  below v within = is.below v 0 (omega (arith, is.keys.as_long))

  -- a separation's key is that of its left end, which is a variable
  separation_key : (k : ℕ) → k < length problem.separations → get_or apart.separation_keys.items k 0 ≡ get_or apart.keys.items (separation_at problem.separations k).left 0
  separation_key k within = ap (λ (ks : List ℕ). get_or ks k 0) is.separation_keys ∙ keyed problem apart.keys.items bounded is.keys k within

  length_keys : length apart.separation_keys.items ≡ length problem.separations
  length_keys = ap length is.separation_keys ∙ length-map problem.separations (λ (s : Sep). get_or apart.keys.items s.left 0)

  separation_below : (k : ℕ) → k < length problem.separations → get_or apart.separation_keys.items k 0 < apart.count
  separation_below k within =
      let left = (kept problem apart.keys.items bounded is.keys k no_separation within).left in
      let low = below (separation_at problem.separations k).left left in
      omega (arith, separation_key k within)

  pub places_within : (v : ℕ) → v < length apart.keys.items → get_or apart.ranks.items v 0 < length (half_of Places (certificate_at certificates (first + get_or apart.keys.items v 0)))
  places_within v within =
      let inside : v < length problem.desired = omega (arith, is.keys.as_long) in
      let there = (at_variable problem apart.keys.items bounded is.keys problem.desired v (pos 0) inside refl).0 in
      let long = (shown.shown (get_or apart.keys.items v 0) (below v inside)).form.places_as_long in
      omega (arith, is.ranks.each v within)

  pub multipliers_within : (k : ℕ) → k < length apart.separation_keys.items → get_or apart.separation_ranks.items k 0 < length (half_of Multipliers (certificate_at certificates (first + get_or apart.separation_keys.items k 0)))
  multipliers_within k within =
      let inside : k < length problem.separations = omega (arith, length_keys) in
      let renamed = map (renumbered apart.keys.items) problem.separations in
      let there = (those-at (get_or apart.separation_keys.items k 0) apart.separation_keys.items renamed k no_separation within (omega (arith, length-map problem.separations (renumbered apart.keys.items))) refl).0 in
      let long = (shown.shown (get_or apart.separation_keys.items k 0) (separation_below k inside)).form.multipliers_as_long in
      let same = ap (λ (ks : List ℕ). length (those (get_or apart.separation_keys.items k 0) ks renamed)) is.separation_keys in
      omega (arith, is.separation_ranks.each k within)

  pub keys_enough : (v : ℕ) → v < length apart.keys.items → first + get_or apart.keys.items v 0 < length certificates
  keys_enough v within = shown.enough (get_or apart.keys.items v 0) (is.below v 0 within)

  pub separation_keys_enough : (k : ℕ) → k < length apart.separation_keys.items → first + get_or apart.separation_keys.items k 0 < length certificates
  separation_keys_enough k within = shown.enough (get_or apart.separation_keys.items k 0) (separation_below k (omega (arith, length_keys)))

  pub together_shown : (places multipliers : List Fraction)
      → IsGathered apart.keys.items apart.ranks.items (λ key. half_of Places (certificate_at certificates (first + key))) places
      → IsGathered apart.separation_keys.items apart.separation_ranks.items (λ key. half_of Multipliers (certificate_at certificates (first + key))) multipliers
      → IsCertificate problem (record { places = places; multipliers = multipliers })
  together_shown places multipliers of_places of_multipliers = together problem apart.keys.items (record { places = places; multipliers = multipliers }) bounded is.keys record {
    places_as_long = of_places.as_long ∙ is.keys.as_long;
    multipliers_as_long = of_multipliers.as_long ∙ length_keys;
    each = λ v within. each v within;
  }
    where
      each : (v : ℕ) → v < length problem.desired → IsCertificate (component problem apart.keys.items (get_or apart.keys.items v 0)) (share apart.keys.items problem.separations (get_or apart.keys.items v 0) (record { places = places; multipliers = multipliers }))
      each v within =
          let key = get_or apart.keys.items v 0 in
          let form = (shown.shown (get_or apart.keys.items v 0) (below v within)).form in
          let same_places = gathered_those apart.keys.items apart.ranks.items (λ k. half_of Places (certificate_at certificates (first + k))) places key is.ranks of_places
          (form.places_as_long ∙ length-those key apart.keys.items problem.desired places (sym (of_places.as_long ∙ is.keys.as_long))) in
          let same_multipliers = gathered_those apart.separation_keys.items apart.separation_ranks.items (λ k. half_of Multipliers (certificate_at certificates (first + k))) multipliers key is.separation_ranks of_multipliers
          (form.multipliers_as_long ∙ ap (λ (ks : List ℕ). length (those key ks (map (renumbered apart.keys.items) problem.separations))) (sym is.separation_keys)
          ∙ length-those key apart.separation_keys.items (map (renumbered apart.keys.items) problem.separations) multipliers (length-map problem.separations (renumbered apart.keys.items) ∙ sym (of_multipliers.as_long ∙ length_keys))) in
          subst (λ (ps : List Fraction). IsCertificate (component problem apart.keys.items key) (record { places = ps; multipliers = those key (separation_keys apart.keys.items problem.separations) multipliers })) (sym same_places)
          (subst (λ (ms : List Fraction). IsCertificate (component problem apart.keys.items key) (record { places = (certificate_at certificates (first + key)).places; multipliers = ms }))
          (sym (ap (λ (ks : List ℕ). those key ks multipliers) (sym is.separation_keys) ∙ same_multipliers))
          (shown.shown key (below v within)))
