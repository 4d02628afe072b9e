-- A problem taken apart by keys of its variables, and its components. Where both ends of each separation have one key, certificates of
-- the components, put together by their numbers, are one of the whole.
use Rattle.std.specs.Prelude.{◌≡◌, ℕ, zero, suc, ◌<◌, List, [], ◌∷◌, length, map, slice_index, ◌==◌, if◌then◌else◌, All}
use Rattle.units.specs.declared.geometry.Sep.{Sep}
use Rattle.units.specs.Problem.{Problem, IsBounded}
use Rattle.multiplier_check.specs.declared.certificate.Certificate.{Certificate}
use Rattle.multiplier_check.specs.Certificate.{IsCertificate}

-- the elements that have this key, in order; the keys stand in a list of their own, in the order of the elements
abbrev pub those : {A : Type 0} → ℕ → List ℕ → List A → List A
those key [] xs = []
those key (k ∷ ks) [] = []
those key (k ∷ ks) (x ∷ xs) = if k == key then x ∷ those key ks xs else those key ks xs

-- how many of the first v keys are this one
abbrev pub before : ℕ → List ℕ → ℕ → ℕ
before key [] v = 0
before key (k ∷ ks) zero = 0
before key (k ∷ ks) (suc v) = if k == key then suc (before key ks v) else before key ks v

-- the number of the element v among those that have its key
abbrev pub rank : List ℕ → ℕ → ℕ
rank keys v = before (slice_index keys v) keys v

-- the key of each separation: that of its left end
abbrev pub separation_keys : List ℕ → List Sep → List ℕ
separation_keys keys seps = map (λ (s : Sep). slice_index keys s.left) seps

-- the separation between the numbers that its ends have among the variables of their keys
abbrev pub renumbered : List ℕ → Sep → Sep
renumbered keys s = record { left = rank keys s.left; right = rank keys s.right; gap = s.gap; exact = s.exact }

-- the component of a key: the variables and the separations that have it, renumbered
abbrev pub component : Problem → List ℕ → ℕ → Problem
component problem keys key = record {
  weights = those key keys problem.weights;
  desired = those key keys problem.desired;
  separations = those key (separation_keys keys problem.separations) (map (renumbered keys) problem.separations);
}

-- what of a certificate speaks of the component of a key
abbrev pub share : List ℕ → List Sep → ℕ → Certificate → Certificate
share keys seps key certificate = record {
  places = those key keys certificate.places;
  multipliers = those key (separation_keys keys seps) certificate.multipliers;
}

-- a key for each variable, and one for both ends of each separation
pub record AreKeys (problem : Problem) (keys : List ℕ) : Type 0 where
  pub as_long : length keys ≡ length problem.desired
  pub together : All (λ (s : Sep). slice_index keys s.left ≡ slice_index keys s.right) problem.separations

-- as long as a certificate of the problem, and what it says of the component of each variable shows the projection of that component
pub record AreShown (problem : Problem) (keys : List ℕ) (certificate : Certificate) : Type 0 where
  pub places_as_long : length certificate.places ≡ length problem.desired
  pub multipliers_as_long : length certificate.multipliers ≡ length problem.separations
  pub each : (v : ℕ) → v < length problem.desired
      → IsCertificate (component problem keys (slice_index keys v)) (share keys problem.separations (slice_index keys v) certificate)

-- certificates of the components, put together by their numbers, show the projection of the whole
abbrev pub ComponentsShow : Type 0
ComponentsShow =
    (problem : Problem) (keys : List ℕ) (certificate : Certificate) →
    IsBounded problem → AreKeys problem keys → AreShown problem keys certificate → IsCertificate problem certificate
