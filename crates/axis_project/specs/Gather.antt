-- Certificates of components in one list.
use Rattle.std.specs.Prelude.{◌≡◌, ℕ, ◌<◌, ◌+◌, List, [], length, slice_index, slice_index_or}
use Rattle.frac128.specs.Fraction.{Fraction}
use Rattle.units.specs.Problem.{Problem}
use Rattle.multiplier_check.specs.declared.certificate.Certificate.{Certificate}
use Rattle.multiplier_check.specs.Certificate.{fraction_at, IsCertificate}
use Rattle.axis_project.specs.declared.gather.Half.{Half}
use Rattle.axis_project.specs.declared.gather.Half.TheVariants.{Places, Multipliers}
use Rattle.axis_project.specs.Components.{component}

-- the places or the multipliers of a certificate
abbrev pub half_of : Half → Certificate → List Fraction
half_of Places certificate = certificate.places
half_of Multipliers certificate = certificate.multipliers

-- the certificate at a number
abbrev pub certificate_at : List Certificate → ℕ → Certificate
certificate_at certificates k = slice_index_or certificates k (record { places = []; multipliers = [] })

-- for each key the fraction that has its rank in the list of the key
pub record IsGathered (keys ranks : List ℕ) (lists : ℕ → List Fraction) (list : List Fraction) : Type 0 where
  pub as_long : length list ≡ length keys
  pub each : (v : ℕ) → v < length keys → fraction_at list v ≡ fraction_at (lists (slice_index keys v)) (slice_index ranks v)

-- from this number on the certificates show the projections of the components of the keys below the count
pub record AreShownFrom (problem : Problem) (keys : List ℕ) (count first : ℕ) (certificates : List Certificate) : Type 0 where
  pub enough : (key : ℕ) → key < count → first + key < length certificates
  pub shown : (key : ℕ) → key < count → IsCertificate (component problem keys key) (certificate_at certificates (first + key))
