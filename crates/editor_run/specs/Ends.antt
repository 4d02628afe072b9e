-- The two ends of a run: the source that it reads and the sink that it writes to, each before and after.
use Rattle.std.specs.Prelude.{ℕ, List, Option}

-- a source over a call: the bytes that are still to come, where it tells them, how many it has given, and how often a read
-- has failed
pub record Reading : Type 0 where
  pub left_before : Option (List ℕ)
  pub left_after : Option (List ℕ)
  pub given_before : ℕ
  pub given_after : ℕ
  pub faults_before : ℕ
  pub faults_after : ℕ

-- a sink over a call: the bytes that it has taken, where it tells them, and how often a write has failed
pub record Writing : Type 0 where
  pub put_before : Option (List ℕ)
  pub put_after : Option (List ℕ)
  pub faults_before : ℕ
  pub faults_after : ℕ

-- what a source shows of a call, by what it tells of itself before and after
abbrev pub reading_of : {S : Type 0} → (S → Option (List ℕ)) → (S → ℕ) → (S → ℕ) → S → S → Reading
reading_of left given faults old new = record {
  left_before = left old;
  left_after = left new;
  given_before = given old;
  given_after = given new;
  faults_before = faults old;
  faults_after = faults new;
}

-- what a sink shows of a call, by what it tells of itself before and after
abbrev pub writing_of : {K : Type 0} → (K → Option (List ℕ)) → (K → ℕ) → K → K → Writing
writing_of put faults old new = record {
  put_before = put old;
  put_after = put new;
  faults_before = faults old;
  faults_after = faults new;
}
