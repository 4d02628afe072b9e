-- What the sources and sinks of this crate are seen as.
use Rattle.std.specs.Prelude.{ℕ, List}

-- a source over bytes in memory, whose listed calls fail
pub record ListedSource : Type 0 where
  -- all its bytes
  pub all : List ℕ
  -- how many of them were given
  pub given : ℕ
  -- the numbers, from 1, of the calls that fail
  pub fail : List ℕ
  -- how many calls there were
  pub calls : ℕ
  -- how many of them failed
  pub faults : ℕ

-- a sink into memory, whose listed calls fail
pub record ListedSink : Type 0 where
  -- the bytes taken so far
  pub put : List ℕ
  pub fail : List ℕ
  pub calls : ℕ
  pub faults : ℕ

-- a source over bytes in memory that never fails
pub record SureBytes : Type 0 where
  pub all : List ℕ
  pub given : ℕ

-- a source over bytes in memory that never fails, and gives at most so many bytes a call
pub record SlowBytes : Type 0 where
  pub all : List ℕ
  pub given : ℕ
  -- the most bytes of one call
  pub step : ℕ

-- a sink into memory that never fails, and takes at most so many bytes a call
pub record SlowBytesPut : Type 0 where
  -- the bytes taken so far
  pub put : List ℕ
  pub step : ℕ

-- what is known of a reader of std: how often it failed, and how many bytes it gave
pub record ReaderCounts : Type 0 where
  pub faults : ℕ
  pub given : ℕ
