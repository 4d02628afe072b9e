-- What a call that puts a text into a sink did.
use Rattle.std.specs.Prelude.{◌≡◌, ◌≤◌, ℕ, List, Option, Result, Err, OnOk, OnErr}
use Rattle.std.specs.Io.KnownBytes.{append_known}
use Rattle.byte_edge.specs.Count.{HasRisen}
use Rattle.byte_edge.specs.Taken.{TakesPart}
use Rattle.byte_edge.specs.declared.sink.SinkStop.{SinkStop}
use Rattle.byte_edge.specs.declared.sink.SinkStop.TheVariants as stop

-- The call put the whole text, or it stopped and put a part of it, from the front. It failed only where the faults
-- rose, and else they stayed.
pub record Puts (put put' : Option (List ℕ)) (faults faults' : ℕ) (text : List ℕ) (answer : Result Unit SinkStop) : Type 0 where
  pub whole : OnOk answer (put' ≡ append_known put text)
  pub part : OnErr answer (TakesPart put put' text)
  pub calm : OnOk answer (faults' ≡ faults)
  pub failed : answer ≡ Err stop.Failed → HasRisen faults faults'
  pub memory_calm : answer ≡ Err stop.Memory → faults' ≡ faults
  pub never_falls : faults ≤ faults'
