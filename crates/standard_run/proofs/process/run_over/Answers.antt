use Rattle.std.proofs.Common.{refl, map, inl, inr}
use Rattle.std.specs.String.{string_bytes}
use Rattle.standard_run.proofs.process.run_over.Goals as goal

pub returns-in-Err : goal.returns-in-Err
returns-in-Err g c = inr (record { status_is = c.without_words.ensures.either; unread = refl; unwritten = refl })

pub returns-in-Ok : goal.returns-in-Ok
returns-in-Ok g c = inl (map string_bytes c.in-Ok.words.items, c.run_words.ensures)
