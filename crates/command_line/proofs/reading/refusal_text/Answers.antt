use Rattle.std.proofs.Common.{Result, Ok, Err, Option, map}
use Rattle.std.specs.Prelude.{IfOk, IsSome, OnOk}
use Rattle.std.specs.String.{string_bytes}
use Rattle.command_line.proofs.Words.{is_free, not_taken, taken}
use Rattle.command_line.proofs.reading.refusal_text.Goals as goal

pub returns-in-Ok-clause-taken : goal.returns-in-Ok-clause-taken
returns-in-Ok-clause-taken c =
    taken c.in_ok-command.command (map string_bytes c.args.words.now) c.in_ok-command.ensures c.in-Ok.field-0 (c.in-Ok.ensures.kinds (is_free c.in_ok-command.command c.in_ok-command.ensures))

where_ok : {A E : Type 0} {P Q : Type 0} → (P → Q) → (r : Result (Option A) E) → OnOk r P → IfOk r (λ (o : Option A). IsSome o → Q)
where_ok q (Ok o) p = λ some. q p
where_ok q (Err e) p = tt

pub returns-clause-refused : goal.returns-clause-refused
returns-clause-refused c =
    where_ok
    (not_taken c.in_ok-command.command (map string_bytes c.args.words.now) c.in-Err.error c.in_ok-command.ensures (c.in-Err.ensures.kinds (is_free c.in_ok-command.command c.in_ok-command.ensures)))
    c.text_of.result c.text_of.ensures.other
