use Rattle.std.proofs.Common.{◌∙◌, arith, ◌++◌, take}
use Rattle.byte_edge.proofs.SoFar.{gives-more}
use Rattle.byte_edge.proofs.reading.read_all.Goals as goal

pub returns-then-count-limit-clause-past : goal.returns-then-count-limit-clause-past
returns-then-count-limit-clause-past g c =
    let all = gives-more _ _ _ _ _ _ c.turns.bytes.items c.read.new.buf c.in_ok-count.count c.in_ok-count.ensures.fits c.turns.invariant.1.gives c.in_ok-count.ensures.moved in
    λ _. (c.turns.bytes.items ++ take c.in_ok-count.count c.read.new.buf, omega (arith, all.0), all.1)

pub returns-then-count-limit-clause-one_buffer : goal.returns-then-count-limit-clause-one_buffer
returns-then-count-limit-clause-one_buffer g c =
    let all = gives-more _ _ _ _ _ _ c.turns.bytes.items c.read.new.buf c.in_ok-count.count c.in_ok-count.ensures.fits c.turns.invariant.1.gives c.in_ok-count.ensures.moved in
    let buffer_length = c.read.auto.buf ∙ c.turns.invariant.0 in
    λ _. (c.turns.bytes.items ++ take c.in_ok-count.count c.read.new.buf, omega (arith, all.0, buffer_length, c.in_ok-count.ensures.fits, c.turns.invariant.1.short), all.1)

pub returns-in_err-extend_from_slice-clause-within : goal.returns-in_err-extend_from_slice-clause-within
returns-in_err-extend_from_slice-clause-within g c =
    let all = gives-more _ _ _ _ _ _ c.turns.bytes.items c.read.new.buf c.in_ok-count.count c.in_ok-count.ensures.fits c.turns.invariant.1.gives c.in_ok-count.ensures.moved in
    λ _. (c.turns.bytes.items ++ take c.in_ok-count.count c.read.new.buf, omega (arith, all.0), all.1)
