-- Equal arcs.
use Rattle.std.specs.Prelude.{Bool, ◌==◌, ◌&&◌}
use Rattle.std.specs.Bool.{beq}
use Rattle.cycle_test.specs.declared.arc.CycleArc.{CycleArc}

-- the arcs are of one separation, and go the same way
abbrev pub same_arc : CycleArc → CycleArc → Bool
same_arc a b = (a.sep == b.sep) && beq a.back b.back
