use Rattle.std.proofs.Common.{drop}
use Rattle.std.specs.List.{flat_map}
use Rattle.svg_text.specs.Steps.{all_parts, part_text, parts_text}
use Rattle.svg_text.proofs.Puts.{PutsSoFar}
use Rattle.svg_text.proofs.picture.put_parts.Given as goal

abbrev pub invariant-loop-part : goal.invariant-loop-part
invariant-loop-part g l = PutsSoFar (g.K.Sink.put l.fn.sink) (g.K.Sink.put l.sink) (g.K.Sink.faults l.fn.sink) (g.K.Sink.faults l.sink)
    (parts_text l.scene l.places l.x l.y) (flat_map (part_text l.scene l.places l.x l.y) (drop l.part-index all_parts))
