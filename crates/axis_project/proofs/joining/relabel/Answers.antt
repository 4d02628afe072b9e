use Rattle.std.proofs.Common.{◌∙◌, ap, set, arith}
use Rattle.std.proofs.lemmas.List.Edits.{map_over_more}
use Rattle.axis_project.specs.Labels.{renamed}
use Rattle.axis_project.proofs.joining.relabel.Goals as goal

pub loop-at-preserved : goal.loop-at-preserved
loop-at-preserved c =
    ap (set c.loop-at.labels.items c.loop-at.at) c.renamed.ensures
    ∙ map_over_more (renamed c.args.from c.args.to) c.args.labels.now.items c.loop-at.labels.items c.loop-at.at c.index.result.now
    (omega (arith, c.len-at-end.ensures, c.args.labels.now.ok)) c.loop-at.invariant c.index.ensures
