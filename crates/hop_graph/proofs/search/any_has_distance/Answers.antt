use Rattle.std.proofs.Common.{◌≡◌, ◌<◌, false, length, sym, subst, ◌∙◌, arith}
use Rattle.hop_graph.specs.Walks.{any_below}
use Rattle.hop_graph.specs.Search.{has_distance}
use Rattle.hop_graph.proofs.Levels.{any-one, any-zero, any-next}
use Rattle.hop_graph.proofs.search.any_has_distance.Goals as goal

pub loop-shape-init : goal.loop-shape-init
loop-shape-init c = any-zero (has_distance c.args.row.now c.args.level)

pub loop-shape-preserved : goal.loop-shape-preserved
loop-shape-preserved c = any-next (has_distance c.args.row.now c.args.level) c.loop-shape.shape c.loop-shape.invariant (sym c.has_distance.ensures ∙ c.if-has_distance.false)

pub returns-then-has_distance : goal.returns-then-has_distance
returns-then-has_distance c =
    let inside : c.loop-shape.shape < length c.args.scene.now.shapes = omega (arith, c.loop-shape-test.true, c.count-shape-end.ensures.value) in
    sym (any-one (has_distance c.args.row.now c.args.level) (length c.args.scene.now.shapes) c.loop-shape.shape inside (sym c.has_distance.ensures ∙ c.if-has_distance.true))

pub returns : goal.returns
returns c =
    let all : c.loop-shape.shape ≡ length c.args.scene.now.shapes = omega (arith, c.loop-shape-test.false, c.loop-shape.auto, c.count-shape-end.ensures.value) in
    sym (subst (λ n. any_below (has_distance c.args.row.now c.args.level) n ≡ false) all c.loop-shape.invariant)
