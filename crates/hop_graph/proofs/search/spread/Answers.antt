use Rattle.std.proofs.Common.{◌≡◌, ◌<◌, ℕ, ◌+◌, ◌&&◌, length, sym, subst, ◌∙◌, arith, nat_eq}
use Rattle.std.specs.Prelude.{All}
use Rattle.std.specs.List.{list_any}
use Rattle.hop_graph.specs.Links.{is_linked}
use Rattle.hop_graph.specs.Walks.{any_below}
use Rattle.hop_graph.specs.Search.{IsMarked, has_distance}
use Rattle.hop_graph.proofs.Numbers.{row-linked, neighbours-inside}
use Rattle.hop_graph.proofs.Marks.{spread-none, spread-from, spread-past}
use Rattle.hop_graph.proofs.search.spread.Goals as goal
use Rattle.hop_graph.proofs.search.spread.Goals.{then-has_distance, else-has_distance}

pub loop-shape-init : goal.loop-shape-init
loop-shape-init c = spread-none c.args.row.now _ (λ i j. has_distance c.args.row.now c.args.level i && is_linked c.args.scene.now i j)

pub mark-requires : goal.mark-requires
mark-requires c =
    let d = c.args.scene.now in
    let shape = c.loop-shape.shape in
    let inside : shape < length d.shapes = omega (arith, c.loop-shape-test.true, c.count-shape-end.ensures.value) in
    let as_long : length d.shapes ≡ length c.loop-shape.row = omega (arith, c.loop-shape.auto.row, c.requires.counted) in
    subst (λ n. All (λ (j : ℕ). j < n) c.as_slice.result.now) as_long
    (neighbours-inside d shape c.as_slice.result.now (row-linked d c.args.adjacency.now c.requires.adjacent shape inside c.as_slice.result.now _ (c.as_slice.ensures ∙ c.index-adjacency-shape.is)))

pub loop-shape-preserved : goal.loop-shape-preserved
loop-shape-preserved c =
    let d = c.args.scene.now in
    let shape = c.loop-shape.shape in
    let old = c.args.row.now in
    let inside : shape < length d.shapes = omega (arith, c.loop-shape-test.true, c.count-shape-end.ensures.value) in
    let within : shape < length old = omega (arith, inside, c.requires.counted) in
    let kept = IsMarked old (c.args.level + 1) (λ j. any_below (λ i. has_distance old c.args.level i && is_linked d i j) (shape + 1)) in
    elim c.if-has_distance.branch [
      | then-has_distance w ↦ subst kept (sym w.row-is)
          (spread-from old c.loop-shape.row c.args.level (is_linked d) shape c.loop-shape.invariant within w.mark.new.row (λ j. list_any (nat_eq j) w.as_slice.result.now) c.loop-shape.auto.row
          (sym w.if-has_distance.ensures)
          (row-linked d c.args.adjacency.now c.requires.adjacent shape inside w.as_slice.result.now _ (w.as_slice.ensures ∙ w.index-adjacency-shape.is))
          w.mark.ensures)
      | else-has_distance w ↦ subst kept (sym w.row-is)
          (spread-past old c.loop-shape.row c.args.level (is_linked d) shape c.loop-shape.invariant within (sym w.if-has_distance.ensures))
    ]
