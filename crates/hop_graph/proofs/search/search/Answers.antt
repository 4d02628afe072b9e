use Rattle.std.proofs.Common.{◌≡◌, ◌+◌, ◌-◌, ◌++◌, ℕ, List, Option, false, length, take, drop, ap, sym, ◌∙◌, subst, arith}
use Rattle.std.proofs.Math.Seq.{take-append_seam}
use Rattle.hop_graph.specs.Walks.{any_below}
use Rattle.hop_graph.specs.Search.{has_distance, IsFound}
use Rattle.hop_graph.proofs.Distances.{found-next, found-last}
use Rattle.hop_graph.proofs.search.search.Goals as goal

pub loop-level-preserved : goal.loop-level-preserved
loop-level-preserved c =
    let d = c.args.scene.now in
    let items = c.loop-level.row.items in
    let new = c.spread.new.row in
    let as_long : c.loop-level.row.len ≡ length new = omega (arith, c.spread.auto.row, c.deref_mut.ensures.len, c.deref_mut.ensures.value) in
    let written : take c.loop-level.row.len (new ++ drop (length new) items) ≡ new = ap (λ n. take n (new ++ drop (length new) items)) as_long ∙ take-append_seam new (drop (length new) items) in
    subst (IsFound d c.args.start (c.loop-level.level + 1)) (sym written)
    (found-next d c.args.start c.loop-level.level c.deref_mut.result.now new
    (subst (IsFound d c.args.start c.loop-level.level) (sym c.deref_mut.ensures.value) c.loop-level.invariant)
    c.spread.auto.row c.spread.ensures)

pub returns-then-not-any_has_distance : goal.returns-then-not-any_has_distance
returns-then-not-any_has_distance c =
    let d = c.args.scene.now in
    let level = c.loop-level.level in
    let row = c.loop-level.row.items in
    let none : any_below (has_distance row level) (length d.shapes) ≡ false =
    subst (λ (r : List (Option ℕ)). any_below (has_distance r level) (length d.shapes) ≡ false) c.deref.ensures.value (sym c.any_has_distance.ensures ∙ c.if-not-any_has_distance.true) in
    let last : level + (60 - level) ≡ 60 = omega (arith, c.loop-level-test.true) in
    subst (λ n. IsFound d c.args.start n row) last (found-last d c.args.start level (60 - level) row c.loop-level.invariant none)
