use Rattle.std.proofs.Common.{ℤ, ap, sym, ◌∙◌, cond, Option, Some, arith, subst}
use Rattle.std.specs.Prelude.{IfSome, nat_abs, ◌≤◌}
use Rattle.std.specs.Int.{int_min}
use Rattle.std.specs.List.{list_any}
use Rattle.std.specs.Option.{option_map_or}
use Rattle.scene_model.specs.declared.items.Shape.{Shape}
use Rattle.scene_model.specs.Names.{same_name}
use Rattle.scene_model.specs.Variables.{low}
use Rattle.edit_rules.proofs.Edges.{next_shape, least-near, all_members}
use Rattle.edit_rules.proofs.corners.least_low.Goals as goal

pub loop-at-preserved : goal.loop-at-preserved
loop-at-preserved c =
    let s = c.shape.result.now in
    let e = low c.args.axis s in
    c.least_with-least.ensures
    ∙ (ap (λ (o : Option ℤ). cond (list_any (same_name s.name) c.args.members.now) (Some (option_map_or (int_min e) o e)) o) c.loop-at.invariant
    ∙ sym (next_shape (λ (o : Option ℤ) (z : ℤ). Some (option_map_or (int_min z) o z)) (low c.args.axis) (λ (x : Shape). list_any (same_name x.name) c.args.members.now) c.args.scene.now.shapes c.loop-at.at s c.shape.ensures.value))

pub returns-clause-near : goal.returns-clause-near
returns-clause-near c =
    let whole =
    all_members (λ (o : Option ℤ) (z : ℤ). Some (option_map_or (int_min z) o z)) (low c.args.axis) (λ (x : Shape). list_any (same_name x.name) c.args.members.now) c.args.scene.now.shapes
    c.loop-at.at (omega (arith, c.loop-at.auto, c.loop-at-test.false, c.count-at-end.ensures.value)) in
    subst (λ (o : Option ℤ). IfSome o (λ z. nat_abs z ≤ 1010000)) (sym (c.loop-at.invariant ∙ whole)) (least-near c.args.scene.now c.args.members.now c.args.axis c.count-at-end.ensures.sound.shapes)
