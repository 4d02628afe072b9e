use Rattle.std.proofs.Common.{refl, ap, [], ◌∷◌, ◌++◌, ◌∙◌, arith}
use Rattle.std.proofs.lemmas.Grind.{common_steps}
use Rattle.std.proofs.lemmas.List.{length-append}
use Rattle.doc_book.specs.declared.told.Told.{Told}
use Rattle.layout_worker.proofs.Rounds.{worked-none, worked-then}
use Rattle.layout_worker.proofs.working.work.Goals as goal

pub loop-init : goal.loop-init
loop-init g c =
    let t = c.requires.told in (
      ([], worked-none (g.D.Desk.at c.args.desk.now), refl),
      ap (λ (t : Told). t.job) t,
      ap (λ (t : Told). t.stale) t,
      ap (λ (t : Told). t.idle) t,
      refl,
    )

pub loop-preserved-in-Published : goal.loop-preserved-in-Published
loop-preserved-in-Published g c =
    let i = c.loop.invariant in
    let k = c.in-Published.ensures in
    let count = length-append i.0.0 (k.round.0.0 ∷ []) in (
      (i.0.0 ++ k.round.0.0 ∷ [], worked-then (g.D.Desk.at c.args.desk.now) (g.D.Desk.at c.loop.desk) (g.D.Desk.at c.one_round.new.desk) i.0.0 (k.round.0.0 ∷ []) i.0.1 k.round.0.1, omega (arith, count, i.0.2)),
      k.round.2,
      k.round.1.stale_is ∙ i.2,
      k.round.1.idle_is ∙ i.3,
      k.key ∙ i.4,
    )

pub loop-preserved-in-Stale : goal.loop-preserved-in-Stale
loop-preserved-in-Stale g c =
    let i = c.loop.invariant in
    let k = c.in-Stale.ensures in
    let count = length-append i.0.0 [] in (
      (i.0.0 ++ [], worked-then (g.D.Desk.at c.args.desk.now) (g.D.Desk.at c.loop.desk) (g.D.Desk.at c.one_round.new.desk) i.0.0 [] i.0.1 k.round.0, omega (arith, count, i.0.2)),
      k.round.2,
      grind (arith, common_steps, k.round.1.stale_is, i.2, c.saturating_add-stale.ensures),
      k.round.1.idle_is ∙ i.3,
      k.key ∙ i.4,
    )

pub loop-preserved : goal.loop-preserved
loop-preserved g c =
    let i = c.loop.invariant in
    let k = c.in-Idle.ensures in
    let count = length-append i.0.0 [] in (
      (i.0.0 ++ [], worked-then (g.D.Desk.at c.args.desk.now) (g.D.Desk.at c.loop.desk) (g.D.Desk.at c.one_round.new.desk) i.0.0 [] i.0.1 k.round.0, omega (arith, count, i.0.2)),
      k.round.2,
      k.round.1.stale_is ∙ i.2,
      grind (arith, common_steps, k.round.1.idle_is, i.3, c.saturating_add-idle.ensures),
      k.key ∙ i.4,
    )

pub returns-in-Last-clause-worked : goal.returns-in-Last-clause-worked
returns-in-Last-clause-worked g c =
    let i = c.loop.invariant in
    let k = c.in-Last.ensures in
    let count = length-append i.0.0 [] in (
      i.0.0 ++ [],
      worked-then (g.D.Desk.at c.args.desk.now) (g.D.Desk.at c.loop.desk) (g.D.Desk.at c.one_round.new.desk) i.0.0 [] i.0.1 k.round.0,
      omega (arith, count, i.0.2),
    )
