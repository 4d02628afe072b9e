use Rattle.std.proofs.Common.{◌≡◌, ◌≢◌, ◌<◌, ℕ, rules, length, List, inl}
use Rattle.units.specs.declared.geometry.Sep.{Sep}
use Rattle.units.specs.Separation.{separation_at}
use Rattle.vpsc_solve.specs.Hints.{label_at, relabelled}
use Rattle.vpsc_solve.proofs.Lists.{active-more}
use Rattle.vpsc_solve.proofs.Taking.{apart-joined, taken-labelled}
use Rattle.vpsc_solve.proofs.hints.take.Goals as goal

-- the labels of the ends, read in the list that was lent
apart-at : (seps ss : List Sep) (labels : List ℕ) (v : ℕ) → seps ≡ ss → label_at labels (separation_at seps v).left ≢ label_at labels (separation_at seps v).right
    → label_at labels (separation_at ss v).left ≢ label_at labels (separation_at ss v).right
apart-at seps ss labels v e h = rw (← e) h

each-at : (seps ss : List Sep) (labels labels' : List ℕ) (v : ℕ) → seps ≡ ss
    → ((i : ℕ) → i < length labels → label_at labels' i ≡ relabelled (label_at labels (separation_at seps v).right) (label_at labels (separation_at seps v).left) (label_at labels i))
    → (i : ℕ) → i < length labels → label_at labels' i ≡ relabelled (label_at labels (separation_at ss v).right) (label_at labels (separation_at ss v).left) (label_at labels i)
each-at seps ss labels labels' v e h = rw (← e) h

pub returns-clause-active : goal.returns-clause-active
returns-clause-active c =
    let p = c.args.problem.now in
    let below : c.args.number < length p.separations = search rules in
    active-more p c.args.active.now.items c.push.new.self.items c.args.number c.in_ok-push.ensures.items c.requires.active below
    (apart-joined p c.args.active.now.items c.args.labels.now c.args.number c.requires.labelled (apart-at c.seps-seps.result.now p.separations c.args.labels.now c.args.number c.seps-seps.ensures.value c.if-left-right.false))

pub returns-clause-taken : goal.returns-clause-taken
returns-clause-taken c =
    let p = c.args.problem.now in
    let below : c.args.number < length p.separations = search rules in
    inl (
      below,
      apart-joined p c.args.active.now.items c.args.labels.now c.args.number c.requires.labelled (apart-at c.seps-seps.result.now p.separations c.args.labels.now c.args.number c.seps-seps.ensures.value c.if-left-right.false),
      c.in_ok-push.ensures.items,
    )

pub returns-clause-labelled : goal.returns-clause-labelled
returns-clause-labelled c =
    let p = c.args.problem.now in
    let below : c.args.number < length p.separations = search rules in
    taken-labelled p c.args.active.now.items c.push.new.self.items c.args.labels.now c.relabel.new.labels c.args.number c.seps-seps.ensures.bounded c.requires.active c.requires.labelled c.in_ok-push.ensures.items below
    c.relabel.ensures.as_long (each-at c.seps-seps.result.now p.separations c.args.labels.now c.relabel.new.labels c.args.number c.seps-seps.ensures.value c.relabel.ensures.each)
