use Rattle.std.proofs.Common.{rules, subst}
use Rattle.concurrent_run.specs.declared.elements.Session.{Session}
use Rattle.concurrent_run.specs.Elements.{IsPlayedSession}
use Rattle.concurrent_run.proofs.sessions.play_all.Goals as goal

pub returns : goal.returns
returns g c = record {
  count = search rules;
  each = λ i d l. let k = (c.for_each_mut.ensures i d l).1 in
      subst (λ (z : Session × Session). IsPlayedSession c.args.book.now c.args.lines.now z.0 z.1) (λ j. (k.argument_is j, k.left j)) k.call;
}
