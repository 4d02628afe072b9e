use Rattle.std.proofs.Common.{rules, subst}
use Rattle.concurrent_run.specs.declared.elements.Worker.{Worker}
use Rattle.concurrent_run.specs.Elements.{IsWorkedOut}
use Rattle.concurrent_run.proofs.workers.work_all.Goals as goal

pub returns : goal.returns
returns g c = record {
  count = search rules;
  each = λ i d l. let k = (c.for_each_mut.ensures i d l).1 in
      subst (λ (z : Worker × Worker). IsWorkedOut c.args.book.now z.0 z.1) (λ j. (k.argument_is j, k.left j)) k.call;
}
