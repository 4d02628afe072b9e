use Rattle.std.proofs.Common.{rules, All, subst, ◌≡◌}
use mathlib.Core.List.{IsPrefix}
use Rattle.shared_book.specs.Held.{Held, OwnedOnce}
use Rattle.concurrent_run.specs.Gathering.{gathered}
use Rattle.concurrent_run.proofs.gathering.shut.Goals as goal

pub returns-clause-closed : goal.returns-clause-closed
returns-clause-closed c = let e : c.in_ok-passes-2.passes.items ≡ gathered c.args.people.run c.args.people.sessions.items c.args.people.workers.items = search rules in record {
  budget = c.close-book.ensures.terms;
  legal = c.close-book.ensures.legal;
  seen = subst (λ z. All (λ (p : Held). IsPrefix p.seen c.close-book.result.history) z) e c.close-book.ensures.seen;
  own = subst (λ z. OwnedOnce c.args.book c.close-book.result.history z) e c.close-book.ensures.own;
}
