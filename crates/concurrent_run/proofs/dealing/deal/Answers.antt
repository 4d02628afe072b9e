use Rattle.std.proofs.Common.{rules, arith, refl, sym, ◌∙◌, ◌≡◌, ◌≤◌, ◌<◌, ◌++◌, ◌∷◌, [], None}
use Rattle.std.proofs.lemmas.List.{map-id}
use Rattle.std.proofs.lemmas.Iterator.Adapters.{YieldsList-from_vec}
use Rattle.std.proofs.lemmas.Iterator.Consumers.{YieldsList-end}
use Rattle.concurrent_run.proofs.Dealt.{none_dealt, one_session, one_worker, people_come, workers_come}
use Rattle.concurrent_run.proofs.dealing.deal.Goals as goal

pub loop-pass-init : goal.loop-pass-init
loop-pass-init c = none_dealt c.args.book.now c.new-sessions.result.items c.new-others.result.items c.new-sessions.ensures.items c.new-others.ensures.items

pub loop-pass-preserved-in-Continue-1 : goal.loop-pass-preserved-in-Continue-1
loop-pass-preserved-in-Continue-1 c = let le : c.in-Some.pass.who ≤ 8 = omega (arith, c.who.ensures.value, c.if-who-le-LAST_SESSION.true) in
    one_session c.args.book.now c.loop-pass.yielded c.in-Some.pass c.loop-pass.sessions.items c.push.new.self.items c.loop-pass.others.items (record { pass = c.in-Some.pass; replies = None }) refl c.in_ok-push.ensures.items le c.loop-pass.invariant

pub loop-pass-preserved : goal.loop-pass-preserved
loop-pass-preserved c = let lt : 8 < c.in-Some.pass.who = omega (arith, c.who.ensures.value, c.if-who-le-LAST_SESSION.false) in
    one_worker c.args.book.now c.loop-pass.yielded c.in-Some.pass c.loop-pass.sessions.items c.loop-pass.others.items c.push-else-who-le-LAST_SESSION.new.self.items (record { pass = c.in-Some.pass; tally = c.unworked.result }) refl c.in_ok-push-2.ensures.items lt c.loop-pass.invariant

pub returns-clause-people : goal.returns-clause-people
returns-clause-people c = let last : c.args.passes.items ≡ c.pop.new.self.items ++ c.unwrap-run.result ∷ [] = search rules in
    let gives = c.into_iter-pass-iterator.ensures.into_iter_gives in
    let ends = YieldsList-end (YieldsList-from_vec c.pop.new.self.items gives.0 (gives.1 ∙ c.pop.new.self.ok.0)) c.loop-pass.yielded c.loop-pass.pass-iterator c.loop-pass.yielded_by c.next.result c.next.new.self c.in-None.is c.next.ensures.steps in
    let all : c.loop-pass.yielded ≡ c.pop.new.self.items = sym (map-id c.loop-pass.yielded) ∙ ends.0 in
    people_come c.args.book.now c.args.passes.items c.pop.new.self.items c.unwrap-run.result c.args.workers c.requires.whos c.requires.passes last (record { run = c.unwrap-run.result; sessions = c.loop-pass.sessions; workers = c.loop-pass.others }) c.loop-pass.yielded all refl c.loop-pass.invariant

pub returns-clause-workers : goal.returns-clause-workers
returns-clause-workers c = let last : c.args.passes.items ≡ c.pop.new.self.items ++ c.unwrap-run.result ∷ [] = search rules in
    let gives = c.into_iter-pass-iterator.ensures.into_iter_gives in
    let ends = YieldsList-end (YieldsList-from_vec c.pop.new.self.items gives.0 (gives.1 ∙ c.pop.new.self.ok.0)) c.loop-pass.yielded c.loop-pass.pass-iterator c.loop-pass.yielded_by c.next.result c.next.new.self c.in-None.is c.next.ensures.steps in
    let all : c.loop-pass.yielded ≡ c.pop.new.self.items = sym (map-id c.loop-pass.yielded) ∙ ends.0 in
    workers_come c.args.book.now c.args.passes.items c.pop.new.self.items c.unwrap-run.result c.args.workers c.requires.whos c.requires.passes last (record { run = c.unwrap-run.result; sessions = c.loop-pass.sessions; workers = c.loop-pass.others }) c.loop-pass.yielded all refl c.loop-pass.invariant
