use Rattle.made_script.proofs.Folding.{all_made}
use Rattle.made_script.proofs.making.make_all.Goals as goal

pub returns-clause-lines : goal.returns-clause-lines
returns-clause-lines c =
    all_made c.args.number _ _ _ _ _ _ _ _ _ (λ i. record { state = c.from.ensures i; lines = c.new.ensures.items i }) c.in_ok-add_all.ensures.all c.in_ok-add_all-2.ensures.all
    c.in_ok-add_all-3.ensures.all c.in_ok-add_all-4.ensures.all c.in_ok-add_all-5.ensures.all c.in_ok-add_rounds.ensures.all c.in_ok-add_all-6.ensures.all c.in_ok-add_all-7.ensures.all
