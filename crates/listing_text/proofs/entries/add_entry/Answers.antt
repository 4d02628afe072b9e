use Rattle.std.proofs.Common.{◌≡◌, ◌∷◌, ◌++◌, ap, ◌∙◌, decimal}
use Rattle.listing_text.proofs.Lines.{made_line}
use Rattle.listing_text.proofs.entries.add_entry.Goals as goal

pub returns : goal.returns
returns c =
    let who : c.from.result ≡ c.args.entry.now.who = c.from.ensures in
    let second = c.in_ok-add_count.ensures ∙ ap (λ n. c.begin_with.new.text.items ++ 32 ∷ decimal n) who in
    made_line _ _ _ _ _ _ _ _ _ _ c.in_ok-begin_with.ensures second c.in_ok-add_count-2.ensures c.in_ok-add_act.ensures c.in_ok-push.ensures.items
