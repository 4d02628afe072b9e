use Rattle.std.proofs.Common.{◌++◌, [], refl, ap, sym}
use Rattle.std.specs.Prelude.{codes}
use Rattle.std.proofs.lemmas.Result.{err_from_is_err_and}
use Rattle.doc_book.specs.Listing.{text_lines, entry_lines, sessions_lines}
use Rattle.listing_text.proofs.Lines.{listing_parts}
use Rattle.listing_text.proofs.Puts.{at_start, one_more, stopped, last_piece}
use Rattle.listing_text.proofs.listing.put_listing.Goals as goal

pub returns-in_err-put : goal.returns-in_err-put
returns-in_err-put g c =
    let p = err_from_is_err_and c.from_residual.result c.from_residual.ensures.1 in
    rw (p.1, p.2) (stopped _ _ _ _ _ _ _ _ _ _ c.in_err-put.field-0.0 (at_start _ _ _)
    (listing_parts c.args.script.now c.args.book.now.history c.args.replies.now) c.in_err-put.ensures)

pub returns-in_err-put_entries : goal.returns-in_err-put_entries
returns-in_err-put_entries g c =
    let p = err_from_is_err_and c.from_residual-in_err-put_entries.result c.from_residual-in_err-put_entries.ensures.1 in
    let parts = listing_parts c.args.script.now c.args.book.now.history c.args.replies.now in
    let replies = codes "replies\n" ++ (text_lines (sessions_lines 1 c.args.script.now c.args.replies.now) ++ codes "done\n") in
    let first = one_more _ _ _ _ _ _ _ _ (codes "listing 1\n") (text_lines (entry_lines [] 0 c.args.book.now.history) ++ replies) (at_start _ _ _) parts c.in_ok-put.ensures.whole c.in_ok-put.ensures.calm in
    rw (p.1, p.2) (stopped _ _ _ _ _ _ _ _ (text_lines (entry_lines [] 0 c.history.result.now)) replies c.in_err-put_entries.field-0.0 first
    (ap (λ h. text_lines (entry_lines [] 0 h) ++ replies) (sym c.history.ensures.value)) c.in_err-put_entries.ensures)

pub returns-in_err-put-2 : goal.returns-in_err-put-2
returns-in_err-put-2 g c =
    let p = err_from_is_err_and c.from_residual-in_err-put-2.result c.from_residual-in_err-put-2.ensures.1 in
    let parts = listing_parts c.args.script.now c.args.book.now.history c.args.replies.now in
    let below = text_lines (sessions_lines 1 c.args.script.now c.args.replies.now) ++ codes "done\n" in
    let replies = codes "replies\n" ++ below in
    let first = one_more _ _ _ _ _ _ _ _ (codes "listing 1\n") (text_lines (entry_lines [] 0 c.args.book.now.history) ++ replies) (at_start _ _ _) parts c.in_ok-put.ensures.whole c.in_ok-put.ensures.calm in
    let second = one_more _ _ _ _ _ _ _ _ (text_lines (entry_lines [] 0 c.history.result.now)) replies first
    (ap (λ h. text_lines (entry_lines [] 0 h) ++ replies) (sym c.history.ensures.value)) c.in_ok-put_entries.ensures.whole c.in_ok-put_entries.ensures.calm in
    rw (p.1, p.2) (stopped _ _ _ _ _ _ _ _ (codes "replies\n") below c.in_err-put-2.field-0.0 second refl c.in_err-put-2.ensures)

pub returns-in_err-put_replies : goal.returns-in_err-put_replies
returns-in_err-put_replies g c =
    let p = err_from_is_err_and c.from_residual-in_err-put_replies.result c.from_residual-in_err-put_replies.ensures.1 in
    let parts = listing_parts c.args.script.now c.args.book.now.history c.args.replies.now in
    let below = text_lines (sessions_lines 1 c.args.script.now c.args.replies.now) ++ codes "done\n" in
    let replies = codes "replies\n" ++ below in
    let first = one_more _ _ _ _ _ _ _ _ (codes "listing 1\n") (text_lines (entry_lines [] 0 c.args.book.now.history) ++ replies) (at_start _ _ _) parts c.in_ok-put.ensures.whole c.in_ok-put.ensures.calm in
    let second = one_more _ _ _ _ _ _ _ _ (text_lines (entry_lines [] 0 c.history.result.now)) replies first
    (ap (λ h. text_lines (entry_lines [] 0 h) ++ replies) (sym c.history.ensures.value)) c.in_ok-put_entries.ensures.whole c.in_ok-put_entries.ensures.calm in
    let third = one_more _ _ _ _ _ _ _ _ (codes "replies\n") below second refl c.in_ok-put-2.ensures.whole c.in_ok-put-2.ensures.calm in
    rw (p.1, p.2) (stopped _ _ _ _ _ _ _ _ (text_lines (sessions_lines 1 c.lines.result.now c.args.replies.now)) (codes "done\n") c.in_err-put_replies.field-0.0 third
    (ap (λ ls. text_lines (sessions_lines 1 ls c.args.replies.now) ++ codes "done\n") (sym c.lines.ensures.value)) c.in_err-put_replies.ensures)

pub returns : goal.returns
returns g c =
    let parts = listing_parts c.args.script.now c.args.book.now.history c.args.replies.now in
    let below = text_lines (sessions_lines 1 c.args.script.now c.args.replies.now) ++ codes "done\n" in
    let replies = codes "replies\n" ++ below in
    let first = one_more _ _ _ _ _ _ _ _ (codes "listing 1\n") (text_lines (entry_lines [] 0 c.args.book.now.history) ++ replies) (at_start _ _ _) parts c.in_ok-put.ensures.whole c.in_ok-put.ensures.calm in
    let second = one_more _ _ _ _ _ _ _ _ (text_lines (entry_lines [] 0 c.history.result.now)) replies first
    (ap (λ h. text_lines (entry_lines [] 0 h) ++ replies) (sym c.history.ensures.value)) c.in_ok-put_entries.ensures.whole c.in_ok-put_entries.ensures.calm in
    let third = one_more _ _ _ _ _ _ _ _ (codes "replies\n") below second refl c.in_ok-put-2.ensures.whole c.in_ok-put-2.ensures.calm in
    let fourth = one_more _ _ _ _ _ _ _ _ (text_lines (sessions_lines 1 c.lines.result.now c.args.replies.now)) (codes "done\n") third
    (ap (λ ls. text_lines (sessions_lines 1 ls c.args.replies.now) ++ codes "done\n") (sym c.lines.ensures.value)) c.in_ok-put_replies.ensures.whole c.in_ok-put_replies.ensures.calm in
    last_piece _ _ _ _ _ _ _ _ c.put-3.result fourth c.put-3.ensures
