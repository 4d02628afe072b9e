use Rattle.std.proofs.Common.{◌∙◌, ap, sym, subst, List}
use Rattle.std.proofs.lemmas.Result.{err_from_is_err_and}
use Rattle.edit_rules.specs.declared.edits.Edit.{Edit}
use Rattle.edit_rules.specs.Effects.{scene_of}
use Rattle.doc_book.specs.History.{edits_after}
use Rattle.listing_text.specs.Steps.{IsAccepting, IsPlacing}
use Rattle.listing_text.proofs.History.{entry_put, edits_step, legal_here, placing_here, legal_step}
use Rattle.listing_text.proofs.Puts.{one_more, stopped}
use Rattle.listing_text.proofs.entries.put_entries.Goals as goal

pub returns-in_err-put_entry : goal.returns-in_err-put_entry
returns-in_err-put_entry g c =
    let p = err_from_is_err_and c.from_residual.result c.from_residual.ensures.1 in
    rw (p.1, p.2) (stopped _ _ _ _ _ _ _ _ _ _ c.in_err-put_entry.field-0.0 c.loop-place.invariant.so_far
    (entry_put c.args.history.now c.loop-place.place c.index-history-place.result c.loop-place-test.true c.index-history-place.is c.loop-place.stand c.loop-place.invariant.edits)
    c.in_err-put_entry.ensures.puts)

pub put_entry-requires : goal.put_entry-requires
put_entry-requires g c =
    let h = c.args.history.now in
    let k = c.loop-place.place in
    let e = c.index-history-place.result in
    let legal = c.loop-place.invariant.legal in
    let same = sym c.loop-place.invariant.edits in
    record {
      accepting = subst (λ (edits : List Edit). IsAccepting edits e.act) same (legal_here h k e c.loop-place-test.true c.index-history-place.is legal.0 legal.1);
      placing = subst (λ (edits : List Edit). IsPlacing (scene_of edits) e.act) same (placing_here h k e c.loop-place-test.true c.index-history-place.is legal.0 legal.1);
    }

pub loop-place-preserved : goal.loop-place-preserved
loop-place-preserved g c =
    let h = c.args.history.now in
    let k = c.loop-place.place in
    let e = c.index-history-place.result in
    record {
      so_far = one_more _ _ _ _ _ _ _ _ _ _ c.loop-place.invariant.so_far
          (entry_put h k e c.loop-place-test.true c.index-history-place.is c.loop-place.stand c.loop-place.invariant.edits)
          c.in_ok-put_entry.ensures.puts.whole c.in_ok-put_entry.ensures.puts.calm;
      edits = c.in_ok-put_entry.ensures.edits ∙ ap (λ (edits : List Edit). edits_after edits e.act) c.loop-place.invariant.edits ∙ sym (edits_step h k e c.loop-place-test.true c.index-history-place.is);
      legal = (c.loop-place.invariant.legal.0, legal_step h k e c.loop-place-test.true c.index-history-place.is c.loop-place.invariant.legal.0 c.loop-place.invariant.legal.1);
    }
