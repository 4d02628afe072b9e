use Rattle.summary_text.proofs.LastFrames.{finished_ends}
use Rattle.output_text.proofs.Few.{few_replies}
use Rattle.output_text.proofs.output.put_summary.Goals as goal

pub write_summary-requires : goal.write_summary-requires
write_summary-requires g c = record {
  framed = finished_ends c.args.book.now.history c.requires.finished;
  few = few_replies c.args.script.now c.args.replies.now c.lines-few.ensures.kept c.requires.replies;
}
