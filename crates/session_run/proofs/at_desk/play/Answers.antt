use Rattle.std.proofs.Common.{rules, ◌∙◌, ◌<◌, ◌^◌, length}
use Rattle.session_run.proofs.AllLines.{playing-this, playing-other}
use Rattle.session_run.proofs.at_desk.play.Goals as goal
use Rattle.session_run.proofs.at_desk.play.Goals.{then-line-who+in_ok-reply+in_ok-push, else-line-who}

pub loop-line-preserved : goal.loop-line-preserved
loop-line-preserved g c =
    let i = c.loop-line.invariant in
    let short : length c.args.lines.now < 2 ^ 64 = search rules in
    elim c.if-line-who.branch [
      | then-line-who+in_ok-reply+in_ok-push w ↦ rw w.desk-is (record {
        playing = playing-this (g.D.Desk.at c.args.desk.now) (g.D.Desk.at c.loop-line.desk) (g.D.Desk.at w.reply_to.new.desk) c.args.who c.args.lines.now
            c.loop-line.line-index c.loop-line.replies c.if-line-who.replies c.line-item.result w.in_ok-reply.reply i.playing c.loop-line-test.true short c.line-item.is
            w.if-line-who.true w.in_ok-reply.ensures.kept w.in_ok-reply.ensures.replied (w.replies-is ∙ w.in_ok-push.ensures.added);
        key = w.in_ok-reply.ensures.key ∙ i.key;
      })
      | else-line-who w ↦ rw w.desk-is (rw w.replies-is (record {
        playing = playing-other (g.D.Desk.at c.args.desk.now) (g.D.Desk.at c.loop-line.desk) c.args.who c.args.lines.now c.loop-line.line-index c.loop-line.replies
            c.line-item.result i.playing c.loop-line-test.true c.line-item.is w.if-line-who.false;
        key = i.key;
      }))
    ]
