use Rattle.std.proofs.Common.{ap}
use Rattle.std.specs.Option.{is_some}
use Rattle.editor_run.proofs.Counting.{IsPlayedWhole, has_played, played_budget_is, in_file_order}
use Rattle.editor_run.proofs.Together.{not_ended_by, ended_place, ended_last, finished_own, finished_replies, finished_callers, finished_history, finished_order, finished_counts}
use Rattle.editor_run.proofs.whole.play_whole.Goals as goal

pub end-requires : goal.end-requires
end-requires g c =
    not_ended_by c.play_alone.new.book.history
    (has_played c.args.frames c.new-book.result c.play_alone.new.book c.args.script.now c.in_ok-lists.lists.items
    (record { script = c.lines-lines.ensures.kept; opening_is = c.new-book.ensures; alone = c.in_ok-lists.ensures })).entries

pub finish_all-requires-clause-ended : goal.finish_all-requires-clause-ended
finish_all-requires-clause-ended g c κs within =
    let played = has_played c.args.frames c.new-book.result c.play_alone.new.book c.args.script.now c.in_ok-lists.lists.items
    (record { script = c.lines-lines.ensures.kept; opening_is = c.new-book.ensures; alone = c.in_ok-lists.ensures }) in
    ap is_some (ended_place c.play_alone.new.book c.end.new.book c.args.script.now c.in_ok-lists.lists.items played c.in_ok-end.ensures)

pub finish_all-requires-clause-last : goal.finish_all-requires-clause-last
finish_all-requires-clause-last g c κs within =
    let played = has_played c.args.frames c.new-book.result c.play_alone.new.book c.args.script.now c.in_ok-lists.lists.items
    (record { script = c.lines-lines.ensures.kept; opening_is = c.new-book.ensures; alone = c.in_ok-lists.ensures }) in
    ended_last c.play_alone.new.book c.end.new.book c.args.script.now c.in_ok-lists.lists.items played c.in_ok-end.ensures

pub returns : goal.returns
returns g c =
    let whole : IsPlayedWhole c.args.frames c.new-book.result c.play_alone.new.book c.args.script.now c.in_ok-lists.lists.items = record { script = c.lines-lines.ensures.kept; opening_is = c.new-book.ensures; alone = c.in_ok-lists.ensures } in
    let played = has_played c.args.frames c.new-book.result c.play_alone.new.book c.args.script.now c.in_ok-lists.lists.items whole in
    record {
      history = finished_history c.args.frames c.play_alone.new.book c.end.new.book c.finish_all.new.book
          (played_budget_is c.args.frames c.new-book.result c.play_alone.new.book c.args.script.now c.in_ok-lists.lists.items whole)
          c.in_ok-end.ensures c.in_ok-finish_all.ensures.grown c.history-legal.ensures.legal c.in_ok-finish_all.ensures.finished;
      own_entries = finished_own c.play_alone.new.book c.end.new.book c.finish_all.new.book c.args.script.now c.in_ok-lists.lists.items c.of.result
          played c.in_ok-end.ensures c.in_ok-finish_all.ensures.grown c.of.ensures;
      replies = finished_replies c.play_alone.new.book c.end.new.book c.finish_all.new.book c.args.script.now c.in_ok-lists.lists.items c.of.result
          played c.in_ok-end.ensures c.in_ok-finish_all.ensures.grown c.of.ensures;
      callers = finished_callers c.play_alone.new.book c.end.new.book c.finish_all.new.book c.args.script.now c.in_ok-lists.lists.items c.of.result
          played c.in_ok-end.ensures c.in_ok-finish_all.ensures.grown c.of.ensures;
      order = λ _. finished_order c.args.script.now c.in_ok-lists.lists.items c.of.result
          (in_file_order c.args.frames c.new-book.result c.play_alone.new.book c.args.script.now c.in_ok-lists.lists.items whole) c.of.ensures;
      counts = finished_counts c.args.frames c.play_alone.new.book c.end.new.book c.finish_all.new.book c.args.script.now c.in_ok-lists.lists.items c.new.result
          played c.in_ok-end.ensures c.in_ok-finish_all.ensures.grown c.new.ensures;
    }
