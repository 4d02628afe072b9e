-- From all who began at a shared document to its closing.
use Rattle.std.proofs.Common.{◌≡◌, ℕ, ◌+◌, ◌<◌, List, [], All, Some, length, map, refl, sym, ap, ◌∙◌, subst, arith, slice_index_or, false}
use Rattle.std.specs.List.{AllByRecursion}
use Rattle.std.proofs.lemmas.List.{length-map, length-append}
use Rattle.script_text.specs.declared.scripts.Line.{Line}
use Rattle.turn_table.specs.Counting.{numbers_from}
use Rattle.turn_table.specs.States.{Opened}
use Rattle.doc_book.specs.declared.desks.Terms.{Terms}
use Rattle.doc_book.specs.declared.entries.Entry.{Entry}
use Rattle.doc_book.specs.declared.replies.Reply.{Reply}
use Rattle.doc_book.specs.Document.{Document}
use Rattle.layout_worker.specs.declared.tallies.Tally.{Tally}
use Rattle.shared_book.specs.Held.{Held}
use Rattle.concurrent_run.specs.declared.elements.Session.{Session}
use Rattle.concurrent_run.specs.declared.elements.Worker.{Worker}
use Rattle.concurrent_run.specs.declared.dealing.People.{People}
use Rattle.concurrent_run.specs.Beside.{IsRunBeside}
use Rattle.concurrent_run.specs.Dealing.{ArePeople}
use Rattle.concurrent_run.specs.Elements.{ArePlayed, AreWorkedOut}
use Rattle.concurrent_run.specs.Gathering.{gathered, session_pass, session_replies, worker_pass, worker_tally, lacked_memory, IsClosed}
use Rattle.concurrent_run.specs.Leading.{IsLed}
use Rattle.concurrent_run.proofs.Closing.{whole}
use Rattle.concurrent_run.proofs.Lists.{each_of_all, all_of_each, each_both, each_map, map_same}
use Rattle.concurrent_run.proofs.Parts.{IsSessionPass, session_done, IsWorkerPass, worker_done}

pub session_count : (book : Opened Entry Terms) (people : People) → ArePeople book people → length people.sessions.items ≡ 8
session_count book people p = sym (length-map people.sessions.items (λ (s : Session). (session_pass s).who)) ∙ ap length p.session_whos

pub gathered_length : (run : Held) (ss : List Session) (ws : List Worker) → length (gathered run ss ws) ≡ length ss + length ws + 1
gathered_length run ss ws =
    let a = length-append (map session_pass ss) (map worker_pass ws) in let b = length-map ss session_pass in let c = length-map ws worker_pass in omega (arith, a, b, c)

module _ (book : Opened Entry Terms) (lines : List Line) (people : People) (run : Held) (ss : List Session) (ws : List Worker)
    (begun : ArePeople book people) (led : IsLed book people.run run ss) (played : ArePlayed book lines people.sessions.items ss) (worked : AreWorkedOut book people.workers.items ws) where
  pub tables : All (λ (p : Held). p.table ≡ Some book) (gathered run ss ws)
  tables = all_of_each (λ (p : Held). p.table ≡ Some book) (gathered run ss ws) (
    led.table,
    each_both (λ (p : Held). p.table ≡ Some book) (map session_pass ss) (map worker_pass ws)
        (each_map (λ (p : Held). p.table ≡ Some book) session_pass ss (each_of_all (λ (s : Session). s.pass.table ≡ Some book) ss (λ i d lt. (played.each i d (omega (arith, played.count, lt))).same.table)))
        (each_map (λ (p : Held). p.table ≡ Some book) worker_pass ws (each_of_all (λ (w : Worker). w.pass.table ≡ Some book) ws (λ i d lt. (worked.each i d (omega (arith, worked.count, lt))).same.table))),
  )

  played_each : AllByRecursion (λ (s : Session). (rs : List Reply) → s.replies ≡ Some rs → IsSessionPass book lines s.pass rs) ss
  played_each = each_of_all (λ (s : Session). (rs : List Reply) → s.replies ≡ Some rs → IsSessionPass book lines s.pass rs) ss
      (λ i d lt rs is. let within : i < length people.sessions.items = omega (arith, played.count, lt) in
      session_done book lines (slice_index_or people.sessions.items i d) (slice_index_or ss i d) rs (begun.sessions i d within) (played.each i d within) is)

  worked_each : AllByRecursion (λ (w : Worker). IsWorkerPass book.terms.frames w.pass w.tally) ws
  worked_each = each_of_all (λ (w : Worker). IsWorkerPass book.terms.frames w.pass w.tally) ws
      (λ i d lt. let within : i < length people.workers.items = omega (arith, worked.count, lt) in
      worker_done book (slice_index_or people.workers.items i d) (slice_index_or ws i d) (begun.workers i d within) (worked.each i d within))

  session_numbers : map (λ (s : Session). (session_pass s).who) ss ≡ numbers_from 1 8
  session_numbers = map_same (λ (s : Session). (session_pass s).who) people.sessions.items ss played.count (λ i d lt. (played.each i d lt).same.who) ∙ begun.session_whos

  worker_numbers : map (λ (w : Worker). (worker_pass w).who) ws ≡ numbers_from 11 (length ws)
  worker_numbers = map_same (λ (w : Worker). (worker_pass w).who) people.workers.items ws worked.count (λ i d lt. (worked.each i d lt).same.who) ∙ (begun.worker_whos ∙ ap (numbers_from 11) (sym worked.count))

  pub all_come : length (gathered run ss ws) ≡ length people.workers.items + 9
  all_come = let long = gathered_length run ss ws in let eight = session_count book people begun in omega (arith, long, eight, played.count, worked.count)

  pub run_whole : (document : Document) (lists : List (List Reply)) (tallies : List Tally) → book.entries ≡ [] → IsClosed book (gathered run ss ws) document
      → map Some lists ≡ map session_replies ss → tallies ≡ map worker_tally ws → AllByRecursion (λ (t : Tally). lacked_memory t.last ≡ false) tallies
      → IsRunBeside book.terms.frames (length people.workers.items) lines document lists tallies
  run_whole document lists tallies new closed heard told enough = subst (λ (n : ℕ). IsRunBeside book.terms.frames n lines document lists tallies) worked.count
      (whole book document.history lines people.run run ss ws lists tallies new closed.seen closed.own begun.run_who led session_numbers worker_numbers played_each worked_each heard told enough document refl closed.budget closed.legal)
