-- What a closed document, with all who called at it, comes to.
use Rattle.std.proofs.Common.{◌≡◌, inl, inr, ℕ, zero, suc, ◌+◌, ◌-◌, ◌<◌, ◌≤◌, List, [], ◌∷◌, ◌++◌, false, All, Some, None, length, map, take, refl, sym, ap, ◌∙◌, subst, arith, slice_get}
use Rattle.std.specs.List.{AllByRecursion}
use Rattle.std.proofs.lemmas.List.{length-map}
use Rattle.std.proofs.lemmas.Option.{slice_get_within}
use Rattle.std.proofs.Math.Seq.{take-append_seam}
use mathlib.Core.List.{IsPrefix}
use Rattle.script_text.specs.declared.scripts.Line.{Line}
use Rattle.turn_table.specs.Counting.{numbers_from}
use Rattle.turn_table.specs.States.{Opened}
use Rattle.doc_book.specs.declared.desks.Terms.{Terms}
use Rattle.doc_book.specs.declared.entries.Entry.{Entry}
use Rattle.doc_book.specs.declared.entries.Act.TheVariants as act
use Rattle.doc_book.specs.declared.replies.Reply.{Reply}
use Rattle.doc_book.specs.Document.{Document}
use Rattle.doc_book.specs.History.{end_place, is_end_act, frame_count}
use Rattle.doc_book.specs.Legal.{IsLegal}
use Rattle.doc_book.specs.Listing.{session_lines}
use Rattle.doc_book.specs.Replies.{IsEntryAt, AreRightReplies, OwnEntriesAre, after_of}
use Rattle.doc_book.proofs.Later.{slice_get-append, front-same}
use Rattle.session_run.specs.Sessions.{ForSessions}
use Rattle.session_run.proofs.Elements.{all-then}
use Rattle.layout_worker.specs.declared.tallies.Tally.{Tally}
use Rattle.layout_worker.specs.declared.tallies.Last.{Last}
use Rattle.layout_worker.specs.declared.tallies.Last.TheVariants as last
use Rattle.layout_worker.specs.Working.{IsWorkFrame}
use Rattle.shared_book.specs.Held.{Held, OwnedOnce, whos_of}
use Rattle.concurrent_run.specs.declared.elements.Session.{Session}
use Rattle.concurrent_run.specs.declared.elements.Worker.{Worker}
use Rattle.concurrent_run.specs.Beside.{IsByCaller, ForWorkers, IsRightLast, IsRightTally, IsRunBeside}
use Rattle.concurrent_run.specs.Gathering.{gathered, session_pass, session_replies, worker_pass, worker_tally, lacked_memory}
use Rattle.concurrent_run.specs.Leading.{IsEndAt, IsLed, AllBefore}
use Rattle.concurrent_run.proofs.Counts.{IsBy, OwnsByIt, OwnsAll, owns_all, of_owner}
use Rattle.concurrent_run.proofs.Ends.{end_place-front, end_place-before, open_within, end_within, end_first, other_place, frames_more}
use Rattle.concurrent_run.proofs.Heard.{Heard, heard_all, heard_two, heard_each, heard_with, heard_length, for_sessions, heard_before, made_before, for_workers}
use Rattle.concurrent_run.proofs.Lists.{each_of_all, all_of_each, each_left, each_right, each_both, each_taken, each_two, each_unmap, each_map, in_range}
use Rattle.concurrent_run.proofs.Parts.{IsMade, IsSessionPass, IsSessionIn, session_in, session_made, session_own, IsLastIn, IsWorkerPass, worker_frames, worker_count, made_work}
use Rattle.concurrent_run.proofs.Rising.{Rises}

-- ---- callers' numbers rise

rises_numbers : (low k n : ℕ) → low ≤ k → Rises low (numbers_from k n)
rises_numbers low k zero le = tt
rises_numbers low k (suc n) le = (le, rises_numbers (k + 1) (k + 1) n (omega arith))

rises_callers : (n : ℕ) → Rises 0 (0 ∷ (numbers_from 1 8 ++ numbers_from 11 n))
rises_callers n = (omega arith, (omega arith, (omega arith, (omega arith, (omega arith, (omega arith, (omega arith, (omega arith, (omega arith, rises_numbers 9 11 n (omega arith))))))))))

whos_split : (ss : List Session) (ws : List Worker) → whos_of (map session_pass ss ++ map worker_pass ws) ≡ map (λ (s : Session). (session_pass s).who) ss ++ map (λ (w : Worker). (worker_pass w).who) ws
whos_split [] [] = refl
whos_split [] (w ∷ ws) = ap (λ (z : List ℕ). w.pass.who ∷ z) (whos_split [] ws)
whos_split (s ∷ ss) ws = ap (λ (z : List ℕ). s.pass.who ∷ z) (whos_split ss ws)

end_later : (xs h : List Entry) (k : ℕ) → IsPrefix xs h → k ≤ length xs → IsEndAt xs k → IsEndAt h k
end_later xs h k begins le e = record {
  stands = (e.stands.0, subst (λ (z : List Entry). slice_get z k ≡ Some e.stands.0) begins.1 (slice_get-append xs begins.0 k e.stands.0 e.stands.1), e.stands.2, e.stands.3, e.stands.4);
  first = subst (λ (z : List Entry). end_place (take k z) ≡ None) begins.1 (subst (λ (z : List Entry). end_place z ≡ None) (front-same xs begins.0 k le) e.first);
}

-- why a worker ended
right_last : (seen h : List Entry) (budget place : ℕ) (l : Last) → IsPrefix seen h → end_place h ≡ Some place → lacked_memory l ≡ false → IsLastIn seen budget l → IsRightLast (take place h) budget l
right_last seen h budget place last.Ending begins ended enough is = tt
right_last seen h budget place last.Spent begins ended enough is =
    let whole : take (length seen) h ≡ seen = ap (take (length seen)) (sym begins.1) ∙ take-append_seam seen begins.0 in
    let within : length seen ≤ place = open_within h place (length seen) ended (ap end_place whole ∙ is.0) in
    let more = frames_more seen begins.0 place within in
    (end_place-before h place ended, subst (λ (z : List Entry). budget ≤ frame_count (take place z)) begins.1 (omega (arith, more, is.1)))
right_last seen h budget place last.Memory begins ended enough is = cc

module _ (book : Opened Entry Terms) (h : List Entry) (lines : List Line) (old run : Held) (ss : List Session) (ws : List Worker) (lists : List (List Reply)) (tallies : List Tally)
    (new : book.entries ≡ [])
    (seen : All (λ (p : Held). IsPrefix p.seen h) (gathered run ss ws)) (owned : OwnedOnce book h (gathered run ss ws))
    (run_who : old.who ≡ 0) (led : IsLed book old run ss)
    (session_whos : map (λ (s : Session). (session_pass s).who) ss ≡ numbers_from 1 8)
    (worker_whos : map (λ (w : Worker). (worker_pass w).who) ws ≡ numbers_from 11 (length ws))
    (played : AllByRecursion (λ (s : Session). (rs : List Reply) → s.replies ≡ Some rs → IsSessionPass book lines s.pass rs) ss)
    (worked : AllByRecursion (λ (w : Worker). IsWorkerPass book.terms.frames w.pass w.tally) ws)
    (heard : map Some lists ≡ map session_replies ss)
    (told : tallies ≡ map worker_tally ws)
    (enough : AllByRecursion (λ (t : Tally). lacked_memory t.last ≡ false) tallies) where
  -- ---- what the passes have seen

  seen_each : AllByRecursion (λ (p : Held). IsPrefix p.seen h) (gathered run ss ws)
  seen_each = each_of_all (λ (p : Held). IsPrefix p.seen h) (gathered run ss ws) seen

  seen_sessions : AllByRecursion (λ (s : Session). IsPrefix s.pass.seen h) ss
  seen_sessions = each_unmap (λ (p : Held). IsPrefix p.seen h) session_pass ss (each_left (λ (p : Held). IsPrefix p.seen h) (map session_pass ss) (map worker_pass ws) seen_each.1)

  seen_workers : AllByRecursion (λ (w : Worker). IsPrefix w.pass.seen h) ws
  seen_workers = each_unmap (λ (p : Held). IsPrefix p.seen h) worker_pass ws (each_right (λ (p : Held). IsPrefix p.seen h) (map session_pass ss) (map worker_pass ws) seen_each.1)

  ended : end_place h ≡ Some led.place
  ended = subst (λ (z : List Entry). end_place z ≡ Some led.place) seen_each.0.1 (end_place-front run.seen seen_each.0.0 led.place led.ended)

  -- ---- what each of them made

  sessions : Heard (IsSessionIn h book.terms.frames lines) ss lists
  sessions = heard_all (IsSessionIn h book.terms.frames lines) ss lists heard
      (each_two (λ (s : Session). (rs : List Reply) → s.replies ≡ Some rs → IsSessionPass book lines s.pass rs) (λ (s : Session). IsPrefix s.pass.seen h) (λ (s : Session). (rs : List Reply) → s.replies ≡ Some rs → IsSessionIn h book.terms.frames lines s.pass rs) ss
      (λ (s : Session) p q rs is. session_in book h lines s.pass rs (p rs is) q) played seen_sessions)

  made_sessions : AllByRecursion (λ (s : Session). AllByRecursion (IsMade h s.pass.who) s.pass.own) ss
  made_sessions = heard_each (IsSessionIn h book.terms.frames lines) (λ (p : Held). AllByRecursion (IsMade h p.who) p.own) ss lists (λ p rs is. session_made h book.terms.frames lines p rs is) sessions

  frames_workers : AllByRecursion (λ (w : Worker). AllByRecursion (IsWorkFrame h w.pass.who) w.pass.own) ws
  frames_workers = each_two (λ (w : Worker). IsWorkerPass book.terms.frames w.pass w.tally) (λ (w : Worker). IsPrefix w.pass.seen h) (λ (w : Worker). AllByRecursion (IsWorkFrame h w.pass.who) w.pass.own) ws
      (λ (w : Worker) p q. worker_frames h book.terms.frames w.pass w.tally p q) worked seen_workers

  ends_run : AllByRecursion (λ (k : ℕ). IsEndAt h k × All (AllBefore k) ss) run.own
  ends_run = all-then (λ (k : ℕ). IsEndAt run.seen k × All (AllBefore k) ss) (λ (k : ℕ). IsEndAt h k × All (AllBefore k) ss) run.own
      (λ k e. let within = slice_get_within run.seen k e.0.stands.0 e.0.stands.1 in (end_later run.seen h k seen_each.0 (omega (arith, within)) e.0, e.1)) led.ends

  -- ---- all own places

  -- what holds of all own places, of sessions, workers and the run, holds of each place
  each_place : (P : ℕ → Type 0) → AllByRecursion P run.own → AllByRecursion (λ (s : Session). AllByRecursion P s.pass.own) ss → AllByRecursion (λ (w : Worker). AllByRecursion P w.pass.own) ws
      → (k : ℕ) → k < length h → P k
  each_place P r s w = of_owner book h (gathered run ss ws) new owned P run (all_of_each (λ (p : Held). AllByRecursion P p.own) (gathered run ss ws)
      (r, each_both (λ (p : Held). AllByRecursion P p.own) (map session_pass ss) (map worker_pass ws) (each_map (λ (p : Held). AllByRecursion P p.own) session_pass ss s) (each_map (λ (p : Held). AllByRecursion P p.own) worker_pass ws w)))

  is_run : run.who ≡ 0
  is_run = led.who ∙ run_who

  by_it : AllByRecursion (OwnsByIt h) (gathered run ss ws)
  by_it = (
    all-then (λ (k : ℕ). IsEndAt h k × All (AllBefore k) ss) (IsBy h run.who) run.own (λ k e. record { entry = e.0.stands.0; stands = e.0.stands.1; by_who = e.0.stands.2 ∙ sym is_run }) ends_run,
    each_both (OwnsByIt h) (map session_pass ss) (map worker_pass ws)
        (each_map (OwnsByIt h) session_pass ss (all-then (λ (s : Session). AllByRecursion (IsMade h s.pass.who) s.pass.own) (λ (s : Session). OwnsByIt h s.pass) ss
        (λ (s : Session) all. all-then (IsMade h s.pass.who) (IsBy h s.pass.who) s.pass.own (λ k m. record { entry = m.entry; stands = m.stands; by_who = m.by_who }) all) made_sessions))
        (each_map (OwnsByIt h) worker_pass ws (all-then (λ (w : Worker). AllByRecursion (IsWorkFrame h w.pass.who) w.pass.own) (λ (w : Worker). OwnsByIt h w.pass) ws
        (λ (w : Worker) all. all-then (IsWorkFrame h w.pass.who) (IsBy h w.pass.who) w.pass.own (λ k f. record { entry = f.0.0; stands = f.0.1; by_who = f.0.2 }) all) frames_workers)),
  )

  rising : Rises 0 (whos_of (gathered run ss ws))
  rising =
      let others : whos_of (map session_pass ss ++ map worker_pass ws) ≡ numbers_from 1 8 ++ numbers_from 11 (length ws) =
      whos_split ss ws ∙ (ap (λ (z : List ℕ). z ++ map (λ (w : Worker). (worker_pass w).who) ws) session_whos ∙ ap (λ (z : List ℕ). numbers_from 1 8 ++ z) worker_whos) in
      subst (λ (z : List ℕ). Rises 0 z) (sym (ap (λ (w : ℕ). w ∷ whos_of (map session_pass ss ++ map worker_pass ws)) is_run ∙ ap (λ (z : List ℕ). 0 ∷ z) others)) (rises_callers (length ws))

  owns_each : AllByRecursion (OwnsAll h) (gathered run ss ws)
  owns_each = each_of_all (OwnsAll h) (gathered run ss ws) (owns_all book h (gathered run ss ws) new owned rising (all_of_each (OwnsByIt h) (gathered run ss ws) by_it))

  owns_sessions : AllByRecursion (λ (s : Session). OwnsAll h s.pass) ss
  owns_sessions = each_unmap (OwnsAll h) session_pass ss (each_left (OwnsAll h) (map session_pass ss) (map worker_pass ws) owns_each.1)

  owns_workers : AllByRecursion (λ (w : Worker). OwnsAll h w.pass) ws
  owns_workers = each_unmap (OwnsAll h) worker_pass ws (each_right (OwnsAll h) (map session_pass ss) (map worker_pass ws) owns_each.1)

  -- ---- replies and own entries of each session

  each_right_one : ForSessions 1 (λ session rs. AreRightReplies h book.terms.frames session 0 (session_lines session lines) rs × OwnEntriesAre h session rs) lists
  each_right_one = for_sessions (λ session rs. AreRightReplies h book.terms.frames session 0 (session_lines session lines) rs × OwnEntriesAre h session rs) 1 8 ss lists session_whos
      (heard_two (IsSessionIn h book.terms.frames lines) (λ p rs. AreRightReplies h book.terms.frames p.who 0 (session_lines p.who lines) rs × OwnEntriesAre h p.who rs) (OwnsAll h) ss lists
      (λ p rs is owns. (is.right, session_own h book.terms.frames lines p rs is owns)) sessions owns_sessions)

  eight : length lists ≡ 8
  eight = heard_length (IsSessionIn h book.terms.frames lines) ss lists sessions ∙ (sym (length-map ss (λ (s : Session). (session_pass s).who)) ∙ ap length session_whos)

  -- ---- End

  -- at End's place
  abbrev AtEnd : ℕ → Type 0
  AtEnd k = k ≡ led.place → IsEntryAt h led.place 0 0 (λ a. a ≡ act.End) × AllByRecursion (AllBefore led.place) ss

  at_end : AtEnd led.place
  at_end = each_place AtEnd
      (all-then (λ (k : ℕ). IsEndAt h k × All (AllBefore k) ss) AtEnd run.own
      (λ k e same. (subst (λ n. IsEntryAt h n 0 0 (λ a. a ≡ act.End)) same e.0.stands, each_of_all (AllBefore led.place) ss (subst (λ n. All (AllBefore n) ss) same e.1))) ends_run)
      (all-then (λ (s : Session). AllByRecursion (IsMade h s.pass.who) s.pass.own) (λ (s : Session). AllByRecursion AtEnd s.pass.own) ss
      (λ (s : Session) all. all-then (IsMade h s.pass.who) AtEnd s.pass.own (λ k m same. absurd (other_place h led.place k m.entry ended m.stands m.open_entry same)) all) made_sessions)
      (all-then (λ (w : Worker). AllByRecursion (IsWorkFrame h w.pass.who) w.pass.own) (λ (w : Worker). AllByRecursion AtEnd w.pass.own) ws
      (λ (w : Worker) all. all-then (IsWorkFrame h w.pass.who) AtEnd w.pass.own (λ k f same. let m = made_work h w.pass.who k f in absurd (other_place h led.place k m.entry ended m.stands m.open_entry same)) all) frames_workers)
      led.place (end_within h led.place ended)

  before_end : AllByRecursion (AllByRecursion (λ (r : Reply). after_of r ≤ led.place)) lists
  before_end = heard_before (IsSessionIn h book.terms.frames lines) led.place ss lists sessions (at_end refl).1

  -- ---- the order of all entries

  -- the place isn't behind End, and one before End is a session's or a worker's
  abbrev InOrder : ℕ → Type 0
  InOrder k = (k ≤ led.place) × (k < led.place → (e : Entry) × (slice_get h k ≡ Some e) × IsByCaller (length ws) e)

  order_run : AllByRecursion InOrder run.own
  order_run = all-then (λ (k : ℕ). IsEndAt h k × All (AllBefore k) ss) InOrder run.own
      (λ k e. (
        open_within h led.place k ended e.0.first,
        λ lt. let first = end_first h led.place k e.0.stands.0 ended e.0.stands.1 (ap is_end_act e.0.stands.4) in absurd (omega (arith, lt, first)),
      )) ends_run

  before_sessions : AllByRecursion (λ (s : Session). AllByRecursion (λ (k : ℕ). k < led.place) s.pass.own) ss
  before_sessions = heard_each (λ p rs. AllByRecursion (λ (k : ℕ). k < led.place) p.own) (λ (p : Held). AllByRecursion (λ (k : ℕ). k < led.place) p.own) ss lists (λ p rs all. all)
      (heard_with (IsSessionIn h book.terms.frames lines) (λ p rs. AllByRecursion (λ (k : ℕ). k < led.place) p.own) (AllByRecursion (λ (r : Reply). after_of r ≤ led.place)) ss lists
      (λ p rs is all. subst (AllByRecursion (λ (k : ℕ). k < led.place)) (sym is.own) (made_before led.place rs all)) sessions before_end)

  session_order : (s : Session) → AllByRecursion (IsMade h s.pass.who) s.pass.own → AllByRecursion (λ (k : ℕ). k < led.place) s.pass.own → (1 ≤ s.pass.who) × (s.pass.who < 1 + 8) → AllByRecursion InOrder s.pass.own
  session_order s made before who = each_two (IsMade h s.pass.who) (λ (k : ℕ). k < led.place) InOrder s.pass.own
      (λ k m lt. (omega (arith, lt), λ _. (m.entry, m.stands, inl (omega (arith, m.by_who, who.0), omega (arith, m.by_who, who.1))))) made before

  order_sessions : AllByRecursion (λ (s : Session). AllByRecursion InOrder s.pass.own) ss
  order_sessions =
      let whos = in_range (λ (s : Session). (session_pass s).who) ss 1 8 session_whos in
      each_two (λ (s : Session). AllByRecursion (IsMade h s.pass.who) s.pass.own × AllByRecursion (λ (k : ℕ). k < led.place) s.pass.own) (λ (s : Session). (1 ≤ s.pass.who) × (s.pass.who < 1 + 8)) (λ (s : Session). AllByRecursion InOrder s.pass.own) ss
      (λ (s : Session) p who. session_order s p.0 p.1 who)
      (each_two (λ (s : Session). AllByRecursion (IsMade h s.pass.who) s.pass.own) (λ (s : Session). AllByRecursion (λ (k : ℕ). k < led.place) s.pass.own) (λ (s : Session). AllByRecursion (IsMade h s.pass.who) s.pass.own × AllByRecursion (λ (k : ℕ). k < led.place) s.pass.own) ss
      (λ (s : Session) m b. (m, b)) made_sessions before_sessions)
      whos

  worker_order : (w : Worker) → AllByRecursion (IsWorkFrame h w.pass.who) w.pass.own → (11 ≤ w.pass.who) × (w.pass.who < 11 + length ws) → AllByRecursion InOrder w.pass.own
  worker_order w frames who = all-then (IsWorkFrame h w.pass.who) InOrder w.pass.own
      (λ k f. (
        open_within h led.place k ended f.1,
        λ _. (f.0.0, f.0.1, inr (record { first = omega (arith, f.0.2, who.0); last = omega (arith, f.0.2, who.1); line = f.0.3; frame = f.0.4 })),
      )) frames

  order_workers : AllByRecursion (λ (w : Worker). AllByRecursion InOrder w.pass.own) ws
  order_workers = each_two (λ (w : Worker). AllByRecursion (IsWorkFrame h w.pass.who) w.pass.own) (λ (w : Worker). (11 ≤ w.pass.who) × (w.pass.who < 11 + length ws)) (λ (w : Worker). AllByRecursion InOrder w.pass.own) ws
      (λ (w : Worker) frames who. worker_order w frames who) frames_workers (in_range (λ (w : Worker). (worker_pass w).who) ws 11 (length ws) worker_whos)

  in_order : (k : ℕ) → k < length h → InOrder k
  in_order = each_place InOrder order_run order_sessions order_workers

  callers : AllByRecursion (IsByCaller (length ws)) (take led.place h)
  callers = let within = end_within h led.place ended in
      each_taken (IsByCaller (length ws)) h led.place (omega (arith, within)) (λ k lt. (in_order k (omega (arith, lt, within))).1 lt)

  nothing_behind : led.place + 1 ≡ length h
  nothing_behind = let within = end_within h led.place ended in
      let behind = (in_order (length h - 1) (omega (arith, within))).0 in omega (arith, within, behind)

  -- ---- tallies

  enough_each : AllByRecursion (λ (w : Worker). lacked_memory w.tally.last ≡ false) ws
  enough_each = each_unmap (λ (t : Tally). lacked_memory t.last ≡ false) worker_tally ws (subst (AllByRecursion (λ (t : Tally). lacked_memory t.last ≡ false)) told enough)

  tally_right : (w : Worker) → IsWorkerPass book.terms.frames w.pass w.tally → IsPrefix w.pass.seen h → OwnsAll h w.pass → lacked_memory w.tally.last ≡ false → IsRightTally h book.terms.frames led.place w.pass.who w.tally
  tally_right w is begins owns more = record {
    published = worker_count h book.terms.frames w.pass w.tally is owns;
    last = right_last w.pass.seen h book.terms.frames led.place w.tally.last begins ended more is.last;
  }

  tallies_right : ForWorkers 11 (IsRightTally h book.terms.frames led.place) tallies
  tallies_right = subst (ForWorkers 11 (IsRightTally h book.terms.frames led.place)) (sym told)
      (for_workers (IsRightTally h book.terms.frames led.place) 11 (length ws) ws worker_whos
      (each_two (λ (w : Worker). IsWorkerPass book.terms.frames w.pass w.tally × IsPrefix w.pass.seen h) (λ (w : Worker). OwnsAll h w.pass × (lacked_memory w.tally.last ≡ false)) (λ (w : Worker). IsRightTally h book.terms.frames led.place w.pass.who w.tally) ws
      (λ (w : Worker) a b. tally_right w a.0 a.1 b.0 b.1)
      (each_two (λ (w : Worker). IsWorkerPass book.terms.frames w.pass w.tally) (λ (w : Worker). IsPrefix w.pass.seen h) (λ (w : Worker). IsWorkerPass book.terms.frames w.pass w.tally × IsPrefix w.pass.seen h) ws (λ (w : Worker) a b. (a, b)) worked seen_workers)
      (each_two (λ (w : Worker). OwnsAll h w.pass) (λ (w : Worker). lacked_memory w.tally.last ≡ false) (λ (w : Worker). OwnsAll h w.pass × (lacked_memory w.tally.last ≡ false)) ws (λ (w : Worker) a b. (a, b)) owns_workers enough_each)))

  pub whole : (document : Document) → document.history ≡ h → document.budget ≡ book.terms.frames → IsLegal h document.budget → IsRunBeside book.terms.frames (length ws) lines document lists tallies
  whole document same budget legal = subst (λ (d : Document). IsRunBeside book.terms.frames (length ws) lines d lists tallies) (sym (is document same)) (record {
    place = led.place;
    budget = budget;
    legal = subst (IsLegal h) budget legal;
    ended = ended;
    last = nothing_behind;
    ending = (at_end refl).0;
    eight = eight;
    each = each_right_one;
    before_end = before_end;
    callers = callers;
    one_each = ap length told ∙ length-map ws worker_tally;
    tallies_right = tallies_right;
  })
    where
      is : (d : Document) → d.history ≡ h → d ≡ record { history = h; budget = d.budget }
      is d e = ap (λ (z : List Entry). record { history = z; budget = d.budget }) e
