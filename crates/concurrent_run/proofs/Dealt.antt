-- Passes that were dealt by their numbers.
use Rattle.std.proofs.Common.{◌≡◌, ℕ, ◌+◌, ◌<◌, ◌≤◌, List, [], ◌∷◌, ◌++◌, All, length, map, sym, ap, ◌∙◌, subst, arith, append_assoc}
use Rattle.std.proofs.lemmas.List.{length-append, length-map, map-append, same_from_push}
use Rattle.std.proofs.lemmas.List.Elements.{All-nil, All-push}
use Rattle.turn_table.specs.Counting.{numbers_from}
use Rattle.turn_table.specs.States.{Opened}
use Rattle.doc_book.specs.declared.desks.Terms.{Terms}
use Rattle.doc_book.specs.declared.entries.Entry.{Entry}
use Rattle.shared_book.specs.Held.{Held, IsFresh, whos_of}
use Rattle.concurrent_run.specs.declared.elements.Session.{Session}
use Rattle.concurrent_run.specs.declared.elements.Worker.{Worker}
use Rattle.concurrent_run.specs.declared.dealing.People.{People}
use Rattle.concurrent_run.specs.Dealing.{callers_of, ArePeople}
use Rattle.concurrent_run.specs.Elements.{IsNewPass}
use Rattle.concurrent_run.specs.Gathering.{session_pass, worker_pass}
use Rattle.concurrent_run.proofs.Deals.{below, above, below_low, above_low, below_above, above_above, dealt_below, dealt_above, numbers_push, numbers_length}
use Rattle.concurrent_run.proofs.Lists.{each_of_all, all_of_each, each_left, each_right}

-- ---- the numbers, as they are listed

pub session_push : (xs : List ℕ) (n : ℕ) → xs ≡ numbers_from 1 n → xs ++ (n + 1) ∷ [] ≡ numbers_from 1 (n + 1)
session_push xs n are = let same : n + 1 ≡ 1 + n = omega arith in ap (λ z. z ++ (n + 1) ∷ []) are ∙ (ap (λ k. numbers_from 1 n ++ k ∷ []) same ∙ numbers_push 1 n)

pub worker_push : (xs : List ℕ) (n : ℕ) → xs ≡ numbers_from 1 8 ++ numbers_from 11 n → xs ++ (11 + n) ∷ [] ≡ numbers_from 1 8 ++ numbers_from 11 (n + 1)
worker_push xs n are =
    ap (λ z. z ++ (11 + n) ∷ []) are ∙ (append_assoc (numbers_from 1 8) (numbers_from 11 n) ((11 + n) ∷ []) ∙ ap (λ z. numbers_from 1 8 ++ z) (numbers_push 11 n))

pub callers_count : (n : ℕ) → length (callers_of n) ≡ n + 9
callers_count n =
    let a = length-append (numbers_from 1 8 ++ numbers_from 11 n) (0 ∷ []) in let b = length-append (numbers_from 1 8) (numbers_from 11 n) in let c = numbers_length 11 n in omega (arith, a, b, c)

-- the passes of a document that was opened without entries are new
pub new_passes : (book : Opened Entry Terms) (passes : List Held) → book.entries ≡ [] → All (IsFresh book) passes → All (IsNewPass book) passes
new_passes book passes none fresh = λ i d lt. let f = fresh i d lt in (f.0, f.1 ∙ none, f.2)

-- ---- one pass after the other

-- so many passes were dealt, each by its number
pub record AreDealt (book : Opened Entry Terms) (yielded : List Held) (ss : List Session) (ws : List Worker) : Type 0 where
  pub sessions : All (IsNewPass book) yielded → All (λ s. IsNewPass book (session_pass s)) ss
  pub workers : All (IsNewPass book) yielded → All (λ w. IsNewPass book (worker_pass w)) ws
  pub session_whos : map (λ s. (session_pass s).who) ss ≡ below (whos_of yielded)
  pub worker_whos : map (λ w. (worker_pass w).who) ws ≡ above (whos_of yielded)

pub none_dealt : (book : Opened Entry Terms) (ss : List Session) (ws : List Worker) → ss ≡ [] → ws ≡ [] → AreDealt book [] ss ws
none_dealt book ss ws sn wn = record {
  sessions = λ all. subst (All (λ s. IsNewPass book (session_pass s))) (sym sn) (All-nil (λ s. IsNewPass book (session_pass s)));
  workers = λ all. subst (All (λ w. IsNewPass book (worker_pass w))) (sym wn) (All-nil (λ w. IsNewPass book (worker_pass w)));
  session_whos = ap (map (λ s. (session_pass s).who)) sn;
  worker_whos = ap (map (λ w. (worker_pass w).who)) wn;
}

module _ (book : Opened Entry Terms) (yielded : List Held) (pass : Held) where
  before : All (IsNewPass book) (yielded ++ pass ∷ []) → All (IsNewPass book) yielded
  before all = all_of_each (IsNewPass book) yielded (each_left (IsNewPass book) yielded (pass ∷ []) (each_of_all (IsNewPass book) (yielded ++ pass ∷ []) all))

  this : All (IsNewPass book) (yielded ++ pass ∷ []) → IsNewPass book pass
  this all = (each_right (IsNewPass book) yielded (pass ∷ []) (each_of_all (IsNewPass book) (yielded ++ pass ∷ []) all)).0

  whos_more : whos_of (yielded ++ pass ∷ []) ≡ whos_of yielded ++ pass.who ∷ []
  whos_more = map-append (λ (p : Held). p.who) yielded (pass ∷ [])

  pub one_session : (ss ss' : List Session) (ws : List Worker) (s : Session) → session_pass s ≡ pass → ss' ≡ ss ++ s ∷ [] → pass.who ≤ 8 → AreDealt book yielded ss ws → AreDealt book (yielded ++ pass ∷ []) ss' ws
  one_session ss ss' ws s is grown le d = record {
    sessions = λ all. subst (All (λ s. IsNewPass book (session_pass s))) (sym grown) (All-push (λ s. IsNewPass book (session_pass s)) ss s (d.sessions (before all)) (subst (IsNewPass book) (sym is) (this all)));
    workers = λ all. d.workers (before all);
    session_whos = ap (map (λ s. (session_pass s).who)) grown ∙ (map-append (λ s. (session_pass s).who) ss (s ∷ [])
        ∙ (ap (λ (p : Held). map (λ s. (session_pass s).who) ss ++ p.who ∷ []) is ∙ (below_low (whos_of yielded) (map (λ s. (session_pass s).who) ss) pass.who d.session_whos le ∙ ap below (sym whos_more))));
    worker_whos = above_low (whos_of yielded) (map (λ w. (worker_pass w).who) ws) pass.who d.worker_whos le ∙ ap above (sym whos_more);
  }

  pub one_worker : (ss : List Session) (ws ws' : List Worker) (w : Worker) → worker_pass w ≡ pass → ws' ≡ ws ++ w ∷ [] → 8 < pass.who → AreDealt book yielded ss ws → AreDealt book (yielded ++ pass ∷ []) ss ws'
  one_worker ss ws ws' w is grown lt d = record {
    sessions = λ all. d.sessions (before all);
    workers = λ all. subst (All (λ w. IsNewPass book (worker_pass w))) (sym grown) (All-push (λ w. IsNewPass book (worker_pass w)) ws w (d.workers (before all)) (subst (IsNewPass book) (sym is) (this all)));
    session_whos = below_above (whos_of yielded) (map (λ s. (session_pass s).who) ss) pass.who d.session_whos lt ∙ ap below (sym whos_more);
    worker_whos = ap (map (λ w. (worker_pass w).who)) grown ∙ (map-append (λ w. (worker_pass w).who) ws (w ∷ [])
        ∙ (ap (λ (p : Held). map (λ w. (worker_pass w).who) ws ++ p.who ∷ []) is ∙ (above_above (whos_of yielded) (map (λ w. (worker_pass w).who) ws) pass.who d.worker_whos lt ∙ ap above (sym whos_more))));
  }

-- ---- all of them

module _ (book : Opened Entry Terms) (passes rest : List Held) (run : Held) (n : ℕ) (whos : whos_of passes ≡ callers_of n) (fresh : All (IsNewPass book) passes) (last : passes ≡ rest ++ run ∷ []) where
  parts : (whos_of rest ≡ numbers_from 1 8 ++ numbers_from 11 n) × (run.who ≡ 0)
  parts = same_from_push (whos_of rest) (numbers_from 1 8 ++ numbers_from 11 n) run.who 0 (sym (map-append (λ (p : Held). p.who) rest (run ∷ [])) ∙ (ap whos_of (sym last) ∙ whos))

  worker_numbers : (people : People) → map (λ w. (worker_pass w).who) people.workers.items ≡ above (whos_of rest) → map (λ w. (worker_pass w).who) people.workers.items ≡ numbers_from 11 n
  worker_numbers people are = are ∙ (ap above parts.0 ∙ dealt_above n)

  pub workers_dealt : (people : People) → map (λ w. (worker_pass w).who) people.workers.items ≡ above (whos_of rest) → length people.workers.items ≡ n
  workers_dealt people are = sym (length-map people.workers.items (λ (w : Worker). (worker_pass w).who)) ∙ (ap length (worker_numbers people are) ∙ numbers_length 11 n)

  pub people_dealt : (people : People) → people.run ≡ run → All (λ s. IsNewPass book (session_pass s)) people.sessions.items → All (λ w. IsNewPass book (worker_pass w)) people.workers.items
      → map (λ s. (session_pass s).who) people.sessions.items ≡ below (whos_of rest) → map (λ w. (worker_pass w).who) people.workers.items ≡ above (whos_of rest) → ArePeople book people
  people_dealt people is_run sessions workers session_whos worker_whos = record {
    run = subst (IsNewPass book) (sym is_run) (each_right (IsNewPass book) rest (run ∷ []) (each_of_all (IsNewPass book) (rest ++ run ∷ []) (subst (All (IsNewPass book)) last fresh))).0;
    sessions = sessions;
    workers = workers;
    run_who = ap (λ (p : Held). p.who) is_run ∙ parts.1;
    session_whos = session_whos ∙ (ap below parts.0 ∙ dealt_below n);
    worker_whos = worker_numbers people worker_whos ∙ ap (numbers_from 11) (sym (workers_dealt people worker_whos));
  }

  -- when all passes but the run's were dealt
  module _ (people : People) (yielded : List Held) (all : yielded ≡ rest) (is_run : people.run ≡ run) (dealt : AreDealt book yielded people.sessions.items people.workers.items) where
    pub people_come : ArePeople book people
    people_come =
        let new : All (IsNewPass book) yielded = subst (All (IsNewPass book)) (sym all) (all_of_each (IsNewPass book) rest (each_left (IsNewPass book) rest (run ∷ []) (each_of_all (IsNewPass book) (rest ++ run ∷ []) (subst (All (IsNewPass book)) last fresh)))) in
        people_dealt people is_run (dealt.sessions new) (dealt.workers new) (dealt.session_whos ∙ ap (λ z. below (whos_of z)) all) (dealt.worker_whos ∙ ap (λ z. above (whos_of z)) all)

    pub workers_come : length people.workers.items ≡ n
    workers_come = workers_dealt people (dealt.worker_whos ∙ ap (λ z. above (whos_of z)) all)
