-- Sessions with their lists of replies, and workers with their tallies.
use Rattle.std.proofs.Common.{◌≡◌, ℕ, zero, suc, ◌+◌, ◌<◌, ◌≤◌, List, [], ◌∷◌, All, Option, Some, length, map, refl, sym, ap, subst, arith}
use Rattle.std.specs.Prelude.{MatchOption, ⊤}
use Rattle.std.specs.List.{AllByRecursion}
use Rattle.turn_table.specs.Counting.{numbers_from}
use Rattle.doc_book.specs.declared.replies.Reply.{Reply}
use Rattle.doc_book.specs.declared.replies.Reply.TheVariants as reply
use Rattle.doc_book.specs.Replies.{after_of, made_places}
use Rattle.session_run.specs.Sessions.{ForSessions}
use Rattle.layout_worker.specs.declared.tallies.Tally.{Tally}
use Rattle.shared_book.specs.Held.{Held}
use Rattle.concurrent_run.specs.declared.elements.Session.{Session}
use Rattle.concurrent_run.specs.declared.elements.Worker.{Worker}
use Rattle.concurrent_run.specs.Beside.{ForWorkers}
use Rattle.concurrent_run.specs.Gathering.{session_pass, session_replies, worker_pass, worker_tally}
use Rattle.concurrent_run.specs.Leading.{AllBefore}
use Rattle.concurrent_run.proofs.Lists.{each_of_all}

-- a fact of each session's pass and its replies
abbrev pub Heard : (Held → List Reply → Type 0) → List Session → List (List Reply) → Type 0
Heard P [] [] = ⊤
Heard P [] (rs ∷ more) = ⊥
Heard P (s ∷ ss) [] = ⊥
Heard P (s ∷ ss) (rs ∷ more) = (s.replies ≡ Some rs) × P s.pass rs × Heard P ss more

-- the sessions that were played, where all have replies
pub heard_all : (P : Held → List Reply → Type 0) (ss : List Session) (lists : List (List Reply)) → map Some lists ≡ map session_replies ss
    → AllByRecursion (λ (s : Session). (rs : List Reply) → s.replies ≡ Some rs → P s.pass rs) ss → Heard P ss lists
heard_all P [] [] are each = tt
heard_all P [] (rs ∷ more) are each = cc
heard_all P (s ∷ ss) [] are each = cc
heard_all P (s ∷ ss) (rs ∷ more) are each =
    let here : Some rs ≡ session_replies s = cc in
    let rest : map Some more ≡ map session_replies ss = cc in
    (sym here, each.0 rs (sym here), heard_all P ss more rest each.1)

pub heard_two : (P R : Held → List Reply → Type 0) (Q : Held → Type 0) (ss : List Session) (lists : List (List Reply)) → ((p : Held) (rs : List Reply) → P p rs → Q p → R p rs)
    → Heard P ss lists → AllByRecursion (λ (s : Session). Q s.pass) ss → Heard R ss lists
heard_two P R Q [] [] step heard each = tt
heard_two P R Q [] (rs ∷ more) step heard each = absurd heard
heard_two P R Q (s ∷ ss) [] step heard each = absurd heard
heard_two P R Q (s ∷ ss) (rs ∷ more) step heard each = (heard.0, step s.pass rs heard.1 each.0, heard_two P R Q ss more step heard.2 each.1)

pub heard_each : (P : Held → List Reply → Type 0) (Q : Held → Type 0) (ss : List Session) (lists : List (List Reply)) → ((p : Held) (rs : List Reply) → P p rs → Q p)
    → Heard P ss lists → AllByRecursion (λ (s : Session). Q s.pass) ss
heard_each P Q [] [] step heard = tt
heard_each P Q [] (rs ∷ more) step heard = tt
heard_each P Q (s ∷ ss) [] step heard = absurd heard
heard_each P Q (s ∷ ss) (rs ∷ more) step heard = (step s.pass rs heard.1, heard_each P Q ss more step heard.2)

pub heard_with : (P R : Held → List Reply → Type 0) (Q : List Reply → Type 0) (ss : List Session) (lists : List (List Reply)) → ((p : Held) (rs : List Reply) → P p rs → Q rs → R p rs)
    → Heard P ss lists → AllByRecursion Q lists → Heard R ss lists
heard_with P R Q [] [] step heard each = tt
heard_with P R Q [] (rs ∷ more) step heard each = absurd heard
heard_with P R Q (s ∷ ss) [] step heard each = absurd heard
heard_with P R Q (s ∷ ss) (rs ∷ more) step heard each = (heard.0, step s.pass rs heard.1 each.0, heard_with P R Q ss more step heard.2 each.1)

pub heard_length : (P : Held → List Reply → Type 0) (ss : List Session) (lists : List (List Reply)) → Heard P ss lists → length lists ≡ length ss
heard_length P [] [] heard = refl
heard_length P [] (rs ∷ more) heard = absurd heard
heard_length P (s ∷ ss) [] heard = absurd heard
heard_length P (s ∷ ss) (rs ∷ more) heard = ap suc (heard_length P ss more heard.2)

-- by the sessions' numbers
pub for_sessions : (P : ℕ → List Reply → Type 0) (n c : ℕ) (ss : List Session) (lists : List (List Reply)) → map (λ (s : Session). (session_pass s).who) ss ≡ numbers_from n c
    → Heard (λ p rs. P p.who rs) ss lists → ForSessions n P lists
for_sessions P n c [] [] are heard = tt
for_sessions P n c [] (rs ∷ more) are heard = absurd heard
for_sessions P n c (s ∷ ss) [] are heard = tt
for_sessions P n zero (s ∷ ss) (rs ∷ more) are heard = absurd (none (map (λ (s : Session). (session_pass s).who) ss) are)
  where
    none : (xs : List ℕ) → s.pass.who ∷ xs ≡ [] → ⊥
    none xs e = cc
for_sessions P n (suc c) (s ∷ ss) (rs ∷ more) are heard =
    let here : (session_pass s).who ≡ n = cc in
    let rest : map (λ (s : Session). (session_pass s).who) ss ≡ numbers_from (n + 1) c = cc in
    (subst (λ (w : ℕ). P w rs) here heard.1, for_sessions P (n + 1) c ss more rest heard.2)

-- no reply is beyond a front that none of the sessions' is
pub heard_before : (P : Held → List Reply → Type 0) (front : ℕ) (ss : List Session) (lists : List (List Reply)) → Heard P ss lists → AllByRecursion (AllBefore front) ss
    → AllByRecursion (AllByRecursion (λ (r : Reply). after_of r ≤ front)) lists
heard_before P front [] [] heard each = tt
heard_before P front [] (rs ∷ more) heard each = absurd heard
heard_before P front (s ∷ ss) [] heard each = tt
heard_before P front (s ∷ ss) (rs ∷ more) heard each =
    (each_of_all (λ (r : Reply). after_of r ≤ front) rs (subst (λ (o : Option (List Reply)). MatchOption o ⊤ (λ rs. All (λ (r : Reply). after_of r ≤ front) rs)) heard.0 each.0), heard_before P front ss more heard.2 each.1)

-- so the places that replies name are before it
pub made_before : (front : ℕ) (rs : List Reply) → AllByRecursion (λ (r : Reply). after_of r ≤ front) rs → AllByRecursion (λ (k : ℕ). k < front) (made_places rs)
made_before front [] each = tt
made_before front (reply.Accepted place ∷ rs) each = (omega (arith, each.0), made_before front rs each.1)
made_before front (reply.Published place ∷ rs) each = (omega (arith, each.0), made_before front rs each.1)
made_before front (reply.Refused r ∷ rs) each = made_before front rs each.1
made_before front (reply.Idle now ∷ rs) each = made_before front rs each.1
made_before front (reply.Spent now ∷ rs) each = made_before front rs each.1
made_before front (reply.Stale now ∷ rs) each = made_before front rs each.1
made_before front (reply.Answer a ∷ rs) each = made_before front rs each.1

-- by the workers' numbers
pub for_workers : (P : ℕ → Tally → Type 0) (n c : ℕ) (ws : List Worker) → map (λ (w : Worker). (worker_pass w).who) ws ≡ numbers_from n c
    → AllByRecursion (λ (w : Worker). P w.pass.who w.tally) ws → ForWorkers n P (map worker_tally ws)
for_workers P n c [] are each = tt
for_workers P n zero (w ∷ ws) are each = absurd (none (map (λ (w : Worker). (worker_pass w).who) ws) are)
  where
    none : (xs : List ℕ) → w.pass.who ∷ xs ≡ [] → ⊥
    none xs e = cc
for_workers P n (suc c) (w ∷ ws) are each =
    let here : (worker_pass w).who ≡ n = cc in
    let rest : map (λ (w : Worker). (worker_pass w).who) ws ≡ numbers_from (n + 1) c = cc in
    (subst (λ (k : ℕ). P k w.tally) here each.0, for_workers P (n + 1) c ws rest each.1)
