-- Right replies and own entries, as more entries come after them.
use Rattle.std.proofs.Common.{◌≡◌, ◌≢◌, ℕ, zero, suc, ◌<◌, ◌≤◌, List, [], ◌∷◌, ◌++◌, map, Bool, true, false, cond, Some, None, length, take, refl, ap, sym, ◌∙◌, subst, arith, ◌==◌, ◌+◌, slice_get, append_assoc}
use Rattle.std.specs.List.{AllByRecursion}
use Rattle.std.proofs.lemmas.List.{append-nil, take-append-le, length-append}
use Rattle.std.proofs.lemmas.List.Elements.{filter-append}
use Rattle.std.proofs.lemmas.Option.{slice_get_within}
use Rattle.edit_rules.specs.declared.refusals.Refusal.{Refusal}
use Rattle.script_text.specs.declared.scripts.Command.{Command}
use Rattle.script_text.specs.declared.scripts.Command.TheVariants as command
use Rattle.script_text.specs.declared.scripts.Line.{Line}
use Rattle.doc_book.specs.declared.entries.Entry.{Entry}
use Rattle.doc_book.specs.declared.entries.Act.{Act}
use Rattle.doc_book.specs.declared.replies.Reply.{Reply}
use Rattle.doc_book.specs.declared.replies.Reply.TheVariants as reply
use Rattle.doc_book.specs.History.{scene_at}
use Rattle.doc_book.specs.Spots.{ask_refusal}
use Rattle.doc_book.specs.Verdicts.{IsVerdict, undo_verdict}
use Rattle.doc_book.specs.Replies.{own_places, own_places_from, Ending, Spent, Idle, Job, IsLook, IsEntryAt, IsFrameAct, IsAccepted, IsRefused, IsAnswered, IsRightReply, AreRightReplies, OwnEntriesAre, own_entries, made_places, after_of}

-- ---- an element, and the front of a list

pub slice_get-append : {X : Type 0} (xs ys : List X) (k : ℕ) (x : X) → slice_get xs k ≡ Some x → slice_get (xs ++ ys) k ≡ Some x
slice_get-append [] ys k x e = cc
slice_get-append (y ∷ xs) ys zero x e = e
slice_get-append (y ∷ xs) ys (suc k) x e = slice_get-append xs ys k x e

pub front-same : {X : Type 0} (xs ys : List X) (n : ℕ) → n ≤ length xs → take n xs ≡ take n (xs ++ ys)
front-same xs ys n le = sym (take-append-le n xs ys le)

longer : {X : Type 0} (xs ys : List X) (n : ℕ) → n ≤ length xs → n ≤ length (xs ++ ys)
longer xs ys n le = omega (arith, length-append xs ys)

-- ---- right replies

IsEntryAt-append : (h more : List Entry) (place who line : ℕ) (P : Act → Type 0) → IsEntryAt h place who line P → IsEntryAt (h ++ more) place who line P
IsEntryAt-append h more place who line P at = (at.0, slice_get-append h more place at.0 at.1, at.2, at.3, at.4)

IsAccepted-append : (h more : List Entry) (who line place : ℕ) (c : Command) → IsAccepted h who line place c → IsAccepted (h ++ more) who line place c
IsAccepted-append h more who line place (command.Edit e) is =
    let within : place < length h = slice_get_within h place is.0.0 is.0.1 in
    (IsEntryAt-append h more place who line _ is.0, subst (λ (t : List Entry). IsVerdict t e None) (front-same h more place (omega arith)) is.1)
IsAccepted-append h more who line place command.Undo is =
    let within : place < length h = slice_get_within h place is.0.0 is.0.1 in
    (IsEntryAt-append h more place who line _ is.0, subst (λ (t : List Entry). undo_verdict t ≡ None) (front-same h more place (omega arith)) is.1)
IsAccepted-append h more who line place command.Layout is = is
IsAccepted-append h more who line place (command.Where name) is = is

IsRefused-append : (h more : List Entry) (budget front : ℕ) (r : Refusal) (c : Command) → front ≤ length h → IsRefused h budget front r c → IsRefused (h ++ more) budget front r c
IsRefused-append h more budget front r (command.Edit e) le is = subst (λ (t : List Entry). IsVerdict t e (Some r)) (front-same h more front le) is
IsRefused-append h more budget front r command.Undo le is = subst (λ (t : List Entry). undo_verdict t ≡ Some r) (front-same h more front le) is
IsRefused-append h more budget front r command.Layout le is =
    (is.0, is.1, subst (λ (t : List Entry). IsLook t budget (Ending is.0)) (front-same h more front le) is.2)
IsRefused-append h more budget front r (command.Where name) le is = subst (λ (t : List Entry). ask_refusal (scene_at t) name ≡ Some r) (front-same h more front le) is

-- a right reply stays right as further entries come
pub IsRightReply-append : (h more : List Entry) (budget who seen : ℕ) (line : Line) (r : Reply) → IsRightReply h budget who seen line r → IsRightReply (h ++ more) budget who seen line r
IsRightReply-append h more budget who seen line (reply.Accepted place) is = IsAccepted-append h more who line.number place line.command is
IsRightReply-append h more budget who seen line (reply.Published place) is = (is.0, IsEntryAt-append h more place who line.number IsFrameAct is.1)
IsRightReply-append h more budget who seen line (reply.Refused r) is =
    (longer h more r.front is.0, IsRefused-append h more budget r.front r.refusal line.command is.0 is.1)
IsRightReply-append h more budget who seen line (reply.Idle front) is =
    (longer h more front is.0, is.1, subst (λ (t : List Entry). IsLook t budget Idle) (front-same h more front is.0) is.2)
IsRightReply-append h more budget who seen line (reply.Spent front) is =
    (longer h more front is.0, is.1, subst (λ (t : List Entry). IsLook t budget Spent) (front-same h more front is.0) is.2)
IsRightReply-append h more budget who seen line (reply.Stale now) is =
    let made : (front : ℕ) × (front < now) × (seen ≤ front) × IsLook (take front h) budget Job = is.2 in
    (longer h more now is.0, is.1, (made.0, made.1, made.2, subst (λ (t : List Entry). IsLook t budget Job) (front-same h more made.0 (omega (arith, made.1, is.0))) made.3))
IsRightReply-append h more budget who seen line (reply.Answer a) is =
    (longer h more a.front is.0, subst (λ (t : List Entry). IsAnswered t a.spot line.command) (front-same h more a.front is.0) is.1)

-- right replies stay right as further entries come
pub AreRightReplies-append : (h more : List Entry) (budget who seen : ℕ) (lines : List Line) (replies : List Reply) → AreRightReplies h budget who seen lines replies → AreRightReplies (h ++ more) budget who seen lines replies
AreRightReplies-append h more budget who seen [] [] are = are
AreRightReplies-append h more budget who seen [] (r ∷ rs) are = are
AreRightReplies-append h more budget who seen (l ∷ ls) [] are = are
AreRightReplies-append h more budget who seen (l ∷ ls) (r ∷ rs) are =
    (IsRightReply-append h more budget who seen l r are.0, are.1, AreRightReplies-append h more budget who (after_of r) ls rs are.2)

-- ---- own entries

pub own_entries-others : (more : List Entry) (who : ℕ) → AllByRecursion (λ (e : Entry). e.who ≢ who) more → own_entries more who ≡ []
own_entries-others [] who others = refl
own_entries-others (e ∷ es) who others = by (e.who == who) (differs e.who who others.0) (own_entries-others es who others.1)
  where
    by : (b : Bool) → b ≡ false → own_entries es who ≡ [] → cond b (e ∷ own_entries es who) (own_entries es who) ≡ []
    by true other none = cc
    by false other none = none

    differs : (m n : ℕ) → m ≢ n → (m == n) ≡ false
    differs m n other = grind arith

-- the elements at places within a list stay as it grows
pub elements-append : (h more own : List Entry) (places : List ℕ) → map Some own ≡ map (slice_get h) places → map Some own ≡ map (slice_get (h ++ more)) places
elements-append h more [] [] same = refl
elements-append h more [] (p ∷ ps) same = cc
elements-append h more (o ∷ os) [] same = cc
elements-append h more (o ∷ os) (p ∷ ps) same =
    let here : Some o ≡ slice_get h p = cc in
    let rest : map Some os ≡ map (slice_get h) ps = cc in
    let first : slice_get (h ++ more) p ≡ Some o = slice_get-append h more p o (sym here) in
    let others : map Some os ≡ map (slice_get (h ++ more)) ps = elements-append h more os ps rest in
    cc

-- the own entries of a caller stay as entries of others come
pub OwnEntriesAre-append : (h more : List Entry) (who : ℕ) (replies : List Reply) → AllByRecursion (λ (e : Entry). e.who ≢ who) more → OwnEntriesAre h who replies → OwnEntriesAre (h ++ more) who replies
OwnEntriesAre-append h more who replies others are =
    let split : own_entries (h ++ more) who ≡ own_entries h who ++ own_entries more who = filter-append _ h more in
    let same : own_entries (h ++ more) who ≡ own_entries h who =
    split ∙ ap (λ (es : List Entry). own_entries h who ++ es) (own_entries-others more who others) ∙ append-nil (own_entries h who) in
    ap (map Some) same ∙ elements-append h more (own_entries h who) (made_places replies) are

-- the same where the run itself made the further entries
pub OwnEntriesAre-append_run : (h more : List Entry) (who : ℕ) (replies : List Reply) → 1 ≤ who → AllByRecursion (λ (e : Entry). e.who ≡ 0) more → OwnEntriesAre h who replies → OwnEntriesAre (h ++ more) who replies
OwnEntriesAre-append_run h more who replies session run are = OwnEntriesAre-append h more who replies (all more run) are
  where
    all : (es : List Entry) → AllByRecursion (λ (e : Entry). e.who ≡ 0) es → AllByRecursion (λ (e : Entry). e.who ≢ who) es
    all [] of = of
    all (e ∷ es) of = ((λ same. omega (arith, of.0)), all es of.1)

-- ---- the places of own entries

own_places_from-push : (first : ℕ) (h : List Entry) (e : Entry) (who : ℕ)
    → own_places_from first (h ++ e ∷ []) who ≡ own_places_from first h who ++ cond (e.who == who) ((first + length h) ∷ []) []
own_places_from-push first [] e who = by (e.who == who) first (omega arith)
  where
    by : (b : Bool) (n : ℕ) → n ≡ first + 0 → cond b (n ∷ []) [] ≡ [] ++ cond b ((first + 0) ∷ []) []
    by true n is = ap (λ (k : ℕ). k ∷ []) is
    by false n is = refl
own_places_from-push first (x ∷ xs) e who = by (x.who == who) (own_places_from-push (first + 1) xs e who ∙ ap (λ (k : ℕ). own_places_from (first + 1) xs who ++ cond (e.who == who) (k ∷ []) []) (omega arith))
  where
    by : (b : Bool) → own_places_from (first + 1) (xs ++ e ∷ []) who ≡ own_places_from (first + 1) xs who ++ cond (e.who == who) ((first + suc (length xs)) ∷ []) []
        → cond b (first ∷ own_places_from (first + 1) (xs ++ e ∷ []) who) (own_places_from (first + 1) (xs ++ e ∷ []) who)
        ≡ cond b (first ∷ own_places_from (first + 1) xs who) (own_places_from (first + 1) xs who) ++ cond (e.who == who) ((first + suc (length xs)) ∷ []) []
    by true rest = ap (λ (ps : List ℕ). first ∷ ps) rest
    by false rest = rest

-- the places of a caller's entries after one more entry
pub own_places-push : (h : List Entry) (e : Entry) (who : ℕ) → own_places (h ++ e ∷ []) who ≡ own_places h who ++ cond (e.who == who) (length h ∷ []) []
own_places-push h e who = own_places_from-push 0 h e who ∙ ap (λ (k : ℕ). own_places h who ++ cond (e.who == who) (k ∷ []) []) (omega arith)

-- the entry at the end of the first part of a list
pub slice_get-at : {X : Type 0} (before : List X) (x : X) (behind : List X) (k : ℕ) → k ≡ length before → slice_get (before ++ x ∷ behind) k ≡ Some x
slice_get-at [] x behind zero is = refl
slice_get-at [] x behind (suc k) is = absurd (omega (arith, is))
slice_get-at (y ∷ ys) x behind zero is = absurd (omega (arith, is))
slice_get-at (y ∷ ys) x behind (suc k) is = slice_get-at ys x behind k (omega (arith, is))

own_entries-places_from : (before es : List Entry) (who first : ℕ) → first ≡ length before
    → map Some (own_entries es who) ≡ map (slice_get (before ++ es)) (own_places_from first es who)
own_entries-places_from before [] who first is = refl
own_entries-places_from before (e ∷ es) who first is =
    by (e.who == who)
    (own_entries-places_from (before ++ e ∷ []) es who (first + 1) (omega (arith, is, length-append before (e ∷ [])))
    ∙ ap (λ (h : List Entry). map (slice_get h) (own_places_from (first + 1) es who)) (append_assoc before (e ∷ []) es))
  where
    by : (b : Bool) → map Some (own_entries es who) ≡ map (slice_get (before ++ e ∷ es)) (own_places_from (first + 1) es who)
        → map Some (cond b (e ∷ own_entries es who) (own_entries es who))
        ≡ map (slice_get (before ++ e ∷ es)) (cond b (first ∷ own_places_from (first + 1) es who) (own_places_from (first + 1) es who))
    by true same = let here : slice_get (before ++ e ∷ es) first ≡ Some e = slice_get-at before e es first is in cc
    by false same = same

-- the entries of a caller are those at its places
pub own_entries-places : (h : List Entry) (who : ℕ) → map Some (own_entries h who) ≡ map (slice_get h) (own_places h who)
own_entries-places h who = own_entries-places_from [] h who 0 refl

-- where replies name the places of a caller's entries, its entries are those that the replies name
pub OwnEntriesAre-places : (h : List Entry) (who : ℕ) (replies : List Reply) → own_places h who ≡ made_places replies → OwnEntriesAre h who replies
OwnEntriesAre-places h who replies same = own_entries-places h who ∙ ap (map (slice_get h)) same
