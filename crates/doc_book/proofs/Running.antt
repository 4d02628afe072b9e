-- Runs of calls: what holds after all of them.
use Rattle.std.proofs.Common.{◌≡◌, ℕ, List, [], ◌∷◌, ◌++◌, Bool, true, false, cond, Option, Some, None, length, refl, ap, sym, ◌∙◌, subst, append_assoc, ◌==◌}
use Rattle.std.specs.Prelude.{MatchOption, ⊤, ◌&&◌, is_some}
use Rattle.std.proofs.lemmas.List.{append-nil}
use Rattle.std.proofs.lemmas.List.Elements.{filter-append}
use Rattle.doc_book.specs.declared.entries.Entry.{Entry}
use Rattle.script_text.specs.declared.scripts.Line.{Line}
use Rattle.doc_book.specs.declared.replies.Reply.{Reply}
use Rattle.doc_book.specs.declared.replies.Reply.TheVariants as reply
use Rattle.doc_book.specs.Document.{Document}
use Rattle.doc_book.specs.Events.{Event, Said, Replied, Found, Settled, Full, Memory, caller_of, line_of, seen_before, replies_in, replies_to, place_made, made_calls}
use mathlib.Core.List.{IsPrefix}
use Rattle.doc_book.specs.Law.{IsRightSaid, AreRightSaid, AreEntriesOf}
use Rattle.doc_book.specs.Legal.{IsLegal}
use Rattle.doc_book.specs.Replies.{IsRightReply, own_entries, made_places, own_places}
use Rattle.doc_book.specs.Steps.{IsRun}
use Rattle.doc_book.proofs.Growing.{IsLegal-push}
use Rattle.doc_book.proofs.Later.{IsRightReply-append, own_places-push}
use Rattle.doc_book.proofs.Stepping.{Adds, step_adds, step_right, grown}

-- ---- one call

adds_legal : (old new : Document) (call : Event) (o : Option ℕ) → MatchOption o (new ≡ old) (λ place. Adds old new place call)
    → IsLegal old.history old.budget → IsLegal new.history new.budget
adds_legal old new call None same legal = subst (λ (d : Document). IsLegal d.history d.budget) (sym same) legal
adds_legal old new call (Some place) adds legal =
    subst (λ (d : Document). IsLegal d.history d.budget) (sym adds.grows.entered) (IsLegal-push old.history old.budget adds.entry legal adds.legal)

pub adds_prefix : (old new : Document) (call : Event) (o : Option ℕ) → MatchOption o (new ≡ old) (λ place. Adds old new place call) → IsPrefix old.history new.history
adds_prefix old new call None same = ([], append-nil old.history ∙ sym (ap (λ (d : Document). d.history) same))
adds_prefix old new call (Some place) adds = (adds.entry ∷ [], sym (grown old new place adds.entry adds.grows))

pub adds_budget : (old new : Document) (call : Event) (o : Option ℕ) → MatchOption o (new ≡ old) (λ place. Adds old new place call) → new.budget ≡ old.budget
adds_budget old new call None same = ap (λ (d : Document). d.budget) same
adds_budget old new call (Some place) adds = ap (λ (d : Document). d.budget) adds.grows.entered

-- the place that an answer names, as a list of one or none
abbrev pub listed : Option ℕ → List ℕ
listed None = []
listed (Some place) = place ∷ []

pub adds_own : (old new : Document) (call : Event) (who : ℕ) (o : Option ℕ) → MatchOption o (new ≡ old) (λ place. Adds old new place call)
    → own_places new.history who ≡ own_places old.history who ++ cond (caller_of call == who) (listed o) []
adds_own old new call who None same =
    ap (λ (d : Document). own_places d.history who) same ∙ sym (append-nil (own_places old.history who)) ∙ ap (λ (ps : List ℕ). own_places old.history who ++ ps) (by (caller_of call == who))
  where
    by : (b : Bool) → [] ≡ cond {A = List ℕ} b [] []
    by true = refl
    by false = refl
adds_own old new call who (Some place) adds =
    ap (λ (h : List Entry). own_places h who) (grown old new place adds.entry adds.grows)
    ∙ own_places-push old.history adds.entry who
    ∙ ap (λ (n : ℕ). own_places old.history who ++ cond (n == who) (length old.history ∷ []) []) adds.by
    ∙ ap (λ (n : ℕ). own_places old.history who ++ cond (caller_of call == who) (n ∷ []) []) (sym adds.grows.place_is)

-- ---- runs

-- a run keeps a history legal
pub run_legal : (old new : Document) (es : List Event) (ss : List Said) → IsRun old new es ss → IsLegal old.history old.budget → IsLegal new.history new.budget
run_legal old new [] [] run legal = subst (λ (d : Document). IsLegal d.history d.budget) (sym run) legal
run_legal old new [] (s ∷ ss) run legal = absurd run
run_legal old new (e ∷ es) [] run legal = absurd run
run_legal old new (e ∷ es) (s ∷ ss) run legal =
    run_legal run.0 new es ss run.2 (adds_legal old run.0 e (place_made s) (step_adds old run.0 e s run.1) legal)

-- a run keeps the budget
pub run_budget : (old new : Document) (es : List Event) (ss : List Said) → IsRun old new es ss → new.budget ≡ old.budget
run_budget old new [] [] run = ap (λ (d : Document). d.budget) run
run_budget old new [] (s ∷ ss) run = absurd run
run_budget old new (e ∷ es) [] run = absurd run
run_budget old new (e ∷ es) (s ∷ ss) run =
    run_budget run.0 new es ss run.2 ∙ adds_budget old run.0 e (place_made s) (step_adds old run.0 e s run.1)

pub IsPrefix-trans : (a b c : List Entry) → IsPrefix a b → IsPrefix b c → IsPrefix a c
IsPrefix-trans a b c ab bc = (ab.0 ++ bc.0, sym (append_assoc a ab.0 bc.0) ∙ ap (λ (h : List Entry). h ++ bc.0) ab.1 ∙ bc.1)

-- a run takes nothing from a history
pub run_prefix : (old new : Document) (es : List Event) (ss : List Said) → IsRun old new es ss → IsPrefix old.history new.history
run_prefix old new [] [] run = ([], append-nil old.history ∙ sym (ap (λ (d : Document). d.history) run))
run_prefix old new [] (s ∷ ss) run = absurd run
run_prefix old new (e ∷ es) [] run = absurd run
run_prefix old new (e ∷ es) (s ∷ ss) run =
    IsPrefix-trans old.history run.0.history new.history (adds_prefix old run.0 e (place_made s) (step_adds old run.0 e s run.1)) (run_prefix run.0 new es ss run.2)

-- ---- own entries

pub made_in : (s : Said) → made_places (replies_in s) ≡ listed (place_made s)
made_in (Replied (reply.Accepted place)) = refl
made_in (Replied (reply.Published place)) = refl
made_in (Replied (reply.Refused r)) = refl
made_in (Replied (reply.Idle front)) = refl
made_in (Replied (reply.Spent front)) = refl
made_in (Replied (reply.Stale front)) = refl
made_in (Replied (reply.Answer a)) = refl
made_in (Found front) = refl
made_in (Settled place) = refl
made_in (Full place) = refl
made_in Memory = refl

pub made_places-append : (rs ts : List Reply) → made_places (rs ++ ts) ≡ made_places rs ++ made_places ts
made_places-append [] ts = refl
made_places-append (reply.Accepted place ∷ rs) ts = ap (λ (ps : List ℕ). place ∷ ps) (made_places-append rs ts)
made_places-append (reply.Published place ∷ rs) ts = ap (λ (ps : List ℕ). place ∷ ps) (made_places-append rs ts)
made_places-append (reply.Refused r ∷ rs) ts = made_places-append rs ts
made_places-append (reply.Idle front ∷ rs) ts = made_places-append rs ts
made_places-append (reply.Spent front ∷ rs) ts = made_places-append rs ts
made_places-append (reply.Stale front ∷ rs) ts = made_places-append rs ts
made_places-append (reply.Answer a ∷ rs) ts = made_places-append rs ts

-- the places that the replies to a caller name, one call first
made_first : (e : Event) (es : List Event) (s : Said) (ss : List Said) (who : ℕ)
    → made_places (replies_to who (e ∷ es) (s ∷ ss)) ≡ cond (caller_of e == who) (listed (place_made s)) [] ++ made_places (replies_to who es ss)
made_first e es s ss who = by (caller_of e == who)
  where
    by : (b : Bool) → made_places (cond b (replies_in s ++ replies_to who es ss) (replies_to who es ss)) ≡ cond b (listed (place_made s)) [] ++ made_places (replies_to who es ss)
    by true =
        made_places-append (replies_in s) (replies_to who es ss) ∙ ap (λ (ps : List ℕ). ps ++ made_places (replies_to who es ss)) (made_in s)
    by false = refl

-- a run adds to each caller's places those that the replies to it name, in order
pub run_own : (old new : Document) (es : List Event) (ss : List Said) (who : ℕ) → IsRun old new es ss
    → own_places new.history who ≡ own_places old.history who ++ made_places (replies_to who es ss)
run_own old new [] [] who run = ap (λ (d : Document). own_places d.history who) run ∙ sym (append-nil (own_places old.history who))
run_own old new [] (s ∷ ss) who run = absurd run
run_own old new (e ∷ es) [] who run = absurd run
run_own old new (e ∷ es) (s ∷ ss) who run =
    run_own run.0 new es ss who run.2
    ∙ ap (λ (ps : List ℕ). ps ++ made_places (replies_to who es ss)) (adds_own old run.0 e who (place_made s) (step_adds old run.0 e s run.1))
    ∙ append_assoc (own_places old.history who) (cond (caller_of e == who) (listed (place_made s)) []) (made_places (replies_to who es ss))
    ∙ ap (λ (ps : List ℕ). own_places old.history who ++ ps) (sym (made_first e es s ss who))

-- the own entries of a caller after one more entry
pub own_entries-push : (h : List Entry) (e : Entry) (who : ℕ) → own_entries (h ++ e ∷ []) who ≡ own_entries h who ++ cond (e.who == who) (e ∷ []) []
own_entries-push h e who = filter-append (λ (x : Entry). x.who == who) h (e ∷ [])

-- further entries of a caller, those that these calls make
pub record GainsOwn (old new : List Entry) (who : ℕ) (calls : List Event) : Type 0 where
  pub more : List Entry
  pub own : own_entries new who ≡ own_entries old who ++ more
  pub asked : AreEntriesOf calls more

pub AreEntriesOf-append : (cs ds : List Event) (es fs : List Entry) → AreEntriesOf cs es → AreEntriesOf ds fs → AreEntriesOf (cs ++ ds) (es ++ fs)
AreEntriesOf-append [] ds [] fs left right = right
AreEntriesOf-append [] ds (e ∷ es) fs left right = absurd left
AreEntriesOf-append (c ∷ cs) ds [] fs left right = absurd left
AreEntriesOf-append (c ∷ cs) ds (e ∷ es) fs left right = (left.0, AreEntriesOf-append cs ds es fs left.1 right)

GainsOwn-then : (a b c : List Entry) (who : ℕ) (cs ds : List Event) → GainsOwn a b who cs → GainsOwn b c who ds → GainsOwn a c who (cs ++ ds)
GainsOwn-then a b c who cs ds ab bc = record {
  more = ab.more ++ bc.more;
  own = bc.own ∙ ap (λ (es : List Entry). es ++ bc.more) ab.own ∙ append_assoc (own_entries a who) ab.more bc.more;
  asked = AreEntriesOf-append cs ds ab.more bc.more ab.asked bc.asked;
}

adds_entries : (old new : Document) (call : Event) (who : ℕ) (o : Option ℕ) → MatchOption o (new ≡ old) (λ place. Adds old new place call)
    → GainsOwn old.history new.history who (cond ((caller_of call == who) && is_some o) (call ∷ []) [])
adds_entries old new call who None same = record {
  more = [];
  own = ap (λ (d : Document). own_entries d.history who) same ∙ sym (append-nil (own_entries old.history who));
  asked = by (caller_of call == who);
}
  where
    by : (b : Bool) → AreEntriesOf (cond (b && false) (call ∷ []) []) []
    by true = tt
    by false = tt
adds_entries old new call who (Some place) adds = record {
  more = cond (caller_of call == who) (adds.entry ∷ []) [];
  own =
      ap (λ (h : List Entry). own_entries h who) (grown old new place adds.entry adds.grows)
      ∙ own_entries-push old.history adds.entry who
      ∙ ap (λ (n : ℕ). own_entries old.history who ++ cond (n == who) (adds.entry ∷ []) []) adds.by;
  asked = by (caller_of call == who);
}
  where
    by : (b : Bool) → AreEntriesOf (cond (b && true) (call ∷ []) []) (cond b (adds.entry ∷ []) [])
    by true = (adds.asked, tt)
    by false = tt

made_calls-first : (e : Event) (es : List Event) (s : Said) (ss : List Said) (who : ℕ)
    → made_calls who (e ∷ es) (s ∷ ss) ≡ cond ((caller_of e == who) && is_some (place_made s)) (e ∷ []) [] ++ made_calls who es ss
made_calls-first e es s ss who = by ((caller_of e == who) && is_some (place_made s))
  where
    by : (b : Bool) → cond b (e ∷ made_calls who es ss) (made_calls who es ss) ≡ cond b (e ∷ []) [] ++ made_calls who es ss
    by true = refl
    by false = refl

-- a run adds to each caller's entries those that its calls made, in order
pub run_entries : (old new : Document) (es : List Event) (ss : List Said) (who : ℕ) → IsRun old new es ss → GainsOwn old.history new.history who (made_calls who es ss)
run_entries old new [] [] who run =
    record { more = []; own = ap (λ (d : Document). own_entries d.history who) run ∙ sym (append-nil (own_entries old.history who)); asked = tt }
run_entries old new [] (s ∷ ss) who run = absurd run
run_entries old new (e ∷ es) [] who run = absurd run
run_entries old new (e ∷ es) (s ∷ ss) who run =
    subst (GainsOwn old.history new.history who) (sym (made_calls-first e es s ss who))
    (GainsOwn-then old.history run.0.history new.history who (cond ((caller_of e == who) && is_some (place_made s)) (e ∷ []) []) (made_calls who es ss)
    (adds_entries old run.0 e who (place_made s) (step_adds old run.0 e s run.1))
    (run_entries run.0 new es ss who run.2))

-- ---- right replies

pub IsRightSaid-append : (h more : List Entry) (budget : ℕ) (e : Event) (s : Said) → IsRightSaid h budget e s → IsRightSaid (h ++ more) budget e s
IsRightSaid-append h more budget e (Replied r) is = by (line_of e) is
  where
    by : (o : Option Line) → MatchOption o ⊤ (λ line. IsRightReply h budget (caller_of e) (seen_before e) line r)
        → MatchOption o ⊤ (λ line. IsRightReply (h ++ more) budget (caller_of e) (seen_before e) line r)
    by None right = tt
    by (Some line) right = IsRightReply-append h more budget (caller_of e) (seen_before e) line r right
IsRightSaid-append h more budget e _ is = tt

-- the answers of a run are right at the history behind it
pub run_right : (old new : Document) (es : List Event) (ss : List Said) → IsRun old new es ss → AreRightSaid new.history old.budget es ss
run_right old new [] [] run = tt
run_right old new [] (s ∷ ss) run = absurd run
run_right old new (e ∷ es) [] run = absurd run
run_right old new (e ∷ es) (s ∷ ss) run =
    let grows = run_prefix run.0 new es ss run.2 in
    let adds = step_adds old run.0 e s run.1 in (
      subst (λ (h : List Entry). IsRightSaid h old.budget e s) grows.1 (IsRightSaid-append run.0.history grows.0 old.budget e s (step_right old run.0 e s run.1)),
      subst (λ (b : ℕ). AreRightSaid new.history b es ss) (adds_budget old run.0 e (place_made s) adds) (run_right run.0 new es ss run.2),
    )
