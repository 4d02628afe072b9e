-- Turns of the run's pass.
use Rattle.std.proofs.Common.{◌≡◌, ℕ, ◌≤◌, List, [], ◌∷◌, ◌++◌, All, Some, length, take, refl, sym, ap, ◌∙◌, subst, arith, slice_get, inl, inr, append_assoc}
use Rattle.std.specs.Prelude.{MatchBool, Result, Ok, Err}
use Rattle.std.specs.List.{AllByRecursion}
use Rattle.std.proofs.lemmas.List.{append-nil, length-append}
use Rattle.std.proofs.lemmas.List.Elements.{All-weaker}
use Rattle.std.proofs.Math.Seq.{take-append_seam}
use mathlib.Core.List.{IsPrefix}
use Rattle.scene_model.specs.Names.{NameOf}
use Rattle.turn_table.specs.States.{Opened}
use Rattle.doc_book.specs.declared.asking.Answer.{Answer}
use Rattle.doc_book.specs.declared.desks.Terms.{Terms}
use Rattle.doc_book.specs.declared.entries.Entry.{Entry}
use Rattle.doc_book.specs.declared.entries.Act.TheVariants as act
use Rattle.doc_book.specs.declared.replies.Refused.{Refused}
use Rattle.doc_book.specs.Calls.{IsEntered, IsAsked}
use Rattle.doc_book.specs.Document.{Document}
use Rattle.doc_book.specs.Events.{Ends}
use Rattle.doc_book.specs.Growing.{entry_of}
use Rattle.doc_book.specs.History.{end_place}
use Rattle.doc_book.specs.Turns.{Turned, placed}
use Rattle.doc_book.proofs.Growing.{end_place-push_end}
use Rattle.doc_book.proofs.Later.{slice_get-at}
use Rattle.session_run.proofs.Elements.{all-then}
use Rattle.shared_book.specs.Held.{Held}
use Rattle.concurrent_run.specs.declared.elements.Session.{Session}
use Rattle.concurrent_run.specs.Leading.{asked_front, end_stands, is_ended, WentOn, IsEndAt, IsEnded, IsLed, AllBefore}
use Rattle.concurrent_run.proofs.Latest.{before_later}

pub prefix_length : (xs ys : List Entry) → IsPrefix xs ys → length xs ≤ length ys
prefix_length xs ys p = let long = length-append xs p.0 in let whole = ap length p.1 in omega (arith, long, whole)

pub prefix_trans : (xs ys zs : List Entry) → IsPrefix xs ys → IsPrefix ys zs → IsPrefix xs zs
prefix_trans xs ys zs p q = (p.0 ++ q.0, sym (append_assoc xs p.0 q.0) ∙ (ap (λ z. z ++ q.0) p.1 ∙ q.1))

pub went_on : (book : Opened Entry Terms) (a b c : Held) → WentOn book a b → WentOn book b c → WentOn book a c
went_on book a b c p q = record { table = q.table; who = q.who ∙ p.who; begins = prefix_trans a.seen b.seen c.seen p.begins q.begins }

pub went_nowhere : (book : Opened Entry Terms) (a : Held) → a.table ≡ Some book → WentOn book a a
went_nowhere book a of = record { table = of; who = refl; begins = ([], append-nil a.seen) }

-- ---- a question

asked_same : (o n : Document) (name : NameOf) (r : Result Answer Refused) → IsAsked o name r → n ≡ o → asked_front r ≡ length n.history
asked_same o n name (Ok a) is same = is.1.front_is ∙ ap (λ (d : Document). length d.history) (sym same)
asked_same o n name (Err r) is same = is.1.front_is ∙ ap (λ (d : Document). length d.history) (sym same)

module _ (book : Opened Entry Terms) (old new : Held) (name : NameOf) (r : Result Answer Refused) (of : old.table ≡ Some book) (same : (new.table ≡ old.table) × (new.who ≡ old.who))
    (t : Turned book.terms.frames (λ o n. IsAsked o name r × (n ≡ o)) old.seen new.seen old.own new.own []) where
  pub asked_seen : asked_front r ≡ length new.seen
  asked_seen = asked_same (record { history = t.before; budget = book.terms.frames }) (record { history = new.seen; budget = book.terms.frames }) name r t.answer.0 t.answer.1

  pub asked_went : WentOn book old new
  asked_went = record {
    table = same.0 ∙ of;
    who = same.1;
    begins = subst (λ z. IsPrefix old.seen z) (sym (ap (λ (d : Document). d.history) t.answer.1)) t.begins;
  }

  pub asked_own : new.own ≡ old.own
  asked_own = t.owned ∙ append-nil old.own

-- ---- End

entered_begins : (budget : ℕ) (seen : List Entry) (o n : Document) (r : Result ℕ Refused) → IsEntered o n Ends r → IsPrefix seen o.history → IsPrefix seen n.history
entered_begins budget seen o n (Ok place) is p =
    (p.0 ++ entry_of 0 0 act.End ∷ [], sym (append_assoc seen p.0 (entry_of 0 0 act.End ∷ [])) ∙ (ap (λ z. z ++ entry_of 0 0 act.End ∷ []) p.1 ∙ sym (ap (λ (d : Document). d.history) is.1.entered)))
entered_begins budget seen o n (Err r) (inl is) p = subst (λ z. IsPrefix seen z) (sym (ap (λ (d : Document). d.history) is.1.same)) p
entered_begins budget seen o n (Err r) (inr is) p = subst (λ z. IsPrefix seen z) (sym (ap (λ (d : Document). d.history) is.0.1)) p

pub entered_went : (book : Opened Entry Terms) (old new : Held) (r : Result ℕ Refused) → old.table ≡ Some book → (new.table ≡ old.table) × (new.who ≡ old.who)
    → Turned book.terms.frames (λ o n. IsEntered o n Ends r) old.seen new.seen old.own new.own (placed r) → WentOn book old new
entered_went book old new r of same t = record {
  table = same.0 ∙ of;
  who = same.1;
  begins = entered_begins book.terms.frames old.seen (record { history = t.before; budget = book.terms.frames }) (record { history = new.seen; budget = book.terms.frames }) r t.answer t.begins;
}

pub entered_ended : (budget : ℕ) (old new : Held) (r : Result ℕ Refused)
    → Turned budget (λ o n. IsEntered o n Ends r) old.seen new.seen old.own new.own (placed r) → MatchBool (end_stands r) (IsEnded old new) (new.own ≡ old.own)
entered_ended budget old new (Ok place) t =
    let e : new.seen ≡ t.before ++ entry_of 0 0 act.End ∷ [] = ap (λ (d : Document). d.history) t.answer.1.entered in
    let at : place ≡ length t.before = t.answer.1.place_is in
    let first : take place new.seen ≡ t.before = ap (λ n. take n new.seen) at ∙ (ap (take (length t.before)) e ∙ take-append_seam t.before (entry_of 0 0 act.End ∷ [])) in
    let stands : slice_get new.seen place ≡ Some (entry_of 0 0 act.End) = subst (λ z. slice_get z place ≡ Some (entry_of 0 0 act.End)) (sym e) (slice_get-at t.before (entry_of 0 0 act.End) [] place at) in
    let long = prefix_length old.seen t.before t.begins in record {
      place = length t.before;
      ended = ap end_place e ∙ end_place-push_end t.before (entry_of 0 0 act.End) t.answer.0 refl;
      mine = place ∷ [];
      own = t.owned;
      ends = ((record { stands = (entry_of 0 0 act.End, stands, refl, refl, refl); first = ap end_place first ∙ t.answer.0 }, omega (arith, long, at)), tt);
    }
entered_ended budget old new (Err r) t = by t.answer
  where
    by : IsEntered (record { history = t.before; budget = budget }) (record { history = new.seen; budget = budget }) Ends (Err r) → MatchBool (is_ended r.refusal) (IsEnded old new) (new.own ≡ old.own)
    by (inl is) = subst (λ b. MatchBool b (IsEnded old new) (new.own ≡ old.own)) (sym (ap is_ended is.0.1)) (record {
      place = is.0.0;
      ended = ap (λ (d : Document). end_place d.history) is.1.same ∙ is.0.2;
      mine = [];
      own = t.owned;
      ends = tt;
    })
    by (inr is) = subst (λ b. MatchBool b (IsEnded old new) (new.own ≡ old.own)) (sym (ap (λ (x : Refused). is_ended x.refusal) is.1)) (t.owned ∙ append-nil old.own)

-- after turns in which nothing became own
pub ended_behind : (book : Opened Entry Terms) (a b c : Held) → WentOn book a b → b.own ≡ a.own → IsEnded b c → IsEnded a c
ended_behind book a b c went own e = record {
  place = e.place;
  ended = e.ended;
  mine = e.mine;
  own = e.own ∙ ap (λ z. z ++ e.mine) own;
  ends = all-then (λ p. IsEndAt c.seen p × (length b.seen ≤ p)) (λ p. IsEndAt c.seen p × (length a.seen ≤ p)) e.mine (λ p x. (x.0, let long = prefix_length a.seen b.seen went.begins in omega (arith, long, x.1))) e.ends;
}

-- ---- all of it

pub led : (book : Opened Entry Terms) (old mid new : Held) (sessions : List Session) (front : ℕ) → old.own ≡ [] → WentOn book old mid → mid.own ≡ old.own → front ≤ length mid.seen → All (AllBefore front) sessions
    → WentOn book mid new → IsEnded mid new → IsLed book old new sessions
led book old mid new sessions front none went own far before went' e = record {
  table = went'.table;
  who = went'.who ∙ went.who;
  place = e.place;
  ended = e.ended;
  ends = subst (AllByRecursion (λ p. IsEndAt new.seen p × All (AllBefore p) sessions)) (sym (e.own ∙ ap (λ z. z ++ e.mine) (own ∙ none)))
      (all-then (λ p. IsEndAt new.seen p × (length mid.seen ≤ p)) (λ p. IsEndAt new.seen p × All (AllBefore p) sessions) e.mine
      (λ p x. (x.0, All-weaker (AllBefore front) (AllBefore p) (λ s b. before_later front p s (omega (arith, far, x.1)) b) sessions before)) e.ends);
}
