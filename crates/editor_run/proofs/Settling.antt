-- Finishing frames, until the document is finished.
use Rattle.std.proofs.Common.{◌≡◌, ◌+◌, ◌<◌, ◌≤◌, ◌⊎◌, inl, inr, ℕ, List, [], ◌∷◌, ◌++◌, Bool, true, false, cond, Option, Some, None, length, take, zero, suc, refl, ap, sym, ◌∙◌, subst, arith, append_assoc}
use Rattle.std.specs.Prelude.{IsSome}
use Rattle.std.specs.List.{AllByRecursion}
use Rattle.std.proofs.lemmas.List.{length-append, append-nil, take-append-le}
use Rattle.std.proofs.Math.Seq.{take-length}
use Rattle.std.proofs.lemmas.Bool.{cases_lt, false≢true}
use Rattle.std.specs.Option.{is_some}
use Rattle.doc_book.specs.declared.entries.Entry.{Entry}
use Rattle.doc_book.specs.declared.entries.Act.{Act}
use Rattle.doc_book.specs.declared.entries.Act.TheVariants as act
use Rattle.doc_book.specs.Document.{Document}
use Rattle.doc_book.specs.Finished.{IsFinished, IsFinishing}
use Rattle.doc_book.specs.Legal.{most_finishing}
use Rattle.doc_book.specs.History.{end_place, after_end, is_end, is_end_act, is_frame_act, IsSettled}
use Rattle.doc_book.proofs.Growing.{end_place-push_none, end_place-push_some, after_end-push_some}
use Rattle.editor_run.specs.Finishing.{GrowsOnce, GrowsByFinishing}
use Rattle.session_run.proofs.Elements.{all-push}

-- a history behind a start that was just ended, with finishing frames alone, of which none but the last may settle it
pub record FinishesFrom (start h : Document) : Type 0 where
  pub grows : GrowsByFinishing start h
  pub ended : IsSome (end_place h.history)
  pub behind : after_end h.history ≡ grows.more
  pub few : length grows.more ≤ most_finishing
  pub unsettled : (n : ℕ) → n < length h.history → 0 < length (after_end (take n h.history)) → IsSettled (take n h.history) → ⊥

none≢some : (k : ℕ) → None ≡ Some k → ⊥
none≢some k e = cc

take-nil : (n : ℕ) → take {A = Entry} n [] ≡ []
take-nil zero = refl
take-nil (suc n) = refl

frame_not_end : (a : Act) → is_frame_act a ≡ true → is_end_act a ≡ false
frame_not_end (act.Edit e) h = cc
frame_not_end act.Undo h = cc
frame_not_end (act.Frame f) h = refl
frame_not_end act.End h = cc

some_of : {A : Type 0} (o : Option A) → IsSome o → (x : A) × (o ≡ Some x)
some_of None s = absurd (false≢true s)
some_of (Some x) s = (x, refl)

is_some_of : {A : Type 0} (o : Option A) (x : A) → o ≡ Some x → IsSome o
is_some_of o x e = ap is_some e

-- a settled history that was ended has a frame after End
pub settled_after_end : (h : List Entry) (k : ℕ) → end_place h ≡ Some k → IsSettled h → 0 < length (after_end h)
settled_after_end h k at s = by (end_place s.before) refl
  where
    by : (o : Option ℕ) → end_place s.before ≡ o → 0 < length (after_end h)
    by None is = let open_history = end_place-push_none s.before s.last is (frame_not_end s.last.act s.frame) in let clash : None ≡ Some k = sym open_history ∙ (ap end_place (sym s.split) ∙ at) in absurd (none≢some k clash)
    by (Some j) is = let behind = ap length (ap after_end s.split ∙ after_end-push_some s.before s.last j is) in let longer = length-append (after_end s.before) (s.last ∷ []) in omega (arith, behind, longer)

-- where nothing stands after End, nothing does earlier
after_end-take : (h : List Entry) (n : ℕ) → after_end h ≡ [] → after_end (take n h) ≡ []
after_end-take [] n none = ap after_end (take-nil n)
after_end-take (e ∷ es) zero none = refl
after_end-take (e ∷ es) (suc n) none = by (is_end e) none (λ rest. after_end-take es n rest)
  where
    by : (b : Bool) → cond b es (after_end es) ≡ [] → (after_end es ≡ [] → after_end (take n es) ≡ []) → cond b (take n es) (after_end (take n es)) ≡ []
    by true none rest = ap (λ (es : List Entry). take n es) none ∙ take-nil n
    by false none rest = rest none

pub FinishesFrom-start : (d : Document) → IsSome (end_place d.history) → after_end d.history ≡ [] → FinishesFrom d d
FinishesFrom-start d ended none = record {
  grows = record { more = []; finishing = tt; grown = sym (append-nil d.history); budget = refl };
  ended = ended;
  behind = none;
  few = omega arith;
  unsettled = λ n below some settled. absurd (omega (arith, some, ap length (after_end-take d.history n none)));
}

pub FinishesFrom-once : (start d d' : Document) → FinishesFrom start d → GrowsOnce d d' → FinishesFrom start d'
FinishesFrom-once start d d' f g =
    let place = some_of (end_place d.history) f.ended in
    let longer = length-append f.grows.more (g.frame ∷ []) in
    record {
      grows = record {
        more = f.grows.more ++ g.frame ∷ [];
        finishing = all-push IsFinishing f.grows.more g.frame f.grows.finishing g.finishing;
        grown = g.grown ∙ (ap (λ h. h ++ g.frame ∷ []) f.grows.grown ∙ append_assoc start.history f.grows.more (g.frame ∷ []));
        budget = g.budget ∙ f.grows.budget;
      };
      ended = is_some_of (end_place d'.history) place.0 (ap end_place g.grown ∙ end_place-push_some d.history g.frame place.0 place.1);
      behind = ap after_end g.grown ∙ (after_end-push_some d.history g.frame place.0 place.1 ∙ ap (λ h. h ++ g.frame ∷ []) f.behind);
      few = omega (arith, g.room, ap length f.behind, longer);
      unsettled = λ n below some settled. by n (cases_lt n (length d.history)) below some settled;
    }
  where
    earlier : (n : ℕ) → n ≤ length d.history → take n d'.history ≡ take n d.history
    earlier n le = ap (take n) g.grown ∙ take-append-le n d.history (g.frame ∷ []) le

    by : (n : ℕ) → (n < length d.history) ⊎ (length d.history ≤ n) → n < length d'.history → 0 < length (after_end (take n d'.history)) → IsSettled (take n d'.history) → ⊥
    by n (inl less) below some settled =
        let same = earlier n (omega (arith, less)) in
        f.unsettled n less (subst (λ h. 0 < length (after_end h)) same some) (subst IsSettled same settled)
    by n (inr more) below some settled =
        let longer = ap length g.grown ∙ length-append d.history (g.frame ∷ []) in
        let is : n ≡ length d.history = omega (arith, more, below, longer) in
        let same = earlier n (omega (arith, is)) ∙ (ap (λ k. take k d.history) is ∙ take-length d.history) in
        g.unsettled (subst IsSettled same settled)

-- one entry more stands behind End
pub longer_behind : (start d d' : Document) → FinishesFrom start d → GrowsOnce d d' → length (after_end d'.history) ≡ length (after_end d.history) + 1
longer_behind start d d' f g =
    let place = some_of (end_place d.history) f.ended in
    ap length (ap after_end g.grown ∙ after_end-push_some d.history g.frame place.0 place.1) ∙ length-append (after_end d.history) (g.frame ∷ [])

pub FinishesFrom-done : (start d : Document) → FinishesFrom start d → IsSettled d.history ⊎ (most_finishing ≤ length (after_end d.history)) → IsFinished d.history
FinishesFrom-done start d f why = record {
  ended = f.ended;
  frames = subst (AllByRecursion IsFinishing) (sym f.behind) f.grows.finishing;
  some = some why;
  last = last why;
  first = f.unsettled;
}
  where
    some : IsSettled d.history ⊎ (most_finishing ≤ length (after_end d.history)) → 0 < length (after_end d.history)
    some (inl settled) = let place = some_of (end_place d.history) f.ended in settled_after_end d.history place.0 place.1 settled
    some (inr full) = omega (arith, full)

    last : IsSettled d.history ⊎ (most_finishing ≤ length (after_end d.history)) → IsSettled d.history ⊎ (length (after_end d.history) ≡ most_finishing)
    last (inl settled) = inl settled
    last (inr full) = inr (omega (arith, full, f.few, ap length f.behind))
