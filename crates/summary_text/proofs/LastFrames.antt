-- A history whose last entry is a frame is all that stands up to its last frame.
use Rattle.std.proofs.Common.{◌≡◌, ◌<◌, Bool, true, false, cond, ◌||◌, List, [], ◌∷◌, ◌++◌, length, refl, sym, ap, subst, arith}
use Rattle.std.specs.List.{list_any, AllByRecursion}
use Rattle.doc_book.specs.declared.entries.Entry.{Entry}
use Rattle.doc_book.specs.Finished.{IsFinished, IsFinishing}
use Rattle.doc_book.specs.History.{after_end, is_end, is_frame}
use Rattle.summary_text.specs.LastFrame.{EndsInFrame, through_last_frame}

or-true : (a : Bool) → (a || true) ≡ true
or-true true = refl
or-true false = refl

any-last : (es : List Entry) (last : Entry) → is_frame last ≡ true → list_any is_frame (es ++ last ∷ []) ≡ true
any-last [] last is = rw is refl
any-last (e ∷ es) last is = rw (any-last es last is) (or-true (is_frame e))

through-last : (es : List Entry) (last : Entry) → is_frame last ≡ true → through_last_frame (es ++ last ∷ []) ≡ es ++ last ∷ []
through-last [] last is = rw is refl
through-last (e ∷ es) last is = rw (any-last (e ∷ es) last is) (ap (λ (xs : List Entry). e ∷ xs) (through-last es last is))

pub through_all : (h : List Entry) → EndsInFrame h → through_last_frame h ≡ h
through_all h is = subst (λ (xs : List Entry). through_last_frame xs ≡ xs) (sym is.split) (through-last is.before is.last is.frame)

-- with an entry before it
behind : (e : Entry) (h : List Entry) → EndsInFrame h → EndsInFrame (e ∷ h)
behind e h is = record { before = e ∷ is.before; last = is.last; split = ap (λ (xs : List Entry). e ∷ xs) is.split; frame = is.frame }

frames_end : (es : List Entry) → 0 < length es → AllByRecursion IsFinishing es → EndsInFrame es
frames_end [] some all = absurd (omega (arith, some))
frames_end (e ∷ []) some all = record { before = []; last = e; split = refl; frame = all.0.frame }
frames_end (e ∷ f ∷ es) some all = behind e (f ∷ es) (frames_end (f ∷ es) (omega arith) all.1)

by_end : (e : Entry) (es : List Entry) (b : Bool) → (0 < length (after_end es) → AllByRecursion IsFinishing (after_end es) → EndsInFrame es)
    → 0 < length (cond b es (after_end es)) → AllByRecursion IsFinishing (cond b es (after_end es)) → EndsInFrame (e ∷ es)
by_end e es true further some all = behind e es (frames_end es some all)
by_end e es false further some all = behind e es (further some all)

after_end_frames : (h : List Entry) → 0 < length (after_end h) → AllByRecursion IsFinishing (after_end h) → EndsInFrame h
after_end_frames [] some all = absurd (omega (arith, some))
after_end_frames (e ∷ es) some all = by_end e es (is_end e) (λ s a. after_end_frames es s a) some all

-- a finished history ends in a frame
pub finished_ends : (h : List Entry) → IsFinished h → EndsInFrame h
finished_ends h is = after_end_frames h is.some is.frames
