-- A history with one more entry: its scene, its places, its End, its counts.
use Rattle.std.proofs.Common.{◌≡◌, ◌+◌, ℕ, List, [], ◌∷◌, ◌++◌, Bool, true, false, cond, Option, Some, None, length, refl, ap, sym, ◌∙◌, subst, arith, append_assoc}
use Rattle.std.specs.Prelude.{fold}
use Rattle.std.specs.Option.{option_map}
use Rattle.std.proofs.lemmas.List.{same_from_push, append-nil}
use Rattle.edit_rules.specs.declared.edits.Edit.{Edit}
use Rattle.edit_rules.specs.Effects.{edited, scene_of}
use Rattle.doc_book.specs.declared.entries.Entry.{Entry}
use Rattle.doc_book.specs.Hints.{no_hints, hints_after, hints_at}
use Rattle.doc_book.specs.History.{edits_after, standing, scene_at, places_at, places_after, Moment, next_moment, moment_of, is_end, is_frame, end_place, after_end, IsSettled}
use Rattle.doc_book.specs.Legal.{MayFollow, AllMayFollow, IsLegal}

pub fold-push : {A B : Type 0} (f : B → A → B) (b : B) (xs : List A) (x : A) → fold f b (xs ++ x ∷ []) ≡ f (fold f b xs) x
fold-push f b [] x = refl
fold-push f b (y ∷ ys) x = fold-push f (f b y) ys x

edits-along : (es : List Entry) (m : Moment) → (fold next_moment m es).edits ≡ fold (λ edits (e : Entry). edits_after edits e.act) m.edits es
edits-along [] m = refl
edits-along (e ∷ es) m = edits-along es (next_moment m e)

pub moment-edits : (h : List Entry) → (moment_of h).edits ≡ standing h
moment-edits h = edits-along h _

-- the places after one more entry
pub places_at-push : (h : List Entry) (e : Entry) → places_at (h ++ e ∷ []) ≡ places_after e.act (scene_at h) (scene_of (edits_after (standing h) e.act)) (places_at h)
places_at-push h e =
    ap (λ (m : Moment). m.places) (fold-push next_moment _ h e)
    ∙ ap (λ edits. places_after e.act (scene_of edits) (scene_of (edits_after edits e.act)) (places_at h)) (moment-edits h)

-- the scene after one more entry
pub scene_at-push : (h : List Entry) (e : Entry) → scene_at (h ++ e ∷ []) ≡ scene_of (edits_after (standing h) e.act)
scene_at-push h e = ap scene_of (fold-push (λ edits (x : Entry). edits_after edits x.act) [] h e)

-- the scene of the standing edits with one more
pub scene_of-push : (edits : List Edit) (e : Edit) → scene_of (edits ++ e ∷ []) ≡ edited e (scene_of edits)
scene_of-push edits e = fold-push (λ d x. edited x d) _ edits e

-- the separations that push in the last frame, after one more entry
pub hints_at-push : (h : List Entry) (e : Entry) → hints_at (h ++ e ∷ []) ≡ hints_after (hints_at h) e.act
hints_at-push h e = fold-push (λ hints (x : Entry). hints_after hints x.act) no_hints h e

-- ---- End

none_of_map : (o : Option ℕ) → option_map (λ k. k + 1) o ≡ None → o ≡ None
none_of_map None e = refl
none_of_map (Some k) e = cc

pub end_place-push_none : (h : List Entry) (e : Entry) → end_place h ≡ None → is_end e ≡ false → end_place (h ++ e ∷ []) ≡ None
end_place-push_none [] e none other = ap (λ b. cond b (Some 0) None) other
end_place-push_none (x ∷ xs) e none other = by (is_end x) none (λ rest. end_place-push_none xs e rest other)
  where
    by : (b : Bool) → cond b (Some 0) (option_map (λ k. k + 1) (end_place xs)) ≡ None → (end_place xs ≡ None → end_place (xs ++ e ∷ []) ≡ None) → cond b (Some 0) (option_map (λ k. k + 1) (end_place (xs ++ e ∷ []))) ≡ None
    by true none rest = cc
    by false none rest = ap (option_map (λ k. k + 1)) (rest (none_of_map _ none))

pub end_place-push_end : (h : List Entry) (e : Entry) → end_place h ≡ None → is_end e ≡ true → end_place (h ++ e ∷ []) ≡ Some (length h)
end_place-push_end [] e none this = ap (λ b. cond b (Some 0) None) this
end_place-push_end (x ∷ xs) e none this = by (is_end x) none (λ rest. end_place-push_end xs e rest this)
  where
    by : (b : Bool) → cond b (Some 0) (option_map (λ k. k + 1) (end_place xs)) ≡ None → (end_place xs ≡ None → end_place (xs ++ e ∷ []) ≡ Some (length xs)) → cond b (Some 0) (option_map (λ k. k + 1) (end_place (xs ++ e ∷ []))) ≡ Some (length (x ∷ xs))
    by true none rest = cc
    by false none rest = ap (option_map (λ k. k + 1)) (rest (none_of_map _ none)) ∙ ap Some (omega arith)

some_of_map : (o : Option ℕ) (k : ℕ) → option_map (λ k. k + 1) o ≡ Some k → (j : ℕ) × (o ≡ Some j)
some_of_map None k e = absurd (none_some e)
  where
    none_some : None ≡ Some k → ⊥
    none_some e = cc
some_of_map (Some j) k e = (j, refl)

pub end_place-push_some : (h : List Entry) (e : Entry) (k : ℕ) → end_place h ≡ Some k → end_place (h ++ e ∷ []) ≡ Some k
end_place-push_some [] e k some = cc
end_place-push_some (x ∷ xs) e k some = by (is_end x) some (λ j rest. end_place-push_some xs e j rest)
  where
    by : (b : Bool) → cond b (Some 0) (option_map (λ k. k + 1) (end_place xs)) ≡ Some k → ((j : ℕ) → end_place xs ≡ Some j → end_place (xs ++ e ∷ []) ≡ Some j) → cond b (Some 0) (option_map (λ k. k + 1) (end_place (xs ++ e ∷ []))) ≡ Some k
    by true some rest = some
    by false some rest = let found = some_of_map _ k some in ap (option_map (λ k. k + 1)) (rest found.0 found.1 ∙ sym found.1) ∙ some

pub after_end-push_some : (h : List Entry) (e : Entry) (k : ℕ) → end_place h ≡ Some k → after_end (h ++ e ∷ []) ≡ after_end h ++ e ∷ []
after_end-push_some [] e k some = cc
after_end-push_some (x ∷ xs) e k some = by (is_end x) some (λ j rest. after_end-push_some xs e j rest)
  where
    by : (b : Bool) → cond b (Some 0) (option_map (λ k. k + 1) (end_place xs)) ≡ Some k → ((j : ℕ) → end_place xs ≡ Some j → after_end (xs ++ e ∷ []) ≡ after_end xs ++ e ∷ []) → cond b (xs ++ e ∷ []) (after_end (xs ++ e ∷ [])) ≡ cond b xs (after_end xs) ++ e ∷ []
    by true some rest = refl
    by false some rest = let found = some_of_map _ k some in rest found.0 found.1

pub after_end-push_end : (h : List Entry) (e : Entry) → end_place h ≡ None → is_end e ≡ true → after_end (h ++ e ∷ []) ≡ []
after_end-push_end [] e none this = ap (λ b. cond b [] []) this
after_end-push_end (x ∷ xs) e none this = by (is_end x) none (λ rest. after_end-push_end xs e rest this)
  where
    by : (b : Bool) → cond b (Some 0) (option_map (λ k. k + 1) (end_place xs)) ≡ None → (end_place xs ≡ None → after_end (xs ++ e ∷ []) ≡ []) → cond b (xs ++ e ∷ []) (after_end (xs ++ e ∷ [])) ≡ []
    by true none rest = cc
    by false none rest = rest (none_of_map _ none)

-- ---- settled, legal

pub IsSettled-push : (h : List Entry) (e : Entry) → is_frame e ≡ true → places_at (h ++ e ∷ []) ≡ places_at h → IsSettled (h ++ e ∷ [])
IsSettled-push h e frame same = record { before = h; last = e; split = refl; frame = frame; same = same }

pub IsSettled-push_frame : (h : List Entry) (e : Entry) → IsSettled (h ++ e ∷ []) → is_frame e ≡ true
IsSettled-push_frame h e s = ap is_frame (same_from_push h s.before e s.last s.split).1 ∙ s.frame

pub IsSettled-push_same : (h : List Entry) (e : Entry) → IsSettled (h ++ e ∷ []) → places_at (h ++ e ∷ []) ≡ places_at h
IsSettled-push_same h e s = s.same ∙ ap places_at (sym (same_from_push h s.before e s.last s.split).0)

AllMayFollow-push : (before es : List Entry) (budget : ℕ) (e : Entry) → AllMayFollow before budget es → MayFollow (before ++ es) budget e → AllMayFollow before budget (es ++ e ∷ [])
AllMayFollow-push before [] budget e all this = (subst (λ h. MayFollow h budget e) (append-nil before) this, tt)
AllMayFollow-push before (x ∷ xs) budget e all this =
    (all.0, AllMayFollow-push (before ++ x ∷ []) xs budget e all.1 (subst (λ h. MayFollow h budget e) (sym (append_assoc before (x ∷ []) xs)) this))

-- a legal history with one more entry that may follow it
pub IsLegal-push : (h : List Entry) (budget : ℕ) (e : Entry) → IsLegal h budget → MayFollow h budget e → IsLegal (h ++ e ∷ []) budget
IsLegal-push h budget e legal this = AllMayFollow-push [] h budget e legal this
