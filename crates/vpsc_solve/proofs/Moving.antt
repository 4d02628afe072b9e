-- After a closing: what is joined to no touched variable has the block and the place of before.
use Rattle.std.proofs.Common.{◌≡◌, ◌≢◌, ℕ, zero, suc, ◌<◌, ◌≤◌, List, [], ◌∷◌, length, get_or, arith, refl, sym, ap, ◌∙◌, Bool, true, false, not, eqb, eqb-true, subst, ◌⊎◌, inl, inr, if◌then◌else◌}
use Rattle.std.specs.List.{Contains, AllByRecursion}
use Rattle.std.proofs.lemmas.Bool.{eqb-false}
use Rattle.std.proofs.lemmas.List.{get_or_default}
use Rattle.units.specs.Problem.{Problem}
use Rattle.solver_law.specs.Step.{Step}
use Rattle.solver_law.specs.Forest.{Joins, Leads, start, finish}
use Rattle.solver_law.proofs.Forest.{joins-self, joins-step, joins-then, joins-back, joins-more}
use Rattle.block_sums.specs.declared.legs.Leg.{Leg}
use Rattle.units.specs.Separation.{separation_at}
use Rattle.block_sums.specs.Ends.{end_of, end_at}
use Rattle.block_sums.specs.Legs.{leg_at, variable_at, IsLeg, IsReached, IsBlockTree}
use Rattle.block_sums.specs.Solving.{givens_of, Active}
use Rattle.block_sums.proofs.Rooted.{IsVia, joined-root, via-active}
use Rattle.vpsc_solve.specs.declared.places.Place.{Place}
use Rattle.vpsc_solve.specs.Places.{place_at, IsPlaced, ArePlaced, IsJoinedTo}
use Rattle.vpsc_solve.specs.Stops.{AreTouched, DiffersAt}
use Rattle.vpsc_solve.proofs.Lists.{here, later, here-or-later}

-- ---- a block that isn't touched stays

abbrev pub IsUntouched : List Leg → List ℕ → Type 0
IsUntouched legs touched = (j : ℕ) → j < length legs → Contains touched (variable_at legs j) → ⊥

end-touched : (p : Problem) (touched : List ℕ) (k : ℕ) (along : Bool) → AreTouched p touched k → Contains touched (end_of (separation_at p.separations k) along)
end-touched p touched k true t = t.1
end-touched p touched k false t = t.0

tree-still : (p : Problem) (old new touched : List ℕ) (root : ℕ) (legs : List Leg) → DiffersAt p old new touched → IsUntouched legs touched → IsBlockTree p.separations old root legs → IsBlockTree p.separations new root legs
tree-still p old new touched root legs differs away h = record {
  tree = record {
    some = h.tree.some;
    first = h.tree.first;
    home = h.tree.home;
    sooner = h.tree.sooner;
    leads = λ j a b. leads j b (h.tree.leads j a b);
    near = h.tree.near;
    apart = h.tree.apart;
  };
  closed = λ j b along place hp e. closed j b along place hp e (differs.come (get_or new place 0) (place, hp, get_or_default new place (get_or new place 0) 0 hp));
}
  where
    leads : (j : ℕ) → j < length legs → IsLeg p.separations old legs (leg_at legs j) → IsLeg p.separations new legs (leg_at legs j)
    leads j b l = record { on = on (differs.gone (leg_at legs j).sep l.on); from = l.from; to = l.to; far = l.far }
      where
        on : Contains new (leg_at legs j).sep ⊎ AreTouched p touched (leg_at legs j).sep → Contains new (leg_at legs j).sep
        on (inl w) = w
        on (inr t) = absurd (away j b (subst (λ i. Contains touched i) l.to (end-touched p touched (leg_at legs j).sep (leg_at legs j).along t)))

    closed : (j : ℕ) → j < length legs → (along : Bool) (place : ℕ) → place < length new → end_at p.separations new (not along) place ≡ variable_at legs j
        → Contains old (get_or new place 0) ⊎ AreTouched p touched (get_or new place 0) → IsReached legs (end_at p.separations new along place)
    closed j b along place hp e (inr t) = absurd (away j b (subst (λ i. Contains touched i) e (end-touched p touched (get_or new place 0) (not along) t)))
    closed j b along place hp e (inl w) =
        let same : get_or old w.0 0 ≡ get_or new place 0 = get_or_default old w.0 0 (get_or new place 0) w.1 ∙ w.2 in
        subst (λ k. IsReached legs (end_of (separation_at p.separations k) along)) same
        (h.closed j b along w.0 w.1 (ap (λ k. end_of (separation_at p.separations k) (not along)) same ∙ e))

placed-still : (p : Problem) (old new touched : List ℕ) (i : ℕ) (place : Place) → DiffersAt p old new touched → (h : IsPlaced p old i place) → IsUntouched h.legs touched → IsPlaced p new i place
placed-still p old new touched i place differs h away = record {
  root = h.root;
  legs = h.legs;
  weights = h.weights;
  moments = h.moments;
  sums = record { tree = tree-still p old new touched h.root h.legs differs away h.sums.tree; by_weight = h.sums.by_weight; by_moment = h.sums.by_moment };
  bounded = h.bounded;
  heavy = h.heavy;
  within = h.within;
  number = h.number;
  among = h.among;
  is = h.is;
  stands = h.stands;
}

-- ---- whether a block is touched

has-or-not : (xs : List ℕ) (k : ℕ) → Contains xs k ⊎ (Contains xs k → ⊥)
has-or-not [] k = inr (λ w. let b = w.1 in absurd (omega (arith, b)))
has-or-not (x ∷ xs) k = by_case (eqb x k) refl (has-or-not xs k)
  where
    neither : x ≢ k → (Contains xs k → ⊥) → (x ≡ k) ⊎ Contains xs k → ⊥
    neither ne out (inl e) = ne e
    neither ne out (inr w) = out w

    by_case : (b : Bool) → eqb x k ≡ b → Contains xs k ⊎ (Contains xs k → ⊥) → Contains (x ∷ xs) k ⊎ (Contains (x ∷ xs) k → ⊥)
    by_case true q rest = inl (here x xs k (eqb-true x k q))
    by_case false q (inl w) = inl (later x xs k w)
    by_case false q (inr out) = inr (λ w. neither (eqb-false x k q) out (here-or-later x xs k w))

-- the number of a leg whose variable is touched
abbrev pub HasTouched : List Leg → List ℕ → Type 0
HasTouched legs touched = (j : ℕ) × (j < length legs) × Contains touched (variable_at legs j)

touched-or-not : (legs : List Leg) (touched : List ℕ) (n : ℕ) → n ≤ length legs → HasTouched legs touched ⊎ ((j : ℕ) → j < n → Contains touched (variable_at legs j) → ⊥)
touched-or-not legs touched zero b = inr (λ j c w. absurd (omega (arith, c)))
touched-or-not legs touched (suc n) b = by_case (has-or-not touched (variable_at legs n)) (touched-or-not legs touched n (omega (arith, b)))
  where
    lower : (j n : ℕ) → j < suc n → j ≢ n → j < n
    lower j n b ne = omega arith

    at : (Contains touched (variable_at legs n) → ⊥) → ((j : ℕ) → j < n → Contains touched (variable_at legs j) → ⊥) → (j : ℕ) → j < suc n → (c : Bool) → eqb j n ≡ c → Contains touched (variable_at legs j) → ⊥
    at out rest j d true q = λ w. out (subst (λ i. Contains touched (variable_at legs i)) (eqb-true j n q) w)
    at out rest j d false q = rest j (lower j n d (eqb-false j n q))

    by_case : Contains touched (variable_at legs n) ⊎ (Contains touched (variable_at legs n) → ⊥) → HasTouched legs touched ⊎ ((j : ℕ) → j < n → Contains touched (variable_at legs j) → ⊥)
        → HasTouched legs touched ⊎ ((j : ℕ) → j < suc n → Contains touched (variable_at legs j) → ⊥)
    by_case (inl w) any = inl (n, omega (arith, b), w)
    by_case (inr out) (inl w) = inl w
    by_case (inr out) (inr rest) = inr (λ j d. at out rest j d (eqb j n) refl)

-- ---- a variable of a touched block is joined to a touched one

-- along a chain to a touched variable, up to the first that is touched
first-touched : (p : Problem) (old new touched : List ℕ) (e : ℕ) → DiffersAt p old new touched → Contains touched e → (ts : List Step) (i : ℕ) → Leads (givens_of p).l (givens_of p).r ts i e → AllByRecursion (λ t. Active old t.sep) ts
    → IsJoinedTo p new touched i
first-touched p old new touched e differs there [] i leads on = record { root = e; among = there; joins = subst (λ k. Joins (givens_of p).l (givens_of p).r (Active new) e k) (sym leads) (joins-self e) }
first-touched p old new touched e differs there (t ∷ ts) i leads on =
    subst (IsJoinedTo p new touched) leads.0 (by_case (differs.gone t.sep on.0) (first-touched p old new touched e differs there ts (finish (givens_of p).l (givens_of p).r t) leads.1 on.1))
  where
    begin-touched : (al : Bool) → AreTouched p touched t.sep → Contains touched (if al then (givens_of p).l t.sep else (givens_of p).r t.sep)
    begin-touched true w = w.0
    begin-touched false w = w.1

    by_case : Active new t.sep ⊎ AreTouched p touched t.sep → IsJoinedTo p new touched (finish (givens_of p).l (givens_of p).r t) → IsJoinedTo p new touched (start (givens_of p).l (givens_of p).r t)
    by_case (inr w) rest = record { root = start (givens_of p).l (givens_of p).r t; among = begin-touched t.along w; joins = joins-self (start (givens_of p).l (givens_of p).r t) }
    by_case (inl w) rest = record {
      root = rest.root;
      among = rest.among;
      joins = joins-then (givens_of p).l (givens_of p).r (Active new) rest.root (finish (givens_of p).l (givens_of p).r t) (start (givens_of p).l (givens_of p).r t) rest.joins
          (joins-back (givens_of p).l (givens_of p).r (Active new) (start (givens_of p).l (givens_of p).r t) (finish (givens_of p).l (givens_of p).r t)
          (joins-step (givens_of p).l (givens_of p).r (Active new) t (finish (givens_of p).l (givens_of p).r t) w (joins-self (finish (givens_of p).l (givens_of p).r t))));
    }

-- two variables of a block are joined
joined-both : (p : Problem) (active : List ℕ) (root : ℕ) (legs : List Leg) → IsBlockTree p.separations active root legs → (i j : ℕ) → i < length legs → j < length legs
    → Joins (givens_of p).l (givens_of p).r (Active active) (variable_at legs i) (variable_at legs j)
joined-both p active root legs h i j bi bj =
    joins-more (givens_of p).l (givens_of p).r (IsVia legs) (Active active) (variable_at legs i) (variable_at legs j) (λ k w. via-active p.separations active root legs h.tree k w)
    (joins-then (givens_of p).l (givens_of p).r (IsVia legs) (variable_at legs i) (variable_at legs 0) (variable_at legs j)
    (joins-back (givens_of p).l (givens_of p).r (IsVia legs) (variable_at legs 0) (variable_at legs i) (joined-root p active root legs h.tree i bi)) (joined-root p active root legs h.tree j bj))

-- after a closing each variable keeps its place, or is joined to a touched one
pub kept-or-joined : (p : Problem) (old new touched : List ℕ) (places : List Place) → DiffersAt p old new touched → ArePlaced p old places → (i : ℕ) → i < length p.desired → IsPlaced p new i (place_at places i) ⊎ IsJoinedTo p new touched i
kept-or-joined p old new touched places differs h i b = by_case (h.each i b) (touched-or-not (h.each i b).legs touched (length (h.each i b).legs) (omega arith))
  where
    by_case : (w : IsPlaced p old i (place_at places i)) → HasTouched w.legs touched ⊎ ((j : ℕ) → j < length w.legs → Contains touched (variable_at w.legs j) → ⊥) → IsPlaced p new i (place_at places i) ⊎ IsJoinedTo p new touched i
    by_case w (inr away) = inl (placed-still p old new touched i (place_at places i) differs w away)
    by_case w (inl t) =
        let chain = joined-both p old w.root w.legs w.sums.tree w.number t.0 w.among t.1 in
        inr (subst (IsJoinedTo p new touched) w.is (first-touched p old new touched (variable_at w.legs t.0) differs t.2 chain.steps (variable_at w.legs w.number) chain.leads chain.on))
