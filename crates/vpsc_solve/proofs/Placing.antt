-- The variables of blocks get their places.
use Rattle.std.proofs.Common.{◌≡◌, ◌≢◌, ℕ, ◌+◌, ◌<◌, ◌≤◌, ℤ, pos, ◌<ℤ◌, nat_abs, List, length, get_or, set, arith, refl, sym, ap, ◌∙◌, Bool, true, false, eqb, eqb-true, subst, ◌⊎◌, inl, inr}
use Rattle.std.specs.List.{All, Contains}
use Rattle.std.proofs.lemmas.Bool.{eqb-false}
use Rattle.std.proofs.lemmas.List.{get_or-set_same, get_or-set_other, get_or_default}
use Rattle.units.specs.Problem.{Problem}
use Rattle.solver_law.specs.Forest.{Joins}
use Rattle.block_sums.specs.declared.legs.Leg.{Leg}
use Rattle.block_sums.specs.Legs.{no_leg, variable_at, IsTree, IsReached}
use Rattle.block_sums.specs.Loads.{load_at}
use Rattle.block_sums.specs.Solving.{givens_of, Active, IsActive, IsSweep, IsBounded}
use Rattle.block_sums.proofs.Growing.{all-legs}
use Rattle.vpsc_solve.specs.declared.places.Place.{Place}
use Rattle.vpsc_solve.specs.Places.{no_place, place_at, is_settled, IsLegPlace, IsPlaced, IsJoinedTo, AreSettled, IsPutAt, IsLeftAlone, ArePut}
use Rattle.vpsc_solve.proofs.Directions.{reached-on}

pub legs-near : (p : Problem) (active : List ℕ) (root : ℕ) (legs : List Leg) → IsTree p.separations active root legs → length legs ≤ 258 → All (λ leg. nat_abs leg.offset ≤ 257000000) legs
legs-near p active root legs h short = all-legs (λ leg. nat_abs leg.offset ≤ 257000000) legs (λ j b. let n = h.near j b in omega (arith, n, b, short))

-- ---- the variables of one block

pub put-first : (legs : List Leg) (weights moments : List ℤ) (places : List Place) (settled : List Bool) → ArePut legs weights moments 0 places places settled settled
put-first legs weights moments places settled i = inr (record { place = refl; mark = refl; apart = λ j b. absurd (omega (arith, b)) })

pub put-next : (legs : List Leg) (weights moments : List ℤ) (at : ℕ) (before places : List Place) (was settled : List Bool) (leg : Leg) (place : Place) → at < length legs → leg ≡ get_or legs at leg
    → leg.variable < length places → leg.variable < length settled → IsLegPlace legs weights moments at place → ArePut legs weights moments at before places was settled
    → ArePut legs weights moments (at + 1) before (set places leg.variable place) was (set settled leg.variable true)
put-next legs weights moments at before places was settled leg place among read fits fits' stands h i = by_case (eqb leg.variable i) refl (h i)
  where
    is : leg.variable ≡ variable_at legs at
    is = ap (λ l. l.variable) (read ∙ get_or_default legs at leg no_leg among)

    lower : (j at : ℕ) → j < at + 1 → j ≢ at → j < at
    lower j at b ne = omega arith

    away : leg.variable ≢ i → ((j : ℕ) → j < at → variable_at legs j ≢ i) → (j : ℕ) → j < at + 1 → (b : Bool) → eqb j at ≡ b → variable_at legs j ≢ i
    away ne out j b true q e = ne (is ∙ (ap (λ k. variable_at legs k) (sym (eqb-true j at q)) ∙ e))
    away ne out j b false q e = out j (lower j at b (eqb-false j at q)) e

    by_case : (b : Bool) → eqb leg.variable i ≡ b → IsPutAt legs weights moments at places settled i ⊎ IsLeftAlone legs at before places was settled i
        → IsPutAt legs weights moments (at + 1) (set places leg.variable place) (set settled leg.variable true) i ⊎ IsLeftAlone legs (at + 1) before (set places leg.variable place) was (set settled leg.variable true) i
    by_case true q old =
        let e = eqb-true leg.variable i q in
        inl (record {
          number = at;
          among = omega arith;
          is = sym is ∙ e;
          stands = subst (IsLegPlace legs weights moments at) (sym (get_or-set_same places leg.variable place no_place fits) ∙ ap (λ k. place_at (set places leg.variable place) k) e) stands;
          settled_now = ap (λ k. is_settled (set settled leg.variable true) k) (sym e) ∙ get_or-set_same settled leg.variable true false fits';
        })
    by_case false q (inl w) =
        let ne : i ≢ leg.variable = λ e. eqb-false leg.variable i q (sym e) in
        inl (record {
          number = w.number;
          among = (let b = w.among in omega (arith, b));
          is = w.is;
          stands = subst (IsLegPlace legs weights moments w.number) (sym (get_or-set_other places leg.variable i place no_place ne)) w.stands;
          settled_now = get_or-set_other settled leg.variable i true false ne ∙ w.settled_now;
        })
    by_case false q (inr l) =
        let ne : i ≢ leg.variable = λ e. eqb-false leg.variable i q (sym e) in
        inr (record {
          place = get_or-set_other places leg.variable i place no_place ne ∙ l.place;
          mark = get_or-set_other settled leg.variable i true false ne ∙ l.mark;
          apart = λ j b. away (eqb-false leg.variable i q) l.apart j b (eqb j at) refl;
        })

clash : {b : Bool} → b ≡ true → b ≡ false → ⊥
clash e f = cc

-- a variable that is reached is settled
reached-settled : (legs : List Leg) (weights moments : List ℤ) (before places : List Place) (was settled : List Bool) (i : ℕ) → IsReached legs i
    → IsPutAt legs weights moments (length legs) places settled i ⊎ IsLeftAlone legs (length legs) before places was settled i → is_settled settled i ≡ true
reached-settled legs weights moments before places was settled i r (inl w) = w.settled_now
reached-settled legs weights moments before places was settled i r (inr l) = absurd (l.apart r.number r.among r.is)

pub still-settled : (legs : List Leg) (weights moments : List ℤ) (before places : List Place) (was settled : List Bool) (i : ℕ) → ArePut legs weights moments (length legs) before places was settled → is_settled was i ≡ true → is_settled settled i ≡ true
still-settled legs weights moments before places was settled i h e = by_case (h i)
  where
    by_case : IsPutAt legs weights moments (length legs) places settled i ⊎ IsLeftAlone legs (length legs) before places was settled i → is_settled settled i ≡ true
    by_case (inl w) = w.settled_now
    by_case (inr l) = l.mark ∙ e

pub root-settled : (p : Problem) (active : List ℕ) (root : ℕ) (legs : List Leg) (weights moments : List ℤ) (before places : List Place) (was settled : List Bool) → IsSweep p active root legs weights moments
    → ArePut legs weights moments (length legs) before places was settled → is_settled settled root ≡ true
root-settled p active root legs weights moments before places was settled s h =
    reached-settled legs weights moments before places was settled root (record { number = 0; among = s.tree.tree.some; is = s.tree.tree.first }) (h root)

pub block-settled : (p : Problem) (active : List ℕ) (root : ℕ) (legs : List Leg) (weights moments : List ℤ) (start before places : List Place) (was settled : List Bool) → IsActive p active
    → IsSweep p active root legs weights moments → IsBounded legs weights moments → pos 0 <ℤ load_at weights 0 → All (λ leg. leg.variable < length p.desired) legs
    → ArePut legs weights moments (length legs) before places was settled → AreSettled p active start before was → AreSettled p active start places settled
block-settled p active root legs weights moments start before places was settled forest s bounded heavy within h old = record {
  placed = λ i b e. placed i b e (h i);
  closed = λ i j e chain. closed i j e chain (h i);
  rest = λ i e. rest i e (h i);
}
  where
    placed : (i : ℕ) → i < length p.desired → is_settled settled i ≡ true → IsPutAt legs weights moments (length legs) places settled i ⊎ IsLeftAlone legs (length legs) before places was settled i → IsPlaced p active i (place_at places i)
    placed i b e (inl w) = record {
      root = root;
      legs = legs;
      weights = weights;
      moments = moments;
      sums = s;
      bounded = bounded;
      heavy = heavy;
      within = within;
      number = w.number;
      among = w.among;
      is = w.is;
      stands = w.stands;
    }
    placed i b e (inr l) = subst (IsPlaced p active i) (sym l.place) (old.placed i b (sym l.mark ∙ e))

    closed : (i j : ℕ) → is_settled settled i ≡ true → Joins (givens_of p).l (givens_of p).r (Active active) i j
        → IsPutAt legs weights moments (length legs) places settled i ⊎ IsLeftAlone legs (length legs) before places was settled i → is_settled settled j ≡ true
    closed i j e chain (inl w) =
        reached-settled legs weights moments before places was settled j (reached-on p active root legs forest s.tree i j (record { number = w.number; among = w.among; is = w.is }) chain) (h j)
    closed i j e chain (inr l) = still-settled legs weights moments before places was settled j h (old.closed i j (sym l.mark ∙ e) chain)

    rest : (i : ℕ) → is_settled settled i ≡ false → IsPutAt legs weights moments (length legs) places settled i ⊎ IsLeftAlone legs (length legs) before places was settled i → place_at places i ≡ place_at start i
    rest i e (inl w) = absurd (clash w.settled_now e)
    rest i e (inr l) = l.place ∙ old.rest i (sym l.mark ∙ e)

-- ---- all roots

pub none-settled : (p : Problem) (active : List ℕ) (places : List Place) (settled : List Bool) → ((i : ℕ) → is_settled settled i ≡ false) → AreSettled p active places places settled
none-settled p active places settled none = record {
  placed = λ i b e. absurd (clash e (none i));
  closed = λ i j e chain. absurd (clash e (none i));
  rest = λ i e. refl;
}

-- what is joined to a root is settled, and the others had their places
pub all-placed : (p : Problem) (active roots : List ℕ) (before places : List Place) (settled : List Bool) → AreSettled p active before places settled
    → ((k : ℕ) → k < length roots → is_settled settled (get_or roots k 0) ≡ true)
    → ((i : ℕ) → i < length p.desired → IsPlaced p active i (place_at before i) ⊎ IsJoinedTo p active roots i)
    → (i : ℕ) → i < length p.desired → IsPlaced p active i (place_at places i)
all-placed p active roots before places settled h done others i b = by_case (is_settled settled i) refl (others i b)
  where
    root : (r : ℕ) → Contains roots r → is_settled settled r ≡ true
    root r w = subst (λ k. is_settled settled k ≡ true) (get_or_default roots w.0 0 r w.1 ∙ w.2) (done w.0 w.1)

    by_case : (s : Bool) → is_settled settled i ≡ s → IsPlaced p active i (place_at before i) ⊎ IsJoinedTo p active roots i → IsPlaced p active i (place_at places i)
    by_case true e any = h.placed i b e
    by_case false e (inl old) = subst (IsPlaced p active i) (sym (h.rest i e)) old
    by_case false e (inr j) = absurd (clash (h.closed j.root i (root j.root j.among) j.joins) e)

-- one root more
pub roots-next : (roots : List ℕ) (was settled : List Bool) (k : ℕ) → ((i : ℕ) → is_settled was i ≡ true → is_settled settled i ≡ true) → is_settled settled (get_or roots k 0) ≡ true
    → ((j : ℕ) → j < k → is_settled was (get_or roots j 0) ≡ true) → (j : ℕ) → j < k + 1 → is_settled settled (get_or roots j 0) ≡ true
roots-next roots was settled k still there old j b = by_case (eqb j k) refl
  where
    lower : (j k : ℕ) → j < k + 1 → j ≢ k → j < k
    lower j k b ne = omega arith

    by_case : (c : Bool) → eqb j k ≡ c → is_settled settled (get_or roots j 0) ≡ true
    by_case true q = subst (λ i. is_settled settled (get_or roots i 0) ≡ true) (sym (eqb-true j k q)) there
    by_case false q = still (get_or roots j 0) (old j (lower j k b (eqb-false j k q)))
