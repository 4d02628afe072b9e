-- One arc that asks for more than the value where it ends: it closes a positive cycle, or raises that value.
use Rattle.std.proofs.Common.{◌≡◌, ℕ, ◌-◌, ◌<◌, ◌≤◌, nat_abs, ℤ, pos, ◌+ℤ◌, ◌≤ℤ◌, ◌<ℤ◌, List, [], ◌∷◌, ◌++◌, length, take, drop, nat_eq, eqb, false, slice_index_or, slice_set, sym, refl, ap, ◌∙◌, arith, subst, ⊎_elim}
use Rattle.std.proofs.lemmas.Int.{ints}
use Rattle.std.proofs.lemmas.List.Elements.{All-nil, All-cons}
use Rattle.std.specs.List.{All, IsDistinct, list_any}
use Rattle.std.specs.Cmp.{nat_eq_equiv}
use Rattle.std.proofs.lemmas.List.{take_all, get_or-set_same, get_or-set_other, length-set, length-append, length-drop}
use Rattle.std.proofs.lemmas.List.Sums.{sum_by-set}
use Rattle.std.proofs.lemmas.Bool.{cases_eq}
use Rattle.std.proofs.lemmas.Map.Keys.{IsDistinct-push}
use Rattle.units.specs.declared.geometry.Sep.{Sep}
use Rattle.cycle_test.specs.declared.arc.CycleArc.{CycleArc}
use Rattle.cycle_test.specs.declared.reach.Reach.{Reach}
use Rattle.cycle_test.specs.Cycle.{IsArc, start_of, end_of, gap_of, gap_sum, starts, IsWalk, IsPositiveCycle}
use Rattle.cycle_test.specs.Search.{reach_at, value_at, asked_by, Climbs, IsReached, IsState, IsRaised}
use Rattle.cycle_test.proofs.Walks.{walk_of, sum_of, climbs_push, climbs_rise, climbs_from, distinct_drop, starts_push, starts_drop}

-- the arcs of a walk are arcs of the list
walk_taken : (seps : List Sep) (from : ℕ) (arcs : List CycleArc) (to : ℕ) → IsWalk seps from arcs to → All (IsArc seps) arcs
walk_taken seps from [] to walk = All-nil (IsArc seps)
walk_taken seps from (arc ∷ arcs) to walk = All-cons (IsArc seps) arc arcs walk.0 (walk_taken seps (end_of seps arc) arcs to walk.2)

pub path_taken : (seps : List Sep) (reaches : List Reach) (v : ℕ) → IsReached seps reaches v →
    All (IsArc seps) (reach_at reaches v).path
path_taken seps reaches v reached =
    let path = (reach_at reaches v).path in
    walk_taken seps reached.climbs.0 path v (walk_of seps reaches reached.climbs.0 (pos 0) path v (pos (value_at reaches v)) reached.climbs.1)

more_than : (low sum high gap : ℤ) (value : ℕ) → low +ℤ sum ≡ high +ℤ gap → low ≤ℤ pos value → pos value <ℤ (high +ℤ gap) →
    pos 0 <ℤ sum
more_than low sum high gap value is under asked = omega (arith, ints)

-- the arc ends on the path that leads to where it starts: from there on, the path and the arc are a positive cycle
pub closes : (seps : List Sep) (reaches : List Reach) (v : ℕ) (arc : CycleArc) (k : ℕ) → IsReached seps reaches v → IsArc seps arc →
    start_of seps arc ≡ v → k ≤ length (reach_at reaches v).path →
    slice_index_or (starts seps (reach_at reaches v).path ++ v ∷ []) k 0 ≡ end_of seps arc →
    pos (value_at reaches (end_of seps arc)) <ℤ (pos (value_at reaches v) +ℤ gap_of seps arc) →
    IsPositiveCycle seps (drop k (reach_at reaches v).path ++ arc ∷ [])
closes seps reaches v arc k reached taken starts_there within visited asked =
    let path = (reach_at reaches v).path in
    let value = value_at reaches v in
    let home = slice_index_or (starts seps path ++ v ∷ []) k 0 in
    let level : pos value ≤ℤ pos value = omega (arith, ints) in
    let part = climbs_from seps reaches reached.climbs.0 (pos 0) path v (pos value) k reached.climbs.1 level within in
    let round = climbs_push seps reaches home part.0 (drop k path) v (pos value) arc part.2 taken starts_there level in
    let walk = walk_of seps reaches home part.0 (drop k path ++ arc ∷ []) (end_of seps arc) (pos value +ℤ gap_of seps arc) round in
    record {
      some = omega (arith, length-append (drop k path) (arc ∷ []));
      closed = (end_of seps arc, rw visited at walk);
      simple = rw (starts_push seps (drop k path) arc, starts_there, ← starts_drop seps k path v within) (distinct_drop k (starts seps path ++ v ∷ []) reached.simple);
      positive = more_than part.0 (gap_sum seps (drop k path ++ arc ∷ [])) (pos value) (gap_of seps arc) (value_at reaches (end_of seps arc))
          (sum_of seps reaches home part.0 (drop k path ++ arc ∷ []) (end_of seps arc) (pos value +ℤ gap_of seps arc) round) (rw visited at part.1) asked;
    }

-- a value that rises
value_rises : (reaches : List Reach) (to : ℕ) (reach : Reach) → to < length reaches → value_at reaches to < reach.value → (v : ℕ) →
    value_at reaches v ≤ value_at (slice_set reaches to reach) v
value_rises reaches to reach within more v =
    let none : Reach = record { value = 0; path = [] } in
    let here : value_at (slice_set reaches to reach) to ≡ reach.value = ap (λ (one : Reach). one.value) (get_or-set_same reaches to reach none within) in
    ⊎_elim
    (λ same. rw same (omega arith))
    (λ other. let kept : value_at (slice_set reaches to reach) v ≡ value_at reaches v = ap (λ (one : Reach). one.value) (get_or-set_other reaches to v reach none other) in omega arith)
    (cases_eq v to)

-- a variable whose reach stays is still reached
reached_still : (seps : List Sep) (old new : List Reach) (v : ℕ) → reach_at new v ≡ reach_at old v → ((w : ℕ) → value_at old w ≤ value_at new w) →
    IsReached seps old v → IsReached seps new v
reached_still seps old new v same rise reached = record {
  climbs = (reached.climbs.0, subst (λ (reach : Reach). Climbs seps new reached.climbs.0 (pos 0) reach.path v (pos reach.value)) (sym same) (climbs_rise seps old new reached.climbs.0 (pos 0) (reach_at old v).path v (pos (value_at old v)) rise reached.climbs.1));
  simple = subst (λ (reach : Reach). IsDistinct nat_eq (starts seps reach.path ++ v ∷ [])) (sym same) reached.simple;
}

-- the variable where the arc ends is reached by the path to where it starts, and the arc
reached_anew : (seps : List Sep) (old new : List Reach) (v : ℕ) (arc : CycleArc) (value : ℕ) → IsReached seps old v →
    IsArc seps arc → start_of seps arc ≡ v → pos (value_at old v) +ℤ gap_of seps arc ≡ pos value →
    list_any (eqb (end_of seps arc)) (starts seps (reach_at old v).path ++ v ∷ []) ≡ false → ((w : ℕ) → value_at old w ≤ value_at new w) →
    reach_at new (end_of seps arc) ≡ record { value = value; path = (reach_at old v).path ++ arc ∷ [] } →
    IsReached seps new (end_of seps arc)
reached_anew seps old new v arc value reached taken starts_there is apart rise there =
    let path = (reach_at old v).path in
    let level : pos (value_at old v) ≤ℤ pos (value_at old v) = omega (arith, ints) in
    let longer = climbs_push seps old reached.climbs.0 (pos 0) path v (pos (value_at old v)) arc reached.climbs.1 taken starts_there level in
    let risen = climbs_rise seps old new reached.climbs.0 (pos 0) (path ++ arc ∷ []) (end_of seps arc) (pos (value_at old v) +ℤ gap_of seps arc) rise longer in
    record {
      climbs = (reached.climbs.0, subst (λ (reach : Reach). Climbs seps new reached.climbs.0 (pos 0) reach.path (end_of seps arc) (pos reach.value)) (sym there) (rw is at risen));
      simple = subst (λ (reach : Reach). IsDistinct nat_eq (starts seps reach.path ++ end_of seps arc ∷ [])) (sym there) (rw (starts_push seps path arc, starts_there) (IsDistinct-push nat_eq_equiv (starts seps path ++ v ∷ []) (end_of seps arc) reached.simple apart));
    }

-- where the arc ends on no variable of that path, the value there rises
pub rises : (seps : List Sep) (reaches : List Reach) (v : ℕ) (arc : CycleArc) (value : ℕ) → IsState seps reaches →
    v < length reaches → end_of seps arc < length reaches → IsArc seps arc → start_of seps arc ≡ v →
    pos (value_at reaches v) +ℤ gap_of seps arc ≡ pos value → value_at reaches (end_of seps arc) < value →
    list_any (eqb (end_of seps arc)) (starts seps (reach_at reaches v).path ++ v ∷ []) ≡ false →
    IsRaised seps reaches (slice_set reaches (end_of seps arc) (record { value = value; path = (reach_at reaches v).path ++ arc ∷ [] }))
rises seps reaches v arc value state v_within to_within taken starts_there is more apart =
    let to = end_of seps arc in
    let reach : Reach = record { value = value; path = (reach_at reaches v).path ++ arc ∷ [] } in
    let none : Reach = record { value = 0; path = [] } in
    let new = slice_set reaches to reach in
    let rise = value_rises reaches to reach to_within more in
    let there : reach_at new to ≡ reach = get_or-set_same reaches to reach none to_within in
    record {
      same_length = length-set reaches to reach;
      state = λ w within.
          ⊎_elim
          (λ same. rw same (reached_anew seps reaches new v arc value (state v v_within) taken starts_there is apart rise there))
          (λ other. reached_still seps reaches new w (get_or-set_other reaches to w reach none other) rise (state w (omega (arith, length-set reaches to reach))))
          (cases_eq w to);
      more = omega (arith, sum_by-set (λ (one : Reach). one.value) reaches to reach none to_within);
    }

-- `closes`, by what the code has at hand
pub closes_at : (seps : List Sep) (reaches : List Reach) (from to : ℕ) (arc : CycleArc) (k : ℕ) (path arcs : List CycleArc) (asked : ℤ) →
    IsState seps reaches → from < length reaches → IsArc seps arc → from ≡ start_of seps arc → to ≡ end_of seps arc →
    path ≡ (reach_at reaches from).path → k ≤ length path → slice_index_or (starts seps path ++ from ∷ []) k 0 ≡ to →
    arcs ≡ take (length path - k) (drop k path) ++ arc ∷ [] → asked ≡ asked_by seps reaches arc →
    pos (value_at reaches to) <ℤ asked → IsPositiveCycle seps arcs
closes_at seps reaches from to arc k path arcs asked state within taken starts_there ends_there is_path k_within visited is_arcs is_asked more =
    let rest : arcs ≡ drop k (reach_at reaches (start_of seps arc)).path ++ arc ∷ [] =
    is_arcs ∙ ap (λ (xs : List CycleArc). xs ++ arc ∷ []) (take_all (length path - k) (drop k path) (omega (arith, length-drop k path)))
    ∙ ap (λ (xs : List CycleArc). drop k xs ++ arc ∷ []) (is_path ∙ ap (λ v. (reach_at reaches v).path) starts_there) in
    rw rest (closes seps reaches (start_of seps arc) arc k (state (start_of seps arc) (rw starts_there at within)) taken refl
    (rw (is_path, starts_there) at k_within) (rw (is_path, starts_there, ends_there) at visited) (rw (ends_there, is_asked) at more))

-- `rises`, by what the code has at hand
pub rises_at : (seps : List Sep) (reaches : List Reach) (from to : ℕ) (arc : CycleArc) (path longer : List CycleArc) (asked : ℤ) (value : ℕ) →
    IsState seps reaches → from < length reaches → to < length reaches → IsArc seps arc → from ≡ start_of seps arc →
    to ≡ end_of seps arc → path ≡ (reach_at reaches from).path → list_any (eqb to) (starts seps path ++ from ∷ []) ≡ false →
    longer ≡ path ++ arc ∷ [] → asked ≡ asked_by seps reaches arc → pos (value_at reaches to) <ℤ asked → value ≡ nat_abs asked →
    IsRaised seps reaches (slice_set reaches to (record { value = value; path = longer }))
rises_at seps reaches from to arc path longer asked value state from_within to_within taken starts_there ends_there is_path apart is_longer is_asked more is_value =
    let whole : asked ≡ pos value = omega (arith, ints) in
    let longer_is : longer ≡ (reach_at reaches (start_of seps arc)).path ++ arc ∷ [] =
    is_longer ∙ ap (λ (xs : List CycleArc). xs ++ arc ∷ []) (is_path ∙ ap (λ v. (reach_at reaches v).path) starts_there) in
    let above : value_at reaches (end_of seps arc) < value = let there : value_at reaches to ≡ value_at reaches (end_of seps arc) = ap (value_at reaches) ends_there in omega (arith, ints) in
    rw (longer_is, ends_there) (rises seps reaches (start_of seps arc) arc value state (rw starts_there at from_within) (rw ends_there at to_within) taken refl
    (sym is_asked ∙ whole) above (rw (is_path, starts_there, ends_there) at apart))
