use Rattle.std.proofs.Common.{◌≡◌, ◌<◌, ◌≤◌, rules, ℕ, ℤ, neg_ℤ, nat_abs, List, length, get_or, set, length-set, sym, ◌∙◌, subst, Bool, true, false, eqb, eqb-true, refl, arith}
use Rattle.std.proofs.lemmas.Bool.{eqb-false}
use Rattle.std.proofs.lemmas.Int.{ints}
use Rattle.std.proofs.lemmas.List.{get_or-set_same, get_or-set_other}
use Rattle.units.specs.declared.geometry.Sep.{Sep}
use Rattle.units.specs.Problem.{Problem, IsBounded, IsSeparation}
use Rattle.units.specs.Separation.{no_separation, separation_at}
use Rattle.vpsc_solve.specs.Mirror.{turned_separation, turned_problem}
use Rattle.vpsc_solve.proofs.mirror.turned_problem.Goals as goal

turned-sound : (n : ℕ) (s : Sep) → IsSeparation n s → IsSeparation n (turned_separation s)
turned-sound n s h = record { left = h.right; right = h.left; apart = λ e. h.apart (sym e); gap = opposite s.gap h.gap }
  where
    opposite : (g : ℤ) → nat_abs g ≤ 1000000 → nat_abs (neg_ℤ g) ≤ 1000000
    opposite g h = omega (arith, ints, h)

all-sound : (n : ℕ) (ss : List Sep) (v : ℕ) (t : Sep) → IsSeparation n t → ((k : ℕ) (d : Sep) → k < length ss → IsSeparation n (get_or ss k d)) → (k : ℕ) (d : Sep) → k < length (set ss v t) → IsSeparation n (get_or (set ss v t) k d)
all-sound n ss v t here h k d b = by_case (eqb k v) refl
  where
    within : k < length ss
    within = subst (λ m. k < m) (length-set ss v t) b

    by_case : (c : Bool) → eqb k v ≡ c → IsSeparation n (get_or (set ss v t) k d)
    by_case true q = let e = eqb-true k v q in
        subst (λ s. IsSeparation n s) (sym (subst (λ i. get_or (set ss v t) i d ≡ t) (sym e) (get_or-set_same ss v t d (subst (λ i. i < length ss) e within)))) here
    by_case false q = subst (λ s. IsSeparation n s) (sym (get_or-set_other ss v k t d (eqb-false k v q))) (h k d within)

turned-bounded : (p : Problem) (v : ℕ) → v < length p.separations → IsBounded p → IsBounded (turned_problem p v)
turned-bounded p v b h = record {
  as_long = h.as_long;
  variables = h.variables;
  weighted = h.weighted;
  near = h.near;
  count = subst (λ n. n ≤ 2048) (sym (length-set p.separations v (turned_separation (separation_at p.separations v)))) h.count;
  sound = all-sound (length p.desired) p.separations v (turned_separation (separation_at p.separations v)) (turned-sound (length p.desired) (separation_at p.separations v) (h.sound v no_separation b)) h.sound;
}

-- the problem that is made, of copies of its lists
made : (p : Problem) (v : ℕ) (weights : List ℕ) (desired : List ℤ) (copied read : List Sep) (t : Sep) → weights ≡ p.weights → desired ≡ p.desired → copied ≡ p.separations → read ≡ p.separations → t ≡ turned_separation (separation_at read v)
    → record { weights = weights; desired = desired; separations = set copied v t } ≡ turned_problem p v
made p v weights desired copied read t ew ed ec er et = rw (ew, ed, ec, et, er) refl

pub turned-requires : goal.turned-requires
turned-requires c = subst (λ (ss : List Sep). nat_abs (separation_at ss c.args.number).gap ≤ 1000000) (sym c.seps-2.ensures.value) (c.seps-2.ensures.bounded.sound c.args.number no_separation c.requires).gap

pub bounds-seps-number : goal.bounds-seps-number
bounds-seps-number c = subst (λ (ss : List Sep). c.args.number < length ss) (sym c.seps-2.ensures.value) c.requires

pub new-requires : goal.new-requires
new-requires c =
    let w : c.in_ok-weights.weights.items ≡ c.args.problem.now.weights = c.in_ok-weights.ensures.items_if_clones_equal (search rules) ∙ c.weights.ensures.value in
    let d : c.in_ok-desired.desired.items ≡ c.args.problem.now.desired = c.in_ok-desired.ensures.items_if_clones_equal (search rules) ∙ c.desired.ensures.value in
    let s : c.in_ok-seps.seps.items ≡ c.args.problem.now.separations = c.in_ok-seps.ensures.items_if_clones_equal (search rules) ∙ c.seps.ensures.value in
    subst (λ (p : Problem). IsBounded p) (sym (made c.args.problem.now c.args.number c.in_ok-weights.weights.items c.in_ok-desired.desired.items c.in_ok-seps.seps.items c.seps-2.result.now c.turned.result w d s c.seps-2.ensures.value c.turned.ensures))
    (turned-bounded c.args.problem.now c.args.number c.requires c.seps-2.ensures.bounded)

pub returns : goal.returns
returns c =
    let w : c.in_ok-weights.weights.items ≡ c.args.problem.now.weights = c.in_ok-weights.ensures.items_if_clones_equal (search rules) ∙ c.weights.ensures.value in
    let d : c.in_ok-desired.desired.items ≡ c.args.problem.now.desired = c.in_ok-desired.ensures.items_if_clones_equal (search rules) ∙ c.desired.ensures.value in
    let s : c.in_ok-seps.seps.items ≡ c.args.problem.now.separations = c.in_ok-seps.ensures.items_if_clones_equal (search rules) ∙ c.seps.ensures.value in
    c.new.ensures ∙ made c.args.problem.now c.args.number c.in_ok-weights.weights.items c.in_ok-desired.desired.items c.in_ok-seps.seps.items c.seps-2.result.now c.turned.result w d s c.seps-2.ensures.value c.turned.ensures
