-- Relaxations one after another.
use Rattle.std.proofs.Common.{◌≡◌, ℕ, ◌+◌, ◌<◌, ◌≤◌, List, length, Bool, true, false, MatchBool, sym, ap, ◌∙◌, arith, subst, ⊎_elim}
use Rattle.std.proofs.lemmas.Bool.{cases_eq}
use Rattle.std.proofs.lemmas.List.Elements.{All-from_get_or}
use Rattle.units.specs.declared.geometry.Sep.{Sep}
use Rattle.units.specs.Separation.{Satisfies, SatisfiesAll, separation_at, no_separation}
use Rattle.cycle_test.specs.declared.reach.Reach.{Reach}
use Rattle.cycle_test.specs.declared.reach.Relaxation.{Relaxation}
use Rattle.cycle_test.specs.declared.reach.Relaxation.TheVariants.{AtRest}
use Rattle.cycle_test.specs.Search.{values, IsState, IsRaised, IsRelaxation}

-- after the first k separations were tried: nothing changed and they are satisfied, or some value rose
abbrev pub IsSwept : List Sep → List Reach → List Reach → Bool → ℕ → Type 0
IsSwept seps old new raised k =
    MatchBool raised (IsRaised seps old new) ((new ≡ old) × ((j : ℕ) → j < k → Satisfies (values old) 1 (separation_at seps j)))

-- nothing changed
pub state_same : (seps : List Sep) (old new : List Reach) → new ≡ old → IsState seps old → IsState seps new
state_same seps old new same state = subst (IsState seps) (sym same) state

pub same_at_rest : (seps : List Sep) (old new : List Reach) (Rests : Type 0) (relaxation : Relaxation) →
    IsRelaxation seps old new Rests relaxation → relaxation ≡ AtRest → new ≡ old
same_at_rest seps old new Rests relaxation told is = (subst (IsRelaxation seps old new Rests) is told).0

-- rises one after another
raised_twice : (seps : List Sep) (first second third : List Reach) → IsRaised seps first second → IsRaised seps second third →
    IsRaised seps first third
raised_twice seps first second third one other = record {
  same_length = other.same_length ∙ one.same_length;
  state = other.state;
  more = omega (arith, one.more, other.more);
}

pub swept_state : (seps : List Sep) (old new : List Reach) (raised : Bool) (k : ℕ) → IsState seps old →
    IsSwept seps old new raised k → IsState seps new
swept_state seps old new true k state swept = swept.state
swept_state seps old new false k state swept = state_same seps old new swept.0 state

pub swept_length : (seps : List Sep) (old new : List Reach) (raised : Bool) (k : ℕ) → IsSwept seps old new raised k →
    length new ≡ length old
swept_length seps old new true k swept = swept.same_length
swept_length seps old new false k swept = ap (λ (xs : List Reach). length xs) swept.0

-- one separation more, at rest
pub swept_rest : (seps : List Sep) (old mid new : List Reach) (raised : Bool) (k : ℕ) → IsSwept seps old mid raised k →
    (new ≡ mid) × Satisfies (values mid) 1 (separation_at seps k) → IsSwept seps old new raised (k + 1)
swept_rest seps old mid new true k swept rest = subst (λ (xs : List Reach). IsRaised seps old xs) (sym rest.0) swept
swept_rest seps old mid new false k swept rest = (
  rest.0 ∙ swept.0,
  λ j below.
      ⊎_elim
      (λ same. subst (λ (i : ℕ). Satisfies (values old) 1 (separation_at seps i)) (sym same) (subst (λ (xs : List Reach). Satisfies (values xs) 1 (separation_at seps k)) swept.0 rest.1))
      (λ other. swept.1 j (omega arith))
      (cases_eq j k),
)

-- one separation more, and a value rose
pub swept_rise : (seps : List Sep) (old mid new : List Reach) (raised : Bool) (k : ℕ) → IsSwept seps old mid raised k →
    IsRaised seps mid new → IsSwept seps old new true (k + 1)
swept_rise seps old mid new true k swept rise = raised_twice seps old mid new swept rise
swept_rise seps old mid new false k swept rise = subst (λ (xs : List Reach). IsRaised seps xs new) swept.0 rise

-- the whole list
pub swept_raised : (seps : List Sep) (old new : List Reach) (raised : Bool) (k : ℕ) → raised ≡ true →
    IsSwept seps old new raised k → IsRaised seps old new
swept_raised seps old new raised k is swept = subst (λ (was : Bool). IsSwept seps old new was k) is swept

pub swept_at_rest : (seps : List Sep) (old new : List Reach) (raised : Bool) (k : ℕ) → raised ≡ false → length seps ≤ k →
    IsSwept seps old new raised k → (new ≡ old) × SatisfiesAll (values old) 1 seps
swept_at_rest seps old new raised k is all swept =
    let rest = subst (λ (was : Bool). IsSwept seps old new was k) is swept in
    (rest.0, All-from_get_or (λ separation. Satisfies (values old) 1 separation) seps no_separation (λ j below. rest.1 j (omega arith)))
