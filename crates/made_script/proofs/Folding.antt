-- Steps are taken one after the other.
use Rattle.std.proofs.Common.{◌≡◌, ℕ, suc, ◌+◌, List, [], ◌∷◌, ◌++◌, refl, sym, ap, ◌∙◌, add-one}
use Rattle.std.specs.Prelude.{fold}
use Rattle.std.proofs.lemmas.List.Sums.{fold-append}
use Rattle.made_script.specs.declared.steps.Kind.{Kind}
use Rattle.made_script.specs.declared.steps.Kind.TheVariants as kind
use Rattle.made_script.specs.Made.{Making, Step, numbered, rounds, with_step, steps, made_lines}

-- steps behind other ones
then : (from to more : Making) (xs ys : List Step) → to ≡ fold with_step from xs → more ≡ fold with_step to ys → more ≡ fold with_step from (xs ++ ys)
then from to more xs ys first second = second ∙ ap (λ m. fold with_step m ys) first ∙ sym (fold-append with_step from xs ys)

pub numbered_none : (m : Making) (k : Kind) → m ≡ fold with_step m (numbered k 0)
unfolding numbered
numbered_none m k = refl

pub rounds_none : (m : Making) → m ≡ fold with_step m (rounds 0)
unfolding rounds
rounds_none m = refl

numbered-suc : (k : Kind) (n : ℕ) → numbered k (suc n) ≡ numbered k n ++ (k, n + 1) ∷ []
unfolding numbered
numbered-suc k n = refl

rounds-suc : (n : ℕ) → rounds (suc n) ≡ rounds n ++ numbered kind.Move 5 ++ numbered kind.Layout 1
unfolding rounds
rounds-suc n = refl

-- a step of the kind more
pub one_more : (from to more : Making) (k : Kind) (n : ℕ) → to ≡ fold with_step from (numbered k n) → more ≡ with_step to (k, n + 1) → more ≡ fold with_step from (numbered k (n + 1))
one_more from to more k n is step =
    then from to more (numbered k n) ((k, n + 1) ∷ []) is step ∙ ap (λ (xs : List Step). fold with_step from xs) (sym (numbered-suc k n) ∙ ap (numbered k) (sym (add-one n)))

-- a round more
pub round_more : (from to moved more : Making) (n : ℕ) → to ≡ fold with_step from (rounds n) → moved ≡ fold with_step to (numbered kind.Move 5)
    → more ≡ fold with_step moved (numbered kind.Layout 1) → more ≡ fold with_step from (rounds (n + 1))
round_more from to moved more n is first second =
    then from moved more (rounds n ++ numbered kind.Move 5) (numbered kind.Layout 1) (then from to moved (rounds n) (numbered kind.Move 5) is first) second
    ∙ ap (λ (xs : List Step). fold with_step from xs) (sym (rounds-suc n) ∙ ap rounds (sym (add-one n)))

-- all sections, one behind the other
sections : (a b c d e f g h i : Making) → b ≡ fold with_step a (numbered kind.Box 96) → c ≡ fold with_step b (numbered kind.Guide 8)
    → d ≡ fold with_step c (numbered kind.Link 120) → e ≡ fold with_step d (numbered kind.Align 8) → f ≡ fold with_step e (numbered kind.Apart 60)
    → g ≡ fold with_step f (rounds 8) → h ≡ fold with_step g (numbered kind.Undo 3) → i ≡ fold with_step h (numbered kind.Layout 1)
    → i ≡ fold with_step a steps
unfolding steps
sections a b c d e f g h i ab bc cd de ef fg gh hi =
    let x1 = numbered kind.Box 96 in
    let x2 = x1 ++ numbered kind.Guide 8 in
    let x3 = x2 ++ numbered kind.Link 120 in
    let x4 = x3 ++ numbered kind.Align 8 in
    let x5 = x4 ++ numbered kind.Apart 60 in
    let x6 = x5 ++ rounds 8 in
    let x7 = x6 ++ numbered kind.Undo 3 in
    let ac : c ≡ fold with_step a x2 = then a b c x1 (numbered kind.Guide 8) ab bc in
    let ad : d ≡ fold with_step a x3 = then a c d x2 (numbered kind.Link 120) ac cd in
    let ae : e ≡ fold with_step a x4 = then a d e x3 (numbered kind.Align 8) ad de in
    let af : f ≡ fold with_step a x5 = then a e f x4 (numbered kind.Apart 60) ae ef in
    let ag : g ≡ fold with_step a x6 = then a f g x5 (rounds 8) af fg in
    let ah : h ≡ fold with_step a x7 = then a g h x6 (numbered kind.Undo 3) ag gh in
    then a h i x7 (numbered kind.Layout 1) ah hi

-- so the lines of the last are those of the script
pub all_made : (number : ℕ) (a b c d e f g h i : Making) → a ≡ record { state = number; lines = [] } → b ≡ fold with_step a (numbered kind.Box 96)
    → c ≡ fold with_step b (numbered kind.Guide 8) → d ≡ fold with_step c (numbered kind.Link 120) → e ≡ fold with_step d (numbered kind.Align 8)
    → f ≡ fold with_step e (numbered kind.Apart 60) → g ≡ fold with_step f (rounds 8) → h ≡ fold with_step g (numbered kind.Undo 3)
    → i ≡ fold with_step h (numbered kind.Layout 1) → i.lines ≡ made_lines number
unfolding made_lines
all_made number a b c d e f g h i start ab bc cd de ef fg gh hi =
    ap (λ (m : Making). m.lines) (sections a b c d e f g h i ab bc cd de ef fg gh hi) ∙ ap (λ (m : Making). (fold with_step m steps).lines) start
