-- The script of a number: a diagram with all its lines, made by draws (the form is this project's own).
use Rattle.std.specs.Prelude.{ℕ, zero, suc, ◌+◌, List, [], ◌∷◌, ◌++◌, fold, length}
use Rattle.script_text.specs.declared.scripts.Line.{Line}
use Rattle.made_script.specs.declared.steps.Kind.{Kind}
use Rattle.made_script.specs.declared.steps.Kind.TheVariants as kind
use Rattle.made_script.specs.Draws.{after}
use Rattle.made_script.specs.Steps.{command_of, draws_of}

-- a script in the making: the state of the draws, and the lines so far
pub record Making : Type 0 where
  pub state : ℕ
  pub lines : List Line

-- a line to make: its kind, and its number among those of its kind
abbrev pub Step : Type 0
Step = Kind × ℕ

-- with the line of a step behind the others; the first command line has number 2, and session 1 plays all
abbrev pub with_step : Making → Step → Making
with_step making step = record {
  state = after (draws_of step.0) making.state;
  lines = making.lines ++ record { number = length making.lines + 2; session = 1; command = command_of step.0 step.1 making.state } ∷ [];
}

-- the steps of a kind, numbered from 1 to n
unfoldable pub numbered : Kind → ℕ → List Step
numbered kind zero = []
numbered kind (suc n) = numbered kind n ++ (kind, n + 1) ∷ []

-- so many rounds of five moves and a layout
unfoldable pub rounds : ℕ → List Step
rounds zero = []
rounds (suc n) = rounds n ++ numbered kind.Move 5 ++ numbered kind.Layout 1

-- 96 boxes, 8 guidelines, 120 links, 8 alignments, 60 separations, 40 moves with a layout behind each five, three times
-- undo, and a layout
unfoldable pub steps : List Step
steps =
    numbered kind.Box 96 ++ numbered kind.Guide 8 ++ numbered kind.Link 120 ++ numbered kind.Align 8 ++ numbered kind.Apart 60
    ++ rounds 8 ++ numbered kind.Undo 3 ++ numbered kind.Layout 1

-- the command lines of the script of a number, which is the first state
unfoldable pub made_lines : ℕ → List Line
made_lines number = (fold with_step (record { state = number; lines = [] }) steps).lines
