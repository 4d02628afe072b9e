-- The table of the words of commands.
use Rattle.std.proofs.Common.{◌≡◌, ℕ, suc, Bool, true, false, cond, List, [], ◌∷◌, map, Option, Some, None, refl, sym, ap}
use Rattle.std.specs.Prelude.{bytes_eq}
use Rattle.std.specs.List.{slice_get}
use Rattle.std.proofs.lemmas.Slice.Eq.{bytes_eq-Decides}
use Rattle.script_text.specs.Words.{Word}
use Rattle.script_text.specs.Keywords.{keyword_word, all_keywords}
use Rattle.script_text.specs.Reading.{keyword_among, keyword_of}
use Rattle.script_text.specs.declared.keywords.Keyword.{Keyword}
use Rattle.script_text.specs.declared.keywords.Keyword.TheVariants as keyword

-- the word of a command is its own, a line for each
pub keyword_again : (k : Keyword) → keyword_of (keyword_word k) ≡ Some k
keyword_again keyword.Box = refl
keyword_again keyword.Oval = refl
keyword_again keyword.Diamond = refl
keyword_again keyword.Size = refl
keyword_again keyword.Move = refl
keyword_again keyword.Shift = refl
keyword_again keyword.Hold = refl
keyword_again keyword.Free = refl
keyword_again keyword.Remove = refl
keyword_again keyword.Link = refl
keyword_again keyword.Unlink = refl
keyword_again keyword.Guide = refl
keyword_again keyword.Align = refl
keyword_again keyword.Spread = refl
keyword_again keyword.Rank = refl
keyword_again keyword.Apart = refl
keyword_again keyword.Group = refl
keyword_again keyword.Page = refl
keyword_again keyword.Drop = refl
keyword_again keyword.Undo = refl
keyword_again keyword.Layout = refl
keyword_again keyword.Where = refl

same_some : {A : Type 0} (x y : A) → let f : A → Option A = (λ z. Some z) in f x ≡ f y → x ≡ y
same_some x y e = cc

sound_by : (b : Bool) (k x : Keyword) (r : Option Keyword) (w : Word) → (b ≡ true → w ≡ keyword_word k) → (r ≡ Some x → w ≡ keyword_word x) → cond b (Some k) r ≡ Some x → w ≡ keyword_word x
sound_by true k x r w is rest e = rw (← same_some k x e) (is refl)
sound_by false k x r w is rest e = rest e

among_sound : (ks : List Keyword) (w : Word) (k : Keyword) → keyword_among ks w ≡ Some k → w ≡ keyword_word k
among_sound [] w x e = absurd cc
among_sound (k ∷ ks) w x e = sound_by (bytes_eq w (keyword_word k)) k x (keyword_among ks w) w (bytes_eq-Decides w (keyword_word k)).0 (among_sound ks w x) e

pub keyword_sound : (w : Word) (k : Keyword) → keyword_of w ≡ Some k → w ≡ keyword_word k
keyword_sound w k e = among_sound all_keywords w k e

none_by : (b : Bool) (k : Keyword) (r : Option Keyword) → (b ≡ true → ⊥) → r ≡ None → cond b (Some k) r ≡ None
none_by true k r other e = absurd (other refl)
none_by false k r other e = e

among_none : (ks : List Keyword) (w : Word) → ((row : ℕ) → slice_get (map keyword_word ks) row ≡ Some w → ⊥) → keyword_among ks w ≡ None
among_none [] w other = refl
among_none (k ∷ ks) w other =
    none_by (bytes_eq w (keyword_word k)) k (keyword_among ks w) (λ e. other 0 (ap (λ (v : Word). Some v) (sym ((bytes_eq-Decides w (keyword_word k)).0 e)))) (among_none ks w (λ row e. other (suc row) e))

no_row : (r : Option ℕ) (n : ℕ) → r ≡ None → r ≡ Some n → ⊥
no_row r n e f = absurd cc

-- a word that stands in no row is that of no command
pub no_keyword : (table : List Word) (r : Option ℕ) (w : Word) → table ≡ map keyword_word all_keywords → ((row : ℕ) → slice_get table row ≡ Some w → r ≡ Some row) → r ≡ None → keyword_of w ≡ None
no_keyword table r w t own none = among_none all_keywords w (λ row e. no_row r row none (own row (rw t e)))
