-- Fronts that no reply is beyond.
use Rattle.std.proofs.Common.{◌≡◌, ℕ, ◌<◌, ◌≤◌, ◌+◌, List, length, take, ap, ◌∙◌, arith, subst, All, Option, Some, None, get_or}
use Rattle.std.specs.Prelude.{MatchOption, ⊤}
use Rattle.std.proofs.lemmas.List.Elements.{All-weaker, All-more}
use Rattle.std.proofs.Math.Seq.{take-length}
use Rattle.doc_book.specs.declared.replies.Reply.{Reply}
use Rattle.doc_book.specs.Replies.{after_of}
use Rattle.concurrent_run.specs.declared.elements.Session.{Session}
use Rattle.concurrent_run.specs.Leading.{AllBefore}

replies_before : (a b : ℕ) (r : Option (List Reply)) → a ≤ b → MatchOption r ⊤ (λ rs. All (λ (r : Reply). after_of r ≤ a) rs) → MatchOption r ⊤ (λ rs. All (λ (r : Reply). after_of r ≤ b) rs)
replies_before a b None l h = tt
replies_before a b (Some rs) l h = All-weaker (λ (r : Reply). after_of r ≤ a) (λ (r : Reply). after_of r ≤ b) (λ r p. omega (arith, p, l)) rs h

pub before_later : (a b : ℕ) (s : Session) → a ≤ b → AllBefore a s → AllBefore b s
before_later a b s l h = replies_before a b s.replies l h

pub all_taken : {A : Type 0} (P : A → Type 0) (xs : List A) (n : ℕ) → length xs ≤ n → n ≤ length xs → All P (take n xs) → All P xs
all_taken P xs n low high all = let e : n ≡ length xs = omega (arith, low, high) in subst (λ z. All P z) (ap (λ k. take k xs) e ∙ take-length xs) all

pub more_replies : (xs : List Reply) (i a b m : ℕ) (d : Reply) → i < length xs → All (λ (r : Reply). after_of r ≤ a) (take i xs) → b ≡ after_of (get_or xs i d) → a ≤ m → b ≤ m → All (λ (r : Reply). after_of r ≤ m) (take (i + 1) xs)
more_replies xs i a b m d within all is la lb =
    All-more (λ (r : Reply). after_of r ≤ m) xs i d within (All-weaker (λ (r : Reply). after_of r ≤ a) (λ (r : Reply). after_of r ≤ m) (λ r p. omega (arith, p, la)) (take i xs) all) (omega (arith, is, lb))

pub more_sessions : (xs : List Session) (i a b m : ℕ) (d : Session) → i < length xs → All (AllBefore a) (take i xs) → AllBefore b (get_or xs i d) → a ≤ m → b ≤ m → All (AllBefore m) (take (i + 1) xs)
more_sessions xs i a b m d within all is la lb =
    All-more (AllBefore m) xs i d within (All-weaker (AllBefore a) (AllBefore m) (λ s p. before_later a m s la p) (take i xs) all) (before_later b m (get_or xs i d) lb is)
