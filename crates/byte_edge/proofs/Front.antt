-- Bytes from the front of a list: those that were copied into a buffer, and those that were written.
use Rattle.std.proofs.Common.{◌≡◌, ℕ, ◌+◌, ◌-◌, ◌<◌, ◌≤◌, ◌^◌, min, List, ◌++◌, length, take, drop, Some, None, Option, ap, sym, ◌∙◌, refl, [], arith, take-append-drop, length-drop}
use Rattle.std.proofs.lemmas.List.{take_at, length-take-le, drop-drop, append_assoc, append-nil, take-take, drop-take, take_rest}
use Rattle.std.specs.Io.KnownBytes.{append_known}
use Rattle.byte_edge.specs.Given.{Gives}
use Rattle.byte_edge.proofs.Counting.{count_on_within}

-- what stands at the front of a buffer after n bytes were copied there
pub take-given : (bytes buf old : List ℕ) (n : ℕ) → n ≤ length bytes → buf ≡ take n bytes ++ drop n old → take n buf ≡ take n bytes
take-given bytes buf old n fits is = rw is (take_at (take n bytes) (drop n old) n (length-take-le n bytes fits))

-- a source over memory gives the next n of its bytes
pub gives_next : (all buf old : List ℕ) (given n : ℕ) → n ≤ length (drop given all) → given + n < 2 ^ 64 → buf ≡ take n (drop given all) ++ drop n old
    → Gives (Some (drop given all)) (Some (drop (given + n) all)) given (given + n) (take n buf)
gives_next all buf old given n fits small is =
    let front = take-given (drop given all) buf old n fits is in
    let count : length (take n (drop given all)) ≡ n = length-take-le n (drop given all) fits in
    record {
      told = rw (front, ← drop-drop n given all, take-append-drop n (drop given all)) refl;
      counted = rw (front, count) (sym (count_on_within given n (omega arith)));
    }

-- The same, where the bytes were the rest of a list. A slice from an index to the end is shown as in the premise.
pub gives_rest : (all buf old : List ℕ) (given n : ℕ) → n ≡ min (length (take (length all - given) (drop given all))) (length old) → given ≤ length all → length all < 2 ^ 64
    → buf ≡ take n (take (length all - given) (drop given all)) ++ drop n old
    → Gives (Some (drop given all)) (Some (drop (given + n) all)) given (given + n) (take n buf)
gives_rest all buf old given n count within small is =
    let rest : take (length all - given) (drop given all) ≡ drop given all = take_rest all given in
    let fits : n ≤ length (drop given all) = let c : n ≡ min (length (drop given all)) (length old) = count ∙ ap (λ bytes. min (length bytes) (length old)) rest in omega (arith, c) in
    gives_next all buf old given n fits (omega (arith, length-drop given all)) (is ∙ ap (λ bytes. take n bytes ++ drop n old) rest)

-- The same, where at most so many bytes of the rest were offered.
pub gives_step : (all buf old : List ℕ) (given n step : ℕ) → n ≡ min (length (take (min (length (drop given all)) step) (drop given all))) (length old) → given + n < 2 ^ 64
    → buf ≡ take n (take (min (length (drop given all)) step) (drop given all)) ++ drop n old
    → Gives (Some (drop given all)) (Some (drop (given + n) all)) given (given + n) (take n buf)
gives_step all buf old given n step count small is =
    let offered : length (take (min (length (drop given all)) step) (drop given all)) ≡ min (length (drop given all)) step = length-take-le (min (length (drop given all)) step) (drop given all) (omega arith) in
    let within : n ≤ min (length (drop given all)) step = omega (arith, count, offered) in
    gives_next all buf old given n (omega (arith, within)) small (is ∙ ap (λ bytes. bytes ++ drop n old) (take-take n (min (length (drop given all)) step) (drop given all) within))

-- so many of the bytes were put, and nothing failed
pub record PutsSoFar (put put' : Option (List ℕ)) (faults faults' : ℕ) (bytes : List ℕ) (at : ℕ) : Type 0 where
  pub grown : put' ≡ append_known put (take at bytes)
  pub fits : at ≤ length bytes
  pub calm : faults' ≡ faults

-- nothing is put behind what is known
pub append_known-nil : (known : Option (List ℕ)) → known ≡ append_known known []
append_known-nil None = refl
append_known-nil (Some xs) = ap Some (sym (append-nil xs))

pub append_known-append_known : (known : Option (List ℕ)) (xs ys : List ℕ) → append_known (append_known known xs) ys ≡ append_known known (xs ++ ys)
append_known-append_known None xs ys = refl
append_known-append_known (Some zs) xs ys = ap Some (append_assoc zs xs ys)

-- the first bytes, and n more
pub take-append-take : (at n : ℕ) (bytes : List ℕ) → at + n ≤ length bytes → take at bytes ++ take n (drop at bytes) ≡ take (at + n) bytes
take-append-take at n bytes fits = rw (← drop-take at n bytes) (rw (← take-take at (at + n) bytes (omega arith)) (take-append-drop at (take (at + n) bytes)))

-- one more write
pub puts_more : (put put' put'' : Option (List ℕ)) (bytes : List ℕ) (at n : ℕ) → at + n ≤ length bytes → put' ≡ append_known put (take at bytes)
    → put'' ≡ append_known put' (take n (drop at bytes)) → put'' ≡ append_known put (take (at + n) bytes)
puts_more put put' put'' bytes at n fits before more =
    more ∙ ap (λ known. append_known known (take n (drop at bytes))) before ∙ append_known-append_known put (take at bytes) (take n (drop at bytes)) ∙ ap (append_known put) (take-append-take at n bytes fits)

-- One more write, as the loop sees it: it writes from an index to the end.
pub puts_more_from : (put put' put'' : Option (List ℕ)) (faults faults' faults'' : ℕ) (bytes : List ℕ) (at n : ℕ) → PutsSoFar put put' faults faults' bytes at
    → n ≤ length (take (length bytes - at) (drop at bytes)) → put'' ≡ append_known put' (take n (take (length bytes - at) (drop at bytes))) → faults'' ≡ faults'
    → PutsSoFar put put'' faults faults'' bytes (at + n)
puts_more_from put put' put'' faults faults' faults'' bytes at n so_far fits more calm =
    let rest : take (length bytes - at) (drop at bytes) ≡ drop at bytes = take_rest bytes at in
    let room : n ≤ length (drop at bytes) = rw rest at fits in
    let within : at + n ≤ length bytes = omega (arith, length-drop at bytes, so_far.fits) in
    record {
      grown = puts_more put put' put'' bytes at n within so_far.grown (more ∙ ap (λ piece. append_known put' (take n piece)) rest);
      fits = within;
      calm = calm ∙ so_far.calm;
    }
