-- What a source gave so far, when it is read in turns.
use Rattle.std.proofs.Common.{◌≡◌, ℕ, ◌+◌, ◌≤◌, List, ◌++◌, length, take, Some, None, Option, ap, sym, ◌∙◌, refl, length-append}
use Rattle.std.proofs.lemmas.List.{append_assoc, length-take-le}
use Rattle.std.specs.Io.KnownBytes.{prepend_known}
use Rattle.byte_edge.specs.Count.{count_on}
use Rattle.byte_edge.specs.Given.{Gives}
use Rattle.byte_edge.proofs.Counting.{count_on-add}

-- these bytes were given, within the limit, and nothing failed
pub record GivesSoFar (limit : ℕ) (left left' : Option (List ℕ)) (given given' faults faults' : ℕ) (bytes : List ℕ) : Type 0 where
  pub gives : Gives left left' given given' bytes
  pub short : length bytes ≤ limit
  pub calm : faults' ≡ faults

-- known bytes behind others, and those behind others again
pub prepend_known-prepend_known : (xs ys : List ℕ) (known : Option (List ℕ)) → prepend_known xs (prepend_known ys known) ≡ prepend_known (xs ++ ys) known
prepend_known-prepend_known xs ys None = refl
prepend_known-prepend_known xs ys (Some zs) = ap Some (sym (append_assoc xs ys zs))

-- what a source gives in two turns
pub gives-append : (left left' left'' : Option (List ℕ)) (given given' given'' : ℕ) (xs ys : List ℕ)
    → Gives left left' given given' xs → Gives left' left'' given' given'' ys → Gives left left'' given given'' (xs ++ ys)
gives-append left left' left'' given given' given'' xs ys first second = record {
  told = first.told ∙ ap (prepend_known xs) second.told ∙ prepend_known-prepend_known xs ys left'';
  counted = second.counted ∙ ap (λ count. count_on count (length ys)) first.counted ∙ count_on-add given (length xs) (length ys) ∙ ap (count_on given) (sym (length-append xs ys));
}

-- the front of a buffer was given behind other bytes
pub gives-more : (left left' left'' : Option (List ℕ)) (given given' given'' : ℕ) (bytes buf : List ℕ) (n : ℕ) → n ≤ length buf
    → Gives left left' given given' bytes → Gives left' left'' given' given'' (take n buf)
    → (length (bytes ++ take n buf) ≡ length bytes + n) × Gives left left'' given given'' (bytes ++ take n buf)
gives-more left left' left'' given given' given'' bytes buf n fits before more = (
  length-append bytes (take n buf) ∙ ap (λ count. length bytes + count) (length-take-le n buf fits),
  gives-append left left' left'' given given' given'' bytes (take n buf) before more,
)
