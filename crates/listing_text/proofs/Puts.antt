-- Texts that are put piece by piece.
use Rattle.std.proofs.Common.{◌≡◌, ℕ, ◌+◌, ◌<◌, ◌≤◌, List, [], ◌++◌, length, take, Option, Some, None, Result, Ok, Err, refl, sym, ap, subst, ◌∙◌, append_assoc, arith, length-append}
use Rattle.std.proofs.lemmas.List.{append-nil, take-append-le}
use Rattle.std.proofs.Math.Seq.{take-append-add}
use Rattle.std.specs.Io.KnownBytes.{append_known}
use Rattle.byte_edge.specs.Count.{HasRisen}
use Rattle.byte_edge.specs.Taken.{TakesPart}
use Rattle.byte_edge.specs.declared.sink.SinkStop.{SinkStop}
use Rattle.byte_edge.specs.declared.sink.SinkStop.TheVariants as stop
use Rattle.listing_text.specs.Putting.{Puts}

-- some of the text was put, the rest is to come, and nothing failed
pub record PutsSoFar (put put' : Option (List ℕ)) (faults faults' : ℕ) (text rest : List ℕ) : Type 0 where
  pub done : List ℕ
  pub grown : put' ≡ append_known put done
  pub split : text ≡ done ++ rest
  pub calm : faults' ≡ faults

append_known-nil : (known : Option (List ℕ)) → known ≡ append_known known []
append_known-nil None = refl
append_known-nil (Some xs) = ap Some (sym (append-nil xs))

append_known-append_known : (known : Option (List ℕ)) (xs ys : List ℕ) → append_known (append_known known xs) ys ≡ append_known known (xs ++ ys)
append_known-append_known None xs ys = refl
append_known-append_known (Some zs) xs ys = ap Some (append_assoc zs xs ys)

pub at_start : (put : Option (List ℕ)) (faults : ℕ) (text : List ℕ) → PutsSoFar put put faults faults text text
at_start put faults text = record { done = []; grown = append_known-nil put; split = refl; calm = refl }

-- a piece more
pub one_more : (put put' put'' : Option (List ℕ)) (faults faults' faults'' : ℕ) (text rest piece rest' : List ℕ)
    → PutsSoFar put put' faults faults' text rest → rest ≡ piece ++ rest' → put'' ≡ append_known put' piece → faults'' ≡ faults'
    → PutsSoFar put put'' faults faults'' text rest'
one_more put put' put'' faults faults' faults'' text rest piece rest' so_far split grown calm = record {
  done = so_far.done ++ piece;
  grown = grown ∙ ap (λ known. append_known known piece) so_far.grown ∙ append_known-append_known put so_far.done piece;
  split = so_far.split ∙ ap (λ bytes. so_far.done ++ bytes) split ∙ sym (append_assoc so_far.done piece rest');
  calm = calm ∙ so_far.calm;
}

-- a part of a piece, behind those before it, is a part of the text
part_of : (done piece rest : List ℕ) (n : ℕ) → n < length piece → take (length done + n) (done ++ (piece ++ rest)) ≡ done ++ take n piece
part_of done piece rest n short = take-append-add done (piece ++ rest) n ∙ ap (λ bytes. done ++ bytes) (take-append-le n piece rest (omega (arith, short)))

takes_part : (put put' put'' : Option (List ℕ)) (text done piece rest : List ℕ) → put' ≡ append_known put done → text ≡ done ++ (piece ++ rest)
    → TakesPart put' put'' piece → TakesPart put put'' text
takes_part put put' put'' text done piece rest grown split part =
    let count : length text ≡ length done + (length piece + length rest) = ap length split ∙ length-append done (piece ++ rest) ∙ ap (λ n. length done + n) (length-append piece rest) in
    let front : take (length done + part.0) text ≡ done ++ take part.0 piece = ap (λ bytes. take (length done + part.0) bytes) split ∙ part_of done piece rest part.0 part.1 in (
      length done + part.0,
      omega (arith, count, part.1),
      part.2 ∙ ap (λ known. append_known known (take part.0 piece)) grown ∙ append_known-append_known put done (take part.0 piece) ∙ ap (append_known put) (sym front),
    )

-- a stop in a piece
pub stopped : (put put' put'' : Option (List ℕ)) (faults faults' faults'' : ℕ) (text rest piece rest' : List ℕ) (why : SinkStop)
    → PutsSoFar put put' faults faults' text rest → rest ≡ piece ++ rest' → Puts put' put'' faults' faults'' piece (Err why)
    → Puts put put'' faults faults'' text (Err why)
stopped put put' put'' faults faults' faults'' text rest piece rest' why so_far split puts = record {
  whole = tt;
  part = takes_part put put' put'' text so_far.done piece rest' so_far.grown (so_far.split ∙ ap (λ bytes. so_far.done ++ bytes) split) puts.part;
  calm = tt;
  failed = λ is. subst (λ n. HasRisen n faults'') so_far.calm (puts.failed is);
  memory_calm = λ is. puts.memory_calm is ∙ so_far.calm;
  never_falls = subst (λ n. n ≤ faults'') so_far.calm puts.never_falls;
}

-- a stop before anything was put
pub no_memory : (put : Option (List ℕ)) (faults : ℕ) (text : List ℕ) → 0 < length text → Puts put put faults faults text (Err stop.Memory)
no_memory put faults text some = record {
  whole = tt;
  part = (0, some, append_known-nil put);
  calm = tt;
  failed = λ is. absurd cc;
  memory_calm = λ _. refl;
  never_falls = omega arith;
}

-- all of it was put
pub at_end : (put put' : Option (List ℕ)) (faults faults' : ℕ) (text rest : List ℕ) → PutsSoFar put put' faults faults' text rest → rest ≡ []
    → Puts put put' faults faults' text (Ok tt)
at_end put put' faults faults' text rest so_far none = record {
  whole = so_far.grown ∙ ap (append_known put) (sym (append-nil so_far.done) ∙ ap (λ bytes. so_far.done ++ bytes) (sym none) ∙ sym so_far.split);
  part = tt;
  calm = so_far.calm;
  failed = λ is. absurd cc;
  memory_calm = λ is. absurd cc;
  never_falls = omega (arith, so_far.calm);
}

-- the last piece
pub last_piece : (put put' put'' : Option (List ℕ)) (faults faults' faults'' : ℕ) (text piece : List ℕ) (answer : Result Unit SinkStop)
    → PutsSoFar put put' faults faults' text piece → Puts put' put'' faults' faults'' piece answer → Puts put put'' faults faults'' text answer
last_piece put put' put'' faults faults' faults'' text piece (Ok tt) so_far puts =
    at_end put put'' faults faults'' text [] (one_more put put' put'' faults faults' faults'' text piece piece [] so_far (sym (append-nil piece)) puts.whole puts.calm) refl
last_piece put put' put'' faults faults' faults'' text piece (Err why) so_far puts =
    stopped put put' put'' faults faults' faults'' text piece piece [] why so_far (sym (append-nil piece)) puts
