-- Each pass owns the places of its caller's entries, each once.
use Rattle.std.proofs.Common.{◌≡◌, ◌≢◌, ℕ, ◌<◌, ◌≤◌, List, [], Some, All, length, sym, ap, ◌∙◌, subst, arith, slice_get, slice_index_or}
use Rattle.std.specs.List.{AllByRecursion}
use Rattle.std.proofs.lemmas.List.{get_or-map, length-map}
use Rattle.std.proofs.Math.Decide.{dec_lt}
use mathlib.Core.Logic.{dite}
use native.Mathlib.Decide.{ℕ_discrete}
use Rattle.turn_table.specs.Counting.{occurrences}
use Rattle.turn_table.specs.States.{Opened}
use Rattle.doc_book.specs.declared.desks.Terms.{Terms}
use Rattle.doc_book.specs.declared.entries.Entry.{Entry}
use Rattle.doc_book.specs.Replies.{own_places}
use Rattle.shared_book.specs.Held.{Held, OwnedOnce, owns, whos_of}
use Rattle.concurrent_run.proofs.Rising.{Rises, rises_apart, of_each}
use Rattle.concurrent_run.proofs.Owners.{own_here, own_else, own_past}

-- an entry by this caller stands at the place
pub record IsBy (h : List Entry) (who k : ℕ) : Type 0 where
  pub entry : Entry
  pub stands : slice_get h k ≡ Some entry
  pub by_who : entry.who ≡ who

-- each own place of the pass holds an entry by its caller
abbrev pub OwnsByIt : List Entry → Held → Type 0
OwnsByIt h p = AllByRecursion (IsBy h p.who) p.own

-- the pass owns the places of its caller's entries, each once
abbrev pub OwnsAll : List Entry → Held → Type 0
OwnsAll h p = (k : ℕ) → occurrences k p.own ≡ occurrences k (own_places h p.who)

module _ (book : Opened Entry Terms) (h : List Entry) (passes : List Held) (new : book.entries ≡ []) (owned : OwnedOnce book h passes) where
  opened_at : (k : ℕ) → length book.entries ≤ k
  opened_at k = let none : length book.entries ≡ 0 = ap length new in omega (arith, none)

  -- what holds of each pass's own places holds of each place
  pub of_owner : (P : ℕ → Type 0) (d : Held) → All (λ (p : Held). AllByRecursion P p.own) passes → (k : ℕ) → k < length h → P k
  of_owner P d all k lt =
      let o = owned.since_opening k (opened_at k) lt in let one = o.one d in
      of_each P k (slice_index_or passes o.index d).own (all o.index d o.within) (omega (arith, one))

  module _ (rising : Rises 0 (whos_of passes)) (by_it : All (OwnsByIt h) passes) where
    who_at : (i : ℕ) (d : Held) → i < length passes → slice_index_or (whos_of passes) i d.who ≡ (slice_index_or passes i d).who
    who_at i d lt = get_or-map (λ (p : Held). p.who) passes i d d.who lt

    whos_differ : (i j : ℕ) (d : Held) → i < length passes → j < length passes → i ≢ j → (slice_index_or passes i d).who ≢ (slice_index_or passes j d).who
    whos_differ i j d li lj differ same =
        let long = length-map passes (λ (p : Held). p.who) in let wi = who_at i d li in let wj = who_at j d lj in
        dite (dec_lt i j)
        (λ l. let less = rises_apart 0 (whos_of passes) i j d.who rising l (omega (arith, long, lj)) in omega (arith, less, wi, wj, same))
        (λ m. let l : j < i = less_other i j m differ in let less = rises_apart 0 (whos_of passes) j i d.who rising l (omega (arith, long, li)) in omega (arith, less, wi, wj, same))
      where
        less_other : (i j : ℕ) → (i < j → ⊥) → i ≢ j → j < i
        less_other i j m n = dite (dec_lt j i) (λ l. l) (λ k. absurd (n (omega (arith, m, k))))

    pub owns_all : All (OwnsAll h) passes
    owns_all i d li k = dite (dec_lt k (length h))
        (λ lt. let o = owned.since_opening k (opened_at k) lt in let one = o.one d in
        let it : IsBy h (slice_index_or passes o.index d).who k = of_each (IsBy h (slice_index_or passes o.index d).who) k (slice_index_or passes o.index d).own (by_it o.index d o.within) (omega (arith, one)) in
        dite (ℕ_discrete o.index i)
        (λ (same : o.index ≡ i). let mine = subst (λ n. owns k (slice_index_or passes n d) ≡ 1) same one in
        let by_me : it.entry.who ≡ (slice_index_or passes i d).who = it.by_who ∙ ap (λ n. (slice_index_or passes n d).who) same in
        mine ∙ sym (own_here 0 k h (slice_index_or passes i d).who k it.entry (omega arith) it.stands by_me))
        (λ other. o.others i d li (λ e. other (sym e)) ∙ sym (own_else 0 k h (slice_index_or passes i d).who k it.entry (omega arith) it.stands (λ e. whos_differ o.index i d o.within li other (sym it.by_who ∙ e)))))
        (λ ge. let past : length h ≤ k = omega (arith, ge) in owned.past_end k past i d li ∙ sym (own_past 0 k h (slice_index_or passes i d).who (omega (arith, past))))
