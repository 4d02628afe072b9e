-- What holds of the seats of passes holds of the passes.
use Rattle.std.proofs.Common.{◌≡◌, ℕ, ◌<◌, List, length, map, slice_index_or, All, refl, ap, sym, ◌∙◌, subst, Some, true}
use Rattle.std.proofs.Math.ListN.{get_or-map}
use Rattle.std.proofs.lemmas.List.{length-map}
use Rattle.std.proofs.lemmas.List.Elements.{All-map}
use mathlib.Core.List.{IsPrefix}
use Rattle.turn_table.specs.Counting.{OnlyOne}
use Rattle.turn_table.specs.States.{Opened, Seated, IsIdleAt}
use Rattle.turn_table.specs.States as states
use Rattle.doc_book.specs.declared.desks.Terms.{Terms}
use Rattle.doc_book.specs.declared.entries.Entry.{Entry}
use Rattle.shared_book.specs.Held.{Held, seat_of, all_by, OwnedOnce}
use Rattle.shared_book.proofs.Owning.{grown}

module _ {A B : Type 0} (f : A → B) (xs : List A) where
  within_map : (k : ℕ) → k < length xs → k < length (map f xs)
  within_map k l = subst (λ n. k < n) (sym (length-map xs f)) l

  at_map : (k : ℕ) (d : A) → slice_index_or (map f xs) k (f d) ≡ f (slice_index_or xs k d)
  at_map k d = get_or-map f xs k d

  pub all_unmapped : (P : B → Type 0) → All P (map f xs) → All (λ a. P (f a)) xs
  all_unmapped P all = λ k d l. subst P (at_map k d) (all k (f d) (within_map k l))

  pub one_unmapped : (g : B → ℕ) → OnlyOne g (map f xs) → OnlyOne (λ a. g (f a)) xs
  one_unmapped g o = record {
    index = o.index;
    within = subst (λ n. o.index < n) (length-map xs f) o.within;
    one = λ d. ap g (sym (at_map o.index d)) ∙ o.one (f d);
    others = λ j d l n. ap g (sym (at_map j d)) ∙ o.others j (f d) (within_map j l) n;
  }

pub idle_seats : (table : Opened Entry Terms) (passes : List Held) (seats : List (Seated Entry Terms)) → seats ≡ map seat_of passes → All (λ p. p.table ≡ Some table) passes → All (λ s. IsIdleAt table s) seats
idle_seats table passes seats e all = subst (λ z. All (λ s. IsIdleAt table s) z) (sym e) (All-map (λ s. IsIdleAt table s) seat_of passes (λ k d l. (all k d l, refl)))

pub seen_seats : (list : List Entry) (passes : List Held) (seats : List (Seated Entry Terms)) → seats ≡ map seat_of passes → All (λ s. IsPrefix s.seen list) seats → All (λ p. IsPrefix p.seen list) passes
seen_seats list passes seats e all = all_unmapped seat_of passes (λ s. IsPrefix s.seen list) (subst (λ z. All (λ s. IsPrefix s.seen list) z) e all)

pub own_seats : (table : Opened Entry Terms) (list : List Entry) (passes : List Held) (seats : List (Seated Entry Terms)) → seats ≡ map seat_of passes → states.OwnedOnce table list seats → OwnedOnce table list passes
own_seats table list passes seats e o = record {
  since_opening = λ place a b. one_unmapped seat_of passes (states.owns place) (subst (λ z. OnlyOne (states.owns place) z) e (o.since_opening place a b));
  before_opening = λ place a. all_unmapped seat_of passes (λ s. states.owns place s ≡ 0) (subst (λ z. All (λ s. states.owns place s ≡ 0) z) e (o.before_opening place a));
  past_end = λ place a. all_unmapped seat_of passes (λ s. states.owns place s ≡ 0) (subst (λ z. All (λ s. states.owns place s ≡ 0) z) e (o.past_end place a));
}

pub own_later : (list : List Entry) (passes : List Held) → All (λ p. IsPrefix p.seen list) passes → All (λ p. all_by p.who p.seen p.own ≡ true) passes → All (λ p. all_by p.who list p.own ≡ true) passes
own_later list passes seen own = λ k d l. let p : Held = slice_index_or passes k d in grown p.who p.seen list p.own (seen k d l) (own k d l)
