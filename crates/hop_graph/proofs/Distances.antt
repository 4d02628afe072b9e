-- Rows of the search, and what the table tells.
use Rattle.std.proofs.Common.{◌≡◌, ◌+◌, ◌<◌, ℕ, zero, suc, List, [], ◌∷◌, ◌++◌, Bool, true, false, ◌&&◌, nat_eq, length, map, get_or, Option, Some, None, refl, ap, sym, ◌∙◌, subst, arith}
use Rattle.std.specs.List.{range_with_len}
use Rattle.std.specs.Option.{option_or}
use Rattle.std.proofs.lemmas.Bool.{eqb-true, eq-eqb}
use Rattle.std.proofs.lemmas.List.Elements.{All-from_get_or}
use Rattle.std.proofs.lemmas.List.FromFn.{fill_by_all, get_or-map-range_with_len, length-map-range_with_len, map-range_with_len_more}
use Rattle.scene_model.specs.Diagram.{Diagram}
use Rattle.hop_graph.specs.Links.{is_linked, is_number}
use Rattle.hop_graph.specs.Walks.{Walk, any_below, where_passed, least_up_to, has_walk, hop_distance}
use Rattle.hop_graph.specs.Tables.{entry_at, hop_at, hop_row, hop_table, IsSquare, TellsDistance}
use Rattle.hop_graph.specs.Search.{IsMarked, has_distance, IsFound}
use Rattle.hop_graph.proofs.Levels.{any-agree, any-one, any-is, least-is, least-none, level-next, settled}

-- a row at one level, spread, is one at the next
pub found-next : (d : Diagram) (start level : ℕ) (row new : List (Option ℕ)) → IsFound d start level row → length new ≡ length row
    → IsMarked row (level + 1) (λ j. any_below (λ i. has_distance row level i && is_linked d i j) (length d.shapes)) new → IsFound d start (level + 1) new
found-next d start level row new found as_long further = (as_long ∙ found.0, each)
  where
    n : ℕ
    n = length d.shapes

    each : (j : ℕ) → j < length d.shapes → entry_at new j ≡ least_up_to (has_walk (is_linked d) (length d.shapes) start j) (level + 1)
    each j inside =
        further j (subst (λ k. j < k) (sym found.0) inside)
        ∙ (ap (λ o. option_or o (where_passed (level + 1) (any_below (λ i. has_distance row level i && is_linked d i j) (length d.shapes)))) (found.1 j inside)
        ∙ (ap (λ b. option_or (least_up_to (has_walk (is_linked d) (length d.shapes) start j) level) (where_passed (level + 1) b))
        (any-agree (λ i. has_distance row level i && is_linked d i j) (λ i. is_number (least_up_to (has_walk (is_linked d) (length d.shapes) start i) level) level && is_linked d i j) (length d.shapes)
        (λ i within. ap (λ o. is_number o level && is_linked d i j) (found.1 i within)))
        ∙ level-next (is_linked d) (length d.shapes) start level j))

-- a row in which no shape stands at the level is the last one
pub found-last : (d : Diagram) (start level extra : ℕ) (row : List (Option ℕ)) → IsFound d start level row → any_below (has_distance row level) (length d.shapes) ≡ false → IsFound d start (level + extra) row
found-last d start level extra row found none =
    let free : any_below (λ i. is_number (least_up_to (has_walk (is_linked d) (length d.shapes) start i) level) level) (length d.shapes) ≡ false =
    sym (any-agree (has_distance row level) (λ i. is_number (least_up_to (has_walk (is_linked d) (length d.shapes) start i) level) level) (length d.shapes) (λ i within. ap (λ o. is_number o level) (found.1 i within))) ∙ none in
    (found.0, λ j inside. found.1 j inside ∙ sym (settled (is_linked d) (length d.shapes) start level extra free j))

-- the row in which the start alone is reached
pub found-start : (d : Diagram) (start : ℕ) (row : List (Option ℕ)) → length row ≡ length d.shapes → ((j : ℕ) → j < length row → entry_at row j ≡ where_passed 0 (nat_eq start j)) → IsFound d start 0 row
unfolding least_up_to has_walk
found-start d start row as_long each = (as_long, λ j inside. each j (subst (λ k. j < k) (sym as_long) inside))

-- the row at the last level
pub found-row : (d : Diagram) (start : ℕ) (row : List (Option ℕ)) → IsFound d start 60 row → row ≡ hop_row d start
unfolding hop_distance
found-row d start row found = fill_by_all (hop_distance d start) row (length d.shapes) None found.0 found.1

-- ---- what the table tells

module _ (linked : ℕ → ℕ → Bool) (count start : ℕ) where
  walk-is : (links end : ℕ) → has_walk linked count start end links ≡ true → Walk linked count start links end
  unfolding has_walk
  walk-is zero end has = eqb-true start end has
  walk-is (suc links) end has =
      let last = any-is (λ before. has_walk linked count start before links && linked before end) count has in
      let parts = both (has_walk linked count start last.0 links) (linked last.0 end) last.2 in
      (last.0, last.1, walk-is links last.0 parts.0, parts.1)
    where
      both : (b c : Bool) → (b && c) ≡ true → (b ≡ true) × (c ≡ true)
      both true c is = (refl, is)
      both false c is = cc

  has-walk : (links end : ℕ) → Walk linked count start links end → has_walk linked count start end links ≡ true
  unfolding has_walk
  has-walk zero end walk = eq-eqb start end walk
  has-walk (suc links) end walk = any-one (λ before. has_walk linked count start before links && linked before end) count walk.0 walk.1 (ap (λ b. b && linked walk.0 end) (has-walk links walk.0 walk.2) ∙ walk.3)

pub tells : (d : Diagram) (i j : ℕ) → TellsDistance d i j (hop_distance d i j)
unfolding hop_distance
tells d i j = by (least_up_to (has_walk (is_linked d) (length d.shapes) i j) 60) refl
  where
    by : (o : Option ℕ) → least_up_to (has_walk (is_linked d) (length d.shapes) i j) 60 ≡ o → TellsDistance d i j o
    by None e = λ links within walk. least-none (has_walk (is_linked d) (length d.shapes) i j) 60 e links within (has-walk (is_linked d) (length d.shapes) i links j walk)
    by (Some k) e =
        let least = least-is (has_walk (is_linked d) (length d.shapes) i j) 60 k e in (
          least.within,
          record {
            walk = walk-is (is_linked d) (length d.shapes) i k j least.passes;
            least = λ others walk. least.below others (has-walk (is_linked d) (length d.shapes) i others j walk);
          },
        )

get-mapped : {X : Type 0} (f : ℕ → X) (n i : ℕ) (e : X) → i < n → get_or (map f (range_with_len 0 n)) i e ≡ f i
get-mapped f n i e inside = get_or-map-range_with_len f 0 n i i e inside (omega arith)

-- an entry of the table
pub hop-at : (d : Diagram) (i j : ℕ) → i < length d.shapes → j < length d.shapes → hop_at (hop_table d) i j ≡ hop_distance d i j
hop-at d i j row column =
    ap (λ r. entry_at r j) (get-mapped (hop_row d) (length d.shapes) i [] row) ∙ get-mapped (hop_distance d i) (length d.shapes) j None column

pub table-tells : (d : Diagram) (rows : List (List (Option ℕ))) → rows ≡ hop_table d → (i j : ℕ) → i < length d.shapes → j < length d.shapes → TellsDistance d i j (hop_at rows i j)
table-tells d rows is i j row column =
    subst (TellsDistance d i j) (sym (ap (λ r. hop_at r i j) is ∙ hop-at d i j row column)) (tells d i j)

-- a row for each shape
pub table-length : (d : Diagram) → length (hop_table d) ≡ length d.shapes
table-length d = length-map-range_with_len (hop_row d) 0 (length d.shapes)

pub table-square : (d : Diagram) (rows : List (List (Option ℕ))) → rows ≡ hop_table d → IsSquare rows
table-square d rows is = subst IsSquare (sym is) square
  where
    rows_long : length (hop_table d) ≡ length d.shapes
    rows_long = length-map-range_with_len (hop_row d) 0 (length d.shapes)

    square : IsSquare (hop_table d)
    square = All-from_get_or (λ row. length row ≡ length (hop_table d)) (hop_table d) []
        (λ i inside. ap length (get-mapped (hop_row d) (length d.shapes) i [] (subst (λ k. i < k) rows_long inside)) ∙ (length-map-range_with_len (hop_distance d i) 0 (length d.shapes) ∙ sym rows_long))

-- one row more
pub table-next : (d : Diagram) (start : ℕ) (rows : List (List (Option ℕ))) (row : List (Option ℕ)) → rows ≡ map (hop_row d) (range_with_len 0 start) → row ≡ hop_row d start → rows ++ row ∷ [] ≡ map (hop_row d) (range_with_len 0 (start + 1))
table-next d start rows row so_far is = ap (λ r. r ++ row ∷ []) so_far ∙ (ap (λ r. map (hop_row d) (range_with_len 0 start) ++ r ∷ []) is ∙ sym (map-range_with_len_more (hop_row d) 0 start start (omega arith)))
