-- One turn more of each loop, and the end of the count.
use Rattle.std.proofs.Common.{◌≡◌, ℕ, ◌+◌, ◌<◌, ◌≤◌, min, List, [], ◌∷◌, ◌++◌, map, length, get_or, take, drop, set, sym, ap, ◌∙◌, arith, length-take}
use Rattle.std.specs.List.{range_with_len}
use Rattle.std.proofs.lemmas.List.FromFn.{length-map-range_with_len, map-range_with_len_more}
use Rattle.std.proofs.lemmas.List.{append_assoc, at_drop_all, at_drop_more, drop_more, get_or-take, set_at}
use Rattle.std.proofs.lemmas.Bool.{cond_below}
use Rattle.model.specs.Heap.{cell_in, cells_with}
use Rattle.model.specs.Steps.{free_cell, in_use, used_in}
use Rattle.values.specs.Cells.{blank, kind}
use Rattle.values.specs.declared.cells.Cell.{Cell}

-- The places are written from 0 on, each with the cell that f gives for it.
pub fill_more : (f : ℕ → Cell) (p : ℕ) (cells : List Cell) → p < min 4096 (length cells) → cells_with (map f (range_with_len 0 p) ++ drop p cells) p (f p) ≡ map f (range_with_len 0 (p + 1)) ++ drop (p + 1) cells
unfolding cells_with
fill_more f p cells h =
    let front = map f (range_with_len 0 p) in
    sym (cond_below p 4096 (set (front ++ drop p cells) p (f p)) (front ++ drop p cells) (omega arith))
    ∙ ap (λ rest. set (front ++ rest) p (f p)) (drop_more cells p (f p) (omega arith))
    ∙ set_at front (get_or cells p (f p)) (drop (p + 1) cells) (f p) p (length-map-range_with_len f 0 p)
    ∙ sym (append_assoc front (f p ∷ []) (drop (p + 1) cells))
    ∙ ap (λ written. written ++ drop (p + 1) cells) (sym (map-range_with_len_more f 0 p p (omega arith)))

-- One place more is free after it was written, where those below it were, and the others as they were at the start.
pub fill_turn : (n p : ℕ) (start before after : List Cell) → n ≡ min 4096 (length start) → p < n → before ≡ map (free_cell n) (range_with_len 0 p) ++ drop p start → after ≡ cells_with before p (free_cell n p) → after ≡ map (free_cell n) (range_with_len 0 (p + 1)) ++ drop (p + 1) start
fill_turn n p start before after e h so_far wrote = wrote ∙ ap (λ cells. cells_with cells p (free_cell n p)) so_far ∙ fill_more (free_cell n) p start (omega arith)

-- The cells in use from the place p on: the one at p, and those after it.
pub used_more : (cells : List Cell) (p : ℕ) → p < min 4096 (length cells) → used_in (drop p (take 4096 cells)) ≡ in_use (kind (cell_in cells p)) + used_in (drop (p + 1) (take 4096 cells))
unfolding cell_in
used_more cells p h =
    let places = length-take 4096 cells in
    at_drop_more used_in (take 4096 cells) p blank (omega arith)
    ∙ ap (λ c. in_use (kind c) + used_in (drop (p + 1) (take 4096 cells))) (get_or-take 4096 cells p blank (omega arith) ∙ cond_below p 4096 (get_or cells p blank) blank (omega arith))

pub used_all : (cells : List Cell) (p : ℕ) → min 4096 (length cells) ≤ p → used_in (drop p (take 4096 cells)) ≡ 0
used_all cells p h = let places = length-take 4096 cells in at_drop_all used_in (take 4096 cells) p (omega arith)
