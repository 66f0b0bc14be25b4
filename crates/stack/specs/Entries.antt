-- The entries of a pushdown list that is kept in the lowest slots of a slice.
use Rattle.std.specs.Prelude.{ℕ, cond, List, reverse, length, take, drop, Some, None, Option, nat_lt}

-- The entries at this height in these slots, the top first. A height past the end of the slots counts as their number.
abbrev pub stacked : {X : Type 0} → ℕ → List X → List X
stacked height slots = reverse (take height slots)

-- The entries below the top; of no entries, none.
abbrev pub tail : {X : Type 0} → List X → List X
tail xs = drop 1 xs

-- The top n of these entries, the lowest first; none where there are fewer than n.
abbrev pub last_of : {X : Type 0} → ℕ → List X → Option (List X)
last_of n xs = cond (nat_lt (length xs) n) None (Some (reverse (take n xs)))
