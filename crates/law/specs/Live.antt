-- The live cells of a reference heap: those to which a root or a list value leads along components.
use Rattle.std.specs.Prelude.{◌≡◌, ℕ, zero, suc, ◌+◌, Bool, false, cond, ◌||◌, ◌⊎◌, List, [], ◌∷◌, length, ◌==◌, slice_index_or}
use Rattle.values.specs.declared.cells.Value.{Value}
use Rattle.values.specs.declared.cells.Value.TheVariants as V
use Rattle.law.specs.Reference.{Reference, entry}

-- A root or a list value leads to the cell b.
pub data Leads (k : Reference) : ℕ → Type 0 where
  by_root : {b : ℕ} (i : ℕ) → slice_index_or k.roots i V.Nil ≡ V.Cell b → Leads k b
  by_slot : {b : ℕ} (i : ℕ) → slice_index_or k.list i V.Nil ≡ V.Cell b → Leads k b
  by_part : {a b : ℕ} (i : ℕ) → Leads k a → slice_index_or (entry k.cells a) i V.Nil ≡ V.Cell b → Leads k b

-- ---- the same as a list, each cell once

-- the cells that values name, and then more
abbrev pub named : List Value → List ℕ → List ℕ
named [] more = more
named (V.Nil ∷ vs) more = named vs more
named (V.Number x ∷ vs) more = named vs more
named (V.Cell b ∷ vs) more = b ∷ named vs more

abbrev pub is_in : ℕ → List ℕ → Bool
is_in b [] = false
is_in b (x ∷ xs) = b == x || is_in b xs

-- at most n visits: a cell that was seen is passed over, any other is seen now and what it names is visited
unfoldable pub visit : ℕ → List (List Value) → List ℕ → List ℕ → List ℕ
visit zero cells seen todo = seen
visit (suc n) cells seen [] = seen
visit (suc n) cells seen (b ∷ todo) = cond (is_in b seen) (visit n cells seen todo) (visit n cells (b ∷ seen) (named (entry cells b) todo))

-- how many components there are in all
abbrev pub components : List (List Value) → ℕ
components [] = 0
components (vs ∷ cells) = length vs + components cells

-- every root, list value and component is visited once at most
unfoldable pub live : Reference → List ℕ
live k = visit (length (named k.roots (named k.list [])) + components k.cells) k.cells [] (named k.roots (named k.list []))

-- ---- that the list is right

-- b stands in the list
abbrev pub In : ℕ → List ℕ → Type 0
In b [] = ⊥
In b (x ∷ xs) = (b ≡ x) ⊎ In b xs

-- no number stands in it twice
abbrev pub Distinct : List ℕ → Type 0
Distinct [] = Unit {0}
Distinct (x ∷ xs) = (In x xs → ⊥) × Distinct xs

-- The list has every live cell, no other, and each once; so its length is their number.
pub record ListsTheLive (k : Reference) : Type 0 where
  pub all : (b : ℕ) → Leads k b → In b (live k)
  pub only : (b : ℕ) → In b (live k) → Leads k b
  pub once : Distinct (live k)

abbrev pub LiveIsRight : Type 0
LiveIsRight = (k : Reference) → ListsTheLive k
