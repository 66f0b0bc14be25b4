-- Two lists of values that are related entry by entry.
use Rattle.std.proofs.Common.{◌≡◌, ℕ, zero, suc, List, [], ◌∷◌, length, get_or, set, refl, ap}
use Rattle.values.specs.declared.cells.Value.{Value}
use Rattle.values.specs.declared.cells.Value.TheVariants as V

pub data Rows (R : Value → Value → Type 0) : List Value → List Value → Type 0 where
  r_none : Rows R [] []
  r_more : {v w : Value} {vs ws : List Value} → R v w → Rows R vs ws → Rows R (v ∷ vs) (w ∷ ws)

pub rows_map : {R S : Value → Value → Type 0} {vs ws : List Value} → ((v w : Value) → R v w → S v w) → Rows R vs ws → Rows S vs ws
rows_map f r_none = r_none
rows_map f (r_more {v} {w} r rs) = r_more (f v w r) (rows_map f rs)

pub rows_at : {R : Value → Value → Type 0} {vs ws : List Value} (i : ℕ) → R V.Nil V.Nil → Rows R vs ws → R (get_or vs i V.Nil) (get_or ws i V.Nil)
rows_at i z r_none = z
rows_at zero z (r_more r rs) = r
rows_at (suc i) z (r_more r rs) = rows_at i z rs

pub rows_set : {R : Value → Value → Type 0} {vs ws : List Value} (i : ℕ) (v w : Value) → R v w → Rows R vs ws → Rows R (set vs i v) (set ws i w)
rows_set i v w r r_none = r_none
rows_set zero v w r (r_more r' rs) = r_more r rs
rows_set (suc i) v w r (r_more r' rs) = r_more r' (rows_set i v w r rs)

pub rows_length : {R : Value → Value → Type 0} {vs ws : List Value} → Rows R vs ws → length vs ≡ length ws
rows_length r_none = refl
rows_length (r_more r rs) = ap suc (rows_length rs)

-- what holds of a value that is written and of what stood there, holds of every entry
pub get_or_set_P : (P : Value → Type 0) (w : Value) (rs : List Value) (r i : ℕ) → P w → P (get_or rs i V.Nil) → P (get_or (set rs r w) i V.Nil)
get_or_set_P P w [] r i a b = b
get_or_set_P P w (x ∷ rs) zero zero a b = a
get_or_set_P P w (x ∷ rs) zero (suc i) a b = b
get_or_set_P P w (x ∷ rs) (suc r) zero a b = b
get_or_set_P P w (x ∷ rs) (suc r) (suc i) a b = get_or_set_P P w rs r i a b
