-- The kinds of store, by their letters and words.
use Rattle.std.specs.Prelude.{◌≡◌, ◌≢◌, ℕ, List, Result, MatchResult, codes}
use Rattle.fresh.specs.declared.NoStore.{NoStore}
use Rattle.fresh.specs.declared.StoreKind.{StoreKind}
use Rattle.fresh.specs.declared.StoreKind.TheVariants as S

-- 't' for a table, 'p' for a packed store.
abbrev pub letter_of : StoreKind → ℕ
letter_of S.Table = 116
letter_of S.Packed = 112

-- What is read of a letter: the kind that has it, or the letter itself where none has.
abbrev pub Reads : ℕ → Result StoreKind NoStore → Type 0
Reads letter r = MatchResult r (λ (kind : StoreKind). letter_of kind ≡ letter) (λ (e : NoStore). (e.0 ≡ letter) × ((kind : StoreKind) → letter_of kind ≢ letter))

-- The word by which a kind is printed.
abbrev pub kind_word : StoreKind → List ℕ
kind_word S.Table = codes "table"
kind_word S.Packed = codes "packed"
