-- A record that is read off a tape is written as the tape is.
use Rattle.std.proofs.Common.{◌≡◌, ℕ, suc, ◌+◌, ◌/◌, ◌%◌, ◌<◌, ◌≤◌, Bool, true, false, cond, ◌&&◌, eqb, ◌⊎◌, List, [], ◌∷◌, length, get_or, take, drop, Some, None, sym, refl, ap, ◌∙◌, subst, inl, inr, ⊎_elim, arith}
use Rattle.std.proofs.lemmas.Bool.{and_parts, cases_lt, eqb-true, eqb-false}
use Rattle.std.specs.List.{AllByRecursion}
use Rattle.tape.specs.Format.{Entry, kind, span, written, first, byte, word, big_endian, readings, of_kind}

-- What was found under k is of that kind, and has what every entry has.
found : (P : Entry → Type 0) (k : ℕ) (es : List Entry) → AllByRecursion P es → (e : Entry) → of_kind k es ≡ Some e → P e × (k ≡ (kind e).number)
found P k [] has e is = absurd (let z : ◌≡◌ {A = ℕ} 0 1 = cc in omega arith)
found P k (x ∷ xs) (has, more) e is = go (found P k xs more e) (eqb k (kind x).number) refl is
  where
    go : (of_kind k xs ≡ Some e → P e × (k ≡ (kind e).number)) → (b : Bool) → eqb k (kind x).number ≡ b → cond b (Some x) (of_kind k xs) ≡ Some e → P e × (k ≡ (kind e).number)
    go later true t h = let same : x ≡ e = cc in (subst P same has, eqb-true k (kind x).number t ∙ ap (λ y. (kind y).number) same)
    go later false t h = later h

-- Entries whose kinds are numbered one by one, from i on.
abbrev counted : ℕ → List Entry → Bool
counted i [] = true
counted i (e ∷ es) = eqb (kind e).number i && counted (suc i) es

-- A number that was not found is none of theirs.
missing : (k i : ℕ) (es : List Entry) → counted i es ≡ true → of_kind k es ≡ None → (k < i) ⊎ (i + length es ≤ k)
missing k i [] c is = ⊎_elim inl (λ h. inr (omega arith)) (cases_lt k i)
missing k i (x ∷ xs) c is = go (missing k (suc i) xs (and_parts _ _ c).1) (eqb k (kind x).number) refl is
  where
    at : (kind x).number ≡ i
    at = eqb-true _ _ (and_parts _ _ c).0

    go : (of_kind k xs ≡ None → (k < suc i) ⊎ (suc i + length xs ≤ k)) → (b : Bool) → eqb k (kind x).number ≡ b → cond b (Some x) (of_kind k xs) ≡ None → (k < i) ⊎ (i + length (x ∷ xs) ≤ k)
    go later true t h = absurd (let z : ◌≡◌ {A = ℕ} 0 1 = cc in omega arith)
    go later false t h = ⊎_elim (λ l. inl (let ne : k ≡ i → ⊥ = λ e. eqb-false _ _ t (e ∙ sym at) in omega arith)) (λ l. inr (omega arith)) (later h)

-- Numbers that are bytes; past its end a list reads as 0.
abbrev pub Bytes : List ℕ → Type 0
Bytes t = (i : ℕ) → get_or t i 0 < 256

-- An entry read off a tape is written as the tape is.
abbrev pub Writes : List ℕ → Entry → Type 0
Writes t e = (kind e).number ≡ first t → span e ≤ length t → written e ≡ take (span e) t

-- A kind without a body, with one byte, with a number, with a text.
bare : (t : List ℕ) (k : ℕ) → k ≡ first t → 1 ≤ length t → k ∷ [] ≡ take 1 t
bare [] k is fits = absurd (omega arith)
bare (x ∷ b) k is fits = ap (λ j. j ∷ []) is

with_byte : (t : List ℕ) (k : ℕ) → k ≡ first t → 2 ≤ length t → k ∷ byte t ∷ [] ≡ take 2 t
with_byte [] k is fits = absurd (omega arith)
with_byte (x ∷ []) k is fits = absurd (omega arith)
with_byte (x ∷ y ∷ b) k is fits = ap (λ j. j ∷ y ∷ []) is

with_word : (t : List ℕ) → Bytes t → 2 ≡ first t → 5 ≤ length t → 2 ∷ big_endian (word t) ≡ take 5 t
with_word [] small is fits = absurd (omega arith)
with_word (x ∷ []) small is fits = absurd (omega arith)
with_word (x ∷ a ∷ []) small is fits = absurd (omega arith)
with_word (x ∷ a ∷ b ∷ []) small is fits = absurd (omega arith)
with_word (x ∷ a ∷ b ∷ c ∷ []) small is fits = absurd (omega arith)
with_word (x ∷ a ∷ b ∷ c ∷ d ∷ r) small is fits =
    let n : ℕ = word (x ∷ a ∷ b ∷ c ∷ d ∷ r) in
    let ha : a < 256 = small 1 in
    let hb : b < 256 = small 2 in
    let hc : c < 256 = small 3 in
    let hd : d < 256 = small 4 in
    let ea : n / 16777216 % 256 ≡ a = omega arith in
    let eb : n / 65536 % 256 ≡ b = omega arith in
    let ec : n / 256 % 256 ≡ c = omega arith in
    let ed : n % 256 ≡ d = omega arith in
    cc

with_text : (t : List ℕ) → 16 ≡ first t → 13 ≤ length t → 16 ∷ take 12 (drop 1 t) ≡ take 13 t
with_text [] is fits = absurd (omega arith)
with_text (x ∷ b) is fits = ap (λ j. j ∷ take 12 b) is

all_write : (t : List ℕ) → Bytes t → AllByRecursion (Writes t) (readings t)
all_write t small = (n, (with_word t small, (b, (b, (n, (b, (b, (n, (n, (n, (b, (b, (b, (n, (n, (with_text t, tt))))))))))))))))
  where
    n : {k : ℕ} → k ≡ first t → 1 ≤ length t → k ∷ [] ≡ take 1 t
    n {k} = bare t k

    b : {k : ℕ} → k ≡ first t → 2 ≤ length t → k ∷ byte t ∷ [] ≡ take 2 t
    b {k} = with_byte t k

-- What the first byte tells is of its kind, and is written as the tape is.
pub told : (t : List ℕ) → Bytes t → (e : Entry) → of_kind (first t) (readings t) ≡ Some e → Writes t e × (first t ≡ (kind e).number)
told t small e tells = found (Writes t) (first t) (readings t) (all_write t small) e tells

-- Where the first byte tells nothing, it is the number of no kind.
pub untold : (t : List ℕ) → of_kind (first t) (readings t) ≡ None → (first t ≡ 0) ⊎ (16 < first t)
untold t none = ⊎_elim (λ l. inl (omega arith)) (λ l. inr (omega arith)) (missing (first t) 1 (readings t) refl none)
