-- A tape is read to its end by turns.
use Rattle.std.proofs.Common.{◌≡◌, ℕ, zero, suc, ◌<◌, ◌≤◌, List, [], ◌∷◌, ◌++◌, map, length, drop, Option, sym, refl, ap, ◌∙◌, arith, length-drop}
use Rattle.std.proofs.lemmas.List.{append_assoc, append-nil, map_push}
use Rattle.tape.specs.declared.whole.Placed.{Placed}
use Rattle.tape.specs.Format.{Entry, entry_of, span}
use Rattle.tape.specs.Reading.{Front, Fault, Read, ended, got, bad, read, read_front}
use Rattle.tape.specs.Whole.{Whole, placed, more, turn, turns, read_from}
use Rattle.tape.proofs.Fronts.{Begins, b_empty, b_whole, b_short, b_unknown, begins}

-- A record takes a byte at least.
pub shorter : (t : List ℕ) (p : ℕ) (e : Entry) (u : List ℕ) (q : ℕ) → got e u q ≡ read t p → length u < length t
shorter t p e u q is = go (begins t) is
  where
    go : {f : Front} → Begins t f → got e u q ≡ read_front f t p → length u < length t
    go (b_empty n) h = absurd (let z : ◌≡◌ {A = ℕ} 0 1 = cc in omega arith)
    go (b_whole x tells fits) h = let left : u ≡ drop (span x) t = cc in omega (arith, ap length left, length-drop (span x) t)
    go (b_short x tells short) h = absurd (let z : ◌≡◌ {A = ℕ} 0 1 = cc in omega arith)
    go (b_unknown none some) h = absurd (let z : ◌≡◌ {A = ℕ} 0 1 = cc in omega arith)

-- A turn asks only for what is left after its record.
turn_same : (f g : List ℕ → ℕ → Whole) (p : ℕ) (r : Read) → ((e : Entry) (u : List ℕ) (q : ℕ) → got e u q ≡ r → f u q ≡ g u q) → turn f p r ≡ turn g p r
turn_same f g p ended h = refl
turn_same f g p (got e u q) h = ap (more p e) (h e u q refl)
turn_same f g p (bad x) h = refl

-- As many turns as there are bytes are enough.
enough : (m n : ℕ) (t : List ℕ) (p : ℕ) → length t ≤ m → length t ≤ n → turns m t p ≡ turns n t p
unfolding turns
enough zero zero t p h i = refl
enough zero (suc n) [] p h i = refl
enough zero (suc n) (x ∷ b) p h i = absurd (omega arith)
enough (suc m) zero [] p h i = refl
enough (suc m) zero (x ∷ b) p h i = absurd (omega arith)
enough (suc m) (suc n) t p h i =
    turn_same (turns m) (turns n) p (read t p)
    (λ e u q is. let less : length u < length t = shorter t p e u q is in enough m n u q (omega arith) (omega arith))

-- Reading a tape is one turn, and reading the rest.
pub one_turn : (t : List ℕ) (p : ℕ) → read_from t p ≡ turn read_from p (read t p)
unfolding turns
one_turn [] p = refl
one_turn (x ∷ b) p =
    turn_same (turns (length b)) read_from p (read (x ∷ b) p)
    (λ e u q is. let less : length u < length (x ∷ b) = shorter (x ∷ b) p e u q is in enough (length b) (length u) u q (omega arith) (omega arith))

-- What was read before, and then a reading of the rest.
abbrev pub onto : List (ℕ × Entry) → Whole → Whole
onto rs w = record { records = rs ++ w.records; fault = w.fault }

-- One record more was read, and put after those before it.
pub onto_more : (xs ys : List Placed) (x : Placed) (t u : List ℕ) (q : ℕ) → ys ≡ xs ++ (x ∷ []) → got (entry_of x.record) u q ≡ read t x.place → onto (map placed ys) (read_from u q) ≡ onto (map placed xs) (read_from t x.place)
onto_more xs ys x t u q put is =
    let rs : List (ℕ × Entry) = map placed xs in
    let w : Whole = read_from u q in
    let all : map placed ys ++ w.records ≡ rs ++ (placed x ∷ w.records) = ap (λ zs. map placed zs ++ w.records) put ∙ ap (λ zs. zs ++ w.records) (map_push placed xs x) ∙ append_assoc rs (placed x ∷ []) w.records in
    ap (λ zs. record { records = zs; fault = w.fault }) all ∙ sym (ap (onto rs) (one_turn t x.place ∙ ap (turn read_from x.place) (sym is)))

-- Nothing more was read.
pub onto_last : (rs : List (ℕ × Entry)) (t : List ℕ) (p : ℕ) (r : Read) (f : Option Fault) → r ≡ read t p → turn read_from p r ≡ record { records = []; fault = f } → record { records = rs; fault = f } ≡ onto rs (read_from t p)
onto_last rs t p r f is last =
    ap (λ all. record { records = all; fault = f }) (sym (append-nil rs)) ∙ sym (ap (onto rs) (one_turn t p ∙ ap (turn read_from p) (sym is) ∙ last))
