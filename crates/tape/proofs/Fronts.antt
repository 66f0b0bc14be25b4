-- What stands at the front of a tape.
use Rattle.std.proofs.Common.{◌≡◌, ℕ, ◌+◌, ◌-◌, ◌<◌, ◌≤◌, Bool, true, false, cond, leb, List, [], ◌∷◌, length, get_or, take, drop, Some, None, Option, sym, refl, ap, ◌∙◌, arith, length-drop}
use Rattle.std.proofs.lemmas.List.{take_rest, drop-drop}
use Rattle.std.proofs.lemmas.Bool.{cond-true, le-leb, leb-true, leb-false}
use Rattle.tape.specs.declared.faults.FaultKind.TheVariants as F
use Rattle.tape.specs.Format.{Entry, note, span, first, readings, of_kind}
use Rattle.tape.specs.Reading.{Front, empty, whole, faulty, front, front_as}

-- A whole record of kind k stands at the front, and u is what follows it.
front_whole : (t : List ℕ) (k : ℕ) (e : Entry) (u : List ℕ) → get_or t 0 0 ≡ k → of_kind k (readings t) ≡ Some e → span e ≤ length t → u ≡ drop (span e) t → whole e u ≡ front t
front_whole [] k e u starts tells fits left = absurd (omega arith)
front_whole (x ∷ b) k e u starts tells fits left =
    let t : List ℕ = x ∷ b in
    let here : front t ≡ front_as (Some e) t = ap (λ j. front_as (of_kind j (readings t)) t) starts ∙ ap (λ o. front_as o t) tells in
    ap (whole e) left ∙ sym (here ∙ cond-true _ _ _ (le-leb _ _ fits))

-- The same, with what follows it as a slice pattern has it.
pub front_split : (t : List ℕ) (k : ℕ) {e : Entry} → get_or t 0 0 ≡ k → of_kind k (readings t) ≡ Some e → span e ≤ length t → whole e (take (length t - span e) (drop (span e) t)) ≡ front t
front_split t k {e} starts tells fits = front_whole t k e _ starts tells fits (take_rest t (span e))

-- The same of a note, with its text and what follows it as they are split off its body.
pub front_note : (t x u : List ℕ) → get_or t 0 0 ≡ 16 → (let b : List ℕ = take (length t - 1) (drop 1 t) in (x ≡ take 12 b) × (u ≡ drop 12 b) × (length u + 12 ≡ length b)) → whole (note x) u ≡ front t
front_note t x u starts (text, left, long) =
    let b : take (length t - 1) (drop 1 t) ≡ drop 1 t = take_rest t 1 in
    let fits : 13 ≤ length t = omega (arith, long, ap length b, length-drop 1 t) in
    front_whole t 16 (note x) u starts (ap (λ s. Some (note s)) (sym (text ∙ ap (take 12) b))) fits (left ∙ ap (drop 12) b ∙ drop-drop 12 1 t)

-- The ways in which a tape can begin.
pub data Begins (t : List ℕ) : Front → Type 0 where
  b_empty : t ≡ [] → Begins t empty
  b_whole : (e : Entry) → of_kind (first t) (readings t) ≡ Some e → span e ≤ length t → Begins t (whole e (drop (span e) t))
  b_short : (e : Entry) → of_kind (first t) (readings t) ≡ Some e → length t < span e → Begins t (faulty F.CutShort)
  b_unknown : of_kind (first t) (readings t) ≡ None → 0 < length t → Begins t (faulty F.UnknownKind)

pub begins : (t : List ℕ) → Begins t (front t)
begins [] = b_empty refl
begins (k ∷ b) = tells (of_kind k (readings t)) refl
  where
    t : List ℕ
    t = k ∷ b

    fits : (e : Entry) → of_kind k (readings t) ≡ Some e → (long : Bool) → leb (span e) (length t) ≡ long → Begins t (cond long (whole e (drop (span e) t)) (faulty F.CutShort))
    fits e is true l = b_whole e is (leb-true _ _ l)
    fits e is false l = b_short e is (leb-false _ _ l)

    tells : (o : Option Entry) → of_kind k (readings t) ≡ o → Begins t (front_as o t)
    tells None is = b_unknown is (omega arith)
    tells (Some e) is = fits e is (leb (span e) (length t)) refl
