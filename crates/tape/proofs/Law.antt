-- The law holds of every tape.
use Rattle.std.proofs.Common.{◌≡◌, ℕ, zero, suc, ◌+◌, ◌-◌, ◌^◌, ◌<◌, ◌≤◌, List, [], ◌∷◌, ◌++◌, length, take, drop, Some, None, Option, sym, refl, ap, ◌∙◌, subst, add-zero, arith, length-drop}
use Rattle.std.proofs.lemmas.List.{append_assoc, take-append-drop, length-take-le, get_or-drop}
use Rattle.tape.specs.Format.{span, written}
use Rattle.tape.specs.Law.{Law, Adjoin, stop}
use Rattle.tape.specs.Reading.{Front, Fault, after, read_front}
use Rattle.tape.specs.Whole.{Whole, turn, turns, read_from}
use Rattle.tape.proofs.Fronts.{Begins, b_empty, b_whole, b_short, b_unknown, begins}
use Rattle.tape.proofs.Written.{Bytes, told, untold}

-- The rest of a tape ends where the tape does.
same_stop : (p q : ℕ) (t u : List ℕ) (f : Option Fault) → q + length u ≡ p + length t → stop q u f ≡ stop p t f
same_stop p q t u None is = is
same_stop p q t u (Some f) is = refl

-- Nothing is left to read.
at_end : (p : ℕ) → Law p [] (record { records = []; fault = None })
at_end p = record { again = refl; places = sym (add-zero p); stops = tt }

-- By turns; places stay below the bound of `after`.
law_by : (n p : ℕ) (t : List ℕ) → length t ≤ n → Bytes t → p + length t < 2 ^ 64 → Law p t (turns n t p)
unfolding turns
law_by zero p [] long small room = at_end p
law_by zero p (x ∷ b) long small room = absurd (omega arith)
law_by (suc n) p t long small room = go (law_by n) (begins t)
  where
    go : ((q : ℕ) (u : List ℕ) → length u ≤ n → Bytes u → q + length u < 2 ^ 64 → Law q u (turns n u q)) → {f : Front} → Begins t f → Law p t (turn (turns n) p (read_front f t p))
    go law (b_empty none) = subst (λ s. Law p s (record { records = []; fault = None })) (sym none) (at_end p)
    go law (b_whole e tells fits) =
        let u : List ℕ = drop (span e) t in
        let q : ℕ = after p (length t - length u) in
        let w : Whole = turns n u q in
        let left : length u ≡ length t - span e = length-drop (span e) t in
        let on : q ≡ p + span e = omega arith in
        let is = told t small e tells in
        let first : written e ≡ take (span e) t = is.0 (sym is.1) fits in
        let size : length (written e) ≡ span e = ap length first ∙ length-take-le (span e) t fits in
        let rest : Law q u w = law q u (omega arith) (λ i. subst (λ x. x < 256) (sym (get_or-drop (span e) t i 0)) (small (span e + i))) (omega arith) in
        let from : q ≡ p + length (written e) = omega arith in
        let to : stop q u w.fault ≡ stop p t w.fault = same_stop p q t u w.fault (omega arith) in
        record {
          again = append_assoc (written e) _ _ ∙ ap (λ v. written e ++ v) rest.again ∙ ap (λ v. v ++ u) first ∙ take-append-drop (span e) t;
          places = (refl, subst (λ a. Adjoin a w.records (stop p t w.fault)) from (subst (λ b. Adjoin q w.records b) to rest.places));
          stops = rest.stops;
        }
    go law (b_short e tells short) = record { again = refl; places = refl; stops = (e, sym (told t small e tells).1, short) }
    go law (b_unknown none some) = record { again = refl; places = refl; stops = (some, untold t none) }

-- A tape that lies in memory.
pub law : (p : ℕ) (t : List ℕ) (w : Whole) → Bytes t → p + length t < 2 ^ 64 → w ≡ read_from t p → Law p t w
law p t w small room is = subst (Law p t) (sym is) (law_by (length t) p t (omega arith) small room)
