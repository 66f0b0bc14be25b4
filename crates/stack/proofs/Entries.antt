-- The entries of a pushdown list, read and written through its slots.
use Rattle.std.proofs.Common.{◌≡◌, ℕ, ◌+◌, ◌-◌, ◌<◌, ◌≤◌, min, List, [], ◌∷◌, reverse, length, get_or, take, drop, set, Some, sym, ap, ◌∙◌, arith}
use lib.Seq.{take-set-lt}
use Rattle.std.specs.List.{slice_get}
use Rattle.std.proofs.lemmas.List.{take_more_set, reverse-append, reverse-reverse, length-reverse, length-take, length-set, same_lists, get_or-reverse, get_or-set_same, get_or-set_other, get_or-take, get_or-drop, length-drop, set_past}
use Rattle.std.proofs.lemmas.Option.{slice_get_read, slice_get_past}
use Rattle.std.proofs.lemmas.Bool.{cases_eq}
use Rattle.stack.specs.Entries.{stacked}
use Rattle.stack.specs.Slots.{Held}

module _ {X : Type 0} where
  length_stacked : (h : ℕ) (xs : List X) → length (stacked h xs) ≡ min h (length xs)
  length_stacked h xs = length-reverse (take h xs) ∙ length-take h xs

  -- the slot above the entries, written
  stacked_push : (h : ℕ) (xs : List X) (x : X) → h < length xs → stacked (h + 1) (set xs h x) ≡ x ∷ stacked h xs
  stacked_push h xs x l = ap reverse (take_more_set xs h x l) ∙ reverse-append (take h xs) (x ∷ [])

  -- a slot among the entries, written, and one that is not among them
  stacked_set_slot : (h : ℕ) (xs : List X) (j : ℕ) (x : X) → j < h → stacked h (set xs j x) ≡ reverse (set (reverse (stacked h xs)) j x)
  stacked_set_slot h xs j x l = ap reverse (take-set-lt h xs j x l ∙ ap (λ ys. set ys j x) (sym (reverse-reverse (take h xs))))

  reverse_set_past : (ys : List X) (j : ℕ) (x : X) → length ys ≤ j → reverse (set (reverse ys) j x) ≡ ys
  reverse_set_past ys j x l = ap reverse (set_past (reverse ys) j x (simp length-reverse l)) ∙ reverse-reverse ys

  -- the number n of the entries ties an entry's depth to its slot
  module _ (h n : ℕ) (xs : List X) (e : n ≡ min h (length xs)) where
    get_or_stacked : (i : ℕ) (d : X) → i < n → get_or (stacked h xs) i d ≡ get_or xs (n - 1 - i) d
    get_or_stacked i d l =
        let k : length (take h xs) ≡ n = length-take h xs ∙ sym e in
        get_or-reverse (take h xs) i d (omega arith) ∙ ap (λ m. get_or (take h xs) (m - 1 - i) d) k ∙ get_or-take h xs (n - 1 - i) d (omega arith)

    -- an entry read, by its depth and by its slot
    nth_stacked : (i : ℕ) (x : X) → i < n → x ≡ get_or xs (n - 1 - i) x → slice_get (stacked h xs) i ≡ Some x
    nth_stacked i x l r = slice_get_read (stacked h xs) n i x (e ∙ sym (length_stacked h xs)) l (r ∙ sym (get_or_stacked i x l))

    nth_slots : (j : ℕ) (x : X) → j < n → x ≡ get_or xs j x → slice_get (reverse (stacked h xs)) j ≡ Some x
    nth_slots j x l r =
        let k : j < h = omega arith in
        rw reverse-reverse (slice_get_read (take h xs) n j x (e ∙ sym (length-take h xs)) l (r ∙ sym (get_or-take h xs j x k)))

  -- an entry written
  stacked_set : (h n : ℕ) (xs : List X) (e : n ≡ min h (length xs)) (i : ℕ) (x : X) → i < n → stacked h (set xs (n - 1 - i) x) ≡ set (stacked h xs) i x
  stacked_set h n xs e i x l =
      let j = n - 1 - i in
      let e' : n ≡ min h (length (set xs j x)) = simp length-set e in
      let k = length_stacked h xs in
      same_lists _ _ (simp (length_stacked, length-set)) (λ m d b.
      let k' = length_stacked h (set xs j x) in
      let p = get_or_stacked h n xs e m d (omega arith) in
      let q = get_or_stacked h n (set xs j x) e' m d (omega arith) in
      grind (arith, get_or-set_same, get_or-set_other, cases_eq m i))

  -- entries taken from the top
  stacked_drop : (h n : ℕ) (xs : List X) (e : n ≡ min h (length xs)) (m : ℕ) → stacked (n - m) xs ≡ drop m (stacked h xs)
  stacked_drop h n xs e m =
      let e' : n - m ≡ min (n - m) (length xs) = omega arith in
      same_lists _ _ (simp (length_stacked, length-drop) (omega arith)) (λ i d b.
      let k = length_stacked (n - m) xs in
      let p = get_or_stacked (n - m) (n - m) xs e' i d (omega arith) in
      let q = get_or_stacked h n xs e (m + i) d (omega arith) in
      grind (arith, get_or-drop))

  pub held : (h n : ℕ) (xs : List X) → n ≡ min h (length xs) → Held h xs n
  held h n xs e =
      let k = length_stacked h xs in
      let k' = length-reverse (stacked h xs) in
      record {
        number = e;
        count = k ∙ sym e;
        read = nth_stacked h n xs e;
        read_past = λ i l. slice_get_past (stacked h xs) i (omega arith);
        written = stacked_set h n xs e;
        written_past = λ i x l. set_past (stacked h xs) i x (omega arith);
        slot_read = nth_slots h n xs e;
        slot_read_past = λ j l. slice_get_past (reverse (stacked h xs)) j (omega arith);
        slot_written = λ j x l. stacked_set_slot h xs j x (omega arith);
        slot_written_past = λ j x l. reverse_set_past (stacked h xs) j x (omega arith);
        pushed = λ x l. stacked_push h xs x (omega arith);
        dropped = stacked_drop h n xs e;
      }
