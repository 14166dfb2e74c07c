-- What is trimmed is blanks, and what is left neither begins nor ends with one.
use Rattle.std.proofs.Common.{◌≡◌, ℕ, ◌+◌, ◌-◌, ◌<◌, Bool, true, false, List, ◌++◌, length, take, drop, get_or, reverse, All, arith, sym, ap, ◌∙◌, length-drop, get_or-drop}
use Rattle.std.specs.List.{prefix_len, suffix_len}
use Rattle.std.proofs.lemmas.List.{take-append-drop, get_or-take, length-take-le, length-reverse, get_or-reverse}
use Rattle.std.proofs.lemmas.List.Elements.{All-from_get_or}
use Rattle.std.proofs.lemmas.List.Sums.{prefix_len_passes, prefix_len_stops, prefix_len-le-length, suffix_len-le-length}
use Rattle.em_base.specs.Blanks.{is_blank, trimmed, trimmed_start, trimmed_end}

module _ (p : ℕ → Bool) (xs : List ℕ) where
  front_passes : All (λ b. p b ≡ true) (take (prefix_len p xs) xs)
  front_passes =
      let l = length-take-le (prefix_len p xs) xs (prefix_len-le-length p xs) in
      All-from_get_or (λ b. p b ≡ true) (take (prefix_len p xs) xs) 0 (λ k low.
      ap p (get_or-take (prefix_len p xs) xs k 0 (omega arith)) ∙ prefix_len_passes p xs k 0 (omega arith))

  -- from the end the k-th byte is the k-th from the front of the reversed text
  back_at : (k : ℕ) → k < length xs → get_or xs k 0 ≡ get_or (reverse xs) (length xs - 1 - k) 0
  back_at k low =
      let there : length xs - 1 - (length xs - 1 - k) ≡ k = omega arith in
      sym (get_or-reverse xs (length xs - 1 - k) 0 (omega arith) ∙ ap (λ i. get_or xs i 0) there)

  back_passes : All (λ b. p b ≡ true) (drop (length xs - suffix_len p xs) xs)
  back_passes =
      let n = suffix_len p xs in
      let few = suffix_len-le-length p xs in
      All-from_get_or (λ b. p b ≡ true) (drop (length xs - n) xs) 0 (λ k low.
      let l = length-drop (length xs - n) xs in
      ap p (get_or-drop (length xs - n) xs k 0 ∙ back_at (length xs - n + k) (omega arith)) ∙ prefix_len_passes p (reverse xs) (length xs - 1 - (length xs - n + k)) 0 (omega arith))

  back_stops : suffix_len p xs < length xs → p (get_or xs (length xs - suffix_len p xs - 1) 0) ≡ false
  back_stops less =
      let n = suffix_len p xs in
      let there : length xs - 1 - (length xs - n - 1) ≡ n = omega arith in
      ap p (back_at (length xs - n - 1) (omega arith) ∙ ap (λ k. get_or (reverse xs) k 0) there) ∙ prefix_len_stops p (reverse xs) 0 (omega (arith, length-reverse xs))

pub trimmed_parts : (text : List ℕ) → (front : List ℕ) × (back : List ℕ) × (text ≡ front ++ (trimmed text ++ back)) × All (λ b. is_blank b ≡ true) front × All (λ b. is_blank b ≡ true) back
unfolding trimmed
trimmed_parts text =
    let s = trimmed_start text in
    let n = length s - suffix_len is_blank s in (
      take (prefix_len is_blank text) text,
      drop n s,
      sym (ap (λ r. take (prefix_len is_blank text) text ++ r) (take-append-drop n s) ∙ take-append-drop (prefix_len is_blank text) text),
      front_passes is_blank text,
      back_passes is_blank s,
    )

trimmed_length : (s : List ℕ) → length (trimmed_end s) ≡ length s - suffix_len is_blank s
trimmed_length s = length-take-le (length s - suffix_len is_blank s) s (omega arith)

pub trimmed_first : (text : List ℕ) → 0 < length (trimmed text) → is_blank (get_or (trimmed text) 0 0) ≡ false
unfolding trimmed
trimmed_first text some =
    let s = trimmed_start text in
    let m = prefix_len is_blank text in
    let l = trimmed_length s in
    let d = length-drop m text in
    ap is_blank (get_or-take (length s - suffix_len is_blank s) s 0 0 (omega arith) ∙ get_or-drop m text 0 0 ∙ ap (λ k. get_or text k 0) (let e : m + 0 ≡ m = omega arith in e))
    ∙ prefix_len_stops is_blank text 0 (omega arith)

pub trimmed_last : (text : List ℕ) → 0 < length (trimmed text) → is_blank (get_or (trimmed text) (length (trimmed text) - 1) 0) ≡ false
unfolding trimmed
trimmed_last text some =
    let s = trimmed_start text in
    let n = length s - suffix_len is_blank s in
    let l = trimmed_length s in
    ap is_blank (ap (λ k. get_or (trimmed_end s) (k - 1) 0) l ∙ get_or-take n s (n - 1) 0 (omega arith)) ∙ back_stops is_blank s (omega arith)
