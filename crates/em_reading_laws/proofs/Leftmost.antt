-- What is refused in a rule's head up to a blank, and what stands behind.
use Rattle.std.proofs.Common.{◌≡◌, ◌≢◌, ◌⊎◌, ◌∙◌, inl, inr, ◌<◌, ℕ, suc, ◌+◌, ◌-◌, ◌==◌, ◌&&◌, ◌||◌, eqb, cond, not, Bool, true, false, List, [], ◌∷◌, ◌++◌, map, length, take, drop, take_at, drop_at, length-append, append_assoc, append-nil, Option, Some, None, codes, arith, refl, sym, ap, ap₂, subst}
use Rattle.std.specs.Prelude.{if◌then◌else◌, nat_lt, nat_eq, option_map, option_and_then, slice_get}
use Rattle.std.specs.List.{AllByRecursion, filter, list_all, onto_first, position, prefix_len, slice_split, starts_with}
use Rattle.std.specs.Option.{option_or, option_map_or}
use Rattle.std.specs.Str.{bytes_eq}
use Rattle.std.proofs.lemmas.Bool.{eqb-true, ne_eqb, lt-ltb, le-ltb}
use Rattle.std.proofs.lemmas.Slice.Eq.{bytes_eq-Decides}
use Rattle.std.proofs.lemmas.List.{map-append}
use Rattle.std.proofs.lemmas.List.Elements.{recursion_from_All, filter-append}
use Rattle.std.proofs.lemmas.List.Splits.{length-slice_split}
use Rattle.em_base.proofs.Lemmas.{by_cases, prefix_until}
use Rattle.em_base.specs.Blanks.{is_blank, trimmed}
use Rattle.em_rules.specs.Dots.{undotted}
use Rattle.em_rules.specs.declared.rule.RuleKind.{RuleKind}
use Rattle.em_wordlist.specs.Words.{words_of}
use Rattle.em_statement.specs.declared.statement.RuleLine.{RuleLine}
use Rattle.em_statement.specs.Shapes.{colons_in}
use Rattle.em_statement.specs.Split.{behind}
use Rattle.em_statement.specs.Heads.{is_colon, is_bar, normal_text, order_text, head, head_by, kind_of, colons_of, is_doubled, is_grouped, targets_text, behind_colon, head_with, head_at, head_of, is_member, is_special, percent_refusal, target_refusal, prerequisite_refusal, first_of, colon_refusal, is_mixed, is_followed, head_refusal, refusal_at, refusal_of}
use Rattle.em_reader.specs.Hearing.{cut_off}
use Rattle.em_reader.specs.Acting.{ends_word, goes_on, ended, has_colon, refusal_in}
use Rattle.em_reading_laws.specs.Heads.{HasNo, NamesNoSuffixes}

-- ---- where a byte stands first

abbrev other : (ℕ → Bool) → ℕ → Bool
other p b = not (p b)

first_at : (p : ℕ → Bool) (xs : List ℕ) (y : ℕ) (ys : List ℕ) → list_all (other p) xs ≡ true → p y ≡ true → position p (xs ++ y ∷ ys) ≡ Some (length xs)
first_at p xs y ys none is =
    let n : prefix_len (other p) (xs ++ y ∷ ys) ≡ length xs = prefix_until (other p) xs y ys none (ap not is) in
    let lt : nat_lt (length xs) (length (xs ++ y ∷ ys)) ≡ true = lt-ltb (length xs) (length (xs ++ y ∷ ys)) (omega (arith, length-append xs (y ∷ ys))) in
    rw (n, lt) refl

nowhere : (p : ℕ → Bool) (xs : List ℕ) → list_all (other p) xs ≡ true → position p xs ≡ None
nowhere p xs none =
    let n : prefix_len (other p) xs ≡ length xs = run xs none in
    let lt : nat_lt (length xs) (length xs) ≡ false = le-ltb (length xs) (length xs) (omega arith) in
    rw (n, lt) refl
  where
    run : (xs : List ℕ) → list_all (other p) xs ≡ true → prefix_len (other p) xs ≡ length xs
    run [] h = refl
    run (x ∷ xs) h = by_cases (other p x) (λ t. (t && list_all (other p) xs) ≡ true → cond t (1 + prefix_len (other p) xs) 0 ≡ suc (length xs))
        (λ _ rest. let ih = run xs rest in omega arith)
        (λ _ rest. absurd cc) h

-- the first such byte, or none
record Found (p : ℕ → Bool) (xs : List ℕ) : Type 0 where
  front : List ℕ
  byte : ℕ
  rest : List ℕ
  whole : xs ≡ front ++ byte ∷ rest
  none : list_all (other p) front ≡ true
  is : p byte ≡ true

find_first : (p : ℕ → Bool) (xs : List ℕ) → Found p xs ⊎ (list_all (other p) xs ≡ true)
find_first p [] = inr refl
find_first p (x ∷ xs) = by_cases (p x) (λ t. p x ≡ t → Found p (x ∷ xs) ⊎ (list_all (other p) (x ∷ xs) ≡ true))
    (λ _ is. inl (record { front = []; byte = x; rest = xs; whole = refl; none = refl; is = is }))
    (λ _ isnt. on isnt (find_first p xs)) refl
  where
    on : p x ≡ false → Found p xs ⊎ (list_all (other p) xs ≡ true) → Found p (x ∷ xs) ⊎ (list_all (other p) (x ∷ xs) ≡ true)
    on isnt (inl f) = inl (record { front = x ∷ f.front; byte = f.byte; rest = f.rest; whole = ap (λ (t : List ℕ). x ∷ t) f.whole; none = rw (isnt, f.none) refl; is = f.is })
    on isnt (inr none) = inr (rw (isnt, none) refl)

all_append : (p : ℕ → Bool) (xs ys : List ℕ) → list_all p xs ≡ true → list_all p ys ≡ true → list_all p (xs ++ ys) ≡ true
all_append p [] ys h k = k
all_append p (x ∷ xs) ys h k = by_cases (p x) (λ t. (t && list_all p xs) ≡ true → (t && list_all p (xs ++ ys)) ≡ true) (λ _ rest. all_append p xs ys rest k) (λ _ rest. absurd cc) h

no_colon : (xs : List ℕ) → HasNo 58 xs → list_all (other is_colon) xs ≡ true
no_colon xs h = by xs (recursion_from_All (λ b. b ≢ 58) xs h)
  where
    by : (xs : List ℕ) → AllByRecursion (λ b. b ≢ 58) xs → list_all (other is_colon) xs ≡ true
    by [] h = refl
    by (x ∷ xs) h = rw (ne_eqb x 58 h.0, by xs h.1) refl

-- ---- words

onto_front : (x : ℕ) (fs gs : List (List ℕ)) → 0 < length fs → onto_first x (fs ++ gs) ≡ onto_first x fs ++ gs
onto_front x [] gs lt = absurd (omega arith)
onto_front x (f ∷ fs) gs lt = refl

split_both : (xs : List ℕ) (y : ℕ) (ys : List ℕ) → is_blank y ≡ true → slice_split is_blank (xs ++ y ∷ ys) ≡ slice_split is_blank xs ++ slice_split is_blank ys
split_both [] y ys is = rw is refl
split_both (x ∷ xs) y ys is = by_cases (is_blank x)
    (λ t. cond t ([] ∷ slice_split is_blank (xs ++ y ∷ ys)) (onto_first x (slice_split is_blank (xs ++ y ∷ ys))) ≡ cond t ([] ∷ slice_split is_blank xs) (onto_first x (slice_split is_blank xs)) ++ slice_split is_blank ys)
    (λ _. ap (λ ps. [] ∷ ps) (split_both xs y ys is))
    (λ _. ap (onto_first x) (split_both xs y ys is) ∙ onto_front x (slice_split is_blank xs) (slice_split is_blank ys) (omega (arith, length-slice_split is_blank xs)))

words_both : (xs : List ℕ) (y : ℕ) (ys : List ℕ) → is_blank y ≡ true → words_of (xs ++ y ∷ ys) ≡ words_of xs ++ words_of ys
words_both xs y ys is = ap (filter (λ w. nat_lt 0 (length w))) (split_both xs y ys is) ∙ filter-append (λ w. nat_lt 0 (length w)) (slice_split is_blank xs) (slice_split is_blank ys)

blank_is_no_colon : (b : ℕ) → is_blank b ≡ true → is_colon b ≡ false
blank_is_no_colon b is = by_cases (eqb b 58) (λ t. eqb b 58 ≡ t → t ≡ false) (λ _ e. absurd (let bad : is_blank 58 ≡ true = subst (λ n. is_blank n ≡ true) (eqb-true b 58 e) is in cc)) (λ _ _. refl) refl

blank_is_no_bar : (b : ℕ) → is_blank b ≡ true → is_bar b ≡ false
blank_is_no_bar b is = by_cases (eqb b 124) (λ t. eqb b 124 ≡ t → t ≡ false) (λ _ e. absurd (let bad : is_blank 124 ≡ true = subst (λ n. is_blank n ≡ true) (eqb-true b 124 e) is in cc)) (λ _ _. refl) refl

-- ---- the first refusal

first_append : (xs ys : List (Option (List ℕ))) → first_of (xs ++ ys) ≡ option_or (first_of xs) (first_of ys)
first_append [] ys = refl
first_append (None ∷ xs) ys = first_append xs ys
first_append (Some r ∷ xs) ys = refl

among : List (List ℕ) → Option (List ℕ)
among ws = first_of (map prerequisite_refusal ws)

among_both : (ws vs : List (List ℕ)) → among (ws ++ vs) ≡ option_or (among ws) (among vs)
unfolding among
among_both ws vs = ap first_of (map-append prerequisite_refusal ws vs) ∙ first_append (map prerequisite_refusal ws) (map prerequisite_refusal vs)

-- what is refused among prerequisites stays so with more of them behind
record Further (n o m p : Option (List ℕ)) : Type 0 where
  holds : (name : List ℕ) → option_or n o ≡ Some name → option_or m p ≡ Some name

-- ---- the prerequisites

module _ (b : ℕ) (blank : is_blank b ≡ true) (text rest : List ℕ) where
  abbrev Ps : List ℕ → List ℕ → Type 0
  Ps xs ys = Further (among (words_of (normal_text xs))) (among (words_of (order_text xs))) (among (words_of (normal_text ys))) (among (words_of (order_text ys)))

  parts_at : (u : List ℕ) (y : ℕ) (v : List ℕ) → list_all (other is_bar) u ≡ true → is_bar y ≡ true → (normal_text (u ++ y ∷ v) ≡ u) × (order_text (u ++ y ∷ v) ≡ v)
  parts_at u y v none is =
      let at = first_at is_bar u y v none is in
      let more : length (u ++ y ∷ []) ≡ length u + 1 = omega (arith, length-append u (y ∷ [])) in (
        ap (λ o. option_map_or (λ n. take n (u ++ y ∷ v)) o (u ++ y ∷ v)) at ∙ take_at u (y ∷ v) (length u) refl,
        ap (λ o. option_map_or (λ n. behind n (u ++ y ∷ v)) o []) at ∙ ap (drop (length u + 1)) (sym (append_assoc u (y ∷ []) v)) ∙ drop_at (u ++ y ∷ []) v (length u + 1) more,
      )

  parts_none : (u : List ℕ) → list_all (other is_bar) u ≡ true → (normal_text u ≡ u) × (order_text u ≡ [])
  parts_none u none = let at = nowhere is_bar u none in (ap (λ o. option_map_or (λ n. take n u) o u) at, ap (λ o. option_map_or (λ n. behind n u) o []) at)

  or_some : (n m : Option (List ℕ)) (name : List ℕ) → n ≡ Some name → option_or n m ≡ Some name
  or_some (Some x) m name e = e
  or_some None m name e = absurd cc

  -- with no bar in front the prerequisites in front are normal ones
  from_none : (m p : Option (List ℕ)) (n more : Option (List ℕ)) → m ≡ option_or n more → Further n None m p
  from_none m p None more e = record { holds = λ name h. absurd cc }
  from_none m p (Some x) more e = record { holds = λ name h. rw e h }

  from_bar : (n o more : Option (List ℕ)) → Further n o n (option_or o more)
  from_bar (Some x) o more = record { holds = λ name h. h }
  from_bar None o more = record { holds = λ name h. or_some o more name h }

  front_words : (u v : List ℕ) → among (words_of (u ++ b ∷ v)) ≡ option_or (among (words_of u)) (among (words_of v))
  front_words u v = ap among (words_both u b v blank) ∙ among_both (words_of u) (words_of v)

  or_none : (o : Option (List ℕ)) → option_or o None ≡ o
  or_none None = refl
  or_none (Some x) = refl

  last_words : (u : List ℕ) → among (words_of (u ++ b ∷ [])) ≡ among (words_of u)
  unfolding among
  last_words u = front_words u [] ∙ or_none (among (words_of u))

  abbrev first_text : List ℕ
  first_text = text ++ b ∷ []

  abbrev whole_text : List ℕ
  whole_text = text ++ b ∷ rest

  with_bar : Found is_bar text → Ps first_text whole_text
  with_bar f =
      let e : first_text ≡ f.front ++ f.byte ∷ (f.rest ++ b ∷ []) = ap (λ (t : List ℕ). t ++ b ∷ []) f.whole ∙ append_assoc f.front (f.byte ∷ f.rest) (b ∷ []) in
      let g : whole_text ≡ f.front ++ f.byte ∷ (f.rest ++ b ∷ rest) = ap (λ (t : List ℕ). t ++ b ∷ rest) f.whole ∙ append_assoc f.front (f.byte ∷ f.rest) (b ∷ rest) in
      let x = parts_at f.front f.byte (f.rest ++ b ∷ []) f.none f.is in
      let y = parts_at f.front f.byte (f.rest ++ b ∷ rest) f.none f.is in
      let n = among (words_of f.front) in
      let o = among (words_of f.rest) in
      let nx : among (words_of (normal_text first_text)) ≡ n = ap (λ t. among (words_of (normal_text t))) e ∙ ap (λ t. among (words_of t)) x.0 in
      let ny : among (words_of (normal_text whole_text)) ≡ n = ap (λ t. among (words_of (normal_text t))) g ∙ ap (λ t. among (words_of t)) y.0 in
      let ox : among (words_of (order_text first_text)) ≡ o = ap (λ t. among (words_of (order_text t))) e ∙ ap (λ t. among (words_of t)) x.1 ∙ last_words f.rest in
      let oy : among (words_of (order_text whole_text)) ≡ option_or o (among (words_of rest)) = ap (λ t. among (words_of (order_text t))) g ∙ ap (λ t. among (words_of t)) y.1 ∙ front_words f.rest rest in
      let h = from_bar n o (among (words_of rest)) in
      record { holds = λ name is. ap₂ option_or ny oy ∙ h.holds name (sym (ap₂ option_or nx ox) ∙ is) }

  without_bar : list_all (other is_bar) text ≡ true → Ps first_text whole_text
  unfolding among
  without_bar none =
      let blank_other : list_all (other is_bar) (b ∷ []) ≡ true = rw (blank_is_no_bar b blank) refl in
      let x = parts_none first_text (all_append (other is_bar) text (b ∷ []) none blank_other) in
      let n = among (words_of text) in
      let nx : among (words_of (normal_text first_text)) ≡ n = ap (λ t. among (words_of t)) x.0 ∙ last_words text in
      let ox : among (words_of (order_text first_text)) ≡ None = ap (λ t. among (words_of t)) x.1 in
      let ny = behind_bar none (find_first is_bar rest) in
      let h = from_none (among (words_of (normal_text whole_text))) (among (words_of (order_text whole_text))) n ny.0 ny.1 in
      record { holds = λ name is. h.holds name (sym (ap₂ option_or nx ox) ∙ is) }
    where
      behind_bar : list_all (other is_bar) text ≡ true → Found is_bar rest ⊎ (list_all (other is_bar) rest ≡ true) → (more : Option (List ℕ)) × (among (words_of (normal_text whole_text)) ≡ option_or (among (words_of text)) more)
      behind_bar none (inl f) =
          let front : list_all (other is_bar) (text ++ b ∷ f.front) ≡ true = all_append (other is_bar) text (b ∷ f.front) none (rw (blank_is_no_bar b blank) f.none) in
          let g : whole_text ≡ (text ++ b ∷ f.front) ++ f.byte ∷ f.rest = ap (λ (t : List ℕ). text ++ b ∷ t) f.whole ∙ sym (append_assoc text (b ∷ f.front) (f.byte ∷ f.rest)) in
          (among (words_of f.front), ap (λ t. among (words_of (normal_text t))) g ∙ ap (λ t. among (words_of t)) (parts_at (text ++ b ∷ f.front) f.byte f.rest front f.is).0 ∙ front_words text f.front)
      behind_bar none (inr all) =
          let whole : list_all (other is_bar) whole_text ≡ true = all_append (other is_bar) text (b ∷ rest) none (rw (blank_is_no_bar b blank) all) in
          (among (words_of rest), ap (λ t. among (words_of t)) (parts_none whole_text whole).0 ∙ front_words text rest)

  prerequisites : Ps first_text whole_text
  prerequisites = by (find_first is_bar text)
    where
      by : Found is_bar text ⊎ (list_all (other is_bar) text ≡ true) → Ps first_text whole_text
      by (inl f) = with_bar f
      by (inr none) = without_bar none

  -- what is followed by prerequisites stays so with more of them behind
  abbrev Follows : List (List ℕ) → List (List ℕ) → Bool
  Follows n o = not (length n == 0) || not (length o == 0)

  some_filled : (w : List ℕ) (ws : List (List ℕ)) → (length (w ∷ ws) == 0) ≡ false
  some_filled w ws = ne_eqb (length (w ∷ ws)) 0 (λ e. (let bad : suc (length ws) ≡ 0 = e in absurd (omega (arith, bad))))

  or_more : (n ws vs : List (List ℕ)) → Follows n ws ≡ true → Follows n (ws ++ vs) ≡ true
  or_more [] [] vs h = absurd cc
  or_more [] (w ∷ ws) vs h = rw (some_filled w (ws ++ vs)) refl
  or_more (x ∷ n) ws vs h = rw (some_filled x n) refl

  either_more : (ws vs os : List (List ℕ)) → Follows ws [] ≡ true → Follows (ws ++ vs) os ≡ true
  either_more [] vs os h = absurd cc
  either_more (w ∷ ws) vs os h = rw (some_filled w (ws ++ vs)) refl

  last_list : (u : List ℕ) → words_of (u ++ b ∷ []) ≡ words_of u
  last_list u = words_both u b [] blank ∙ append-nil (words_of u)

  abbrev Stay : Type 0
  Stay = Follows (words_of (normal_text first_text)) (words_of (order_text first_text)) ≡ true → Follows (words_of (normal_text whole_text)) (words_of (order_text whole_text)) ≡ true

  stay_bar : Found is_bar text → Stay
  stay_bar f h =
      let e : first_text ≡ f.front ++ f.byte ∷ (f.rest ++ b ∷ []) = ap (λ (t : List ℕ). t ++ b ∷ []) f.whole ∙ append_assoc f.front (f.byte ∷ f.rest) (b ∷ []) in
      let g : whole_text ≡ f.front ++ f.byte ∷ (f.rest ++ b ∷ rest) = ap (λ (t : List ℕ). t ++ b ∷ rest) f.whole ∙ append_assoc f.front (f.byte ∷ f.rest) (b ∷ rest) in
      let x = parts_at f.front f.byte (f.rest ++ b ∷ []) f.none f.is in
      let y = parts_at f.front f.byte (f.rest ++ b ∷ rest) f.none f.is in
      let nx : words_of (normal_text first_text) ≡ words_of f.front = ap (λ t. words_of (normal_text t)) e ∙ ap words_of x.0 in
      let ny : words_of (normal_text whole_text) ≡ words_of f.front = ap (λ t. words_of (normal_text t)) g ∙ ap words_of y.0 in
      let ox : words_of (order_text first_text) ≡ words_of f.rest = ap (λ t. words_of (order_text t)) e ∙ ap words_of x.1 ∙ last_list f.rest in
      let oy : words_of (order_text whole_text) ≡ words_of f.rest ++ words_of rest = ap (λ t. words_of (order_text t)) g ∙ ap words_of y.1 ∙ words_both f.rest b rest blank in
      ap₂ Follows ny oy ∙ or_more (words_of f.front) (words_of f.rest) (words_of rest) (sym (ap₂ Follows nx ox) ∙ h)

  stay_none : list_all (other is_bar) text ≡ true → Stay
  stay_none none h =
      let blank_other : list_all (other is_bar) (b ∷ []) ≡ true = rw (blank_is_no_bar b blank) refl in
      let x = parts_none first_text (all_append (other is_bar) text (b ∷ []) none blank_other) in
      let nx : words_of (normal_text first_text) ≡ words_of text = ap words_of x.0 ∙ last_list text in
      let ox : words_of (order_text first_text) ≡ [] = ap words_of x.1 in
      let ny = behind_none none (find_first is_bar rest) in
      ap (λ n. Follows n (words_of (order_text whole_text))) ny.1 ∙ either_more (words_of text) ny.0 (words_of (order_text whole_text)) (sym (ap₂ Follows nx ox) ∙ h)
    where
      behind_none : list_all (other is_bar) text ≡ true → Found is_bar rest ⊎ (list_all (other is_bar) rest ≡ true) → (more : List (List ℕ)) × (words_of (normal_text whole_text) ≡ words_of text ++ more)
      behind_none none (inl f) =
          let front : list_all (other is_bar) (text ++ b ∷ f.front) ≡ true = all_append (other is_bar) text (b ∷ f.front) none (rw (blank_is_no_bar b blank) f.none) in
          let g : whole_text ≡ (text ++ b ∷ f.front) ++ f.byte ∷ f.rest = ap (λ (t : List ℕ). text ++ b ∷ t) f.whole ∙ sym (append_assoc text (b ∷ f.front) (f.byte ∷ f.rest)) in
          (words_of f.front, ap (λ t. words_of (normal_text t)) g ∙ ap words_of (parts_at (text ++ b ∷ f.front) f.byte f.rest front f.is).0 ∙ words_both text b f.front blank)
      behind_none none (inr all) =
          let whole : list_all (other is_bar) whole_text ≡ true = all_append (other is_bar) text (b ∷ rest) none (rw (blank_is_no_bar b blank) all) in
          (words_of rest, ap words_of (parts_none whole_text whole).0 ∙ words_both text b rest blank)

  followed_stays : Stay
  followed_stays = by (find_first is_bar text)
    where
      by : Found is_bar text ⊎ (list_all (other is_bar) text ≡ true) → Stay
      by (inl f) = stay_bar f
      by (inr none) = stay_none none

-- ---- targets among which is `.SUFFIXES`

-- the refusal stays, or is that of `.SUFFIXES` now
abbrev Stays : Option (List ℕ) → Option (List ℕ) → Type 0
Stays n m = (m ≡ n) ⊎ (m ≡ Some (codes ".SUFFIXES"))

stays_one : (m s x : Bool) (p : Option (List ℕ)) (t u : List ℕ) (fs gs : List (Option (List ℕ))) → (x ≡ true → u ≡ codes ".SUFFIXES") → Stays (first_of fs) (first_of gs)
    → Stays (first_of ((if m then Some t else if s then Some u else if false && x then Some u else p) ∷ fs)) (first_of ((if m then Some t else if s then Some u else if true && x then Some u else p) ∷ gs))
stays_one true s x p t u fs gs is h = inl refl
stays_one false true x p t u fs gs is h = inl refl
stays_one false false true p t u fs gs is h = inr (ap Some (is refl))
stays_one false false false (Some r) t u fs gs is h = inl refl
stays_one false false false None t u fs gs is h = h

abbrev refused_among : Bool → Bool → List (List ℕ) → Option (List ℕ)
refused_among several followed ts = first_of (map (target_refusal several followed) ts)

stays_all : (several : Bool) (ts : List (List ℕ)) → Stays (refused_among several false ts) (refused_among several true ts)
stays_all several [] = inl refl
stays_all several (t ∷ ts) =
    stays_one (is_member t) (is_special (undotted t)) (bytes_eq (undotted t) (codes ".SUFFIXES")) (percent_refusal several t) t (undotted t) (map (target_refusal several false) ts) (map (target_refusal several true) ts)
    (λ is. (bytes_eq-Decides (undotted t) (codes ".SUFFIXES")).0 is) (stays_all several ts)

stays_by : (several f g : Bool) (ts : List (List ℕ)) → (f ≡ true → g ≡ true) → Stays (refused_among several f ts) (refused_among several g ts)
stays_by several true true ts up = inl refl
stays_by several true false ts up = absurd (let bad = up refl in cc)
stays_by several false true ts up = stays_all several ts
stays_by several false false ts up = inl refl

-- ---- the head

module _ (targets middle : List ℕ) (plain : list_all (other is_colon) targets ≡ true) where
  abbrev names : List ℕ
  names = targets_text targets

  -- what a second colon parts off, whatever stands behind a blank
  abbrev Forms : List ℕ → Type 0
  Forms text = (form : Option (List ℕ)) × (after : List ℕ) × ((b : ℕ) (rest : List ℕ) → is_blank b ≡ true → list_all (other is_colon) rest ≡ true → (k : RuleKind) → head_with k names (text ++ b ∷ rest) ≡ head k names form (after ++ b ∷ rest))

  forms : (text : List ℕ) → Forms text
  forms text = by (find_first is_colon text)
    where
      by : Found is_colon text ⊎ (list_all (other is_colon) text ≡ true) → Forms text
      by (inl f) = (
        Some (trimmed f.front),
        f.rest,
        λ b rest blank none k.
            let v = f.rest ++ b ∷ rest in
            let g : text ++ b ∷ rest ≡ f.front ++ f.byte ∷ v = ap (λ (t : List ℕ). t ++ b ∷ rest) f.whole ∙ append_assoc f.front (f.byte ∷ f.rest) (b ∷ rest) in
            let at = first_at is_colon f.front f.byte v f.none f.is in
            let more : length (f.front ++ f.byte ∷ []) ≡ length f.front + 1 = omega (arith, length-append f.front (f.byte ∷ [])) in
            ap (head_with k names) g ∙ ap (head_by k names (f.front ++ f.byte ∷ v)) at
            ∙ ap₂ (λ x y. head k names (Some (trimmed x)) y) (take_at f.front (f.byte ∷ v) (length f.front) refl) (ap (drop (length f.front + 1)) (sym (append_assoc f.front (f.byte ∷ []) v)) ∙ drop_at (f.front ++ f.byte ∷ []) v (length f.front + 1) more),
      )
      by (inr all) = (
        None,
        text,
        λ b rest blank none k.
            ap (head_by k names (text ++ b ∷ rest)) (nowhere is_colon (text ++ b ∷ rest) (all_append (other is_colon) text (b ∷ rest) all (rw (blank_is_no_colon b blank) none))),
      )

  -- what stands right behind the colon
  abbrev Behind : Type 0
  Behind = (text : List ℕ) × ((b : ℕ) (rest : List ℕ) → is_blank b ≡ true → behind_colon (middle ++ b ∷ rest) ≡ text ++ b ∷ rest) × ((b : ℕ) (rest : List ℕ) → is_blank b ≡ true → kind_of targets (middle ++ b ∷ rest) ≡ kind_of targets (middle ++ b ∷ []))

  starts : (m : ℕ) (ms : List ℕ) → starts_with nat_eq (m ∷ ms) (codes ":") ≡ (nat_eq 58 m && true)
  starts m ms = refl

  blank_starts : (b : ℕ) (rest : List ℕ) → is_blank b ≡ true → starts_with nat_eq (b ∷ rest) (codes ":") ≡ false
  blank_starts b rest blank = starts b rest ∙ ap (λ t. t && true) (turned b (blank_is_no_colon b blank))
    where
      turned : (b : ℕ) → eqb b 58 ≡ false → nat_eq 58 b ≡ false
      turned b e = ne_eqb 58 b (λ s. let bad : eqb b 58 ≡ true = subst (λ n. eqb n 58 ≡ true) s refl in absurd (let no : true ≡ false = sym bad ∙ e in cc))

  behind_is : (middle' : List ℕ) → middle ≡ middle' → Behind
  behind_is [] e = ([], λ b rest blank. rw (e, blank_starts b rest blank) refl, λ b rest blank. rw (e, blank_starts b rest blank) refl)
  behind_is (m ∷ ms) e = (
    if nat_eq 58 m && true then ms else m ∷ ms,
    λ b rest blank. rw e (by_cases (nat_eq 58 m && true) (λ t. (if t then drop 1 (m ∷ ms ++ b ∷ rest) else m ∷ ms ++ b ∷ rest) ≡ (if t then ms else m ∷ ms) ++ b ∷ rest) (λ _. refl) (λ _. refl)),
    λ b rest blank. rw e refl,
  )

  shape : (form : Option (List ℕ)) × (text : List ℕ) × ((b : ℕ) (rest : List ℕ) → is_blank b ≡ true → list_all (other is_colon) rest ≡ true → (k : RuleKind) → head_with k names (behind_colon (middle ++ b ∷ rest)) ≡ head k names form (text ++ b ∷ rest))
  shape =
      let x = behind_is middle refl in
      let f = forms x.0 in
      (f.0, f.1, λ b rest blank none k. ap (head_with k names) (x.1 b rest blank) ∙ f.2 b rest blank none k)

  -- the colons

  starts_same : (xs : List ℕ) (b : ℕ) (rest : List ℕ) → is_blank b ≡ true → starts_with nat_eq (xs ++ b ∷ rest) (codes ":") ≡ starts_with nat_eq (xs ++ b ∷ []) (codes ":")
  starts_same [] b rest blank = blank_starts b rest blank ∙ sym (blank_starts b [] blank)
  starts_same (x ∷ xs) b rest blank = refl

  -- what stands behind the second colon, where one stands in front of the blank
  doubled_at : (text : List ℕ) → Found is_colon text → (after : List ℕ) × ((b : ℕ) (rest : List ℕ) → is_doubled (text ++ b ∷ rest) ≡ starts_with nat_eq (after ++ b ∷ rest) (codes ":"))
  doubled_at text f = (
    f.rest,
    λ b rest.
        let v = f.rest ++ b ∷ rest in
        let g : text ++ b ∷ rest ≡ f.front ++ f.byte ∷ v = ap (λ (t : List ℕ). t ++ b ∷ rest) f.whole ∙ append_assoc f.front (f.byte ∷ f.rest) (b ∷ rest) in
        let more : length (f.front ++ f.byte ∷ []) ≡ length f.front + 1 = omega (arith, length-append f.front (f.byte ∷ [])) in
        ap is_doubled g
        ∙ ap (λ o. option_map_or (λ n. starts_with nat_eq (behind n (f.front ++ f.byte ∷ v)) (codes ":")) o false) (first_at is_colon f.front f.byte v f.none f.is)
        ∙ ap (λ (t : List ℕ). starts_with nat_eq t (codes ":")) (ap (drop (length f.front + 1)) (sym (append_assoc f.front (f.byte ∷ []) v)) ∙ drop_at (f.front ++ f.byte ∷ []) v (length f.front + 1) more),
  )

  doubled_none : (text : List ℕ) → list_all (other is_colon) text ≡ true → is_doubled text ≡ false
  doubled_none text none = ap (λ o. option_map_or (λ n. starts_with nat_eq (behind n text) (codes ":")) o false) (nowhere is_colon text none)

  doubled_same : (text : List ℕ) (b : ℕ) (rest : List ℕ) → is_blank b ≡ true → list_all (other is_colon) rest ≡ true → is_doubled (text ++ b ∷ rest) ≡ is_doubled (text ++ b ∷ [])
  doubled_same text b rest blank none = by (find_first is_colon text)
    where
      by : Found is_colon text ⊎ (list_all (other is_colon) text ≡ true) → is_doubled (text ++ b ∷ rest) ≡ is_doubled (text ++ b ∷ [])
      by (inl f) = let d = doubled_at text f in d.1 b rest ∙ starts_same d.0 b rest blank ∙ sym (d.1 b [])
      by (inr all) =
          doubled_none (text ++ b ∷ rest) (all_append (other is_colon) text (b ∷ rest) all (rw (blank_is_no_colon b blank) none))
          ∙ sym (doubled_none (text ++ b ∷ []) (all_append (other is_colon) text (b ∷ []) all (rw (blank_is_no_colon b blank) refl)))

  colons_same : (b : ℕ) (rest : List ℕ) → is_blank b ≡ true → list_all (other is_colon) rest ≡ true → colons_of targets (middle ++ b ∷ rest) ≡ colons_of targets (middle ++ b ∷ [])
  colons_same b rest blank none =
      let x = behind_is middle refl in
      let again : is_doubled (behind_colon (middle ++ b ∷ rest)) ≡ is_doubled (behind_colon (middle ++ b ∷ [])) = ap is_doubled (x.1 b rest blank) ∙ doubled_same x.0 b rest blank none ∙ sym (ap is_doubled (x.1 b [] blank)) in
      λ i. record { grouped = is_grouped targets; double = starts_same middle b rest blank i; again = again i }

  abbrev line : List ℕ → List ℕ
  line rest = targets ++ 58 ∷ (middle ++ rest)

  line_at : (rest : List ℕ) → position is_colon (line rest) ≡ Some (length targets)
  line_at rest = first_at is_colon targets 58 (middle ++ rest) plain refl

  line_front : (rest : List ℕ) → take (length targets) (line rest) ≡ targets
  line_front rest = take_at targets (58 ∷ (middle ++ rest)) (length targets) refl

  line_behind : (rest : List ℕ) → behind (length targets) (line rest) ≡ middle ++ rest
  line_behind rest =
      let more : length (targets ++ 58 ∷ []) ≡ length targets + 1 = omega (arith, length-append targets (58 ∷ [])) in
      ap (drop (length targets + 1)) (sym (append_assoc targets (58 ∷ []) (middle ++ rest))) ∙ drop_at (targets ++ 58 ∷ []) (middle ++ rest) (length targets + 1) more

  refusal_is : (assigns : Bool) (rest : List ℕ) → refusal_of assigns (line rest) ≡ head_refusal assigns (colons_of targets (middle ++ rest)) (head_with (kind_of targets (middle ++ rest)) names (behind_colon (middle ++ rest)))
  unfolding refusal_of
  refusal_is assigns rest =
      ap (option_and_then (refusal_at assigns (line rest))) (line_at rest)
      ∙ ap₂ (λ t x. head_refusal assigns (colons_of t x) (head_with (kind_of t x) (targets_text t) (behind_colon x))) (line_front rest) (line_behind rest)

  -- ---- targets that aren't `.SUFFIXES`

  abbrev NoSuffixes : List (List ℕ) → Type 0
  NoSuffixes ts = AllByRecursion (λ t. bytes_eq (undotted t) (codes ".SUFFIXES") ≡ false) ts

  target_same : (several f g : Bool) (t : List ℕ) → bytes_eq (undotted t) (codes ".SUFFIXES") ≡ false → target_refusal several f t ≡ target_refusal several g t
  target_same several f g t isnt =
      let off : (x : Bool) → (x && bytes_eq (undotted t) (codes ".SUFFIXES")) ≡ false = λ x. ap (λ y. x && y) isnt ∙ and_false x in
      ap (λ x. if is_member t then Some t else if is_special (undotted t) then Some (undotted t) else if x then Some (undotted t) else percent_refusal several t) (off f ∙ sym (off g))
    where
      and_false : (x : Bool) → (x && false) ≡ false
      and_false true = refl
      and_false false = refl

  targets_same : (several f g : Bool) (ts : List (List ℕ)) → NoSuffixes ts → map (target_refusal several f) ts ≡ map (target_refusal several g) ts
  targets_same several f g [] h = refl
  targets_same several f g (t ∷ ts) h = ap₂ (λ x xs. x ∷ xs) (target_same several f g t h.0) (targets_same several f g ts h.1)

  both_or : (t c n o m p : Option (List ℕ)) (name : List ℕ) → Further n o m p → option_or t (option_or c (option_or n o)) ≡ Some name → option_or t (option_or c (option_or m p)) ≡ Some name
  both_or (Some x) c n o m p name h e = e
  both_or None (Some x) n o m p name h e = e
  both_or None None n o m p name h e = h.holds name e

  module _ (b : ℕ) (rest : List ℕ) (blank : is_blank b ≡ true) (none : list_all (other is_colon) rest ≡ true) (known : NoSuffixes (words_of names)) where
    whole : (assigns : Bool) (name : List ℕ) → refusal_of assigns (line (b ∷ [])) ≡ Some name → refusal_of assigns (line (b ∷ rest)) ≡ Some name
    unfolding among
    whole assigns name h =
        let s = shape in
        let c = colons_of targets (middle ++ b ∷ []) in
        let k = kind_of targets (middle ++ b ∷ []) in
        let x = head k names s.0 (s.1 ++ b ∷ []) in
        let y = head k names s.0 (s.1 ++ b ∷ rest) in
        let first : refusal_of assigns (line (b ∷ [])) ≡ head_refusal assigns c x = refusal_is assigns (b ∷ []) ∙ ap (head_refusal assigns c) (s.2 b [] blank refl k) in
        let last : refusal_of assigns (line (b ∷ rest)) ≡ head_refusal assigns c y = refusal_is assigns (b ∷ rest)
        ∙ ap₂ (λ d j. head_refusal assigns d (head_with j names (behind_colon (middle ++ b ∷ rest)))) (colons_same b rest blank none) ((behind_is middle refl).2 b rest blank) ∙ ap (head_refusal assigns c) (s.2 b rest blank none k) in
        let ts : first_of (map (target_refusal (is_mixed x) (is_followed x)) x.targets) ≡ first_of (map (target_refusal (is_mixed y) (is_followed y)) y.targets) = ap first_of (targets_same (is_mixed x) (is_followed x) (is_followed y) (words_of names) known) in
        last ∙ both_or (first_of (map (target_refusal (is_mixed y) (is_followed y)) y.targets)) (colon_refusal c assigns y.targets) (among x.normal) (among x.order) (among y.normal) (among y.order) name (prerequisites b blank s.1 rest)
        (sym (ap (λ t. option_or t (option_or (colon_refusal c assigns x.targets) (option_or (among x.normal) (among x.order)))) ts) ∙ sym first ∙ h)

  either_or : (t r c n o m p : Option (List ℕ)) (name : List ℕ) → Further n o m p → Stays t r → option_or t (option_or c (option_or n o)) ≡ Some name
      → (option_or r (option_or c (option_or m p)) ≡ Some name) ⊎ (option_or r (option_or c (option_or m p)) ≡ Some (codes ".SUFFIXES"))
  either_or t r c n o m p name h (inl e) is = inl (ap (λ x. option_or x (option_or c (option_or m p))) e ∙ both_or t c n o m p name h is)
  either_or t r c n o m p name h (inr e) is = inr (ap (λ x. option_or x (option_or c (option_or m p))) e)

  module _ (b : ℕ) (rest : List ℕ) (blank : is_blank b ≡ true) (none : list_all (other is_colon) rest ≡ true) where
    any_targets : (assigns : Bool) (name : List ℕ) → refusal_of assigns (line (b ∷ [])) ≡ Some name → (refusal_of assigns (line (b ∷ rest)) ≡ Some name) ⊎ (refusal_of assigns (line (b ∷ rest)) ≡ Some (codes ".SUFFIXES"))
    unfolding among
    any_targets assigns name h =
        let s = shape in
        let c = colons_of targets (middle ++ b ∷ []) in
        let k = kind_of targets (middle ++ b ∷ []) in
        let x = head k names s.0 (s.1 ++ b ∷ []) in
        let y = head k names s.0 (s.1 ++ b ∷ rest) in
        let first : refusal_of assigns (line (b ∷ [])) ≡ head_refusal assigns c x = refusal_is assigns (b ∷ []) ∙ ap (head_refusal assigns c) (s.2 b [] blank refl k) in
        let last : refusal_of assigns (line (b ∷ rest)) ≡ head_refusal assigns c y = refusal_is assigns (b ∷ rest)
        ∙ ap₂ (λ d j. head_refusal assigns d (head_with j names (behind_colon (middle ++ b ∷ rest)))) (colons_same b rest blank none) ((behind_is middle refl).2 b rest blank) ∙ ap (head_refusal assigns c) (s.2 b rest blank none k) in
        let up : is_followed x ≡ true → is_followed y ≡ true = followed_stays b blank s.1 rest in
        let found = either_or (refused_among (is_mixed x) (is_followed x) x.targets) (refused_among (is_mixed y) (is_followed y) y.targets) (colon_refusal c assigns y.targets) (among x.normal) (among x.order) (among y.normal) (among y.order) name
        (prerequisites b blank s.1 rest) (stays_by (is_mixed x) (is_followed x) (is_followed y) x.targets up) (sym first ∙ h) in
        subst (λ r. (r ≡ Some name) ⊎ (r ≡ Some (codes ".SUFFIXES"))) (sym last) found

pub any_law : (assigns : Bool) (targets middle rest name : List ℕ) (b : ℕ) → is_blank b ≡ true → HasNo 58 targets → HasNo 58 rest
    → refusal_of assigns (targets ++ 58 ∷ middle ++ b ∷ []) ≡ Some name → (refusal_of assigns (targets ++ 58 ∷ middle ++ b ∷ rest) ≡ Some name) ⊎ (refusal_of assigns (targets ++ 58 ∷ middle ++ b ∷ rest) ≡ Some (codes ".SUFFIXES"))
any_law assigns targets middle rest name b blank plain none h =
    let first = no_colon targets plain in
    let parted = λ (x : List ℕ). ap (refusal_of assigns) (append_assoc targets (58 ∷ middle) x) in
    subst (λ r. (r ≡ Some name) ⊎ (r ≡ Some (codes ".SUFFIXES"))) (sym (parted (b ∷ rest))) (any_targets targets middle first b rest blank (no_colon rest none) assigns name (sym (parted (b ∷ [])) ∙ h))

known_names : (targets middle : List ℕ) (plain : list_all (other is_colon) targets ≡ true) → NamesNoSuffixes (targets ++ 58 ∷ middle) → AllByRecursion (λ t. bytes_eq (undotted t) (codes ".SUFFIXES") ≡ false) (words_of (targets_text targets))
unfolding head_of
known_names targets middle plain h =
    let x = head_at (targets ++ 58 ∷ middle) (length targets) in
    let is = recursion_from_All (λ t. bytes_eq (undotted t) (codes ".SUFFIXES") ≡ false) x.targets (h x (ap (option_map (head_at (targets ++ 58 ∷ middle))) (first_at is_colon targets 58 middle plain refl))) in
    by (kind_of (take (length targets) (targets ++ 58 ∷ middle)) (behind (length targets) (targets ++ 58 ∷ middle))) (take (length targets) (targets ++ 58 ∷ middle)) (behind_colon (behind (length targets) (targets ++ 58 ∷ middle))) (position is_colon (behind_colon (behind (length targets) (targets ++ 58 ∷ middle)))) (take_at targets (58 ∷ middle) (length targets) refl) is
  where
    by : (k : RuleKind) (ts rest : List ℕ) (at : Option ℕ) → ts ≡ targets → AllByRecursion (λ t. bytes_eq (undotted t) (codes ".SUFFIXES") ≡ false) (head_by k (targets_text ts) rest at).targets
        → AllByRecursion (λ t. bytes_eq (undotted t) (codes ".SUFFIXES") ≡ false) (words_of (targets_text targets))
    by k ts rest None e is = subst (λ (t : List ℕ). AllByRecursion (λ t. bytes_eq (undotted t) (codes ".SUFFIXES") ≡ false) (words_of (targets_text t))) e is
    by k ts rest (Some at) e is = subst (λ (t : List ℕ). AllByRecursion (λ t. bytes_eq (undotted t) (codes ".SUFFIXES") ≡ false) (words_of (targets_text t))) e is

pub whole_law : (assigns : Bool) (targets middle rest name : List ℕ) (b : ℕ) → is_blank b ≡ true → HasNo 58 targets → HasNo 58 rest → NamesNoSuffixes (targets ++ 58 ∷ middle)
    → refusal_of assigns (targets ++ 58 ∷ middle ++ b ∷ []) ≡ Some name → refusal_of assigns (targets ++ 58 ∷ middle ++ b ∷ rest) ≡ Some name
whole_law assigns targets middle rest name b blank plain none suffixes h =
    let first = no_colon targets plain in
    let parted = λ (x : List ℕ). ap (refusal_of assigns) (append_assoc targets (58 ∷ middle) x) in
    parted (b ∷ rest) ∙ whole targets middle first b rest blank (no_colon rest none) (known_names targets middle first suffixes) assigns name (sym (parted (b ∷ [])) ∙ h)

-- ---- a text that is known up to a function

blank_ends : (b : ℕ) (xs : List ℕ) → is_blank b ≡ true → goes_on (xs ++ b ∷ []) ≡ false
blank_ends b xs blank =
    let n : length (xs ++ b ∷ []) - 1 ≡ length xs = omega (arith, length-append xs (b ∷ [])) in
    ap (λ k. ends_word (slice_get (xs ++ b ∷ []) k)) n ∙ ap ends_word (last xs) ∙ ap (λ t. not (t || (b == 58))) blank
  where
    last : (xs : List ℕ) → slice_get (xs ++ b ∷ []) (length xs) ≡ Some b
    last [] = refl
    last (x ∷ xs) = last xs

colon_there : (xs ys : List ℕ) → has_colon (xs ++ 58 ∷ ys) ≡ true
colon_there [] ys = refl
colon_there (x ∷ xs) ys = by_cases (eqb x 58) (λ t. eqb x 58 ≡ t → has_colon (x ∷ xs ++ 58 ∷ ys) ≡ true) (λ _ e. rw e refl) (λ _ e. rw e (colon_there xs ys)) refl

and_true : (x : Bool) → (x && true) ≡ x
and_true true = refl
and_true false = refl

known_is : (l : RuleLine) (targets middle function : List ℕ) (b : ℕ) → is_blank b ≡ true
    → (let text = targets ++ 58 ∷ middle ++ b ∷ [] in refusal_in l (cut_off text function) ≡ refusal_of l.assigns text)
known_is l targets middle function b blank =
    let text = targets ++ 58 ∷ middle ++ b ∷ [] in
    let there : has_colon text ≡ true = ap has_colon (append_assoc targets (58 ∷ middle) (b ∷ [])) ∙ colon_there targets (middle ++ b ∷ []) in
    let ends : goes_on text ≡ false = blank_ends b (targets ++ 58 ∷ middle) blank in
    ap (λ c. refusal_of (l.assigns && c) (if c then ended text else ended text ++ colons_in l.head)) there
    ∙ ap (λ g. refusal_of (l.assigns && true) (if g then text ++ 120 ∷ [] else text)) ends
    ∙ ap (λ a. refusal_of a text) (and_true l.assigns)

pub known_law : (l : RuleLine) (targets middle rest name function : List ℕ) (b : ℕ) → is_blank b ≡ true → HasNo 58 targets → HasNo 58 rest → NamesNoSuffixes (targets ++ 58 ∷ middle)
    → refusal_in l (cut_off (targets ++ 58 ∷ middle ++ b ∷ []) function) ≡ Some name → refusal_of l.assigns (targets ++ 58 ∷ middle ++ b ∷ rest) ≡ Some name
known_law l targets middle rest name function b blank plain none suffixes h =
    whole_law l.assigns targets middle rest name b blank plain none suffixes (sym (known_is l targets middle function b blank) ∙ h)

pub known_any : (l : RuleLine) (targets middle rest name function : List ℕ) (b : ℕ) → is_blank b ≡ true → HasNo 58 targets → HasNo 58 rest
    → refusal_in l (cut_off (targets ++ 58 ∷ middle ++ b ∷ []) function) ≡ Some name
    → (refusal_of l.assigns (targets ++ 58 ∷ middle ++ b ∷ rest) ≡ Some name) ⊎ (refusal_of l.assigns (targets ++ 58 ∷ middle ++ b ∷ rest) ≡ Some (codes ".SUFFIXES"))
known_any l targets middle rest name function b blank plain none h =
    any_law l.assigns targets middle rest name b blank plain none (sym (known_is l targets middle function b blank) ∙ h)
