-- Lists: positions on a rest, rests and fronts, spans, lists of references, and what holds of each
-- item.
--     by_cases            the two cases of a test, each with its equation
--     Runs, runs_to, runs_out      what a search in the rest of a text tells of the text
--     prefix_until        how long a run is that ends at the next byte
--     left_at, none_at, cell       the rest of a list from a place on
--     front_left, front_right      a front of the first of two texts, and one that reaches into the second
--     cut_..              spans
--     any_map, map_filter, map_map, find_map      searches in the images of a list, as in a list of references
--     missing, present    what an optional reference tells of what it points to
--     all_push, holds_last, all_hold, all_pass, last_push      what holds of each item, of the last, and the last one
use Rattle.std.proofs.Common.{◌≡◌, ℕ, zero, suc, ◌+◌, ◌-◌, ◌<◌, ◌≤◌, ◌&&◌, ◌||◌, Bool, true, false, cond, ltb, List, [], ◌∷◌, ◌++◌, map, length, take, drop, get_or, slice_get, Option, Some, None, All, arith, refl, sym, ap, subst, ◌∙◌, inl, inr, add-one, zero-add, drop-cons, length-drop, get_or-drop}
use Rattle.std.specs.Prelude.{is_some, find, option_copied, option_map}
use Rattle.std.specs.Borrow.{Bor}
use Rattle.std.specs.List.{AllByRecursion, filter, list_all, list_any, position, position_or_len, prefix_len}
use Rattle.std.proofs.lemmas.Bool.{cases_Bool, ltb-false}
use Rattle.std.proofs.lemmas.List.{take_all, take_rest, take-append-drop, drop-drop, length-take-le, get_or-take}
use Rattle.std.proofs.lemmas.List.Elements.{All-from_get_or}
use Rattle.std.proofs.lemmas.List.Quantifiers.{position-Some}
use Rattle.std.proofs.lemmas.List.Sums.{fails_before_first}
use Rattle.em_base.specs.declared.place.Span.{Span}
use Rattle.em_base.specs.Spans.{cut}

pub by_cases : (b : Bool) (P : Bool → Type 0) → (b ≡ true → P true) → (b ≡ false → P false) → P b
by_cases true P at_true at_false = at_true refl
by_cases false P at_true at_false = at_false refl

-- ---- positions on a rest

pub position-None : (p : ℕ → Bool) (xs : List ℕ) (i : ℕ) → position p xs ≡ None → i < length xs → p (get_or xs i 0) ≡ false
position-None p xs i none low =
    elim (cases_Bool (ltb (position_or_len p xs) (length xs))) [
      | inl t ↦ absurd (let e : cond (ltb (position_or_len p xs) (length xs)) (Some (position_or_len p xs)) None ≡ None = none in let f = ap (λ (b : Bool). cond b (Some (position_or_len p xs)) None) (sym t) ∙ e in cc)
      | inr f ↦ fails_before_first p xs i 0 (omega (arith, ltb-false _ _ f))
    ]

-- a byte of the rest from `at` on
pub at_rest : (p : ℕ → Bool) (text : List ℕ) (at i : ℕ) (b : Bool) → at ≤ i → p (get_or (take (length text - at) (drop at text)) (i - at) 0) ≡ b → p (get_or text i 0) ≡ b
at_rest p text at i b low h =
    let k : at + (i - at) ≡ i = omega arith in
    ap (λ k. p (get_or text k 0)) (sym k) ∙ ap p (sym (get_or-drop at text (i - at) 0)) ∙ ap (λ (xs : List ℕ). p (get_or xs (i - at) 0)) (sym (take_rest text at)) ∙ h

pub rest_length : (text : List ℕ) (at : ℕ) → length (take (length text - at) (drop at text)) ≡ length text - at
rest_length text at = ap length (take_rest text at) ∙ length-drop at text

-- bytes from `at` up to `end` all fail the test, and the one at `end` passes it
pub record Runs (p : ℕ → Bool) (text : List ℕ) (at end : ℕ) : Type 0 where
  pub ordered : (at ≤ end) × (end ≤ length text)
  pub fails : (i : ℕ) → at ≤ i → i < end → p (get_or text i 0) ≡ false
  pub passes : end < length text → p (get_or text end 0) ≡ true

pub runs_to : (p : ℕ → Bool) (text : List ℕ) (at n : ℕ) → at ≤ length text → position p (take (length text - at) (drop at text)) ≡ Some n → Runs p text at (at + n) × (at + n < length text)
runs_to p text at n low is =
    let s = position-Some p _ n 0 is in
    let l = rest_length text at in (
      record {
        ordered = (omega arith, omega arith);
        fails = λ i from high. at_rest p text at i false from (s.2 (i - at) (omega arith));
        passes = λ high. at_rest p text at (at + n) true (omega arith) (subst (λ k. p (get_or (take (length text - at) (drop at text)) k 0) ≡ true) (let e : n ≡ at + n - at = omega arith in e) s.1);
      },
      omega arith,
    )

pub runs_out : (p : ℕ → Bool) (text : List ℕ) (at : ℕ) → at ≤ length text → position p (take (length text - at) (drop at text)) ≡ None → Runs p text at (length text)
runs_out p text at low is =
    let l = rest_length text at in
    record {
      ordered = (low, omega arith);
      fails = λ i from high. at_rest p text at i false from (position-None p _ (i - at) is (omega arith));
      passes = λ high. absurd (omega arith);
    }

-- what is passed over up to the first byte that fails the test
pub prefix_until : {X : Type 0} (p : X → Bool) (xs : List X) (x : X) (rest : List X) → list_all p xs ≡ true → p x ≡ false → prefix_len p (xs ++ x ∷ rest) ≡ length xs
prefix_until p [] x rest all fails = rw fails refl
prefix_until p (y ∷ ys) x rest all fails = by_cases (p y) (λ b. p y ≡ b → list_all p (y ∷ ys) ≡ true → prefix_len p ((y ∷ ys) ++ x ∷ rest) ≡ length (y ∷ ys))
    (λ _ is h. let more : list_all p ys ≡ true = rw is at h in rw (is, prefix_until p ys x rest more fails) (omega arith))
    (λ _ isnt h. let bad : false ≡ true = rw isnt at h in absurd cc) refl all

-- ---- rests and fronts

pub left_at : {X : Type 0} (xs : List X) (i : ℕ) (x : X) → i < length xs → x ≡ get_or xs i x → drop i xs ≡ x ∷ drop (i + 1) xs
left_at xs i x lt is = rw (add-one, drop-cons xs i x lt) (ap (λ y. y ∷ drop (suc i) xs) (sym is))

pub none_at : {X : Type 0} (xs : List X) (i : ℕ) → length xs ≤ i → drop i xs ≡ []
none_at [] zero le = refl
none_at [] (suc i) le = refl
none_at (x ∷ xs) zero le = absurd (omega arith)
none_at (x ∷ xs) (suc i) le = none_at xs i (omega arith)

pub cell : (text : List ℕ) (at b : ℕ) → at < length text → get_or text at 0 ≡ b → drop at text ≡ b ∷ drop (at + 1) text
cell text at b lt is = rw (add-one, ← is) (drop-cons text at 0 lt)

pub front_left : {X : Type 0} (a b : List X) (n : ℕ) → (k : ℕ) × (take n a ≡ take k (a ++ b))
front_left a b zero = (0, refl)
front_left [] b (suc n) = (0, refl)
front_left (x ∷ a) b (suc n) = let rest = front_left a b n in (suc rest.0, ap (λ s. x ∷ s) rest.1)

pub front_right : {X : Type 0} (a b : List X) (n : ℕ) → a ++ take n b ≡ take (length a + n) (a ++ b)
front_right [] b n = rw zero-add
front_right (x ∷ a) b n = rw (let e : suc (length a) + n ≡ suc (length a + n) = omega arith in e) (ap (λ s. x ∷ s) (front_right a b n))

-- ---- spans

pub cut_length : (text : List ℕ) (s : Span) → s.end ≤ length text → length (cut text s) ≡ s.end - s.start
cut_length text s within = length-take-le (s.end - s.start) (drop s.start text) (omega (arith, length-drop s.start text))

pub cut_whole : (text : List ℕ) → cut text record { start = 0; end = length text } ≡ text
cut_whole text = take_all (length text - 0) text (omega arith)

pub cut_drop : (text : List ℕ) (s : Span) → s.start ≤ s.end → cut text s ++ drop s.end text ≡ drop s.start text
cut_drop text s le =
    let k : s.start + (s.end - s.start) ≡ s.end = omega arith in
    let rest : drop s.end text ≡ drop (s.end - s.start) (drop s.start text) = sym (drop-drop (s.end - s.start) s.start text ∙ ap (λ n. drop n text) k) in
    rw rest (take-append-drop (s.end - s.start) (drop s.start text))

pub cut_at : (text : List ℕ) (s : Span) (k : ℕ) → k < s.end - s.start → get_or (cut text s) k 0 ≡ get_or text (s.start + k) 0
cut_at text s k low = get_or-take (s.end - s.start) (drop s.start text) k 0 low ∙ get_or-drop s.start text k 0

pub cut_all : (P : ℕ → Type 0) (text : List ℕ) (s : Span) → s.end ≤ length text → ((i : ℕ) → s.start ≤ i → i < s.end → P (get_or text i 0)) → All P (cut text s)
cut_all P text s within each = All-from_get_or P (cut text s) 0 (λ k low.
    let l = cut_length text s within in
    subst P (sym (cut_at text s k (omega arith))) (each (s.start + k) (omega arith) (omega arith)))

-- ---- images

pub any_map : {X Y : Type 0} (p : Y → Bool) (h : X → Y) (xs : List X) → list_any p (map h xs) ≡ list_any (λ x. p (h x)) xs
any_map p h [] = refl
any_map p h (x ∷ xs) = ap (λ b. p (h x) || b) (any_map p h xs)

pub map_filter : {X Y : Type 0} (p : Y → Bool) (h : X → Y) (xs : List X) → map h (filter (λ x. p (h x)) xs) ≡ filter p (map h xs)
map_filter p h [] = refl
map_filter p h (x ∷ xs) = by_cases (p (h x)) (λ b. map h (cond b (x ∷ filter (λ x. p (h x)) xs) (filter (λ x. p (h x)) xs)) ≡ cond b (h x ∷ filter p (map h xs)) (filter p (map h xs)))
    (λ _. ap (λ ys. h x ∷ ys) (map_filter p h xs))
    (λ _. map_filter p h xs)

pub map_map : {X Y Z : Type 0} (g : Y → Z) (h : X → Y) (xs : List X) → map g (map h xs) ≡ map (λ x. g (h x)) xs
map_map g h [] = refl
map_map g h (x ∷ xs) = ap (λ ys. g (h x) ∷ ys) (map_map g h xs)

pub find_map : {X Y : Type 0} (p : Y → Bool) (h : X → Y) (xs : List X) → option_map h (find (λ x. p (h x)) xs) ≡ find p (map h xs)
find_map p h [] = refl
find_map p h (x ∷ xs) = by_cases (p (h x)) (λ b. option_map h (cond b (Some x) (find (λ x. p (h x)) xs)) ≡ cond b (Some (h x)) (find p (map h xs)))
    (λ _. refl)
    (λ _. find_map p h xs)

pub missing : {X : Type 0} (r : Option (Bor X)) (o : Option X) → option_copied r ≡ o → is_some r ≡ false → o ≡ None
missing None o e h = sym e
missing (Some x) o e h = absurd cc

pub present : {X : Type 0} (r : Option (Bor X)) (o : Option X) → option_copied r ≡ o → is_some r ≡ true → is_some o ≡ true
present None o e h = absurd cc
present (Some x) o e h = ap is_some (sym e)

-- ---- each item, and the last

module _ {X : Type 0} where
  pub all_push : (P : X → Type 0) (xs : List X) (x : X) → AllByRecursion P xs → P x → AllByRecursion P (xs ++ x ∷ [])
  all_push P [] x h p = (p, tt)
  all_push P (y ∷ ys) x h p = (h.0, all_push P ys x h.1 p)

  pub holds_last : (P : X → Type 0) (xs : List X) (x : X) → AllByRecursion P (xs ++ x ∷ []) → P x
  holds_last P [] x h = h.0
  holds_last P (y ∷ ys) x h = holds_last P ys x h.1

  pub all_hold : (p : X → Bool) (P : X → Type 0) → ((x : X) → p x ≡ true → P x) → (xs : List X) → list_all p xs ≡ true → AllByRecursion P xs
  all_hold p P hold [] h = tt
  all_hold p P hold (x ∷ xs) h = by_cases (p x) (λ b. p x ≡ b → (b && list_all p xs) ≡ true → AllByRecursion P (x ∷ xs))
      (λ is same both. (hold x is, all_hold p P hold xs both))
      (λ isnt same both. absurd cc) refl h

  pub all_pass : (p : X → Bool) (P : X → Type 0) → ((x : X) → P x → p x ≡ true) → (xs : List X) → AllByRecursion P xs → list_all p xs ≡ true
  all_pass p P pass [] h = refl
  all_pass p P pass (x ∷ xs) h = rw (pass x h.0) (all_pass p P pass xs h.1)

  pub last_push : (xs : List X) (x : X) → slice_get (xs ++ x ∷ []) (length xs) ≡ Some x
  last_push [] x = refl
  last_push (y ∷ ys) x = last_push ys x
