-- Lines that are passed over, and texts in two parts.
use Rattle.std.proofs.Common.{◌≡◌, ◌∙◌, ℕ, zero, suc, ◌+◌, ◌-◌, ◌<◌, ◌≤◌, Bool, true, false, List, [], ◌∷◌, ◌++◌, length, take, drop, Option, Some, None, is_some, Bor, map, refl, sym, ap, subst, arith, append_assoc, length-append}
use Rattle.std.specs.Option.{MatchOption}
use Rattle.std.specs.List.{concat, flat_map}
use Rattle.std.proofs.lemmas.List.{take_all}
use Rattle.std.proofs.lemmas.List.Folds.{flat_map-map}
use Rattle.bstr.specs.Text.{lines_of}
use Rattle.bstr.proofs.lemmas.RestLemmas.{concat-lines_of}

-- one more is passed over
pub passed : (ls more : List (List ℕ)) (r : Option (Bor (List ℕ))) (n : ℕ) → MatchOption r ((ls ≡ []) × (more ≡ [])) (λ x. ls ≡ x.now ∷ more) → is_some r ≡ true → 0 < n → drop (n - 1) more ≡ drop n ls
passed ls more None n h some low = absurd cc
passed ls more (Some x) zero h some low = absurd (omega arith)
passed ls more (Some x) (suc n) h some low = let e : suc n - 1 ≡ n = omega arith in rw (e, h) refl

-- there is none more
pub ended_at : (ls more : List (List ℕ)) (r : Option (Bor (List ℕ))) (n : ℕ) → MatchOption r ((ls ≡ []) × (more ≡ [])) (λ x. ls ≡ x.now ∷ more) → is_some r ≡ false → drop n ls ≡ []
ended_at ls more None zero h none = h.0
ended_at ls more None (suc n) h none = rw h.0 refl
ended_at ls more (Some x) n h none = absurd cc

pub bytes_left : (rest : List ℕ) (ls : List (List ℕ)) → lines_of rest ≡ ls → length rest ≡ length (concat ls)
bytes_left rest ls e = ap length (sym (concat-lines_of rest) ∙ ap concat e)

pub parted : (n : ℕ) (ls : List (List ℕ)) → concat (take n ls) ++ concat (drop n ls) ≡ concat ls
parted zero ls = refl
parted (suc n) [] = refl
parted (suc n) (l ∷ ls) = append_assoc l (concat (take n ls)) (concat (drop n ls)) ∙ ap (λ rest. l ++ rest) (parted n ls)

pub text_parted : (n : ℕ) (text : List ℕ) → concat (take n (lines_of text)) ++ concat (drop n (lines_of text)) ≡ text
text_parted n text = parted n (lines_of text) ∙ concat-lines_of text

pub behind_within : (n : ℕ) (text : List ℕ) → length (concat (drop n (lines_of text))) ≤ length text
behind_within n text = omega (arith, ap length (text_parted n text), length-append (concat (take n (lines_of text))) (concat (drop n (lines_of text))))

take_front : (a b : List ℕ) → take (length a) (a ++ b) ≡ a
take_front [] b = refl
take_front (x ∷ a) b = ap (λ r. x ∷ r) (take_front a b)

drop_front : (a b : List ℕ) → drop (length a) (a ++ b) ≡ b
drop_front [] b = refl
drop_front (x ∷ a) b = drop_front a b

pub front_is : (a b text : List ℕ) → a ++ b ≡ text → take (length text - length b) text ≡ a
front_is a b text e = let n : length text - length b ≡ length a = omega (arith, ap length e, length-append a b) in rw (n, ← e) (take_front a b)

pub back_is : (a b text : List ℕ) → a ++ b ≡ text → drop (length text - length b) text ≡ b
back_is a b text e = let n : length text - length b ≡ length a = omega (arith, ap length e, length-append a b) in rw (n, ← e) (drop_front a b)

-- what all of a slice of texts give
pub joined_all : (f : List ℕ → List ℕ) (ls : List (Bor (List ℕ))) (i : ℕ) → length ls ≤ i → flat_map (λ (l : Bor (List ℕ)). f l.now) (take i ls) ≡ flat_map f (map (λ l. l.now) ls)
joined_all f ls i le = ap (flat_map (λ (l : Bor (List ℕ)). f l.now)) (take_all i ls le) ∙ sym (flat_map-map f (λ (l : Bor (List ℕ)). l.now) ls)

pub gathered_all : (f : List ℕ → List (List ℕ)) (ls : List (Bor (List ℕ))) (i : ℕ) → length ls ≤ i → flat_map (λ (l : Bor (List ℕ)). f l.now) (take i ls) ≡ flat_map f (map (λ l. l.now) ls)
gathered_all f ls i le = ap (flat_map (λ (l : Bor (List ℕ)). f l.now)) (take_all i ls le) ∙ sym (flat_map-map f (λ (l : Bor (List ℕ)). l.now) ls)
