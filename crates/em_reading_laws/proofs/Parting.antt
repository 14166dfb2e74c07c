-- A text in which every reference is closed, and behind it another one: their parts one after
-- another.
--     run refer whole m at rest out     what the parts come to that are read from `at` on, where the byte there stands so
use Rattle.std.proofs.Common.{◌≡◌, ◌∙◌, ◌≤◌, ◌<◌, ℕ, zero, suc, ◌+◌, ◌-◌, eqb, cond, Bool, List, [], ◌∷◌, ◌++◌, length, take, drop, take-add, drop-drop, length-drop, append_assoc, append-nil, Option, Some, None, arith, refl, sym, ap, ap₂, subst}
use Rattle.std.specs.Prelude.{slice_get, option_and_then}
use Rattle.std.specs.List.{AllByRecursion}
use Rattle.std.proofs.lemmas.Bool.{eqb-true}
use Rattle.std.proofs.lemmas.List.{take-append-le, drop-append-le}
use Rattle.em_base.proofs.Lemmas.{by_cases}
use Rattle.em_base.specs.Spans.{cut}
use Rattle.em_base.specs.declared.place.Place.{Place}
use Rattle.em_refs.specs.declared.part.Bracket.{Bracket}
use Rattle.em_refs.specs.declared.part.Part.{Part}
use Rattle.em_refs.specs.declared.part.Part.TheVariants.{Literal, Dollar, Ref}
use Rattle.em_refs.specs.Parts.{Mode, plain, behind, inside, span, literal, begun, closed, bracket_of, byte_before, bracket_before, closing_of, opening_of, step, ended, parts_from, parted}
use Rattle.em_vars.specs.Entries.{Entries}
use Rattle.em_view.specs.Steps.{and_then, done}
use Rattle.em_expand.specs.Desks.{Says}
use Rattle.em_expand.specs.Expansion.{Setting, Refers, put_part, put_parts, put_text, reference, expansion, levels}
use Rattle.em_reading_laws.specs.Steps.{in_front, joined}
use Rattle.em_reading_laws.proofs.Stepping.{done_then, regrouped, same_then}
use Rattle.em_reading_laws.proofs.Behind.{behind_text}

abbrev Texts : Type 0
Texts = Says (List ℕ)

-- ---- bytes of a text in front of another one, or behind it

drop_behind : (a b : List ℕ) (n : ℕ) → drop (length a + n) (a ++ b) ≡ drop n b
drop_behind [] b n = let e : length (let none : List ℕ = [] in none) + n ≡ n = omega arith in ap (λ k. drop k b) e
drop_behind (x ∷ a) b n = let e : length (x ∷ a) + n ≡ suc (length a + n) = omega arith in ap (λ k. drop k (x ∷ a ++ b)) e ∙ drop_behind a b n

byte_front : (n : ℕ) (a b : List ℕ) → n < length a → slice_get (a ++ b) n ≡ slice_get a n
byte_front n [] b lt = absurd (omega (arith, lt))
byte_front zero (x ∷ a) b lt = refl
byte_front (suc n) (x ∷ a) b lt = byte_front n a b (omega (arith, lt))

byte_behind : (a b : List ℕ) (n : ℕ) → slice_get (a ++ b) (length a + n) ≡ slice_get b n
byte_behind [] b n = let e : length (let none : List ℕ = [] in none) + n ≡ n = omega arith in ap (slice_get b) e
byte_behind (x ∷ a) b n = let e : length (x ∷ a) + n ≡ suc (length a + n) = omega arith in ap (slice_get (x ∷ a ++ b)) e ∙ byte_behind a b n

cut_behind : (a b : List ℕ) (from at : ℕ) → cut (a ++ b) (span (length a + from) (length a + at)) ≡ cut b (span from at)
cut_behind a b from at = let e : length a + at - (length a + from) ≡ at - from = omega arith in rw e (ap (take (at - from)) (drop_behind a b from))

cut_front : (a b : List ℕ) (from at : ℕ) → from ≤ at → at ≤ length a → cut (a ++ b) (span from at) ≡ cut a (span from at)
cut_front a b from at low high =
    let e : at - from ≤ length (drop from a) = omega (arith, length-drop from a, low, high) in
    ap (take (at - from)) (drop-append-le from a b (omega (arith, low, high))) ∙ take-append-le (at - from) (drop from a) b e

before_behind : (a b : List ℕ) (k end : ℕ) → bracket_before (a ++ b) (span (length a + suc k) end) ≡ bracket_before b (span (suc k) end)
before_behind a b k end = let e : length a + suc k ≡ suc (length a + k) = omega arith in
    ap (λ n. option_and_then bracket_of (byte_before (a ++ b) n)) e ∙ ap (option_and_then bracket_of) (byte_behind a b k)

cut_more : (text : List ℕ) (from mid at : ℕ) → from ≤ mid → mid ≤ at → cut text (span from mid) ++ cut text (span mid at) ≡ cut text (span from at)
cut_more text from mid at low high =
    let n = mid - from in
    let m = at - mid in
    let all : at - from ≡ n + m = omega (arith, low, high) in
    let here : n + from ≡ mid = omega (arith, low) in
    let there : from + n ≡ mid = omega (arith, low) in
    let rest : drop n (drop from text) ≡ drop mid text = drop-drop n from text ∙ ap (λ k. drop k text) there in
    rw all (ap (λ (t : List ℕ). take n (drop from text) ++ take m t) (sym rest) ∙ sym (take-add n m (drop from text)))

-- ---- parts, one after another

abbrev pick : Bool → List Part × Mode → List Part × Mode → List Part × Mode
pick b x y = cond b x y

module _ (refer : Refers) (whole : List ℕ) where
  abbrev made : List Part → List ℕ → Texts
  made ps out = put_parts refer whole None ps out

  abbrev run : Mode → ℕ → List ℕ → List ℕ → Texts
  run m at rest out = put_parts refer whole (parts_from m at rest).unclosed (parts_from m at rest).parts out

  put_append : (unclosed : Option ℕ) (ps qs : List Part) (out : List ℕ) → put_parts refer whole unclosed (ps ++ qs) out ≡ and_then (made ps out) (put_parts refer whole unclosed qs)
  put_append unclosed [] qs out = sym (done_then out (put_parts refer whole unclosed qs))
  put_append unclosed (p ∷ ps) qs out =
      same_then (put_part refer whole p out) (λ all. put_parts refer whole unclosed (ps ++ qs) all) (λ all. and_then (made ps all) (put_parts refer whole unclosed qs)) (λ all. put_append unclosed ps qs all)
      ∙ sym (regrouped (put_part refer whole p out) (made ps) (put_parts refer whole unclosed qs))

  run_more : (m : Mode) (at b : ℕ) (bs out : List ℕ) → run m at (b ∷ bs) out ≡ and_then (made (step m at b).0 out) (run (step m at b).1 (at + 1) bs)
  run_more m at b bs out = let p = parts_from (step m at b).1 (at + 1) bs in put_append p.unclosed (step m at b).0 p.parts out

  made_literal : (from at : ℕ) (out : List ℕ) → made (literal from at) out ≡ done (out ++ cut whole (span from at))
  made_literal from at out = by_cases (eqb from at) (λ b. eqb from at ≡ b → made (literal from at) out ≡ done (out ++ cut whole (span from at)))
      (λ e _. let same = eqb-true from at e in let zero_long : at - at ≡ 0 = omega arith in let none : cut whole (span from at) ≡ [] = ap (λ n. cut whole (span n at)) same ∙ ap (λ n. take n (drop at whole)) zero_long in
      rw (e, none, append-nil out) refl)
      (λ e _. rw e (done_then (out ++ cut whole (span from at)) (made []))) refl

  -- literal text may be read on from any place in it
  run_plain : (rest : List ℕ) (from mid at : ℕ) (out : List ℕ) → from ≤ mid → mid ≤ at → run (plain from) at rest out ≡ run (plain mid) at rest (out ++ cut whole (span from mid))
  run_plain [] from mid at out low high =
      made_literal from at out
      ∙ ap (λ (t : List ℕ). let m : Texts = done t in m) (ap (λ (t : List ℕ). out ++ t) (sym (cut_more whole from mid at low high)) ∙ sym (append_assoc out (cut whole (span from mid)) (cut whole (span mid at))))
      ∙ sym (made_literal mid at (out ++ cut whole (span from mid)))
  run_plain (b ∷ bs) from mid at out low high = by_cases (eqb b 36)
      (λ c. eqb b 36 ≡ c → run (plain from) at (b ∷ bs) out ≡ run (plain mid) at (b ∷ bs) (out ++ cut whole (span from mid)))
      (λ e _. rw e (
      put_append (parts_from (behind at) (at + 1) bs).unclosed (literal from at) (parts_from (behind at) (at + 1) bs).parts out
      ∙ ap (λ (m : Texts). and_then m (run (behind at) (at + 1) bs)) (made_literal from at out
      ∙ ap (λ (t : List ℕ). let m : Texts = done t in m) (ap (λ (t : List ℕ). out ++ t) (sym (cut_more whole from mid at low high)) ∙ sym (append_assoc out (cut whole (span from mid)) (cut whole (span mid at))))
      ∙ sym (made_literal mid at (out ++ cut whole (span from mid))))
      ∙ sym (put_append (parts_from (behind at) (at + 1) bs).unclosed (literal mid at) (parts_from (behind at) (at + 1) bs).parts (out ++ cut whole (span from mid)))))
      (λ e _. rw e (run_plain bs from mid (at + 1) out low (omega (arith, high))))
      refl

  -- a place in literal text isn't in front of where it began
  abbrev Low : Mode → ℕ → Type 0
  Low (plain from) at = from ≤ at
  Low (behind from) at = from + 1 ≡ at
  Low (inside from k deep) at = from + 2 ≤ at

  low_begun : (k : Option Bracket) (from at b : ℕ) → from + 1 ≡ at → Low (begun k from at b).1 (at + 1)
  low_begun (Some k) from at b e = omega (arith, e)
  low_begun None from at b e = by_cases (eqb b 36) (λ c. Low (pick c (Dollar ∷ [], plain (at + 1)) (Ref (span at (at + 1)) ∷ [], plain (at + 1))).1 (at + 1)) (λ _. omega arith) (λ _. omega arith)

  low_closed : (from : ℕ) (k : Bracket) (deep at : ℕ) → from + 2 ≤ at → Low (closed from k deep at).1 (at + 1)
  low_closed from k zero at le = omega arith
  low_closed from k (suc deep) at le = omega (arith, le)

  low_step : (m : Mode) (at b : ℕ) → Low m at → Low (step m at b).1 (at + 1)
  low_step (plain from) at b low = by_cases (eqb b 36) (λ c. Low (pick c (literal from at, behind at) ([], plain from)).1 (at + 1)) (λ _. refl) (λ _. omega (arith, low))
  low_step (behind from) at b low = low_begun (bracket_of b) from at b low
  low_step (inside from k deep) at b low = by_cases (eqb b (closing_of k)) (λ c. Low (pick c (closed from k deep at) ([], inside from k (cond (eqb b (opening_of k)) (suc deep) deep))).1 (at + 1)) (λ _. low_closed from k deep at low) (λ _. omega (arith, low))

  -- a text without an open reference at its end, and what stands behind it
  run_append : (a b : List ℕ) (m : Mode) (at : ℕ) (out : List ℕ) → Low m at → (parts_from m at a).unclosed ≡ None → run m at (a ++ b) out ≡ and_then (made (parts_from m at a).parts out) (run (plain (at + length a)) (at + length a) b)
  run_append [] b (plain from) at out low e =
      let n : at + length (let none : List ℕ = [] in none) ≡ at = omega arith in
      rw n (run_plain b from at at out low (omega arith) ∙ sym (done_then (out ++ cut whole (span from at)) (run (plain at) at b)) ∙ ap (λ (m : Texts). and_then m (run (plain at) at b)) (sym (made_literal from at out)))
  run_append [] b (behind from) at out low e = absurd cc
  run_append [] b (inside from k deep) at out low e = absurd cc
  run_append (c ∷ a) b m at out low e =
      let n : at + 1 + length a ≡ at + length (c ∷ a) = omega arith in
      let next = (step m at c).1 in
      let ps = (step m at c).0 in
      let qs = (parts_from next (at + 1) a).parts in
      let rest = run (plain (at + length (c ∷ a))) (at + length (c ∷ a)) b in
      run_more m at c (a ++ b) out
      ∙ same_then (made ps out) (run next (at + 1) (a ++ b)) (λ x. and_then (made qs x) rest)
      (λ x. rw n at (run_append a b next (at + 1) x (low_step m at c low) e))
      ∙ sym (regrouped (made ps out) (made qs) rest)
      ∙ ap (λ (m : Texts). and_then m rest) (sym (put_append None ps qs out))

-- ---- the first text alone

-- a part lies in the first n bytes
abbrev Lies : ℕ → Part → Type 0
Lies n (Literal s) = (s.start ≤ s.end) × (s.end ≤ n)
Lies n Dollar = Unit {0}
Lies n (Ref s) = (k : ℕ) × (s.start ≡ suc k) × (s.start ≤ s.end) × (s.end ≤ n) × (k < n)

lie_literal : (n from at : ℕ) → from ≤ at → at ≤ n → AllByRecursion (Lies n) (literal from at)
lie_literal n from at low high = by_cases (eqb from at) (λ b. AllByRecursion (Lies n) (cond b [] (Literal (span from at) ∷ []))) (λ _. tt) (λ _. ((low, high), tt))

lie_append : (n : ℕ) (ps qs : List Part) → AllByRecursion (Lies n) ps → AllByRecursion (Lies n) qs → AllByRecursion (Lies n) (ps ++ qs)
lie_append n [] qs h k = k
lie_append n (p ∷ ps) qs h k = (h.0, lie_append n ps qs h.1 k)

module _ (refer : Refers) (whole : List ℕ) where
  lie_begun : (n : ℕ) (k : Option Bracket) (from at b : ℕ) → from + 1 ≡ at → at + 1 ≤ n → AllByRecursion (Lies n) (begun k from at b).0
  lie_begun n (Some k) from at b e le = tt
  lie_begun n None from at b e le = by_cases (eqb b 36) (λ c. AllByRecursion (Lies n) (pick c (Dollar ∷ [], plain (at + 1)) (Ref (span at (at + 1)) ∷ [], plain (at + 1))).0)
      (λ _. (tt, tt)) (λ _. ((from, omega (arith, e), omega arith, le, omega (arith, e, le)), tt))

  lie_closed : (n from : ℕ) (k : Bracket) (deep at : ℕ) → from + 2 ≤ at → at + 1 ≤ n → AllByRecursion (Lies n) (closed from k deep at).0
  lie_closed n from k zero at low le = let e : from + 2 ≡ suc (from + 1) = omega arith in ((from + 1, e, low, omega (arith, le), omega (arith, low, le)), tt)
  lie_closed n from k (suc deep) at low le = tt

  lie_step : (n : ℕ) (m : Mode) (at b : ℕ) → Low refer whole m at → at + 1 ≤ n → AllByRecursion (Lies n) (step m at b).0
  lie_step n (plain from) at b low le = by_cases (eqb b 36) (λ c. AllByRecursion (Lies n) (pick c (literal from at, behind at) ([], plain from)).0) (λ _. lie_literal n from at low (omega (arith, le))) (λ _. tt)
  lie_step n (behind from) at b low le = lie_begun n (bracket_of b) from at b low le
  lie_step n (inside from k deep) at b low le = by_cases (eqb b (closing_of k)) (λ c. AllByRecursion (Lies n) (pick c (closed from k deep at) ([], inside from k (cond (eqb b (opening_of k)) (suc deep) deep))).0) (λ _. lie_closed n from k deep at low le) (λ _. tt)

  lie_end : (n : ℕ) (m : Mode) (at : ℕ) → Low refer whole m at → at ≤ n → AllByRecursion (Lies n) (ended m at).parts
  lie_end n (plain from) at low le = lie_literal n from at low le
  lie_end n (behind from) at low le = tt
  lie_end n (inside from k deep) at low le = tt

  lie_all : (n : ℕ) (rest : List ℕ) (m : Mode) (at : ℕ) → Low refer whole m at → at + length rest ≤ n → AllByRecursion (Lies n) (parts_from m at rest).parts
  lie_all n [] m at low le = lie_end n m at low (omega (arith, le))
  lie_all n (b ∷ bs) m at low le =
      let more : at + 1 + length bs ≤ n = omega (arith, le) in
      lie_append n (step m at b).0 (parts_from (step m at b).1 (at + 1) bs).parts (lie_step n m at b low (omega (arith, more))) (lie_all n bs (step m at b).1 (at + 1) (low_step refer whole m at b low) more)

module _ (refer : Refers) (a b : List ℕ) where
  before_front : (start end k : ℕ) → start ≡ suc k → k < length a → bracket_before (a ++ b) (span start end) ≡ bracket_before a (span start end)
  before_front start end k e lt =
      ap (λ n. option_and_then bracket_of (byte_before (a ++ b) n)) e ∙ ap (option_and_then bracket_of) (byte_front k a b lt) ∙ sym (ap (λ n. option_and_then bracket_of (byte_before a n)) e)

  front_part : (p : Part) (out : List ℕ) → Lies (length a) p → put_part refer (a ++ b) p out ≡ put_part refer a p out
  front_part (Literal s) out h = ap (λ (t : List ℕ). let m : Texts = done (out ++ t) in m) (cut_front a b s.start s.end h.0 h.1)
  front_part Dollar out h = refl
  front_part (Ref s) out h = ap₂ (λ k t. refer k t out) (before_front s.start s.end h.0 h.1 h.4) (cut_front a b s.start s.end h.2 h.3)

  front_parts : (ps : List Part) (out : List ℕ) → AllByRecursion (Lies (length a)) ps → made refer (a ++ b) ps out ≡ made refer a ps out
  front_parts [] out h = refl
  front_parts (p ∷ ps) out h = ap (λ (m : Texts). and_then m (made refer (a ++ b) ps)) (front_part p out h.0) ∙ same_then (put_part refer a p out) (made refer (a ++ b) ps) (made refer a ps) (λ all. front_parts ps all h.1)

  -- ---- the second text alone

  abbrev moved : Mode → Mode
  moved (plain from) = plain (length a + from)
  moved (behind from) = behind (length a + from)
  moved (inside from k deep) = inside (length a + from) k deep

  abbrev Moved : List Part × Mode → List Part × Mode → Type 0
  Moved x y = ((out : List ℕ) → made refer (a ++ b) x.0 out ≡ made refer b y.0 out) × (x.1 ≡ moved y.1)

  moved_literal : (from at : ℕ) (out : List ℕ) → made refer (a ++ b) (literal (length a + from) (length a + at)) out ≡ made refer b (literal from at) out
  moved_literal from at out = made_literal refer (a ++ b) (length a + from) (length a + at) out ∙ ap (λ (t : List ℕ). let m : Texts = done (out ++ t) in m) (cut_behind a b from at) ∙ sym (made_literal refer b from at out)

  moved_ref : (k at : ℕ) (out : List ℕ) → made refer (a ++ b) (Ref (span (length a + suc k) (length a + at)) ∷ []) out ≡ made refer b (Ref (span (suc k) at) ∷ []) out
  moved_ref k at out = ap₂ (λ x t. and_then (refer x t out) (λ all. let m : Texts = done all in m)) (before_behind a b k (length a + at) ∙ refl) (cut_behind a b (suc k) at)

  moved_begun : (k : Option Bracket) (from at c : ℕ) → from + 1 ≡ at → Moved (begun k (length a + from) (length a + at) c) (begun k from at c)
  moved_begun (Some k) from at c e = (λ out. refl, refl)
  moved_begun None from at c e =
      let n : length a + at + 1 ≡ length a + (at + 1) = omega arith in
      let s : at ≡ suc from = omega (arith, e) in
      by_cases (eqb c 36) (λ x. Moved (pick x (Dollar ∷ [], plain (length a + at + 1)) (Ref (span (length a + at) (length a + at + 1)) ∷ [], plain (length a + at + 1))) (pick x (Dollar ∷ [], plain (at + 1)) (Ref (span at (at + 1)) ∷ [], plain (at + 1))))
      (λ _. (λ out. refl, ap plain n))
      (λ _. (λ out. rw n (subst (λ z. made refer (a ++ b) (Ref (span (length a + z) (length a + (at + 1))) ∷ []) out ≡ made refer b (Ref (span z (at + 1)) ∷ []) out) (sym s) (moved_ref from (at + 1) out)), ap plain n))

  moved_closed : (from : ℕ) (k : Bracket) (deep at : ℕ) → Moved (closed (length a + from) k deep (length a + at)) (closed from k deep at)
  moved_closed from k zero at =
      let n : length a + at + 1 ≡ length a + (at + 1) = omega arith in
      let s : from + 2 ≡ suc (from + 1) = omega arith in
      let t : length a + from + 2 ≡ length a + suc (from + 1) = omega arith in
      (λ out. rw (t, s) (moved_ref (from + 1) at out), ap plain n)
  moved_closed from k (suc deep) at = (λ out. refl, refl)

  moved_step : (m : Mode) (at c : ℕ) → Low refer b m at → Moved (step (moved m) (length a + at) c) (step m at c)
  moved_step (plain from) at c low = by_cases (eqb c 36) (λ x. Moved (pick x (literal (length a + from) (length a + at), behind (length a + at)) ([], plain (length a + from))) (pick x (literal from at, behind at) ([], plain from)))
      (λ _. (λ out. moved_literal from at out, refl)) (λ _. (λ out. refl, refl))
  moved_step (behind from) at c low = moved_begun (bracket_of c) from at c low
  moved_step (inside from k deep) at c low = by_cases (eqb c (closing_of k))
      (λ x. Moved (pick x (closed (length a + from) k deep (length a + at)) ([], inside (length a + from) k (cond (eqb c (opening_of k)) (suc deep) deep))) (pick x (closed from k deep at) ([], inside from k (cond (eqb c (opening_of k)) (suc deep) deep))))
      (λ _. moved_closed from k deep at) (λ _. (λ out. refl, refl))

  moved_end : (m : Mode) (at : ℕ) (out : List ℕ) → run refer (a ++ b) (moved m) (length a + at) [] out ≡ run refer b m at [] out
  moved_end (plain from) at out = moved_literal from at out
  moved_end (behind from) at out = refl
  moved_end (inside from k deep) at out = refl

  moved_run : (rest : List ℕ) (m : Mode) (at : ℕ) (out : List ℕ) → Low refer b m at → run refer (a ++ b) (moved m) (length a + at) rest out ≡ run refer b m at rest out
  moved_run [] m at out low = moved_end m at out
  moved_run (c ∷ cs) m at out low =
      let n : length a + at + 1 ≡ length a + (at + 1) = omega arith in
      let x = step (moved m) (length a + at) c in
      let y = step m at c in
      let h = moved_step m at c low in
      run_more refer (a ++ b) (moved m) (length a + at) c cs out
      ∙ ap (λ k. and_then (made refer (a ++ b) x.0 out) (run refer (a ++ b) x.1 k cs)) n
      ∙ ap (λ k. and_then (made refer (a ++ b) x.0 out) (run refer (a ++ b) k (length a + (at + 1)) cs)) h.1
      ∙ ap (λ (k : Texts). and_then k (run refer (a ++ b) (moved y.1) (length a + (at + 1)) cs)) (h.0 out)
      ∙ same_then (made refer b y.0 out) (run refer (a ++ b) (moved y.1) (length a + (at + 1)) cs) (run refer b y.1 (at + 1) cs) (λ z. moved_run cs y.1 (at + 1) z (low_step refer b m at c low))
      ∙ sym (run_more refer b m at c cs out)

  -- ---- both

  unclosed_none : (u : Option ℕ) (ps : List Part) (out : List ℕ) → u ≡ None → made refer a ps out ≡ put_parts refer a u ps out
  unclosed_none u ps out e = ap (λ v. put_parts refer a v ps out) (sym e)

  texts_parted : (out : List ℕ) → (parted a).unclosed ≡ None → put_text refer (a ++ b) out ≡ and_then (put_text refer a out) (put_text refer b)
  texts_parted out e =
      let n : 0 + length a ≡ length a + 0 = omega arith in
      let rest = run refer (a ++ b) (plain (0 + length a)) (0 + length a) b in
      run_append refer (a ++ b) a b (plain 0) 0 out (omega arith) e
      ∙ ap (λ (m : Texts). and_then m rest) (front_parts (parted a).parts out (lie_all refer a (length a) a (plain 0) 0 (omega arith) (omega arith)) ∙ unclosed_none (parted a).unclosed (parted a).parts out e)
      ∙ same_then (put_text refer a out) rest (put_text refer b) (λ x. ap (λ k. run refer (a ++ b) (plain k) k b x) n ∙ moved_run b (plain 0) 0 x (omega arith))

pub parted_law : (vars : Entries) (cwd : List ℕ) (place : Place) (a b : List ℕ) → (parted a).unclosed ≡ None → expansion vars cwd place (a ++ b) ≡ joined (expansion vars cwd place a) (expansion vars cwd place b)
unfolding expansion
parted_law vars cwd place a b e =
    let set : Setting = record { vars = vars; cwd = cwd; place = place } in
    let refer : Refers = reference levels set [] in
    texts_parted refer a b [] e
    ∙ same_then (put_text refer a []) (put_text refer b) (λ x. in_front x (put_text refer b [])) (λ x. ap (put_text refer b) (sym (append-nil x)) ∙ behind_text levels set [] x [] b)
