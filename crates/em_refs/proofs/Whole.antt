-- The parts of a text, as they were written, are the text, and their brackets pair off.
use Rattle.std.proofs.Common.{◌≡◌, inl, inr, ℕ, zero, suc, ◌+◌, ◌-◌, ◌<◌, ◌≤◌, true, false, cond, eqb, List, [], ◌∷◌, ◌++◌, length, get_or, drop, Option, Some, None, Ok, refl, sym, subst, ap, ◌∙◌, add-one, drop-cons, length-drop, append-nil, append_assoc, arith}
use Rattle.std.specs.Prelude.{All, IfSome, slice_get}
use Rattle.std.specs.List.{flat_map}
use Rattle.std.proofs.lemmas.Bool.{eqb-true, eq-eqb}
use Rattle.std.proofs.lemmas.List.{take_all, drop_all}
use Rattle.std.proofs.lemmas.List.Elements.{All-nil, All-cons, All-append}
use Rattle.std.proofs.lemmas.Option.{slice_get-get_or}
use Rattle.std.proofs.lemmas.Grind.{flat_map-append}
use Rattle.em_base.specs.Spans.{cut}
use Rattle.em_base.proofs.Lemmas.{cell, cut_drop}
use Rattle.em_refs.specs.declared.part.Bracket.{Bracket}
use Rattle.em_refs.specs.declared.part.Bracket.TheVariants.{Round, Curly}
use Rattle.em_refs.specs.declared.part.Part.{Part}
use Rattle.em_refs.specs.declared.part.Part.TheVariants.{Literal, Dollar, Ref}
use Rattle.em_refs.specs.declared.part.Parted.{Parted}
use Rattle.em_refs.specs.Parts.{Mode, plain, behind, inside, span, literal, begun, closed, bracket_of, bracket_before, opening_of, closing_of, step, ended, parts_from, parted, all_closed, parts_of, source, left}
use Rattle.em_refs.specs.Nesting.{IsBalanced, IsNested, IsUnclosed}
use Rattle.em_refs.proofs.Nested.{Pairs, no_pairs, pairs_on, pairs_left, pairs_end, onto_closer, onto_other}

-- where the part began in which a byte stands
abbrev begin : Mode → ℕ
begin (plain from) = from
begin (behind from) = from
begin (inside from bracket deep) = from

-- what is known of the text where a byte stands at `at`
abbrev Stands : List ℕ → Mode → ℕ → Type 0
Stands text (plain from) at = from ≤ at
Stands text (behind from) at = (from + 1 ≡ at) × (get_or text from 0 ≡ 36)
Stands text (inside from k deep) at = (from + 2 ≤ at) × (get_or text from 0 ≡ 36) × (get_or text (from + 1) 0 ≡ opening_of k) × Pairs text from k deep at

literal_is : (text : List ℕ) (from at : ℕ) → from ≤ at → flat_map (source text) (literal from at) ++ drop at text ≡ drop from text
literal_is text from at le =
    elim (eqb from at) as (λ b. eqb from at ≡ b → flat_map (source text) (literal from at) ++ drop at text ≡ drop from text) [
      | true ↦ λ e. rw (e, eqb-true from at e) refl
      | false ↦ λ e. rw e (rw append-nil (cut_drop text (span from at) le))
    ] refl

two : (text : List ℕ) (at a b : ℕ) → at + 1 < length text → get_or text at 0 ≡ a → get_or text (at + 1) 0 ≡ b → drop at text ≡ a ∷ b ∷ drop (at + 2) text
two text at a b lt first second =
    let k : at + 1 + 1 ≡ at + 2 = omega arith in
    cell text at a (omega arith) first ∙ ap (λ l. a ∷ l) (cell text (at + 1) b lt second ∙ ap (λ n. b ∷ drop n text) k)

there : (text : List ℕ) (at b : ℕ) → at < length text → get_or text at 0 ≡ b → slice_get text at ≡ Some b
there text at b lt is = slice_get-get_or text at 0 lt ∙ ap Some is

-- the bracket of a reference
before_is : (text : List ℕ) (s at b : ℕ) → s ≡ at + 1 → at < length text → get_or text at 0 ≡ b → (end : ℕ) → bracket_before text (span s end) ≡ bracket_of b
before_is text s at b next lt is end = rw (next, add-one, there text at b lt is) refl

opens : (k : Bracket) → bracket_of (opening_of k) ≡ Some k
opens Round = refl
opens Curly = refl

opened : (b : ℕ) (k : Bracket) → bracket_of b ≡ Some k → b ≡ opening_of k
opened b k e =
    elim (eqb b 40) as (λ t. eqb b 40 ≡ t → b ≡ opening_of k) [
      | true ↦ λ d. eqb-true b 40 d ∙ (let g : Some Round ≡ Some k = rw d at e in let same : Round ≡ k = cc in ap opening_of same)
      | false ↦ λ d. elim (eqb b 123) as (λ t. eqb b 123 ≡ t → b ≡ opening_of k) [
        | true ↦ λ f. eqb-true b 123 f ∙ (let g : Some Curly ≡ Some k = rw (d, f) at e in let same : Curly ≡ k = cc in ap opening_of same)
        | false ↦ λ f. absurd (let g = rw (d, f) at e in cc)
      ] refl
    ] refl

-- the references as they were written
short_is : (text : List ℕ) (from at b : ℕ) → from + 1 ≡ at → at < length text → get_or text at 0 ≡ b → get_or text from 0 ≡ 36 → source text (Ref (span at (at + 1))) ++ drop (at + 1) text ≡ drop from text
short_is text from at b next lt is dollar =
    let before : bracket_before text (span at (at + 1)) ≡ None = before_is text at from 36 (omega arith) (omega arith) dollar (at + 1) in
    let start : drop from text ≡ 36 ∷ drop at text = cell text from 36 (omega arith) dollar ∙ ap (λ n. 36 ∷ drop n text) next in
    rw (before, start) (ap (λ l. 36 ∷ l) (cut_drop text (span at (at + 1)) (omega arith)))

long_before : (text : List ℕ) (from at : ℕ) (k : Bracket) → from + 2 ≤ at → at < length text → get_or text (from + 1) 0 ≡ opening_of k → bracket_before text (span (from + 2) at) ≡ Some k
long_before text from at k low lt is = before_is text (from + 2) (from + 1) (opening_of k) (omega arith) (omega arith) is at ∙ opens k

long_is : (text : List ℕ) (from at : ℕ) (k : Bracket) (deep : ℕ) → at < length text → get_or text at 0 ≡ closing_of k → Stands text (inside from k deep) at → source text (Ref (span (from + 2) at)) ++ drop (at + 1) text ≡ drop from text
long_is text from at k deep lt is stands =
    let inner : cut text (span (from + 2) at) ++ (closing_of k ∷ drop (at + 1) text) ≡ drop (from + 2) text = rw (← cell text at (closing_of k) lt is) (cut_drop text (span (from + 2) at) stands.0) in
    rw (long_before text from at k stands.0 lt stands.2, two text from 36 (opening_of k) (omega (arith, stands.0)) stands.1 stands.2, append_assoc (cut text (span (from + 2) at)) (closing_of k ∷ []) (drop (at + 1) text)) (ap (λ l. 36 ∷ opening_of k ∷ l) inner)

-- what the byte at `at` makes, against the text: nothing is lost, and brackets pair off
record Onward (text : List ℕ) (mode : Mode) (at : ℕ) (made : List Part) (next : Mode) : Type 0 where
  stands : Stands text next (at + 1)
  whole : flat_map (source text) made ++ drop (begin next) text ≡ drop (begin mode) text
  nested : All (IsNested text) made

abbrev Step : List ℕ → Mode → ℕ → List Part × Mode → Type 0
Step text mode at made = Onward text mode at made.0 made.1

one_nested : (text : List ℕ) (p : Part) → IsNested text p → All (IsNested text) (p ∷ [])
one_nested text p h = All-cons (IsNested text) p [] h (All-nil (IsNested text))

literal_nested : (text : List ℕ) (from at : ℕ) → All (IsNested text) (literal from at)
literal_nested text from at = elim (eqb from at) as (λ b. All (IsNested text) (cond b [] (Literal (span from at) ∷ []))) [ true ↦ All-nil (IsNested text) | false ↦ one_nested text (Literal (span from at)) tt ]

begun_is : (text : List ℕ) (from at b : ℕ) (k : Option Bracket) → bracket_of b ≡ k → at < length text → get_or text at 0 ≡ b → Stands text (behind from) at → Step text (behind from) at (begun k from at b)
begun_is text from at b (Some k) e lt is stands = record {
  stands = (omega (arith, stands.0), stands.1, rw stands.0 (is ∙ opened b k e), no_pairs text from (at + 1) k (omega (arith, stands.0)));
  whole = refl;
  nested = All-nil (IsNested text);
}
begun_is text from at b None e lt is stands =
    let before : bracket_before text (span at (at + 1)) ≡ None = before_is text at from 36 (omega (arith, stands.0)) (omega (arith, stands.0)) stands.1 (at + 1) in
    elim (eqb b 36) as (λ t. eqb b 36 ≡ t → Step text (behind from) at (begun None from at b)) [
      | true ↦ λ d.
          let k : from + 2 ≡ at + 1 = omega (arith, stands.0) in
          rw d (record {
            stands = omega arith;
            whole = sym (two text from 36 36 (omega (arith, stands.0)) stands.1 (rw stands.0 (is ∙ eqb-true b 36 d)) ∙ ap (λ n. 36 ∷ 36 ∷ drop n text) k);
            nested = one_nested text Dollar tt;
          })
      | false ↦ λ d. rw d (record {
        stands = omega arith;
        whole = rw append-nil (short_is text from at b stands.0 lt is stands.1);
        nested = one_nested text (Ref (span at (at + 1))) (λ k some. absurd (let f : None ≡ Some k = sym before ∙ some in cc));
      })
    ] refl

closed_is : (text : List ℕ) (from at : ℕ) (k : Bracket) (deep : ℕ) → at < length text → get_or text at 0 ≡ closing_of k → Stands text (inside from k deep) at → Step text (inside from k deep) at (closed from k deep at)
closed_is text from at k zero lt is stands =
    let before = long_before text from at k stands.0 lt stands.2 in
    record {
      stands = omega arith;
      whole = rw append-nil (long_is text from at k 0 lt is stands);
      nested = one_nested text (Ref (span (from + 2) at)) (λ j some. let same : k ≡ j = (let f : Some k ≡ Some j = sym before ∙ some in cc) in subst (λ i. IsBalanced i (cut text (span (from + 2) at))) same (pairs_end text from at k stands.3));
    }
closed_is text from at k (suc deep) lt is stands = record {
  stands = (omega (arith, stands.0), stands.1, stands.2, pairs_on text from at (closing_of k) k (suc deep) deep stands.0 lt is stands.3 (onto_closer k (closing_of k) deep (eq-eqb _ _ refl)));
  whole = refl;
  nested = All-nil (IsNested text);
}

one : (text : List ℕ) (mode : Mode) (at b : ℕ) → at < length text → get_or text at 0 ≡ b → Stands text mode at → Step text mode at (step mode at b)
one text (plain from) at b lt is stands =
    elim (eqb b 36) as (λ t. eqb b 36 ≡ t → Step text (plain from) at (step (plain from) at b)) [
      | true ↦ λ e. rw e (record { stands = (refl, is ∙ eqb-true b 36 e); whole = literal_is text from at stands; nested = literal_nested text from at })
      | false ↦ λ e. rw e (record { stands = omega arith; whole = refl; nested = All-nil (IsNested text) })
    ] refl
one text (behind from) at b lt is stands = begun_is text from at b (bracket_of b) refl lt is stands
one text (inside from k deep) at b lt is stands =
    elim (eqb b (closing_of k)) as (λ t. eqb b (closing_of k) ≡ t → Step text (inside from k deep) at (step (inside from k deep) at b)) [
      | true ↦ λ e. rw e (closed_is text from at k deep lt (is ∙ eqb-true b (closing_of k) e) stands)
      | false ↦ λ e. rw e (record {
        stands = (omega (arith, stands.0), stands.1, stands.2, pairs_on text from at b k deep (cond (eqb b (opening_of k)) (suc deep) deep) stands.0 lt is stands.3 (onto_other k b deep e));
        whole = refl;
        nested = All-nil (IsNested text);
      })
    ] refl

-- what is told from `at` on
pub record Told (text : List ℕ) (start : ℕ) (p : Parted) : Type 0 where
  pub whole : flat_map (source text) p.parts ++ left text p.unclosed ≡ drop start text
  pub nested : All (IsNested text) p.parts
  pub unclosed : IfSome p.unclosed (IsUnclosed text)

cut_rest : (text : List ℕ) (from at : ℕ) → at ≡ length text → cut text (span from at) ≡ drop from text
cut_rest text from at is = take_all (at - from) (drop from text) (omega (arith, length-drop from text))

last : (text : List ℕ) (mode : Mode) (at : ℕ) → at ≡ length text → Stands text mode at → Told text (begin mode) (ended mode at)
last text (plain from) at is stands =
    let end : drop at text ≡ [] = drop_all at text (omega arith) in
    record { whole = rw (← end) (literal_is text from at stands); nested = literal_nested text from at; unclosed = tt }
last text (behind from) at is stands = record {
  whole = refl;
  nested = All-nil (IsNested text);
  unclosed = record { dollar = there text from 36 (omega (arith, stands.0)) stands.1; unfinished = inl (omega (arith, stands.0)) };
}
last text (inside from k deep) at is stands = record {
  whole = refl;
  nested = All-nil (IsNested text);
  unclosed = record {
    dollar = there text from 36 (omega (arith, stands.0)) stands.1;
    unfinished = inr (k, there text (from + 1) (opening_of k) (omega (arith, stands.0)) stands.2, pairs_left text from at k deep (cut_rest text (from + 2) at is) stands.3);
  };
}

told : (text : List ℕ) (mode : Mode) (at : ℕ) (rest : List ℕ) → at ≤ length text → drop at text ≡ rest → Stands text mode at → Told text (begin mode) (parts_from mode at rest)
told text mode at [] le is stands = last text mode at (omega (arith, length-drop at text, ap length is)) stands
told text mode at (b ∷ bs) le is stands =
    let lt : at < length text = omega (arith, length-drop at text, ap length is) in
    let both : get_or text at 0 ∷ drop (suc at) text ≡ b ∷ bs = sym (drop-cons text at 0 lt) ∙ is in
    let byte : get_or text at 0 ≡ b = cc both in
    let next : drop (at + 1) text ≡ bs = rw add-one (cc both) in
    let o = one text mode at b lt byte stands in
    let made = (step mode at b).0 in
    let p = parts_from (step mode at b).1 (at + 1) bs in
    let ih = told text (step mode at b).1 (at + 1) bs (omega arith) next o.stands in
    record {
      whole = ap (λ (l : List ℕ). l ++ left text p.unclosed) (flat_map-append (source text) made p.parts) ∙ append_assoc (flat_map (source text) made) (flat_map (source text) p.parts) (left text p.unclosed) ∙ ap (λ (l : List ℕ). flat_map (source text) made ++ l) ih.whole ∙ o.whole;
      nested = All-append (IsNested text) made p.parts o.nested ih.nested;
      unclosed = ih.unclosed;
    }

pub told_law : (text : List ℕ) → Told text 0 (parted text)
told_law text = told text (plain 0) 0 text (omega arith) refl (omega arith)

of_all : (text : List ℕ) (qs ps : List Part) (u : Option ℕ) → flat_map (source text) qs ++ left text u ≡ text → all_closed qs u ≡ Ok ps → flat_map (source text) ps ≡ text
of_all text qs ps None whole e = let same : qs ≡ ps = cc in ap (flat_map (source text)) (sym same) ∙ sym (append-nil (flat_map (source text) qs)) ∙ whole
of_all text qs ps (Some at) whole e = absurd cc

pub whole_law : (text : List ℕ) (ps : List Part) → parts_of text ≡ Ok ps → flat_map (source text) ps ≡ text
whole_law text ps e = of_all text (parted text).parts ps (parted text).unclosed (told_law text).whole e
