-- The text of a history and its lines, and a text that is read line by line.
--     lines_all, inner    the lines of the text
--     reading_..          what a text is read as
--     Passed, passed_..   pairs that are read, and the lines that are left
--     no_pair, no_order   a line that can't stand there
use Rattle.std.proofs.Common.{◌≡◌, ◌⊎◌, inl, inr, ⊎_elim, ℕ, ◌-◌, ◌<◌, ◌≤◌, Bool, true, false, ◌&&◌, cond, codes, List, [], ◌∷◌, ◌++◌, length, take, drop, get_or, map, refl, sym, ap, subst, ◌∙◌, arith, append_assoc, append-nil, length-append}
use Rattle.std.specs.Prelude.{not, ◌==◌, nat_le}
use Rattle.std.specs.declared.cmp.Ordering.{Ordering}
use Rattle.std.specs.declared.cmp.Ordering.TheVariants.{Less}
use Rattle.std.specs.Ordering.{nat_cmp}
use Rattle.std.specs.Cmp.Lexicographic.{slice_cmp}
use Rattle.std.specs.List.{AllByRecursion, filter, flat_map, list_all, concat}
use Rattle.std.specs.List.Sorted.{IsStrictlySortedBy}
use Rattle.std.specs.Str.{bytes_eq}
use Rattle.std.proofs.lemmas.Bool.Decides.{Decides-eqb}
use Rattle.std.proofs.lemmas.Bool.{le-leb, lt-leb}
use Rattle.std.proofs.lemmas.Cmp.{nat_list_cmp_total}
use Rattle.std.proofs.lemmas.List.Elements.{All-from_recursion}
use Rattle.std.proofs.lemmas.Slice.Eq.{bytes_eq-Decides}
use Rattle.std.proofs.Math.ListN.{get_or-append}
use Rattle.std.proofs.Math.Seq.{take-append_seam, get_or-append_seam}
use Rattle.bstr.specs.Text.{lines_of}
use Rattle.bstr.proofs.lemmas.LineLemmas.{lines-append, lines-one, lines-nil}
use Rattle.bstr.proofs.lemmas.RestLemmas.{concat-lines_of}
use Rattle.em_base.proofs.Lemmas.{by_cases, all_hold, all_push}
use Rattle.em_history.specs.Histories.{Pair, IsHistory, fits, line_of, text_of, by_line, united, collected, pair_in, inner_lines, pairs_in, limit, reading}
use Rattle.em_history.proofs.Placing.{AllFit, Rises, Among, all_fit, fit_among, holds_among, history, history_none, history_collected, united_none}
use Rattle.em_history.proofs.Lines.{Lacks, all_append, fits_both, no_newline, longer, read_back, unended}

abbrev order : List ℕ → List ℕ → Ordering
order = slice_cmp nat_cmp

-- ---- lines

lacks_test : (e : ℕ) (a : List ℕ) → list_all (λ b. not (b == e)) a ≡ true → Lacks e a
lacks_test e a h = all_hold (λ b. not (b == e)) (λ b. b ≡ e → ⊥) (λ b pass is. let bad : not true ≡ true = subst (λ t. not t ≡ true) ((Decides-eqb b e).1 is) pass in cc) a h

line_alone : (a : List ℕ) → Lacks 10 a → lines_of (a ++ 10 ∷ []) ≡ (a ++ 10 ∷ []) ∷ []
line_alone a h = let l = length-append a (10 ∷ []) in lines-one (a ++ 10 ∷ []) (omega arith) (λ k low.
    subst (λ v. v ≡ 10 → ⊥) (sym (get_or-append a (10 ∷ []) 0 k (omega arith))) (All-from_recursion (λ b. b ≡ 10 → ⊥) a h k 0 (omega arith)))

line_then : (a rest : List ℕ) → Lacks 10 a → lines_of ((a ++ 10 ∷ []) ++ rest) ≡ (a ++ 10 ∷ []) ∷ lines_of rest
line_then a rest h =
    let l = length-append a (10 ∷ []) in
    let last : length (a ++ 10 ∷ []) - 1 ≡ length a = omega arith in
    lines-append (length (a ++ 10 ∷ [])) (a ++ 10 ∷ []) rest (omega arith) (inr (ap (λ k. get_or (a ++ 10 ∷ []) k 0) last ∙ get_or-append_seam a 10 [] 0))
    ∙ ap (λ ls. ls ++ lines_of rest) (line_alone a h)

lacks_newline : (p : Pair) → fits p ≡ true → Lacks 10 (p.0 ++ codes " " ++ p.1)
lacks_newline p f = let ok = fits_both p f in
    all_append (λ b. b ≡ 10 → ⊥) (p.0 ++ codes " ") p.1 (all_append (λ b. b ≡ 10 → ⊥) p.0 (codes " ") (no_newline p.0 ok.target) (lacks_test 10 (codes " ") refl)) (no_newline p.1 ok.needed)

lines_all : (ps : List Pair) (rest : List ℕ) → AllFit ps → lines_of (flat_map line_of ps ++ rest) ≡ map line_of ps ++ lines_of rest
lines_all [] rest h = refl
lines_all (p ∷ ps) rest h = ap lines_of (append_assoc (line_of p) (flat_map line_of ps) rest)
    ∙ line_then (p.0 ++ codes " " ++ p.1) (flat_map line_of ps ++ rest) (lacks_newline p h.0) ∙ ap (λ ls. line_of p ∷ ls) (lines_all ps rest h.1)

lines_only : (ps : List Pair) → AllFit ps → lines_of (flat_map line_of ps) ≡ map line_of ps
lines_only ps h = ap lines_of (sym (append-nil (flat_map line_of ps))) ∙ lines_all ps [] h ∙ ap (λ ls. map line_of ps ++ ls) lines-nil ∙ append-nil (map line_of ps)

lines_text : (ps : List Pair) → AllFit ps → lines_of (text_of ps) ≡ codes "EMHIST 1\n" ∷ (map line_of ps ++ codes ".\n" ∷ [])
lines_text ps h = line_then (codes "EMHIST 1") (flat_map line_of ps ++ codes ".\n") (lacks_test 10 (codes "EMHIST 1") refl)
    ∙ ap (λ ls. codes "EMHIST 1\n" ∷ ls) (lines_all ps (codes ".\n") h ∙ ap (λ ls. map line_of ps ++ ls) (line_alone (codes ".") (lacks_test 10 (codes ".") refl)))

without_last : {X : Type 0} (xs : List X) (x : X) → take (length (xs ++ x ∷ []) - 1) (xs ++ x ∷ []) ≡ xs
without_last xs x = let l = length-append xs (x ∷ []) in let n : length (xs ++ x ∷ []) - 1 ≡ length xs = omega arith in rw n (take-append_seam xs (x ∷ []))

inner : (ps : List Pair) → AllFit ps → inner_lines (text_of ps) ≡ map line_of ps
inner ps h = ap (λ (ls : List (List ℕ)). take (length (drop 1 ls) - 1) (drop 1 ls)) (lines_text ps h) ∙ without_last (map line_of ps) (codes ".\n")

-- ---- what is read

all_back : (ps : List Pair) → AllFit ps → map pair_in (map line_of ps) ≡ ps
all_back [] h = refl
all_back (p ∷ ps) h = let e = read_back p h.0 in let es = all_back ps h.1 in λ i. e i ∷ es i

all_pass : (ps : List Pair) → AllFit ps → filter fits ps ≡ ps
all_pass [] h = refl
all_pass (p ∷ ps) h = rw h.0 (ap (λ qs. p ∷ qs) (all_pass ps h.1))

pairs_back : (ps : List Pair) → IsHistory ps → pairs_in (text_of ps) ≡ ps
pairs_back ps h = let fit = all_fit ps h in
    ap (λ ls. collected (map pair_in ls)) (inner ps fit) ∙ ap collected (all_back ps fit) ∙ ap (λ qs. united qs []) (all_pass ps fit) ∙ united_none ps h.rising

pub reading_is : (bytes : List ℕ) (ps : List Pair) → IsHistory ps → text_of ps ≡ bytes → length bytes ≤ limit → reading bytes ≡ ps
unfolding reading
reading_is bytes ps h is low =
    let read : pairs_in bytes ≡ ps = ap pairs_in (sym is) ∙ pairs_back ps h in
    let equal : bytes_eq (text_of (pairs_in bytes)) bytes ≡ true = (bytes_eq-Decides (text_of (pairs_in bytes)) bytes).1 (ap text_of read ∙ is) in
    ap (λ b. cond (b && bytes_eq (text_of (pairs_in bytes)) bytes) (pairs_in bytes) []) (le-leb (length bytes) limit low)
    ∙ ap (λ b. cond b (pairs_in bytes) []) equal ∙ read

pub reading_back : (ps : List Pair) → IsHistory ps → length (text_of ps) ≤ limit → reading (text_of ps) ≡ ps
reading_back ps h low = reading_is (text_of ps) ps h refl low

pub reading_text : (bytes : List ℕ) → (text_of (reading bytes) ≡ bytes) ⊎ (reading bytes ≡ [])
unfolding reading
reading_text bytes = by_cases (nat_le (length bytes) limit && bytes_eq (text_of (pairs_in bytes)) bytes)
    (λ b. (nat_le (length bytes) limit && bytes_eq (text_of (pairs_in bytes)) bytes) ≡ b → (text_of (cond b (pairs_in bytes) []) ≡ bytes) ⊎ (cond b (pairs_in bytes) [] ≡ []))
    (λ _ is. inl ((bytes_eq-Decides (text_of (pairs_in bytes)) bytes).0 (second _ _ is)))
    (λ _ _. inr refl) refl
  where
    second : (a b : Bool) → (a && b) ≡ true → b ≡ true
    second true b h = h
    second false b h = absurd cc

pub reading_history : (bytes : List ℕ) → IsHistory (reading bytes)
unfolding reading
reading_history bytes = by_cases (nat_le (length bytes) limit && bytes_eq (text_of (pairs_in bytes)) bytes) (λ b. IsHistory (cond b (pairs_in bytes) []))
    (λ _. history_collected (map pair_in (inner_lines bytes))) (λ _. history_none)

-- ---- what is no history's text

pub reading_none : (bytes : List ℕ) → ((ps : List Pair) → IsHistory ps → text_of ps ≡ bytes → ⊥) → reading bytes ≡ []
reading_none bytes none = ⊎_elim (λ is. absurd (none (reading bytes) (reading_history bytes) is)) (λ e. e) (reading_text bytes)

pub reading_long : (bytes : List ℕ) → limit < length bytes → reading bytes ≡ []
unfolding reading
reading_long bytes long = ap (λ b. cond (b && bytes_eq (text_of (pairs_in bytes)) bytes) (pairs_in bytes) []) (lt-leb (length bytes) limit long)

-- ---- line by line

-- these pairs are read, this line was the last, and the rest is left
pub record Passed (body : List ℕ) (ps : List Pair) (previous : List ℕ) (rest : List (List ℕ)) : Type 0 where
  pub lines : lines_of body ≡ map line_of ps ++ rest
  pub history : IsHistory ps
  pub below : (q : List ℕ) → order previous q ≡ Less → AllByRecursion (λ p. order (line_of p) q ≡ Less) ps
  pub last : (previous ≡ []) ⊎ ((p : Pair) × Among p ps × (line_of p ≡ previous))

pub passed_none : (body : List ℕ) → Passed body [] [] (lines_of body)
passed_none body = record { lines = refl; history = history_none; below = λ q l. tt; last = inl refl }

pub passed_all : (body : List ℕ) (ps : List Pair) (previous : List ℕ) → Passed body ps previous [] → flat_map line_of ps ≡ body
passed_all body ps previous h = joined ps ∙ ap concat (sym (append-nil (map line_of ps)) ∙ sym h.lines) ∙ concat-lines_of body
  where
    joined : (ps : List Pair) → flat_map line_of ps ≡ concat (map line_of ps)
    joined [] = refl
    joined (p ∷ ps) = ap (λ t. line_of p ++ t) (joined ps)

rises_more : (ps : List Pair) (p : Pair) → Rises ps → AllByRecursion (λ q. by_line q p ≡ Less) ps → Rises (ps ++ p ∷ [])
unfolding IsStrictlySortedBy
rises_more [] p h below = (tt, tt)
rises_more (q ∷ qs) p h below = (all_push (λ r. by_line q r ≡ Less) qs p h.0 below.0, rises_more qs p h.1 below.1)

lines_more : (ps : List Pair) (p : Pair) (rest : List (List ℕ)) → map line_of ps ++ line_of p ∷ rest ≡ map line_of (ps ++ p ∷ []) ++ rest
lines_more [] p rest = refl
lines_more (q ∷ qs) p rest = ap (λ ls. line_of q ∷ ls) (lines_more qs p rest)

among_last : (ps : List Pair) (p : Pair) → Among p (ps ++ p ∷ [])
among_last [] p = inl refl
among_last (q ∷ qs) p = inr (among_last qs p)

all_below : (l m : List ℕ) (ps : List Pair) → order l m ≡ Less → AllByRecursion (λ p. order (line_of p) l ≡ Less) ps → AllByRecursion (λ p. order (line_of p) m ≡ Less) ps
all_below l m [] less h = tt
all_below l m (p ∷ ps) less h = (nat_list_cmp_total.trans (line_of p) l m h.0 less, all_below l m ps less h.1)

pub passed_more : (body : List ℕ) (ps : List Pair) (previous line : List ℕ) (rest : List (List ℕ)) (p : Pair) → Passed body ps previous (line ∷ rest) → fits p ≡ true → line_of p ≡ line → order previous line ≡ Less → Passed body (ps ++ p ∷ []) line rest
passed_more body ps previous line rest p h fit is less =
    let below : AllByRecursion (λ q. order (line_of q) line ≡ Less) ps = h.below line less in record {
      lines = h.lines ∙ ap (λ l. map line_of ps ++ l ∷ rest) (sym is) ∙ lines_more ps p rest;
      history = history (ps ++ p ∷ []) (all_push (λ q. fits q ≡ true) ps p (all_fit ps h.history) fit)
          (rises_more ps p h.history.rising (subst (λ l. AllByRecursion (λ q. order (line_of q) l ≡ Less) ps) (sym is) below));
      below = λ q l. all_push (λ r. order (line_of r) q ≡ Less) ps p (all_below line q ps l below) (subst (λ t. order t q ≡ Less) (sym is) l);
      last = inr (p, among_last ps p, is);
    }

-- the line is that of a pair of a history of which this is the text, and rises above those before
-- it
record Stands (ps qs : List Pair) (line : List ℕ) : Type 0 where
  one : (q : Pair) × Among q qs × (line_of q ≡ line)
  above : (p : Pair) → Among p ps → order (line_of p) line ≡ Less

stands : (ps qs : List Pair) (line : List ℕ) (rest : List (List ℕ)) → Rises qs → map line_of qs ≡ map line_of ps ++ line ∷ rest → Stands ps qs line
unfolding IsStrictlySortedBy
stands [] [] line rest h e = absurd cc
stands [] (q ∷ qs) line rest h e = record { one = (q, inl refl, (let f : line_of q ≡ line = cc in f)); above = λ p m. absurd m }
stands (p ∷ ps) [] line rest h e = absurd cc
stands (p ∷ ps) (q ∷ qs) line rest h e =
    let first : line_of q ≡ line_of p = cc in
    let later : Stands ps qs line = stands ps qs line rest h.1 (let f : map line_of qs ≡ map line_of ps ++ line ∷ rest = cc in f) in
    let (r, there, is) = later.one in record {
      one = (r, inr there, is);
      above = λ x m. ⊎_elim (λ (same : p ≡ x). ap (λ l. order l line) (ap line_of (sym same) ∙ sym first) ∙ ap (order (line_of q)) (sym is) ∙ holds_among (λ s. by_line q s ≡ Less) qs r h.0 there) (later.above x) m;
    }

stands_there : (body : List ℕ) (ps qs : List Pair) (previous line : List ℕ) (rest : List (List ℕ)) → Passed body ps previous (line ∷ rest) → IsHistory qs → flat_map line_of qs ≡ body → Stands ps qs line
stands_there body ps qs previous line rest h g e = stands ps qs line rest g.rising (sym (lines_only qs (all_fit qs g)) ∙ ap lines_of e ∙ h.lines)

pub no_pair : (body : List ℕ) (ps : List Pair) (previous line : List ℕ) (rest : List (List ℕ)) → Passed body ps previous (line ∷ rest) → ((p : Pair) → fits p ≡ true → line_of p ≡ line → ⊥) → (qs : List Pair) → IsHistory qs → flat_map line_of qs ≡ body → ⊥
no_pair body ps previous line rest h none qs g e =
    let (q, there, is) = (stands_there body ps qs previous line rest h g e).one in none q (fit_among qs q (all_fit qs g) there) is

pub no_order : (body : List ℕ) (ps : List Pair) (previous line : List ℕ) (rest : List (List ℕ)) → Passed body ps previous (line ∷ rest) → (order previous line ≡ Less → ⊥) → (qs : List Pair) → IsHistory qs → flat_map line_of qs ≡ body → ⊥
no_order body ps previous line rest h falls qs g e =
    let s = stands_there body ps qs previous line rest h g e in
    let (q, there, is) = s.one in
    falls (⊎_elim
    (λ (none : previous ≡ []). ap (λ l. order l line) none ∙ ap (order []) (sym is) ∙ longer (q.0 ++ codes " " ++ q.1) 10)
    (λ (l : (p : Pair) × Among p ps × (line_of p ≡ previous)). ap (λ t. order t line) (sym l.2) ∙ s.above l.0 l.1) h.last)

-- ---- the text round the lines

pub body_is : (a b : List ℕ) → codes "EMHIST 1\n" ++ a ++ codes ".\n" ≡ codes "EMHIST 1\n" ++ b ++ codes ".\n" → a ≡ b
body_is a b e = unended a b (codes ".\n") (ap (drop 9) e)
