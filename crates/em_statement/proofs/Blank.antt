-- A line of blanks and a comment.
use Rattle.std.proofs.Common.{◌≡◌, ◌⊎◌, inl, inr, ℕ, zero, suc, ◌+◌, true, false, cond, eqb, ltb, List, [], ◌∷◌, ◌++◌, length, take, drop, Option, Some, None, refl, sym, subst, ap, ◌∙◌, append_assoc, arith}
use Rattle.std.specs.Prelude.{All, IfSome, slice_get}
use Rattle.std.specs.List.{AllByRecursion, flat_map, prefix_len}
use Rattle.std.proofs.lemmas.List.Elements.{recursion_from_All}
use Rattle.std.proofs.lemmas.Bool.{ne_eqb, lt-ltb}
use Rattle.std.proofs.lemmas.Bool.Decides.{nat_tests}
use Rattle.em_base.specs.Blanks.{is_blank, trimmed_start}
use Rattle.em_base.specs.Spans.{cut}
use Rattle.em_base.proofs.Lemmas.{by_cases}
use Rattle.em_refs.specs.declared.part.Bracket.{Bracket}
use Rattle.em_refs.specs.declared.part.Part.{Part}
use Rattle.em_refs.specs.declared.part.Part.TheVariants.{Literal, Dollar, Ref}
use Rattle.em_refs.specs.Parts.{parted, bracketed, bracket_before, source, left}
use Rattle.em_refs.specs.Nesting.{IsUnclosed}
use Rattle.em_refs.proofs.Whole.{told_law}
use Rattle.em_lines.specs.Comments.{comment_start, unescaped, plain_then, bare_parts, bare}
use Rattle.em_lines.specs.Kept.{IsComment}
use Rattle.em_statement.specs.declared.statement.Statement.TheVariants.{Blank}
use Rattle.em_statement.specs.Split.{is_empty}
use Rattle.em_statement.specs.Statements.{statement_of}

abbrev Blanks : List ℕ → Type 0
Blanks text = AllByRecursion (λ b. is_blank b ≡ true) text

no_hash : (b : ℕ) → is_blank b ≡ true → eqb b 35 ≡ false
no_hash b e = ne_eqb b 35 (λ is. let g : is_blank 35 ≡ true = ap is_blank (sym is) ∙ e in cc)

no_backslash : (b : ℕ) → is_blank b ≡ true → eqb b 92 ≡ false
no_backslash b e = ne_eqb b 92 (λ is. let g : is_blank 92 ≡ true = ap is_blank (sym is) ∙ e in cc)

-- no reference stands in front of the comment
no_dollar : (bs c rest : List ℕ) → Blanks bs → IsComment c → bs ++ c ≡ 36 ∷ rest → ⊥
no_dollar [] [] rest blanks comment is = cc
no_dollar [] (d ∷ c) rest blanks comment is = let e : d ≡ 36 = cc in omega arith
no_dollar (b ∷ bs) c rest blanks comment is = let e : b ≡ 36 = cc in let g : is_blank 36 ≡ true = ap is_blank (sym e) ∙ blanks.0 in cc

one_less : (a b : ℕ) → ltb (suc a) (suc b) ≡ ltb a b
one_less a b = grind (arith, nat_tests)

in_front : (b : ℕ) (l made : List ℕ) → is_blank b ≡ true → plain_then (b ∷ l) made ≡ b ∷ plain_then l made
in_front b l made blank =
    let cut = unescaped (take (comment_start l) l) in
    let whole = unescaped l ++ made in
    rw (no_hash b blank, no_backslash b blank) (ap (λ t. cond t (b ∷ cut) (b ∷ whole)) (one_less (comment_start l) (length l))
    ∙ by_cases (ltb (comment_start l) (length l)) (λ t. cond t (b ∷ cut) (b ∷ whole) ≡ b ∷ cond t cut whole) (λ _. refl) (λ _. refl))

-- a literal of blanks goes on behind it, and one with the comment ends in front of it
literal : (l rest made bs c : List ℕ) → Blanks bs → IsComment c → l ++ rest ≡ bs ++ c
    → ((ds : List ℕ) → Blanks ds → rest ≡ ds ++ c → Blanks made) → Blanks (plain_then l made)
literal [] rest made bs c blanks comment is more = more bs blanks is
literal (a ∷ l) rest made [] [] blanks comment is more = absurd (cc)
literal (a ∷ l) rest made [] (d ∷ c) blanks comment is more =
    let same : a ≡ d = cc in
    let e : a ≡ 35 = same ∙ comment in
    let some : ltb 0 (suc (length l)) ≡ true = lt-ltb 0 (suc (length l)) (omega arith) in
    rw (e, some) tt
literal (a ∷ l) rest made (b ∷ bs) c blanks comment is more =
    let same : a ≡ b = cc in
    let tail : l ++ rest ≡ bs ++ c = cc in
    let blank : is_blank a ≡ true = ap is_blank same ∙ blanks.0 in
    subst Blanks (sym (in_front a l made blank)) (blank, literal l rest made bs c blanks.1 comment tail more)

of_reference : (k : Option Bracket) (name more rest bs c : List ℕ) → Blanks bs → IsComment c → bs ++ c ≡ (bracketed k name ++ more) ++ rest → ⊥
of_reference None name more rest bs c blanks comment is = no_dollar bs c _ blanks comment is
of_reference (Some k) name more rest bs c blanks comment is = no_dollar bs c _ blanks comment is

abbrev Begins : List ℕ → Type 0
Begins rest = (rest ≡ []) ⊎ ((more : List ℕ) × (rest ≡ 36 ∷ more))

of_parts : (text : List ℕ) (ps : List Part) (rest bs c : List ℕ) → Begins rest → Blanks bs → IsComment c → flat_map (source text) ps ++ rest ≡ bs ++ c → Blanks (bare_parts text ps rest)
of_parts text [] rest bs c (inl none) blanks comment is = subst Blanks (sym none) tt
of_parts text [] rest bs c (inr (more, begins)) blanks comment is = absurd (no_dollar bs c more blanks comment (sym is ∙ begins))
of_parts text (Literal s ∷ ps) rest bs c begins blanks comment is =
    literal (cut text s) (flat_map (source text) ps ++ rest) (bare_parts text ps rest) bs c blanks comment
    (sym (append_assoc (cut text s) (flat_map (source text) ps) rest) ∙ is)
    (λ ds more e. of_parts text ps rest ds c begins more comment e)
of_parts text (Dollar ∷ ps) rest bs c begins blanks comment is = absurd (no_dollar bs c _ blanks comment (sym is))
of_parts text (Ref s ∷ ps) rest bs c begins blanks comment is =
    absurd (of_reference (bracket_before text s) (cut text s) (flat_map (source text) ps) rest bs c blanks comment (sym is))

there : (text : List ℕ) (at : ℕ) → slice_get text at ≡ Some 36 → (more : List ℕ) × (drop at text ≡ 36 ∷ more)
there [] at e = absurd (cc)
there (x ∷ xs) zero e = (xs, (let is : x ≡ 36 = cc in ap (λ b. b ∷ xs) is))
there (x ∷ xs) (suc i) e = there xs i e

left_begins : (text : List ℕ) (unclosed : Option ℕ) → IfSome unclosed (IsUnclosed text) → Begins (left text unclosed)
left_begins text None h = inl refl
left_begins text (Some at) h = inr (there text at h.dollar)

trimmed_blanks : (text : List ℕ) → Blanks text → trimmed_start text ≡ []
trimmed_blanks [] h = refl
trimmed_blanks (b ∷ text) h =
    let n = prefix_len is_blank text in
    let one : 1 + n ≡ suc n = omega arith in
    rw (h.0, one) (trimmed_blanks text h.1)

bare_blanks : (text bs c : List ℕ) → text ≡ bs ++ c → Blanks bs → IsComment c → Blanks (bare text)
unfolding bare
bare_blanks text bs c is blanks comment =
    let told = told_law text in
    of_parts text (parted text).parts (left text (parted text).unclosed) bs c (left_begins text (parted text).unclosed told.unclosed) blanks comment (told.whole ∙ is)

pub blank_line : (bs c : List ℕ) → All (λ b. is_blank b ≡ true) bs → IsComment c → statement_of (bs ++ c) ≡ Blank
unfolding statement_of
blank_line bs c all comment =
    let blanks = bare_blanks (bs ++ c) bs c refl (recursion_from_All _ bs all) comment in
    let none : is_empty (bare (bs ++ c)) ≡ true = ap (λ (l : List ℕ). eqb (length l) 0) (trimmed_blanks (bare (bs ++ c)) blanks) in
    rw none refl
