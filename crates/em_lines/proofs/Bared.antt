-- Lines without their comments.
use Rattle.std.proofs.Common.{◌≡◌, ℕ, zero, suc, ◌+◌, ◌<◌, ◌≤◌, ◌&&◌, ◌||◌, not, Bool, true, false, cond, eqb, ltb, List, [], ◌∷◌, ◌++◌, length, take, drop, refl, sym, ap, subst, ◌∙◌, append_assoc, arith}
use Rattle.std.specs.List.{flat_map, list_any, filter}
use Rattle.std.proofs.lemmas.Bool.{eqb-true, ltb-true, le-ltb}
use Rattle.std.proofs.Math.Seq.{take-append-add, drop-append-add}
use Rattle.std.proofs.lemmas.List.{take_all, drop_all, take-append-le, drop-append-le}
use Rattle.std.proofs.lemmas.List.Elements.{filter-append}
use Rattle.em_base.specs.Spans.{cut}
use Rattle.em_base.proofs.Lemmas.{by_cases}
use Rattle.em_refs.specs.declared.part.Part.{Part}
use Rattle.em_refs.specs.declared.part.Part.TheVariants.{Literal, Dollar, Ref}
use Rattle.em_refs.specs.Parts.{parted, source, left}
use Rattle.em_refs.proofs.Whole.{told_law}
use Rattle.em_lines.specs.Comments.{comment_behind, comment_start, begins_with_hash, unescaped, plain_then, bare_parts, bare}
use Rattle.em_lines.specs.Kept.{IsComment}

abbrev pub is_hash : ℕ → Bool
is_hash b = eqb b 35

-- ---- a text without `#`

left_false : (a b : Bool) → (a || b) ≡ false → (a ≡ false) × (b ≡ false)
left_false true b e = absurd cc
left_false false b e = (refl, e)

none_taken : (n : ℕ) (bs : List ℕ) → list_any is_hash bs ≡ false → list_any is_hash (take n bs) ≡ false
none_taken zero bs none = refl
none_taken (suc n) [] none = refl
none_taken (suc n) (b ∷ bs) none = let each = left_false (is_hash b) (list_any is_hash bs) none in rw each.0 (none_taken n bs each.1)

none_left : (n : ℕ) (bs : List ℕ) → list_any is_hash bs ≡ false → list_any is_hash (drop n bs) ≡ false
none_left zero bs none = none
none_left (suc n) [] none = refl
none_left (suc n) (b ∷ bs) none = none_left n bs (left_false (is_hash b) (list_any is_hash bs) none).1

no_start : (q : Bool) (bs : List ℕ) → list_any is_hash bs ≡ false → comment_behind q bs ≡ length bs
no_start q [] none = refl
no_start q (b ∷ bs) none =
    let each = left_false (is_hash b) (list_any is_hash bs) none in
    ap (λ h. cond (h && not q) 0 (suc (comment_behind (eqb b 92) bs))) each.0 ∙ ap suc (no_start (eqb b 92) bs each.1)

no_escape : (bs : List ℕ) → list_any is_hash bs ≡ false → unescaped bs ≡ bs
no_escape [] none = refl
no_escape (b ∷ []) none = by_cases (eqb b 92) (λ t. cond (t && false) [] (b ∷ []) ≡ b ∷ []) (λ _. refl) (λ _. refl)
no_escape (b ∷ c ∷ bs) none =
    let each = left_false (is_hash b) (list_any is_hash (c ∷ bs)) none in
    let next = left_false (is_hash c) (list_any is_hash bs) each.1 in
    ap (λ h. cond (eqb b 92 && h) (unescaped (c ∷ bs)) (b ∷ unescaped (c ∷ bs))) next.0
    ∙ by_cases (eqb b 92) (λ t. cond (t && false) (unescaped (c ∷ bs)) (b ∷ unescaped (c ∷ bs)) ≡ b ∷ unescaped (c ∷ bs)) (λ _. refl) (λ _. refl)
    ∙ ap (λ l. b ∷ l) (no_escape (c ∷ bs) each.1)

no_comment : (bs behind : List ℕ) → list_any is_hash bs ≡ false → plain_then bs behind ≡ bs ++ behind
no_comment bs behind none =
    let short : ltb (comment_start bs) (length bs) ≡ false = ap (λ n. ltb n (length bs)) (no_start false bs none) ∙ le-ltb (length bs) (length bs) (omega arith) in
    ap (λ t. cond t (unescaped (take (comment_start bs) bs)) (unescaped bs ++ behind)) short ∙ ap (λ l. l ++ behind) (no_escape bs none)

no_cut : (text : List ℕ) (ps : List Part) (unclosed : List ℕ) → list_any is_hash text ≡ false → bare_parts text ps unclosed ≡ flat_map (source text) ps ++ unclosed
no_cut text [] unclosed none = refl
no_cut text (Literal s ∷ ps) unclosed none =
    no_comment (cut text s) (bare_parts text ps unclosed) (none_taken _ (drop s.start text) (none_left s.start text none))
    ∙ ap (λ l. cut text s ++ l) (no_cut text ps unclosed none) ∙ sym (append_assoc (cut text s) (flat_map (source text) ps) unclosed)
no_cut text (Dollar ∷ ps) unclosed none = ap (λ l. source text Dollar ++ l) (no_cut text ps unclosed none) ∙ sym (append_assoc (source text Dollar) (flat_map (source text) ps) unclosed)
no_cut text (Ref s ∷ ps) unclosed none = ap (λ l. source text (Ref s) ++ l) (no_cut text ps unclosed none) ∙ sym (append_assoc (source text (Ref s)) (flat_map (source text) ps) unclosed)

pub bare_none : (text : List ℕ) → list_any is_hash text ≡ false → bare text ≡ text
unfolding bare
bare_none text none = no_cut text (parted text).parts (left text (parted text).unclosed) none ∙ (told_law text).whole

-- ---- what is left of a line

abbrev is_other : ℕ → Bool
is_other b = not (eqb b 92)

abbrev others : List ℕ → List ℕ
others bs = filter is_other bs

-- what is made of a text is what stands in front of a comment, but for backslashes
abbrev pub IsFront : List ℕ → List ℕ → Type 0
IsFront text made = (n : ℕ) × (IsComment (drop n text) × (others made ≡ others (take n text)))

unescaped_others : (bs : List ℕ) → others (unescaped bs) ≡ others bs
unescaped_others [] = refl
unescaped_others (b ∷ bs) = by_cases (eqb b 92) (λ t. eqb b 92 ≡ t → others (cond (t && begins_with_hash bs) (unescaped bs) (b ∷ unescaped bs)) ≡ cond (not t) (b ∷ others bs) (others bs))
    (λ _ is. by_cases (begins_with_hash bs) (λ h. others (cond h (unescaped bs) (b ∷ unescaped bs)) ≡ others bs)
    (λ _. unescaped_others bs)
    (λ _. ap (λ t. cond (not t) (b ∷ others (unescaped bs)) (others (unescaped bs))) is ∙ unescaped_others bs))
    (λ _ isnt. ap (λ t. cond (not t) (b ∷ others (unescaped bs)) (others (unescaped bs))) isnt ∙ ap (λ l. b ∷ l) (unescaped_others bs)) refl

hash_there : (q : Bool) (bs more : List ℕ) → comment_behind q bs < length bs → IsComment (drop (comment_behind q bs) bs ++ more)
hash_there q [] more lt = absurd (omega arith)
hash_there q (b ∷ bs) more lt = by_cases (eqb b 35) (λ t. eqb b 35 ≡ t → cond (t && not q) 0 (suc (comment_behind (eqb b 92) bs)) < suc (length bs) → IsComment (drop (cond (t && not q) 0 (suc (comment_behind (eqb b 92) bs))) (b ∷ bs) ++ more))
    (λ _ is. first q (eqb-true b 35 is) (hash_there (eqb b 92) bs more))
    (λ _ _ h. hash_there (eqb b 92) bs more (omega arith)) refl lt
  where
    first : (q : Bool) → b ≡ 35 → (comment_behind (eqb b 92) bs < length bs → IsComment (drop (comment_behind (eqb b 92) bs) bs ++ more))
        → cond (not q) 0 (suc (comment_behind (eqb b 92) bs)) < suc (length bs) → IsComment (drop (cond (not q) 0 (suc (comment_behind (eqb b 92) bs))) (b ∷ bs) ++ more)
    first true is behind h = behind (omega arith)
    first false is behind h = is

front_more : (front made text rest : List ℕ) → others made ≡ others front → IsFront text rest → IsFront (front ++ text) (made ++ rest)
front_more front made text rest same (n, (comment, kept)) = (
  length front + n,
  (
    subst IsComment (sym (drop-append-add front text n)) comment,
    filter-append is_other made rest ∙ ap (λ l. l ++ others rest) same ∙ ap (λ l. others front ++ l) kept ∙ sym (filter-append is_other front (take n text)) ∙ ap others (sym (take-append-add front text n)),
  ),
)

front_plain : (bs text rest : List ℕ) → IsFront text rest → IsFront (bs ++ text) (plain_then bs rest)
front_plain bs text rest front = by_cases (ltb (comment_start bs) (length bs)) (λ t. IsFront (bs ++ text) (cond t (unescaped (take (comment_start bs) bs)) (unescaped bs ++ rest)))
    (λ is.
    let lt = ltb-true (comment_start bs) (length bs) is in
    let le : comment_start bs ≤ length bs = omega arith in (
      comment_start bs,
      (
        subst IsComment (sym (drop-append-le (comment_start bs) bs text le)) (hash_there false bs text lt),
        unescaped_others (take (comment_start bs) bs) ∙ ap others (sym (take-append-le (comment_start bs) bs text le)),
      ),
    ))
    (λ _. front_more bs (unescaped bs) text rest (unescaped_others bs) front)

front_parts : (text : List ℕ) (ps : List Part) (unclosed : List ℕ) → IsFront (flat_map (source text) ps ++ unclosed) (bare_parts text ps unclosed)
front_parts text [] unclosed = (length unclosed, (subst IsComment (sym (drop_all (length unclosed) unclosed (omega arith))) tt, ap others (sym (take_all (length unclosed) unclosed (omega arith)))))
front_parts text (Literal s ∷ ps) unclosed = subst (λ t. IsFront t (bare_parts text (Literal s ∷ ps) unclosed)) (sym (append_assoc (cut text s) (flat_map (source text) ps) unclosed)) (front_plain (cut text s) _ _ (front_parts text ps unclosed))
front_parts text (Dollar ∷ ps) unclosed = front_more (36 ∷ 36 ∷ []) (36 ∷ 36 ∷ []) _ (bare_parts text ps unclosed) refl (front_parts text ps unclosed)
front_parts text (Ref s ∷ ps) unclosed = subst (λ t. IsFront t (bare_parts text (Ref s ∷ ps) unclosed)) (sym (append_assoc (source text (Ref s)) (flat_map (source text) ps) unclosed)) (front_more (source text (Ref s)) (source text (Ref s)) _ _ refl (front_parts text ps unclosed))

pub bare_front : (text : List ℕ) → IsFront text (bare text)
unfolding bare
bare_front text = subst (λ t. IsFront t (bare text)) (told_law text).whole (front_parts text (parted text).parts (left text (parted text).unclosed))
