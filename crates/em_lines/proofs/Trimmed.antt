-- Texts without the blanks at their ends, byte by byte.
--     start-cons, end-cons     the recursions of `trimmed_start` and `trimmed_end`
--     one_space                two blanks' runs with nothing between them are one
use Rattle.std.proofs.Common.{◌≡◌, ℕ, suc, ◌+◌, ◌-◌, ◌&&◌, Bool, true, false, cond, eqb, List, [], ◌∷◌, ◌++◌, length, take, drop, reverse, refl, sym, ap, ◌∙◌, append_assoc, arith}
use Rattle.std.proofs.Math.Dec.{eqb-suc-suc, eqb-zero-suc}
use Rattle.std.proofs.Math.Bool.{and-true}
use Rattle.std.specs.List.{prefix_len, suffix_len, list_all}
use Rattle.std.proofs.lemmas.List.{reverse-append, length-reverse}
use Rattle.std.proofs.lemmas.List.Folds.{prefix_len-append, list_all-append}
use Rattle.std.proofs.lemmas.List.Sums.{suffix_len-le-length}
use Rattle.em_base.specs.Blanks.{is_blank, trimmed_start, trimmed_end}
use Rattle.em_base.proofs.Lemmas.{by_cases}

abbrev pub blank : List ℕ → Bool
blank xs = list_all is_blank xs

-- ---- the recursions

run_whole : (xs : List ℕ) → eqb (prefix_len is_blank xs) (length xs) ≡ blank xs
run_whole [] = refl
run_whole (x ∷ xs) = by_cases (is_blank x) (λ b. eqb (cond b (1 + prefix_len is_blank xs) 0) (suc (length xs)) ≡ (b && blank xs))
    (λ _. rw (let e : 1 + prefix_len is_blank xs ≡ suc (prefix_len is_blank xs) = omega arith in e, eqb-suc-suc (prefix_len is_blank xs) (length xs)) (run_whole xs))
    (λ _. eqb-zero-suc (length xs))

blank-reverse : (xs : List ℕ) → blank (reverse xs) ≡ blank xs
blank-reverse [] = refl
blank-reverse (x ∷ xs) =
    ap blank (reverse-append (x ∷ []) xs) ∙ list_all-append is_blank (reverse xs) (x ∷ []) ∙ ap (λ b. b && (is_blank x && true)) (blank-reverse xs) ∙ swap (blank xs) (is_blank x)
  where
    swap : (a b : Bool) → (a && (b && true)) ≡ (b && a)
    swap true true = refl
    swap true false = refl
    swap false true = refl
    swap false false = refl

suffix-cons : (x : ℕ) (xs : List ℕ) → suffix_len is_blank (x ∷ xs) ≡ cond (blank xs) (length xs + cond (is_blank x) 1 0) (suffix_len is_blank xs)
suffix-cons x xs =
    ap (prefix_len is_blank) (reverse-append (x ∷ []) xs) ∙ prefix_len-append is_blank (reverse xs) (x ∷ [])
    ∙ ap (λ b. cond b (length (reverse xs) + cond (is_blank x) 1 0) (suffix_len is_blank xs)) (run_whole (reverse xs) ∙ blank-reverse xs)
    ∙ ap (λ n. cond (blank xs) (n + cond (is_blank x) 1 0) (suffix_len is_blank xs)) (length-reverse xs)

suffix_whole : (xs : List ℕ) → blank xs ≡ true → suffix_len is_blank xs ≡ length xs
suffix_whole [] all = refl
suffix_whole (x ∷ xs) all = by_cases (is_blank x) (λ b. is_blank x ≡ b → (b && blank xs) ≡ true → suffix_len is_blank (x ∷ xs) ≡ suc (length xs))
    (λ is same more. suffix-cons x xs ∙ rw (more, is) (omega arith))
    (λ isnt same more. absurd cc) refl all

pub end_blank : (xs : List ℕ) → blank xs ≡ true → trimmed_end xs ≡ []
end_blank xs all = rw (suffix_whole xs all, (let e : length xs - length xs ≡ 0 = omega arith in e)) refl

pub end-cons : (x : ℕ) (xs : List ℕ) → trimmed_end (x ∷ xs) ≡ cond (blank (x ∷ xs)) [] (x ∷ trimmed_end xs)
end-cons x xs = by_cases (blank (x ∷ xs)) (λ b. trimmed_end (x ∷ xs) ≡ cond b [] (x ∷ trimmed_end xs))
    (λ all. end_blank (x ∷ xs) all)
    (λ isnt. by_cases (blank xs) (λ b. blank xs ≡ b → trimmed_end (x ∷ xs) ≡ x ∷ trimmed_end xs)
    (λ all same. one all (by_cases (is_blank x) (λ b. (b && blank xs) ≡ false → is_blank x ≡ b → b ≡ false) (λ _ h g. absurd (let k : true ≡ false = rw all at h in cc)) (λ _ h g. refl) isnt refl))
    (λ some same. more some) refl)
  where
    one : blank xs ≡ true → is_blank x ≡ false → trimmed_end (x ∷ xs) ≡ x ∷ trimmed_end xs
    one all first =
        let s : suffix_len is_blank (x ∷ xs) ≡ length xs = suffix-cons x xs ∙ rw (all, first) (omega arith) in
        let k : suc (length xs) - length xs ≡ suc 0 = omega arith in
        rw (end_blank xs all) (ap (λ n. take (suc (length xs) - n) (x ∷ xs)) s ∙ ap (λ n. take n (x ∷ xs)) k)

    more : blank xs ≡ false → trimmed_end (x ∷ xs) ≡ x ∷ trimmed_end xs
    more some =
        let s : suffix_len is_blank (x ∷ xs) ≡ suffix_len is_blank xs = suffix-cons x xs ∙ rw some refl in
        let few = suffix_len-le-length is_blank xs in
        let k : suc (length xs) - suffix_len is_blank xs ≡ suc (length xs - suffix_len is_blank xs) = omega arith in
        ap (λ n. take (suc (length xs) - n) (x ∷ xs)) s ∙ ap (λ n. take n (x ∷ xs)) k

pub start-cons : (x : ℕ) (xs : List ℕ) → trimmed_start (x ∷ xs) ≡ cond (is_blank x) (trimmed_start xs) (x ∷ xs)
start-cons x xs = by_cases (is_blank x) (λ b. drop (cond b (1 + prefix_len is_blank xs) 0) (x ∷ xs) ≡ cond b (trimmed_start xs) (x ∷ xs))
    (λ _. rw (let e : 1 + prefix_len is_blank xs ≡ suc (prefix_len is_blank xs) = omega arith in e) refl)
    (λ _. refl)

pub start_skip : (x : ℕ) (xs : List ℕ) → is_blank x ≡ true → trimmed_start (x ∷ xs) ≡ trimmed_start xs
start_skip x xs is = start-cons x xs ∙ ap (λ b. cond b (trimmed_start xs) (x ∷ xs)) is

pub start_stop : (x : ℕ) (xs : List ℕ) → is_blank x ≡ false → trimmed_start (x ∷ xs) ≡ x ∷ xs
start_stop x xs isnt = start-cons x xs ∙ ap (λ b. cond b (trimmed_start xs) (x ∷ xs)) isnt

pub end_on : (x : ℕ) (xs : List ℕ) → blank (x ∷ xs) ≡ false → trimmed_end (x ∷ xs) ≡ x ∷ trimmed_end xs
end_on x xs some = end-cons x xs ∙ ap (λ b. cond b [] (x ∷ trimmed_end xs)) some

-- ---- what is trimmed

start_blank : (xs : List ℕ) → blank (trimmed_start xs) ≡ blank xs
start_blank [] = refl
start_blank (x ∷ xs) = by_cases (is_blank x) (λ b. is_blank x ≡ b → blank (trimmed_start (x ∷ xs)) ≡ (b && blank xs))
    (λ is _. ap blank (start_skip x xs is) ∙ start_blank xs)
    (λ isnt _. ap blank (start_stop x xs isnt) ∙ ap (λ b. b && blank xs) isnt) refl

pub start_twice : (xs : List ℕ) → trimmed_start (trimmed_start xs) ≡ trimmed_start xs
start_twice [] = refl
start_twice (x ∷ xs) = by_cases (is_blank x) (λ b. trimmed_start (trimmed_start (x ∷ xs)) ≡ trimmed_start (x ∷ xs))
    (λ is. ap trimmed_start (start_skip x xs is) ∙ start_twice xs ∙ sym (start_skip x xs is))
    (λ isnt. ap trimmed_start (start_stop x xs isnt))

end_keeps : (xs : List ℕ) → blank (trimmed_end xs) ≡ blank xs
end_keeps [] = refl
end_keeps (x ∷ xs) = by_cases (blank (x ∷ xs)) (λ b. blank (x ∷ xs) ≡ b → blank (trimmed_end (x ∷ xs)) ≡ b)
    (λ is same. rw (end-cons x xs, same) refl)
    (λ isnt same. rw (end-cons x xs, same) (ap (λ b. is_blank x && b) (end_keeps xs) ∙ same)) refl

end_twice : (xs : List ℕ) → trimmed_end (trimmed_end xs) ≡ trimmed_end xs
end_twice [] = refl
end_twice (x ∷ xs) = by_cases (blank (x ∷ xs)) (λ b. blank (x ∷ xs) ≡ b → trimmed_end (trimmed_end (x ∷ xs)) ≡ trimmed_end (x ∷ xs))
    (λ _ is. rw (end-cons x xs, is) refl)
    (λ _ isnt.
    let same : blank (x ∷ trimmed_end xs) ≡ false = ap (λ b. is_blank x && b) (end_keeps xs) ∙ isnt in
    rw (end-cons x xs, isnt) (end-cons x (trimmed_end xs) ∙ rw same (ap (λ l. x ∷ l) (end_twice xs)))) refl

both : (xs : List ℕ) → blank xs ≡ false → trimmed_start (trimmed_end xs) ≡ trimmed_end (trimmed_start xs)
both [] some = refl
both (x ∷ xs) some =
    let e : trimmed_end (x ∷ xs) ≡ x ∷ trimmed_end xs = end-cons x xs ∙ rw some refl in
    by_cases (is_blank x) (λ b. trimmed_start (trimmed_end (x ∷ xs)) ≡ trimmed_end (trimmed_start (x ∷ xs)))
    (λ is. let more : blank xs ≡ false = rw is at some in
    ap trimmed_start e ∙ start_skip x (trimmed_end xs) is ∙ both xs more ∙ ap trimmed_end (sym (start_skip x xs is)))
    (λ isnt. ap trimmed_start e ∙ start_stop x (trimmed_end xs) isnt ∙ sym e ∙ ap trimmed_end (sym (start_stop x xs isnt)))

start_word : (xs ys : List ℕ) → blank xs ≡ false → trimmed_start (xs ++ ys) ≡ trimmed_start xs ++ ys
start_word [] ys some = absurd cc
start_word (x ∷ xs) ys some = by_cases (is_blank x) (λ b. trimmed_start (x ∷ (xs ++ ys)) ≡ trimmed_start (x ∷ xs) ++ ys)
    (λ is. let more : blank xs ≡ false = rw is at some in
    start_skip x (xs ++ ys) is ∙ start_word xs ys more ∙ ap (λ l. l ++ ys) (sym (start_skip x xs is)))
    (λ isnt. start_stop x (xs ++ ys) isnt ∙ ap (λ l. l ++ ys) (sym (start_stop x xs isnt)))

pub start_mark : (xs : List ℕ) (c : ℕ) → is_blank c ≡ false → trimmed_start (xs ++ c ∷ []) ≡ trimmed_start xs ++ c ∷ []
start_mark [] c mark = start_stop c [] mark
start_mark (x ∷ xs) c mark = by_cases (is_blank x) (λ b. trimmed_start (x ∷ (xs ++ c ∷ [])) ≡ trimmed_start (x ∷ xs) ++ c ∷ [])
    (λ is. start_skip x (xs ++ c ∷ []) is ∙ start_mark xs c mark ∙ ap (λ l. l ++ c ∷ []) (sym (start_skip x xs is)))
    (λ isnt. start_stop x (xs ++ c ∷ []) isnt ∙ ap (λ l. l ++ c ∷ []) (sym (start_stop x xs isnt)))

end_word : (xs ys : List ℕ) → blank ys ≡ false → trimmed_end (xs ++ ys) ≡ xs ++ trimmed_end ys
end_word [] ys some = refl
end_word (x ∷ xs) ys some =
    let whole : blank (x ∷ (xs ++ ys)) ≡ false = list_all-append is_blank (x ∷ xs) ys ∙ rw some (never (blank (x ∷ xs))) in
    end-cons x (xs ++ ys) ∙ rw whole (ap (λ l. x ∷ l) (end_word xs ys some))
  where
    never : (a : Bool) → (a && false) ≡ false
    never true = refl
    never false = refl

end_more : (xs ys : List ℕ) → blank ys ≡ true → trimmed_end (xs ++ ys) ≡ trimmed_end xs
end_more [] ys all = end_blank ys all
end_more (x ∷ xs) ys all =
    let whole : blank (x ∷ (xs ++ ys)) ≡ blank (x ∷ xs) = list_all-append is_blank (x ∷ xs) ys ∙ rw all (and-true (blank (x ∷ xs))) in
    end-cons x (xs ++ ys) ∙ rw (whole, end_more xs ys all) (sym (end-cons x xs))

-- a space, and a text between blanks, and a space
pub one_space : (a f t : List ℕ) → trimmed_end a ++ 32 ∷ trimmed_start (trimmed_end f ++ 32 ∷ trimmed_start t) ≡ trimmed_end (trimmed_end a ++ 32 ∷ trimmed_start f) ++ 32 ∷ trimmed_start t
one_space a f t = by_cases (blank f) (λ b. blank f ≡ b → trimmed_end a ++ 32 ∷ trimmed_start (trimmed_end f ++ 32 ∷ trimmed_start t) ≡ trimmed_end (trimmed_end a ++ 32 ∷ trimmed_start f) ++ 32 ∷ trimmed_start t)
    (λ _ all.
    let space : trimmed_start (32 ∷ trimmed_start t) ≡ trimmed_start t = start-cons 32 (trimmed_start t) ∙ start_twice t in
    let behind : blank (32 ∷ trimmed_start f) ≡ true = start_blank f ∙ all in
    rw (end_blank f all, space) (ap (λ l. l ++ 32 ∷ trimmed_start t) (sym (end_more (trimmed_end a) (32 ∷ trimmed_start f) behind ∙ end_twice a))))
    (λ _ some.
    let inner : trimmed_start (trimmed_end f ++ 32 ∷ trimmed_start t) ≡ trimmed_end (trimmed_start f) ++ 32 ∷ trimmed_start t = start_word (trimmed_end f) (32 ∷ trimmed_start t) (end_keeps f ∙ some) ∙ ap (λ l. l ++ 32 ∷ trimmed_start t) (both f some) in
    let left : blank (trimmed_start f) ≡ false = start_blank f ∙ some in
    let outer : trimmed_end (trimmed_end a ++ 32 ∷ trimmed_start f) ≡ trimmed_end a ++ 32 ∷ trimmed_end (trimmed_start f) =
    end_word (trimmed_end a) (32 ∷ trimmed_start f) left ∙ ap (λ l. trimmed_end a ++ l) (end-cons 32 (trimmed_start f) ∙ rw left refl) in
    rw (inner, outer) (sym (append_assoc (trimmed_end a) (32 ∷ trimmed_end (trimmed_start f)) (32 ∷ trimmed_start t)))) refl
