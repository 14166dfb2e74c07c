-- What texts without references come to.
use Rattle.std.proofs.Common.{◌≡◌, ◌≢◌, ◌≤◌, ◌+◌, ◌-◌, ℕ, zero, suc, false, eqb, List, [], ◌∷◌, ◌++◌, take, drop, Option, None, refl, sym, ap, ◌∙◌, append-nil, append_assoc, arith}
use Rattle.std.specs.Prelude.{All}
use Rattle.std.specs.List.{AllByRecursion}
use Rattle.std.proofs.lemmas.Bool.{eqb-true, ne_eqb}
use Rattle.std.proofs.lemmas.List.{drop-drop}
use Rattle.std.proofs.lemmas.List.Elements.{recursion_from_All}
use Rattle.em_base.proofs.Lemmas.{by_cases}
use Rattle.em_base.specs.Spans.{cut}
use Rattle.em_base.specs.declared.place.Place.{Place}
use Rattle.em_refs.specs.declared.part.Part.{Part}
use Rattle.em_refs.specs.declared.part.Part.TheVariants.{Dollar}
use Rattle.em_refs.specs.Parts as refs
use Rattle.em_refs.specs.Parts.{span, literal, parts_from, parted}
use Rattle.em_vars.specs.Entries.{Entries}
use Rattle.em_view.specs.Actions.{◌>>=◌}
use Rattle.em_view.specs.Steps.{and_then, done}
use Rattle.em_expand.specs.Desks.{Says}
use Rattle.em_expand.specs.Doubled.{doubled}
use Rattle.em_expand.specs.Expansion.{Refers, put_parts, expansion, reference, levels}

pub next_done : {A B : Type 0} (a : A) (k : A → Says B) → and_then (done a) k ≡ k a
unfolding and_then done ◌>>=◌
next_done a k = refl

take_next : (n b : ℕ) (text rest : List ℕ) → drop n text ≡ b ∷ rest → take (suc n) text ≡ take n text ++ b ∷ []
take_next zero b text rest e = rw e refl
take_next (suc n) b [] rest e = cc
take_next (suc n) b (x ∷ text) rest e = ap (λ (t : List ℕ). x ∷ t) (take_next n b text rest e)

cut_none : (text : List ℕ) (n : ℕ) → cut text (span n n) ≡ []
cut_none text n = let e : n - n ≡ 0 = omega arith in rw e refl

cut_more : (text rest : List ℕ) (from at b : ℕ) → from ≤ at → drop at text ≡ b ∷ rest → cut text (span from (at + 1)) ≡ cut text (span from at) ++ b ∷ []
cut_more text rest from at b le e =
    let n = at - from in
    let all : from + n ≡ at = omega arith in
    let more : at + 1 - from ≡ suc n = omega arith in
    let here : drop n (drop from text) ≡ b ∷ rest = drop-drop n from text ∙ ap (λ k. drop k text) all ∙ e in
    rw more (take_next n b (drop from text) rest here)

-- literal text in front of the other parts
put_literal : (refer : Refers) (text : List ℕ) (unclosed : Option ℕ) (from at : ℕ) (parts : List Part) (out : List ℕ) → put_parts refer text unclosed (literal from at ++ parts) out ≡ put_parts refer text unclosed parts (out ++ cut text (span from at))
put_literal refer text unclosed from at parts out = by_cases (eqb from at) (λ b. eqb from at ≡ b → put_parts refer text unclosed (literal from at ++ parts) out ≡ put_parts refer text unclosed parts (out ++ cut text (span from at)))
    (λ e _. let same = eqb-true from at e in let none : cut text (span from at) ≡ [] = ap (λ n. cut text (span n at)) same ∙ cut_none text at in rw (e, none, append-nil out) refl)
    (λ e _. rw e (next_done (out ++ cut text (span from at)) (λ all. put_parts refer text unclosed parts all)))
    refl

pub put_doubled : (t : List ℕ) (refer : Refers) (text : List ℕ) (from at : ℕ) (out : List ℕ) → from ≤ at → drop at text ≡ doubled t
    → put_parts refer text (parts_from (refs.plain from) at (doubled t)).unclosed (parts_from (refs.plain from) at (doubled t)).parts out ≡ done ((out ++ cut text (span from at)) ++ t)
put_doubled [] refer text from at out le e =
    ap (λ (ps : List Part). put_parts refer text None ps out) (sym (append-nil (literal from at))) ∙ put_literal refer text None from at [] out ∙ ap (λ (x : List ℕ). done x) (sym (append-nil (out ++ cut text (span from at))))
put_doubled (b ∷ t) refer text from at out le e = by_cases (eqb b 36)
    (λ c. eqb b 36 ≡ c → put_parts refer text (parts_from (refs.plain from) at (doubled (b ∷ t))).unclosed (parts_from (refs.plain from) at (doubled (b ∷ t))).parts out ≡ done ((out ++ cut text (span from at)) ++ b ∷ t))
    (λ is _.
    let dollar : b ≡ 36 = eqb-true b 36 is in
    let here : drop at text ≡ 36 ∷ 36 ∷ doubled t = rw is at e in
    let two : at + 2 ≡ at + 1 + 1 = omega arith in
    let rest : drop (at + 1 + 1) text ≡ doubled t = ap (λ k. drop k text) (sym two) ∙ sym (drop-drop 2 at text) ∙ ap (λ (xs : List ℕ). drop 2 xs) here in
    let p = parts_from (refs.plain (at + 1 + 1)) (at + 1 + 1) (doubled t) in
    let front = out ++ cut text (span from at) in
    let same : ((front ++ 36 ∷ []) ++ cut text (span (at + 1 + 1) (at + 1 + 1))) ++ t ≡ front ++ b ∷ t = rw (cut_none text (at + 1 + 1), dollar) (simp (append-nil, append_assoc)) in
    rw is (put_literal refer text p.unclosed from at (Dollar ∷ p.parts) out
    ∙ next_done (front ++ 36 ∷ []) (λ all. put_parts refer text p.unclosed p.parts all)
    ∙ put_doubled t refer text (at + 1 + 1) (at + 1 + 1) (front ++ 36 ∷ []) (omega arith) rest
    ∙ ap (λ (x : List ℕ). done x) same))
    (λ is _.
    let here : drop at text ≡ b ∷ doubled t = rw is at e in
    let more : cut text (span from (at + 1)) ≡ cut text (span from at) ++ b ∷ [] = cut_more text (doubled t) from at b le here in
    let rest : drop (at + 1) text ≡ doubled t = sym (drop-drop 1 at text) ∙ ap (λ (xs : List ℕ). drop 1 xs) here in
    let same : (out ++ cut text (span from (at + 1))) ++ t ≡ (out ++ cut text (span from at)) ++ b ∷ t = rw more (simp append_assoc) in
    rw (is, is) (put_doubled t refer text from (at + 1) out (omega arith) rest ∙ ap (λ (x : List ℕ). done x) same))
    refl

pub doubled_law : (vars : Entries) (cwd : List ℕ) (place : Place) (text : List ℕ) → expansion vars cwd place (doubled text) ≡ done text
unfolding expansion
doubled_law vars cwd place text = put_doubled text (reference levels (record { vars = vars; cwd = cwd; place = place }) []) (doubled text) 0 0 [] (omega arith) refl

none_doubled : (text : List ℕ) → AllByRecursion (λ b. b ≢ 36) text → doubled text ≡ text
none_doubled [] all = refl
none_doubled (b ∷ text) all = let other : eqb b 36 ≡ false = ne_eqb b 36 all.0 in rw other (ap (λ (t : List ℕ). b ∷ t) (none_doubled text all.1))

pub plain_law : (vars : Entries) (cwd : List ℕ) (place : Place) (text : List ℕ) → All (λ b. b ≢ 36) text → expansion vars cwd place text ≡ done text
plain_law vars cwd place text all = ap (λ (t : List ℕ). expansion vars cwd place t) (sym (none_doubled text (recursion_from_All _ text all))) ∙ doubled_law vars cwd place text
