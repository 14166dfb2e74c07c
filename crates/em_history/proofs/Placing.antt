-- Pairs at their places: what `placed`, `united` and `collected` give rises and has the pairs of
-- both, and one list does.
--     Rises, Among        the lines rise strictly; the pair is one of these
--     same                lists that rise and have the same pairs are equal
--     all_.., rises_..    what holds of each pair of them, and that they rise
--     among_..            which pairs they have
--     placed_at, placed_there, placed_first      where a pair is put
use Rattle.std.proofs.Common.{◌≡◌, ◌⊎◌, inl, inr, ⊎_elim, ℕ, zero, suc, ◌<◌, ◌≤◌, true, false, cond, Result, Ok, Err, List, [], ◌∷◌, ◌++◌, length, take, drop, get_or, refl, sym, ap, subst, ◌∙◌, arith}
use Rattle.std.specs.Prelude.{◌↔◌, OnOk, OnErr}
use Rattle.std.specs.declared.cmp.Ordering.{Ordering}
use Rattle.std.specs.declared.cmp.Ordering.TheVariants.{Less, Equal, Greater}
use Rattle.std.specs.Ordering.{ordering_reverse}
use Rattle.std.specs.Cmp.{IsTotalOrder}
use Rattle.std.specs.List.{AllByRecursion, Contains, filter}
use Rattle.std.specs.List.Sorted.{IsStrictlySortedBy}
use Rattle.std.proofs.lemmas.Cmp.{on_total, nat_list_cmp_total, tied_itself}
use Rattle.std.proofs.lemmas.List.Elements.{All-from_recursion, recursion_from_All, filter_passes}
use Rattle.em_base.proofs.Lemmas.{by_cases}
use Rattle.em_history.specs.Histories.{Pair, IsHistory, fits, line_of, by_line, beside, placed, united, collected}

abbrev pub Rises : List Pair → Type 0
Rises = IsStrictlySortedBy by_line

abbrev pub AllFit : List Pair → Type 0
AllFit = AllByRecursion (λ p. fits p ≡ true)

pub history : (ps : List Pair) → AllFit ps → Rises ps → IsHistory ps
history ps fit rising = record { fit = All-from_recursion (λ p. fits p ≡ true) ps fit; rising = rising }

pub all_fit : (ps : List Pair) → IsHistory ps → AllFit ps
all_fit ps h = recursion_from_All (λ p. fits p ≡ true) ps h.fit

pub line_order : IsTotalOrder by_line
line_order = on_total line_of nat_list_cmp_total

abbrev pub by_answer : (o : Ordering) (P : Ordering → Type 0) → (o ≡ Less → P Less) → (o ≡ Equal → P Equal) → (o ≡ Greater → P Greater) → P o
by_answer Less P l e g = l refl
by_answer Equal P l e g = e refl
by_answer Greater P l e g = g refl

flip : (p q : Pair) (o : Ordering) → by_line p q ≡ o → by_line q p ≡ ordering_reverse o
flip p q o e = line_order.antisymm q p ∙ ap ordering_reverse e

one_way : (p q : Pair) → by_line p q ≡ Less → by_line q p ≡ Less → ⊥
one_way p q l m = let bad : Less ≡ Greater = sym m ∙ flip p q Less l in cc

-- ---- the pairs of a list

abbrev pub Among : Pair → List Pair → Type 0
Among q [] = ⊥
Among q (p ∷ ps) = (p ≡ q) ⊎ Among q ps

among_at : (ps : List Pair) (q : Pair) (k : ℕ) → k < length ps → get_or ps k q ≡ q → Among q ps
among_at [] q k low is = absurd (omega arith)
among_at (p ∷ ps) q zero low is = inl is
among_at (p ∷ ps) q (suc k) low is = inr (among_at ps q k (omega arith) is)

pub among_from : (ps : List Pair) (q : Pair) → Contains ps q → Among q ps
among_from ps q h = among_at ps q h.0 h.1 h.2

pub among_to : (ps : List Pair) (q : Pair) → Among q ps → Contains ps q
among_to [] q m = absurd m
among_to (p ∷ ps) q m = ⊎_elim (λ e. (0, omega arith, e)) (λ n. let (k, low, is) = among_to ps q n in (suc k, omega arith, is)) m

pub holds_among : (P : Pair → Type 0) (ps : List Pair) (q : Pair) → AllByRecursion P ps → Among q ps → P q
holds_among P [] q h m = absurd m
holds_among P (p ∷ ps) q h m = ⊎_elim (λ e. subst P e h.0) (holds_among P ps q h.1) m

weaker : (P Q : Pair → Type 0) → ((p : Pair) → P p → Q p) → (ps : List Pair) → AllByRecursion P ps → AllByRecursion Q ps
weaker P Q f [] h = tt
weaker P Q f (p ∷ ps) h = (f p h.0, weaker P Q f ps h.1)

pub same : (ps qs : List Pair) → Rises ps → Rises qs → ((r : Pair) → Among r ps → Among r qs) → ((r : Pair) → Among r qs → Among r ps) → ps ≡ qs
unfolding IsStrictlySortedBy
same [] [] g h there back = refl
same [] (q ∷ qs) g h there back = absurd (back q (inl refl))
same (p ∷ ps) [] g h there back = absurd (there p (inl refl))
same (p ∷ ps) (q ∷ qs) g h there back = let e = firsts in let rest = same ps qs g.1 h.1 on onto in λ i. e i ∷ rest i
  where
    firsts : p ≡ q
    firsts = ⊎_elim (λ e. sym e) (λ m. ⊎_elim (λ e. e) (λ n. absurd (one_way p q (holds_among _ ps q g.0 n) (holds_among _ qs p h.0 m))) (back q (inl refl))) (there p (inl refl))

    on : (r : Pair) → Among r ps → Among r qs
    on r m = ⊎_elim (λ (e : q ≡ r). let l : by_line p p ≡ Less = subst (λ x. by_line p x ≡ Less) (sym e ∙ sym firsts) (holds_among _ ps r g.0 m) in absurd (one_way p p l l)) (λ n. n) (there r (inr m))

    onto : (r : Pair) → Among r qs → Among r ps
    onto r m = ⊎_elim (λ (e : p ≡ r). let l : by_line q q ≡ Less = subst (λ x. by_line q x ≡ Less) (sym e ∙ firsts) (holds_among _ qs r h.0 m) in absurd (one_way q q l l)) (λ n. n) (back r (inr m))

pub alike : (ps qs : List Pair) → Rises ps → Rises qs → ((r : Pair) → Contains ps r ↔ Contains qs r) → ps ≡ qs
alike ps qs g h e = same ps qs g h (λ r m. among_from qs r ((e r).0 (among_to ps r m))) (λ r m. among_from ps r ((e r).1 (among_to qs r m)))

-- ---- a pair at its place

pub all_placed : (P : Pair → Type 0) (p : Pair) (ps : List Pair) → P p → AllByRecursion P ps → AllByRecursion P (placed p ps)
all_placed P p [] here all = (here, tt)
all_placed P p (q ∷ qs) here all = by_answer (by_line p q) (λ o. AllByRecursion P (beside o p q qs (placed p qs)))
    (λ _. (here, all)) (λ _. all) (λ _. (all.0, all_placed P p qs here all.1))

pub rises_placed : (p : Pair) (ps : List Pair) → Rises ps → Rises (placed p ps)
unfolding IsStrictlySortedBy
rises_placed p [] h = (tt, tt)
rises_placed p (q ∷ qs) h = by_answer (by_line p q) (λ o. Rises (beside o p q qs (placed p qs)))
    (λ l. ((l, weaker (λ r. by_line q r ≡ Less) (λ r. by_line p r ≡ Less) (λ r. line_order.trans p q r l) qs h.0), h))
    (λ _. h)
    (λ g. (all_placed (λ r. by_line q r ≡ Less) p qs (flip p q Greater g) h.0, rises_placed p qs h.1))

among_placed : (p r : Pair) (ps : List Pair) → Among r (placed p ps) → (p ≡ r) ⊎ Among r ps
among_placed p r [] m = m
among_placed p r (q ∷ qs) m = by_answer (by_line p q) (λ o. Among r (beside o p q qs (placed p qs)) → (p ≡ r) ⊎ Among r (q ∷ qs))
    (λ _ m. m) (λ _ m. inr m)
    (λ _ m. ⊎_elim (λ (e : q ≡ r). inr (inl e)) (λ n. ⊎_elim (λ (e : p ≡ r). inl e) (λ k. inr (inr k)) (among_placed p r qs n)) m) m

pub kept_placed : (p r : Pair) (ps : List Pair) → Among r ps → Among r (placed p ps)
kept_placed p r [] m = absurd m
kept_placed p r (q ∷ qs) m = by_answer (by_line p q) (λ o. Among r (beside o p q qs (placed p qs)))
    (λ _. inr m) (λ _. m) (λ _. ⊎_elim (λ (e : q ≡ r). inl e) (λ n. inr (kept_placed p r qs n)) m)

pub placed_first : (p : Pair) (ps : List Pair) → AllByRecursion (λ q. by_line p q ≡ Less) ps → placed p ps ≡ p ∷ ps
placed_first p [] h = refl
placed_first p (q ∷ qs) h = ap (λ o. beside o p q qs (placed p qs)) h.0

pub placed_there : (p : Pair) (ps : List Pair) → Rises ps → Among p ps → placed p ps ≡ ps
unfolding IsStrictlySortedBy
placed_there p [] h m = absurd m
placed_there p (q ∷ qs) h m = ⊎_elim
    (λ (e : q ≡ p). ap (λ o. beside o p q qs (placed p qs)) (ap (by_line p) e ∙ tied_itself line_order p))
    (λ n. ap (λ o. beside o p q qs (placed p qs)) (flip q p Less (holds_among _ qs p h.0 n)) ∙ ap (λ rs. q ∷ rs) (placed_there p qs h.1 n)) m

-- those before it are less, and those behind it greater
pub placed_at : (p : Pair) (ps : List Pair) (i : ℕ) → i ≤ length ps → ((k : ℕ) (d : Pair) → k < i → by_line (get_or ps k d) p ≡ Less) → ((k : ℕ) (d : Pair) → i ≤ k → k < length ps → by_line (get_or ps k d) p ≡ Greater) → placed p ps ≡ take i ps ++ p ∷ drop i ps
placed_at p [] zero le less more = refl
placed_at p [] (suc i) le less more = absurd (omega arith)
placed_at p (q ∷ qs) zero le less more = ap (λ o. beside o p q qs (placed p qs)) (flip q p Greater (more 0 q (omega arith) (omega arith)))
placed_at p (q ∷ qs) (suc i) le less more = ap (λ o. beside o p q qs (placed p qs)) (flip q p Less (less 0 q (omega arith)))
    ∙ ap (λ rs. q ∷ rs) (placed_at p qs i (omega arith) (λ k d low. less (suc k) d (omega arith)) (λ k d low high. more (suc k) d (omega arith) (omega arith)))

-- ---- the pairs of two lists

pub rises_united : (ps qs : List Pair) → Rises qs → Rises (united ps qs)
rises_united [] qs h = h
rises_united (p ∷ ps) qs h = rises_placed p (united ps qs) (rises_united ps qs h)

pub all_united : (P : Pair → Type 0) (ps qs : List Pair) → AllByRecursion P ps → AllByRecursion P qs → AllByRecursion P (united ps qs)
all_united P [] qs f g = g
all_united P (p ∷ ps) qs f g = all_placed P p (united ps qs) f.0 (all_united P ps qs f.1 g)

pub among_united : (ps qs : List Pair) (r : Pair) → Among r (united ps qs) → Among r ps ⊎ Among r qs
among_united [] qs r m = inr m
among_united (p ∷ ps) qs r m = ⊎_elim (λ (e : p ≡ r). inl (inl e)) (λ n. ⊎_elim (λ k. inl (inr k)) (λ k. inr k) (among_united ps qs r n)) (among_placed p r (united ps qs) m)

pub kept_united : (ps qs : List Pair) (r : Pair) → Among r qs → Among r (united ps qs)
kept_united [] qs r m = m
kept_united (p ∷ ps) qs r m = kept_placed p r (united ps qs) (kept_united ps qs r m)

pub rises_none : Rises []
unfolding IsStrictlySortedBy
rises_none = tt

pub united_none : (ps : List Pair) → Rises ps → united ps [] ≡ ps
unfolding IsStrictlySortedBy
united_none [] h = refl
united_none (p ∷ ps) h = ap (placed p) (united_none ps h.1) ∙ placed_first p ps h.0

pub fit_filtered : (ps : List Pair) → AllFit (filter fits ps)
fit_filtered ps = recursion_from_All (λ p. fits p ≡ true) (filter fits ps) (filter_passes fits ps)

pub among_filtered : (ps : List Pair) (q : Pair) → Among q (filter fits ps) → Among q ps
among_filtered [] q m = m
among_filtered (p ∷ ps) q m = by_cases (fits p) (λ b. Among q (cond b (p ∷ filter fits ps) (filter fits ps)) → Among q (p ∷ ps))
    (λ _ m. ⊎_elim (λ (e : p ≡ q). inl e) (λ n. inr (among_filtered ps q n)) m) (λ _ m. inr (among_filtered ps q m)) m

pub among_fitting : (ps : List Pair) (q : Pair) → fits q ≡ true → Among q ps → Among q (filter fits ps)
among_fitting [] q f m = m
among_fitting (p ∷ ps) q f m = by_cases (fits p) (λ b. fits p ≡ b → Among q (cond b (p ∷ filter fits ps) (filter fits ps)))
    (λ _ _. ⊎_elim (λ (e : p ≡ q). inl e) (λ n. inr (among_fitting ps q f n)) m)
    (λ _ isnt. ⊎_elim (λ (e : p ≡ q). absurd (let bad : true ≡ false = sym f ∙ ap fits (sym e) ∙ isnt in cc)) (λ n. among_fitting ps q f n) m) refl

pub fit_among : (ps : List Pair) (q : Pair) → AllFit ps → Among q ps → fits q ≡ true
fit_among ps q h m = holds_among (λ p. fits p ≡ true) ps q h m

pub history_united : (ps qs : List Pair) → AllFit ps → IsHistory qs → IsHistory (united ps qs)
history_united ps qs fit h = history (united ps qs) (all_united (λ p. fits p ≡ true) ps qs fit (all_fit qs h)) (rises_united ps qs h.rising)

pub history_placed : (p : Pair) (ps : List Pair) → fits p ≡ true → IsHistory ps → IsHistory (placed p ps)
history_placed p ps f h = history_united (p ∷ []) ps (f, tt) h

-- after a step that may fail
pub history_or : {E : Type 0} (r : Result (Unit {0}) E) (ps qs rs : List Pair) → OnOk r (ps ≡ united rs qs) → OnErr r (ps ≡ qs) → IsHistory rs → IsHistory qs → IsHistory ps
history_or (Ok _) ps qs rs ok err g h = subst IsHistory (sym ok) (history_united rs qs (all_fit rs g) h)
history_or (Err _) ps qs rs ok err g h = subst IsHistory (sym err) h

pub history_none : IsHistory []
history_none = history [] tt rises_none

pub history_collected : (ps : List Pair) → IsHistory (collected ps)
history_collected ps = history_united (filter fits ps) [] (fit_filtered ps) history_none
