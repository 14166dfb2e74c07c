-- The rule that is chosen, in the rule's words.
--     Contained f fs      f is one of the list
--     offered_is, is_offered      the candidates are what the rules offer
--     best_is             a run over the candidates gives the one that wins against each
--     chosen, best, none  the law
use Rattle.std.proofs.Common.{◌≡◌, ◌∙◌, ◌⊎◌, inl, inr, refl, sym, ap, subst, ℕ, zero, suc, ◌+◌, ◌<◌, ◌≤◌, Bool, true, false, cond, ltb, List, [], ◌∷◌, ◌++◌, length, Option, Some, None, arith, add-zero, zero-add, ltb-true, ltb-false}
use Rattle.std.specs.Prelude.{fold, option_map, slice_get}
use Rattle.em_base.proofs.Lemmas.{by_cases}
use Rattle.em_tree.specs.Trees.{Table}
use Rattle.em_rules.specs.declared.rule.Rule.{Rule}
use Rattle.em_implicit.specs.declared.seek.Found.{Found}
use Rattle.em_implicit.specs.Matches.{match_by, match_of}
use Rattle.em_implicit.specs.Implicit.{applies, candidate_by, candidates_of, candidates_from, shorter, found, whole_stem, offered}

abbrev pub Contained : Found → List Found → Type 0
Contained f [] = ⊥
Contained f (g ∷ gs) = (f ≡ g) ⊎ Contained f gs

in_front : (f : Found) (fs gs : List Found) → Contained f fs → Contained f (fs ++ gs)
in_front f [] gs h = absurd h
in_front f (g ∷ fs) gs (inl is) = inl is
in_front f (g ∷ fs) gs (inr h) = inr (in_front f fs gs h)

in_back : (f : Found) (fs gs : List Found) → Contained f gs → Contained f (fs ++ gs)
in_back f [] gs h = h
in_back f (g ∷ fs) gs h = inr (in_back f fs gs h)

in_either : (f : Found) (fs gs : List Found) → Contained f (fs ++ gs) → Contained f fs ⊎ Contained f gs
in_either f [] gs h = inr h
in_either f (g ∷ fs) gs (inl is) = inl (inl is)
in_either f (g ∷ fs) gs (inr h) = elim (in_either f fs gs h) [ inl front ↦ inl (inr front) | inr back ↦ inr back ]

-- ---- the candidates are what is offered

module _ (rules : List Rule) (tree : Table) (cwd target : List ℕ) where
  abbrev pub all_from : ℕ → List Rule → List Found
  all_from i patterns = candidates_from i rules patterns tree cwd target

  abbrev pub all_of : ℕ → ℕ → Rule → List (List ℕ) → List Found
  all_of k i r ps = candidates_of k rules tree cwd target i r ps

  -- the stem with which the rule applies to a match
  abbrev pub stem_with : Rule → Option (List ℕ × List ℕ) → Option (List ℕ)
  stem_with r m = cond (applies rules tree cwd r m) (option_map whole_stem m) None

  -- what the target patterns of a rule offer, by their numbers
  abbrev pub offered_at : Rule → List (List ℕ) → ℕ → Option (List ℕ)
  offered_at r ps k = stem_with r (match_by (slice_get ps k) target)

  own_offer : (a : Bool) (i k : ℕ) (m : Option (List ℕ × List ℕ)) (stem : List ℕ) → cond a (option_map whole_stem m) None ≡ Some stem → Contained (record { rule = i; pattern = k; stem = stem }) (candidate_by a i k m)
  own_offer true i k (Some m) stem e = inl (ap (λ s. let f : Found = record { rule = i; pattern = k; stem = s } in f) (sym (let w : whole_stem m ≡ stem = cc in w)))
  own_offer true i k None stem e = absurd cc
  own_offer false i k m stem e = absurd cc

  offer_own : (a : Bool) (i k : ℕ) (m : Option (List ℕ × List ℕ)) (f : Found) → Contained f (candidate_by a i k m) → (f.rule ≡ i) × (f.pattern ≡ k) × (cond a (option_map whole_stem m) None ≡ Some f.stem)
  offer_own true i k (Some m) f (inl e) = (ap (λ (g : Found). g.rule) e, ap (λ (g : Found). g.pattern) e, ap (λ (g : Found). Some g.stem) (sym e))
  offer_own true i k (Some m) f (inr h) = absurd h
  offer_own true i k None f h = absurd h
  offer_own false i k (Some m) f h = absurd h
  offer_own false i k None f h = absurd h

  of_rule : (k i : ℕ) (r : Rule) (ps : List (List ℕ)) (n : ℕ) (stem : List ℕ) → offered_at r ps n ≡ Some stem → Contained (record { rule = i; pattern = k + n; stem = stem }) (all_of k i r ps)
  of_rule k i r [] n stem e = absurd (none_there (applies rules tree cwd r None) stem e)
    where
      none_there : (a : Bool) (stem : List ℕ) → cond a None None ≡ Some stem → ⊥
      none_there true stem e = cc
      none_there false stem e = cc
  of_rule k i r (p ∷ ps) zero stem e = subst (λ n. Contained (record { rule = i; pattern = n; stem = stem }) (all_of k i r (p ∷ ps))) (sym (add-zero k))
      (in_front _ _ (all_of (k + 1) i r ps) (own_offer (applies rules tree cwd r (match_of p target)) i k (match_of p target) stem e))
  of_rule k i r (p ∷ ps) (suc n) stem e = in_back _ (candidate_by (applies rules tree cwd r (match_of p target)) i k (match_of p target)) _
      (subst (λ n. Contained (record { rule = i; pattern = n; stem = stem }) (all_of (k + 1) i r ps)) (let s : k + 1 + n ≡ k + suc n = omega arith in s) (of_rule (k + 1) i r ps n stem e))

  rule_of : (k i : ℕ) (r : Rule) (ps : List (List ℕ)) (f : Found) → Contained f (all_of k i r ps) → (n : ℕ) × (f.rule ≡ i) × (f.pattern ≡ k + n) × (offered_at r ps n ≡ Some f.stem)
  rule_of k i r [] f h = absurd h
  rule_of k i r (p ∷ ps) f h = elim (in_either f (candidate_by (applies rules tree cwd r (match_of p target)) i k (match_of p target)) (all_of (k + 1) i r ps) h) [
    | inl own ↦ let is = offer_own (applies rules tree cwd r (match_of p target)) i k (match_of p target) f own in (0, is.0, is.1 ∙ sym (add-zero k), is.2)
    | inr rest ↦ let more = rule_of (k + 1) i r ps f rest in (suc more.0, more.1, (let e : f.pattern ≡ k + suc more.0 = omega (arith, more.2) in e), more.3)
  ]

  pub offered_is : (i : ℕ) (patterns : List Rule) (j k : ℕ) (stem : List ℕ) → offered rules patterns tree cwd target j k ≡ Some stem → Contained (record { rule = i + j; pattern = k; stem = stem }) (all_from i patterns)
  offered_is i [] j k stem e = absurd cc
  offered_is i (r ∷ patterns) zero k stem e = subst (λ n. Contained (record { rule = n; pattern = k; stem = stem }) (all_from i (r ∷ patterns))) (sym (add-zero i))
      (in_front _ _ (all_from (i + 1) patterns) (subst (λ n. Contained (record { rule = i; pattern = n; stem = stem }) (all_of 0 i r r.targets)) (zero-add k) (of_rule 0 i r r.targets k stem e)))
  offered_is i (r ∷ patterns) (suc j) k stem e = in_back _ (all_of 0 i r r.targets) _
      (subst (λ n. Contained (record { rule = n; pattern = k; stem = stem }) (all_from (i + 1) patterns)) (let s : i + 1 + j ≡ i + suc j = omega arith in s) (offered_is (i + 1) patterns j k stem e))

  pub is_offered : (i : ℕ) (patterns : List Rule) (f : Found) → Contained f (all_from i patterns) → (j : ℕ) × (f.rule ≡ i + j) × (offered rules patterns tree cwd target j f.pattern ≡ Some f.stem)
  is_offered i [] f h = absurd h
  is_offered i (r ∷ patterns) f h = elim (in_either f (all_of 0 i r r.targets) (all_from (i + 1) patterns) h) [
    | inl own ↦ let is = rule_of 0 i r r.targets f own in
        (0, is.1 ∙ sym (add-zero i), subst (λ n. offered_at r r.targets n ≡ Some f.stem) (sym (is.2 ∙ zero-add is.0)) is.3)
    | inr rest ↦ let more = is_offered (i + 1) patterns f rest in (suc more.0, (let e : f.rule ≡ i + suc more.0 = omega (arith, more.1) in e), more.2)
  ]

-- ---- the first of the shortest

-- the one is of an earlier rule, or it is of the same rule and not of a later pattern
abbrev pub Before : Found → Found → Type 0
Before f g = (f.rule < g.rule) ⊎ ((f.rule ≡ g.rule) × (f.pattern ≤ g.pattern))

-- of two the shorter wins, of equal ones the one that stands before
abbrev pub Wins : Found → Found → Type 0
Wins f g = (length f.stem < length g.stem) ⊎ ((length f.stem ≡ length g.stem) × Before f g)

before_both : (f g h : Found) → Before f g → Before g h → Before f h
before_both f g h (inl a) (inl b) = inl (omega arith)
before_both f g h (inl a) (inr b) = inl (omega (arith, b.0))
before_both f g h (inr a) (inl b) = inl (omega (arith, a.0))
before_both f g h (inr a) (inr b) = inr (a.0 ∙ b.0, omega (arith, a.1, b.1))

-- each stands before those behind it
abbrev pub InOrder : List Found → Type 0
InOrder [] = Unit {0}
InOrder (f ∷ fs) = ((g : Found) → Contained g fs → Before f g) × InOrder fs

order_joined : (fs gs : List Found) → InOrder fs → InOrder gs → ((f g : Found) → Contained f fs → Contained g gs → Before f g) → InOrder (fs ++ gs)
order_joined [] gs a b h = b
order_joined (f ∷ fs) gs a b h = (
  (λ g is. elim (in_either g fs gs is) [ inl front ↦ a.0 g front | inr back ↦ h f g (inl refl) back ]),
  order_joined fs gs a.1 b (λ x y i j. h x y (inr i) j),
)

pub record Best (f : Found) (best : Option Found) (fs : List Found) : Type 0 where
  pub from : (best ≡ Some f) ⊎ Contained f fs
  pub over : (b : Found) → best ≡ Some b → Wins f b
  pub all : (g : Found) → Contained g fs → Wins f g

own_wins : (f : Found) → Wins f f
own_wins f = inr (refl, inr (refl, omega arith))

same_found : (f g : Found) → Some f ≡ Some g → f ≡ g
same_found f g e = cc

any_of : (f g : Found) (gs : List Found) → Best f (Some g) gs → (h : Found) → Contained h (g ∷ gs) → Wins f h
any_of f g gs best h (inl is) = subst (Wins f) (sym is) (best.over g refl)
any_of f g gs best h (inr there) = best.all h there

one_of : (f g : Found) (gs : List Found) → (Some g ≡ Some f) ⊎ Contained f gs → Contained f (g ∷ gs)
one_of f g gs (inl is) = inl (same_found f g (sym is))
one_of f g gs (inr there) = inr there

-- it wins against what its winner wins against
wins_longer : (f g b : Found) → Wins f g → length g.stem < length b.stem → Wins f b
wins_longer f g b (inl less) longer = inl (omega arith)
wins_longer f g b (inr same) longer = inl (omega (arith, same.0))

wins_later : (f b g : Found) → Wins f b → length b.stem ≤ length g.stem → Before b g → Wins f g
wins_later f b g (inl less) longer later = inl (omega arith)
wins_later f b g (inr same) longer later = by_cases (ltb (length b.stem) (length g.stem)) (λ t. ltb (length b.stem) (length g.stem) ≡ t → Wins f g)
    (λ _ is. inl (let lt : length b.stem < length g.stem = ltb-true _ _ is in omega (arith, same.0)))
    (λ _ isnt. let le : length g.stem ≤ length b.stem = ltb-false _ _ isnt in inr ((let e : length f.stem ≡ length g.stem = omega (arith, same.0) in e), before_both f b g same.1 later)) refl

pub best_is : (fs : List Found) (best : Option Found) (f : Found) → fold shorter best fs ≡ Some f → InOrder fs → ((b g : Found) → best ≡ Some b → Contained g fs → Before b g) → Best f best fs
best_is [] best f e order low = record {
  from = inl e;
  over = λ b is. subst (Wins f) (same_found f b (sym e ∙ is)) (own_wins f);
  all = λ g h. absurd h;
}
best_is (g ∷ gs) None f e order low =
    let rest = best_is gs (Some g) f e order.1 (λ b h is there. subst (λ (c : Found). Before c h) (same_found g b is) (order.0 h there)) in
    record {
      from = inr (one_of f g gs rest.from);
      over = λ b is. absurd (let bad : None ≡ Some b = is in cc);
      all = any_of f g gs rest;
    }
best_is (g ∷ gs) (Some b) f e order low = by_cases (ltb (length g.stem) (length b.stem))
    (λ t. ltb (length g.stem) (length b.stem) ≡ t → fold shorter (cond t (Some g) (Some b)) gs ≡ Some f → Best f (Some b) (g ∷ gs))
    (λ _ is more.
    let shorter : length g.stem < length b.stem = ltb-true _ _ is in
    let rest = best_is gs (Some g) f more order.1 (λ b h is there. subst (λ (c : Found). Before c h) (same_found g b is) (order.0 h there)) in
    record {
      from = inr (one_of f g gs rest.from);
      over = λ c is. subst (Wins f) (same_found b c is) (wins_longer f g b (rest.over g refl) shorter);
      all = any_of f g gs rest;
    })
    (λ _ isnt more.
    let longer : length b.stem ≤ length g.stem = ltb-false _ _ isnt in
    let rest = best_is gs (Some b) f more order.1 (λ c h is there. low c h is (inr there)) in
    record {
      from = elim rest.from [ inl is ↦ inl is | inr there ↦ inr (inr there) ];
      over = rest.over;
      all = later_too f b g gs rest longer (low b g refl (inl refl));
    }) refl e
  where
    later_too : (f b g : Found) (gs : List Found) → Best f (Some b) gs → length b.stem ≤ length g.stem → Before b g → (h : Found) → Contained h (g ∷ gs) → Wins f h
    later_too f b g gs rest longer later h (inl is) = subst (Wins f) (sym is) (wins_later f b g (rest.over b refl) longer later)
    later_too f b g gs rest longer later h (inr there) = rest.all h there

some_stays : (fs : List Found) (b : Found) → fold shorter (Some b) fs ≡ None → ⊥
some_stays [] b e = cc
some_stays (g ∷ gs) b e = by_cases (ltb (length g.stem) (length b.stem)) (λ t. fold shorter (cond t (Some g) (Some b)) gs ≡ None → ⊥)
    (λ _ more. some_stays gs g more)
    (λ _ more. some_stays gs b more) e

none_left : (fs : List Found) → fold shorter None fs ≡ None → (g : Found) → Contained g fs → ⊥
none_left [] e g h = h
none_left (f ∷ fs) e g h = some_stays fs f e

-- ---- together

module _ (rules : List Rule) (tree : Table) (cwd target : List ℕ) where
  own_in_order : (a : Bool) (i k : ℕ) (m : Option (List ℕ × List ℕ)) → InOrder (candidate_by a i k m)
  own_in_order true i k (Some m) = ((λ g h. absurd h), tt)
  own_in_order true i k None = tt
  own_in_order false i k (Some m) = tt
  own_in_order false i k None = tt

  of_in_order : (k i : ℕ) (r : Rule) (ps : List (List ℕ)) → InOrder (all_of rules tree cwd target k i r ps)
  of_in_order k i r [] = tt
  of_in_order k i r (p ∷ ps) = order_joined (candidate_by (applies rules tree cwd r (match_of p target)) i k (match_of p target)) (all_of rules tree cwd target (k + 1) i r ps)
      (own_in_order (applies rules tree cwd r (match_of p target)) i k (match_of p target)) (of_in_order (k + 1) i r ps)
      (λ f g a b. let x = offer_own rules tree cwd target (applies rules tree cwd r (match_of p target)) i k (match_of p target) f a in
      let y = rule_of rules tree cwd target (k + 1) i r ps g b in
      inr (x.0 ∙ sym y.1, (let l : f.pattern ≤ g.pattern = omega (arith, x.1, y.2) in l)))

  all_in_order : (i : ℕ) (patterns : List Rule) → InOrder (all_from rules tree cwd target i patterns)
  all_in_order i [] = tt
  all_in_order i (r ∷ patterns) = order_joined (all_of rules tree cwd target 0 i r r.targets) (all_from rules tree cwd target (i + 1) patterns) (of_in_order 0 i r r.targets) (all_in_order (i + 1) patterns)
      (λ f g a b. let x = rule_of rules tree cwd target 0 i r r.targets f a in
      let y = is_offered rules tree cwd target (i + 1) patterns g b in
      inl (let l : f.rule < g.rule = omega (arith, x.1, y.1) in l))

  best_of : (patterns : List Rule) (f : Found) → found rules patterns tree cwd target ≡ Some f → Best f None (all_from rules tree cwd target 0 patterns)
  best_of patterns f e = best_is (all_from rules tree cwd target 0 patterns) None f e (all_in_order 0 patterns) (λ b g is _. absurd (let bad : None ≡ Some b = is in cc))

  pub chosen : (patterns : List Rule) (f : Found) → found rules patterns tree cwd target ≡ Some f → offered rules patterns tree cwd target f.rule f.pattern ≡ Some f.stem
  chosen patterns f e = elim (best_of patterns f e).from [
    | inl none ↦ absurd (let bad : None ≡ Some f = none in cc)
    | inr there ↦ let j = is_offered rules tree cwd target 0 patterns f there in
        subst (λ k. offered rules patterns tree cwd target k f.pattern ≡ Some f.stem) (sym (j.1 ∙ zero-add j.0)) j.2
  ]

  pub best : (patterns : List Rule) (f : Found) → found rules patterns tree cwd target ≡ Some f → (j k : ℕ) (stem : List ℕ) → offered rules patterns tree cwd target j k ≡ Some stem
      → (length f.stem < length stem) ⊎ ((length f.stem ≡ length stem) × ((f.rule < j) ⊎ ((f.rule ≡ j) × (f.pattern ≤ k))))
  best patterns f e j k stem is = subst (λ n. (length f.stem < length stem) ⊎ ((length f.stem ≡ length stem) × ((f.rule < n) ⊎ ((f.rule ≡ n) × (f.pattern ≤ k))))) (zero-add j)
      ((best_of patterns f e).all (record { rule = 0 + j; pattern = k; stem = stem }) (offered_is rules tree cwd target 0 patterns j k stem is))

  pub none : (patterns : List Rule) → found rules patterns tree cwd target ≡ None → (j k : ℕ) → offered rules patterns tree cwd target j k ≡ None
  none patterns e j k = is_none (offered rules patterns tree cwd target j k) (λ stem is. none_left (all_from rules tree cwd target 0 patterns) e _ (offered_is rules tree cwd target 0 patterns j k stem is))
    where
      is_none : (o : Option (List ℕ)) → ((stem : List ℕ) → o ≡ Some stem → ⊥) → o ≡ None
      is_none None h = refl
      is_none (Some stem) h = absurd (h stem refl)
