-- The code's calls for a name's next unit come to the first of the units that are asked for.
--     offers_want, offers_stop      memory was short; a refusal
--     double_result, none_offers, single_offers, single_stops      a double-colon rule's unit; none; a name's one unit; a refusal
--     first_offered, none_offered      what was offered, as a list
use Rattle.std.proofs.Common.{◌≡◌, ◌∙◌, refl, sym, subst, ℕ, ◌<◌, Bool, true, false, List, [], ◌∷◌, Option, Some, None, Result, Ok, Err, slice_get, option_map}
use Rattle.std.specs.Prelude.{IfOk, IfErr, IsErrAnd}
use Rattle.em_rules.specs.Rules.{numbers_of as rules_of}
use Rattle.em_rules.specs.Groups.{is_double}
use Rattle.em_view.specs.declared.no.DeskNo.{DeskNo}
use Rattle.em_view.specs.declared.no.DeskNo.TheVariants as desk
use Rattle.em_implicit.specs.Asking.{Asking, Had, Asks, Follows, Here, Stops, Lacks}
use Rattle.em_implicit.proofs.Following.{first, leave_asked}
use Rattle.em_plan.specs.declared.making.Making.{Making}
use Rattle.em_plan.specs.declared.making.RuleContext.{RuleContext}
use Rattle.em_plan.specs.Makings.{double_unit}
use Rattle.em_plan.specs.Walking.{single, unit_asking, asks_for, Offers}
use Rattle.em_plan.proofs.Sought.{next_double, next_none, next_single}

module _ {T : Type 0} (asks : Asks T) where
  pub offers_stop : {a b : T} {x : Asking (List Making)} (r : Result (Option Making) DeskNo) (d : DeskNo) → IsErrAnd r (λ e. e ≡ d) → Stops asks a b d x → Offers asks a b r x
  offers_stop (Ok o) d is h = absurd is
  offers_stop {a} {b} {x} (Err e) d is h = subst (λ (k : DeskNo). Stops asks a b k x) (sym is) h

  pub offers_want : (a : T) (x : Asking (List Making)) (r : Result (Option Making) DeskNo) → IsErrAnd r (λ e. e ≡ desk.NoMemory) → Offers asks a a r x
  offers_want a x r is = offers_stop r desk.NoMemory is (Lacks a x)

  module _ (m : RuleContext) (known : List ℕ → Bool) (n : List ℕ) (place : ℕ) where
    double_offers : is_double m.book.now.rules n ≡ true → (a : T) (o : Option Making) → o ≡ option_map (double_unit m.book.now.rules n) (slice_get (rules_of m.book.now.rules n) place) → Offers asks a a (Ok o) (asks_for m known n place)
    unfolding asks_for
    double_offers e a o is =
        let d = next_double m.book.now.rules m.book.now.patterns m.cwd.now known n place e in
        (d.0, d.1 ∙ sym is, subst (λ (x : Asking (List Making)). Follows asks a a x (Had d.0)) (sym d.2) (Here a (Had d.0)))

    pub double_result : is_double m.book.now.rules n ≡ true → (a : T) (r : Result (Option Making) DeskNo) → IfOk r (λ o. o ≡ option_map (double_unit m.book.now.rules n) (slice_get (rules_of m.book.now.rules n) place)) → IfErr r (λ e. e ≡ desk.NoMemory)
        → Offers asks a a r (asks_for m known n place)
    double_result e a (Ok o) is only = double_offers e a o is
    double_result e a (Err d) is only = offers_want a _ (Err d) only

    pub none_offers : is_double m.book.now.rules n ≡ false → 0 < place → (a : T) → Offers asks a a (Ok None) (asks_for m known n place)
    unfolding asks_for
    none_offers e some a = ([], refl, subst (λ (x : Asking (List Making)). Follows asks a a x (Had [])) (sym (next_none m.book.now.rules m.book.now.patterns m.cwd.now known n place e some)) (Here a (Had [])))

    pub single_offers : is_double m.book.now.rules n ≡ false → place ≡ 0 → {a b : T} (u : Making) → Follows asks a b (unit_asking m.book.now.rules m.book.now.patterns m.cwd.now known n) (Had u) → Offers asks a b (Ok (Some u)) (asks_for m known n place)
    unfolding asks_for
    single_offers e none {a} {b} u h = (u ∷ [], refl, subst (λ (x : Asking (List Making)). Follows asks a b x (Had (u ∷ []))) (sym (next_single m.book.now.rules m.book.now.patterns m.cwd.now known n place e none)) (first single h))

    pub single_stops : is_double m.book.now.rules n ≡ false → place ≡ 0 → {a b : T} (r : Result (Option Making) DeskNo) (d : DeskNo) → IsErrAnd r (λ x. x ≡ d) → Stops asks a b d (unit_asking m.book.now.rules m.book.now.patterns m.cwd.now known n) → Offers asks a b r (asks_for m known n place)
    unfolding asks_for
    single_stops e none {a} {b} r d is h = offers_stop r d is (subst (λ (x : Asking (List Making)). Stops asks a b d x) (sym (next_single m.book.now.rules m.book.now.patterns m.cwd.now known n place e none)) (leave_asked single (Err d) refl h))

  module _ (a b : T) (x : Asking (List Making)) where
    pub first_offered : (r : Result (Option Making) DeskNo) (u : Making) → r ≡ Ok (Some u) → Offers asks a b r x → (us : List Making) × Follows asks a b x (Had (u ∷ us))
    first_offered (Err e) u is h = absurd (let bad : Err e ≡ Ok (Some u) = is in cc)
    first_offered (Ok o) u is (ms, at, f) = by ms (at ∙ (let s : o ≡ Some u = cc in s)) f
      where
        by : (ms : List Making) → slice_get ms 0 ≡ Some u → Follows asks a b x (Had ms) → (us : List Making) × Follows asks a b x (Had (u ∷ us))
        by [] at f = absurd (let bad : None ≡ Some u = at in cc)
        by (y ∷ us) at f = (us, subst (λ (z : Making). Follows asks a b x (Had (z ∷ us))) (let s : y ≡ u = cc in s) f)

    pub none_offered : (r : Result (Option Making) DeskNo) → r ≡ Ok None → Offers asks a b r x → Follows asks a b x (Had [])
    none_offered (Err e) is h = absurd (let bad : Err e ≡ Ok None = is in cc)
    none_offered (Ok o) is (ms, at, f) = by ms (at ∙ (let s : o ≡ None = cc in s)) f
      where
        by : (ms : List Making) → slice_get ms 0 ≡ None → Follows asks a b x (Had ms) → Follows asks a b x (Had [])
        by [] at f = f
        by (y ∷ us) at f = absurd (let bad : Some y ≡ None = at in cc)
