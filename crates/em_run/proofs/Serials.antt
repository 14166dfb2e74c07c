-- The serial run: one job more, and that it is the only one.
--     state_more          the state that one job more leaves
--     outputs_more        what it says behind the others
--     ran_more            the jobs that have run, and the next one, where none of them ended the run
--     is_early_more       then the run is ended exactly by the new one
--     only_run            where each job makes one thing of a state, the serial run is the only one
use Rattle.std.proofs.Common.{◌≡◌, ℕ, suc, zero, Bool, true, false, ◌||◌, List, [], ◌∷◌, ◌++◌, length, map, Some, None, refl, sym, ap, subst, ◌∙◌, arith}
use Rattle.std.specs.Prelude.{slice_get}
use Rattle.std.proofs.lemmas.Option.{same_Some}
use Rattle.em_tree.specs.declared.outcome.Outcome.{Outcome}
use Rattle.em_tree.specs.declared.state.State.{State}
use Rattle.em_view.specs.declared.effect.Effect.{Effect}
use Rattle.em_view.specs.Serial.{after}
use Rattle.em_run.specs.Serial.{Made, state_after, outputs_of, Ran, is_early, IsSerial, IsOne}

pub state_more : (s : State) (made : List Made) (m : Made) → state_after s (made ++ m ∷ []) ≡ after m.effect (state_after s made)
state_more s [] m = refl
state_more s (k ∷ ks) m = state_more (after k.effect s) ks m

pub outputs_more : (made : List Made) (m : Made) → outputs_of (made ++ m ∷ []) ≡ outputs_of made ++ m.effect.output ∷ []
outputs_more [] m = refl
outputs_more (k ∷ ks) m = ap (λ (os : List (List ℕ)). k.effect.output ∷ os) (outputs_more ks m)

or_first : (a b : Bool) → (a || b) ≡ false → a ≡ false
or_first true b e = e
or_first false b e = refl

or_second : (a b : Bool) → (a || b) ≡ false → b ≡ false
or_second true b e = absurd (cc)
or_second false b e = e

same_made : {m n : Made} → (m.effect ≡ n.effect) × (m.fuel ≡ n.fuel) → m ≡ n
same_made e = λ i. record { effect = e.0 i; fuel = e.1 i }

suc-same : {a b : ℕ} → suc a ≡ suc b → a ≡ b
suc-same e = omega arith

module _ {J : Type 0} (makes : J → State → Effect → ℕ → Type 0) (ends : J → Outcome → Bool) where
  pub ran_more : (s : State) (jobs : List J) (made : List Made) (j : J) (m : Made) → Ran makes ends s jobs made → is_early makes ends jobs made ≡ false
      → slice_get jobs (length made) ≡ Some j → makes j (state_after s made) m.effect m.fuel → Ran makes ends s jobs (made ++ m ∷ [])
  ran_more s [] [] j m ran early at it = absurd (cc)
  ran_more s (i ∷ is) [] j m ran early at it = (subst (λ (x : J). makes x s m.effect m.fuel) (sym (same_Some i j at)) it, ((λ _. refl), tt))
  ran_more s [] (k ∷ ks) j m ran early at it = ran
  ran_more s (i ∷ is) (k ∷ ks) j m ran early at it =
      let goes_on : ends i k.effect.outcome ≡ false = or_first (ends i k.effect.outcome) (is_early makes ends is ks) early in
      (ran.0, ((λ (ended : ends i k.effect.outcome ≡ true). absurd (cc)), ran_more (after k.effect s) is ks j m ran.1.1 (or_second (ends i k.effect.outcome) (is_early makes ends is ks) early) at it))

  pub is_early_more : (jobs : List J) (made : List Made) (j : J) (m : Made) → is_early makes ends jobs made ≡ false → slice_get jobs (length made) ≡ Some j
      → is_early makes ends jobs (made ++ m ∷ []) ≡ ends j m.effect.outcome
  is_early_more [] [] j m early at = absurd (cc)
  is_early_more (i ∷ is) [] j m early at = or_false (ends i m.effect.outcome) ∙ ap (λ (x : J). ends x m.effect.outcome) (same_Some i j at)
    where
      or_false : (a : Bool) → (a || is_early makes ends is []) ≡ a
      or_false true = refl
      or_false false = none is
        where
          none : (is : List J) → is_early makes ends is [] ≡ false
          none [] = refl
          none (x ∷ xs) = refl
  is_early_more [] (k ∷ ks) j m early at = absurd (cc)
  is_early_more (i ∷ is) (k ∷ ks) j m early at =
      ap (λ (b : Bool). b || is_early makes ends is (ks ++ m ∷ [])) (or_first (ends i k.effect.outcome) (is_early makes ends is ks) early)
      ∙ is_early_more is ks j m (or_second (ends i k.effect.outcome) (is_early makes ends is ks) early) at

  module _ (one : IsOne makes) where
    pub only_run : (s : State) (jobs : List J) (xs ys : List Made) → IsSerial makes ends s jobs xs → IsSerial makes ends s jobs ys → xs ≡ ys
    only_run s [] [] [] a b = refl
    only_run s [] [] (y ∷ ys) a b = absurd b.ran
    only_run s [] (x ∷ xs) ys a b = absurd a.ran
    only_run s (j ∷ js) [] ys a b = let no : 0 ≡ suc (length js) = a.whole refl in absurd (cc)
    only_run s (j ∷ js) (x ∷ xs) [] a b = let no : 0 ≡ suc (length js) = b.whole refl in absurd (cc)
    only_run s (j ∷ js) (x ∷ xs) (y ∷ ys) a b = by_end (ends j x.effect.outcome) refl (only_run (after x.effect s) js xs ys)
      where
        same : x ≡ y
        same = same_made (one j s x.effect y.effect x.fuel y.fuel a.ran.0 b.ran.0)

        by_end : (c : Bool) → ends j x.effect.outcome ≡ c → (IsSerial makes ends (after x.effect s) js xs → IsSerial makes ends (after x.effect s) js ys → xs ≡ ys) → x ∷ xs ≡ y ∷ ys
        by_end true e more = let xs_end : xs ≡ [] = a.ran.1.0 e in let ys_end : ys ≡ [] = b.ran.1.0 (ap (λ (m : Made). ends j m.effect.outcome) (sym same) ∙ e) in λ i. same i ∷ (xs_end ∙ sym ys_end) i
        by_end false e more =
            let f : ends j y.effect.outcome ≡ false = ap (λ (m : Made). ends j m.effect.outcome) (sym same) ∙ e in
            let rest : xs ≡ ys = more (rest_of x xs e a)
            (subst (λ (m : Made). IsSerial makes ends (after m.effect s) js ys) (sym same) (rest_of y ys f b)) in λ i. same i ∷ rest i
          where
            rest_of : (m : Made) (ms : List Made) → ends j m.effect.outcome ≡ false → IsSerial makes ends s (j ∷ js) (m ∷ ms) → IsSerial makes ends (after m.effect s) js ms
            rest_of m ms e c = record {
              ran = c.ran.1.1;
              whole = λ (early : is_early makes ends js ms ≡ false). suc-same (c.whole (ap (λ (b : Bool). b || is_early makes ends js ms) e ∙ early));
            }
