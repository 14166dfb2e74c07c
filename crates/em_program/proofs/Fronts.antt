-- Jobs that have run so in the serial run are a front of it, where each makes one thing of a state.
use Rattle.std.proofs.Common.{◌≡◌, ℕ, suc, Bool, true, false, ◌||◌, List, [], ◌∷◌, length, take, refl, sym, ap, subst, ◌∙◌, arith}
use Rattle.em_tree.specs.declared.outcome.Outcome.{Outcome}
use Rattle.em_tree.specs.declared.state.State.{State}
use Rattle.em_view.specs.declared.effect.Effect.{Effect}
use Rattle.em_view.specs.Serial.{after}
use Rattle.em_run.specs.Serial.{Made, Ran, is_early, IsSerial, IsOne}

suc-same : {a b : ℕ} → suc a ≡ suc b → a ≡ b
suc-same e = omega arith

same_made : {m n : Made} → (m.effect ≡ n.effect) × (m.fuel ≡ n.fuel) → m ≡ n
same_made e = λ i. record { effect = e.0 i; fuel = e.1 i }

module _ {J : Type 0} (makes : J → State → Effect → ℕ → Type 0) (ends : J → Outcome → Bool) (one : IsOne makes) where
  pub front_of : (s : State) (jobs : List J) (a b : List Made) → Ran makes ends s jobs a → IsSerial makes ends s jobs b → a ≡ take (length a) b
  front_of s jobs [] b ran whole = refl
  front_of s [] (x ∷ xs) b ran whole = absurd ran
  front_of s (j ∷ js) (x ∷ xs) [] ran whole = let no : 0 ≡ suc (length js) = whole.whole refl in absurd (cc)
  front_of s (j ∷ js) (x ∷ xs) (y ∷ ys) ran whole = by_end (ends j x.effect.outcome) refl (front_of (after x.effect s) js xs ys)
    where
      same : x ≡ y
      same = same_made (one j s x.effect y.effect x.fuel y.fuel ran.0 whole.ran.0)

      by_end : (c : Bool) → ends j x.effect.outcome ≡ c → (Ran makes ends (after x.effect s) js xs → IsSerial makes ends (after x.effect s) js ys → xs ≡ take (length xs) ys) → x ∷ xs ≡ y ∷ take (length xs) ys
      by_end true e more = let none : xs ≡ [] = ran.1.0 e in λ i. same i ∷ (none ∙ sym (ap (λ (zs : List Made). take (length zs) ys) none)) i
      by_end false e more =
          let f : ends j y.effect.outcome ≡ false = ap (λ (m : Made). ends j m.effect.outcome) (sym same) ∙ e in
          let rest = more ran.1.1 (subst (λ (m : Made). IsSerial makes ends (after m.effect s) js ys) (sym same) (record {
            ran = whole.ran.1.1;
            whole = λ (early : is_early makes ends js ys ≡ false). suc-same (whole.whole (ap (λ (b : Bool). b || is_early makes ends js ys) f ∙ early));
          })) in λ i. same i ∷ rest i
