-- The smallest steps of a desk.
use Rattle.std.proofs.Common.{◌≡◌, ℕ, ◌+◌, ◌-◌, ◌<◌, ◌≤◌, Bool, true, false, cond, nat_lt, List, Result, Ok, Err, refl, sym, ap, subst, ◌∙◌, arith, min, ◌^◌, ◌⊎◌, inl, inr}
use borrow.Author.Tests.{ltb-true, ltb-false}
use Rattle.std.proofs.lemmas.Bool.Decides.{nat_tests}
use Rattle.em_tree.specs.declared.question.Entry.{Entry}
use Rattle.em_tree.specs.Trees.{Changes}
use Rattle.em_view.specs.declared.no.DeskNo.{DeskNo}
use Rattle.em_view.specs.declared.no.DeskNo.TheVariants as no
use Rattle.em_view.specs.Actions.{Workspace, ready, spend, taken}
use Rattle.em_view.specs.Performs.{DeskState, Told, Performs}
use Rattle.em_view.specs.Held.{Fits, NamesPaths, IsSound}
use Rattle.em_view.specs.Rows.{is_memory, blocks}
use Rattle.em_view.proofs.Performing.{IsSameJob, act, pure}

lower : (m n : ℕ) → m < n → nat_lt m n ≡ true
lower m n h = grind (arith, nat_tests)

not_lower : (m n : ℕ) → n ≤ m → nat_lt m n ≡ false
not_lower m n h = grind (arith, nat_tests)

module _ {V : Type 0} {tells : V → Told} where
  pub not_ready : (d : DeskState V) → d.work.fuel < 1 → Performs is_memory tells d d (Err no.Spent) ready
  unfolding ready
  not_ready d h = pure (λ o. ap (λ b. let r : Result (Unit {0}) DeskNo = cond b (Err no.Spent) (Ok tt) in (r, d.work)) (lower d.work.fuel 1 h))

  pub is_ready : (d : DeskState V) → 1 ≤ d.work.fuel → Performs is_memory tells d d (Ok tt) ready
  unfolding ready
  is_ready d h = pure (λ o. ap (λ b. let r : Result (Unit {0}) DeskNo = cond b (Err no.Spent) (Ok tt) in (r, d.work)) (not_lower d.work.fuel 1 h))

  pub too_little : (d e : DeskState V) (n : ℕ) → e ≡ d → d.work.fuel < n → Performs is_memory tells d e (Err no.Spent) (spend n)
  unfolding spend
  too_little d e n same h =
      let p : Performs is_memory tells d d (Err no.Spent) (spend n)
      = pure (λ o. ap (λ b. let r : Result (Unit {0}) DeskNo × Workspace = cond b (Err no.Spent, d.work) (Ok tt, record d.work { fuel = d.work.fuel - n }) in r) (lower d.work.fuel n h)) in
      subst (λ (x : DeskState V). Performs is_memory tells d x (Err no.Spent) (spend n)) (sym same) p

  pub enough : (d e : DeskState V) (n : ℕ) → e ≡ record d { work = record d.work { fuel = e.work.fuel } } → e.work.fuel + n ≡ d.work.fuel → Performs is_memory tells d e (Ok tt) (spend n)
  unfolding spend
  enough d e n same h =
      let fuel : d.work.fuel - n ≡ e.work.fuel = omega arith in
      act (ap (λ (x : DeskState V). x.usage) same) (ap (λ (x : DeskState V). x.view) same) (subst (λ (w : Workspace). IsSameJob d.work w) (sym (ap (λ (x : DeskState V). x.work) same)) (record { base = refl; job = refl; given = refl; asked = refl })) (omega arith)
      (λ u o. ap (λ b. let r : Result (Unit {0}) DeskNo × Workspace = cond b (Err no.Spent, d.work) (Ok tt, record d.work { fuel = d.work.fuel - n }) in r) (not_lower d.work.fuel n (omega arith))
      ∙ ap (λ (f : ℕ). let r : Result (Unit {0}) DeskNo × Workspace = (Ok tt, record d.work { fuel = f }) in r) fuel
      ∙ ap (λ (w : Workspace). let r : Result (Unit {0}) DeskNo × Workspace = (Ok tt, w) in r) (sym (ap (λ (x : DeskState V). x.work) same)))

  -- two numbers above what is left are spent alike
  pub spend_alike : (d e : DeskState V) {r : Result (Unit {0}) DeskNo} (m n : ℕ) → (m ≡ n) ⊎ ((d.work.fuel < m) × (d.work.fuel < n)) → Performs is_memory tells d e r (spend m) → Performs is_memory tells d e r (spend n)
  unfolding spend
  spend_alike d e {r} m n (inl same) p = subst (λ k. Performs is_memory tells d e r (spend k)) same p
  spend_alike d e {r} m n (inr above) p = record { grows = p.grows; plain = λ h o all. short n above.1 ∙ sym (short m above.0) ∙ p.plain h o all }
    where
      short : (k : ℕ) → d.work.fuel < k → taken k d.work ≡ (Err no.Spent, d.work)
      short k l = ap (λ b. let x : Result (Unit {0}) DeskNo × Workspace = cond b (Err no.Spent, d.work) (Ok tt, record d.work { fuel = d.work.fuel - k }) in x) (lower d.work.fuel k l)

-- a size that is capped costs as the size itself, where little is left
pub capped_cost : (fuel size most : ℕ) → fuel ≤ 10000000 → most ≡ min size (2 ^ 64 - 1) → (blocks most ≡ blocks size) ⊎ ((fuel < blocks most) × (fuel < blocks size))
capped_cost fuel size most h e = by_case (nat_lt (2 ^ 64 - 1) size) refl
  where
    by_case : (b : Bool) → nat_lt (2 ^ 64 - 1) size ≡ b → (blocks most ≡ blocks size) ⊎ ((fuel < blocks most) × (fuel < blocks size))
    by_case true l = let above : 2 ^ 64 - 1 < size = ltb-true _ _ l in let is : most ≡ 2 ^ 64 - 1 = omega arith in inr (omega arith, omega arith)
    by_case false l = let below : size ≤ 2 ^ 64 - 1 = ltb-false _ _ l in let is : most ≡ size = omega arith in inl (ap blocks is)

-- the same with so many more
pub capped_more : (fuel size most n : ℕ) → fuel ≤ 10000000 → most ≡ min size (2 ^ 64 - 1) → (blocks most + n ≡ blocks size + n) ⊎ ((fuel < blocks most + n) × (fuel < blocks size + n))
capped_more fuel size most n h e = elim (capped_cost fuel size most h e) [
  | inl same ↦ inl (ap (λ k. k + n) same)
  | inr above ↦ inr (let a = above.0 in let b = above.1 in (omega arith, omega arith))
]

pub sound_changed : (greatest given fuel count : ℕ) (us : List Entry) (d e : Changes) → IsSound greatest given fuel count us d → count + 1 + fuel ≤ given → Fits us e → NamesPaths e → IsSound greatest given fuel (count + 1) us e
sound_changed greatest given fuel count us d e h room fits paths = record { base = h.base; small = h.small; room = room; fits = fits; paths = paths }
