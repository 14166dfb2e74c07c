use Rattle.std.proofs.Common.{◌≡◌, ◌∙◌, ℕ, zero, suc, ◌-◌, ◌≤◌, ◌++◌, ◌∷◌, [], List, take, length, ap, subst, refl, arith, append_assoc, replicate}
use Rattle.std.specs.Result.{OnOk}
use Rattle.em_lineutil.specs.Runs.{in_seven}
use Rattle.em_lineutil.proofs.uniq.add_in_seven.Goals as goal

taken : (n : ℕ) → n ≤ 7 → take {A = ℕ} n (32 ∷ 32 ∷ 32 ∷ 32 ∷ 32 ∷ 32 ∷ 32 ∷ []) ≡ replicate n 32
taken zero le = refl
taken (suc zero) le = refl
taken (suc (suc zero)) le = refl
taken (suc (suc (suc zero))) le = refl
taken (suc (suc (suc (suc zero)))) le = refl
taken (suc (suc (suc (suc (suc zero))))) le = refl
taken (suc (suc (suc (suc (suc (suc zero)))))) le = refl
taken (suc (suc (suc (suc (suc (suc (suc zero))))))) le = refl
taken (suc (suc (suc (suc (suc (suc (suc (suc n)))))))) le = absurd (omega arith)

pub returns : goal.returns
returns c =
    let digits = c.args.digits.now in
    let short : 7 - c.min.result ≡ 7 - length digits = omega (arith, c.min.ensures) in
    let spaces = c.in_ok-add.ensures.ok ∙ ap (λ s. c.args.out.now ++ s) (taken (7 - c.min.result) (omega arith) ∙ ap (λ n. replicate n 32) short) in
    subst (λ (t : List ℕ). OnOk c.add-2.result (c.add-2.new.self ≡ t)) (ap (λ t. t ++ digits) spaces ∙ append_assoc c.args.out.now (replicate (7 - length digits) 32) digits) c.add-2.ensures.ok
