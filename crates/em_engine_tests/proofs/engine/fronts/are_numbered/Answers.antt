use Rattle.std.proofs.Common.{◌≡◌, arith, sym, subst, slice_get, inl, inr, Option}
use Rattle.std.specs.Prelude.{IfSome}
use Rattle.std.proofs.lemmas.Bool.{cases_lt}
use Rattle.std.proofs.lemmas.Option.{slice_get_past}
use Rattle.em_engine_tests.specs.declared.engine.marks.Mark.{Mark}
use Rattle.em_engine_tests.proofs.engine.fronts.are_numbered.Goals as goal

pub returns : goal.returns
returns c = λ _ k.
    let P : Option Mark → Type 0 = λ o. IfSome o (λ m. m.job ≡ k) in
    elim (cases_lt k c.loop-i.i) as (λ _. P (slice_get c.args.specs.now k)) [
      | inl lt ↦ c.loop-i.invariant k lt
      | inr ge ↦ subst P (sym (slice_get_past c.args.specs.now k (omega (arith, ge, c.loop-i-test.false)))) tt
    ]
