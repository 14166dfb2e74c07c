use Rattle.std.proofs.Common.{◌∙◌, sym, subst, arith, ◌≤◌, ℕ}
use Rattle.std.proofs.lemmas.Bool.{leb-true}
use Rattle.em_path.proofs.Spelling.{path_answer}
use Rattle.em_path.proofs.name.is_path.Goals as goal
use Rattle.em_path.proofs.name.is_path.Goals.{then-text-le1024, else-text-le1024}

pub returns-then-count_parts-le64 : goal.returns-then-count_parts-le64
returns-then-count_parts-le64 c =
    let read = c.in-Some-eq47-default in
    elim c.if-text-le1024.branch [
      | then-text-le1024 w ↦
          let deep = leb-true _ _ (sym w.value-is ∙ c.if-count_parts-le64.true) in
          path_answer _ _ _ read.ensures.cases.0 read.field-0-0-test read.len_at_least w.if-text-le1024.true (subst (λ (n : ℕ). n ≤ 64) w.count_parts.ensures deep) _ c.are_components.ensures
      | else-text-le1024 w ↦
          let long = leb-true _ _ (sym w.value-is ∙ c.if-count_parts-le64.true) in absurd (omega arith)
    ]
