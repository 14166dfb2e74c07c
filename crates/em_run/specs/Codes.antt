-- How runs are told apart.
use Rattle.std.specs.Prelude.{ℕ, List, refl}
use Rattle.std.specs.Coded.{Coded, code_by, coded×, coded_ℕ, coded_list}
use Rattle.em_tree.specs.contracts.outcome.Outcome as outcome
use Rattle.em_tree.specs.contracts.question.Entry as entry
use Rattle.em_tree.specs.declared.outcome.Outcome.{Outcome}
use Rattle.em_tree.specs.declared.question.Entry.{Entry}
use Rattle.em_tree.specs.Trees.{Changes}
use Rattle.em_view.specs.Codes.{changes_code}
use Rattle.em_run.specs.declared.run.Parts.{Parts}

abbrev pub parts_code : {S : Type 0} → Coded S → Coded (Parts S)
parts_code {S} code = code_by (S × (List Entry × (Changes × (List ℕ × (Outcome × ℕ)))))
    (coded× code (coded× (coded_list entry.the_row.coded) (coded× changes_code (coded× (coded_list coded_ℕ) (coded× outcome.the_row.coded coded_ℕ)))))
    (λ r. (r.spec, (r.usage, (r.delta, (r.output, (r.outcome, r.fuel))))))
    (λ p. record { spec = p.0; usage = p.1.0; delta = p.1.1.0; output = p.1.1.1.0; outcome = p.1.1.1.1.0; fuel = p.1.1.1.1.1 })
    (λ _. refl)
