-- How workspaces and desks are told apart.
use Rattle.std.specs.Prelude.{ℕ, List, refl}
use Rattle.std.specs.Coded.{Coded, code_by, coded×, coded_ℕ, coded_list, coded_option}
use Rattle.std.specs.FinMap as map
use Rattle.em_tree.specs.contracts.node.Node as node
use Rattle.em_tree.specs.contracts.question.Question as question
use Rattle.em_tree.specs.contracts.question.Entry as entry
use Rattle.em_tree.specs.declared.question.Question.{Question}
use Rattle.em_tree.specs.declared.question.Entry.{Entry}
use Rattle.em_tree.specs.Trees.{Changes}
use Rattle.em_view.specs.Actions.{Workspace}
use Rattle.em_view.specs.Performs.{DeskState}

abbrev pub changes_code : Coded Changes
changes_code = map.code (coded_list coded_ℕ) (coded_option node.the_row.coded)

abbrev pub work_code : Coded Workspace
work_code = code_by (ℕ × (ℕ × (ℕ × (ℕ × (ℕ × (Changes × List Question))))))
    (coded× coded_ℕ (coded× coded_ℕ (coded× coded_ℕ (coded× coded_ℕ (coded× coded_ℕ (coded× changes_code (coded_list question.the_row.coded)))))))
    (λ w. (w.base, (w.job, (w.given, (w.fuel, (w.count, (w.changes, w.asked)))))))
    (λ p. record { base = p.0; job = p.1.0; given = p.1.1.0; fuel = p.1.1.1.0; count = p.1.1.1.1.0; changes = p.1.1.1.1.1.0; asked = p.1.1.1.1.1.1 })
    (λ _. refl)

abbrev pub desk_code : {V : Type 0} → Coded V → Coded (DeskState V)
desk_code {V} code = code_by (V × (List Entry × Workspace)) (coded× code (coded× (coded_list entry.the_row.coded) work_code))
    (λ d. (d.view, (d.usage, d.work))) (λ p. record { view = p.0; usage = p.1.0; work = p.1.1 }) (λ _. refl)
