-- How fronts are told apart.
use Rattle.std.specs.Prelude.{ℕ, Bool, List, refl}
use Rattle.std.specs.Coded.{Coded, code_by, coded×, coded_ℕ, coded_bool, coded_list}
use Rattle.em_tree.specs.declared.state.State.{State}
use Rattle.em_tree.specs.contracts.state.State as state
use Rattle.em_tree.specs.Trees.{Changes}
use Rattle.em_view.specs.Codes.{changes_code}
use Rattle.em_engine.specs.Fronts.{Standing}

abbrev pub standing_code : {S : Type 0} → Coded S → Coded (Standing S)
standing_code {S} code = code_by (State × (State × (List S × (Bool × (List ℕ × List Changes)))))
    (coded× state.the_row.coded (coded× state.the_row.coded (coded× (coded_list code)
    (coded× coded_bool (coded× (coded_list coded_ℕ) (coded_list changes_code))))))
    (λ v. (v.start, (v.state, (v.specs, (v.ended, (v.fuel, v.deltas))))))
    (λ p. record { start = p.0; state = p.1.0; specs = p.1.1.0; ended = p.1.1.1.0; fuel = p.1.1.1.1.0; deltas = p.1.1.1.1.1 })
    (λ _. refl)
