-- What a host over memory is seen as.
--     Memory           what it tells, its faults, and which of its calls fail
--     number_of o      the number of the next call
use Rattle.std.specs.Prelude.{ℕ, ◌+◌, ◌-◌, ◌^◌, min, Bool, List, [], length, false, refl}
use Rattle.std.specs.Coded.{Coded, code_by, coded×, coded_ℕ, coded_bool, coded_list}
use Rattle.std.specs.FinMap as map
use Rattle.em_host.specs.contracts.call.Called as called
use Rattle.em_host.specs.declared.call.Called.{Called}
use Rattle.em_host.specs.Outside.{Outside, Files}

-- failing: the numbers of the calls that fail
pub record Memory : Type 0 where
  pub outside : Outside
  pub faults : ℕ
  pub failing : List ℕ

-- how many calls were noted or lost before it, up to 2^64 - 1
abbrev pub number_of : Outside → ℕ
number_of o = min (length o.calls + o.lost) (2 ^ 64 - 1)

-- no file, nothing printed, and no call made
abbrev pub nothing : Memory
nothing = record { outside = record { files = map.empty; printed = []; calls = []; lost = 0; failed = false }; faults = 0; failing = [] }

-- a memory whose files alone are others
abbrev pub with_files : Memory → Files → Memory
with_files m files = record m { outside = record m.outside { files = files } }

abbrev pub outside_code : Coded Outside
outside_code =
    code_by (Files × (List ℕ × (List Called × (ℕ × Bool))))
    (coded× (map.code (coded_list coded_ℕ) (coded_list coded_ℕ)) (coded× (coded_list coded_ℕ) (coded× (coded_list called.the_row.coded) (coded× coded_ℕ coded_bool))))
    (λ o. (o.files, (o.printed, (o.calls, (o.lost, o.failed))))) (λ p. record { files = p.0; printed = p.1.0; calls = p.1.1.0; lost = p.1.1.1.0; failed = p.1.1.1.1 }) (λ _. refl)

abbrev pub memory_code : Coded Memory
memory_code =
    code_by (Outside × (ℕ × List ℕ)) (coded× outside_code (coded× coded_ℕ (coded_list coded_ℕ)))
    (λ m. (m.outside, (m.faults, m.failing))) (λ p. record { outside = p.0; faults = p.1.0; failing = p.1.1 }) (λ _. refl)
