-- The leader of some jobs: the greatest of their weights, and the least job that has it, unless
-- that weight is 0.
use Rattle.std.specs.Prelude.{ℕ, ◌==◌, nat_lt, ◌&&◌, Option, Some, None, if◌then◌else◌}
use Rattle.em_insight.specs.declared.lead.Lead.{Lead}

abbrev pub none : Lead
none = record { weight = 0; job = None }

abbrev pub lesser : Option ℕ → ℕ → ℕ → Lead → Lead
lesser None weight job lead = lead
lesser (Some least) weight job lead = if weight == lead.weight && nat_lt job least then record { weight = weight; job = Some job } else lead

-- with one job more
abbrev pub offered : Lead → ℕ → ℕ → Lead
offered lead weight job = if nat_lt lead.weight weight then record { weight = weight; job = Some job } else lesser lead.job weight job lead
