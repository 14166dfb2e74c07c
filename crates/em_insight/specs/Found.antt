-- What is found of a report, as functions of its lines: of all chains the one that is named, and
-- behind the slots that stand the first of all that can start.
--     path_of ls           the jobs of the critical path
--     slots_of ls n        the slots of list scheduling on n agents
use Rattle.std.specs.Prelude.{ℕ, zero, suc, ◌+◌, ◌==◌, nat_lt, nat_le, Bool, true, not, ◌||◌, ◌&&◌, List, [], ◌∷◌, ◌++◌, length, map, reverse, Option, Some, None, if◌then◌else◌}
use Rattle.std.specs.List.{filter, flat_map, list_any, list_all, range_with_len}
use Rattle.std.specs.Option.{option_map_or, unwrap_or}
use Rattle.em_report.specs.declared.report.ReportLine.{ReportLine}
use Rattle.em_insight.specs.declared.data.Slot.{Slot}
use Rattle.em_insight.specs.Jobs.{waits_at}
use Rattle.em_insight.specs.Chains.{is_before, weight}
use Rattle.em_insight.specs.Schedules.{end_of, span}

-- of one and perhaps another that which comes before
abbrev pub former : {A : Type 0} → (A → A → Bool) → A → Option A → A
former before x None = x
former before x (Some y) = if before y x then y else x

-- of all these the one that comes before the others, by a test of two
abbrev pub first_of : {A : Type 0} → (A → A → Bool) → List A → Option A
first_of before [] = None
first_of before (x ∷ xs) = Some (former before x (first_of before xs))

-- all rising lists of numbers below n
abbrev pub rising : ℕ → List (List ℕ)
rising zero = [] ∷ []
rising (suc n) = rising n ++ map (λ js. js ++ n ∷ []) (rising n)

module _ (ls : List ReportLine) where
  -- ---- the critical path

  -- whether IsChain
  abbrev pub is_chain : List ℕ → Bool
  is_chain [] = true
  is_chain (j ∷ []) = nat_lt j (length ls)
  is_chain (i ∷ j ∷ js) = nat_lt i j && list_any (λ w. w == i) (waits_at ls j) && is_chain (j ∷ js)

  abbrev pub chains : List (List ℕ)
  chains = filter is_chain (rising (length ls))

  -- it weighs more, or as much and comes before the other from its last job on
  abbrev pub is_ahead : List ℕ → List ℕ → Bool
  is_ahead js ks = nat_lt (weight ls ks) (weight ls js) || weight ls js == weight ls ks && is_before (reverse js) (reverse ks)

  -- there is one: the list without jobs is a chain
  unfoldable pub path_of : List ℕ
  path_of = unwrap_or (first_of is_ahead chains) []

  -- ---- list scheduling

  -- whether HasEnded
  abbrev pub has_ended : List Slot → ℕ → ℕ → Bool
  has_ended past moment job = list_any (λ s. s.job == job && nat_le (end_of ls s) moment) past

  -- whether CanStart
  abbrev pub can_start : ℕ → List Slot → Slot → Bool
  can_start n past s =
      nat_lt s.job (length ls) && nat_lt s.agent n && list_all (λ p. not (p.job == s.job)) past
      && list_all (has_ended past s.start) (waits_at ls s.job) && list_all (λ p. not (p.agent == s.agent) || nat_le (end_of ls p) s.start) past

  -- all slots of the jobs on n agents up to a moment
  abbrev pub slots_until : ℕ → ℕ → List Slot
  slots_until n moment =
      flat_map (λ start. flat_map (λ job. map (λ agent. record { job = job; agent = agent; start = start }) (range_with_len 0 n)) (range_with_len 0 (length ls)))
      (range_with_len 0 (moment + 1))

  -- earlier, or of a lesser job at that moment, or of that job on a lesser agent
  abbrev pub is_sooner : Slot → Slot → Bool
  is_sooner s t = nat_lt s.start t.start || s.start == t.start && (nat_lt s.job t.job || s.job == t.job && nat_lt s.agent t.agent)

  -- when the last slot ends all agents are free, so what can start at all can start by then
  unfoldable pub next_of : ℕ → List Slot → Option Slot
  next_of n past = first_of is_sooner (filter (can_start n past) (slots_until n (span ls past)))

  -- the slots that stand, and behind them one after another, up to so many
  unfoldable pub slots_behind : ℕ → ℕ → List Slot → List Slot
  slots_behind n zero past = past
  slots_behind n (suc k) past = option_map_or (λ s. slots_behind n k (past ++ s ∷ [])) (next_of n past) past

  -- no job starts twice, so there are no more than jobs
  unfoldable pub slots_of : ℕ → List Slot
  slots_of n = slots_behind n (length ls) []
