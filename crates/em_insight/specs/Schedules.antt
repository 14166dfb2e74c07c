-- Schedules of a report's jobs on n agents, and list scheduling (Graham).
--     end_of, span         when a slot ends, and the makespan: when the last ends
--     IsLegal ls n ss      each job has one slot, which begins when its waits have ended, and no agent runs two jobs at one moment
--     CanStart, IsNext     what may start next, behind the slots that stand, and what does: the least job at the earliest moment
--     IsGreedy ls n ss     the schedule that list scheduling gives
use Rattle.std.specs.Prelude.{◌≡◌, ◌≢◌, ℕ, ◌+◌, ◌<◌, ◌≤◌, ◌⊎◌, List, [], ◌∷◌, ◌++◌, length, max}
use Rattle.em_report.specs.declared.report.ReportLine.{ReportLine}
use Rattle.em_insight.specs.declared.data.Slot.{Slot}
use Rattle.em_insight.specs.Each.{Each, Any}
use Rattle.em_insight.specs.Jobs.{fuel_at, waits_at}

module _ (ls : List ReportLine) where
  abbrev pub end_of : Slot → ℕ
  end_of s = s.start + fuel_at ls s.job

  abbrev pub span : List Slot → ℕ
  span [] = 0
  span (s ∷ ss) = max (end_of s) (span ss)

  -- the job has a slot that ends by this moment
  abbrev pub HasEnded : List Slot → ℕ → ℕ → Type 0
  HasEnded ss moment job = Any (λ s. (s.job ≡ job) × (end_of s ≤ moment)) ss

  -- not both run on one agent at one moment
  abbrev pub AreApart : Slot → Slot → Type 0
  AreApart s t = s.agent ≡ t.agent → (end_of s ≤ t.start) ⊎ (end_of t ≤ s.start)

  abbrev pub AllApart : List Slot → Type 0
  AllApart [] = Unit {0}
  AllApart (s ∷ ss) = Each (AreApart s) ss × AllApart ss

  -- no job has two slots
  abbrev pub AllOnce : List Slot → Type 0
  AllOnce [] = Unit {0}
  AllOnce (s ∷ ss) = Each (λ t. t.job ≢ s.job) ss × AllOnce ss

  pub record IsLegal (n : ℕ) (ss : List Slot) : Type 0 where
    pub known : Each (λ s. (s.job < length ls) × (s.agent < n)) ss
    pub all : (j : ℕ) → j < length ls → Any (λ s. s.job ≡ j) ss
    pub once : AllOnce ss
    pub waits : Each (λ s. Each (HasEnded ss s.start) (waits_at ls s.job)) ss
    pub apart : AllApart ss

  -- behind the slots `past` the slot s may start: its job hasn't, all that it waits for has ended,
  -- and the agent is free
  pub record CanStart (n : ℕ) (past : List Slot) (s : Slot) : Type 0 where
    pub known : (s.job < length ls) × (s.agent < n)
    pub fresh : Each (λ p. p.job ≢ s.job) past
    pub waits : Each (HasEnded past s.start) (waits_at ls s.job)
    pub free : Each (λ p. p.agent ≡ s.agent → end_of p ≤ s.start) past

  -- s is earlier than t, or of a lesser job at that moment, or of this job and on no greater agent
  abbrev pub ComesFirst : Slot → Slot → Type 0
  ComesFirst s t = (s.start < t.start) ⊎ ((s.start ≡ t.start) × ((s.job < t.job) ⊎ ((s.job ≡ t.job) × (s.agent ≤ t.agent))))

  pub record IsNext (n : ℕ) (past : List Slot) (s : Slot) : Type 0 where
    pub can : CanStart n past s
    pub first : (t : Slot) → CanStart n past t → ComesFirst s t

  -- each is the next behind those before it
  abbrev pub AreNext : ℕ → List Slot → List Slot → Type 0
  AreNext n past [] = Unit {0}
  AreNext n past (s ∷ ss) = IsNext n past s × AreNext n (past ++ s ∷ []) ss

  pub record IsGreedy (n : ℕ) (ss : List Slot) : Type 0 where
    pub next : AreNext n [] ss
    pub all : (j : ℕ) → j < length ls → Any (λ s. s.job ≡ j) ss
