-- A schedule on its way: what its slots, the agents and the places of the jobs have to do with one
-- another.
use Rattle.std.specs.Prelude.{◌≡◌, ℕ, ◌<◌, ◌≤◌, ◌⊎◌, List, [], length, get_or, slice_get, Some}
use Rattle.em_report.specs.declared.report.ReportLine.{ReportLine}
use Rattle.em_insight.specs.declared.data.Slot.{Slot}
use Rattle.em_insight.specs.declared.dispatch.Dispatch.{Dispatch}
use Rattle.em_insight.specs.declared.queue.Place.TheVariants.{Coming, Ready}
use Rattle.em_insight.specs.declared.queue.Queue.{Queue}
use Rattle.em_insight.specs.Each.{Each, Any}
use Rattle.em_insight.specs.Queues.{HasStarted, IsFiled, IsSynced}
use Rattle.em_insight.specs.Schedules.{end_of, span, CanStart, AreNext}

-- of slots, places and the moments from which on agents are free
pub record Based (ls : List ReportLine) (ss : List Slot) (q : Queue) (free : List ℕ) : Type 0 where
  pub synced : IsSynced ls q
  pub filed : (j : ℕ) → IsFiled ls q j
  pub started : Each (λ s. HasStarted q.places.items (end_of ls s) s.job) ss
  pub ended : (j end : ℕ) → HasStarted q.places.items end j → Any (λ s. (s.job ≡ j) × (end_of ls s ≡ end)) ss
  pub frees : Each (λ s. end_of ls s ≤ get_or free s.agent 0) ss
  pub freed : (a : ℕ) → (get_or free a 0 ≡ 0) ⊎ Any (λ s. (s.agent ≡ a) × (end_of ls s ≡ get_or free a 0)) ss

pub record Standing (d : Dispatch) : Type 0 where
  pub next : AreNext d.lines.now (length d.free.items) [] d.slots.items
  pub based : Based d.lines.now d.slots.items d.queue d.free.items
  pub come : (j due : ℕ) → slice_get d.queue.places.items j ≡ Some (Ready due) → due ≤ d.now
  pub low : (t : Slot) → CanStart d.lines.now (length d.free.items) d.slots.items t → d.now ≤ t.start
  pub late : d.now ≤ span d.lines.now d.slots.items

abbrev pub AllStarted : Dispatch → Type 0
AllStarted d = (j : ℕ) → j < length d.lines.now → Any (λ s. s.job ≡ j) d.slots.items

-- the first moment at which a job can start
pub record Offers (d : Dispatch) (moment : ℕ) : Type 0 where
  pub soonest : (t : Slot) → CanStart d.lines.now (length d.free.items) d.slots.items t → moment ≤ t.start
  pub later : d.now ≤ moment
  pub within : moment ≤ span d.lines.now d.slots.items
  pub free : (a : ℕ) × (a < length d.free.items) × (get_or d.free.items a 0 ≤ moment)
  pub some : (j due : ℕ) × ((slice_get d.queue.places.items j ≡ Some (Ready due)) ⊎ ((slice_get d.queue.places.items j ≡ Some (Coming due)) × (due ≤ moment)))
