-- Where each job stands in list scheduling, by what it waits for.
--     IsDue ps ws r        the jobs ws have started, and the last of them ends at r
--     IsFiled ls q j       job j stands where it is to stand
--     IsLoose ls q j       the same, but that the wait which holds it up may have started
--     IsSynced ls q        the two sets have the coming jobs and those that are ready
--     SameStarts q r       the same jobs have started
use Rattle.std.specs.Prelude.{◌≡◌, ◌↔◌, ℕ, ◌<◌, ◌≤◌, ◌⊎◌, ◌==◌, Bool, true, false, List, [], length, get_or, take, slice_get, Option, Some}
use Rattle.std.specs.Ordering.{ordering_then, nat_cmp}
use Rattle.std.specs.declared.cmp.Ordering.{Ordering}
use Rattle.std.specs.BTreeSet.{contains}
use Rattle.em_report.specs.declared.report.ReportLine.{ReportLine}
use Rattle.em_insight.specs.declared.queue.Place.{Place}
use Rattle.em_insight.specs.declared.queue.Place.TheVariants.{Held, Coming, Ready, Started}
use Rattle.em_insight.specs.declared.queue.Queue.{Queue}
use Rattle.em_insight.specs.Each.{Each, Any}
use Rattle.em_insight.specs.Jobs.{waits_at}

abbrev pub HasStarted : List Place → ℕ → ℕ → Type 0
HasStarted ps end w = slice_get ps w ≡ Some (Started end)

abbrev pub IsUnstarted : List Place → ℕ → Type 0
IsUnstarted ps w = (end : ℕ) → HasStarted ps end w → ⊥

pub record IsDue (ps : List Place) (ws : List ℕ) (r : ℕ) : Type 0 where
  pub by : Each (λ w. (end : ℕ) × HasStarted ps end w × (end ≤ r)) ws
  pub at : (r ≡ 0) ⊎ Any (HasStarted ps r) ws

abbrev pub IsHeld : List Place → List (List ℕ) → List ℕ → ℕ → ℕ → Type 0
IsHeld ps held ws j next = (next < length ws) × IsUnstarted ps (get_or ws next 0) × Any (λ x. x ≡ j) (get_or held (get_or ws next 0) [])

abbrev pub FiledAs : List Place → List (List ℕ) → List ℕ → ℕ → Place → Type 0
FiledAs ps held ws j (Held next due) = IsDue ps (take next ws) due × IsHeld ps held ws j next
FiledAs ps held ws j (Coming due) = IsDue ps ws due
FiledAs ps held ws j (Ready due) = IsDue ps ws due
FiledAs ps held ws j (Started end) = Unit {0}

abbrev pub LooseAs : List Place → List ℕ → Place → Type 0
LooseAs ps ws (Held next due) = IsDue ps (take next ws) due × (next ≤ length ws)
LooseAs ps ws (Coming due) = IsDue ps ws due
LooseAs ps ws (Ready due) = IsDue ps ws due
LooseAs ps ws (Started end) = Unit {0}

abbrev pub is_coming : ℕ → Option Place → Bool
is_coming r (Some (Coming due)) = r == due
is_coming r _ = false

abbrev pub is_ready : Option Place → Bool
is_ready (Some (Ready due)) = true
is_ready _ = false

-- the order of pairs of numbers
abbrev pub pairs : (ℕ × ℕ) → (ℕ × ℕ) → Ordering
pairs x y = ordering_then (nat_cmp x.0 y.0) (nat_cmp x.1 y.1)

abbrev pub SameStarts : Queue → Queue → Type 0
SameStarts q r = (j end : ℕ) → HasStarted q.places.items end j ↔ HasStarted r.places.items end j

-- what is ready was before
abbrev pub SameReady : Queue → Queue → Type 0
SameReady q r = (j due : ℕ) → slice_get r.places.items j ≡ Some (Ready due) → slice_get q.places.items j ≡ Some (Ready due)

module _ (ls : List ReportLine) (q : Queue) where
  abbrev pub IsFiled : ℕ → Type 0
  IsFiled j = (p : Place) → slice_get q.places.items j ≡ Some p → FiledAs q.places.items q.held.items (waits_at ls j) j p

  abbrev pub IsLoose : ℕ → Type 0
  IsLoose j = (p : Place) → slice_get q.places.items j ≡ Some p → LooseAs q.places.items (waits_at ls j) p

  pub record IsSynced : Type 0 where
    pub places : length q.places.items ≡ length ls
    pub helds : length q.held.items ≡ length ls
    pub within : (v j : ℕ) → Any (λ x. x ≡ j) (get_or q.held.items v []) → j < length ls
    pub coming : (r j : ℕ) → contains pairs q.coming (r, j) ≡ is_coming r (slice_get q.places.items j)
    pub ready : (j : ℕ) → contains nat_cmp q.ready j ≡ is_ready (slice_get q.places.items j)

-- a ready job was before, or its moment has come
abbrev pub HasCome : ℕ → Queue → Queue → Type 0
HasCome moment q r = (j due : ℕ) → slice_get r.places.items j ≡ Some (Ready due) → (slice_get q.places.items j ≡ Some (Ready due)) ⊎ (due ≤ moment)

abbrev pub AreLater : ℕ → Queue → Type 0
AreLater moment q = (j due : ℕ) → slice_get q.places.items j ≡ Some (Coming due) → moment < due
