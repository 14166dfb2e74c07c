-- Words of the laws on the calls of a desk: when a call succeeds, what it costs, and the number
-- that a change gets.
--     next_number w              the number of the job's next change
--     HasFuel n w                there is fuel for a call that gives or puts n bytes
--     IsPaid n before after      such a call was paid
--     IsAsked before after       fuel and questions are all that changed
--     IsCounted before after     one change more was made, of the same job
--     MayPut, MayMake, MayRemove, MayTouch      what the tree must be like for a change
--     with_stamp n node          the same node with another stamp
use Rattle.std.specs.Prelude.{◌≡◌, ◌≢◌, ◌≤◌, ◌<◌, ℕ, ◌+◌, ◌*◌, List, Some, None}
use Rattle.std.specs.FinMap.{get}
use Rattle.em_path.specs.Paths.{parent_text}
use Rattle.em_tree.specs.declared.node.Kind.TheVariants as kind
use Rattle.em_tree.specs.declared.node.Node.{Node}
use Rattle.em_tree.specs.declared.node.Node.TheVariants.{File, Dir, Link}
use Rattle.em_tree.specs.Trees.{Table, kind_of}
use Rattle.em_view.specs.Actions.{Workspace}

abbrev pub next_number : Workspace → ℕ
next_number w = w.base + w.job * 1048576 + (w.count + 1)

-- a unit for the call, and one for each 256 bytes or what is left of them
abbrev pub HasFuel : ℕ → Workspace → Type 0
HasFuel n w = n + 256 ≤ w.fuel * 256

-- u is how often 256 goes into n, rounded up
abbrev pub IsPaid : ℕ → Workspace → Workspace → Type 0
IsPaid n before after =
    (u : ℕ) × (before.fuel ≡ after.fuel + (1 + u)) × (n ≤ u * 256) × (u * 256 < n + 256)

abbrev pub IsAsked : Workspace → Workspace → Type 0
IsAsked before after = after ≡ record before { fuel = after.fuel; asked = after.asked }

pub record IsCounted (before after : Workspace) : Type 0 where
  pub count : after.count ≡ before.count + 1
  pub base : after.base ≡ before.base
  pub job : after.job ≡ before.job
  pub given : after.given ≡ before.given

-- ---- what a change asks of the tree

-- right above the path stands a directory
abbrev pub IsInDir : Table → List ℕ → Type 0
IsInDir t p = (dir : List ℕ) × (parent_text p ≡ Some dir) × (kind_of (get t dir) ≡ kind.Dir)

-- at most 16 MiB
abbrev pub MayPut : Table → List ℕ → ℕ → Type 0
MayPut t p n = (kind_of (get t p) ≢ kind.Dir) × IsInDir t p × (n ≤ 16777216)

abbrev pub MayMake : Table → List ℕ → Type 0
MayMake t p = (kind_of (get t p) ≡ kind.Absent) × IsInDir t p

-- it is there, is not the root, and has nothing right below it
abbrev pub MayRemove : Table → List ℕ → Type 0
MayRemove t p =
    (kind_of (get t p) ≢ kind.Absent) × (parent_text p ≢ None)
    × ((q : List ℕ) → parent_text q ≡ Some p → get t q ≡ None)

abbrev pub MayTouch : Table → List ℕ → Type 0
MayTouch t p = kind_of (get t p) ≢ kind.Absent

-- ---- what a change leaves

abbrev pub with_stamp : ℕ → Node → Node
with_stamp n (File bytes stamp) = File bytes n
with_stamp n (Dir stamp) = Dir n
with_stamp n (Link text stamp) = Link text n
