-- Words of the laws.
--     files_left words builds files      the host's files behind all of the ending's calls
--     status_in words builds files       the ending's status
--     tree_left builds st    the tree that the last one of the builds from a step on leaves
--     IsOther o name         the order names no such file, neither as its image nor as its history nor as its report
--     AreSeenAlike o f g     two hosts have the same image, and the same report to explain
--     AreMadeAlike builds others     in both the jobs made the same, one build behind another
--     IsSameEnd words builds others f g       on their files two endings print the same, have the same status and leave the same image
use Rattle.std.specs.Prelude.{◌≡◌, ◌≢◌, IfSome, ℕ, List, [], ◌∷◌, map, Option, Some, None, Result, Ok, Err}
use Rattle.std.specs.FinMap.{empty, get}
use Rattle.em_host.specs.Outside.{Files}
use Rattle.em_host.specs.Calls.{files_after, printed_by}
use Rattle.em_tree.specs.Trees.{Table}
use Rattle.em_cmdline.specs.declared.order.Order.{Order}
use Rattle.em_cmdline.specs.Words.{order_of}
use Rattle.em_program.specs.declared.rounds.BuildStep.{BuildStep}
use Rattle.em_program.specs.declared.verdict.BuildStatus.{BuildStatus}
use Rattle.em_program.specs.Statuses.{code_of}
use Rattle.em_program.specs.Course.{Course}
use Rattle.em_program.specs.Endings.{ended}
use Rattle.em_program.specs.Headline.{verdict_of}
use Rattle.em_program.specs.Rounds.{Build, left_by, goes_on}

abbrev pub files_left : List (List ℕ) → List Build → Files → Files
files_left words builds files = files_after (ended words builds files).calls files

abbrev pub status_in : List (List ℕ) → List Build → Files → ℕ
status_in words builds files = code_of (verdict_of (ended words builds files).end)

-- none behind a refusal
abbrev pub tree_at : (BuildStep → Option Table) → Result BuildStep BuildStatus → Option Table
tree_at later (Ok st) = later st
tree_at later (Err verdict) = None

abbrev pub tree_behind : (BuildStep → Option Table) → BuildStep → Build → Option (Course BuildStep) → Option Table
tree_behind later st b None = Some (left_by st.project b).tree
tree_behind later st b (Some next) = tree_at later (next empty).end

-- none where no build is the last one
abbrev pub tree_left : List Build → BuildStep → Option Table
tree_left [] st = None
tree_left (b ∷ bs) st = tree_behind (tree_left bs) st b (goes_on st b)

pub record IsOther (o : Order) (name : List ℕ) : Type 0 where
  pub image : o.image ≢ Some name
  pub history : o.history ≢ Some name
  pub report : o.report ≢ Some name

pub record AreSeenAlike (o : Order) (f g : Files) : Type 0 where
  pub image : IfSome o.image (λ name. get f name ≡ get g name)
  pub explain : IfSome o.explain (λ name. get f name ≡ get g name)

-- their notes may differ
abbrev pub AreMadeAlike : List Build → List Build → Type 0
AreMadeAlike builds others = map (λ b. b.made) builds ≡ map (λ b. b.made) others

pub record IsSameEnd (words : List (List ℕ)) (builds others : List Build) (f g : Files) : Type 0 where
  pub printed : printed_by (ended words builds f).calls ≡ printed_by (ended words others g).calls
  pub end : (ended words builds f).end ≡ (ended words others g).end
  pub image : IfSome (order_of words).image (λ name. get (files_left words builds f) name ≡ get (files_left words others g) name)
