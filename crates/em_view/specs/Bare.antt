-- What a walk finds over an oracle that tells of no link, or of these.
--     Stays o m a         over the oracle and changes without links the action gives the value, and only asked
--     under d ls          the links under own changes
--     Finds o d m a       from a workspace with these changes the action gives the value, and only asked
use Rattle.std.specs.Prelude.{◌≡◌, ℕ, List, Option, Some, None, Ok}
use Rattle.std.specs.FinMap.{get}
use Rattle.em_tree.specs.declared.node.Node.{Node}
use Rattle.em_tree.specs.declared.question.Question.TheVariants as question
use Rattle.em_tree.specs.declared.question.Answer.TheVariants as answer
use Rattle.em_view.specs.declared.no.DeskNo.{DeskNo}
use Rattle.em_tree.specs.Trees.{Changes, link_of}
use Rattle.em_view.specs.Actions.{Workspace, Oracle, Action}

abbrev pub TellsNone : Oracle → Type 0
TellsNone o = (n : ℕ) (p : List ℕ) → o n (question.Link p) ≡ answer.Link None

abbrev pub AreBare : Changes → Type 0
AreBare d = (p : List ℕ) (n : Option Node) → get d p ≡ Some n → link_of n ≡ None

-- all but the questions is as it was
abbrev pub IsStill : Workspace → Workspace → Type 0
IsStill w v = v ≡ record w { asked = v.asked }

-- the action gives this value, and leaves all but the questions as it was
abbrev pub Stays : {A : Type 0} → Oracle → Action DeskNo A → A → Type 0
Stays o m a = (w : Workspace) → AreBare w.changes → ((m o w).0 ≡ Ok a) × IsStill w (m o w).1

-- the links are those that the oracle tells of, whatever the number of the ask
abbrev pub TellsLinks : Oracle → (List ℕ → Option (List ℕ)) → Type 0
TellsLinks o ls = (n : ℕ) (p : List ℕ) → o n (question.Link p) ≡ answer.Link (ls p)

abbrev pub under_by : Option (Option Node) → Option (List ℕ) → Option (List ℕ)
under_by None told = told
under_by (Some n) told = link_of n

-- the links under own changes
abbrev pub under : Changes → (List ℕ → Option (List ℕ)) → List ℕ → Option (List ℕ)
under d ls p = under_by (get d p) (ls p)

-- from a workspace with these changes the action gives this value, and leaves all but the questions as it was
abbrev pub Finds : {A : Type 0} → Oracle → Changes → Action DeskNo A → A → Type 0
Finds o d m a = (w : Workspace) → w.changes ≡ d → ((m o w).0 ≡ Ok a) × IsStill w (m o w).1
