-- What is done by questions, from a workspace.
--     Workspace         what a job has made so far, and what it may still use
--     Oracle            an answer to each ask, by its number and its question. A state is one that ignores the number
--     Action E A        what is done: a value or an error, and the workspace after it
--     m >>= k, done a, fail e, ask q, spend n      one action and then another, and the smallest ones
--     lift f m, attempt m      an action with its errors renamed, or looked at
use Rattle.std.specs.Prelude.{◌≡◌, ℕ, suc, ◌-◌, nat_lt, List, [], ◌∷◌, ◌++◌, length, Result, Ok, Err, Option, if◌then◌else◌}
use Rattle.std.specs.FinMap.{get}
use Rattle.em_tree.specs.declared.question.Question.{Question}
use Rattle.em_tree.specs.declared.question.Answer.{Answer}
use Rattle.em_tree.specs.declared.node.Node.{Node}
use Rattle.em_tree.specs.declared.question.Entry.{Entry}
use Rattle.em_tree.specs.declared.state.State.{State}
use Rattle.em_tree.specs.Answers.{answer}
use Rattle.em_tree.specs.Trees.{Changes}
use Rattle.em_view.specs.declared.no.DeskNo.{DeskNo}
use Rattle.em_view.specs.declared.no.DeskNo.TheVariants as no

-- all that an action reads or writes
pub record Workspace : Type 0 where
  -- the greatest stamp of the starting tree, and the job's number: with the number of a change they
  -- make its stamp
  pub base : ℕ
  pub job : ℕ
  -- the fuel that the job was given, and what is left of it
  pub given : ℕ
  pub fuel : ℕ
  -- how many changes were made, and what they make of the paths
  pub count : ℕ
  pub changes : Changes
  -- the questions that were asked, in order
  pub asked : List Question

-- an answer belongs to an ask: asks are numbered from 0, by how many were made before. So one
-- question may be asked twice and be answered differently
abbrev pub Oracle : Type 0
Oracle = ℕ → Question → Answer

-- a state answers each question alike, however often it is asked
abbrev pub snapshot : State → Oracle
snapshot s = λ n. answer s

-- the asks from number n on are answered as the entries say
abbrev pub AgreesFrom : ℕ → Oracle → List Entry → Type 0
AgreesFrom n o [] = Unit {0}
AgreesFrom n o (e ∷ es) = (o n e.question ≡ e.answer) × AgreesFrom (suc n) o es

abbrev pub Action : Type 0 → Type 0 → Type 0
Action E A = Oracle → Workspace → Result A E × Workspace

abbrev pub go_on : {E A B : Type 0} → Result A E → Workspace → (A → Action E B) → Oracle → Result B E × Workspace
go_on (Ok a) w k o = k a o w
go_on (Err e) w k o = (Err e, w)

infixl 10 ◌>>=◌
unfoldable pub ◌>>=◌ : {E A B : Type 0} → Action E A → (A → Action E B) → Action E B
m >>= k = λ o w. go_on (m o w).0 (m o w).1 k o

unfoldable pub done : {E A : Type 0} → A → Action E A
done a = λ o w. (Ok a, w)

unfoldable pub fail : {E A : Type 0} → E → Action E A
fail e = λ o w. (Err e, w)

unfoldable pub ask : {E : Type 0} → Question → Action E Answer
ask q = λ o w. (Ok (o (length w.asked) q), record w { asked = w.asked ++ q ∷ [] })

-- an action of a lower layer, with its errors under their names in this one
abbrev pub renamed : {E F A : Type 0} → (E → F) → Result A E → Result A F
renamed f (Ok a) = Ok a
renamed f (Err e) = Err (f e)

unfoldable pub lift : {E F A : Type 0} → (E → F) → Action E A → Action F A
lift f m = λ o w. (renamed f (m o w).0, (m o w).1)

-- an action whose end is looked at, also where it is an error
unfoldable pub attempt : {E A : Type 0} → Action E A → Action E (Result A E)
attempt m = λ o w. (Ok (m o w).0, (m o w).1)

-- what the job's own changes say of a path
unfoldable pub mine : {E : Type 0} → List ℕ → Action E (Option (Option Node))
mine p = λ o w. (Ok (get w.changes p), w)

-- there is some fuel left; nothing is taken
abbrev pub has_fuel : Workspace → Result (Unit {0}) DeskNo
has_fuel w = if nat_lt w.fuel 1 then Err no.Spent else Ok tt

unfoldable pub ready : Action DeskNo (Unit {0})
ready = λ o w. (has_fuel w, w)

-- n units are taken, where so many are left
abbrev pub taken : ℕ → Workspace → Result (Unit {0}) DeskNo × Workspace
taken n w = if nat_lt w.fuel n then (Err no.Spent, w) else (Ok tt, record w { fuel = w.fuel - n })

unfoldable pub spend : ℕ → Action DeskNo (Unit {0})
spend n = λ o w. taken n w
