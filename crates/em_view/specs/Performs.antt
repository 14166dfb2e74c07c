-- That a desk has performed an action.
--     DeskState V        a desk as contracts see it: its view, the answers so far, and the workspace
--     AreTrue f es       the i-th entry's answer is the one that f tells of the i-th question
--     Grows ..           what holds between a desk and a later one in any case
--     Performs ..        from the old desk to the new one the action was performed, on whatever answers the same asks alike
--     Keeps n old new    all but fuel and questions is as before, and at most n units are gone
use Rattle.std.specs.Prelude.{◌≡◌, ℕ, ◌+◌, ◌≤◌, suc, Bool, false, List, [], ◌∷◌, ◌++◌, length, map, Option, Result, Ok, Err}
use Rattle.em_tree.specs.declared.question.Question.{Question}
use Rattle.em_tree.specs.declared.question.Answer.{Answer}
use Rattle.em_tree.specs.declared.question.Entry.{Entry}
use Rattle.em_view.specs.Views.{IsTold}
use Rattle.em_view.specs.Actions.{Workspace, Oracle, AgreesFrom, Action}

pub record DeskState (V : Type 0) : Type 0 where
  pub view : V
  pub usage : List Entry
  pub work : Workspace

-- what a view tells of its asks from now on
abbrev pub Told : Type 0
Told = ℕ → Question → Option Answer

abbrev pub AreTrue : Told → List Entry → Type 0
AreTrue f [] = Unit {0}
AreTrue f (e ∷ es) = IsTold (f 0 e.question) e.answer × AreTrue (λ i q. f (suc i) q) es

-- an error that may come freely: want of memory, as `free` tells it
abbrev pub is_free : {E A : Type 0} → (E → Bool) → Result A E → Bool
is_free free (Ok a) = false
is_free free (Err e) = free e

-- what holds between a desk and a later one, whatever was done in between, also where memory ran
-- out
pub record Grows {V : Type 0} (tells : V → Told) (old new : DeskState V) : Type 0 where
  -- what was answered on the way is kept, in order, with its questions, and is what the view told;
  -- it was asked nothing else
  pub entries : List Entry
  pub grew : new.usage ≡ old.usage ++ entries
  pub asked : new.work.asked ≡ old.work.asked ++ map (λ e. e.question) entries
  pub told : AreTrue (tells old.view) entries
  pub ahead : (i : ℕ) (q : Question) → tells new.view i q ≡ tells old.view (length entries + i) q
  -- no fuel comes from anywhere, and the job stays what it is
  pub burns : new.work.fuel ≤ old.work.fuel
  pub base : new.work.base ≡ old.work.base
  pub job : new.work.job ≡ old.work.job
  pub given : new.work.given ≡ old.work.given

pub record Performs {V E A : Type 0} (free : E → Bool) (tells : V → Told) (old new : DeskState V) (result : Result A E) (action : Action E A) : Type 0 where
  pub grows : Grows tells old new
  -- unless memory ran out: whatever answers these asks so makes the action give this result and
  -- this workspace
  pub plain : is_free free result ≡ false → (o : Oracle) → AgreesFrom (length old.work.asked) o grows.entries → action o old.work ≡ (result, new.work)

-- the workspace is as it was but for what an end without a value may cost: at most so many units,
-- and questions
pub record Keeps (units : ℕ) (old new : Workspace) : Type 0 where
  pub work : new ≡ record old { fuel = new.fuel; asked = new.asked }
  pub lost : old.fuel ≤ new.fuel + units
