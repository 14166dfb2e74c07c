-- Words of the laws on `test`: what an expression says, without a question or on a state.
use Rattle.std.specs.Prelude.{◌≡◌, ◌==◌, ℕ, List, [], ◌∷◌, codes, None, Result, Ok, Err, if◌then◌else◌}
use Rattle.em_tree.specs.declared.state.State.{State}
use Rattle.em_view.specs.declared.done.Done.{Done}
use Rattle.em_view.specs.declared.done.ExecNo.{ExecNo}
use Rattle.em_view.specs.Actions.{Workspace, Oracle, snapshot}
use Rattle.em_lineutil.specs.Tests.{binary_of}
use Rattle.em_textutil.specs.Expressions.{test_words}

-- true is the status 0, false 1; nothing is written
abbrev pub yes : Done
yes = record { status = 0; pieces = [] }

abbrev pub no : Done
no = record { status = 1; pieces = [] }

-- the expression leaves this, whatever is there; nothing is asked, and nothing changes
abbrev pub Leaves : List (List ℕ) → Done → Type 0
Leaves ws d = (cwd : List ℕ) (o : Oracle) (w : Workspace) → test_words cwd ws o w ≡ (Ok d, w)

-- what `-eq`, `-ne`, `-lt`, `-le`, `-gt` and `-ge` leave of two words
abbrev pub Compare : List ℕ → List ℕ → Done → Done → Done → Done → Done → Done → Type 0
Compare a b eq ne lt le gt ge =
    Leaves (a ∷ codes "-eq" ∷ b ∷ []) eq × Leaves (a ∷ codes "-ne" ∷ b ∷ []) ne × Leaves (a ∷ codes "-lt" ∷ b ∷ []) lt
    × Leaves (a ∷ codes "-le" ∷ b ∷ []) le × Leaves (a ∷ codes "-gt" ∷ b ∷ []) gt × Leaves (a ∷ codes "-ge" ∷ b ∷ []) ge

-- on the state the expression is true exactly where P holds, unless it has no end; the tree stays
abbrev pub Finds : State → Workspace → List ℕ → List (List ℕ) → Type 0 → Type 0
Finds s w cwd ws P = (d : Done) → (test_words cwd ws (snapshot s) w).0 ≡ Ok d
    → (P → d ≡ yes) × (¬ P → d ≡ no) × ((test_words cwd ws (snapshot s) w).1.changes ≡ w.changes)

-- true and false are exchanged; a fault stays one
abbrev pub opposite : Done → Done
opposite d = if d.status == 0 then record d { status = 1 } else if d.status == 1 then record d { status = 0 } else d

abbrev pub opposite_by : Result Done ExecNo → Result Done ExecNo
opposite_by (Ok d) = Ok (opposite d)
opposite_by (Err e) = Err e

-- no three words with a binary operator in the middle
abbrev pub IsNoComparison : List (List ℕ) → Type 0
IsNoComparison ws = (a op b : List ℕ) → ws ≡ a ∷ op ∷ b ∷ [] → binary_of op ≡ None
