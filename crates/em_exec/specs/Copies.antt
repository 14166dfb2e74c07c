-- Commands that run apart from what is around them.
--     subshell m      in a copy of the shell; what it writes is written here
--     heard m         in a copy of the shell; its output is the answer
--     collected m     in this shell; what it writes is kept apart
--     caught m        a turn of a loop: `break` and `continue` end here
use Rattle.std.specs.Prelude.{ℕ, List, [], Result, Ok, Err}
use Rattle.em_view.specs.declared.done.Piece.{Piece}
use Rattle.em_view.specs.Steps.{own}
use Rattle.em_view.specs.Do.{◌>>=◌}
use Rattle.em_command.specs.declared.jump.Jump.{Jump}
use Rattle.em_command.specs.declared.jump.Jump.TheVariants.{Exit, Break, Continue, End}
use Rattle.em_command.specs.declared.here.Here.{Here}
use Rattle.em_command.specs.Jumps.{Acts, Change}
use Rattle.em_command.specs.Heres.{branch, rejoined, overheard}
use Rattle.em_exec.specs.declared.loops.LoopTurn.{LoopTurn}
use Rattle.em_exec.specs.declared.loops.LoopTurn.TheVariants.{Whole, Broken, Continued}

-- how something ended, with the state beside it
abbrev pub Ended : Type 0
Ended = Result (Unit {0} × Here) (Jump × Here)

abbrev pub seen : {A : Type 0} → (Result (Unit {0}) Jump → Here → A) → Ended → A
seen f (Ok p) = f (Ok p.0) p.1
seen f (Err p) = f (Err p.0) p.1

-- what it has come to
abbrev pub after : Ended → Here
after e = seen (λ ended h. h) e

-- from a state of its own; how it ended and what it has come to are looked at, also where it has no
-- end
unfoldable pub looked_at : {A : Type 0} → (Here → Here) → (Here → Result (Unit {0}) Jump → Here → A × Here) → Acts (Unit {0}) → Acts A
looked_at from back m = λ h o w. (Ok (seen (back h) (m (from h) o w).0), (m (from h) o w).1)

-- ---- copies of the shell

abbrev pub Copy : Type 0
Copy = Result (Unit {0}) Jump × Here

abbrev pub apart : Here → Result (Unit {0}) Jump → Here → Copy × Here
apart h ended copy = ((ended, copy), h)

-- nothing of the copy comes back but what it wrote and its status
unfoldable pub subshell : Acts (Unit {0}) → Acts (Unit {0})
subshell m = do
  c ← looked_at branch apart m
  own (rejoined c.1 c.0)

unfoldable pub heard : Acts (Unit {0}) → Acts (List ℕ)
heard m = do
  c ← looked_at branch apart m
  own (overheard c.1 c.0)

-- the same of a command substitution, whose status is kept
abbrev pub substitute : Copy → Change (List ℕ)
substitute c h = overheard c.1 c.0 (record h { substituted = c.1.shell.status })

unfoldable pub substituted : Acts (Unit {0}) → Acts (List ℕ)
substituted m = do
  c ← looked_at branch apart m
  own (substitute c)

-- ---- what is written, apart

pub record Collected : Type 0 where
  pub pieces : List Piece
  pub ended : Result (Unit {0}) Jump

abbrev pub unwritten : Here → Here
unwritten h = record h { pieces = [] }

abbrev pub put_back : Here → Result (Unit {0}) Jump → Here → Collected × Here
put_back h ended t = (record { pieces = t.pieces; ended = ended }, record t { pieces = h.pieces })

unfoldable pub collected : Acts (Unit {0}) → Acts Collected
collected m = looked_at unwritten put_back m

-- ---- turns of a loop

abbrev pub turn_of : Result (Unit {0}) Jump → Result LoopTurn Jump
turn_of (Ok u) = Ok Whole
turn_of (Err Break) = Ok Broken
turn_of (Err Continue) = Ok Continued
turn_of (Err Exit) = Err Exit
turn_of (Err (End e)) = Err (End e)

abbrev pub settled : Ended → Result (LoopTurn × Here) (Jump × Here)
settled (Ok (u, h)) = Ok (Whole, h)
settled (Err (Break, h)) = Ok (Broken, h)
settled (Err (Continue, h)) = Ok (Continued, h)
settled (Err (Exit, h)) = Err (Exit, h)
settled (Err (End e, h)) = Err (End e, h)

unfoldable pub caught : Acts (Unit {0}) → Acts LoopTurn
caught m = λ h o w. (settled (m h o w).0, (m h o w).1)
