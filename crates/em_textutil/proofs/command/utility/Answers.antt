use Rattle.std.proofs.Common.{◌≡◌, ◌<◌, List, [], ◌∷◌, length, refl, arith}
use Rattle.em_view.proofs.Performing.{finish}
use Rattle.em_textutil.specs.Utilities.{utility}
use Rattle.em_textutil.proofs.command.utility.Goals as goal

none_left : {X : Type 0} (xs : List X) → length xs ≡ 0 → xs ≡ []
none_left [] e = refl
none_left (x ∷ xs) e = absurd (omega arith)

pub returns-in-None : goal.returns-in-None
unfolding utility
returns-in-None g c = rw (none_left c.args.words.now c.in-None.ensures.cases) finish

pub returns-in-Some : goal.returns-in-Some
unfolding utility
returns-in-Some g c = rw c.in-Some.ensures.cases.0 (rw (c.utility_of.ensures, c.bytes.ensures) at c.run_by.ensures)
