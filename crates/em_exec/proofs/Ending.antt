-- The end of what was looked at.
use Rattle.std.proofs.Common.{◌≡◌, true, false, Result, Ok, Err, refl}
use Rattle.em_view.specs.declared.no.DeskNo.{DeskNo}
use Rattle.em_view.specs.declared.no.DeskNo.TheVariants as no
use Rattle.em_view.specs.Performs.{DeskState, Told}
use Rattle.em_view.specs.Performs as performs
use Rattle.em_view.specs.Rows.{is_memory}
use Rattle.em_view.specs.Steps.{Does}
use Rattle.em_view.proofs.Doing.{finish_s, refused_s}
use Rattle.em_command.specs.declared.jump.Jump.{Jump}
use Rattle.em_command.specs.declared.jump.Jump.TheVariants.{Exit, Break, Continue, End}
use Rattle.em_command.specs.declared.here.Here.{Here}
use Rattle.em_command.specs.Jumps.{is_free, of_desk}
use Rattle.em_command.specs.Acting.{jumped}
use Rattle.em_exec.specs.Running.{has_no_end}

pub free_of_desk : (x : DeskNo) → is_free (of_desk x) ≡ is_memory x
free_of_desk no.NoMemory = refl
free_of_desk no.Spent = refl
free_of_desk (no.File f) = refl

pub jumped_s : {V : Type 0} {tells : V → Told} {d : DeskState V} {h : Here} (r : Result (Unit {0}) Jump) → Does is_free tells d d h h r (jumped r)
jumped_s (Ok u) = finish_s
jumped_s (Err j) = refused_s j (λ n. refl)

pub free_end : (r : Result (Unit {0}) Jump) → has_no_end r ≡ false → performs.is_free is_free r ≡ false
free_end (Ok u) e = refl
free_end (Err Exit) e = refl
free_end (Err Break) e = refl
free_end (Err Continue) e = refl
free_end (Err (End x)) e = absurd (let no : true ≡ false = e in cc)
