use Rattle.std.proofs.Common.{true, refl, Ok}
use Rattle.em_view.proofs.Doing.{then_s, leave_s, out_s, owned_s}
use Rattle.em_reading.specs.declared.reading.Reading.{Reading}
use Rattle.em_reader.specs.Makefiles.{read_file, found}
use Rattle.em_reader.proofs.makefiles.read_file.Goals as goal

abbrev as_found : Reading → Reading
as_found r = record r { book = record r.book { found = true } }

pub returns-in_err-opens : goal.returns-in_err-opens
unfolding read_file
returns-in_err-opens g c = then_s {t = as_found c.args.reading.now} _ (owned_s {r = Ok tt} found (λ h. refl)) (leave_s _ c.from_residual.ensures.1 (owned_s _ (rw c.bytes.ensures at c.in_err-opens.ensures)))

pub returns-in_err-place : goal.returns-in_err-place
unfolding read_file
returns-in_err-place g c = then_s {t = as_found c.args.reading.now} _ (owned_s {r = Ok tt} found (λ h. refl)) (then_s _ (owned_s {r = Ok tt} _ (rw c.bytes.ensures at c.in_ok-opens.ensures)) (out_s _ refl c.from_residual-in_err-place.ensures.1))

pub returns-in_err-lines : goal.returns-in_err-lines
unfolding read_file
returns-in_err-lines g c = then_s {t = as_found c.args.reading.now} _ (owned_s {r = Ok tt} found (λ h. refl)) (then_s _ (owned_s {r = Ok tt} _ (rw c.bytes.ensures at c.in_ok-opens.ensures)) (out_s _ refl c.from_residual-in_err-lines.ensures.1))

pub returns : goal.returns
unfolding read_file
returns g c = then_s {t = as_found c.args.reading.now} _ (owned_s {r = Ok tt} found (λ h. refl)) (then_s _ (owned_s {r = Ok tt} _ (rw c.bytes.ensures at c.in_ok-opens.ensures)) (rw (c.in_ok-lines.ensures, c.in_ok-place.ensures, c.bytes-2.ensures, c.bytes-3.ensures) at c.read_text.ensures))
