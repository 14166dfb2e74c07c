use Rattle.std.proofs.Common.{◌≡◌, ◌+◌, ◌<◌, ◌∷◌, [], List, ℕ, Bor, length, drop, get_or, refl, add-one, drop-cons}
use Rattle.em_view.proofs.Doing.{then_s, finish_s, out_s, more_s, stop_s, end_s}
use Rattle.em_base.proofs.Lemmas.{none_at}
use Rattle.em_reader.proofs.makefiles.first_file.Goals as goal

abbrev none : Bor (List ℕ)
none = record { ref_ptr = (0, 0); now = [] }

left : (ns : List (Bor (List ℕ))) (i : ℕ) → i < length ns → drop i ns ≡ get_or ns i none ∷ drop (i + 1) ns
left ns i low = rw add-one (drop-cons ns i none low)

pub returns-in_err-place : goal.returns-in_err-place
returns-in_err-place g c = end_s c.loop-name.invariant (out_s _ refl c.from_residual.ensures.1)

pub returns-in_err-bytes : goal.returns-in_err-bytes
returns-in_err-bytes g c =
    let next = left c.args.names.now c.loop-name.name-index c.loop-name-test.true in
    stop_s _ (rw next at c.loop-name.invariant) c.from_residual-in_err-bytes.ensures.1 (rw c.in_ok-place.ensures at c.in_err-bytes.ensures)

pub returns-in-Some : goal.returns-in-Some
returns-in-Some g c =
    let next = left c.args.names.now c.loop-name.name-index c.loop-name-test.true in
    end_s (rw next at c.loop-name.invariant) (then_s _ (rw c.in_ok-place.ensures at c.in_ok-bytes.ensures) (rw (c.in-Some.is, c.in_ok-name.ensures) finish_s))

pub loop-name-preserved : goal.loop-name-preserved
loop-name-preserved g c =
    let next = left c.args.names.now c.loop-name.name-index c.loop-name-test.true in
    rw c.in_default.is at (more_s _ (rw next at c.loop-name.invariant) (rw c.in_ok-place.ensures at c.in_ok-bytes.ensures))

pub returns : goal.returns
returns g c =
    let none = none_at c.args.names.now c.loop-name.name-index c.loop-name-test.false in
    end_s (rw none at c.loop-name.invariant) finish_s
