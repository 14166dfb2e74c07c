use Rattle.std.proofs.Common.{◌≡◌, ◌+◌, ◌∷◌, [], List, Bor, drop, get_or, add-one, drop-cons}
use Rattle.em_view.proofs.Performing.{more, stop, end, finish}
use Rattle.em_base.proofs.Lemmas.{none_at}
use Rattle.em_glob.specs.declared.glyph.Glyph.{Glyph}
use Rattle.em_pathname.proofs.walk.walk.Goals as goal

pub returns-in_err-dirs-clause-performs : goal.returns-in_err-dirs-clause-performs
returns-in_err-dirs-clause-performs g c =
    let none : Bor (List Glyph) = record { ref_ptr = (0, 0); now = [] } in
    let left : drop c.loop-component.component-index c.args.components.now ≡ get_or c.args.components.now c.loop-component.component-index none ∷ drop (c.loop-component.component-index + 1) c.args.components.now = rw add-one (drop-cons c.args.components.now c.loop-component.component-index none c.loop-component-test.true) in
    let inv = rw left at c.loop-component.invariant in
    stop _ inv c.from_residual.ensures.1 (rw c.items.ensures at c.in_err-dirs.ensures.performs)

pub loop-component-preserved : goal.loop-component-preserved
loop-component-preserved g c =
    let none : Bor (List Glyph) = record { ref_ptr = (0, 0); now = [] } in
    let left : drop c.loop-component.component-index c.args.components.now ≡ get_or c.args.components.now c.loop-component.component-index none ∷ drop (c.loop-component.component-index + 1) c.args.components.now = rw add-one (drop-cons c.args.components.now c.loop-component.component-index none c.loop-component-test.true) in
    let inv = rw left at c.loop-component.invariant in
    more _ inv (rw c.items.ensures at c.in_ok-dirs.ensures.performs)

pub returns-clause-performs : goal.returns-clause-performs
returns-clause-performs g c =
    let none = none_at c.args.components.now c.loop-component.component-index c.loop-component-test.false in
    let inv = rw none at c.loop-component.invariant in
    end inv finish
