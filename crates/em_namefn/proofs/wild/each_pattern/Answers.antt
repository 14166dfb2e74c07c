use Rattle.std.proofs.Common.{◌≡◌, ◌+◌, ◌<◌, ◌∷◌, [], List, ℕ, Bor, length, drop, get_or, refl, add-one, drop-cons}
use Rattle.em_view.proofs.Performing.{more, stop, end, then, finish, ran_out}
use Rattle.em_base.proofs.Lemmas.{none_at}
use Rattle.em_namefn.proofs.wild.each_pattern.Goals as goal

abbrev none : Bor (List ℕ)
none = record { ref_ptr = (0, 0); now = [] }

left : (ps : List (Bor (List ℕ))) (i : ℕ) → i < length ps → drop i ps ≡ get_or ps i none ∷ drop (i + 1) ps
left ps i low = rw add-one (drop-cons ps i none low)

pub returns-in_err-glyphs-clause-performs : goal.returns-in_err-glyphs-clause-performs
returns-in_err-glyphs-clause-performs g c = end c.loop-pattern.invariant (ran_out _ refl c.from_residual.ensures.1)

pub returns-in_err-more-clause-performs : goal.returns-in_err-more-clause-performs
returns-in_err-more-clause-performs g c =
    let inv = rw (left c.args.patterns.now c.loop-pattern.pattern-index c.loop-pattern-test.true) at c.loop-pattern.invariant in
    stop _ inv c.from_residual-in_err-more.ensures.1 (rw (c.deref.ensures.value, c.in_ok-glyphs.ensures) at c.in_err-more.ensures.performs)

pub returns-in_err-all-clause-performs : goal.returns-in_err-all-clause-performs
returns-in_err-all-clause-performs g c =
    let inv = rw (left c.args.patterns.now c.loop-pattern.pattern-index c.loop-pattern-test.true) at c.loop-pattern.invariant in
    end inv (then _ (rw (c.deref.ensures.value, c.in_ok-glyphs.ensures) at c.in_ok-more.ensures.performs) (ran_out _ refl c.from_residual-in_err-all.ensures.1))

pub loop-pattern-preserved : goal.loop-pattern-preserved
loop-pattern-preserved g c =
    let inv = rw (left c.args.patterns.now c.loop-pattern.pattern-index c.loop-pattern-test.true) at c.loop-pattern.invariant in
    rw c.in_ok-all.ensures (more _ inv (rw (c.deref.ensures.value, c.in_ok-glyphs.ensures) at c.in_ok-more.ensures.performs))

pub returns-clause-performs : goal.returns-clause-performs
returns-clause-performs g c =
    let over = none_at c.args.patterns.now c.loop-pattern.pattern-index c.loop-pattern-test.false in
    let inv = rw over at c.loop-pattern.invariant in
    end inv finish
