use Rattle.std.proofs.Common.{◌≡◌, ◌∙◌, ◌||◌, ◌+◌, drop, Bool, true, false, refl, sym}
use Rattle.em_base.proofs.Lemmas.{left_at, none_at}
use Rattle.em_textutil.specs.Jobs.{has_line, some_line}
use Rattle.em_textutil.proofs.grep.grep_each.Goals as goal

or_assoc : (a b c : Bool) → ((a || b) || c) ≡ (a || (b || c))
or_assoc true b c = refl
or_assoc false b c = refl

or_false : (a : Bool) → (a || false) ≡ a
or_false true = refl
or_false false = refl

pub loop-source-preserved : goal.loop-source-preserved
loop-source-preserved c =
    let left = left_at c.args.sources.now c.loop-source.source-index c.source-item.result c.loop-source-test.true c.source-item.is in
    let inv = rw left at c.loop-source.invariant in
    (rw c.in_ok-here.ensures.done inv.0, rw (c.either-some.ensures, c.in_ok-here.ensures.some) (or_assoc c.loop-source.some (has_line c.args.grep.now c.source-item.result.found) (some_line c.args.grep.now (drop (c.loop-source.source-index + 1) c.args.sources.now)) ∙ inv.1))

pub returns-clause-done : goal.returns-clause-done
returns-clause-done c =
    let none = none_at c.args.sources.now c.loop-source.source-index c.loop-source-test.false in
    let inv = rw none at c.loop-source.invariant in inv.0

pub returns-clause-some : goal.returns-clause-some
returns-clause-some c =
    let none = none_at c.args.sources.now c.loop-source.source-index c.loop-source-test.false in
    let inv = rw none at c.loop-source.invariant in sym (or_false _) ∙ inv.1
