use Rattle.std.proofs.Common.{◌≡◌, ◌∙◌, [], sym, ap, map}
use Rattle.em_implicit.specs.Seeking.{matches, seen}
use Rattle.em_implicit.proofs.Following.{lacked}
use Rattle.em_implicit.proofs.Matched.{nothing, something, none_sought}
use Rattle.em_implicit.proofs.seek.find_by.Goals as goal

pub returns-in_err-candidates-clause-asked : goal.returns-in_err-candidates-clause-asked
returns-in_err-candidates-clause-asked g c = lacked g.T.There.asks _ _ _ c.from_residual.ensures.1

pub returns-in_err-candidates-clause-none : goal.returns-in_err-candidates-clause-none
returns-in_err-candidates-clause-none g c = λ h. absurd ((rw c.items.ensures at c.in_err-candidates.ensures.unmatched) h)

pub returns-then-is_empty-clause-asked : goal.returns-then-is_empty-clause-asked
returns-then-is_empty-clause-asked g c =
    let found = c.in_ok-candidates.candidates in
    let none : matches c.args.book.now.patterns c.args.target.now ≡ [] = sym (rw c.items.ensures at c.in_ok-candidates.ensures.all) ∙ ap (map seen) (nothing found.items found.len c.is_empty.result found.ok.0 c.is_empty.ensures c.if-is_empty.true) in
    none_sought g.T.There.asks _ c.args.book.now.rules c.args.book.now.patterns c.args.cwd.now c.args.target.now none

pub returns-in_err-sorted-clause-asked : goal.returns-in_err-sorted-clause-asked
returns-in_err-sorted-clause-asked g c = lacked g.T.There.asks _ _ _ c.from_residual-in_err-sorted.ensures.1

pub returns-in_err-sorted-clause-none : goal.returns-in_err-sorted-clause-none
returns-in_err-sorted-clause-none g c = λ h.
    let found = c.in_ok-candidates.candidates in
    absurd (something found.items found.len c.is_empty.result found.ok.0 c.is_empty.ensures c.if-is_empty.false ((rw c.items.ensures at c.in_ok-candidates.ensures.unmatched) h))

pub returns-clause-none : goal.returns-clause-none
returns-clause-none g c = λ h.
    let found = c.in_ok-candidates.candidates in
    absurd (something found.items found.len c.is_empty.result found.ok.0 c.is_empty.ensures c.if-is_empty.false ((rw c.items.ensures at c.in_ok-candidates.ensures.unmatched) h))
