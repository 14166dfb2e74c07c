use Rattle.std.proofs.Common.{◌+◌, Some, None, arith, sym, ap, ◌∙◌}
use Rattle.std.specs.Prelude.{option_map}
use Rattle.em_glob.proofs.Reading.{no_end, end_in}
use Rattle.em_glob.proofs.piece.list_end.Goals as goal

pub returns-then-closed-start-clause-end : goal.returns-then-closed-start-clause-end
returns-then-closed-start-clause-end c =
    let none = no_end c.args.pattern.now c.args.closed c.args.start c.if-closed-start.true c.requires.rest in
    sym (ap (option_map (λ n. c.args.start + n)) none)

pub returns-in_err-more-clause-end : goal.returns-in_err-more-clause-end
returns-in_err-more-clause-end c =
    let none = sym c.closing_at.ensures ∙ c.in_err-more.was in
    let rest = end_in c.args.pattern.now c.args.closed c.args.start None c.if-closed-start.false c.requires.rest none in
    c.from_residual.ensures ∙ sym (ap (option_map (λ n. c.args.start + n)) rest)

pub returns-clause-end : goal.returns-clause-end
returns-clause-end c =
    let some = sym c.closing_at.ensures ∙ c.in_ok-more.was in
    let rest = end_in c.args.pattern.now c.args.closed c.args.start _ c.if-closed-start.false c.requires.rest some in
    ap Some (omega arith) ∙ sym (ap (option_map (λ n. c.args.start + n)) rest)
