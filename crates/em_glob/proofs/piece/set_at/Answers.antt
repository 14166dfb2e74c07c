use Rattle.std.proofs.Common.{◌≡◌, Bool, true, false, cond, ◌+◌, ◌-◌, refl, sym, ap, ◌∙◌}
use mir.Val.{bool_byte}
use Rattle.std.proofs.lemmas.List.{take_rest}
use Rattle.em_glob.specs.Patterns.{is_negated}
use Rattle.em_glob.proofs.Reading.{set_read}
use Rattle.em_glob.proofs.piece.set_at.Goals as goal

one : (b : Bool) → bool_byte b ≡ cond b 1 0
one true = refl
one false = refl

pub returns-clause-set : goal.returns-clause-set
returns-clause-set c =
    let pattern = c.args.pattern.now in
    let start = c.args.at + 1 + c.from.result in
    let negated = sym (c.is_negated-negated.ensures ∙ ap is_negated (take_rest pattern (c.args.at + 1))) in
    let begins = ap (λ n. c.args.at + 1 + n) (c.from.ensures ∙ one c.is_negated-negated.result) in
    let read = set_read pattern c.args.at start c.in_ok-end.end _ negated begins c.in_ok-end.ensures.end in
    read ∙ ap (λ p. (p, c.in_ok-end.end + 1 - (c.args.at + 1))) (sym c.set.ensures)
