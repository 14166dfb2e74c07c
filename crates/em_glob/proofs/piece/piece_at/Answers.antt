use Rattle.std.proofs.Common.{◌≡◌, ◌<◌, ◌+◌, ◌-◌, ◌∷◌, length, drop, get_or, arith, rules, sym, ap, ◌∙◌}
use Rattle.em_glob.specs.Patterns.{pieces}
use Rattle.em_glob.specs.Steps.{meant}
use Rattle.em_glob.proofs.Reading.{pieces_at, set_first}
use Rattle.em_glob.proofs.piece.piece_at.Goals as goal

pub returns-in-Some-clause-pieces : goal.returns-in-Some-clause-pieces
returns-in-Some-clause-pieces c =
    let pattern = c.args.pattern.now in
    let at = c.args.at in
    let glyph = c.in_ok-glyph.field-0.now in
    let end = c.in-Some.set.1 in
    let p = meant c.in-Some.set.0 in
    let inside : at < length pattern = search rules in
    let is : glyph ≡ get_or pattern at glyph = search rules in
    let star = sym c.is_bare.ensures ∙ c.if-is_bare.false in
    let question = sym c.is_bare-else-is_bare.ensures ∙ c.if-is_bare-2.false in
    let opening = sym c.is_bare-else-is_bare-2.ensures ∙ c.if-is_bare-3.true in
    let behind : at + 1 + (end - (at + 1)) ≡ end = omega (arith, c.in-Some.ensures.within) in
    let first = set_first glyph (drop (at + 1) pattern) (p, end - (at + 1)) star question opening c.in-Some.ensures.set in
    pieces_at pattern at glyph p (end - (at + 1)) inside is first
    ∙ ap (λ n. p ∷ pieces (drop n pattern)) behind
