use Rattle.std.proofs.Common.{◌≡◌, ◌<◌, ◌⊎◌, ◌&&◌, false, length, get_or, arith, ap, sym, ◌∙◌}
use Rattle.std.specs.Prelude.{nat_le}
use Rattle.std.proofs.lemmas.List.{take_rest}
use Rattle.em_glob.specs.declared.glyph.Glyph.{Glyph}
use Rattle.em_glob.specs.Patterns.{has, is_dash}
use Rattle.em_glob.proofs.Reading.{has_own, has_range}
use Rattle.em_glob.proofs.piece.has.Goals as goal

abbrev none : Glyph
none = record { byte = 0; quoted = false }

pub loop-rest-preserved-then-is_bare : goal.loop-rest-preserved-then-is_bare
loop-rest-preserved-then-is_bare c =
    let rest = c.loop-rest.rest.now in
    let out : (nat_le (get_or rest 0 none).byte c.args.byte && nat_le c.args.byte (get_or rest 2 none).byte) ≡ false = grind arith in
    c.loop-rest.invariant
    ∙ has_range rest c.args.byte none (omega arith) (sym c.is_bare.ensures ∙ c.if-is_bare.true) out
    ∙ ap (λ gs. has gs c.args.byte) (sym (take_rest rest 3))

pub loop-rest-preserved : goal.loop-rest-preserved
loop-rest-preserved c =
    let rest = c.loop-rest.rest.now in
    let plain : (length rest < 3) ⊎ (is_dash (get_or rest 1 none) ≡ false) = grind arith in
    c.loop-rest.invariant ∙ has_own rest c.args.byte none c.if-own-byte.false plain
    ∙ ap (λ gs. has gs c.args.byte) (sym (take_rest rest 1))
