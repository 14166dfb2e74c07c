use Rattle.std.proofs.Common.{false, drop, arith, sym, ap, subst, ◌∙◌}
use Rattle.std.specs.List.{list_all}
use Rattle.std.proofs.lemmas.List.{take_rest}
use Rattle.em_glob.specs.Patterns.{is_star, pieces}
use Rattle.em_glob.proofs.Fitting.{only_stars}
use Rattle.em_glob.proofs.Way.{Way, way_star, way_on, way_back, way_over, way_end}
use Rattle.em_glob.proofs.Matching.{tells}
use Rattle.em_glob.proofs.pattern.matches.Goals as goal

pub loop-at-preserved-then-is_star_at : goal.loop-at-preserved-then-is_star_at
loop-at-preserved-then-is_star_at c =
    let any = sym c.is_star_at.ensures ∙ c.if-is_star_at.true in
    way_star c.args.pattern.now c.args.name.now c.loop-at.at c.loop-at.star c.loop-at.invariant any

pub loop-at-preserved-in-Some : goal.loop-at-preserved-in-Some
loop-at-preserved-in-Some c =
    way_on c.args.pattern.now c.args.name.now c.loop-at.at c.loop-at.star c.in-Some.glyph
    c.loop-at.invariant c.loop-at-test.true (omega (arith, c.in-Some.ensures.within)) c.in-Some.ensures.passed

pub loop-at-preserved : goal.loop-at-preserved
loop-at-preserved c =
    let way = subst (Way c.args.pattern.now c.args.name.now c.loop-at.at) c.in-Some-star.is c.loop-at.invariant in
    let any = sym c.is_star_at.ensures ∙ c.if-is_star_at.false in
    way_back c.args.pattern.now c.args.name.now c.loop-at.at c.in-Some-star.last way
    (c.loop-at-test.true, any, c.in_default.ensures.passed)

pub returns-in_default-star-clause-test : goal.returns-in_default-star-clause-test
returns-in_default-star-clause-test c =
    let way = subst (Way c.args.pattern.now c.args.name.now c.loop-at.at) c.in_default-star.is c.loop-at.invariant in
    let any = sym c.is_star_at.ensures ∙ c.if-is_star_at.false in
    way_over c.args.pattern.now c.args.name.now c.loop-at.at way (c.loop-at-test.true, any, c.in_default.ensures.passed)

pub returns-in_default-star-clause-matches : goal.returns-in_default-star-clause-matches
returns-in_default-star-clause-matches c =
    tells false (pieces c.args.pattern.now) c.args.name.now (returns-in_default-star-clause-test c)

pub returns-clause-test : goal.returns-clause-test
returns-clause-test c =
    let p = c.loop-at.at.glyph in
    c.only_stars.ensures ∙ ap (list_all is_star) (take_rest c.args.pattern.now p)
    ∙ only_stars (drop p c.args.pattern.now)
    ∙ way_end c.args.pattern.now c.args.name.now c.loop-at.at c.loop-at.star c.loop-at.invariant c.loop-at-test.false

pub returns-clause-matches : goal.returns-clause-matches
returns-clause-matches c =
    tells c.only_stars.result (pieces c.args.pattern.now) c.args.name.now (returns-clause-test c)
