use Rattle.std.proofs.Common.{◌≡◌, ◌∙◌, sym, true, false}
use Rattle.em_rules.specs.Rules.{is_mentioned}
use Rattle.em_implicit.specs.Asking.{Here}
use Rattle.em_implicit.proofs.Following.{single, lacked}
use Rattle.em_implicit.proofs.applying.Known.name_there.Goals as goal

pub returns-then-is_mentioned-clause-asked : goal.returns-then-is_mentioned-clause-asked
returns-then-is_mentioned-clause-asked g c =
    let is : is_mentioned c.args.self.now.rules.now c.args.name.now ≡ true = sym c.is_mentioned.ensures ∙ c.if-is_mentioned.true in
    rw is (Here _ _)

pub returns-in_err-path-clause-asked : goal.returns-in_err-path-clause-asked
returns-in_err-path-clause-asked g c = lacked g.T.There.asks _ _ _ c.from_residual.ensures.1

-- the name is no path
pub returns-in_default-clause-asked : goal.returns-in_default-clause-asked
returns-in_default-clause-asked g c =
    let isnt : is_mentioned c.args.self.now.rules.now c.args.name.now ≡ false = sym c.is_mentioned.ensures ∙ c.if-is_mentioned.false in
    rw (isnt, sym c.in_ok-path.ensures ∙ c.in_default.is) (Here _ _)

pub returns-clause-asked : goal.returns-clause-asked
returns-clause-asked g c =
    let isnt : is_mentioned c.args.self.now.rules.now c.args.name.now ≡ false = sym c.is_mentioned.ensures ∙ c.if-is_mentioned.false in
    rw (isnt, sym c.in_ok-path.ensures ∙ c.in-Some.is) (single g.T.There.asks _ _ _ _ c.is_there.ensures.asked)
