use Rattle.std.proofs.Common.{◌≡◌, ◌∙◌, sym, true}
use Rattle.em_rules.specs.Rules.{is_phony}
use Rattle.em_implicit.specs.Asking.{Here}
use Rattle.em_plan.proofs.making.RuleContext.found_for.Goals as goal

pub returns-then-is_phony-clause-asked : goal.returns-then-is_phony-clause-asked
returns-then-is_phony-clause-asked g c =
    let is : is_phony c.args.self.now.book.now.rules c.args.name.now ≡ true = sym c.is_phony.ensures ∙ c.if-is_phony.true in
    rw is (Here _ _)
