use Rattle.std.proofs.Common.{◌≡◌, ◌∙◌, ap, sym, subst, []}
use Rattle.std.specs.Prelude.{option_copied}
use Rattle.em_tree.specs.Usages.{cleared}
use Rattle.em_tree.proofs.Keeping.{nowhere}
use Rattle.em_tree.proofs.usage.Look.way.Goals as goal

pub returns-in_default : goal.returns-in_default
returns-in_default c = subst (λ p. cleared c.args.self.now.clear p ≡ []) (ap option_copied (sym c.in_default.is) ∙ c.path_in.ensures) (nowhere c.args.self.now.clear)
