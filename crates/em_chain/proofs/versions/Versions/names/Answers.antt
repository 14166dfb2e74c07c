use Rattle.std.proofs.Common.{◌∙◌, ap, refl, Some, List, ℕ}
use Rattle.em_chain.proofs.Naming.{names_listed}
use Rattle.em_chain.proofs.versions.Versions.names.Goals as goal

pub returns-clause-ok : goal.returns-clause-ok
returns-clause-ok c = ap (λ (ns : List (List ℕ)). Some ns) c.in_ok-list_of.ensures ∙ names_listed _ c.args.p.now c.lay_all.new.set.keys c.text-text.ensures.path (c.if-not-is_dir.ensures.0 refl) c.in_ok-lay_all.ensures
