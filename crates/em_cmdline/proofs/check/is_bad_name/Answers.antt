use Rattle.std.proofs.Common.{◌∙◌, ◌||◌, ap, sym, rules, tests}
use Rattle.std.proofs.lemmas.Iterator.{YieldsList-from_slice}
use Rattle.std.proofs.lemmas.Iterator.Search.{any_from_yields_List}
use Rattle.std.specs.List.{list_any}
use Rattle.em_cmdline.specs.Words.{breaks_name}
use Rattle.em_cmdline.proofs.check.is_bad_name.Goals as goal

pub returns-else-is_empty : goal.returns-else-is_empty
returns-else-is_empty c =
    any_from_yields_List breaks_name _ _ _ c.any.ensures.ran (YieldsList-from_slice c.args.name.now cc) (λ x b q k. search (rules, tests))
    ∙ ap (λ empty. empty || list_any breaks_name c.args.name.now) (sym c.if-is_empty.false ∙ c.is_empty.ensures)
