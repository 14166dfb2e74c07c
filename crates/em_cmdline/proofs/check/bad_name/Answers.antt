use Rattle.std.proofs.Common.{rules, tests}
use Rattle.std.proofs.lemmas.Iterator.{YieldsList-from_slice}
use Rattle.std.proofs.lemmas.Iterator.Consumers.{YieldsList-from_copied}
use Rattle.std.proofs.lemmas.Iterator.Search.{find_from_yields_List}
use Rattle.em_cmdline.specs.Words.{has_bad_name}
use Rattle.em_cmdline.proofs.Found.{Str, found_text}
use Rattle.em_cmdline.proofs.check.bad_name.Goals as goal

pub returns : goal.returns
returns c = found_text has_bad_name c.in_ok-others.field-0.now _ c.find.result c.in_ok-others.ensures
    (find_from_yields_List (λ (s : Str). has_bad_name s.now) _ _ _ c.find.ensures.ran (YieldsList-from_copied (YieldsList-from_slice c.in_ok-others.field-0.now cc)) (λ x b q k. search (rules, tests)))
