use Rattle.std.proofs.Common.{◌≡◌, ◌∙◌, ap, refl, rules, tests, Option, None, Some, option_map, List}
use Rattle.std.specs.List.{find}
use Rattle.std.specs.Borrow.{Bor}
use Rattle.std.proofs.lemmas.Iterator.{YieldsList-from_slice}
use Rattle.std.proofs.lemmas.Iterator.Search.{find_from_yields_List}
use Rattle.em_base.proofs.Lemmas.{find_map}
use Rattle.em_fileutil.specs.declared.table.UtilityRow.{UtilityRow}
use Rattle.em_fileutil.specs.Table.{Row, row_of, is_named, utility_of}
use Rattle.em_fileutil.proofs.table.utility_of.Goals as goal

both : (o : Option (Bor UtilityRow)) → option_map (λ e. row_of e.now) o ≡ option_map row_of (option_map (λ e. e.now) o)
both None = refl
both (Some e) = refl

pub returns : goal.returns
unfolding utility_of
returns c =
    let name = c.args.name.now in
    let found = find_from_yields_List (λ (e : UtilityRow). is_named name (row_of e)) _ _ c.find.result c.find.ensures.ran (YieldsList-from_slice _ c.iter.ensures.rest) (λ x b q k. search (rules, tests)) in
    both c.find.result ∙ ap (option_map row_of) found ∙ find_map (is_named name) row_of c.utilities.result.now ∙ ap (λ (rows : List Row). find (is_named name) rows) c.utilities.ensures
