use Rattle.std.proofs.Common.{◌∙◌, ap, sym, rules, tests, ℕ, List}
use Rattle.std.specs.List.{list_any}
use Rattle.std.specs.Str.{bytes_eq}
use Rattle.std.specs.Borrow.{Bor}
use Rattle.std.proofs.lemmas.Iterator.{YieldsList-from_slice}
use Rattle.std.proofs.lemmas.Iterator.Search.{any_from_yields_List}
use Rattle.em_base.proofs.Lemmas.{any_map}
use Rattle.em_command.proofs.command.is_refused.Goals as goal

pub returns : goal.returns
returns c =
    let name = c.args.name.now in
    let found = any_from_yields_List (λ (n : Bor (List ℕ)). bytes_eq name n.now) _ _ c.any.result c.any.ensures.ran (YieldsList-from_slice _ c.iter.ensures.rest) (λ x b q k. search (rules, tests)) in
    found ∙ sym (any_map (bytes_eq name) (λ (n : Bor (List ℕ)). n.now) c.refused_names.result.now) ∙ ap (list_any (bytes_eq name)) c.refused_names.ensures
