use Rattle.std.proofs.Common.{rules, tests, Ok, Bor, List}
use Rattle.std.specs.List.{slice_split}
use Rattle.std.proofs.lemmas.Iterator.Consumers.{map_from_collect}
use Rattle.std.proofs.lemmas.Iterator.Splits.{YieldsList-from_slice_split}
use Rattle.em_fields.specs.declared.part.Part.{Part}
use Rattle.em_fields.specs.Parts.{is_break}
use Rattle.em_fields.proofs.split.between.Goals as goal

pub returns : goal.returns
returns c = map_from_collect {E = Unit {0}} {v = λ (w : Bor (List Part)). w.now} {s = c.split.result} {all = slice_split is_break c.args.parts.now} (Ok c.in_ok-collect.field-0) c.in_ok-collect.ensures.ran (YieldsList-from_slice_split _ is_break c.args.parts.now c.split.ensures.rest c.split.ensures.done c.split.ensures.closure (λ x r q k. search (rules, tests)))
