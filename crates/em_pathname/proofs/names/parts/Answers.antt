use Rattle.std.proofs.Common.{rules, tests, Ok, Bor, List}
use Rattle.std.specs.List.{slice_split}
use Rattle.std.proofs.lemmas.Iterator.Consumers.{map_from_collect}
use Rattle.std.proofs.lemmas.Iterator.Splits.{YieldsList-from_slice_split}
use Rattle.em_glob.specs.declared.glyph.Glyph.{Glyph}
use Rattle.em_pathname.specs.Walking.{is_slash}
use Rattle.em_pathname.proofs.names.parts.Goals as goal

pub returns : goal.returns
returns c = map_from_collect {E = Unit {0}} {v = λ (w : Bor (List Glyph)). w.now} {s = c.split.result} {all = slice_split is_slash c.args.pattern.now} (Ok c.in_ok-collect.field-0) c.in_ok-collect.ensures.ran (YieldsList-from_slice_split _ is_slash c.args.pattern.now c.split.ensures.rest c.split.ensures.done c.split.ensures.closure (λ x r q k. search (rules, tests)))
