use Rattle.std.proofs.Common.{◌≡◌, take, map}
use Rattle.em_refs.specs.Parts.{source}
use Rattle.em_reader.proofs.hear.sources.Given as goal

abbrev pub invariant-loop-part : goal.invariant-loop-part
invariant-loop-part l = l.texts ≡ map (source l.bytes) (take l.part-index l.parts)
