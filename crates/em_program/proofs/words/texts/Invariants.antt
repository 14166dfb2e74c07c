use Rattle.std.proofs.Common.{◌≡◌, ◌++◌, map, string_bytes}
use Rattle.std.specs.Vec.Iter.{into_iter_items}
use Rattle.em_program.proofs.words.texts.Given as goal

abbrev pub invariant-loop-arg : goal.invariant-loop-arg
invariant-loop-arg l = l.texts ++ map (λ s. string_bytes s) (into_iter_items l.arg-iterator) ≡ map (λ s. string_bytes s) (into_iter_items l.fn.args)
