use Rattle.std.proofs.Common.{◌≡◌, ◌++◌, drop, map, Bor, List, ℕ}
use Rattle.em_textutil.specs.Jobs.{texts_of}
use Rattle.em_textutil.proofs.texts.texts_of.Given as goal

abbrev pub invariant-loop-source : goal.invariant-loop-source
invariant-loop-source l = map (λ (t : Bor (List ℕ)). t.now) l.texts.items ++ texts_of (drop l.source-index l.sources) ≡ texts_of l.sources
