-- Stages of a pipeline, as their last one and those before it.
use Rattle.std.proofs.Common.{◌≡◌, ◌==◌, true, false, List, [], ◌∷◌, ◌++◌, length, refl}
use Rattle.em_syntax.specs.declared.tree.Command.{Command}
use Rattle.em_command.specs.declared.here.Scene.{Scene}
use Rattle.em_command.specs.Jumps.{Acts}
use Rattle.em_exec.specs.Words.{Deeper}
use Rattle.em_exec.specs.Running.{if_last, piped, stages}

pub not_last : (cs : List Command) (c : Command) (a b : Acts (Unit {0})) → if_last (cs ++ c ∷ []) a b ≡ b
not_last [] c a b = refl
not_last (x ∷ cs) c a b = refl

pub some_piped : (deeper : Deeper) (scene : Scene) (cs : List Command) (c : Command) → (length cs == 0) ≡ false → stages deeper scene (cs ++ c ∷ []) ≡ piped deeper [] (cs ++ c ∷ [])
some_piped deeper scene [] c e = absurd (let no : true ≡ false = e in cc)
some_piped deeper scene (x ∷ []) c e = refl
some_piped deeper scene (x ∷ y ∷ cs) c e = refl
