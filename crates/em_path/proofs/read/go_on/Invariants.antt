use Rattle.std.proofs.Common.{◌≡◌, ◌==◌, List, ℕ, All, length, take}
use Rattle.std.specs.List.{slice_split}
use Rattle.em_path.specs.Paths.{IsComponent}
use Rattle.em_path.specs.Spelled.{spelled}
use Rattle.em_path.specs.Reading.{walk}
use Rattle.em_path.proofs.read.go_on.Given as goal

abbrev pub invariant-loop-part : goal.invariant-loop-part
invariant-loop-part l = (cs : List (List ℕ)) → All IsComponent cs → l.initial.text.items ≡ spelled cs → l.text.items ≡ spelled (walk cs (take (length l.yielded) (slice_split (λ b. b == 47) l.name)))
