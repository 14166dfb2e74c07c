-- Lines that are read, one after another.
use Rattle.std.proofs.Common.{◌≡◌, List, [], ◌∷◌, ◌++◌}
use Rattle.em_script.specs.Lines as script
use Rattle.em_job.specs.declared.prepare.Placed.{Placed}
use Rattle.em_job.specs.declared.ready.ParsedLine.{ParsedLine}
use Rattle.em_job.specs.Carrying.{AreRead}

pub read_more : (ps : List Placed) (rs : List ParsedLine) (p : Placed) (r : ParsedLine) → AreRead ps rs → r.placed ≡ p → script.IsRead p.command.text r.line → AreRead (ps ++ p ∷ []) (rs ++ r ∷ [])
read_more [] [] p r all same read = (same, (read, tt))
read_more [] (r ∷ rs) p q all same read = absurd all
read_more (p ∷ ps) [] q r all same read = absurd all
read_more (p ∷ ps) (r ∷ rs) q s all same read = (all.0, (all.1.0, read_more ps rs q s all.1.1 same read))
