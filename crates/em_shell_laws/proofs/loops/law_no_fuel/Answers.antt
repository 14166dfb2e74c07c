use Rattle.em_shell_laws.proofs.Lasting.{script_makes_none, line_makes_none}
use Rattle.em_shell_laws.proofs.loops.law_no_fuel.Goals as goal

pub returns : goal.returns
returns c = record { script = script_makes_none; line = line_makes_none }
