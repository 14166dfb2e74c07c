use Rattle.em_shell_laws.proofs.Quoting.{case_end, and_if, or_if, double_great, great_apart, duplicate}
use Rattle.em_shell_laws.proofs.lexemes.law_operators.Goals as goal

pub returns : goal.returns
returns c = record { case_end = case_end; and_if = and_if; or_if = or_if; double_great = double_great; great_apart = great_apart; duplicate = duplicate }
