use Rattle.std.proofs.Common.{ap, inl, Some}
use Rattle.em_gram.proofs.parse_line.stopped.Goals as goal

pub returns-in-Unclosed : goal.returns-in-Unclosed
returns-in-Unclosed c = λ items len g. record { goes_on = g; stop = ap Some c.in-Unclosed.is }

pub returns-in-Refused : goal.returns-in-Refused
returns-in-Refused c = λ items len g. inl (record { goes_on = g; stop = ap Some c.in-Refused.is })
