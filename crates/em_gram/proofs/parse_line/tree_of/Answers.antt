use Rattle.std.proofs.Common.{List, IfErr, subst}
use Rattle.em_lexeme.specs.declared.lexeme.Lexeme.{Lexeme}
use Rattle.em_gram.specs.Line.{IsFault, lexed_of}
use Rattle.em_gram.proofs.Whole.{lexed_same}
use Rattle.em_gram.proofs.parse_line.tree_of.Goals as goal

pub returns-in-Err-Fault-clause-fault : goal.returns-in-Err-Fault-clause-fault
returns-in-Err-Fault-clause-fault c = lexed_same c.args.lexed c.items-tokens.result.now c.args.length c.fault_or_stop.result c.items-tokens.ensures c.fault_or_stop.ensures

pub returns-in-Ok-clause-fault : goal.returns-in-Ok-clause-fault
returns-in-Ok-clause-fault c = subst (λ (l : List Lexeme). IfErr c.whole.result (λ e. IsFault (lexed_of l c.args.lexed.stop) c.args.length e)) c.items-tokens.ensures c.whole.ensures.fault
