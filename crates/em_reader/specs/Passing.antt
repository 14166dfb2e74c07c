-- Lines that are passed over in a branch of a conditional that isn't read.
use Rattle.std.specs.Prelude.{Bool, true, false, ◌||◌, not}
use Rattle.em_lines.specs.declared.line.Line.{Line}
use Rattle.em_statement.specs.declared.statement.Statement.{Statement}
use Rattle.em_statement.specs.declared.statement.Statement.TheVariants as statement
use Rattle.em_statement.specs.Statements.{statement_of}

-- the lines that a conditional consists of, also with something behind `else` or `endif`
abbrev pub is_conditional : Statement → Bool
is_conditional (statement.If c) = true
is_conditional (statement.ElseIf c) = true
is_conditional statement.Else = true
is_conditional statement.Endif = true
is_conditional statement.Extraneous = true
is_conditional s = false

abbrev pub is_passed : Line → Bool
is_passed l = l.tab || not (is_conditional (statement_of l.text))
