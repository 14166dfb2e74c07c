-- What a function of the parser returned, as the grammar sees it.
use Rattle.std.specs.Prelude.{ℕ, List, Option, Some, None}
use Rattle.em_lexeme.specs.declared.lexeme.What.{What}
use Rattle.em_grammar.specs.Production.{depth}
use Rattle.em_token.specs.Kinds.{whats}
use Rattle.em_token.specs.Shell.{background, function, positional}
use Rattle.em_token.specs.declared.stop.Why.{Why}
use Rattle.em_token.specs.declared.stop.Why.TheVariants.{Unexpected, Depth, Background, Function, Positional}
use Rattle.em_token.specs.declared.stop.Stop.{Stop}
use Rattle.em_token.specs.declared.stop.Stop.TheVariants.{Fault, NoMemory}

abbrev pub why_code : Why → ℕ
why_code Unexpected = 0
why_code Depth = depth
why_code Background = background
why_code Function = function
why_code Positional = positional

abbrev pub fault_of : Stop → Option (ℕ × List What)
fault_of (Fault why rest) = Some (why_code why, whats rest.now)
fault_of NoMemory = None
