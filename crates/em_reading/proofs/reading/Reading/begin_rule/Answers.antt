use Rattle.std.proofs.Common.{◌∙◌, sym}
use Rattle.em_rules.specs.Books.{line_fault}
use Rattle.em_reading.proofs.Beginning.{begins}
use Rattle.em_reading.proofs.reading.Reading.begin_rule.Goals as goal

pub returns-in_ok-undotted_rule-in-Ok : goal.returns-in_ok-undotted_rule-in-Ok
returns-in_ok-undotted_rule-in-Ok c = λ _. begins c.args.self.now c.args.rule c.in-Ok.rule c.in_ok-undotted_rule-in-Ok.field-0 c.len-self.result (line_fault c.args.self.now.book.rules c.args.rule) (sym c.judged.ensures ∙ c.in-Ok.is) c.in_ok-undotted_rule-in-Ok.ensures c.len-self.ensures
