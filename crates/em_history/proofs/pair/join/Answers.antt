use Rattle.std.proofs.Common.{◌≡◌, ◌∙◌, List, [], ap}
use Rattle.em_history.specs.Histories.{Pair, united}
use Rattle.em_history.proofs.Lines.{joined}
use Rattle.em_history.proofs.pair.join.Goals as goal

pub returns-else-is_err-clause-ok : goal.returns-else-is_err-clause-ok
returns-else-is_err-clause-ok c =
    let all : united c.append.new.self.items [] ≡ united c.args.more.now.items c.args.held.now.items = ap (λ (ps : List Pair). united ps []) c.in_ok-append.ensures.items ∙ joined c.args.held.now.items c.args.more.now.items c.requires.held c.requires.more in
    rw (← all) c.gather-gathered.ensures.ok
