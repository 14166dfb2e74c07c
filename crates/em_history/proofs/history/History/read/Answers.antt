use Rattle.std.proofs.Common.{◌∙◌, sym}
use Rattle.em_history.proofs.Reading.{reading_long, reading_is, reading_none}
use Rattle.em_history.proofs.history.History.read.Goals as goal

pub returns-then-bytes-gt-LIMIT-clause-history : goal.returns-then-bytes-gt-LIMIT-clause-history
returns-then-bytes-gt-LIMIT-clause-history c = c.new.ensures ∙ sym (reading_long c.args.bytes.now c.if-bytes-gt-LIMIT.true)

pub returns-in-Some-clause-history : goal.returns-in-Some-clause-history
returns-in-Some-clause-history c = let h = rw c.in-Some.is at c.in_ok-held.ensures in
    sym (reading_is c.args.bytes.now c.in-Some.held.items h.pairs.0 h.pairs.1 c.if-bytes-gt-LIMIT.false)

pub returns-in-None-clause-history : goal.returns-in-None-clause-history
returns-in-None-clause-history c = let none = rw c.in-None.is at c.in_ok-held.ensures in
    c.new-in-None.ensures ∙ sym (reading_none c.args.bytes.now none.pairs)
