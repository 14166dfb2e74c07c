use Rattle.em_textutil.proofs.grep.grep_fault.Goals as goal

pub returns-clause-done : goal.returns-clause-done
returns-clause-done c = rw c.bytes.ensures at c.in_ok-fail.ensures.ok
