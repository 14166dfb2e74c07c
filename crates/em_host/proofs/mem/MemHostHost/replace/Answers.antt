use Rattle.em_host.proofs.mem.MemHostHost.replace.Goals as goal

pub returns-clause-fails : goal.returns-clause-fails
returns-clause-fails c = λ h. rw (← c.self.view_is) (c.in_ok-begun.ensures.chosen.0 (c.written-answer.ensures.fails.0 h))
