use Rattle.em_host.proofs.mem.MemHostHost.print.Goals as goal

pub returns-clause-fails : goal.returns-clause-fails
returns-clause-fails c = λ h. rw (← c.self.view_is) (c.in_ok-begun.ensures.chosen.0 (c.appended-answer.ensures.fails.0 h))
