use Rattle.em_host.proofs.mem.MemHostHost.take.Goals as goal

pub returns-clause-fails : goal.returns-clause-fails
returns-clause-fails c = λ h. rw (← c.self.view_is) (c.in_ok-begun.ensures.chosen.0 (c.copied-answer.ensures.fails.0 h))
