use Rattle.std.proofs.Common.{sym, ◌∙◌}
use Rattle.em_program.proofs.Numbers.{spec_count, numbered, flagged, waits_count, waits_lower}
use Rattle.em_program.proofs.project.assembled.Goals as goal

pub specs-requires-clause-base : goal.specs-requires-clause-base
specs-requires-clause-base c = rw c.base.ensures.base c.requires.room

pub returns-clause-ready : goal.returns-clause-ready
returns-clause-ready c = record {
  bare = c.requires.site.bare;
  few = rw (c.from_vec.ensures, c.in_ok-specs.ensures, spec_count _ _ _ c.args.plan.jobs) c.requires.few;
  numbered = rw (c.from_vec.ensures, c.in_ok-specs.ensures) (numbered _ _ _ c.args.plan.jobs);
  count = rw (c.in_ok-waits.ensures, c.items.ensures, c.from_vec.ensures, c.in_ok-specs.ensures) (waits_count _ c.args.plan.jobs ∙ sym (spec_count _ _ _ c.args.plan.jobs));
  lower = rw (c.in_ok-waits.ensures, c.items.ensures) (waits_lower _ c.args.plan.jobs);
  flags = rw (c.from_vec.ensures, c.in_ok-specs.ensures) (flagged _ _ _ c.args.plan.jobs);
  ranges = c.requires.site.ranges;
}
