use Rattle.std.proofs.Common.{◌∙◌, sym, ap}
use Rattle.em_word.specs.Held.{plan_of, mode_of, IsCounted}
use Rattle.em_word.proofs.Stepping.{is_same}
use Rattle.em_word.proofs.Landing.{led, none_open, left_plan}
use Rattle.em_word.proofs.expander.Expander.leave.Goals as goal

pub returns-in_default-clause-steps : goal.returns-in_default-clause-steps
unfolding IsCounted
returns-in_default-clause-steps g c = record {
  leads = is_same (none_open c.args.self.now c.requires.runs c.in_default.ensures.0 ∙ ap (λ o. plan_of (record c.args.self.now { outer = o })) (c.in_default.ensures.0 ∙ sym c.in_default.ensures.1));
  steady = record { runs = c.requires.runs; counted = c.requires.counted };
}

pub close-requires : goal.close-requires
unfolding IsCounted
close-requires g c = record { runs = c.requires.runs; counted = c.requires.counted }

pub returns-clause-steps : goal.returns-clause-steps
unfolding mode_of
returns-clause-steps g c = led _ _ (is_same (left_plan c.args.self.now c.in-Some.open _ _ _ c.in-Some.ensures c.replace-argument.ensures.value c.replace-argument.ensures.after)) c.close.result c.close.ensures.steps
