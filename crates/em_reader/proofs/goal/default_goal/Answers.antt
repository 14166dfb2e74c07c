use Rattle.std.proofs.Common.{◌∙◌, refl, sym, ap}
use Rattle.em_view.proofs.Doing.{out_s, owned_s}
use Rattle.std.specs.Prelude.{codes, option_copied}
use Rattle.em_vars.specs.Entries.{value_of}
use Rattle.em_reading.specs.declared.reading.Reading.{Reading}
use Rattle.em_reader.specs.Makefiles.{default_goal, goal_by}
use Rattle.em_reader.proofs.States.{on_state}
use Rattle.em_reader.proofs.goal.default_goal.Goals as goal

pub returns-in_default : goal.returns-in_default
unfolding default_goal
returns-in_default g c = on_state (λ (r : Reading). goal_by c.args.place.now (value_of r.book.vars (codes ".DEFAULT_GOAL")))
    (rw (sym c.get.ensures ∙ ap option_copied c.in_default.is) (owned_s _ c.set_goal.ensures))

pub returns-in_err-text : goal.returns-in_err-text
unfolding default_goal
returns-in_err-text g c = out_s _ refl c.from_residual.ensures.1

pub returns-in-Simple : goal.returns-in-Simple
unfolding default_goal
returns-in-Simple g c = on_state (λ (r : Reading). goal_by c.args.place.now (value_of r.book.vars (codes ".DEFAULT_GOAL")))
    (rw (sym c.get.ensures ∙ ap option_copied c.in-Some.is, c.in-Simple.is) (owned_s _ (rw (c.bytes.ensures, c.in_ok-text.ensures) at c.set_goal-in-Simple.ensures)))

pub returns : goal.returns
unfolding default_goal
returns g c = on_state (λ (r : Reading). goal_by c.args.place.now (value_of r.book.vars (codes ".DEFAULT_GOAL")))
    (rw (sym c.get.ensures ∙ ap option_copied c.in-Some.is, c.in-Recursive.is) (rw (c.bytes-in-Recursive.ensures, c.in_ok-text.ensures) at c.expanded_goal.ensures))
