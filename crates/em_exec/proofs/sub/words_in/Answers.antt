use Rattle.std.proofs.Common.{◌∷◌, [], None}
use Rattle.em_view.proofs.Doing.{finish_s}
use Rattle.em_exec.specs.Subs.{form_by}
use Rattle.em_exec.proofs.Lines.{by_form, no_rest, one_rest, more_rest}
use Rattle.em_exec.proofs.sub.words_in.Goals as goal

pub returns-in-empty-clause-does : goal.returns-in-empty-clause-does
returns-in-empty-clause-does g c = by_form (form_by c.args.first.now c.args.rest.now) (form_by c.args.first.now []) (no_rest c.args.first.now c.args.rest.now c.in-empty.len_below) c.pipeline_words.ensures.does

pub returns-in-len1-clause-does : goal.returns-in-len1-clause-does
returns-in-len1-clause-does g c = by_form (form_by c.args.first.now c.args.rest.now) (form_by c.args.first.now (c.joined-item.result ∷ [])) (one_rest c.args.first.now c.args.rest.now c.joined-item.result c.in-len1.len_at_least c.in-len1.len_below c.joined-item.is) c.joined_words.ensures.does

pub returns-in_default-clause-does : goal.returns-in_default-clause-does
returns-in_default-clause-does g c = by_form (form_by c.args.first.now c.args.rest.now) None (more_rest c.args.first.now c.args.rest.now c.in_default.len_at_least) finish_s
