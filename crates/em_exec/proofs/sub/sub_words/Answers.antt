use Rattle.std.proofs.Common.{◌∙◌, None, sym, ap}
use Rattle.em_view.proofs.Doing.{finish_s}
use Rattle.em_syntax.specs.declared.tree.AndOr.{out-AndOr}
use Rattle.em_exec.specs.Subs.{sub_form, form_in, form_by}
use Rattle.em_exec.proofs.Lines.{by_form, no_list, one_list, more_list}
use Rattle.em_exec.proofs.sub.sub_words.Goals as goal

pub returns-in-empty-clause-does : goal.returns-in-empty-clause-does
unfolding sub_form
returns-in-empty-clause-does g c = by_form (sub_form c.args.script.now) None (ap form_in (sym c.as_slice.ensures.value) ∙ no_list c.as_slice.result.now c.in-empty.len_below) finish_s

pub returns-in-len1-clause-does : goal.returns-in-len1-clause-does
unfolding sub_form
returns-in-len1-clause-does g c =
    let one = c.one-item.result in
    let form = ap form_in (sym c.as_slice.ensures.value) ∙ one_list c.as_slice.result.now one c.in-len1.len_at_least c.in-len1.len_below c.one-item.is in
    by_form (sub_form c.args.script.now) (form_by (out-AndOr one).first (out-AndOr one).rest.items) form (rw c.deref.ensures.value at c.words_in.ensures.does)

pub returns-in_default-clause-does : goal.returns-in_default-clause-does
unfolding sub_form
returns-in_default-clause-does g c = by_form (sub_form c.args.script.now) None (ap form_in (sym c.as_slice.ensures.value) ∙ more_list c.as_slice.result.now c.in_default.len_at_least) finish_s
