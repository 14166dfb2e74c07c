use Rattle.std.proofs.Common.{◌≡◌, ◌∙◌, option_map, sym, ap}
use Rattle.std.proofs.lemmas.Bool.Decides.{Decides-eqb}
use Rattle.std.proofs.lemmas.Slice.Eq.{strip_prefix_is}
use Rattle.em_exec.proofs.Formal.{stripped, unstripped, unbegun}
use Rattle.em_exec.proofs.form.behind_piece.Goals as goal

pub returns-in-Some-clause-left : goal.returns-in-Some-clause-left
returns-in-Some-clause-left c = stripped _ c.args.name.now c.in-Some.bytes.now _ (sym c.bytes_in.ensures ∙ ap (λ o. option_map (λ t. t.now) o) c.in-Some.is) (strip_prefix_is Decides-eqb _ _ _ c.strip_prefix.ensures.cases)

pub returns-in-Some-clause-other : goal.returns-in-Some-clause-other
returns-in-Some-clause-other c = unstripped _ c.args.name.now c.in-Some.bytes.now _ (sym c.bytes_in.ensures ∙ ap (λ o. option_map (λ t. t.now) o) c.in-Some.is) (strip_prefix_is Decides-eqb _ _ _ c.strip_prefix.ensures.cases)

pub returns-in-None-clause-other : goal.returns-in-None-clause-other
returns-in-None-clause-other c = λ none more. unbegun c.args.name.now _ more (sym c.bytes_in.ensures ∙ ap (λ o. option_map (λ t. t.now) o) c.in-None.is)
