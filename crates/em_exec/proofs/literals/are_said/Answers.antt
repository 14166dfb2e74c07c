use Rattle.std.proofs.Common.{◌∙◌, ◌&&◌, length, zip, sym, ap}
use Rattle.std.specs.List.{list_all}
use Rattle.std.proofs.lemmas.Bool.{eq-eqb}
use Rattle.em_exec.specs.Literals.{is_said}
use Rattle.em_exec.proofs.literals.are_said.Goals as goal

pub returns-then-texts-words : goal.returns-then-texts-words
returns-then-texts-words c = c.all_said.ensures ∙ ap (λ b. b && list_all (λ p. is_said p.0 p.1) (zip c.args.texts.now c.args.words.now)) (sym (eq-eqb (length c.args.texts.now) (length c.args.words.now) c.if-texts-words.true))
