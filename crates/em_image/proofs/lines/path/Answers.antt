use Rattle.std.proofs.Common.{Some, refl, sym, subst, ◌∙◌, eqb}
use Rattle.em_path.specs.Paths.{IsPath}
use Rattle.em_image.specs.Parts.{seen}
use Rattle.em_image.proofs.Names.{no_path_at, some_path_at}
use Rattle.em_image.proofs.Forward.{taken_text}
use Rattle.em_image.proofs.lines.path.Goals as goal

pub returns-in-None : goal.returns-in-None
returns-in-None c =
    let text = c.in_ok-text in
    let part = c.in_ok-slice.ensures.ok ∙ taken_text (λ b. eqb b 10) c.args.input.now (seen c.args.cursor) (text.text.now, seen text.after) c.requires text.ensures in
    no_path_at (seen c.args.cursor) (text.text.now, seen text.after) text.ensures (subst (λ t. IsPath t → ⊥) part (c.in-None.ensures.none.0 refl))

pub returns-in-Some : goal.returns-in-Some
returns-in-Some c =
    let text = c.in_ok-text in
    let part = c.in_ok-slice.ensures.ok ∙ taken_text (λ b. eqb b 10) c.args.input.now (seen c.args.cursor) (text.text.now, seen text.after) c.requires text.ensures in
    rw c.skipped.ensures (some_path_at (seen c.args.cursor) (text.text.now, seen text.after) (Some c.in-Some.path) c.in-Some.path text.ensures refl (c.in-Some.ensures.some ∙ part)
    (λ n. c.in-Some.ensures.none.1 (subst (λ t. IsPath t → ⊥) (sym part) n)))
