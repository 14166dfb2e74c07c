use Rattle.std.proofs.Common.{◌≡◌, ℕ, List, true, length, nat_lt, sym, subst, ◌∙◌}
use Rattle.em_image.specs.Image.{limits}
use Rattle.em_image.specs.Parts.{Gives}
use Rattle.em_image.specs.Reading.{reading}
use Rattle.em_image.proofs.Laws.{is_found, is_only}
use Rattle.em_image.proofs.Forward.{long_read}
use Rattle.em_image.proofs.reading.read_text.Goals as goal

pub returns-then-is_too_long-clause-exact : goal.returns-then-is_too_long-clause-exact
returns-then-is_too_long-clause-exact c = long_read limits c.args.text (subst (λ (b : List ℕ). nat_lt limits.image (length b) ≡ true) c.bytes.ensures (sym c.is_too_long.ensures ∙ c.if-is_too_long.true))

pub returns-clause-found : goal.returns-clause-found
returns-clause-found c = is_found c.args.text c.whole-2.result (subst (λ b. Gives (λ t. t) c.whole-2.result (reading limits b)) (c.in_ok-from_vec.ensures.ok ∙ c.into_vec.ensures) c.whole-2.ensures)

pub returns-clause-only : goal.returns-clause-only
returns-clause-only c = is_only c.args.text c.whole-2.result (subst (λ b. Gives (λ t. t) c.whole-2.result (reading limits b)) (c.in_ok-from_vec.ensures.ok ∙ c.into_vec.ensures) c.whole-2.ensures)
