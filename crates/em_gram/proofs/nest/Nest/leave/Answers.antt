use Rattle.std.proofs.Common.{◌∙◌, ap, map, ◌++◌, ◌∷◌, [], arith}
use Rattle.em_gram.specs.Nesting.{piece_pattern}
use Rattle.em_gram.proofs.Nested.{parts_add, closes_add}
use Rattle.em_gram.proofs.nest.Nest.leave.Goals as goal

pub returns-clause-parts : goal.returns-clause-parts
returns-clause-parts c = parts_add _ _ _ c.in_ok-push.ensures.items ∙ ap (λ p. map piece_pattern c.args.self.now.pieces.items ++ p ∷ []) c.end_piece.ensures.pattern

pub returns-clause-counted : goal.returns-clause-counted
returns-clause-counted c = closes_add _ _ _ _ _ c.in_ok-push.ensures.items c.requires.counted c.end_piece.ensures.nesting (omega (arith, c.requires.some))
