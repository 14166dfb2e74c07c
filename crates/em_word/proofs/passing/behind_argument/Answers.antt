use Rattle.std.proofs.Common.{◌∙◌, ap, sym}
use Rattle.em_syntax.specs.Scripts.{scripts_in}
use Rattle.em_word.specs.Passing.{behind}
use Rattle.em_word.proofs.Counting.{one_behind, none_behind, past_piece, nothing_left}
use Rattle.em_word.proofs.passing.behind_argument.Goals as goal

pub returns-then-open-eq0-clause-rest : goal.returns-then-open-eq0-clause-rest
returns-then-open-eq0-clause-rest c = sym (c.loop-piece.invariant.rest ∙ ap (λ n. behind n c.loop-piece.rest.now) c.if-open-eq0.true)

pub loop-piece-preserved : goal.loop-piece-preserved
loop-piece-preserved c = record {
  rest = c.loop-piece.invariant.rest ∙ ap (behind c.loop-piece.open) c.in-Some.ensures.cases.0 ∙ one_behind c.in-Some.piece.now c.in-Some.more.now c.loop-piece.open _ c.if-open-eq0.false c.in_ok-open.ensures;
  count = past_piece c.in-Some.piece.now c.in-Some.more.now c.loop-piece.scripts _ _ (c.loop-piece.invariant.count ∙ ap scripts_in c.in-Some.ensures.cases.0) c.in_ok-scripts.ensures;
}

pub returns-clause-rest : goal.returns-clause-rest
returns-clause-rest c = sym (c.loop-piece.invariant.rest ∙ none_behind c.loop-piece.open c.loop-piece.rest.now (nothing_left _ c.in_default.ensures.cases))
