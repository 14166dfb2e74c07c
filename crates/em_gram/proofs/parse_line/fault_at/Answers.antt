use Rattle.std.proofs.Common.{◌∙◌, ap, inr, refl, sym, arith}
use Rattle.em_grammar.specs.Machine.{fault}
use Rattle.em_token.specs.Kinds.{whats}
use Rattle.em_token.specs.Seen.{why_code}
use Rattle.em_gram.proofs.Whole.{unexpected_at, refused_at, none_expected, no_function}
use Rattle.em_gram.proofs.parse_line.fault_at.Goals as goal

pub returns-in-Unexpected : goal.returns-in-Unexpected
returns-in-Unexpected c = λ stop n r. unexpected_at c.args.tokens.now c.args.rest.now stop c.args.length 0 _ _ c.saturating_sub-number.ensures c.place_of-here.ensures n (r ∙ ap (λ w. fault (why_code w) (whats c.args.rest.now)) c.in-Unexpected.is) (none_expected (whats c.args.rest.now))

pub returns-in-Depth : goal.returns-in-Depth
returns-in-Depth c = λ stop n r. inr (refused_at c.args.tokens.now c.args.rest.now stop c.args.length 0 c.saturating_sub-number.result c.saturating_sub-number.result _ c.saturating_sub-number.ensures (omega arith) c.place_of-here.ensures n (r ∙ ap (λ w. fault (why_code w) (whats c.args.rest.now)) c.in-Depth.is) refl)

pub returns-in-Background : goal.returns-in-Background
returns-in-Background c = λ stop n r. inr (refused_at c.args.tokens.now c.args.rest.now stop c.args.length 1 c.saturating_sub-number.result c.saturating_sub-number.result _ c.saturating_sub-number.ensures (omega arith) c.place_of-here.ensures n (r ∙ ap (λ w. fault (why_code w) (whats c.args.rest.now)) c.in-Background.is) refl)

pub returns-then-is_parens : goal.returns-then-is_parens
returns-then-is_parens c = λ stop n r. inr (refused_at c.args.tokens.now c.args.rest.now stop c.args.length 2 _ _ _ c.saturating_sub-number.ensures c.saturating_sub.ensures c.place_of.ensures n (r ∙ ap (λ w. fault (why_code w) (whats c.args.rest.now)) c.in-Function.is) (sym c.is_parens.ensures ∙ c.if-is_parens.true))

pub returns-else-is_parens : goal.returns-else-is_parens
returns-else-is_parens c = λ stop n r. unexpected_at c.args.tokens.now c.args.rest.now stop c.args.length 3 _ _ c.saturating_sub-number.ensures c.place_of-here.ensures n (r ∙ ap (λ w. fault (why_code w) (whats c.args.rest.now)) c.in-Function.is) (no_function (whats c.args.rest.now) (sym c.is_parens.ensures ∙ c.if-is_parens.false))

pub returns-in-Positional : goal.returns-in-Positional
returns-in-Positional c = λ stop n r. inr (refused_at c.args.tokens.now c.args.rest.now stop c.args.length 3 _ _ _ c.saturating_sub-number.ensures c.saturating_sub-in-Positional.ensures c.place_of-in-Positional.ensures n (r ∙ ap (λ w. fault (why_code w) (whats c.args.rest.now)) c.in-Positional.is) refl)
