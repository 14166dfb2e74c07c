use Rattle.std.proofs.Common.{◌∙◌, sym, refl, Some, [], ◌∷◌}
use Rattle.em_grammar.proofs.Giving.{left_on, gives_left, gives_right, is_refused, not_refused}
use Rattle.em_grammar.specs.Gives.{lead_off}
use Rattle.em_grammar.specs.Production.{refused}
use Rattle.em_token.specs.Kinds.{kinds, whats}
use Rattle.em_token.specs.Shell as Grammar
use Rattle.em_token.specs.Shell.{shell, key, background, positional}
use Rattle.em_token.specs.declared.kind.Kind.TheVariants as Kind
use Rattle.em_token.proofs.Tokens.{off}
use Rattle.em_token.proofs.read.separator.Goals as goal

pub returns-in_err-rest-clause-reads : goal.returns-in_err-rest-clause-reads
returns-in_err-rest-clause-reads c = λ left. off left _ _ _ _ _ c.from_residual.ensures (gives_left shell left _ _ _ _ (sym c.opens.ensures ∙ c.if-opens.true) (c.in_err-rest.ensures.reads left))

pub returns-then-opens-clause-reads : goal.returns-then-opens-clause-reads
returns-then-opens-clause-reads c = λ left. left_on shell (sym c.opens.ensures ∙ c.if-opens.true) (c.in_ok-rest.ensures.reads left)

pub returns-then-opens-2-clause-reads : goal.returns-then-opens-2-clause-reads
returns-then-opens-2-clause-reads c = λ left. gives_right shell left Grammar.sequential (refused (kinds (Kind.Ampersand ∷ [])) background) (whats c.args.tokens.now) (lead_off (Some (background, whats c.args.tokens.now))) refl (sym c.opens.ensures ∙ c.if-opens.false) (is_refused shell left (kinds (Kind.Ampersand ∷ [])) background (whats c.args.tokens.now) (sym c.opens-2.ensures ∙ c.if-opens-2.true))

pub returns-clause-reads : goal.returns-clause-reads
returns-clause-reads c = λ left. gives_right shell left Grammar.sequential (refused (kinds (Kind.Ampersand ∷ [])) background) (whats c.args.tokens.now) (lead_off (Some (0, whats c.args.tokens.now))) refl (sym c.opens.ensures ∙ c.if-opens.false) (not_refused shell left (kinds (Kind.Ampersand ∷ [])) background (whats c.args.tokens.now) (sym c.opens-2.ensures ∙ c.if-opens-2.false))
