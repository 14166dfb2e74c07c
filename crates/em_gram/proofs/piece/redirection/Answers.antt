use Rattle.std.proofs.Common.{◌∙◌, ap}
use Rattle.std.specs.Prelude.{unwrap_or}
use Rattle.em_gram.proofs.Holding.{redirected}
use Rattle.em_gram.proofs.piece.redirection.Goals as goal

pub returns : goal.returns
returns c = λ us rest h. redirected c.args.kind c.args.number c.unwrap_or-fd.result c.args.target us rest (c.unwrap_or-fd.ensures ∙ ap (λ u. unwrap_or c.args.number u) c.usual_fd.ensures) h
