use Rattle.std.proofs.Common.{◌≡◌, ◌∙◌, ◌++◌, ◌∷◌, [], Some, sym, ap}
use Rattle.std.proofs.lemmas.Bool.Decides.{Decides-eqb}
use Rattle.std.proofs.lemmas.Slice.Eq.{strip_suffix_is}
use Rattle.em_history.specs.Histories.{fits, line_of}
use Rattle.em_history.proofs.Lines.{parts_line, no_parts, parts_fit}
use Rattle.em_history.proofs.text.names_in.Goals as goal

pub returns-in_err-target : goal.returns-in_err-target
returns-in_err-target c =
    let front = c.in_ok-strip_suffix.field-0 in
    let whole : c.args.line.now ≡ front.now ++ 10 ∷ [] = strip_suffix_is Decides-eqb c.args.line.now (10 ∷ []) (Some front) c.in_ok-strip_suffix.ensures.cases in
    rw c.from_residual-in_err-target.ensures (λ p f is. no_parts p front.now f (is ∙ whole) c.in_err-target.ensures)

pub returns-then-both_fit : goal.returns-then-both_fit
returns-then-both_fit c =
    let front = c.in_ok-strip_suffix.field-0 in
    let whole : c.args.line.now ≡ front.now ++ 10 ∷ [] = strip_suffix_is Decides-eqb c.args.line.now (10 ∷ []) (Some front) c.in_ok-strip_suffix.ensures.cases in
    let (k, at, target, needed) = c.in_ok-target.ensures in
    (sym c.if-both_fit.ensures, ap line_of (λ i. (target i, needed i)) ∙ parts_line front.now k at ∙ sym whole)

pub returns-else-both_fit : goal.returns-else-both_fit
returns-else-both_fit c = λ p f is.
    let front = c.in_ok-strip_suffix.field-0 in
    let whole : c.args.line.now ≡ front.now ++ 10 ∷ [] = strip_suffix_is Decides-eqb c.args.line.now (10 ∷ []) (Some front) c.in_ok-strip_suffix.ensures.cases in
    let (k, at, target, needed) = c.in_ok-target.ensures in
    let bad = c.if-both_fit.ensures ∙ ap fits (λ i. (target i, needed i)) ∙ parts_fit p front.now k f (is ∙ whole) at in
    absurd cc
