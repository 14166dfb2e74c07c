use Rattle.std.proofs.Common.{◌≡◌, ◌≢◌, ℕ, zero, suc, ◌-◌, List, refl, sym, ap, ◌∙◌, arith}
use Rattle.em_lex.specs.declared.state.Lexer.{Lexer}
use Rattle.em_lex.specs.Lexing.{outcome, read_through, at_first, too_deep, lexed_in}
use Rattle.em_lex.proofs.read.+reading.Goals as goal

no_levels : (left : ℕ) (text : List ℕ) → left ≡ 0 → lexed_in left text ≡ too_deep
unfolding lexed_in
no_levels zero text none = refl
no_levels (suc n) text none = absurd (omega arith)

one_level : (left : ℕ) (text : List ℕ) → left ≢ 0 → lexed_in left text ≡ outcome (read_through (lexed_in (left - 1)) at_first text)
unfolding lexed_in
one_level zero text some = absurd (some refl)
one_level (suc n) text some = let below : suc n - 1 ≡ n = omega arith in rw below refl

pub read-returns-then-left-eq0 : goal.read-returns-then-left-eq0
read-returns-then-left-eq0 t c = rw c.new-items.ensures (sym (no_levels c.args.left c.args.text.now c.if-left-eq0.true))

pub read-returns : goal.read-returns
read-returns t c =
    let through = λ (s : Lexer). read_through (lexed_in (c.args.left - 1)) s c.args.text.now in
    c.outcome.ensures ∙ ap outcome (c.in_ok-read_bytes.ensures ∙ ap through c.new-lexer.ensures) ∙ sym (one_level c.args.left c.args.text.now c.if-left-eq0.false)
