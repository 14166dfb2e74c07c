use Rattle.std.proofs.Common.{◌≡◌, false, cond, List, [], ◌∷◌, slice_get, refl, sym, ap, ◌∙◌}
use Rattle.em_lexeme.specs.declared.frame.Frame.{Frame}
use Rattle.em_lexeme.specs.Frames.{is_cases, without_cases}
use Rattle.em_lex.proofs.state.Lexer.drop_cases.Goals as goal

no_cases : (fs : List Frame) → is_cases (slice_get fs 0) ≡ false → without_cases fs ≡ fs
no_cases [] none = refl
no_cases (f ∷ fs) none = ap (λ b. cond b (without_cases fs) (f ∷ fs)) none

pub returns : goal.returns
returns c =
    let none : is_cases (slice_get c.loop-self.self.frames 0) ≡ false = ap is_cases (sym c.top.ensures) ∙ sym c.loop-self-test.ensures in
    sym (c.loop-self.invariant ∙ ap (λ fs. record c.loop-self.self { frames = fs }) (no_cases c.loop-self.self.frames none))
