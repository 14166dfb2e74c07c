use Rattle.em_shell_laws.proofs.Joining.{alone, left, and_zero, and_other, or_zero, or_other}
use Rattle.em_shell_laws.proofs.lists.law_joined.Goals as goal

pub returns : goal.returns
returns c = record {
  alone = λ deeper scene o a h w none. alone deeper scene o a h w none;
  and_zero = λ deeper scene o a b j h t w v is is_and e zero. and_zero deeper scene o a b j h w is t v e is_and zero;
  and_other = λ deeper scene o a b j h t w v is is_and e some. and_other deeper scene o a b j h w is t v e is_and some;
  or_zero = λ deeper scene o a b j h t w v is is_or e zero. or_zero deeper scene o a b j h w is t v e is_or zero;
  or_other = λ deeper scene o a b j h t w v is is_or e some. or_other deeper scene o a b j h w is t v e is_or some;
  left = λ deeper scene o a b j h t w v why is e. left deeper scene o a b j h w is t v why e;
}
