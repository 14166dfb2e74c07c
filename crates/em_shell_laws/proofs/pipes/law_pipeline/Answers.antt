use Rattle.em_shell_laws.proofs.Piping.{alone, pipe, not_zero, not_other, left}
use Rattle.em_shell_laws.proofs.pipes.law_pipeline.Goals as goal

pub returns : goal.returns
returns c = record {
  alone = λ deeper scene o p c h w same is. alone deeper scene o p c h w same is;
  pipe = λ deeper scene o p first more last h w same is are. pipe deeper scene o p first more last h w same is are;
  not_zero = λ deeper scene o p q h t w v same is bang e zero. not_zero deeper scene o p q h t w v same is bang e zero;
  not_other = λ deeper scene o p q h t w v same is bang e some. not_other deeper scene o p q h t w v same is bang e some;
  left = λ deeper scene o p q h t w v why same is e. left deeper scene o p q h t w v same is why e;
}
