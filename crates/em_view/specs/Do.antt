-- `do` blocks of steps.
use Rattle.em_view.specs.Steps.{Steps, and_then}

infixl 10 ◌>>=◌
abbrev pub ◌>>=◌ : {S E A B : Type 0} → Steps S E A → (A → Steps S E B) → Steps S E B
m >>= k = and_then m k
