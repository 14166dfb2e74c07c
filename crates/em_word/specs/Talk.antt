-- What the expansion of a word needs, step by step, of the shell around it. It is a plan: nothing
-- is done by it.
--     Ends a               it is done, and gives a
--     Fails f              it ends with a fault
--     Pays n t             n units of fuel are taken, then t
--     Looks t              the shell is looked at as it is then
--     Sets name value t    the shell's variable is set, then t
--     Asks q t             it goes on with the output of this command
--     and_then t k         one after another
use Rattle.std.specs.Prelude.{ℕ, List}
use Rattle.em_word.specs.declared.shell.Shell.{Shell}

pub data Talk (Q F A : Type 0) : Type 0 where
  Ends : A → Talk Q F A
  Fails : F → Talk Q F A
  Pays : ℕ → Talk Q F A → Talk Q F A
  Looks : (Shell → Talk Q F A) → Talk Q F A
  Sets : List ℕ → List ℕ → Talk Q F A → Talk Q F A
  Asks : Q → (List ℕ → Talk Q F A) → Talk Q F A

abbrev pub and_then : {Q F A B : Type 0} → Talk Q F A → (A → Talk Q F B) → Talk Q F B
and_then (Ends a) k = k a
and_then (Fails f) k = Fails f
and_then (Pays n t) k = Pays n (and_then t k)
and_then (Looks t) k = Looks (λ shell. and_then (t shell) k)
and_then (Sets name value t) k = Sets name value (and_then t k)
and_then (Asks q t) k = Asks q (λ output. and_then (t output) k)
