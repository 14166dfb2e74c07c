-- What the units of names keep to, whatever makefiles say.
--     IsUnits says      a unit's targets hold its name, and else none that is known; a name has units, how many
--                       doesn't hang on what is known, and several of them are double-colon rules, which make the name alone
use Rattle.std.specs.Prelude.{◌≡◌, ◌⊎◌, ℕ, ◌<◌, Bool, true, false, List, [], ◌∷◌, length}
use Rattle.std.specs.List.{All}
use Rattle.em_plan.specs.declared.making.Making.{Making}
use Rattle.em_plan.specs.Once.{is_among}
use Rattle.em_plan.specs.Order.{Says}

pub record IsUnits (says : Says) : Type 0 where
  pub own : (known : List ℕ → Bool) (n : List ℕ) → All (λ m. is_among m.targets n ≡ true) (says known n)
  pub new : (known : List ℕ → Bool) (n : List ℕ) → All (λ m. (q : List ℕ) → is_among m.targets q ≡ true → (q ≡ n) ⊎ (known q ≡ false)) (says known n)
  pub some : (known : List ℕ → Bool) (n : List ℕ) → 0 < length (says known n)
  pub alone : (known other : List ℕ → Bool) (n : List ℕ) → (says known n ≡ says other n) ⊎ ((length (says known n) ≡ 1) × (length (says other n) ≡ 1))
  pub double : (known : List ℕ → Bool) (n : List ℕ) → 1 < length (says known n) → All (λ m. (m.double ≡ true) × (m.targets ≡ n ∷ [])) (says known n)
