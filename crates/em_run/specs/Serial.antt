-- The serial run: each job whole, in order, on the state that the one before left. It ends with the
-- first job whose outcome ends it.
--     Made                  what a job made of the state on which it ran: its effect, and the fuel that it took
--     state_after s made    the state that these jobs leave: each one's changes laid over the tree, its outcome appended
--     Ran .. jobs made      the first of the jobs, as many as `made` has, have run so
--     is_early .. made      one of them ended the run
--     IsSerial ..           the serial run: a job ended it, or all have run
use Rattle.std.specs.Prelude.{◌≡◌, ℕ, Bool, true, false, ◌||◌, List, [], ◌∷◌, length, map}
use Rattle.em_tree.specs.declared.outcome.Outcome.{Outcome}
use Rattle.em_tree.specs.declared.state.State.{State}
use Rattle.em_view.specs.declared.effect.Effect.{Effect}
use Rattle.em_view.specs.Serial.{after}

pub record Made : Type 0 where
  pub effect : Effect
  pub fuel : ℕ

abbrev pub state_after : State → List Made → State
state_after s [] = s
state_after s (m ∷ ms) = state_after (after m.effect s) ms

-- what the jobs say, in order
abbrev pub outputs_of : List Made → List (List ℕ)
outputs_of made = map (λ m. m.effect.output) made

-- how they ended
abbrev pub outcomes_of : List Made → List Outcome
outcomes_of made = map (λ m. m.effect.outcome) made

module _ {J : Type 0} (makes : J → State → Effect → ℕ → Type 0) (ends : J → Outcome → Bool) where
  -- a job that ends the run is the last one
  abbrev pub Ran : State → List J → List Made → Type 0
  Ran s jobs [] = Unit {0}
  Ran s [] (m ∷ ms) = ⊥
  Ran s (j ∷ js) (m ∷ ms) = makes j s m.effect m.fuel × ((ends j m.effect.outcome ≡ true → ms ≡ []) × Ran (after m.effect s) js ms)

  abbrev pub is_early : List J → List Made → Bool
  is_early (j ∷ js) (m ∷ ms) = ends j m.effect.outcome || is_early js ms
  is_early _ _ = false

  pub record IsSerial (start : State) (jobs : List J) (made : List Made) : Type 0 where
    pub ran : Ran start jobs made
    pub whole : is_early jobs made ≡ false → length made ≡ length jobs

-- a job makes one thing of a state at most
abbrev pub IsOne : {J : Type 0} → (J → State → Effect → ℕ → Type 0) → Type 0
IsOne {J} makes = (j : J) (s : State) (e f : Effect) (m n : ℕ) → makes j s e m → makes j s f n → (e ≡ f) × (m ≡ n)
