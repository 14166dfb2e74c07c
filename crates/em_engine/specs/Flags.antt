-- Flags in a row, under a tree that tells where some are raised.
--     IsFirst fs i         the flag at i is raised, and none before it
--     node any k           what the tree's node k tells
--     IsTree n w any       the tree has n levels above w flags, and each node of them tells whether one of its halves does
use Rattle.std.specs.Prelude.{◌≡◌, ◌≢◌, ◌<◌, ◌≤◌, ◌+◌, ◌*◌, ◌^◌, ◌||◌, ℕ, List, Bool, true, false, Some, length, slice_get, slice_index_or}

pub record IsFirst (fs : List Bool) (i : ℕ) : Type 0 where
  pub here : slice_get fs i ≡ Some true
  pub before : (k : ℕ) → k < i → slice_get fs k ≢ Some true

abbrev pub node : List Bool → ℕ → Bool
node any k = slice_index_or any k false

pub record IsTree (levels width : ℕ) (any : List Bool) : Type 0 where
  pub wide : width ≡ 2 ^ levels
  pub few : levels ≤ 32
  pub whole : length any ≡ 2 * width
  pub tells : (k : ℕ) → 0 < k → k < width → node any k ≡ (node any (2 * k) || node any (2 * k + 1))
