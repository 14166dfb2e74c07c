-- What the text of a symbolic link may be.
use Rattle.std.specs.Prelude.{◌≢◌, ◌≤◌, ℕ, List, [], All, length}

-- 1 to 1,024 bytes without NUL and newline; it need not be a path, nor lead to anything
pub record IsLinkText (text : List ℕ) : Type 0 where
  pub filled : text ≢ []
  pub short : length text ≤ 1024
  pub plain : All (λ b. (b ≢ 0) × (b ≢ 10)) text
