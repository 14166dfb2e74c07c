-- `basename` and `dirname`: the last part of a name, and what stands before it. Slashes at the end
-- aren't looked at.
use Rattle.std.specs.Prelude.{ℕ, ◌-◌, ◌==◌, ◌&&◌, nat_eq, Bool, not, List, [], ◌∷◌, length, take, drop, if◌then◌else◌}
use Rattle.std.specs.List.{suffix_len, ends_with}
use Rattle.std.specs.Cmp.Lexicographic.{pointwise}

abbrev pub is_slash : ℕ → Bool
is_slash b = b == 47

abbrev pub is_other : ℕ → Bool
is_other b = not (b == 47)

-- without the slashes at the end
abbrev pub trimmed : List ℕ → List ℕ
trimmed p = take (length p - suffix_len is_slash p) p

-- what stands behind the last slash, and what stands up to it
abbrev pub last_part : List ℕ → List ℕ
last_part t = drop (length t - suffix_len is_other t) t

abbrev pub front_part : List ℕ → List ℕ
front_part t = take (length t - suffix_len is_other t) t

-- of slashes alone one is left; the empty name stays
unfoldable pub base_name : List ℕ → List ℕ
base_name p = if length (trimmed p) == 0 then take 1 p else last_part (trimmed p)

abbrev pub has_suffix : List ℕ → List ℕ → Bool
has_suffix s n = ends_with nat_eq n s && not (pointwise nat_eq n s)

-- a suffix is taken off, unless nothing were left
unfoldable pub without_suffix : List ℕ → List ℕ → List ℕ
without_suffix s n = if has_suffix s n then take (length n - length s) n else n

abbrev pub or_root : List ℕ → List ℕ
or_root d = if length d == 0 then 47 ∷ [] else d

-- `.` for a name without a slash before its last part
abbrev pub above : List ℕ → List ℕ
above front = if length front == 0 then 46 ∷ [] else or_root (trimmed front)

unfoldable pub dir_name : List ℕ → List ℕ
dir_name p = if length p == 0 then 46 ∷ [] else if length (trimmed p) == 0 then 47 ∷ [] else above (front_part (trimmed p))
