-- The parts of a file's name.
--     file_of w, dir_of w        what stands behind its last `/`; what stands up to it, or `./`
--     suffix_of w, base_of w     from the last `.` of the file on; what stands in front of that
--     pairs xs ys                the words of two lists, joined one by one; those that are left stay as they are
use Rattle.std.specs.Prelude.{ℕ, ◌-◌, ◌==◌, Bool, List, [], ◌∷◌, ◌++◌, length, take, codes, if◌then◌else◌}
use Rattle.std.specs.List.{after_last}
use Rattle.em_namefn.specs.declared.name.NamePart.{NamePart}
use Rattle.em_namefn.specs.declared.name.NamePart.TheVariants.{Dir, File, Suffix, Base}

abbrev pub is_slash : ℕ → Bool
is_slash b = b == 47

abbrev pub is_dot : ℕ → Bool
is_dot b = b == 46

-- the whole word where it has no slash
abbrev pub file_of : List ℕ → List ℕ
file_of w = after_last is_slash w

abbrev pub dir_of : List ℕ → List ℕ
dir_of w = if length (file_of w) == length w then codes "./" else take (length w - length (file_of w)) w

-- nothing where the file has no dot
abbrev pub suffix_in : List ℕ → List ℕ
suffix_in file = if length (after_last is_dot file) == length file then [] else 46 ∷ after_last is_dot file

abbrev pub suffix_of : List ℕ → List ℕ
suffix_of w = suffix_in (file_of w)

abbrev pub base_of : List ℕ → List ℕ
base_of w = take (length w - length (suffix_of w)) w

abbrev pub part_of : NamePart → List ℕ → List ℕ
part_of Dir w = dir_of w
part_of File w = file_of w
part_of Suffix w = suffix_of w
part_of Base w = base_of w

abbrev pub pairs : List (List ℕ) → List (List ℕ) → List (List ℕ)
pairs [] ys = ys
pairs (x ∷ xs) [] = x ∷ xs
pairs (x ∷ xs) (y ∷ ys) = (x ++ y) ∷ pairs xs ys
