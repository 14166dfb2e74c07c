-- Words of the laws: what lines keep of a file.
use Rattle.std.specs.Prelude.{◌≡◌, ℕ, ◌==◌, ◌||◌, Bool, not, List, [], ◌∷◌, if◌then◌else◌}
use Rattle.em_base.specs.Blanks.{is_blank}
use Rattle.em_lines.specs.declared.line.Line.{Line}
use Rattle.em_lines.specs.Comments.{bare}

-- no blank, newline or backslash
abbrev pub is_kept : ℕ → Bool
is_kept b = not (is_blank b || (b == 10) || (b == 92))

-- nothing, or a comment
abbrev pub IsComment : List ℕ → Type 0
IsComment [] = Unit {0}
IsComment (b ∷ bs) = b ≡ 35

-- a line that isn't of a recipe, without its comment
abbrev pub bared : Line → Line
bared l = if l.tab then l else record l { text = bare l.text }
