-- What is open at a place of the text.
use Rattle.std.specs.Prelude.{ℕ, ◌==◌, ◌||◌, not, Bool, true, false, List, [], ◌∷◌, Option, Some, None, if◌then◌else◌}
use Rattle.em_lexeme.specs.declared.frame.Frame.{Frame}
use Rattle.em_lexeme.specs.declared.frame.Frame.TheVariants.{Round, Cases, InWord, Single, Double, Backquotes, Argument, Substitution}
use Rattle.em_lexeme.specs.Bytes.{acts, acts_quoted, ends_word}

-- a place in a list, not in a word of it
abbrev pub is_list : Option Frame → Bool
is_list None = true
is_list (Some Round) = true
is_list (Some Cases) = true
is_list (Some (Substitution at spot)) = true
is_list (Some f) = false

-- where a backslash acts before a few bytes only
abbrev pub is_quoting : Option Frame → Bool
is_quoting (Some (Double at)) = true
is_quoting (Some (Argument at quoted)) = quoted
is_quoting _ = false

abbrev pub is_single : Option Frame → Bool
is_single (Some (Single at)) = true
is_single _ = false

abbrev pub is_double : Option Frame → Bool
is_double (Some (Double at)) = true
is_double _ = false

abbrev pub is_word : Option Frame → Bool
is_word (Some InWord) = true
is_word _ = false

abbrev pub is_cases : Option Frame → Bool
is_cases (Some Cases) = true
is_cases _ = false

abbrev pub is_backquotes : Option Frame → Bool
is_backquotes (Some (Backquotes at quoting)) = true
is_backquotes _ = false

-- within backquotes that stand in double quotes
abbrev pub is_backquotes_quoted : Option Frame → Bool
is_backquotes_quoted (Some (Backquotes at quoting)) = quoting
is_backquotes_quoted _ = false

-- what stands there is quoted
abbrev pub is_quoted : Option Frame → Bool
is_quoted f = is_single f || is_quoting f

-- the byte means nothing to the shell, save that a word may not begin with `#`
abbrev pub is_plain : ℕ → Bool
is_plain b = not (ends_word b || acts b || (b == 92))

-- the byte stands for itself in a word; within quotes; in an argument, which a `}` ends
abbrev pub is_ordinary : Option Frame → ℕ → Bool
is_ordinary (Some InWord) b = not (ends_word b || acts b)
is_ordinary (Some (Single at)) b = not (b == 39)
is_ordinary (Some (Double at)) b = not (acts_quoted b)
is_ordinary (Some (Argument at quoted)) b = not ((b == 125) || (if quoted then acts_quoted b else acts b))
is_ordinary _ b = false

-- the bytes before which a backslash acts within double quotes: `"`, `$`, the backquote and the
-- backslash, and in an argument `}`
abbrev pub is_escaped_in : Option Frame → ℕ → Bool
is_escaped_in (Some (Argument at quoted)) b = acts_quoted b || (b == 92) || (b == 125)
is_escaped_in _ b = acts_quoted b || (b == 92)

-- where what opens there must be closed
abbrev pub opener : Frame → Option ℕ
opener (Single at) = Some at
opener (Double at) = Some at
opener (Backquotes at quoting) = Some at
opener (Argument at quoted) = Some at
opener (Substitution at spot) = Some at
opener _ = None

abbrev pub or_else : Option ℕ → Option ℕ → Option ℕ
or_else (Some at) other = Some at
or_else None other = other

-- the outermost of what is open and must be closed; what stands last is around all the others
abbrev pub outermost : List Frame → Option ℕ → Option ℕ
outermost [] found = found
outermost (f ∷ fs) found = outermost fs (or_else (opener f) found)

-- without each `case` that is open within the innermost bracket
abbrev pub without_cases : List Frame → List Frame
without_cases [] = []
without_cases (f ∷ fs) = if is_cases (Some f) then without_cases fs else f ∷ fs
