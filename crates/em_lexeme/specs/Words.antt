-- What a word begins with, and descriptors.
use Rattle.std.specs.Prelude.{ℕ, ◌-◌, ◌==◌, ◌&&◌, Bool, true, false, List, ◌∷◌, length, Option, Some, None, if◌then◌else◌, ◌+◌, nat_le, min, [], slice_index, codes}
use Rattle.std.specs.List.{list_all, prefix_len}
use Rattle.std.specs.Char.{is_ascii_digit}
use Rattle.std.specs.Str.{bytes_eq}
use Rattle.em_lexeme.specs.Bytes.{begins_name, is_in_name}
use Rattle.em_lexeme.specs.declared.lexeme.Start.TheVariants.{Bang, If, Then, Elif, Else, Fi, While, Until, Do, Done, In, Case, Esac, LeftBrace, RightBrace, Plain, Name, Assignment, For}
use Rattle.em_lexeme.specs.declared.lexeme.Start.{Start}

-- the reserved word that the bytes are
abbrev pub reserved : List ℕ → Option Start
reserved word =
    if bytes_eq word (codes "!") then Some Bang
    else if bytes_eq word (codes "if") then Some If
    else if bytes_eq word (codes "then") then Some Then
    else if bytes_eq word (codes "elif") then Some Elif
    else if bytes_eq word (codes "else") then Some Else
    else if bytes_eq word (codes "fi") then Some Fi
    else if bytes_eq word (codes "while") then Some While
    else if bytes_eq word (codes "until") then Some Until
    else if bytes_eq word (codes "do") then Some Do
    else if bytes_eq word (codes "done") then Some Done
    else if bytes_eq word (codes "for") then Some For
    else if bytes_eq word (codes "in") then Some In
    else if bytes_eq word (codes "case") then Some Case
    else if bytes_eq word (codes "esac") then Some Esac
    else if bytes_eq word (codes "{") then Some LeftBrace
    else if bytes_eq word (codes "}") then Some RightBrace
    else None

-- the text begins with a name
abbrev pub starts_name : List ℕ → Bool
starts_name [] = false
starts_name (b ∷ bs) = begins_name b

-- how many bytes the name has with which a text begins
abbrev pub name_length : List ℕ → ℕ
name_length text = if starts_name text then prefix_len is_in_name text else 0

abbrev pub assignment_length : List ℕ → ℕ
assignment_length text = min (name_length text + 1) (length text)

abbrev pub is_name : List ℕ → Bool
is_name text = starts_name text && (name_length text == length text)

-- a name and `=`
abbrev pub is_assignment : List ℕ → Bool
is_assignment text = starts_name text && (slice_index text (name_length text) == 61)

-- what a word begins with whose first bytes these are, and behind which it goes on otherwise
abbrev pub front_start : List ℕ → Start
front_start text = if is_assignment text then Assignment else Plain

abbrev pub bare_start : List ℕ → Start
bare_start text = if is_name text then Name else front_start text

-- what a word begins with that these bytes are
abbrev pub whole_start : Option Start → List ℕ → Start
whole_start (Some start) text = start
whole_start None text = bare_start text

abbrev pub is_assigning : Start → Bool
is_assigning Assignment = true
is_assigning _ = false

-- the descriptor of one digit, of at least so much and at most 2
abbrev pub descriptor : ℕ → List ℕ → Option ℕ
descriptor least (d ∷ []) = if nat_le (48 + least) d && nat_le d 50 then Some (d - 48) else None
descriptor least _ = None

abbrev pub is_number : List ℕ → Bool
is_number text = list_all is_ascii_digit text

abbrev pub is_dash : List ℕ → Bool
is_dash text = bytes_eq text (codes "-")
