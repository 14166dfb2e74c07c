-- The leftmost fault, and what stands before it.
use Rattle.std.specs.Prelude.{ℕ, ◌==◌, ◌&&◌, ◌||◌, Bool, true, false, List, Option, Some, None, if◌then◌else◌, nat_le, take}
use Rattle.std.specs.List.{prefix_len}
use Rattle.em_lexeme.specs.declared.lexeme.Lexed.{Lexed}
use Rattle.em_lexeme.specs.declared.lexeme.Lexeme.{Lexeme}
use Rattle.em_lexeme.specs.declared.lexeme.What.{What}
use Rattle.em_lexeme.specs.declared.lexeme.What.TheVariants.{Number, Less, Great, DoubleGreat, GreatAnd}
use Rattle.em_lexeme.specs.declared.no.LexNo.TheVariants.{Unclosed, Refused, NoMemory}
use Rattle.em_lexeme.specs.declared.no.LexNo.{LexNo}

abbrev pub place_of : LexNo → ℕ
place_of (Unclosed at) = at
place_of (Refused construct at) = at
place_of NoMemory = 0

-- the leftmost fault; where two stand at one place it is what isn't closed
abbrev pub leftmost : Option ℕ → Option LexNo → Option LexNo
leftmost None fault = fault
leftmost (Some at) None = Some (Unclosed at)
leftmost (Some at) (Some fault) = if nat_le at (place_of fault) then Some (Unclosed at) else Some fault

-- what is of a redirection
abbrev pub redirects : What → Bool
redirects (Number n) = true
redirects Less = true
redirects Great = true
redirects DoubleGreat = true
redirects GreatAnd = true
redirects _ = false

-- A lexeme that ends at a place or before, or with which the redirection begins that is refused
-- there: whether a redirection may stand at the place is the grammar's to say.
abbrev pub is_until : ℕ → Lexeme → Bool
is_until at l = nat_le l.span.end at || ((l.span.start == at) && redirects l.what)

abbrev pub count_until : ℕ → List Lexeme → ℕ
count_until at items = prefix_len (is_until at) items

abbrev pub up_to : Option LexNo → List Lexeme → Lexed
up_to None items = record { items = items; stop = None }
up_to (Some fault) items = record { items = take (count_until (place_of fault) items) items; stop = Some fault }
