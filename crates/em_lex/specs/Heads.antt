-- The unquoted bytes at a word's begin, and descriptors, as they are put.
use Rattle.std.specs.Prelude.{ℕ, Bool, ◌==◌, ◌&&◌, ◌||◌, false, List, ◌∷◌, drop, Option, Some, None, if◌then◌else◌, ◌+◌, min, [], take}
use Rattle.em_base.specs.declared.construct.Construct.TheVariants.{Redirection, Descriptor}
use Rattle.em_lex.specs.Steps.{emitted, refused, pushed, spent}
use Rattle.em_lex.specs.declared.state.Lexer.{Lexer}
use Rattle.em_lexeme.specs.declared.frame.Frame.TheVariants.{InWord}
use Rattle.em_lexeme.specs.declared.lexeme.Start.TheVariants.{Plain}
use Rattle.em_lexeme.specs.declared.lexeme.Start.{Start}
use Rattle.em_lexeme.specs.declared.lexeme.What.TheVariants.{Number, WordStart, WordEnd, Bytes}
use Rattle.em_lexeme.specs.declared.spot.Spot.TheVariants.{Duplicate}
use Rattle.em_lexeme.specs.declared.spot.Spot.{Spot}
use Rattle.em_lexeme.specs.Spots.{behind_target, spot_in, cases_in}
use Rattle.em_lexeme.specs.Words.{reserved, assignment_length, front_start, whole_start, is_assigning, descriptor, is_number, is_dash}

-- the word's begin at `at`
abbrev pub started : Start → ℕ → Lexer → Lexer
started start at s = record (emitted s at at (WordStart start)) { spot = spot_in s.spot start; frames = cases_in s.spot start s.frames }

-- unquoted bytes, where there are some
abbrev pub with_bytes : List ℕ → ℕ → ℕ → Lexer → Lexer
with_bytes [] from to s = s
with_bytes (b ∷ bs) from to s = emitted s from to (Bytes false (b ∷ bs))

-- the bytes of an assignment: its name with `=`, and what stands behind that
unfoldable pub with_assignment : List ℕ → ℕ → Lexer → Lexer
with_assignment text to s =
    let size = assignment_length text in
    let middle = min (s.start + size) to in
    with_bytes (drop size text) middle to (emitted s s.start middle (Bytes false (take size text)))

-- the word's begin and its unquoted bytes, which were gathered and end at `to`
unfoldable pub headed : Start → ℕ → Lexer → Lexer
headed start to s =
    let t = spent (started start s.start s) in
    if is_assigning start then with_assignment s.text to t else emitted t s.start to (Bytes false s.text)

-- a descriptor, which is 9 where it is refused
abbrev pub numbered : Option ℕ → ℕ → Lexer → Lexer
numbered (Some n) to s = spent (emitted s s.start to (Number n))
numbered None to s = spent (emitted (refused s Descriptor s.start) s.start to (Number 9))

-- a word of unquoted bytes alone
unfoldable pub worded : Lexer → ℕ → Lexer
worded s to = emitted (headed (whole_start (reserved s.text) s.text) to s) to to WordEnd

-- behind a `>&` at `at`, of a compound command or not: a descriptor, or `-`, or a word, which is no
-- redirection
unfoldable pub duplicated : ℕ → Bool → Lexer → ℕ → Lexer
duplicated at closed s to =
    if is_number s.text
    then record (numbered (descriptor 1 s.text) to s) { spot = behind_target closed }
    else if is_dash s.text
    then record (spent (refused s Redirection at)) { spot = behind_target closed }
    else worded s to

-- unquoted bytes that end at `at`, before the byte `next`: digits right before `<` or `>` are a
-- descriptor
abbrev pub told_at : Spot → Lexer → ℕ → ℕ → Lexer
told_at (Duplicate from closed) s next at = duplicated from closed s at
told_at _ s next at = if is_number s.text && ((next == 60) || (next == 62)) then numbered (descriptor 0 s.text) at s else worded s at

unfoldable pub told : Lexer → ℕ → ℕ → Lexer
told s next at = told_at s.spot s next at

-- a word that goes on with something else behind its unquoted bytes
unfoldable pub fronted : Lexer → ℕ → Lexer
fronted s to = pushed InWord (headed (front_start s.text) to s)

-- a word that doesn't begin with unquoted bytes
unfoldable pub entered : Lexer → ℕ → Lexer
entered s at = pushed InWord (started Plain at s)
