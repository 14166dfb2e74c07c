-- The lexemes of a line.
--     lexed line     those up to the leftmost fault, and that fault
use Rattle.std.specs.Prelude.{ℕ, ◌-◌, ◌==◌, ◌&&◌, Bool, true, false, List, ◌∷◌, length, Option, Some, None, if◌then◌else◌, ◌+◌, min, [], suc, zero, not, ◌++◌, map, option_map}
use Rattle.em_base.specs.declared.construct.Construct.TheVariants.{Depth}
use Rattle.em_lex.specs.Modes.{settled, left}
use Rattle.em_lex.specs.Quotes.{piece_begun, slashed, step}
use Rattle.em_lex.specs.Steps.{emitted, top, popped, first_fault}
use Rattle.em_lex.specs.declared.state.Byte.{Byte}
use Rattle.em_lex.specs.declared.state.Lexer.{Lexer}
use Rattle.em_lex.specs.declared.state.Mode.TheVariants.{Ready}
use Rattle.em_lexeme.specs.Frames.{is_word, is_quoted, is_backquotes, outermost}
use Rattle.em_lexeme.specs.declared.lexeme.Lexed.{Lexed}
use Rattle.em_lexeme.specs.declared.lexeme.What.TheVariants.{SubstitutionEnd, Bytes, SubstitutionStart}
use Rattle.em_lexeme.specs.declared.no.LexNo.TheVariants.{Refused}
use Rattle.em_lexeme.specs.declared.no.LexNo.{LexNo}
use Rattle.em_lexeme.specs.declared.spot.Spot.TheVariants.{Command}
use Rattle.em_lexeme.specs.Places.{moved, moved_fault}
use Rattle.em_lexeme.specs.Faults.{leftmost, up_to}

abbrev pub with_fault : Option LexNo → Lexer → Lexer
with_fault None s = s
with_fault (Some fault) s = record s { fault = first_fault s.fault fault }

-- behind the backquote at `b`, which closes: what was between the two, as it is read by itself
unfoldable pub embedded : Lexed → Lexer → Byte → Lexer
embedded inner s b =
    let places = s.places in
    let t = popped s in
    let u = emitted t s.start (min (s.start + 1) b.at) (SubstitutionStart (is_quoted (top t))) in
    let v = record u { items = u.items ++ map (moved places b.at) inner.items; text = []; places = [] } in
    with_fault (option_map (moved_fault places b.at) inner.stop) (emitted v b.at b.end SubstitutionEnd)

abbrev pub closes_backquotes : Lexer → ℕ → Bool
closes_backquotes s b = is_backquotes (top s) && not s.backslash && (b == 96)

abbrev pub next : (List ℕ → Lexed) → Lexer → Byte → Lexer
next within s b = if closes_backquotes s b.code then embedded (within s.text) s b else step s b

abbrev pub byte_at : ℕ → ℕ → Byte
byte_at b at = record { code = b; at = at; end = at + 1 }

abbrev pub run : (List ℕ → Lexed) → Lexer → ℕ → List ℕ → Lexer
run within s at [] = s
run within s at (b ∷ bs) = run within (next within s (byte_at b at)) (at + 1) bs

abbrev pub at_first : Lexer
at_first = record { items = []; fault = None; frames = []; spot = Command; mode = Ready; backslash = false; start = 0; text = []; places = [] }

-- a backslash that is the last byte stands for itself
abbrev pub last_backslash : Lexer → ℕ → Lexer
last_backslash s at = if s.backslash then emitted (piece_begun (slashed false s) (at - 1)) (at - 1) at (Bytes true (92 ∷ [])) else s

-- the end of the text at `at`
abbrev pub word_left : Lexer → ℕ → Lexer
word_left s at = if is_word (top s) then left s at else s

unfoldable pub finished : Lexer → ℕ → Lexer
finished s at = word_left (settled (last_backslash s at) at) at

abbrev pub outcome : Lexer → Lexed
outcome s = up_to (leftmost (outermost s.frames None) s.fault) s.items

abbrev pub too_deep : Lexed
too_deep = record { items = []; stop = Some (Refused Depth 0) }

-- a text is read to its end
abbrev pub read_through : (List ℕ → Lexed) → Lexer → List ℕ → Lexer
read_through within s text = finished (run within s 0 text) (length text)

-- a text with so many levels of backquotes in one another
unfoldable pub lexed_in : ℕ → List ℕ → Lexed
lexed_in zero text = too_deep
lexed_in (suc left) text = outcome (read_through (lexed_in left) at_first text)

-- 64 levels suffice: each doubles the backslashes that the next one's backquotes need
unfoldable pub lexed : List ℕ → Lexed
lexed line = lexed_in 64 line
