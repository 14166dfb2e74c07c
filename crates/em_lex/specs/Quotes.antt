-- Backslashes and backquotes.
use Rattle.std.specs.Prelude.{ℕ, ◌-◌, ◌==◌, ◌&&◌, ◌||◌, not, Bool, true, false, [], ◌∷◌, ◌++◌, if◌then◌else◌}
use Rattle.em_lexeme.specs.declared.lexeme.What.TheVariants.{Bytes}
use Rattle.em_lex.specs.declared.state.Byte.{Byte}
use Rattle.em_lex.specs.declared.state.Lexer.{Lexer}
use Rattle.em_lex.specs.declared.state.Mode.{Mode}
use Rattle.em_lex.specs.declared.state.Mode.TheVariants.{Comment, Head, Gathering}
use Rattle.em_lexeme.specs.Frames.{is_list, is_quoting, is_single, is_backquotes, is_backquotes_quoted, is_escaped_in}
use Rattle.em_lexeme.specs.Bytes.{is_dropped}
use Rattle.em_lex.specs.Steps.{emitted, top, begun, gathered}
use Rattle.em_lex.specs.Heads.{fronted, entered}
use Rattle.em_lex.specs.Modes.{settled, by_mode}

abbrev pub is_comment : Mode → Bool
is_comment Comment = true
is_comment _ = false

abbrev pub is_head : Mode → Bool
is_head Head = true
is_head _ = false

abbrev pub is_gathering : Mode → Bool
is_gathering Gathering = true
is_gathering _ = false

-- a piece of a word begins at `at`, and with it the word where none is begun
abbrev pub entered_from : Lexer → ℕ → Lexer
entered_from s at = if is_list (top s) then entered s at else s

unfoldable pub piece_begun : Lexer → ℕ → Lexer
piece_begun s at = if is_head s.mode then fronted s at else entered_from (settled s at) at

-- within double quotes the backslash stays, save before the few bytes before which it acts
abbrev pub kept_escape : Lexer → Byte → Lexer
kept_escape s b = if is_escaped_in (top s) b.code then gathered s b.code else gathered (gathered s 92) b.code

abbrev pub gathering_at : Lexer → ℕ → Lexer
gathering_at s at = if is_gathering s.mode then s else begun Gathering at s

-- the byte behind a backslash
abbrev pub escaped_in : Lexer → Byte → Lexer
escaped_in s b =
    if is_quoting (top s) then kept_escape (gathering_at s (b.at - 1)) b
    else emitted s (b.at - 1) b.end (Bytes true (b.code ∷ []))

unfoldable pub escaped : Lexer → Byte → Lexer
escaped s b =
    if is_gathering s.mode && is_quoting (top s) then escaped_in s b
    else escaped_in (piece_begun s (b.at - 1)) b

-- a byte of the text in backquotes
abbrev pub kept : Lexer → ℕ → ℕ → Lexer
kept s b at = record s { text = s.text ++ b ∷ []; places = s.places ++ at ∷ [] }

abbrev pub slashed : Bool → Lexer → Lexer
slashed on s = record s { backslash = on }

unfoldable pub raw : Lexer → Byte → Lexer
raw s b =
    if s.backslash then
    (if is_dropped (is_backquotes_quoted (top s)) b.code then kept (slashed false s) b.code b.at
    else kept (kept (slashed false s) 92 (b.at - 1)) b.code b.at)
    else if b.code == 92 then slashed true s
    else kept s b.code b.at

-- where a backslash means something
abbrev pub heeds_backslash : Lexer → Bool
heeds_backslash s = not (is_comment s.mode || is_single (top s))

-- a backslash and a newline are dropped; what else stands behind a backslash is quoted
unfoldable pub step : Lexer → Byte → Lexer
step s b =
    if is_backquotes (top s) then raw s b
    else if s.backslash then (if b.code == 10 then slashed false s else escaped (slashed false s) b)
    else if (b.code == 92) && heeds_backslash s then slashed true s
    else by_mode s.mode s b
