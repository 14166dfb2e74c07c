-- The places of what stands in backquotes.
use Rattle.std.specs.Prelude.{ℕ, List, slice_get, unwrap_or}
use Rattle.em_lexeme.specs.declared.lexeme.Lexeme.{Lexeme}
use Rattle.em_lexeme.specs.declared.no.LexNo.TheVariants.{Unclosed, Refused, NoMemory}
use Rattle.em_lexeme.specs.declared.no.LexNo.{LexNo}

-- where the i-th byte of the text in backquotes stands, and behind its last byte the backquote that
-- closes them
abbrev pub place_in : List ℕ → ℕ → ℕ → ℕ
place_in places close i = unwrap_or (slice_get places i) close

abbrev pub moved : List ℕ → ℕ → Lexeme → Lexeme
moved places close l = record { span = record { start = place_in places close l.span.start; end = place_in places close l.span.end }; what = l.what }

abbrev pub moved_fault : List ℕ → ℕ → LexNo → LexNo
moved_fault places close (Unclosed at) = Unclosed (place_in places close at)
moved_fault places close (Refused construct at) = Refused construct (place_in places close at)
moved_fault places close NoMemory = NoMemory
