-- What the text in the brackets of a reference is: a call of a function, a substitution, or a name.
--     call_of bracket inner       the function and its arguments, unexpanded, where it is a call
--     split_args bracket n text   the arguments: at commas outside brackets of the call's own kind, at most n
--     substitution_of name        the parts of `x:a=b`
use Rattle.std.specs.Prelude.{ℕ, suc, zero, ◌+◌, ◌-◌, ◌==◌, ◌&&◌, not, List, [], ◌∷◌, length, map, take, drop, Option, Some, None, if◌then◌else◌}
use Rattle.std.specs.List.{prefix_len, position, list_any}
use Rattle.em_base.specs.Blanks.{is_blank, trimmed_start}
use Rattle.em_refs.specs.declared.part.Bracket.{Bracket}
use Rattle.em_refs.specs.Parts.{opening_of, closing_of}
use Rattle.em_wordlist.specs.Stems.{is_percent}
use Rattle.em_expand.specs.declared.calls.FunctionCall as code
use Rattle.em_expand.specs.declared.calls.Substitution as parts
use Rattle.em_expand.specs.Table.{Row, row_of, function_of}

-- ---- arguments

-- how many pairs of these brackets are open behind a byte
abbrev pub deep_after : Bracket → ℕ → ℕ → ℕ
deep_after bracket deep b = if b == opening_of bracket then deep + 1 else if b == closing_of bracket then deep - 1 else deep

-- where the first comma stands outside brackets, with so many open so far; the first byte stands at
-- `at`
abbrev pub comma : Bracket → ℕ → ℕ → List ℕ → Option ℕ
comma bracket deep at [] = None
comma bracket deep at (b ∷ bs) = if (b == 44) && (deep == 0) then Some at else comma bracket (deep_after bracket deep b) (at + 1) bs

-- parted at a comma, if there is one; what stands behind it is parted by `more`
abbrev pub parted_at : (List ℕ → List (List ℕ)) → Option ℕ → List ℕ → List (List ℕ)
parted_at more None text = text ∷ []
parted_at more (Some i) text = take i text ∷ more (drop (i + 1) text)

-- parted at so many commas at most
abbrev pub split : Bracket → ℕ → List ℕ → List (List ℕ)
split bracket zero text = text ∷ []
split bracket (suc n) text = parted_at (split bracket n) (comma bracket 0 0 text) text

-- with no limit: no text has more commas than bytes
abbrev pub commas_of : Option ℕ → List ℕ → ℕ
commas_of None text = length text
commas_of (Some n) text = n - 1

abbrev pub split_args : Bracket → Option ℕ → List ℕ → List (List ℕ)
split_args bracket greatest text = split bracket (commas_of greatest text) text

-- ---- calls

pub record Call : Type 0 where
  pub row : Row
  pub args : List (List ℕ)

abbrev pub word_length : List ℕ → ℕ
word_length text = prefix_len (λ b. not (is_blank b)) text

-- a function's name with a blank behind it makes a call; the blanks in front of the first argument
-- don't belong to it
abbrev pub called_by : Bracket → Option Row → List ℕ → Option Call
called_by bracket (Some row) (b ∷ rest) = Some (record { row = row; args = split_args bracket row.greatest (trimmed_start rest) })
called_by bracket _ _ = None

abbrev pub call_in : Bracket → List ℕ → Option Call
call_in bracket text = called_by bracket (function_of (take (word_length text) text)) (drop (word_length text) text)

-- blanks in front of the name don't count; a name of one byte without brackets is no call
abbrev pub call_of : Option Bracket → List ℕ → Option Call
call_of None inner = None
call_of (Some bracket) inner = call_in bracket (trimmed_start inner)

-- ---- substitutions

pub record Substitution : Type 0 where
  pub name : List ℕ
  pub from : List ℕ
  pub to : List ℕ

-- what stands in front of the first such byte, and what stands behind it
abbrev pub split_there : Option ℕ → List ℕ → Option (List ℕ × List ℕ)
split_there None text = None
split_there (Some i) text = Some (take i text, drop (i + 1) text)

abbrev pub split_at_byte : ℕ → List ℕ → Option (List ℕ × List ℕ)
split_at_byte byte text = split_there (position (λ b. b == byte) text) text

abbrev pub at_equals : List ℕ → Option (List ℕ × List ℕ) → Option Substitution
at_equals name None = None
at_equals name (Some p) = Some (record { name = name; from = p.0; to = p.1 })

abbrev pub at_colon : Option (List ℕ × List ℕ) → Option Substitution
at_colon None = None
at_colon (Some p) = at_equals p.0 (split_at_byte 61 p.1)

-- at the first `:`, and the first `=` behind it
abbrev pub substitution_of : List ℕ → Option Substitution
substitution_of text = at_colon (split_at_byte 58 text)

-- `%` stands before both where the first has none
abbrev pub with_percent : List ℕ → List ℕ → List ℕ
with_percent from text = if list_any is_percent from then text else 37 ∷ text

-- ---- what the code has for these

abbrev pub call_seen : code.FunctionCall → Call
call_seen c = record { row = row_of c.row.now; args = map (λ a. a.now) c.args.items }

abbrev pub substitution_seen : parts.Substitution → Substitution
substitution_seen s = record { name = s.name.now; from = s.from.now; to = s.to.now }
