-- `printf`: what a format says, and what it writes of the words.
--     format_of text       the format's parts; the first directive that isn't `%s`, `%d` or `%%` is refused, by its byte
--     shown ps ws          what it writes of the words; a missing one is empty, or 0
--     strange ps ws        the words that should be numbers and aren't, in order
--     repeats ps ws        how often the format is written: as often as the words fill, once at least
--     printed, faults      both of all words
use Rattle.std.specs.Prelude.{ℕ, zero, suc, drop, ◌+◌, ◌-◌, ◌/◌, ◌==◌, ◌&&◌, ◌||◌, Bool, true, false, nat_lt, nat_le, List, [], ◌∷◌, ◌++◌, length, count_by, Option, Some, None, Result, Ok, Err, if◌then◌else◌, ℤ}
use Rattle.std.specs.List.{list_all}
use Rattle.std.specs.Char.{is_ascii_digit}
use Rattle.std.specs.Fmt.{signed_decimal}
use Rattle.std.specs.Str.Parse.{without_leading_sign, signed_digits_value}
use Rattle.em_lineutil.specs.declared.format.FormatNo.{FormatNo}
use Rattle.em_lineutil.specs.declared.format.FormatNo.TheVariants.{Refused, NoMemory}
use Rattle.em_lineutil.specs.declared.format.Part.{Part}
use Rattle.em_lineutil.specs.declared.format.Part.TheVariants.{Byte, Word, Number}

-- a sign or none, and 1 to 18 digits
abbrev pub is_number : List ℕ → Bool
is_number text = nat_lt 0 (length (without_leading_sign text)) && nat_le (length (without_leading_sign text)) 18 && list_all is_ascii_digit (without_leading_sign text)

abbrev pub number_of : List ℕ → Option ℤ
number_of text = if is_number text then Some (signed_digits_value 10 text) else None

-- `\n`, `\t` and `\\` are one byte, others stay two
abbrev pub escaped : ℕ → List Part
escaped c = if c == 110 then Byte 10 ∷ [] else if c == 116 then Byte 9 ∷ [] else if c == 92 then Byte 92 ∷ [] else Byte 92 ∷ Byte c ∷ []

abbrev pub directive : ℕ → Option Part
directive c = if c == 115 then Some Word else if c == 100 then Some Number else if c == 37 then Some (Byte 37) else None

abbrev pub before : List Part → Result (List Part) (Option ℕ) → Result (List Part) (Option ℕ)
before ps (Ok qs) = Ok (ps ++ qs)
before ps (Err refused) = Err refused

abbrev pub directed : Option Part → ℕ → Result (List Part) (Option ℕ) → Result (List Part) (Option ℕ)
directed None c rest = Err (Some c)
directed (Some p) c rest = before (p ∷ []) rest

abbrev pub format_of : List ℕ → Result (List Part) (Option ℕ)
format_of [] = Ok []
format_of (b ∷ []) = if b == 37 then Err None else Ok (Byte b ∷ [])
format_of (b ∷ c ∷ rest) =
    if b == 92 then before (escaped c) (format_of rest)
    else if b == 37 then directed (directive c) c (format_of rest)
    else before (Byte b ∷ []) (format_of (c ∷ rest))

abbrev pub refused : FormatNo → Result (List Part) (Option ℕ)
refused (Refused byte) = Err byte
refused NoMemory = Err None

abbrev pub takes : Part → Bool
takes (Byte b) = false
takes _ = true

-- how often a format that takes so many words is written, of so many
abbrev pub repeats_by : ℕ → ℕ → ℕ
repeats_by taken n = if taken == 0 || n == 0 then 1 else (n - 1) / taken + 1

-- a number as it is written in full; nothing of a word that is none
abbrev pub written : Option ℤ → List ℕ
written None = []
written (Some z) = signed_decimal z

abbrev pub shown_word : List (List ℕ) → List ℕ
shown_word [] = []
shown_word (w ∷ ws) = w

abbrev pub shown_number : List (List ℕ) → List ℕ
shown_number [] = 48 ∷ []
shown_number (w ∷ ws) = written (number_of w)

abbrev pub shown_part : Part → List (List ℕ) → List ℕ
shown_part (Byte b) ws = b ∷ []
shown_part Word ws = shown_word ws
shown_part Number ws = shown_number ws

-- the words behind those that the part takes
abbrev pub behind : Part → List (List ℕ) → List (List ℕ)
behind p ws = if takes p then drop 1 ws else ws

abbrev pub shown : List Part → List (List ℕ) → List ℕ
shown [] ws = []
shown (p ∷ ps) ws = shown_part p ws ++ shown ps (behind p ws)

abbrev pub if_strange : Option ℤ → List ℕ → List (List ℕ)
if_strange None w = w ∷ []
if_strange (Some z) w = []

abbrev pub strange_part : Part → List (List ℕ) → List (List ℕ)
strange_part Number (w ∷ ws) = if_strange (number_of w) w
strange_part _ _ = []

abbrev pub strange : List Part → List (List ℕ) → List (List ℕ)
strange [] ws = []
strange (p ∷ ps) ws = strange_part p ws ++ strange ps (behind p ws)

abbrev pub left : List Part → List (List ℕ) → List (List ℕ)
left [] ws = ws
left (p ∷ ps) ws = left ps (behind p ws)

-- the format over and over, each time with the words that are left
abbrev pub shown_times : ℕ → List Part → List (List ℕ) → List ℕ
shown_times zero ps ws = []
shown_times (suc n) ps ws = shown ps ws ++ shown_times n ps (left ps ws)

abbrev pub strange_times : ℕ → List Part → List (List ℕ) → List (List ℕ)
strange_times zero ps ws = []
strange_times (suc n) ps ws = strange ps ws ++ strange_times n ps (left ps ws)

abbrev pub repeats : List Part → List (List ℕ) → ℕ
repeats ps ws = repeats_by (count_by takes ps) (length ws)

-- what the format writes of all words, and which words should be numbers and aren't
unfoldable pub printed : List Part → List (List ℕ) → List ℕ
printed ps ws = shown_times (repeats ps ws) ps ws

unfoldable pub faults : List Part → List (List ℕ) → List (List ℕ)
faults ps ws = strange_times (repeats ps ws) ps ws
