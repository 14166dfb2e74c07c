-- The options of a utility: the words of a dash and letters before the first operand. `--` ends
-- them and is no operand. A dash alone is an operand, and so is a word with another byte than
-- letters, unless the utility lists that byte. A letter's value is what stands behind it in its
-- word, or else the next word (POSIX, Utility Syntax Guidelines 5 to 7). Where a letter takes a
-- value, a dash and digits alone, as `-5`, would be its old form, and is one of options that isn't
-- listed.
--     letters_in valued bytes, value_in valued bytes    of a word without its dash the letters, and the value behind them
--     is_option listed valued word         the word is one of options
--     options_of listed valued words     letters, the value of one, and how many words they take
--     read_options utility listed valued words      the same, if each letter is listed
use Rattle.std.specs.Prelude.{◌==◌, ◌&&◌, ◌||◌, ◌+◌, ℕ, nat_le, nat_lt, min, Bool, true, false, not, List, [], ◌∷◌, ◌++◌, length, take, drop, codes, Option, Some, None, Result, Ok, Err, if◌then◌else◌}
use Rattle.std.specs.List.{list_all, list_any, find, prefix_len}
use Rattle.std.specs.Str.{bytes_eq}
use Rattle.em_base.specs.declared.construct.Construct.TheVariants.{Letter}
use Rattle.em_view.specs.declared.done.ExecNo.{ExecNo}
use Rattle.em_view.specs.declared.done.ExecNo.TheVariants.{Refused}
use Rattle.em_utility.specs.declared.options.Options.{Options}
use Rattle.em_utility.specs.declared.options.Role.{Role}
use Rattle.em_utility.specs.declared.options.Role.TheVariants.{Value, Letters, End, Operand}

abbrev pub is_letter : ℕ → Bool
is_letter b = (nat_le 65 b && nat_le b 90) || (nat_le 97 b && nat_le b 122)

abbrev pub is_in : List ℕ → ℕ → Bool
is_in bytes b = list_any (λ x. x == b) bytes

-- letters, and what else the utility lists
abbrev pub are_letters : List ℕ → List ℕ → Bool
are_letters listed bytes = list_all (λ b. is_letter b || is_in listed b) bytes

-- up to the first letter that takes a value, and with it
abbrev pub plain_count : List ℕ → List ℕ → ℕ
plain_count valued bytes = prefix_len (λ b. not (is_in valued b)) bytes

abbrev pub letter_count : List ℕ → List ℕ → ℕ
letter_count valued bytes = min (length bytes) (plain_count valued bytes + 1)

abbrev pub letters_in : List ℕ → List ℕ → List ℕ
letters_in valued bytes = take (letter_count valued bytes) bytes

abbrev pub value_in : List ℕ → List ℕ → List ℕ
value_in valued bytes = drop (letter_count valued bytes) bytes

abbrev pub is_digit : ℕ → Bool
is_digit b = nat_le 48 b && nat_le b 57

abbrev pub are_digits : List ℕ → Bool
are_digits bytes = list_all is_digit bytes

-- digits alone, where a letter takes a value
abbrev pub is_old_form : List ℕ → List ℕ → Bool
is_old_form valued bytes = nat_lt 0 (length valued) && are_digits bytes

abbrev pub is_option : List ℕ → List ℕ → List ℕ → Bool
is_option listed valued [] = false
is_option listed valued (dash ∷ bytes) = dash == 45 && nat_lt 0 (length bytes) && (are_letters listed (letters_in valued bytes) || is_old_form valued bytes)

-- one of the letters takes a value, and nothing stands behind it: the next word is this value
abbrev pub takes_value : List ℕ → List ℕ → Bool
takes_value valued bytes = list_any (is_in valued) bytes

abbrev pub lacks_value : List ℕ → List ℕ → Bool
lacks_value valued bytes = takes_value valued bytes && not (nat_lt 0 (length (value_in valued bytes)))

-- the last value counts
abbrev pub or_before : Option (List ℕ) → List ℕ → Option (List ℕ)
or_before before [] = before
or_before before (b ∷ bs) = Some (b ∷ bs)

abbrev pub no_options : Options
no_options = record { letters = []; value = None; lacks = false; taken = 0 }

-- a value is whatever stands where one is wanted
abbrev pub role_of : List ℕ → List ℕ → Bool → List ℕ → Role
role_of listed valued awaits word = if awaits then Value else (if bytes_eq word (codes "--") then End else (if is_option listed valued word then Letters else Operand))

abbrev pub with_letters : List ℕ → Options → List ℕ → Options
with_letters valued o bytes = record o {
  letters = o.letters ++ letters_in valued bytes;
  value = or_before o.value (value_in valued bytes);
  lacks = lacks_value valued bytes;
  taken = o.taken + 1;
}

abbrev pub with_word : List ℕ → Options → List ℕ → Role → Options
with_word valued o word Value = record o { value = Some word; lacks = false; taken = o.taken + 1 }
with_word valued o word Letters = with_letters valued o (drop 1 word)
with_word valued o word End = record o { taken = o.taken + 1 }
with_word valued o word Operand = o

abbrev pub goes_on : Role → Bool
goes_on Value = true
goes_on Letters = true
goes_on End = false
goes_on Operand = false

abbrev pub gathered : List ℕ → List ℕ → Options → List (List ℕ) → Options
gathered listed valued o [] = o
gathered listed valued o (w ∷ words) =
    if goes_on (role_of listed valued o.lacks w)
    then gathered listed valued (with_word valued o w (role_of listed valued o.lacks w)) words
    else with_word valued o w (role_of listed valued o.lacks w)

abbrev pub options_of : List ℕ → List ℕ → List (List ℕ) → Options
options_of listed valued words = gathered listed valued no_options words

-- the first letter that the utility doesn't list
abbrev pub unlisted : List ℕ → List ℕ → Option ℕ
unlisted listed given = find (λ b. not (is_in listed b)) given

abbrev pub listed_only : List ℕ → Options → Option ℕ → Result Options ExecNo
listed_only utility o None = Ok o
listed_only utility o (Some b) = Err (Refused (Letter utility b))

unfoldable pub read_options : List ℕ → List ℕ → List ℕ → List (List ℕ) → Result Options ExecNo
read_options utility listed valued words = let o = options_of listed valued words in listed_only utility o (unlisted listed o.letters)
