-- What single bytes mean to the shell.
use Rattle.std.specs.Prelude.{ℕ, ◌==◌, ◌||◌, ◌&&◌, nat_le, Bool}
use Rattle.std.specs.Char.{is_ascii_digit}
use Rattle.em_base.specs.Blanks.{is_blank}

-- a letter or an underscore, or in a name also a digit
abbrev pub begins_name : ℕ → Bool
begins_name b = (nat_le 97 b && nat_le b 122) || (nat_le 65 b && nat_le b 90) || (b == 95)

abbrev pub is_in_name : ℕ → Bool
is_in_name b = begins_name b || is_ascii_digit b

-- `"`, `$` and the backquote, which double quotes don't keep, and `'`
abbrev pub acts_quoted : ℕ → Bool
acts_quoted b = (b == 34) || (b == 36) || (b == 96)

abbrev pub acts : ℕ → Bool
acts b = acts_quoted b || (b == 39)

-- `;` `&` `|` `<` `>`
abbrev pub begins_operator : ℕ → Bool
begins_operator b = (b == 59) || (b == 38) || (b == 124) || (b == 60) || (b == 62)

-- a blank, a newline, `(`, `)` and what an operator begins with
abbrev pub ends_word : ℕ → Bool
ends_word b = is_blank b || (b == 10) || (b == 40) || (b == 41) || begins_operator b

-- the parameters without a name but `?`: a digit, `@` `*` `#` `$` `!` `-`
abbrev pub is_special : ℕ → Bool
is_special b = is_ascii_digit b || (b == 64) || (b == 42) || (b == 35) || (b == 36) || (b == 33) || (b == 45)

-- `-` `=` `+` `?`, which a word follows in `${name-word}`
abbrev pub takes_word : ℕ → Bool
takes_word b = (b == 45) || (b == 61) || (b == 43) || (b == 63)

-- before a backslash, `$` and a backquote a backslash is dropped, in double quotes also before `"`
abbrev pub is_dropped : Bool → ℕ → Bool
is_dropped quoting b = (b == 92) || (b == 36) || (b == 96) || (quoting && (b == 34))
