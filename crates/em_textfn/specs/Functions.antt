-- The text functions of make, one line each, over lists of words.
--     function_of name        the function of this name, where it is a text function
--     value_of f args         what it gives, or that its arguments are bad: too few, or a number that isn't one
--     text_function name args     both together
use Rattle.std.specs.Prelude.{ℕ, List, [], ◌∷◌, length, map, Option, Some, None, Result, Ok, Err, not, codes, decimal, if◌then◌else◌}
use Rattle.std.specs.List.{filter}
use Rattle.std.specs.Str.{bytes_eq}
use Rattle.em_base.specs.Numbers.{number_of}
use Rattle.em_wordlist.specs.Words.{words_of, joined}
use Rattle.em_wordlist.specs.Stems.{replaced}
use Rattle.em_textfn.specs.declared.function.Function.{Function}
use Rattle.em_textfn.specs.declared.function.Function.TheVariants.{Subst, Patsubst, Strip, Words, FirstWord, LastWord, FindString, Filter, FilterOut, Sort, Word, WordList}
use Rattle.em_textfn.specs.declared.no.TextfnNo.{TextfnNo}
use Rattle.em_textfn.specs.declared.no.TextfnNo.TheVariants.{BadArgument}
use Rattle.em_textfn.specs.Texts.{substituted, occurs, nonempty, matches, sorted, nth_word, word_range, first_word, last_word, from_one}

abbrev pub function_of : List ℕ → Option Function
function_of name =
    if bytes_eq name (codes "subst") then Some Subst
    else if bytes_eq name (codes "patsubst") then Some Patsubst
    else if bytes_eq name (codes "strip") then Some Strip
    else if bytes_eq name (codes "words") then Some Words
    else if bytes_eq name (codes "firstword") then Some FirstWord
    else if bytes_eq name (codes "lastword") then Some LastWord
    else if bytes_eq name (codes "findstring") then Some FindString
    else if bytes_eq name (codes "filter") then Some Filter
    else if bytes_eq name (codes "filter-out") then Some FilterOut
    else if bytes_eq name (codes "sort") then Some Sort
    else if bytes_eq name (codes "word") then Some Word
    else if bytes_eq name (codes "wordlist") then Some WordList
    else None

-- a number of a word: canonical decimal, below 2^32
abbrev pub index_of : List ℕ → Option ℕ
index_of text = number_of 4294967295 text

-- such a number from 1 on
abbrev pub positive_of : List ℕ → Option ℕ
positive_of text = from_one (index_of text)

abbrev pub nth_of : Option ℕ → List (List ℕ) → Result (List ℕ) TextfnNo
nth_of None ws = Err BadArgument
nth_of (Some n) ws = Ok (nth_word n ws)

abbrev pub range_of : Option ℕ → Option ℕ → List (List ℕ) → Result (List ℕ) TextfnNo
range_of (Some s) (Some e) ws = Ok (joined (word_range s e ws))
range_of _ _ ws = Err BadArgument

abbrev pub value_of : Function → List (List ℕ) → Result (List ℕ) TextfnNo
value_of Subst (f ∷ t ∷ x ∷ more) = Ok (substituted f t x)
value_of Patsubst (p ∷ r ∷ x ∷ more) = Ok (joined (nonempty (map (replaced p r) (words_of x))))
value_of Strip (x ∷ more) = Ok (joined (words_of x))
value_of Words (x ∷ more) = Ok (decimal (length (words_of x)))
value_of FirstWord (x ∷ more) = Ok (first_word (words_of x))
value_of LastWord (x ∷ more) = Ok (last_word (words_of x))
value_of FindString (f ∷ x ∷ more) = Ok (if occurs f x then f else [])
value_of Filter (p ∷ x ∷ more) = Ok (joined (filter (matches (words_of p)) (words_of x)))
value_of FilterOut (p ∷ x ∷ more) = Ok (joined (filter (λ w. not (matches (words_of p) w)) (words_of x)))
value_of Sort (x ∷ more) = Ok (joined (sorted (words_of x)))
value_of Word (n ∷ x ∷ more) = nth_of (positive_of n) (words_of x)
value_of WordList (s ∷ e ∷ x ∷ more) = range_of (positive_of s) (index_of e) (words_of x)
value_of _ _ = Err BadArgument

abbrev pub as_found : Result (List ℕ) TextfnNo → Result (Option (List ℕ)) TextfnNo
as_found (Ok t) = Ok (Some t)
as_found (Err e) = Err e

abbrev pub called : Option Function → List (List ℕ) → Result (Option (List ℕ)) TextfnNo
called None args = Ok None
called (Some f) args = as_found (value_of f args)

abbrev pub text_function : List ℕ → List (List ℕ) → Result (Option (List ℕ)) TextfnNo
text_function name args = called (function_of name) args
