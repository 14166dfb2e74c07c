-- Make's functions on file names, one line each, over lists of words.
--     function_of name          the function of this name, where it is one of these
--     value_of f args           what it gives; an argument that isn't there is empty
--     name_function name args   both together
use Rattle.std.specs.Prelude.{ℕ, List, [], ◌++◌, length, map, nat_lt, slice_get, unwrap_or, Option, Some, None, codes, option_map, if◌then◌else◌}
use Rattle.std.specs.List.{filter}
use Rattle.std.specs.Str.{bytes_eq}
use Rattle.em_wordlist.specs.Words.{words_of, joined}
use Rattle.em_namefn.specs.declared.function.NameFunction.{NameFunction}
use Rattle.em_namefn.specs.declared.function.NameFunction.TheVariants.{Dir, NotDir, Suffix, BaseName, AddSuffix, AddPrefix, Join}
use Rattle.em_namefn.specs.Names.{dir_of, file_of, suffix_of, base_of, pairs}

abbrev pub function_of : List ℕ → Option NameFunction
function_of name =
    if bytes_eq name (codes "dir") then Some Dir
    else if bytes_eq name (codes "notdir") then Some NotDir
    else if bytes_eq name (codes "suffix") then Some Suffix
    else if bytes_eq name (codes "basename") then Some BaseName
    else if bytes_eq name (codes "addsuffix") then Some AddSuffix
    else if bytes_eq name (codes "addprefix") then Some AddPrefix
    else if bytes_eq name (codes "join") then Some Join
    else None

abbrev pub argument : ℕ → List (List ℕ) → List ℕ
argument n args = unwrap_or (slice_get args n) []

abbrev pub of_words : NameFunction → List ℕ → List ℕ → List (List ℕ)
of_words Dir x y = map dir_of (words_of x)
of_words NotDir x y = map file_of (words_of x)
-- words without a suffix give nothing
of_words Suffix x y = filter (λ s. nat_lt 0 (length s)) (map suffix_of (words_of x))
of_words BaseName x y = map base_of (words_of x)
of_words AddSuffix s x = map (λ w. w ++ s) (words_of x)
of_words AddPrefix p x = map (λ w. p ++ w) (words_of x)
of_words Join x y = pairs (words_of x) (words_of y)

abbrev pub value_of : NameFunction → List (List ℕ) → List ℕ
value_of f args = joined (of_words f (argument 0 args) (argument 1 args))

abbrev pub name_function : List ℕ → List (List ℕ) → Option (List ℕ)
name_function name args = option_map (λ f. value_of f args) (function_of name)
