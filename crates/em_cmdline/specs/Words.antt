-- The words of a command line: which are refused, and what the others order.
--     order_app          the command by which clap reads the words
--     refusal words      the first cause for which they are refused, or none
--     order_of words     what they order
--     HasRanges o        the numbers of an order are in their ranges
--     HasSource o        it has an image, the size of a project or a report to explain, one alone
--     HasNames o         the host's files that it names differ
use Rattle.std.specs.Prelude.{◌≡◌, ◌≢◌, ◌≤◌, IfSome, ℕ, Bool, true, false, not, fold, ◌||◌, ◌==◌, nat_lt, List, [], ◌∷◌, length, codes, find, Option, Some, None, is_some, unwrap_or, option_map, option_and_then, if◌then◌else◌}
use Rattle.std.specs.List.{filter, filter_map, list_all, list_any, before_first, after_first}
use Rattle.std.specs.Option.{option_map_or}
use Rattle.std.specs.Str.{bytes_eq, is_utf8}
use Rattle.clap.specs.Words.{App, Kinds, Row, Rule, Text, all_of, first_of, fault_of, matches_of, new_app, new_rule, with_rule}
use Rattle.clap.specs.declared.builder.action.ArgAction.TheVariants.{Append, Set, SetTrue}
use Rattle.em_base.specs.Blanks.{is_blank}
use Rattle.em_base.specs.Numbers.{number_of}
use Rattle.em_cmdline.specs.declared.order.Order.{Order}
use Rattle.em_cmdline.specs.declared.order.HistoryMode.{HistoryMode}
use Rattle.em_cmdline.specs.declared.order.HistoryMode.TheVariants.{Create, Merge, Read}
use Rattle.em_cmdline.specs.declared.order.WordNo.{WordNo}
use Rattle.em_cmdline.specs.declared.order.WordNo.TheVariants.{BadName, BadNumber, Missing, SameName, Unknown}

-- ---- the command

-- an option that takes a value, an option that takes none, and the words that are no options
abbrev pub valued : Text → Rule
valued id = record (new_rule id) { action = Some Set }

abbrev pub flag : Text → Rule
flag id = record (new_rule id) { action = Some SetTrue }

abbrev pub others_rule : Rule
others_rule = record (new_rule (codes "words")) { action = Some Append }

abbrev pub short : ℕ → Rule → Rule
short letter r = record r { short = Some letter }

abbrev pub long : Text → Rule → Rule
long name r = record r { long = Some name }

-- no help, no version, and no word for the program itself
abbrev pub plain : App → App
plain a = record a { top = record a.top { no_binary_name = true; disable_help_flag = true; disable_version_flag = true } }

-- the options by their letters I f C k n q s i B j, then those with long names, and the other words
unfoldable pub order_app : App
order_app = fold with_rule (plain (new_app (codes "emake"))) (
    short 73 (valued (codes "image"))
    ∷ short 102 (valued (codes "makefile"))
    ∷ short 67 (valued (codes "dir"))
    ∷ short 107 (flag (codes "keep_going"))
    ∷ short 110 (flag (codes "dry"))
    ∷ short 113 (flag (codes "question"))
    ∷ short 115 (flag (codes "silent"))
    ∷ short 105 (flag (codes "ignore"))
    ∷ short 66 (flag (codes "always"))
    ∷ short 106 (valued (codes "workers"))
    ∷ long (codes "fuel") (valued (codes "fuel"))
    ∷ long (codes "history") (valued (codes "history"))
    ∷ long (codes "mode") (valued (codes "mode"))
    ∷ long (codes "report") (valued (codes "report"))
    ∷ long (codes "gen") (valued (codes "generate"))
    ∷ long (codes "explain") (valued (codes "explain"))
    ∷ long (codes "agents") (valued (codes "agents"))
    ∷ others_rule ∷ [])

-- why clap refuses the words, where it does
unfoldable pub faults : List Text → Kinds
faults words = fault_of order_app words

-- what clap finds in them, where it doesn't: for each id its values
unfoldable pub found : List Text → List Row
found words = matches_of order_app words

-- ---- what was found

abbrev pub other_words : List Row → List Text
other_words rows = unwrap_or (all_of (codes "words") rows) []

-- a flag that stands has this value
abbrev pub is_set : Text → List Row → Bool
is_set id rows = option_map_or (bytes_eq (codes "true")) (first_of id rows) false

-- the number that a text writes in canonical decimal, from 1 to the limit
abbrev pub positive : ℕ → Text → Option ℕ
positive limit text = option_and_then (λ n. if n == 0 then None else Some n) (number_of limit text)

-- an assignment's name and value: what stands before the first `=` (61), and what stands after it
abbrev pub assignment : Text → Option (Text × Text)
assignment word =
    if list_any (λ b. b == 61) word then Some (before_first (λ b. b == 61) word, after_first (λ b. b == 61) word)
    else None

abbrev pub is_goal : Text → Bool
is_goal word = not (is_some (assignment word))

abbrev pub mode_named : Text → Option HistoryMode
mode_named name =
    if bytes_eq (codes "create") name then Some Create
    else if bytes_eq (codes "merge") name then Some Merge
    else if bytes_eq (codes "read") name then Some Read
    else None

abbrev pub mode_of : List Row → Option HistoryMode
mode_of rows = mode_named (unwrap_or (first_of (codes "mode") rows) (codes "merge"))

-- ---- refusals

-- the first that is there
abbrev pub first_some : {A : Type 0} → List (Option A) → Option A
first_some [] = None
first_some (None ∷ rest) = first_some rest
first_some (Some a ∷ rest) = Some a

abbrev pub when : Bool → WordNo → Option WordNo
when b e = if b then Some e else None

-- a word isn't UTF-8, clap refuses the words, or the mode is none of the three
abbrev pub unreadable : List Text → Bool
unreadable words = not (list_all is_utf8 words) || nat_lt 0 (length (faults words)) || not (is_some (mode_of (found words)))

-- exactly one of the three
abbrev pub is_one : Bool → Bool → Bool → Bool
is_one a b c = if a then not (b || c) else if b then not c else c

-- not exactly one of the image, the size of a project and a report to explain is there
abbrev pub is_missing : List Row → Bool
is_missing rows =
    let image = is_some (first_of (codes "image") rows) in
    let generate = is_some (first_of (codes "generate") rows) in
    not (is_one image generate (is_some (first_of (codes "explain") rows)))

abbrev pub bad_value : ℕ → Option Text → Option Text
bad_value limit None = None
bad_value limit (Some text) = if is_some (positive limit text) then None else Some text

-- the first value that is no number in its range, of those of a build and of all
abbrev pub bad_build_number : List Row → Option Text
bad_build_number rows = first_some (
    bad_value 64 (first_of (codes "workers") rows)
    ∷ bad_value 1000000 (first_of (codes "fuel") rows)
    ∷ bad_value 10000 (first_of (codes "generate") rows) ∷ [])

abbrev pub bad_number : List Row → Option Text
bad_number rows = first_some (bad_build_number rows ∷ bad_value 64 (first_of (codes "agents") rows) ∷ [])

-- a blank, `:`, `#` or `$`
abbrev pub breaks_name : ℕ → Bool
breaks_name b = is_blank b || b == 58 || b == 35 || b == 36

abbrev pub is_bad_name : Text → Bool
is_bad_name name = length name == 0 || list_any breaks_name name

-- the first assignment whose name is empty or holds such a byte
abbrev pub has_bad_name : Text → Bool
has_bad_name word = option_map_or (λ a. is_bad_name a.0) (assignment word) false

abbrev pub bad_name : List Row → Option Text
bad_name rows = find has_bad_name (other_words rows)

-- the name, where both are there and the same
abbrev pub same : Option Text → Option Text → Option Text
same (Some a) (Some b) = if bytes_eq a b then Some a else None
same _ _ = None

-- the host's file that is named twice
abbrev pub same_name : List Row → Option Text
same_name rows =
    let image = first_of (codes "image") rows in
    let history = first_of (codes "history") rows in
    let report = first_of (codes "report") rows in
    first_some (same image history ∷ same image report ∷ same history report ∷ [])

-- the causes that what was found may give, in order
abbrev pub causes : List Row → List (Option WordNo)
causes rows =
    when (is_missing rows) Missing
    ∷ option_map BadNumber (bad_number rows)
    ∷ option_map BadName (bad_name rows)
    ∷ option_map SameName (same_name rows) ∷ []

unfoldable pub refusal : List Text → Option WordNo
refusal words = first_some (when (unreadable words) Unknown ∷ causes (found words))

-- ---- the order

-- what was found orders, where no cause is there
abbrev pub order_from : List Row → Order
order_from rows = record {
  image = first_of (codes "image") rows;
  makefile = first_of (codes "makefile") rows;
  dir = unwrap_or (first_of (codes "dir") rows) (codes "/");
  keep_going = is_set (codes "keep_going") rows;
  dry = is_set (codes "dry") rows;
  question = is_set (codes "question") rows;
  silent = is_set (codes "silent") rows;
  ignore = is_set (codes "ignore") rows;
  always = is_set (codes "always") rows;
  workers = unwrap_or (option_and_then (positive 64) (first_of (codes "workers") rows)) 1;
  fuel = unwrap_or (option_and_then (positive 1000000) (first_of (codes "fuel") rows)) 1000000;
  history = first_of (codes "history") rows;
  mode = unwrap_or (mode_of rows) Merge;
  report = first_of (codes "report") rows;
  generate = option_and_then (positive 10000) (first_of (codes "generate") rows);
  explain = first_of (codes "explain") rows;
  agents = unwrap_or (option_and_then (positive 64) (first_of (codes "agents") rows)) 1;
  goals = filter is_goal (other_words rows);
  assigned = filter_map assignment (other_words rows);
}

unfoldable pub order_of : List Text → Order
order_of words = order_from (found words)

-- the numbers of an order
pub record HasRanges (o : Order) : Type 0 where
  pub workers : (1 ≤ o.workers) × (o.workers ≤ 64)
  pub fuel : (1 ≤ o.fuel) × (o.fuel ≤ 1000000)
  pub generate : IfSome o.generate (λ n. (1 ≤ n) × (n ≤ 10000))
  pub agents : (1 ≤ o.agents) × (o.agents ≤ 64)

abbrev pub HasSource : Order → Type 0
HasSource o = is_one (is_some o.image) (is_some o.generate) (is_some o.explain) ≡ true

abbrev pub Differ : Option Text → Option Text → Type 0
Differ a b = IfSome a (λ s. IfSome b (λ t. s ≢ t))

pub record HasNames (o : Order) : Type 0 where
  pub image_history : Differ o.image o.history
  pub image_report : Differ o.image o.report
  pub history_report : Differ o.history o.report
