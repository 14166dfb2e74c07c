-- The words of a sub-make, those behind `make` or `emake` in a line of a recipe: which are refused,
-- and what the others order.
--     sub_app            the command by which clap reads the words
--     sub_refusal words  the first cause for which they are refused, or none
--     sub_order words    what they order
use Rattle.std.specs.Prelude.{Bool, false, fold, not, ◌||◌, nat_lt, List, [], ◌∷◌, length, codes, Option, None, unwrap_or, option_map}
use Rattle.std.specs.List.{filter, filter_map, list_all}
use Rattle.std.specs.Str.{is_utf8}
use Rattle.clap.specs.Words.{App, Kinds, Row, Text, first_of, fault_of, matches_of, new_app, with_rule}
use Rattle.em_cmdline.specs.declared.order.Order.{Order}
use Rattle.em_cmdline.specs.declared.order.HistoryMode.TheVariants.{Merge}
use Rattle.em_cmdline.specs.declared.order.WordNo.{WordNo}
use Rattle.em_cmdline.specs.declared.order.WordNo.TheVariants.{BadName, BadNumber, Unknown}
use Rattle.em_cmdline.specs.Words.{assignment, bad_name, bad_value, first_some, flag, is_goal, is_set, long, other_words, others_rule, plain, short, valued, when}

-- the options by their letters f C k s i B j, `--no-print-directory`, and the other words
unfoldable pub sub_app : App
sub_app = fold with_rule (plain (new_app (codes "make"))) (
    short 102 (valued (codes "makefile"))
    ∷ short 67 (valued (codes "dir"))
    ∷ short 107 (flag (codes "keep_going"))
    ∷ short 115 (flag (codes "silent"))
    ∷ short 105 (flag (codes "ignore"))
    ∷ short 66 (flag (codes "always"))
    ∷ short 106 (valued (codes "workers"))
    ∷ long (codes "no-print-directory") (flag (codes "no_print_directory"))
    ∷ others_rule ∷ [])

-- why clap refuses the words, where it does
unfoldable pub sub_faults : List Text → Kinds
sub_faults words = fault_of sub_app words

-- what clap finds in them, where it doesn't
unfoldable pub sub_found : List Text → List Row
sub_found words = matches_of sub_app words

-- a word isn't UTF-8, or clap refuses the words
abbrev pub sub_unreadable : List Text → Bool
sub_unreadable words = not (list_all is_utf8 words) || nat_lt 0 (length (sub_faults words))

-- the causes that what was found may give, in order
abbrev pub sub_causes : List Row → List (Option WordNo)
sub_causes rows = option_map BadNumber (bad_value 64 (first_of (codes "workers") rows)) ∷ option_map BadName (bad_name rows) ∷ []

unfoldable pub sub_refusal : List Text → Option WordNo
sub_refusal words = first_some (when (sub_unreadable words) Unknown ∷ sub_causes (sub_found words))

-- what was found orders: without `-C` its directory is `.`; `-j` and `--no-print-directory` order
-- nothing
abbrev pub sub_order_from : List Row → Order
sub_order_from rows = record {
  image = None;
  makefile = first_of (codes "makefile") rows;
  dir = unwrap_or (first_of (codes "dir") rows) (codes ".");
  keep_going = is_set (codes "keep_going") rows;
  dry = false;
  question = false;
  silent = is_set (codes "silent") rows;
  ignore = is_set (codes "ignore") rows;
  always = is_set (codes "always") rows;
  workers = 1;
  fuel = 1000000;
  history = None;
  mode = Merge;
  report = None;
  generate = None;
  explain = None;
  agents = 1;
  goals = filter is_goal (other_words rows);
  assigned = filter_map assignment (other_words rows);
}

unfoldable pub sub_order : List Text → Order
sub_order words = sub_order_from (sub_found words)
