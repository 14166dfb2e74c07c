-- Worked command lines, each with what the definition is to say of it. Bars stand between the
-- words.
use Rattle.std.specs.Prelude.{ℕ, ◌==◌, true, false, List, [], ◌∷◌, codes, Option, Some, None, Result, Ok, Err}
use Rattle.std.specs.List.{slice_split}
use Rattle.clap.specs.Words.{Text}
use Rattle.em_cmdline.specs.declared.order.Order.{Order}
use Rattle.em_cmdline.specs.declared.order.HistoryMode.TheVariants.{Create, Merge, Read}
use Rattle.em_cmdline.specs.declared.order.WordNo.{WordNo}
use Rattle.em_cmdline.specs.declared.order.WordNo.TheVariants.{BadName, BadNumber, Missing, SameName, Unknown}
use Rattle.em_cmdline.specs.Words.{order_of, refusal}
use Rattle.em_cmdline.specs.SubWords.{sub_order, sub_refusal}

abbrev pub reading_of : Option WordNo → Order → Result Order WordNo
reading_of None o = Ok o
reading_of (Some e) o = Err e

-- what the words order, or why they are refused
abbrev pub reading : List Text → Result Order WordNo
reading words = reading_of (refusal words) (order_of words)

-- the order of `-I i`
abbrev pub plain_order : Order
plain_order = record {
  image = Some (codes "i");
  makefile = None;
  dir = codes "/";
  keep_going = false;
  dry = false;
  question = false;
  silent = false;
  ignore = false;
  always = false;
  workers = 1;
  fuel = 1000000;
  history = None;
  mode = Merge;
  report = None;
  generate = None;
  explain = None;
  agents = 1;
  goals = [];
  assigned = [];
}

abbrev pub words_in : List ℕ → List Text
words_in line = slice_split (λ b. b == 124) line

-- lines, and what they order
abbrev pub ordering : List (List ℕ × Order)
ordering =
    (codes "-I|i", plain_order)
    ∷ (
      codes "-I|i|-f|m|-C|/d|-k|-n|-q|-s|-i|-B|-j|8|--fuel|5|--history|h|--mode|read|--report|r|a|A=b|b",
      record plain_order {
        makefile = Some (codes "m");
        dir = codes "/d";
        keep_going = true;
        dry = true;
        question = true;
        silent = true;
        ignore = true;
        always = true;
        workers = 8;
        fuel = 5;
        history = Some (codes "h");
        mode = Read;
        report = Some (codes "r");
        goals = codes "a" ∷ codes "b" ∷ [];
        assigned = (codes "A", codes "b") ∷ [];
      },
    )
    ∷ (codes "--gen|7", record plain_order { image = None; generate = Some 7 })
    ∷ (codes "-kns|-Ii", record plain_order { keep_going = true; dry = true; silent = true })
    ∷ (codes "-kI|i", record plain_order { keep_going = true })
    ∷ (codes "-Ikn", record plain_order { image = Some (codes "kn") })
    ∷ (codes "-I=i", plain_order)
    ∷ (codes "-I==i", record plain_order { image = Some (codes "=i") })
    ∷ (codes "-I=", record plain_order { image = Some [] })
    ∷ (codes "-fuel|5|-Ii", record plain_order { makefile = Some (codes "uel"); goals = codes "5" ∷ [] })
    ∷ (codes "-I|-", record plain_order { image = Some (codes "-") })
    ∷ (codes "-I=-k", record plain_order { image = Some (codes "-k") })
    ∷ (codes "--history=-k|-Ii", record plain_order { history = Some (codes "-k") })
    ∷ (codes "-I|i|-C|A=b", record plain_order { dir = codes "A=b" })
    ∷ (
      codes "-I|i|a|--|-k|--|-x=1",
      record plain_order {
        goals = codes "a" ∷ codes "-k" ∷ codes "--" ∷ [];
        assigned = (codes "-x", codes "1") ∷ [];
      },
    )
    ∷ (codes "a|-I|i|b|-k|c", record plain_order { keep_going = true; goals = codes "a" ∷ codes "b" ∷ codes "c" ∷ [] })
    ∷ (codes "-I|i|A=b=c|B=", record plain_order { assigned = (codes "A", codes "b=c") ∷ (codes "B", []) ∷ [] })
    ∷ (codes "-I|i|--mode|create|-j|64", record plain_order { mode = Create; workers = 64 })
    ∷ (codes "--explain|r", record plain_order { image = None; explain = Some (codes "r") })
    ∷ (
      codes "--agents|64|--explain|r|--report|r|-k|a",
      record plain_order {
        image = None;
        keep_going = true;
        report = Some (codes "r");
        explain = Some (codes "r");
        agents = 64;
        goals = codes "a" ∷ [];
      },
    )
    ∷ (codes "-I|i|--agents|2", record plain_order { agents = 2 })
    ∷ (codes "-I|./i|--report|i", record plain_order { image = Some (codes "./i"); report = Some (codes "i") }) ∷ []

-- lines, and why they are refused
abbrev pub refused : List (List ℕ × WordNo)
refused =
    (codes "-k", Missing)
    ∷ (codes "-I|i|--gen|7", Missing)
    ∷ (codes "--|-I|i", Missing)
    ∷ (codes "--agents|2", Missing)
    ∷ (codes "--explain|r|-I|i", Missing)
    ∷ (codes "--gen|7|--explain|r", Missing)
    ∷ (codes "--explain|r|-I|i|--gen|7", Missing)
    ∷ (codes "-I|i|-I|j", Unknown)
    ∷ (codes "-I|i|-knk", Unknown)
    ∷ (codes "-I", Unknown)
    ∷ (codes "-I|-k", Unknown)
    ∷ (codes "-I|--|i", Unknown)
    ∷ (codes "-I|i|-j|-1", Unknown)
    ∷ (codes "-x", Unknown)
    ∷ (codes "--explain|r|--explain|s", Unknown)
    ∷ (codes "--explain", Unknown)
    ∷ (codes "-I|i|-h", Unknown)
    ∷ (codes "-I|i|--help", Unknown)
    ∷ (codes "-I|i|-k=1", Unknown)
    ∷ (codes "-I|i|--fue|5", Unknown)
    ∷ (codes "-I|i|--mode|Read", Unknown)
    ∷ (codes "-I|i|-j|65", BadNumber (codes "65"))
    ∷ (codes "--gen|0|--fuel|00|-j|000", BadNumber (codes "000"))
    ∷ (codes "-I|i|-j|0|=x", BadNumber (codes "0"))
    ∷ (codes "--explain|r|--agents|0", BadNumber (codes "0"))
    ∷ (codes "-I|i|--agents|65", BadNumber (codes "65"))
    ∷ (codes "--agents|0|--gen|0x", BadNumber (codes "0x"))
    ∷ (codes "-I|i|=x", BadName (codes "=x"))
    ∷ (codes "-I|i|a:=c", BadName (codes "a:=c"))
    ∷ (codes "-I|i|--report|i|=x", BadName (codes "=x"))
    ∷ (codes "-I|i|--report|i", SameName (codes "i")) ∷ []

-- ---- the words of a sub-make

abbrev pub sub_reading : List Text → Result Order WordNo
sub_reading words = reading_of (sub_refusal words) (sub_order words)

-- the order of no word
abbrev pub plain_sub : Order
plain_sub = record plain_order { image = None; dir = codes "." }

abbrev pub sub_ordering : List (List ℕ × Order)
sub_ordering =
    (codes "x", record plain_sub { goals = codes "x" ∷ [] })
    ∷ (
      codes "-f|m|-C|d|-k|-s|-i|-B|a|A=b",
      record plain_sub {
        makefile = Some (codes "m");
        dir = codes "d";
        keep_going = true;
        silent = true;
        ignore = true;
        always = true;
        goals = codes "a" ∷ [];
        assigned = (codes "A", codes "b") ∷ [];
      },
    )
    ∷ (codes "-kj|8|--no-print-directory", record plain_sub { keep_going = true })
    ∷ (codes "--|-n", record plain_sub { goals = codes "-n" ∷ [] }) ∷ []

abbrev pub sub_refused : List (List ℕ × WordNo)
sub_refused =
    (codes "-n", Unknown)
    ∷ (codes "-q", Unknown)
    ∷ (codes "-I|i", Unknown)
    ∷ (codes "--fuel|5", Unknown)
    ∷ (codes "-C|a|-C|b", Unknown)
    ∷ (codes "-j", Unknown)
    ∷ (codes "-j|0|=x", BadNumber (codes "0"))
    ∷ (codes "x|a:=c", BadName (codes "a:=c")) ∷ []
