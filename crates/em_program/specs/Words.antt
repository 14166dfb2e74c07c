-- The words of a command line.
--     words_of args      the words behind the program's name
--     ordered words      what they order, or their refusal, or a page that they ask for
use Rattle.std.specs.Prelude.{ℕ, List, [], ◌∷◌, drop, map, Option, Some, None, is_some, Result, Ok, Err, if◌then◌else◌, codes, string_bytes}
use Rattle.std.specs.declared.string.String.{String}
use Rattle.std.specs.Global.{Global}
use Rattle.std.specs.Vec.Iter.{into_iter_items}
use Rattle.std.specs.declared.vec.IntoIter.{IntoIter}
use Rattle.std.specs.declared.io.Error.{Error}
use Rattle.em_cmdline.specs.declared.order.Order.{Order}
use Rattle.em_cmdline.specs.declared.order.WordNo.{WordNo}
use Rattle.em_cmdline.specs.Words.{refusal, order_of}
use Rattle.em_cmdline.specs.Pages.{page_in, text_of}
use Rattle.em_cmdline.specs.declared.page.Page.{Page}
use Rattle.em_program.specs.declared.verdict.BuildStatus.TheVariants.{Done, Faulty}
use Rattle.em_program.specs.Course.{Course, done, stop}
use Rattle.em_closing.specs.Refusals.{word_line}

-- in place of words that can't be read as a whole: one that is no text
abbrev pub unread : List (List ℕ)
unread = (255 ∷ []) ∷ []

-- what the system gives: the program's name and the words, or why they can't be read as a whole
abbrev pub words_of : Result (IntoIter (String Global) Global) Error → List (List ℕ)
words_of (Ok args) = drop 1 (map (λ (s : String Global). string_bytes s) (into_iter_items args))
words_of (Err e) = unread

-- under `--gen` the one goal is `all`
abbrev pub aimed : Order → Order
aimed o = if is_some o.generate then record o { goals = codes "all" ∷ [] } else o

abbrev pub as_ordered : Option WordNo → Order → Course Order
as_ordered None o = done (aimed o)
as_ordered (Some e) o = stop (word_line e) Faulty

abbrev pub read : List (List ℕ) → Course Order
read words = as_ordered (refusal words) (order_of words)

-- a page that is asked for is printed, and ends the run
abbrev pub paged : Option Page → List (List ℕ) → Course Order
paged None words = read words
paged (Some page) words = stop (text_of page) Done

abbrev pub ordered : List (List ℕ) → Course Order
ordered words = paged (page_in words) words
