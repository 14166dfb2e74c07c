-- The pages that a word alone asks for.
--     text_of page       its text
--     page_in words      the page that the words ask for
--     option_words       the options of the command, as they are written
--     listed page        the options that a page lists: each begins a line behind two blanks
use Rattle.std.specs.Prelude.{ℕ, ◌==◌, List, [], ◌∷◌, ◌++◌, codes, drop, take, Option, Some, None, option_map, if◌then◌else◌}
use Rattle.std.specs.List.{filter_map, before_first, slice_split}
use Rattle.std.specs.Str.{bytes_eq}
use Rattle.clap.specs.Words.{Text}
use Rattle.em_cmdline.specs.declared.page.Page.{Page}
use Rattle.em_cmdline.specs.declared.page.Page.TheVariants.{Usage, Version}
use Rattle.em_cmdline.specs.Words.{order_app}

abbrev pub usage : List ℕ
usage =
    codes "usage: emake -I IMAGE [OPTION..] [NAME=VALUE..] [GOAL..]\n"
    ++ codes "       emake --gen N [OPTION..]\n"
    ++ codes "       emake --explain REPORT [--agents N]\n"
    ++ codes "       emake --help\n"
    ++ codes "       emake --version\n\n"
    ++ codes "  -I IMAGE          build in the tree that this file holds, and replace it by the new tree\n"
    ++ codes "  -f NAME           the makefile's name in the tree\n"
    ++ codes "  -C DIR            the directory in the tree in which to build\n"
    ++ codes "  -k                go on with what doesn't need a target that failed\n"
    ++ codes "  -n                print recipes and don't run them\n"
    ++ codes "  -q                run nothing; the status tells whether something is to be made\n"
    ++ codes "  -s                don't print recipes\n"
    ++ codes "  -i                go on behind lines that fail\n"
    ++ codes "  -B                make all targets anew\n"
    ++ codes "  -j N              build with 1 to 64 workers; without it 1\n"
    ++ codes "  --fuel N          give each job 1 to 1000000 units; without it 1000000\n"
    ++ codes "  --history FILE    keep in this file what jobs are found to wait for\n"
    ++ codes "  --mode MODE       create, merge (without it) or read the history\n"
    ++ codes "  --report FILE     write what each job did to this file\n"
    ++ codes "  --gen N           build a project of 1 to 10000 sources that is made up\n"
    ++ codes "  --explain REPORT  print a report's critical path, and a schedule\n"
    ++ codes "  --agents N        for 1 to 64 agents; without it 1\n\n"
    ++ codes "status: 0 all is made; 1 something is to be made (-q); 2 a fault; 3 a file or the output\n"
    ++ codes "failed; 4 a construct was refused; 5 a job's units were spent; 7 out of memory\n"

abbrev pub version : List ℕ
version = codes "emake 1.0, proved with rattle-kit-13f\n"

abbrev pub text_of : Page → List ℕ
text_of Usage = usage
text_of Version = version

abbrev pub page_named : Text → Option Page
page_named word =
    if bytes_eq (codes "--help") word then Some Usage
    else if bytes_eq (codes "--version") word then Some Version
    else None

-- it is the only word
abbrev pub page_in : List Text → Option Page
page_in (word ∷ []) = page_named word
page_in _ = None

-- ---- the page and the command's table

-- an option as it is written: a dash (45) and its letter, or two dashes and its name
abbrev pub written : Option ℕ → Option Text → Option Text
written (Some letter) name = Some (45 ∷ letter ∷ [])
written None name = option_map (λ n. 45 ∷ 45 ∷ n) name

abbrev pub option_words : List Text
option_words = filter_map (λ r. written r.short r.long) order_app.top.rules

-- of a line that begins with two blanks and a dash the word up to the next blank (32)
abbrev pub option_in : Text → Option Text
option_in line = if bytes_eq (codes "  -") (take 3 line) then Some (before_first (λ b. b == 32) (drop 2 line)) else None

abbrev pub listed : List ℕ → List Text
listed page = filter_map option_in (slice_split (λ b. b == 10) page)
