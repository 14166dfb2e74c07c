-- What a utility writes of what it has read: of each source for itself, of all lines together, of
-- two texts, or of the lines that hold a pattern.
--     shown_by f name bytes       what a filter writes of the bytes of a file
--     job_done utility job ss     what is written in the end, and the status
use Rattle.std.specs.Prelude.{ℕ, ◌==◌, ◌||◌, Bool, false, not, nat_lt, List, [], ◌∷◌, ◌++◌, length, codes, decimal, if◌then◌else◌}
use Rattle.em_view.specs.declared.done.Done.{Done}
use Rattle.em_lineutil.specs.declared.difference.Comparison.{Comparison}
use Rattle.em_lineutil.specs.declared.difference.Comparison.TheVariants.{Same, Differ, FirstShort, SecondShort}
use Rattle.em_lineutil.specs.Lines.{head, tail, count_line}
use Rattle.em_lineutil.specs.Runs.{uniq_text}
use Rattle.em_lineutil.specs.Sorting.{sort_text}
use Rattle.em_lineutil.specs.Searching.{selected, prefixed, comparison}
use Rattle.em_utility.specs.Reasons.{error_line}
use Rattle.em_utility.specs.Writing.{nothing, written, faulted}
use Rattle.em_textutil.specs.declared.source.OperandContent.{OperandContent}
use Rattle.em_textutil.specs.declared.source.OperandContent.TheVariants.{Bytes, No}
use Rattle.em_textutil.specs.declared.source.ReadOperand.{ReadOperand}
use Rattle.em_textutil.specs.declared.job.Filter.{Filter}
use Rattle.em_textutil.specs.declared.job.Filter.TheVariants as filter
use Rattle.em_textutil.specs.declared.job.Grep.{Grep}
use Rattle.em_textutil.specs.declared.job.TextOperation.{TextOperation}
use Rattle.em_textutil.specs.declared.job.TextOperation.TheVariants as job

-- ---- each for itself

-- the input has no name
abbrev pub names_of : List ℕ → List (List ℕ)
names_of [] = []
names_of (b ∷ bs) = (b ∷ bs) ∷ []

abbrev pub shown_by : Filter → List ℕ → List ℕ → List ℕ
shown_by filter.Cat name bytes = bytes
shown_by (filter.Head n) name bytes = head n bytes
shown_by (filter.Tail n) name bytes = tail n bytes
shown_by (filter.Count asked) name bytes = count_line asked bytes (names_of name)
shown_by (filter.Uniq counted) name bytes = uniq_text counted bytes

abbrev pub by_found : List ℕ → Filter → List ℕ → OperandContent → Done → Done
by_found utility f name (Bytes bytes) d = written 1 (shown_by f name bytes) d
by_found utility f name (No reason) d = faulted utility name reason d

abbrev pub each_done : List ℕ → Filter → List ReadOperand → Done → Done
each_done utility f [] d = d
each_done utility f (s ∷ ss) d = each_done utility f ss (by_found utility f s.name s.found d)

-- ---- all together

-- the texts that were found, and the faults of the others
abbrev pub text_of : OperandContent → List (List ℕ)
text_of (Bytes bytes) = bytes ∷ []
text_of (No reason) = []

abbrev pub texts_of : List ReadOperand → List (List ℕ)
texts_of [] = []
texts_of (s ∷ ss) = text_of s.found ++ texts_of ss

abbrev pub with_fault : List ℕ → List ℕ → OperandContent → Done → Done
with_fault utility name (Bytes bytes) d = d
with_fault utility name (No reason) d = faulted utility name reason d

abbrev pub faults_done : List ℕ → List ReadOperand → Done → Done
faults_done utility [] d = d
faults_done utility (s ∷ ss) d = faults_done utility ss (with_fault utility s.name s.found d)

-- ---- two

abbrev pub at_status : ℕ → Done → Done
at_status n d = record d { status = n }

abbrev pub difference_line : List ℕ → List ℕ → ℕ → ℕ → List ℕ
difference_line a b byte line = a ++ codes " " ++ b ++ codes " differ: char " ++ decimal byte ++ codes ", line " ++ decimal line ++ 10 ∷ []

abbrev pub said : ℕ → List ℕ → Done
said stream text = at_status 1 (written stream text nothing)

abbrev pub compared : List ℕ → List ℕ → Comparison → Done
compared a b Same = nothing
compared a b (Differ byte line) = said 1 (difference_line a b byte line)
compared a b FirstShort = said 2 (error_line (codes "cmp") a (codes "short"))
compared a b SecondShort = said 2 (error_line (codes "cmp") b (codes "short"))

-- an error is 2, whatever the other text is
abbrev pub compared_by : List ℕ → OperandContent → List ℕ → OperandContent → Done → Done
compared_by a (Bytes x) b (Bytes y) d = compared a b (comparison x y)
compared_by a _ b _ d = at_status 2 d

abbrev pub pair_done : List ReadOperand → Done
pair_done (s ∷ t ∷ []) = compared_by s.name s.found t.name t.found (faults_done (codes "cmp") (s ∷ t ∷ []) nothing)
pair_done _ = nothing

abbrev pub muted : Bool → Done → Done
muted silent d = if silent then record d { pieces = [] } else d

-- ---- the lines that hold a pattern

abbrev pub front_of : Grep → List ℕ → List ℕ
front_of g name = if g.several then name ++ 58 ∷ [] else []

abbrev pub count_behind : List ℕ → ℕ → List ℕ
count_behind front n = front ++ decimal n ++ 10 ∷ []

abbrev pub shown_lines : Grep → List ℕ → List (List ℕ) → List ℕ
shown_lines g name ls =
    if g.quiet then [] else if g.counted then count_behind (front_of g name) (length ls) else prefixed (front_of g name) ls

abbrev pub grep_found : Grep → List ℕ → OperandContent → Done → Done
grep_found g name (Bytes bytes) d = written 1 (shown_lines g name (selected g.search g.pattern bytes)) d
grep_found g name (No reason) d = faulted (codes "grep") name reason d

abbrev pub grep_each : Grep → List ReadOperand → Done → Done
grep_each g [] d = d
grep_each g (s ∷ ss) d = grep_each g ss (grep_found g s.name s.found d)

abbrev pub has_line : Grep → OperandContent → Bool
has_line g (Bytes bytes) = nat_lt 0 (length (selected g.search g.pattern bytes))
has_line g (No reason) = false

-- some line of some file is selected
abbrev pub some_line : Grep → List ReadOperand → Bool
some_line g [] = false
some_line g (s ∷ ss) = has_line g s.found || some_line g ss

-- 2 after an error, else 0 where some line was selected
abbrev pub grep_status : Bool → ℕ → ℕ
grep_status some status = if not (status == 0) then 2 else if some then 0 else 1

abbrev pub grep_done : Grep → List ReadOperand → Done
grep_done g ss = let d = grep_each g ss nothing in at_status (grep_status (some_line g ss) d.status) d

-- ---- in the end

unfoldable pub job_done : List ℕ → TextOperation → List ReadOperand → Done
job_done utility (job.Each f) ss = each_done utility f ss nothing
job_done utility (job.Sort o) ss = written 1 (sort_text o (texts_of ss)) (faults_done utility ss nothing)
job_done utility (job.Pair silent) ss = muted silent (pair_done ss)
job_done utility (job.Grep g) ss = grep_done g ss
