-- What a table of nodes and the outcomes of jobs answer.
--     answer_on t o q      the answer to a question, on any table, where o has the jobs' outcomes
--     answer s q           the answer of a state
--     AgreesWith a es      a answers each question as the entry says
--     Agrees s es          the state does
--     holds_text, holds_memory      whether a copy of an outcome, of an answer, takes memory
use Rattle.std.specs.Prelude.{◌≡◌, ℕ, Bool, true, false, List, [], ◌∷◌, Option, Some, None, is_some, slice_get}
use Rattle.std.specs.FinMap.{get}
use Rattle.em_tree.specs.declared.state.State.{State}
use Rattle.em_tree.specs.declared.outcome.Outcome.{Outcome}
use Rattle.em_tree.specs.declared.outcome.Outcome.TheVariants as ended
use Rattle.em_tree.specs.declared.question.Question.{Question}
use Rattle.em_tree.specs.declared.question.Question.TheVariants as ask
use Rattle.em_tree.specs.declared.question.Answer.{Answer}
use Rattle.em_tree.specs.declared.question.Answer.TheVariants as told
use Rattle.em_tree.specs.declared.question.Entry.{Entry}
use Rattle.em_tree.specs.Trees.{Table, kind_of, stamp_of, content_of, link_of}
use Rattle.em_tree.specs.Names.{names_of}

-- The table need not be a tree. Where a path is absent its stamp is none; a content is that of a
-- file, names are those of a directory, a text is that of a link, and an outcome is that of a job
-- that has one, else none. No link is followed.
abbrev pub answer_on : Table → (ℕ → Option Outcome) → Question → Answer
answer_on t outcomes (ask.Kind p) = told.Kind (kind_of (get t p))
answer_on t outcomes (ask.Stamp p) = told.Stamp (stamp_of (get t p))
answer_on t outcomes (ask.Content p) = told.Content (content_of (get t p))
answer_on t outcomes (ask.Names p) = told.Names (names_of t p)
answer_on t outcomes (ask.Link p) = told.Link (link_of (get t p))
answer_on t outcomes (ask.Outcome k) = told.Outcome (outcomes k)

abbrev pub answer : State → Question → Answer
answer s q = answer_on s.tree (slice_get s.outcomes) q

-- what answers each question as the entry says
abbrev pub AgreesWith : (Question → Answer) → List Entry → Type 0
AgreesWith o [] = Unit {0}
AgreesWith o (e ∷ es) = (o e.question ≡ e.answer) × AgreesWith o es

abbrev pub Agrees : State → List Entry → Type 0
Agrees s es = AgreesWith (answer s) es

-- ---- copies that take memory

-- a text or a place, which is copied
abbrev pub holds_text : Outcome → Bool
holds_text (ended.Halted text place) = true
holds_text (ended.Refused construct place) = true
holds_text ended.Upto = false
holds_text ended.Counted = false
holds_text ended.Made = false
holds_text (ended.Failed status) = false
holds_text ended.NoRule = false
holds_text ended.Skipped = false
holds_text ended.Spent = false

-- bytes, names, the text of a link, or an outcome with a text
abbrev pub holds_memory : Answer → Bool
holds_memory (told.Kind kind) = false
holds_memory (told.Stamp stamp) = false
holds_memory (told.Content body) = is_some body
holds_memory (told.Names names) = is_some names
holds_memory (told.Link text) = is_some text
holds_memory (told.Outcome None) = false
holds_memory (told.Outcome (Some outcome)) = holds_text outcome
