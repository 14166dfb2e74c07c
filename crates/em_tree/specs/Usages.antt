-- What a job asked and was answered, in little room: an entry stands for those before it, too, that
-- found no link on its way.
--     no_link p            the path was asked for a link, and is none
--     clear_links n p      so were the path and what is above it, n paths in all, from the top
--     entries_of l         the entries that a look stands for
--     flat ls              those of all of them
use Rattle.std.specs.Prelude.{ℕ, zero, suc, List, [], ◌∷◌, ◌++◌, Option, Some, None}
use Rattle.em_path.specs.Paths.{parent_text}
use Rattle.em_tree.specs.declared.question.Question.{Question}
use Rattle.em_tree.specs.declared.question.Question.TheVariants as ask
use Rattle.em_tree.specs.declared.question.Answer.TheVariants as told
use Rattle.em_tree.specs.declared.question.Entry.{Entry}
use Rattle.em_tree.specs.declared.usage.Clear.{Clear}
use Rattle.em_tree.specs.declared.usage.Clear.TheVariants.{Above, Through}
use Rattle.em_tree.specs.declared.usage.Look.{Look}

abbrev pub no_link : List ℕ → Entry
no_link p = record { question = ask.Link p; answer = told.Link None }

-- nothing is above the root
abbrev pub clear_links : ℕ → Option (List ℕ) → List Entry
clear_links zero p = []
clear_links (suc n) None = []
clear_links (suc n) (Some p) = clear_links n (parent_text p) ++ no_link p ∷ []

-- an outcome is asked of no path
abbrev pub path_in : Question → Option (List ℕ)
path_in (ask.Kind p) = Some p
path_in (ask.Stamp p) = Some p
path_in (ask.Content p) = Some p
path_in (ask.Names p) = Some p
path_in (ask.Link p) = Some p
path_in (ask.Outcome k) = None

abbrev pub parent_in : Option (List ℕ) → Option (List ℕ)
parent_in None = None
parent_in (Some p) = parent_text p

abbrev pub cleared : Clear → Option (List ℕ) → List Entry
cleared (Above n) p = clear_links n (parent_in p)
cleared (Through n) p = clear_links n p

abbrev pub entries_of : Look → List Entry
entries_of l = cleared l.clear (path_in l.entry.question) ++ l.entry ∷ []

abbrev pub flat : List Look → List Entry
flat [] = []
flat (l ∷ ls) = entries_of l ++ flat ls
