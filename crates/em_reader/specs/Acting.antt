-- What a statement does when its texts are expanded.
--     holds vars c h        whether a condition holds; none where it isn't of the form
--     matched ..            names, each with a wildcard replaced by its matches in the tree, if it has some
--     act_alone p s h       what any other statement than an `include` does
use Rattle.std.specs.Prelude.{ℕ, ◌-◌, ◌==◌, ◌&&◌, ◌||◌, slice_get, not, Bool, true, false, List, [], ◌∷◌, ◌++◌, length, map, Option, Some, None, is_none, is_some, option_map, codes, if◌then◌else◌}
use Rattle.std.specs.List.{list_any}
use Rattle.std.specs.Option.{option_or}
use Rattle.std.specs.Str.{bytes_eq}
use Rattle.em_base.specs.declared.place.Place.{Place}
use Rattle.em_base.specs.Blanks.{is_blank}
use Rattle.em_wordlist.specs.Words.{words_of}
use Rattle.em_wordlist.specs.Stems.{is_percent}
use Rattle.em_glob.specs.declared.glyph.Glyph.{Glyph}
use Rattle.em_glob.specs.Patterns.{is_pattern}
use Rattle.em_namefn.specs.Wildcards.{glyphs_of}
use Rattle.em_pathname.specs.Walking.{matching_names}
use Rattle.em_rules.specs.declared.rule.Rule.{Rule}
use Rattle.em_rules.specs.declared.rule.RecipeLine.{RecipeLine}
use Rattle.em_vars.specs.Entries.{Entries}
use Rattle.em_view.specs.Steps.{done, refuse, own, below}
use Rattle.em_view.specs.Do.{◌>>=◌}
use Rattle.em_statement.specs.declared.assignment.Assignment.{Assignment}
use Rattle.em_statement.specs.declared.assignment.Operator.{Operator}
use Rattle.em_statement.specs.declared.assignment.Operator.TheVariants as operator
use Rattle.em_statement.specs.declared.condition.Condition.{Condition}
use Rattle.em_statement.specs.declared.condition.Condition.TheVariants.{Same, Different, Defined, Undefined, Malformed}
use Rattle.em_statement.specs.declared.statement.Statement.{Statement}
use Rattle.em_statement.specs.declared.statement.Statement.TheVariants as statement
use Rattle.em_statement.specs.declared.statement.RuleLine.{RuleLine}
use Rattle.em_statement.specs.declared.statement.Undefine.{Undefine}
use Rattle.em_statement.specs.declared.head.Head.{Head}
use Rattle.em_statement.specs.Heads.{head_of, refusal_of}
use Rattle.em_statement.specs.Shapes.{colons_in}
use Rattle.em_statement.specs.Split.{is_empty}
use Rattle.em_reading.specs.declared.no.MakefileFault.{MakefileFault}
use Rattle.em_reading.specs.declared.no.MakefileFault.TheVariants as fault
use Rattle.em_reading.specs.declared.heard.Heard.{Heard}
use Rattle.em_reading.specs.declared.heard.Expanded.{Expanded}
use Rattle.em_reading.specs.declared.reading.Reading.{Reading}
use Rattle.em_reading.specs.Faults.{at_place, of_desk}
use Rattle.em_reading.specs.Changes.{begin_rule}
use Rattle.em_reading.specs.Heard.{assign, undefine, export, unexport}
use Rattle.em_reader.specs.Hearing.{Reads}

-- ---- wildcards

-- a word that matches nothing stays
abbrev pub or_itself : List ℕ → List (List ℕ) → List (List ℕ)
or_itself word [] = word ∷ []
or_itself word (n ∷ ns) = n ∷ ns

unfoldable pub wildcard_glyphs : Place → List Glyph → Reads (List (List ℕ))
wildcard_glyphs p gs = λ r. below (of_desk p) (matching_names r.cwd gs) r

unfoldable pub matches_of : Place → List ℕ → Reads (List (List ℕ))
matches_of p word = do
  names ← wildcard_glyphs p (glyphs_of word)
  done (or_itself word names)

-- what it is in every pattern
abbrev pub is_itself : ℕ → Bool
is_itself b = not ((b == 42) || ((b == 63) || (b == 91)))

abbrev pub matched_word : Place → List ℕ → Reads (List (List ℕ))
matched_word p word = if is_pattern (glyphs_of word) then matches_of p word else done (word ∷ [])

abbrev pub matched : Place → List (List ℕ) → List (List ℕ) → Reads (List (List ℕ))
matched p so_far [] = done so_far
matched p so_far (w ∷ ws) = do
  names ← matched_word p w
  matched p (so_far ++ names) ws

-- ---- rules

abbrev pub is_pattern_rule : Option (List ℕ) → List (List ℕ) → Bool
is_pattern_rule form targets = is_none form && list_any (λ t. list_any is_percent t) targets

abbrev pub first_line : Place → List ℕ → RecipeLine
first_line p text = record { place = p; text = text }

abbrev pub recipe_of : Place → Option (List ℕ) → Option (List RecipeLine)
recipe_of p recipe = option_map (λ t. first_line p t ∷ []) recipe

abbrev pub rule_of : Place → RuleLine → Head → Rule
rule_of p l h = record {
  targets = h.targets;
  kind = h.kind;
  pattern = is_pattern_rule h.form h.targets;
  form = h.form;
  normal = h.normal;
  order = h.order;
  recipe = recipe_of p l.recipe;
  place = p;
}

unfoldable pub rule_with : Place → RuleLine → Head → Reads (Unit {0})
rule_with p l h = do
  targets ← matched p [] h.targets
  normal ← matched p [] h.normal
  order ← matched p [] h.order
  own (begin_rule (rule_of p l (record h { targets = targets; normal = normal; order = order })))

abbrev pub is_nothing : List ℕ → Option (List ℕ) → Bool
is_nothing text recipe = is_empty text && is_none recipe

-- a line without a colon that holds more than blanks is no statement
abbrev pub no_rule : Place → RuleLine → List ℕ → Reads (Unit {0})
no_rule p l text = if is_nothing text l.recipe then done tt else refuse (at_place p fault.Separator)

abbrev pub rule_by : Place → RuleLine → List ℕ → Option Head → Reads (Unit {0})
rule_by p l text None = no_rule p l text
rule_by p l text (Some h) = rule_with p l h

abbrev pub unless_refused : Option (List ℕ) → Place → Reads (Unit {0}) → Reads (Unit {0})
unless_refused None p m = m
unless_refused (Some name) p m = refuse (at_place p (fault.Refused name))

-- a text in front of a function that is refused: where the function stands right behind a word, the
-- word goes on with what isn't known, so it is none of the names that are refused as a whole
abbrev pub ends_word : Option ℕ → Bool
ends_word None = false
ends_word (Some b) = not (is_blank b || (b == 58))

abbrev pub goes_on : List ℕ → Bool
goes_on text = ends_word (slice_get text (length text - 1))

abbrev pub ended : List ℕ → List ℕ
ended text = if goes_on text then text ++ 120 ∷ [] else text

abbrev pub has_colon : List ℕ → Bool
has_colon text = list_any (λ b. b == 58) text

-- where no colon stands in front of the function, those that are written stand behind it, so what
-- is known are targets
abbrev pub known : List ℕ → List ℕ → List ℕ
known written text = if has_colon text then ended text else ended text ++ colons_in written

-- what is refused in the head, from the left; what stands behind a function that is refused isn't
-- known but for its colons, so an assignment counts only where its colon is known
abbrev pub refusal_by : Option (List ℕ) → RuleLine → List ℕ → Option (List ℕ)
refusal_by None l text = refusal_of l.assigns text
refusal_by (Some name) l text = refusal_of (l.assigns && has_colon text) (known l.head text)

abbrev pub refusal_in : RuleLine → Expanded → Option (List ℕ)
refusal_in l e = refusal_by e.refused l e.text

abbrev pub rule_line : Place → RuleLine → Heard → Reads (Unit {0})
rule_line p l h =
    unless_refused (refusal_in l h.first) p
    (unless_refused h.first.refused p (rule_by p l h.first.text (head_of h.first.text)))

-- ---- a statement

abbrev pub act_alone : Place → Statement → Heard → Reads (Unit {0})
act_alone p (statement.Assign a) h = own (assign p a h)
act_alone p (statement.Undefine u) h = own (undefine p u h)
act_alone p (statement.Export names) h = own (export p h)
act_alone p (statement.Unexport names) h = own (unexport p h)
act_alone p (statement.Rule l) h = rule_line p l h
act_alone p (statement.Unsupported word) h = refuse (at_place p (fault.Refused word))
act_alone p statement.Stray h = refuse (at_place p fault.Separator)
act_alone p _ h = done tt
