-- The expanded text in front of a rule's recipe.
--     head_of text              `targets : normal | order-only`, or `targets : form : normal | order-only`; none without a colon
--     refusal_of assigns text   the leftmost construct in it that is refused, by its name
use Rattle.std.specs.Prelude.{ℕ, ◌-◌, ◌==◌, ◌&&◌, ◌||◌, nat_eq, nat_lt, not, Bool, true, false, List, [], ◌∷◌, map, take, drop, length, Option, Some, None, is_some, option_map, option_and_then, slice_get, codes, if◌then◌else◌}
use Rattle.std.specs.List.{position, list_any, starts_with, ends_with}
use Rattle.std.specs.Option.{option_map_or, option_or}
use Rattle.std.specs.Str.{bytes_eq}
use Rattle.em_base.specs.Blanks.{trimmed}
use Rattle.em_wordlist.specs.Words.{words_of}
use Rattle.em_rules.specs.Dots.{undotted}
use Rattle.em_rules.specs.declared.rule.RuleKind.{RuleKind}
use Rattle.em_rules.specs.declared.rule.RuleKind.TheVariants.{Ordinary, Grouped, Double}
use Rattle.em_wordlist.specs.Stems.{is_percent}
use Rattle.em_statement.specs.declared.head.Head.{Head}
use Rattle.em_statement.specs.declared.head.Colons.{Colons}
use Rattle.em_statement.specs.Split.{behind}

abbrev pub is_colon : ℕ → Bool
is_colon b = b == 58

-- what stands in front of the first `|` and behind it
abbrev pub is_bar : ℕ → Bool
is_bar b = b == 124

abbrev pub normal_text : List ℕ → List ℕ
normal_text text = option_map_or (λ at. take at text) (position is_bar text) text

abbrev pub order_text : List ℕ → List ℕ
order_text text = option_map_or (λ at. behind at text) (position is_bar text) []

abbrev pub head : RuleKind → List ℕ → Option (List ℕ) → List ℕ → Head
head kind targets form prerequisites = record {
  kind = kind;
  targets = words_of targets;
  form = form;
  normal = words_of (normal_text prerequisites);
  order = words_of (order_text prerequisites);
}

-- a second colon ends the form of a static pattern rule
abbrev pub head_by : RuleKind → List ℕ → List ℕ → Option ℕ → Head
head_by kind targets rest None = head kind targets None rest
head_by kind targets rest (Some at) = head kind targets (Some (trimmed (take at rest))) (behind at rest)

-- an `&` right before the colon belongs to it
abbrev pub is_grouped : List ℕ → Bool
is_grouped targets = ends_with nat_eq targets (codes "&")

-- a rule's kind is that of its colon
abbrev pub kind_of : List ℕ → List ℕ → RuleKind
kind_of targets rest =
    if starts_with nat_eq rest (codes ":") then Double
    else if is_grouped targets then Grouped
    else Ordinary

abbrev pub targets_text : List ℕ → List ℕ
targets_text text = if is_grouped text then take (length text - 1) text else text

-- what stands behind the rule's colon, which may be `::`
abbrev pub behind_colon : List ℕ → List ℕ
behind_colon rest = if starts_with nat_eq rest (codes ":") then drop 1 rest else rest

abbrev pub head_with : RuleKind → List ℕ → List ℕ → Head
head_with kind targets rest = head_by kind targets rest (position is_colon rest)

abbrev pub head_at : List ℕ → ℕ → Head
head_at text at = head_with (kind_of (take at text) (behind at text)) (targets_text (take at text)) (behind_colon (behind at text))

unfoldable pub head_of : List ℕ → Option Head
head_of text = option_map (head_at text) (position is_colon text)

-- ---- the colons

-- the second colon, behind the rule's, is a `::`
abbrev pub is_doubled : List ℕ → Bool
is_doubled rest = option_map_or (λ at. starts_with nat_eq (behind at rest) (codes ":")) (position is_colon rest) false

abbrev pub colons_of : List ℕ → List ℕ → Colons
colons_of targets rest = record {
  grouped = is_grouped targets;
  double = starts_with nat_eq rest (codes ":");
  again = is_doubled (behind_colon rest);
}

-- ---- what is refused

-- `lib(member)`
abbrev pub is_member : List ℕ → Bool
is_member word = ends_with nat_eq word (codes ")") && list_any (λ b. b == 40) (drop 1 word)

abbrev pub is_special : List ℕ → Bool
is_special word =
    if bytes_eq word (codes ".DEFAULT") then true
    else if bytes_eq word (codes ".SECONDEXPANSION") then true
    else if bytes_eq word (codes ".LOW_RESOLUTION_TIME") then true
    else if bytes_eq word (codes ".EXPORT_ALL_VARIABLES") then true
    else if bytes_eq word (codes ".ONESHELL") then true
    else if bytes_eq word (codes ".POSIX") then true
    else if bytes_eq word (codes ".NOTINTERMEDIATE") then true
    else false

-- the special targets that mean something, or nothing
abbrev pub is_known : List ℕ → Bool
is_known name =
    bytes_eq name (codes ".PHONY")
    || (bytes_eq name (codes ".SILENT")
    || (bytes_eq name (codes ".IGNORE")
    || (bytes_eq name (codes ".DELETE_ON_ERROR")
    || (bytes_eq name (codes ".SUFFIXES")
    || (bytes_eq name (codes ".NOTPARALLEL")
    || (bytes_eq name (codes ".PRECIOUS")
    || (bytes_eq name (codes ".INTERMEDIATE")
    || bytes_eq name (codes ".SECONDARY"))))))))

-- the first `\%`, or where a `%` is refused the first of both
abbrev pub percent_refusal : Bool → List ℕ → Option (List ℕ)
percent_refusal mixed [] = None
percent_refusal mixed (b ∷ bs) =
    if (b == 92) && starts_with nat_eq bs (codes "%") then Some (92 ∷ 37 ∷ [])
    else if mixed && (b == 37) then Some (codes "%")
    else percent_refusal mixed bs

-- a target: patterns don't stand beside names, and `.SUFFIXES` has no prerequisites
abbrev pub target_refusal : Bool → Bool → List ℕ → Option (List ℕ)
target_refusal mixed followed word =
    if is_member word then Some word
    else if is_special (undotted word) then Some (undotted word)
    else if followed && bytes_eq (undotted word) (codes ".SUFFIXES") then Some (undotted word)
    else percent_refusal mixed word

abbrev pub prerequisite_refusal : List ℕ → Option (List ℕ)
prerequisite_refusal word =
    if is_member word then Some word
    else if bytes_eq (undotted word) (codes ".WAIT") then Some (undotted word)
    else percent_refusal false word

-- the first that there is
abbrev pub first_of : List (Option (List ℕ)) → Option (List ℕ)
first_of [] = None
first_of (None ∷ rs) = first_of rs
first_of (Some r ∷ rs) = Some r

abbrev pub has_percent : List ℕ → Bool
has_percent word = list_any is_percent word

-- a `::` that no rule has: behind an `&`, a pattern or a special target
abbrev pub is_lone_double : Colons → List (List ℕ) → Bool
is_lone_double c targets = c.double && (c.grouped || (list_any has_percent targets || list_any (λ t. is_known (undotted t)) targets))

-- at the colon: such a `::`, an assignment behind it, by the first target, if there is one, or another `::`
abbrev pub colon_refusal : Colons → Bool → List (List ℕ) → Option (List ℕ)
colon_refusal c assigns targets =
    if is_lone_double c targets then Some (codes "::")
    else if assigns then slice_get targets 0
    else if c.again then Some (codes "::")
    else None

-- several targets, with and without a `%`, that aren't of a static pattern rule
abbrev pub is_mixed : Head → Bool
is_mixed h = nat_lt 1 (length h.targets) && (not (is_some h.form) && list_any (λ t. not (has_percent t)) h.targets)

abbrev pub is_followed : Head → Bool
is_followed h = not (length h.normal == 0) || not (length h.order == 0)

-- the targets, the colon, the prerequisites
abbrev pub head_refusal : Bool → Colons → Head → Option (List ℕ)
head_refusal assigns c h =
    option_or (first_of (map (target_refusal (is_mixed h) (is_followed h)) h.targets))
    (option_or (colon_refusal c assigns h.targets)
    (option_or (first_of (map prerequisite_refusal h.normal)) (first_of (map prerequisite_refusal h.order))))

abbrev pub refusal_at : Bool → List ℕ → ℕ → Option (List ℕ)
refusal_at assigns text at = head_refusal assigns (colons_of (take at text) (behind at text)) (head_at text at)

unfoldable pub refusal_of : Bool → List ℕ → Option (List ℕ)
refusal_of assigns text = option_and_then (refusal_at assigns text) (position is_colon text)
