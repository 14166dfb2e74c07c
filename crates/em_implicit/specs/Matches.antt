-- How a target matches the target patterns of a rule, and what the rule then makes.
--     match_of pattern target    the directory and the stem with which it matches
--     match_at r i target        those with which it matches the target pattern of number i
--     is_matched r target        it matches one of the target patterns
--     normal_of r m, order_of r m    the prerequisites that the rule makes for a match
--     members_of r m             the targets that it makes for it, one of each target pattern
use Rattle.std.specs.Prelude.{ℕ, ◌-◌, ◌==◌, Bool, not, List, [], ◌++◌, map, length, take, drop, slice_get, Option, Some, None, is_some, if◌then◌else◌}
use Rattle.std.specs.List.{suffix_len, list_any}
use Rattle.em_base.specs.declared.place.Span.{Span}
use Rattle.em_base.specs.Spans.{cut}
use Rattle.em_wordlist.specs.Stems.{is_percent, stem_of, filled}
use Rattle.em_rules.specs.declared.rule.Rule.{Rule}
use Rattle.em_rules.specs.Dots.{undotted}

abbrev pub is_slash : ℕ → Bool
is_slash b = b == 47

-- how many bytes stand behind the last slash, or in all
abbrev pub behind : List ℕ → ℕ
behind name = suffix_len (λ b. not (is_slash b)) name

-- where the part begins that is matched: behind the last slash, where the pattern has no slash
-- itself
abbrev pub match_start : List ℕ → List ℕ → ℕ
match_start pattern target = if list_any is_slash pattern then 0 else length target - behind target

-- `%` stands for at least one byte
abbrev pub filled_by : Option Span → List ℕ → Option (List ℕ)
filled_by None word = None
filled_by (Some s) word = if length (cut word s) == 0 then None else Some (cut word s)

abbrev pub filled_stem : List ℕ → List ℕ → Option (List ℕ)
filled_stem pattern word = filled_by (stem_of pattern word) word

abbrev pub behind_dir : List ℕ → Option (List ℕ) → Option (List ℕ × List ℕ)
behind_dir dir None = None
behind_dir dir (Some stem) = Some (dir, stem)

abbrev pub match_of : List ℕ → List ℕ → Option (List ℕ × List ℕ)
match_of pattern target = behind_dir (take (match_start pattern target) target) (filled_stem pattern (drop (match_start pattern target) target))

abbrev pub match_by : Option (List ℕ) → List ℕ → Option (List ℕ × List ℕ)
match_by None target = None
match_by (Some pattern) target = match_of pattern target

abbrev pub match_at : Rule → ℕ → List ℕ → Option (List ℕ × List ℕ)
match_at r i target = match_by (slice_get r.targets i) target

abbrev pub is_matched : Rule → List ℕ → Bool
is_matched r target = list_any (λ pattern. is_some (match_of pattern target)) r.targets

-- ---- what a match makes

-- the directory is put before what is made from the stem; a name without `%` stands as it is
abbrev pub made : List ℕ → List ℕ → List ℕ → List ℕ
made dir stem pattern = undotted (if list_any is_percent pattern then dir ++ filled pattern stem else pattern)

abbrev pub made_all : Option (List ℕ × List ℕ) → List (List ℕ) → List (List ℕ)
made_all None patterns = []
made_all (Some m) patterns = map (made m.0 m.1) patterns

abbrev pub normal_of : Rule → Option (List ℕ × List ℕ) → List (List ℕ)
normal_of r m = made_all m r.normal

abbrev pub order_of : Rule → Option (List ℕ × List ℕ) → List (List ℕ)
order_of r m = made_all m r.order

abbrev pub members_of : Rule → Option (List ℕ × List ℕ) → List (List ℕ)
members_of r m = made_all m r.targets
