-- What the index of a book has for a name, as its rules are noted one after another.
--     changed u before     what is noted of a name with one use more
--     noted i r name before  with all the uses of the name in the rule of number i
--     uses_of rules name     with all rules
--     Tells index rules      the index has this of each name
use Rattle.std.specs.Prelude.{◌≡◌, ℕ, ◌+◌, ◌-◌, ◌||◌, not, Bool, false, List, [], ◌∷◌, ◌++◌, length, codes, slice_get, Option, Some, None, is_some, if◌then◌else◌}
use Rattle.std.specs.FinMap.{FinMap, get}
use Rattle.std.specs.Ordering.{nat_cmp}
use Rattle.std.specs.Cmp.Lexicographic.{slice_cmp}
use Rattle.em_rules.specs.declared.rule.Rule.{Rule}
use Rattle.em_rules.specs.declared.uses.Use.{Use}
use Rattle.em_rules.specs.declared.uses.Use.TheVariants.{Target, Prerequisite}
use Rattle.em_rules.specs.declared.uses.Uses.{Uses}
use Rattle.em_rules.specs.Rules.{is_in, has_target}
use Rattle.em_rules.specs.Groups.{is_number, is_double_kind}

abbrev pub Index : Type 0
Index = FinMap (slice_cmp nat_cmp) Uses

abbrev pub no_uses : Uses
no_uses = record { targets = []; recipe = None; single = false; double = false; phony = false }

abbrev pub uses_or : Option Uses → Uses
uses_or None = no_uses
uses_or (Some u) = u

-- the number at the end, once
abbrev pub pushed : List ℕ → ℕ → List ℕ
pushed numbers i = if is_number i (slice_get numbers (length numbers - 1)) then numbers else numbers ++ i ∷ []

abbrev pub changed : Use → Uses → Uses
changed (Target i recipe double) u = record u { targets = pushed u.targets i; recipe = if recipe then Some i else u.recipe; single = u.single || not double; double = u.double || double }
changed (Prerequisite phony) u = record u { phony = u.phony || phony }

abbrev pub used : Bool → Use → Option Uses → Option Uses
used b what before = if b then Some (changed what (uses_or before)) else before

abbrev pub noted : ℕ → Rule → List ℕ → Option Uses → Option Uses
noted i r name before =
    let phony = has_target r (codes ".PHONY") in
    used (is_in r.order name) (Prerequisite phony) (used (is_in r.normal name) (Prerequisite phony) (used (has_target r name) (Target i (is_some r.recipe) (is_double_kind r.kind)) before))

abbrev pub uses_from : ℕ → List Rule → List ℕ → Option Uses → Option Uses
uses_from i [] name before = before
uses_from i (r ∷ rules) name before = uses_from (i + 1) rules name (noted i r name before)

abbrev pub uses_of : List Rule → List ℕ → Option Uses
uses_of rules name = uses_from 0 rules name None

abbrev pub Tells : Index → List Rule → Type 0
Tells index rules = (name : List ℕ) → get index name ≡ uses_of rules name
