-- Why there is no build.
--     stopped text           a refusal that ends the run
--     word_line e            what the words of a command line, or of a make within a make, have wrong
--     dir_line name          `-C` names no directory
--     read_line e            why the makefiles can't be read, at its place
--     plan_line found e      why there is no plan; `found` tells whether there was a makefile
use Rattle.std.specs.Prelude.{ℕ, Bool, true, false, List, [], ◌++◌, codes}
use Rattle.em_base.specs.declared.place.Place.{Place}
use Rattle.em_cmdline.specs.declared.order.WordNo.{WordNo}
use Rattle.em_cmdline.specs.declared.order.WordNo.TheVariants as word
use Rattle.em_reading.specs.declared.no.MakefileFault.{MakefileFault}
use Rattle.em_reading.specs.declared.no.MakefileFault.TheVariants as fault
use Rattle.em_reading.specs.declared.no.RuleNo.{RuleNo}
use Rattle.em_reading.specs.declared.no.RuleNo.TheVariants as rule
use Rattle.em_reading.specs.declared.no.ReadNo.{ReadNo}
use Rattle.em_reading.specs.declared.no.ReadNo.TheVariants as read
use Rattle.em_plan.specs.declared.no.PlanNo.{PlanNo}
use Rattle.em_plan.specs.declared.no.PlanNo.TheVariants as plan
use Rattle.em_recipe.specs.Messages.{quoted, fault_text, halted}

-- a refusal that ends the run
abbrev pub stopped : List ℕ → List ℕ
stopped text = codes "emake: *** " ++ text ++ codes ".  Stop.\n"

abbrev pub word_text : WordNo → List ℕ
word_text word.Unknown = codes "bad words"
word_text word.Missing = codes "missing -I"
word_text (word.BadNumber w) = codes "bad number " ++ quoted w
word_text (word.BadName w) = codes "bad name " ++ quoted w
word_text (word.SameName w) = codes "same file " ++ quoted w
word_text word.NoMemory = []

abbrev pub word_line : WordNo → List ℕ
word_line e = stopped (word_text e)

-- the directory that `-C` names
abbrev pub dir_line : List ℕ → List ℕ
dir_line name = stopped (name ++ codes ": no such directory")

abbrev pub rule_text : RuleNo → List ℕ
rule_text rule.Recipe = codes "recipe commences before first target"
rule_text (rule.Static target) = codes "target " ++ quoted target ++ codes " doesn't match the target pattern"
rule_text (rule.Group target) = codes "grouped target " ++ quoted target ++ codes " needs a recipe"
rule_text (rule.Mixed target) = codes "target file " ++ quoted target ++ codes " has both : and :: entries"

abbrev pub read_text : MakefileFault → List ℕ
read_text fault.Separator = codes "missing separator"
read_text fault.Conditional = codes "extraneous conditional"
read_text fault.Endless = codes "missing endif"
read_text (fault.Include name) = name ++ codes ": absent"
read_text (fault.Expand e) = fault_text e
read_text fault.Define = codes "missing endef"
read_text (fault.Refused name) = codes "refused: " ++ name
read_text fault.Spent = codes "fuel spent"
read_text fault.Limit = codes "limit"
read_text (fault.Rule r) = rule_text r

abbrev pub fault_line : Place → MakefileFault → List ℕ
fault_line p f = halted p (read_text f)

abbrev pub read_line : ReadNo → List ℕ
read_line (read.At p f) = fault_line p f
read_line read.NoMemory = []

-- found: there was a makefile
abbrev pub no_targets : Bool → List ℕ
no_targets true = codes "No targets"
no_targets false = codes "No targets specified and no makefile found"

abbrev pub plan_text : Bool → PlanNo → List ℕ
plan_text found plan.NoTargets = no_targets found
plan_text found plan.TooManyJobs = codes "Too many jobs"
-- this comes of no plan over a tree
plan_text found plan.Spent = []
plan_text found plan.NoMemory = []

abbrev pub plan_line : Bool → PlanNo → List ℕ
plan_line found e = stopped (plan_text found e)
