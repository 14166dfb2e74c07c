-- What a utility does for each of its operands.
use Rattle.std.specs.Prelude.{ℕ, List}
use Rattle.em_view.specs.Do.{◌>>=◌}
use Rattle.em_utility.specs.Operands.{Tries}
use Rattle.em_fileutil.specs.declared.operand.Operand.{Operand}
use Rattle.em_fileutil.specs.declared.act.Act.{Act}
use Rattle.em_fileutil.specs.declared.act.Act.TheVariants.{Copy, Remove, MakeDirectory, RemoveDirectory, Touch, ListDirectory}
use Rattle.em_fileutil.specs.declared.copy.Manner.{Manner}
use Rattle.em_fileutil.specs.declared.copy.Target.{Target}
use Rattle.em_fileutil.specs.Spots.{operand_at, gives, levels}
use Rattle.em_fileutil.specs.Making.{make_directory, remove_directory, touch_operand}
use Rattle.em_fileutil.specs.Removing.{remove_node, remove_beneath}
use Rattle.em_fileutil.specs.Copying.{copy_top, copy_beneath, destination}
use Rattle.em_fileutil.specs.Listing.{list_operand}

unfoldable pub copy_operand : List ℕ → Manner → Target → Operand → Tries
copy_operand utility manner to s = do
  t ← gives (destination to s)
  copy_top utility (copy_beneath utility manner levels) manner s t

abbrev pub act_on : List ℕ → Act → Operand → Tries
act_on utility (Copy manner to) o = copy_operand utility manner to o
act_on utility (Remove how) o = remove_node (remove_beneath how levels) how o
act_on utility (MakeDirectory parents) o = make_directory parents o
act_on utility RemoveDirectory o = remove_directory o
act_on utility (Touch create) o = touch_operand create o
act_on utility (ListDirectory how) o = list_operand how o

-- a name that is no path is a fault of its own
unfoldable pub act_for : List ℕ → Act → List ℕ → List ℕ → Tries
act_for utility what cwd name = do
  o ← gives (operand_at cwd name)
  act_on utility what o
