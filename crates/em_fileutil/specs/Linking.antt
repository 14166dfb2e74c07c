-- ln -s [-f] of one link, readlink, and the clearing of the place of a link.
--     link_text text                    whether a link may say this
--     clear t                           a link or a file goes, so that a link can be made there
--     link_place cwd text o k           where the link goes, by the kind of what the name leads to
--     link_operand cwd force text name      makes the link
--     read_link cwd name                writes what the link of this name says
use Rattle.std.specs.Prelude.{ℕ, ◌==◌, ◌&&◌, ◌||◌, nat_lt, nat_le, Bool, not, List, [], ◌∷◌, ◌++◌, length, Option, Some, None, Result, Ok, Err, if◌then◌else◌}
use Rattle.std.specs.List.{list_all}
use Rattle.em_path.specs.declared.path.PathNo.{PathNo}
use Rattle.em_path.specs.Paths.{last_of}
use Rattle.em_path.specs.Reading.{read_fault, resolved_text}
use Rattle.em_tree.specs.declared.node.Kind.{Kind}
use Rattle.em_tree.specs.declared.node.Kind.TheVariants as kind
use Rattle.em_view.specs.declared.done.Done.{Done}
use Rattle.em_view.specs.Rows.{kind_at, link_at, make_link, remove}
use Rattle.em_view.specs.Steps.{Steps, done, own}
use Rattle.em_view.specs.Do.{◌>>=◌}
use Rattle.em_utility.specs.declared.reason.Reason.TheVariants as reason
use Rattle.em_utility.specs.declared.operand.OperandNo.{OperandNo}
use Rattle.em_utility.specs.declared.operand.OperandNo.TheVariants.{Fault}
use Rattle.em_utility.specs.Writing.{written}
use Rattle.em_utility.specs.Operands.{located, at, Tries}
use Rattle.em_fileutil.specs.declared.operand.Operand.{Operand}
use Rattle.em_fileutil.specs.Spots.{operand_at, child, gives}

-- 1 to 1,024 bytes without NUL and newline
abbrev pub is_plain : ℕ → Bool
is_plain b = not (b == 0 || b == 10)

abbrev pub is_link_text : List ℕ → Bool
is_link_text text = nat_lt 0 (length text) && nat_le (length text) 1024 && list_all is_plain text

abbrev pub link_text : List ℕ → Result (Unit {0}) OperandNo
link_text text = if is_link_text text then Ok tt else Err (Fault text reason.BadPath)

-- ---- the place of a link

abbrev pub clear_by : Operand → Kind → Tries
clear_by t kind.File = at t.name (remove t.path)
clear_by t _ = done tt

unfoldable pub clear_other : Operand → Tries
clear_other t = do
  k ← at t.name (kind_at t.path)
  clear_by t k

abbrev pub clear_past : Operand → Option (List ℕ) → Tries
clear_past t (Some text) = at t.name (remove t.path)
clear_past t None = clear_other t

unfoldable pub clear : Operand → Tries
clear t = do
  l ← at t.name (link_at t.path)
  clear_past t l

-- ---- ln

abbrev pub named_in : List ℕ → Operand → Option (List ℕ) → Result Operand OperandNo
named_in text o None = Err (Fault text reason.BadPath)
named_in text o (Some last) = child o last

abbrev pub place_in : List ℕ → Operand → Result (List ℕ) OperandNo → Result Operand OperandNo
place_in text o (Ok p) = named_in text o (last_of p)
place_in text o (Err e) = Err e

-- in a directory the link gets the last name of what it says
abbrev pub link_place : List ℕ → List ℕ → Operand → Kind → Result Operand OperandNo
link_place cwd text o kind.Dir = place_in text o (located cwd text)
link_place cwd text o _ = Ok o

abbrev pub clear_if : Bool → Operand → Tries
clear_if force t = if force then clear t else done tt

unfoldable pub link_operand : List ℕ → Bool → List ℕ → List ℕ → Tries
link_operand cwd force text name = do
  u ← gives (link_text text)
  o ← gives (operand_at cwd name)
  k ← at o.name (kind_at o.path)
  t ← gives (link_place cwd text o k)
  v ← clear_if force t
  at t.name (make_link t.path text)

-- ---- readlink

-- the text as a line; without one the status is 1
abbrev pub says_link : Option (List ℕ) → Done → Result (Unit {0} × Done) (OperandNo × Done)
says_link None d = Ok (tt, record d { status = 1 })
says_link (Some text) d = Ok (tt, written 1 (text ++ 10 ∷ []) d)

abbrev pub link_path_by : Option PathNo → List ℕ → Option (List ℕ)
link_path_by None p = Some p
link_path_by (Some fault) p = None

abbrev pub link_path : List ℕ → List ℕ → Option (List ℕ)
link_path cwd name = link_path_by (read_fault cwd name) (resolved_text cwd name)

-- a name that is no path is no link, and isn't asked
abbrev pub link_by : List ℕ → Option (List ℕ) → Steps Done OperandNo (Option (List ℕ))
link_by name None = done None
link_by name (Some p) = at name (link_at p)

unfoldable pub read_link : List ℕ → List ℕ → Tries
read_link cwd name = do
  l ← link_by name (link_path cwd name)
  own (says_link l)
