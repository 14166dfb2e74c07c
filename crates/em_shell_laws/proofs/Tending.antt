-- The utilities make no fuel.
use Rattle.std.proofs.Common.{ℕ, zero, suc, Bool, true, false, cond, List, [], ◌∷◌, length, Option, Some, None, rules}
use Rattle.std.specs.Prelude.{codes, nat_lt, take, drop, ◌-◌, ◌==◌, not}
use Rattle.std.specs.List.{AllByRecursion, find}
use Rattle.em_base.proofs.Lemmas.{by_cases}
use Rattle.em_path.specs.Paths.{parent_text}
use Rattle.em_tree.specs.declared.node.Kind.{Kind}
use Rattle.em_tree.specs.declared.node.Kind.TheVariants as kind
use Rattle.em_view.specs.declared.no.DeskNo.{DeskNo}
use Rattle.em_view.specs.declared.done.Done.{Done}
use Rattle.em_view.specs.Actions.{Action}
use Rattle.em_view.specs.Ends.{of_desk}
use Rattle.em_view.specs.Rows as rows
use Rattle.em_view.specs.Rows.{make_dir}
use Rattle.em_view.specs.Steps as steps
use Rattle.em_utility.specs.declared.options.Options.{Options}
use Rattle.em_utility.specs.declared.operand.OperandNo.{OperandNo}
use Rattle.em_utility.specs.Options.{is_in, read_options}
use Rattle.em_utility.specs.Operands.{Tries, Runs, at}
use Rattle.em_fileutil.specs.Spots.{there, ending, levels}
use Rattle.em_fileutil.specs.Making.{make_by, make_missing, make_under, make_all, remove_directory_by, remove_other_directory, remove_directory_past, remove_directory, touch_by, touch_operand}
use Rattle.em_fileutil.specs.Removing.{remove_child, remove_tree, remove_by, remove_other, remove_past, remove_node, remove_beneath}
use Rattle.em_fileutil.specs.Linking.{clear_by, clear_other, clear_past, clear, clear_if, link_operand, link_by, link_path, read_link}
use Rattle.em_fileutil.specs.Copying.{Deeper, copy_file, move_file, copy_child, leave_source, copy_tree, copy_as_file, recurs, copy_by, copy_node, copy_link, copy_past, copy_linked, copy_beneath, copy_top, target_at, place_of}
use Rattle.em_fileutil.specs.Listing.{list_directory, list_by, list_operand}
use Rattle.em_fileutil.specs.Acts.{copy_operand, act_on, act_for}
use Rattle.em_fileutil.specs.Table.{Row, table, is_named, utility_of}
use Rattle.em_fileutil.specs.Utilities.{for_each, some, front, copy_all, or_here, extra, link_two, link, read_one, run, utility_by, utility_for, utility}
use Rattle.em_lineutil.specs.declared.test.Unary.{Unary}
use Rattle.em_lineutil.specs.declared.test.Unary.TheVariants as unary
use Rattle.em_lineutil.specs.declared.test.Binary.{Binary}
use Rattle.em_lineutil.specs.declared.test.Binary.TheVariants as binary
use Rattle.em_lineutil.specs.declared.test.Form.{Form}
use Rattle.em_lineutil.specs.declared.test.Form.TheVariants as form
use Rattle.em_lineutil.specs.Tests.{form_of, stripped}
use Rattle.em_textutil.specs.declared.source.ReadOperand.{ReadOperand}
use Rattle.em_textutil.specs.declared.name.InputUtility.{InputUtility}
use Rattle.em_textutil.specs.declared.name.TextUtility as text
use Rattle.em_textutil.specs.declared.name.TextUtility.TheVariants as by_text
use Rattle.em_textutil.specs.declared.plan.ParsedArgs.{ParsedArgs}
use Rattle.em_textutil.specs.declared.plan.ParsedArgs.TheVariants.{Read, Wrong}
use Rattle.em_textutil.specs.Sources.{found, is_input, found_in, sources, read_all}
use Rattle.em_textutil.specs.Expressions.{kind_by, stamp_by, content_by, path_of, says_kind, says_bytes, says_link, says_unary, says_stamps, says_binary, says, word_at, test_words}
use Rattle.em_textutil.specs.Expressions as expression
use Rattle.em_textutil.specs.Plans.{files_of}
use Rattle.em_textutil.specs.Utilities.{is_dashed, carried, with_options, reads, lacks_end, bracketed}
use Rattle.em_textutil.specs.Utilities as texts
use Rattle.em_shell_laws.proofs.Burning.{Burns, BurnsAll, then_burns, burns_done, burns_fail, burns_lift, burns_by, burns_gives, kind_burns, stamp_burns, content_burns, names_burns, put_burns, place_burns, make_burns, link_burns, make_link_burns, remove_burns, touch_burns, read_burns, all_then, all_done, all_refuse, all_own, all_within, all_by, all_at, all_caught, all_each, burns_command}

-- types that their crate keeps to itself, by functions that take them
abbrev DomainOf : {X Y : Type 0} → (X → Y) → Type 0
DomainOf {X} f = X

abbrev Operand : Type 0
Operand = DomainOf copy_file

abbrev Removal : Type 0
Removal = DomainOf remove_beneath

abbrev Listing : Type 0
Listing = DomainOf list_operand

abbrev Manner : Type 0
Manner = DomainOf recurs

abbrev Target : Type 0
Target = DomainOf place_of

abbrev Act : Type 0
Act = DomainOf (act_on [])

-- ---- an operand of a file utility

all_there : {A : Type 0} (o : Operand) {m : Action DeskNo (Option A)} → Burns m → BurnsAll (there o m)
unfolding there
all_there o h = record { at = λ d. record { down = λ oracle w. h.down oracle w } }

all_ending : {m : Runs} → BurnsAll m → BurnsAll (ending m)
all_ending h = all_within _ _ _ h

missing_burns : (name p : List ℕ) → BurnsAll (make_missing name p)
unfolding make_missing
missing_burns name p = all_then (all_at name (kind_burns p)) by_kind
  where
    by_kind : (k : Kind) → BurnsAll (make_by name p k)
    by_kind kind.Absent = all_at name (make_burns p)
    by_kind kind.File = all_refuse _
    by_kind kind.Dir = all_done tt
    by_kind kind.Link = all_done tt

under_burns : (parent : Option (List ℕ)) (above : List ℕ → Tries) → ((q : List ℕ) → BurnsAll (above q)) → (name p : List ℕ) → BurnsAll (make_under parent above name p)
under_burns None above h name p = all_done tt
under_burns (Some parent) above h name p = all_then (h parent) (λ u. missing_burns name p)

all_burns : (left : ℕ) (name p : List ℕ) → BurnsAll (make_all left name p)
all_burns zero name p = all_done tt
all_burns (suc left) name p = under_burns (parent_text p) (make_all left name) (all_burns left name) name p

directory_burns : (parents : Bool) (name p : List ℕ) → BurnsAll (cond parents (make_all levels name p) (at name (make_dir p)))
directory_burns parents name p = all_by parents (all_burns levels name p) (all_at name (make_burns p))

rmdir_burns : (o : Operand) → BurnsAll (remove_directory o)
unfolding remove_directory remove_other_directory
rmdir_burns o = all_then (all_at o.name (link_burns o.path)) by_link
  where
    by_kind : (k : Kind) → BurnsAll (remove_directory_by o k)
    by_kind kind.Absent = all_at o.name (remove_burns o.path)
    by_kind kind.File = all_refuse _
    by_kind kind.Link = all_refuse _
    by_kind kind.Dir = all_at o.name (remove_burns o.path)

    by_link : (l : Option (List ℕ)) → BurnsAll (remove_directory_past o l)
    by_link (Some text) = all_refuse _
    by_link None = all_then (all_at o.name (kind_burns o.path)) by_kind

touched_burns : (create : Bool) (o : Operand) → BurnsAll (touch_operand create o)
unfolding touch_operand
touched_burns create o = all_then (all_at o.name (kind_burns o.path)) by_kind
  where
    by_kind : (k : Kind) → BurnsAll (touch_by create o k)
    by_kind kind.Absent = all_by create (all_at o.name (put_burns o.path [])) (all_done tt)
    by_kind kind.File = all_at o.name (touch_burns o.path)
    by_kind kind.Dir = all_at o.name (touch_burns o.path)
    by_kind kind.Link = all_at o.name (touch_burns o.path)

listed_burns : (how : Listing) (o : Operand) → BurnsAll (list_operand how o)
unfolding list_operand list_directory
listed_burns how o = all_then (all_at o.name (kind_burns o.path)) by_kind
  where
    by_kind : (k : Kind) → BurnsAll (list_by how o k)
    by_kind kind.Absent = all_refuse _
    by_kind kind.File = all_own _
    by_kind kind.Link = all_refuse _
    by_kind kind.Dir = all_by how.itself (all_own _) (all_then (all_there o (names_burns o.path)) (λ inside. all_own _))

node_removed : (deeper : Operand → Tries) (how : Removal) → ((o : Operand) → BurnsAll (deeper o)) → (o : Operand) → BurnsAll (remove_node deeper how o)
unfolding remove_node remove_other remove_tree
node_removed deeper how h o = all_then (all_at o.name (link_burns o.path)) by_link
  where
    by_child : (c : List ℕ) → BurnsAll (remove_child deeper o c)
    by_child c = all_then (all_own _) h

    by_kind : (k : Kind) → BurnsAll (remove_by deeper how o k)
    by_kind kind.Absent = all_own _
    by_kind kind.File = all_at o.name (remove_burns o.path)
    by_kind kind.Link = all_at o.name (remove_burns o.path)
    by_kind kind.Dir = all_by how.recursive (all_then (all_there o (names_burns o.path)) (λ inside. all_then (all_ending (all_each _ (remove_child deeper o) by_child inside)) (λ u. all_at o.name (remove_burns o.path)))) (all_refuse _)

    by_link : (l : Option (List ℕ)) → BurnsAll (remove_past deeper how o l)
    by_link (Some text) = all_at o.name (remove_burns o.path)
    by_link None = all_then (all_at o.name (kind_burns o.path)) by_kind

beneath_removed : (how : Removal) (left : ℕ) (o : Operand) → BurnsAll (remove_beneath how left o)
beneath_removed how zero o = all_refuse _
beneath_removed how (suc left) o = node_removed (remove_beneath how left) how (beneath_removed how left) o

file_copied : (s t : Operand) → BurnsAll (copy_file s t)
unfolding copy_file
file_copied s t = all_then (all_there s (content_burns s.path)) (λ bytes. all_at t.name (put_burns t.path bytes))

file_moved : (s t : Operand) → BurnsAll (move_file s t)
unfolding move_file
file_moved s t = all_then (all_there s (content_burns s.path)) (λ bytes. all_then (all_there s (stamp_burns s.path)) (λ stamp. all_then (all_at t.name (place_burns t.path bytes stamp)) (λ u. all_at s.name (remove_burns s.path))))

as_file : (manner : Manner) (s t : Operand) → BurnsAll (copy_as_file manner s t)
as_file manner s t = search (rules, file_copied, file_moved)

stays : BurnsAll {S = Done} {E = OperandNo} {A = Unit {0}} (steps.done tt)
stays = all_done tt

goes : (s : Operand) → BurnsAll (at s.name (rows.remove s.path))
goes s = all_at s.name (remove_burns s.path)

source_left : (manner : Manner) (s : Operand) → BurnsAll (leave_source manner s)
source_left manner s = search (rules, stays, goes)

node_copied : (utility : List ℕ) (deeper : Deeper) (manner : Manner) → ((s t : Operand) → BurnsAll (deeper s t)) → (s t : Operand) → BurnsAll (copy_node utility deeper manner s t)
unfolding copy_node copy_tree
node_copied utility deeper manner h s t = all_then (all_at s.name (kind_burns s.path)) by_kind
  where
    by_child : (c : List ℕ) → BurnsAll (copy_child deeper s t c)
    by_child c = all_then (all_own _) (λ from. all_then (all_own _) (λ to. h from to))

    by_kind : (k : Kind) → BurnsAll (copy_by utility deeper manner s t k)
    by_kind kind.Absent = all_refuse _
    by_kind kind.Link = all_refuse _
    by_kind kind.File = as_file manner s t
    by_kind kind.Dir = all_by (recurs manner) (all_then (missing_burns t.name t.path) (λ u. all_then (all_there s (names_burns s.path)) (λ inside.
        all_then (all_ending (all_each utility (copy_child deeper s t) by_child inside)) (λ v. source_left manner s)))) (all_refuse _)

cleared : (t : Operand) → BurnsAll (clear t)
unfolding clear clear_other
cleared t = all_then (all_at t.name (link_burns t.path)) by_link
  where
    by_kind : (k : Kind) → BurnsAll (clear_by t k)
    by_kind kind.Absent = all_done tt
    by_kind kind.File = all_at t.name (remove_burns t.path)
    by_kind kind.Dir = all_done tt
    by_kind kind.Link = all_done tt

    by_link : (l : Option (List ℕ)) → BurnsAll (clear_past t l)
    by_link (Some text) = all_at t.name (remove_burns t.path)
    by_link None = all_then (all_at t.name (kind_burns t.path)) by_kind

linked_copied : (utility : List ℕ) (deeper : Deeper) (manner : Manner) → ((s t : Operand) → BurnsAll (deeper s t)) → (s t : Operand) → BurnsAll (copy_linked utility deeper manner s t)
unfolding copy_linked copy_link
linked_copied utility deeper manner h s t = all_then (all_at s.name (link_burns s.path)) by_link
  where
    by_link : (l : Option (List ℕ)) → BurnsAll (copy_past utility deeper manner s t l)
    by_link (Some text) = all_then (cleared t) (λ u. all_then (all_at t.name (make_link_burns t.path text)) (λ v. source_left manner s))
    by_link None = node_copied utility deeper manner h s t

beneath_copied : (utility : List ℕ) (manner : Manner) (left : ℕ) (s t : Operand) → BurnsAll (copy_beneath utility manner left s t)
beneath_copied utility manner zero s t = all_refuse _
beneath_copied utility manner (suc left) s t = linked_copied utility (copy_beneath utility manner left) manner (beneath_copied utility manner left) s t

-- a link that an operand is goes or is followed
top_copied : (utility : List ℕ) (deeper : Deeper) (manner : Manner) (s t : Operand) → BurnsAll (copy_linked utility deeper manner s t) → BurnsAll (copy_node utility deeper manner s t) → BurnsAll (copy_top utility deeper manner s t)
top_copied utility deeper manner s t linked node = search rules

operand_copied : (utility : List ℕ) (manner : Manner) (to : Target) (o : Operand) → BurnsAll (copy_operand utility manner to o)
unfolding copy_operand
operand_copied utility manner to o = all_then (all_own _) (λ t. (let deeper = copy_beneath utility manner levels in let h = beneath_copied utility manner levels in
    top_copied utility deeper manner o t (linked_copied utility deeper manner h o t) (node_copied utility deeper manner h o t)))

all_removed : (how : Removal) (o : Operand) → BurnsAll (remove_node (remove_beneath how levels) how o)
all_removed how o = node_removed (remove_beneath how levels) how (beneath_removed how levels) o

acts_for : (utility : List ℕ) (what : Act) (cwd name : List ℕ) → ((o : Operand) → BurnsAll (act_on utility what o)) → BurnsAll (act_for utility what cwd name)
unfolding act_for
acts_for utility what cwd name h = all_then (all_own _) h

-- ---- file utilities

each_act : (name : List ℕ) (what : Act) (cwd : List ℕ) (os : List (List ℕ)) → ((o : Operand) → BurnsAll (act_on name what o)) → BurnsAll (for_each name what cwd os)
each_act name what cwd os h = all_each name (act_for name what cwd) (λ x. acts_for name what cwd x h) os

some_act : (name : List ℕ) (what : Act) (cwd : List ℕ) (os : List (List ℕ)) → ((o : Operand) → BurnsAll (act_on name what o)) → BurnsAll (some name os (for_each name what cwd os))
some_act name what cwd [] h = all_own _
some_act name what cwd (o ∷ os) h = each_act name what cwd (o ∷ os) h

all_copied : (name : List ℕ) (manner : Manner) (cwd : List ℕ) (os : List (List ℕ)) → BurnsAll (copy_all name manner cwd os)
unfolding copy_all target_at
all_copied name manner cwd os =
    all_then (all_then (all_own _) (λ o. all_then (all_at o.name (kind_burns o.path)) (λ k. all_own _))) (λ to. all_ending (each_act name _ cwd (front os) (λ o. operand_copied name manner to o)))

-- ---- links

link_made : (cwd : List ℕ) (force : Bool) (text name : List ℕ) → BurnsAll (link_operand cwd force text name)
unfolding link_operand
link_made cwd force text name =
    all_then (all_own _) (λ u. all_then (all_own _) (λ o. all_then (all_at o.name (kind_burns o.path)) (λ k. all_then (all_own _) (λ t. all_then (all_by force (cleared t) (all_done tt)) (λ v. all_at t.name (make_link_burns t.path text))))))

two_linked : (name : List ℕ) (force : Bool) (cwd : List ℕ) (os : List (List ℕ)) → BurnsAll (link_two name force cwd os)
two_linked name force cwd [] = all_own _
two_linked name force cwd (text ∷ []) = all_own _
two_linked name force cwd (text ∷ l ∷ []) = all_caught name (link_made cwd force text l)
two_linked name force cwd (text ∷ l ∷ o ∷ os) = all_own _

link_read : (cwd name : List ℕ) → BurnsAll (read_link cwd name)
unfolding read_link
link_read cwd name = all_then (by_path (link_path cwd name)) (λ l. all_own _)
  where
    by_path : (p : Option (List ℕ)) → BurnsAll (link_by name p)
    by_path None = all_done None
    by_path (Some p) = all_at name (link_burns p)

one_read : (name cwd : List ℕ) (os : List (List ℕ)) → BurnsAll (read_one name cwd os)
one_read name cwd [] = all_own _
one_read name cwd (l ∷ []) = all_caught name (link_read cwd l)
one_read name cwd (l ∷ o ∷ os) = all_own _

-- a row of the table, whatever its options and operands are
record Works (r : Row) : Type 0 where
  burns : (has : ℕ → Bool) (cwd : List ℕ) (os : List (List ℕ)) → BurnsAll (run r.utility r.name has cwd os)

all_work : AllByRecursion Works table
all_work = (
  record { burns = λ has cwd os. all_by (nat_lt (length os) 2) (all_own _) (all_caught _ (all_copied _ _ cwd os)) },
  (
    record { burns = λ has cwd os. all_by (nat_lt (length os) 2) (all_own _) (all_caught _ (all_copied _ _ cwd os)) },
    (
      record {
        burns = λ has cwd os. (let how : Removal = record { force = has 102; recursive = has 114 } in
            all_by (has 102) (each_act (codes "rm") _ cwd os (all_removed how)) (some_act (codes "rm") _ cwd os (all_removed how)));
      },
      (
        record { burns = λ has cwd os. some_act (codes "mkdir") _ cwd os (λ o. directory_burns (has 112) o.name o.path) },
        (
          record { burns = λ has cwd os. some_act (codes "rmdir") _ cwd os rmdir_burns },
          (
            record { burns = λ has cwd os. some_act (codes "touch") _ cwd os (touched_burns (not (has 99))) },
            (
              record { burns = λ has cwd os. each_act (codes "ls") _ cwd (or_here os) (λ o. listed_burns _ o) },
              (
                record { burns = λ has cwd os. all_by (has 115) (two_linked (codes "ln") (has 102) cwd os) (all_refuse _) },
                (record { burns = λ has cwd os. one_read (codes "readlink") cwd os }, tt),
              ),
            ),
          ),
        ),
      ),
    ),
  ),
)

row_burns : (r : Row) (words : List (List ℕ)) (cwd : List ℕ) → Works r → Burns (utility_by r words cwd)
unfolding utility_by
row_burns r words cwd h = then_burns (burns_gives (read_options r.name r.letters [] words))
    (λ o. then_burns (burns_command (h.burns (is_in o.letters) cwd (drop o.taken words))) (λ d. burns_done (Some d)))

found_row : (w : List ℕ) (words : List (List ℕ)) (cwd : List ℕ) (rows : List Row) → AllByRecursion Works rows → Burns (utility_for (find (is_named w) rows) words cwd)
found_row w words cwd [] h = burns_done None
found_row w words cwd (r ∷ rows) h = by_cases (is_named w r) (λ b. Burns (utility_for (cond b (Some r) (find (is_named w) rows)) words cwd)) (λ _. row_burns r words cwd h.0) (λ _. found_row w words cwd rows h.1)

pub file_utility_burns : (words : List (List ℕ)) (cwd : List ℕ) → Burns (utility words cwd)
unfolding utility_of
file_utility_burns [] cwd = burns_done None
file_utility_burns (w ∷ words) cwd = found_row w words cwd table all_work

-- ---- test

kind_asked : (p : Option (List ℕ)) → Burns (kind_by p)
kind_asked None = burns_done _
kind_asked (Some p) = burns_lift of_desk (kind_burns p)

stamp_asked : (p : Option (List ℕ)) → Burns (stamp_by p)
stamp_asked None = burns_done _
stamp_asked (Some p) = burns_lift of_desk (stamp_burns p)

link_asked : (p : Option (List ℕ)) → Burns (expression.link_by p)
link_asked None = burns_done _
link_asked (Some p) = burns_lift of_desk (link_burns p)

content_asked : (p : Option (List ℕ)) → Burns (content_by p)
content_asked None = burns_done _
content_asked (Some p) = burns_lift of_desk (content_burns p)

kind_says : (cwd : List ℕ) (u : Unary) (w : List ℕ) → Burns (says_kind cwd u w)
unfolding says_kind
kind_says cwd u w = then_burns (kind_asked (path_of cwd w)) (λ k. burns_done _)

unary_says : (cwd : List ℕ) (u : Unary) (w : List ℕ) → Burns (says_unary cwd u w)
unfolding says_bytes says_link
unary_says cwd unary.Filled w = burns_done _
unary_says cwd unary.Empty w = burns_done _
unary_says cwd unary.Exists w = kind_says cwd unary.Exists w
unary_says cwd unary.IsFile w = kind_says cwd unary.IsFile w
unary_says cwd unary.IsDir w = kind_says cwd unary.IsDir w
unary_says cwd unary.HasBytes w = then_burns (content_asked (path_of cwd w)) (λ b. burns_done _)
unary_says cwd unary.IsLink w = then_burns (link_asked (path_of cwd w)) (λ l. burns_done _)

stamps_say : (cwd : List ℕ) (first : Bool) (a b : List ℕ) → Burns (says_stamps cwd first a b)
unfolding says_stamps
stamps_say cwd first a b = then_burns (stamp_asked (path_of cwd a)) (λ s. then_burns (stamp_asked (path_of cwd b)) (λ t. burns_done _))

binary_says : (cwd : List ℕ) (x : Binary) (a b : List ℕ) → Burns (says_binary cwd x a b)
binary_says cwd binary.Same a b = burns_done _
binary_says cwd binary.Other a b = burns_done _
binary_says cwd (binary.Number r) a b = burns_done _
binary_says cwd binary.Newer a b = stamps_say cwd true a b
binary_says cwd binary.Older a b = stamps_say cwd false a b

form_says : (cwd : List ℕ) (f : Form) (ws : List (List ℕ)) → Burns (says cwd f ws)
form_says cwd form.Word ws = burns_done _
form_says cwd (form.Unary u) ws = unary_says cwd u (word_at ws 1)
form_says cwd (form.Binary x) ws = binary_says cwd x (word_at ws 0) (word_at ws 2)
form_says cwd (form.Letter byte) ws = burns_fail _
form_says cwd form.Syntax ws = burns_done _

test_burns : (cwd : List ℕ) (ws : List (List ℕ)) → Burns (test_words cwd ws)
unfolding test_words
test_burns cwd ws = then_burns (form_says cwd (form_of (stripped false ws).1) (stripped false ws).1) (λ v. burns_done _)

-- ---- text utilities

found_burns : (cwd name : List ℕ) → Burns (found cwd name)
unfolding found
found_burns cwd name = record { down = λ o w. (read_burns cwd name).down o w }

sources_burn : (cwd : List ℕ) (dashed : Bool) (input : List ℕ) (so_far : List ReadOperand) (names : List (List ℕ)) → Burns (sources cwd dashed input so_far names)
unfolding found_in
sources_burn cwd dashed input so_far [] = burns_done _
sources_burn cwd dashed input so_far (name ∷ names) = then_burns (burns_by (is_input dashed name) (burns_done _) (found_burns cwd name)) (λ what. sources_burn cwd dashed input _ names)

all_read : (cwd : List ℕ) (dashed : Bool) (input : List ℕ) (names : List (List ℕ)) → Burns (read_all cwd dashed input names)
all_read cwd dashed input names = burns_by (length names == 0) (burns_done _) (sources_burn cwd dashed input [] names)

carried_burns : (cwd : List ℕ) (r : InputUtility) (o : Options) (input : List ℕ) (os : List (List ℕ)) (p : ParsedArgs) → Burns (carried cwd r o input os p)
unfolding carried
carried_burns cwd r o input os (Wrong word reason) = burns_done _
carried_burns cwd r o input os (Read job) = then_burns (all_read cwd (is_dashed r) input (files_of job os)) (λ ss. burns_done _)

reads_burn : (cwd : List ℕ) (r : InputUtility) (input : List ℕ) (words : List (List ℕ)) → Burns (reads cwd r input words)
unfolding reads with_options
reads_burn cwd r input words = then_burns (burns_gives _) (λ o. then_burns (burns_gives _) (λ p. carried_burns cwd r o input (drop o.taken words) p))

text_run_burns : (cwd : List ℕ) (u : text.TextUtility) (input : List ℕ) (words : List (List ℕ)) → Burns (texts.run cwd u input words)
unfolding bracketed
text_run_burns cwd (by_text.Plain p) input words = burns_gives _
text_run_burns cwd (by_text.Reading r) input words = reads_burn cwd r input words
text_run_burns cwd by_text.Test input words = test_burns cwd words
text_run_burns cwd by_text.Bracket input words = burns_by (lacks_end words) (burns_done _) (test_burns cwd (take (length words - 1) words))

pub text_utility_burns : (words : List (List ℕ)) (input cwd : List ℕ) → Burns (texts.utility words input cwd)
unfolding texts.utility
text_utility_burns [] input cwd = burns_done None
text_utility_burns (name ∷ words) input cwd = by_utility (texts.utility_of name)
  where
    by_utility : (u : Option text.TextUtility) → Burns (texts.run_by u cwd input words)
    by_utility None = burns_done None
    by_utility (Some u) = then_burns (text_run_burns cwd u input words) (λ d. burns_done (Some d))
