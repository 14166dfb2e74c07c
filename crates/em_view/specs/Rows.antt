-- What the operations of a desk do. What the job's own changes say of a path isn't asked.
--     kind, stamp, content, names, outcome              questions
--     put, make_dir, remove, touch, place               changes; refusals come in the order in which they stand here
-- Each costs a unit, taken before the first question of a reading, and for a change after its
-- refusals; and the blocks of the bytes that it gives or puts, taken before they are used.
use Rattle.std.specs.Prelude.{ℕ, ◌+◌, ◌*◌, ◌/◌, ◌^◌, Bool, true, false, nat_lt, List, [], ◌∷◌, length, Result, Ok, Option, Some, None, unwrap_or, option_map, if◌then◌else◌}
use Rattle.std.specs.FinMap.{insert}
use Rattle.em_path.specs.Paths.{parent_text}
use Rattle.em_tree.specs.declared.question.Question.TheVariants as question
use Rattle.em_tree.specs.declared.question.Answer.{Answer}
use Rattle.em_tree.specs.declared.question.Answer.TheVariants as answer
use Rattle.em_tree.specs.declared.node.Kind.{Kind}
use Rattle.em_tree.specs.declared.node.Kind.TheVariants as kind
use Rattle.em_tree.specs.declared.node.Node.{Node}
use Rattle.em_tree.specs.declared.node.Node.TheVariants.{File, Dir, Link}
use Rattle.em_tree.specs.declared.outcome.Outcome.{Outcome}
use Rattle.em_tree.specs.Trees.{Changes, kind_of, stamp_of, content_of}
use Rattle.em_view.specs.declared.no.FileNo.{FileNo}
use Rattle.em_view.specs.declared.no.FileNo.TheVariants as file
use Rattle.em_view.specs.declared.no.DeskNo.{DeskNo}
use Rattle.em_view.specs.declared.no.DeskNo.TheVariants as no
use Rattle.em_view.specs.Actions.{Workspace, Action, ◌>>=◌, done, fail, mine, ask, ready, spend}
use Rattle.em_view.specs.Performs.{DeskState, Told, Performs}
use Rattle.em_view.specs.Names.{with_own, names_size}
use Rattle.em_tree.specs.declared.way.Way.{Way}
use Rattle.em_tree.specs.declared.way.Way.TheVariants.{To}
use Rattle.em_view.specs.Walking.{link_below, resolve, target}

-- the one error that may come freely
abbrev pub is_memory : DeskNo → Bool
is_memory no.NoMemory = true
is_memory _ = false

-- a desk's method has performed an action
abbrev pub Acts : {V A : Type 0} → (V → Told) → DeskState V → DeskState V → Result A DeskNo → Action DeskNo A → Type 0
Acts tells old new result action = Performs is_memory tells old new result action

abbrev pub is_refusal : DeskNo → Bool
is_refusal (no.File f) = true
is_refusal _ = false

-- 256 bytes, or what is left of them
abbrev pub blocks : ℕ → ℕ
blocks n = (n + 255) / 256

-- ---- what an answer says

abbrev pub kind_in : Answer → Kind
kind_in (answer.Kind k) = k
kind_in _ = kind.Absent

abbrev pub stamp_in : Answer → Option ℕ
stamp_in (answer.Stamp s) = s
stamp_in _ = None

abbrev pub content_in : Answer → Option (List ℕ)
content_in (answer.Content b) = b
content_in _ = None

abbrev pub names_in : Answer → Option (List (List ℕ))
names_in (answer.Names ns) = ns
names_in _ = None

abbrev pub outcome_in : Answer → Option Outcome
outcome_in (answer.Outcome o) = o
outcome_in _ = None

-- ---- what stands at a path, under the job's own changes

abbrev pub kind_by : Option (Option Node) → List ℕ → Action DeskNo Kind
kind_by (Some n) p = done (kind_of n)
kind_by None p = do
  a ← ask (question.Kind p)
  done (kind_in a)

unfoldable pub kind_below : List ℕ → Action DeskNo Kind
kind_below p = do
  own ← mine p
  kind_by own p

abbrev pub stamp_by : Option (Option Node) → List ℕ → Action DeskNo (Option ℕ)
stamp_by (Some n) p = done (stamp_of n)
stamp_by None p = do
  a ← ask (question.Stamp p)
  done (stamp_in a)

unfoldable pub stamp_below : List ℕ → Action DeskNo (Option ℕ)
stamp_below p = do
  own ← mine p
  stamp_by own p

abbrev pub content_by : Option (Option Node) → List ℕ → Action DeskNo (Option (List ℕ))
content_by (Some n) p = done (content_of n)
content_by None p = do
  a ← ask (question.Content p)
  done (content_in a)

unfoldable pub content_below : List ℕ → Action DeskNo (Option (List ℕ))
content_below p = do
  own ← mine p
  content_by own p

abbrev pub is_dir : Option Node → Bool
is_dir (Some (Dir stamp)) = true
is_dir _ = false

-- what is told of the names of a path
unfoldable pub told_names : List ℕ → Action DeskNo (Option (List (List ℕ)))
told_names p = do
  a ← ask (question.Names p)
  done (names_in a)

-- names with the own children among them
unfoldable pub amend : List ℕ → Option (List (List ℕ)) → Action DeskNo (Option (List (List ℕ)))
amend p ns = λ o w. (Ok (option_map (with_own w.changes p) ns), w)

-- a directory that the job made has the names that are told of its path, or none
unfoldable pub made_names : List ℕ → Action DeskNo (Option (List (List ℕ)))
made_names p = do
  ns ← told_names p
  amend p (Some (unwrap_or ns []))

unfoldable pub other_names : List ℕ → Action DeskNo (Option (List (List ℕ)))
other_names p = do
  ns ← told_names p
  amend p ns

abbrev pub names_by : Option (Option Node) → List ℕ → Action DeskNo (Option (List (List ℕ)))
names_by (Some n) p = if is_dir n then made_names p else done None
names_by None p = other_names p

unfoldable pub names_below : List ℕ → Action DeskNo (Option (List (List ℕ)))
names_below p = do
  own ← mine p
  names_by own p

-- ---- reading: a unit, the way through the links, the question, and a unit for each link that was
-- ---- followed. Where the way leads nowhere nothing is there

abbrev pub kind_to : Way → Action DeskNo Kind
kind_to (To q) = kind_below q
kind_to _ = done kind.Absent

unfoldable pub kind_at : List ℕ → Action DeskNo Kind
kind_at p = do
  u ← spend 1
  f ← resolve true p
  k ← kind_to f.way
  v ← spend f.followed
  done k

abbrev pub stamp_to : Way → Action DeskNo (Option ℕ)
stamp_to (To q) = stamp_below q
stamp_to _ = done None

unfoldable pub stamp_at : List ℕ → Action DeskNo (Option ℕ)
stamp_at p = do
  u ← spend 1
  f ← resolve true p
  stamp ← stamp_to f.way
  v ← spend f.followed
  done stamp

abbrev pub size_of : Option (List ℕ) → ℕ
size_of None = 0
size_of (Some bytes) = length bytes

abbrev pub content_to : Way → Action DeskNo (Option (List ℕ))
content_to (To q) = content_below q
content_to _ = done None

unfoldable pub content : List ℕ → Action DeskNo (Option (List ℕ))
content p = do
  u ← spend 1
  f ← resolve true p
  body ← content_to f.way
  v ← spend (blocks (size_of body) + f.followed)
  done body

abbrev pub names_to : Way → Action DeskNo (Option (List (List ℕ)))
names_to (To q) = names_below q
names_to _ = done None

unfoldable pub names : List ℕ → Action DeskNo (Option (List (List ℕ)))
names p = do
  u ← spend 1
  f ← resolve true p
  ns ← names_to f.way
  v ← spend (blocks (names_size ns) + f.followed)
  done ns

abbrev pub link_to : Way → Action DeskNo (Option (List ℕ))
link_to (To q) = link_below q
link_to _ = done None

-- the link at the path itself isn't followed
unfoldable pub link_at : List ℕ → Action DeskNo (Option (List ℕ))
link_at p = do
  u ← spend 1
  f ← resolve false p
  text ← link_to f.way
  v ← spend (blocks (size_of text) + f.followed)
  done text

unfoldable pub outcome : ℕ → Action DeskNo (Option Outcome)
outcome j = do
  u ← spend 1
  a ← ask (question.Outcome j)
  done (outcome_in a)

-- ---- changes

-- a job's k-th change, from 1, has this number, which the nodes that it makes get as their stamp
abbrev pub change_number : ℕ → ℕ → ℕ → ℕ
change_number base job k = base + job * 2 ^ 20 + k

unfoldable pub number : Action DeskNo ℕ
number = λ o w. (Ok (change_number w.base w.job (w.count + 1)), w)

-- the path becomes the node, or absent; a directory above it that is stamped gets the number of the
-- change
abbrev pub becomes : List ℕ → Option Node → Option (List ℕ) → ℕ → Changes → Changes
becomes p c None n d = insert d p c
becomes p c (Some above) n d = insert (insert d p c) above (Some (Dir n))

abbrev pub after_change : List ℕ → Option Node → Option (List ℕ) → Workspace → Workspace
after_change p c above w = record w {
  count = w.count + 1;
  changes = becomes p c above (change_number w.base w.job (w.count + 1)) w.changes;
}

unfoldable pub change : List ℕ → Option Node → Option (List ℕ) → Action DeskNo (Unit {0})
change p c above = λ o w. (Ok tt, after_change p c above w)

-- a unit, and these blocks
unfoldable pub pay : ℕ → Action DeskNo (Unit {0})
pay n = do
  u ← spend 1
  spend n

abbrev pub refuse : Option FileNo → Action DeskNo (Unit {0})
refuse None = done tt
refuse (Some f) = fail (no.File f)

-- the kind of a path, and that of its parent, which the root has none of
abbrev pub look_by : Option (List ℕ) → Kind → Action DeskNo (Kind × Option Kind)
look_by None k = done (k, None)
look_by (Some q) k = do
  above ← kind_below q
  done (k, Some above)

unfoldable pub look : List ℕ → Action DeskNo (Kind × Option Kind)
look p = do
  k ← kind_below p
  look_by (parent_text p) k

abbrev pub above_refusal : Kind → Option FileNo
above_refusal kind.Absent = Some file.NoParent
above_refusal kind.File = Some file.NotDir
above_refusal kind.Dir = None
above_refusal kind.Link = Some file.NotDir

-- the first refusal, else the second
abbrev pub or_else : Option FileNo → Option FileNo → Option FileNo
or_else None f = f
or_else (Some f) g = Some f

-- at most 16 MiB
abbrev pub size_refusal : ℕ → Option FileNo
size_refusal n = if nat_lt 16777216 n then Some file.TooBig else None

-- the root is a directory
abbrev pub put_refusal : Kind → Option Kind → ℕ → Option FileNo
put_refusal k None n = Some file.IsDir
put_refusal kind.Dir (Some above) n = Some file.IsDir
put_refusal _ (Some above) n = or_else (above_refusal above) (size_refusal n)

abbrev pub dir_refusal : Kind → Option Kind → Option FileNo
dir_refusal kind.Absent (Some above) = above_refusal above
dir_refusal _ _ = Some file.Exists

-- a file's directory is stamped where its name is new
abbrev pub stamped : Kind → Option (List ℕ) → Option (List ℕ)
stamped kind.Absent above = above
stamped _ above = None

-- each change: where its path leads, by how many links, and then the change there, for which these
-- links are paid too. The last component is followed where bytes are written or a stamp is set

unfoldable pub put_at : List ℕ → ℕ → List ℕ → Action DeskNo (Unit {0})
put_at q n bytes = do
  spot ← look q
  f ← refuse (put_refusal spot.0 spot.1 (length bytes))
  u ← pay (blocks (length bytes) + n)
  k ← number
  change q (Some (File bytes k)) (stamped spot.0 (parent_text q))

unfoldable pub put : List ℕ → List ℕ → Action DeskNo (Unit {0})
put p bytes = do
  r ← ready
  t ← target true p
  put_at t.0 t.1 bytes

-- as `put`, but with this stamp, and the directory always gets the number of the change
unfoldable pub place_at : List ℕ → ℕ → List ℕ → ℕ → Action DeskNo (Unit {0})
place_at q n bytes stamp = do
  spot ← look q
  f ← refuse (put_refusal spot.0 spot.1 (length bytes))
  u ← pay (blocks (length bytes) + n)
  change q (Some (File bytes stamp)) (parent_text q)

unfoldable pub place : List ℕ → List ℕ → ℕ → Action DeskNo (Unit {0})
place p bytes stamp = do
  r ← ready
  t ← target false p
  place_at t.0 t.1 bytes stamp

unfoldable pub make_dir_at : List ℕ → ℕ → Action DeskNo (Unit {0})
make_dir_at q n = do
  spot ← look q
  f ← refuse (dir_refusal spot.0 spot.1)
  u ← pay n
  k ← number
  change q (Some (Dir k)) (parent_text q)

unfoldable pub make_dir : List ℕ → Action DeskNo (Unit {0})
make_dir p = do
  r ← ready
  t ← target false p
  make_dir_at t.0 t.1

unfoldable pub make_link_at : List ℕ → ℕ → List ℕ → Action DeskNo (Unit {0})
make_link_at q n text = do
  spot ← look q
  f ← refuse (dir_refusal spot.0 spot.1)
  u ← pay (blocks (length text) + n)
  k ← number
  change q (Some (Link text k)) (parent_text q)

unfoldable pub make_link : List ℕ → List ℕ → Action DeskNo (Unit {0})
make_link p text = do
  r ← ready
  t ← target false p
  make_link_at t.0 t.1 text

-- ---- removing and touching

abbrev pub names_refusal : Option (List (List ℕ)) → Option FileNo
names_refusal (Some (n ∷ ns)) = Some file.NotEmpty
names_refusal _ = None

unfoldable pub take_away : List ℕ → List ℕ → ℕ → Action DeskNo (Unit {0})
take_away q above n = do
  u ← pay n
  change q None (Some above)

unfoldable pub remove_dir : List ℕ → List ℕ → ℕ → Action DeskNo (Unit {0})
remove_dir q above n = do
  ns ← names_below q
  f ← refuse (names_refusal ns)
  take_away q above n

-- a link goes as a file does
abbrev pub remove_by : Kind → List ℕ → List ℕ → ℕ → Action DeskNo (Unit {0})
remove_by kind.Absent q above n = fail (no.File file.Absent)
remove_by kind.File q above n = take_away q above n
remove_by kind.Dir q above n = remove_dir q above n
remove_by kind.Link q above n = take_away q above n

abbrev pub remove_under : Option (List ℕ) → List ℕ → ℕ → Action DeskNo (Unit {0})
remove_under None q n = fail (no.File file.Root)
remove_under (Some above) q n = do
  k ← kind_below q
  remove_by k q above n

-- the root is refused before anything is asked
abbrev pub remove_from : Option (List ℕ) → List ℕ → Action DeskNo (Unit {0})
remove_from None p = fail (no.File file.Root)
remove_from (Some above) p = do
  t ← target false p
  remove_under (parent_text t.0) t.0 t.1

unfoldable pub remove : List ℕ → Action DeskNo (Unit {0})
remove p = do
  r ← ready
  remove_from (parent_text p) p

unfoldable pub touch_dir : List ℕ → ℕ → Action DeskNo (Unit {0})
touch_dir q n = do
  u ← pay n
  k ← number
  change q (Some (Dir k)) None

abbrev pub touch_bytes : Option (List ℕ) → List ℕ → ℕ → Action DeskNo (Unit {0})
touch_bytes None q n = fail (no.File file.Absent)
touch_bytes (Some bytes) q n = do
  u ← pay n
  k ← number
  change q (Some (File bytes k)) None

unfoldable pub touch_file : List ℕ → ℕ → Action DeskNo (Unit {0})
touch_file q n = do
  body ← content_below q
  touch_bytes body q n

-- a path behind the links that is told to be a link is no file
abbrev pub touch_by : Kind → List ℕ → ℕ → Action DeskNo (Unit {0})
touch_by kind.Absent q n = fail (no.File file.Absent)
touch_by kind.Dir q n = touch_dir q n
touch_by kind.File q n = touch_file q n
touch_by kind.Link q n = fail (no.File file.Absent)

unfoldable pub touch_at : List ℕ → ℕ → Action DeskNo (Unit {0})
touch_at q n = do
  k ← kind_below q
  touch_by k q n

-- the same node, with the number of the change
unfoldable pub touch : List ℕ → Action DeskNo (Unit {0})
touch p = do
  r ← ready
  t ← target true p
  touch_at t.0 t.1
