-- What commands do, one line or block for each construct.
--     script_of, and_or_of, pipeline_of, command_of, ..      the constructs of the syntax tree
-- `deeper` is how a script runs that is one level deeper; the scene is what is read, and whether a
-- loop is around. After each command its status is the shell's. `exit`, `break`, `continue` and
-- what has no end leave what follows out, as errors do.
use Rattle.std.specs.Prelude.{ℕ, zero, suc, ◌==◌, Bool, true, false, not, List, [], ◌∷◌, Option, Some, None, Result, Ok, Err, if◌then◌else◌}
use Rattle.em_base.specs.declared.construct.Construct.TheVariants.{Depth}
use Rattle.em_glob.specs.declared.glyph.Glyph.{Glyph}
use Rattle.em_glob.specs.Patterns.{pieces, fits}
use Rattle.em_view.specs.declared.done.ExecNo.TheVariants as exec
use Rattle.em_view.specs.declared.done.Piece.{Piece}
use Rattle.em_view.specs.Actions.{spend}
use Rattle.em_view.specs.Steps.{done, refuse, own, below}
use Rattle.em_view.specs.Do.{◌>>=◌}
use Rattle.em_syntax.specs.declared.tree.Command.TheOpen.{Command-F, Compound-F}
use Rattle.em_syntax.specs.declared.tree.Script.{Script, out-Script}
use Rattle.em_syntax.specs.declared.tree.AndOr.{AndOr, out-AndOr}
use Rattle.em_syntax.specs.declared.tree.Joined.{Joined, out-Joined}
use Rattle.em_syntax.specs.declared.tree.Pipeline.{Pipeline, out-Pipeline}
use Rattle.em_syntax.specs.declared.tree.Command.{Command, out-Command}
use Rattle.em_syntax.specs.declared.tree.Simple.{Simple, out-Simple}
use Rattle.em_syntax.specs.declared.tree.Assigned.{Assigned, out-Assigned}
use Rattle.em_syntax.specs.declared.tree.Redirect.{Redirect, out-Redirect}
use Rattle.em_syntax.specs.declared.tree.Compound.{Compound, out-Compound}
use Rattle.em_syntax.specs.declared.tree.If.{If, out-If}
use Rattle.em_syntax.specs.declared.tree.Branch.{Branch, out-Branch}
use Rattle.em_syntax.specs.declared.tree.Loop.{Loop, out-Loop}
use Rattle.em_syntax.specs.declared.tree.For.{For, out-For}
use Rattle.em_syntax.specs.declared.tree.Case.{Case, out-Case}
use Rattle.em_syntax.specs.declared.tree.Item.{Item, out-Item}
use Rattle.em_syntax.specs.declared.tree.Word.{Word}
use Rattle.em_syntax.specs.declared.tree.WordWhat.{WordWhat}
use Rattle.em_syntax.specs.declared.tree.WordPiece.{WordPiece}
use Rattle.em_command.specs.declared.jump.Jump.{Jump}
use Rattle.em_command.specs.declared.jump.Jump.TheVariants.{End}
use Rattle.em_command.specs.declared.here.Here.{Here}
use Rattle.em_command.specs.declared.here.Scene.{Scene}
use Rattle.em_command.specs.declared.streams.Streams.{Streams}
use Rattle.em_command.specs.Jumps.{Acts, Change, of_desk}
use Rattle.em_command.specs.Heres.{with_status, assigned}
use Rattle.em_command.specs.Streams.{around, input_of, redirected}
use Rattle.em_command.specs.Delivering.{hand, delivered}
use Rattle.em_command.specs.Acting.{jumped, perform}
use Rattle.em_exec.specs.declared.loops.LoopTurn.{LoopTurn}
use Rattle.em_exec.specs.declared.loops.LoopTurn.TheVariants.{Whole, Broken, Continued}
use Rattle.em_exec.specs.Copies.{Collected, subshell, heard, collected, caught}
use Rattle.em_exec.specs.Words.{Deeper, in_copy, fields, whole, pattern}

-- what is done by the status, and to it
abbrev pub by_status : {A : Type 0} → (ℕ → Acts A) → Acts A
by_status f = λ h. f h.shell.status h

abbrev pub status_is : ℕ → Change (Unit {0})
status_is n h = Ok (tt, with_status n h)

abbrev pub assign_if : Bool → List ℕ → List ℕ → Acts (Unit {0})
assign_if sets name text = if sets then own (assigned name text) else done tt

abbrev pub if_open : Option Streams → (Streams → Acts (Option Streams)) → Acts (Option Streams)
if_open None rest = done None
if_open (Some s) rest = rest s

abbrev pub is_none : List (List ℕ) → Bool
is_none [] = true
is_none (w ∷ ws) = false

abbrev pub unsubstituted : Change (Unit {0})
unsubstituted h = Ok (tt, record h { substituted = 0 })

-- without a command the status is that of the last substitution
abbrev pub status_of_last : Change (Unit {0})
status_of_last h = Ok (tt, with_status h.substituted h)

abbrev pub if_zero : ℕ → Acts (Unit {0}) → Acts (Unit {0}) → Acts (Unit {0})
if_zero n m other = if n == 0 then m else other

abbrev pub or_next : Bool → Acts Bool → Acts Bool
or_next found rest = if found then done true else rest

abbrev pub if_found : Bool → Acts (Unit {0}) → Acts (Unit {0}) → Acts (Unit {0})
if_found found m other = if found then m else other

abbrev pub if_some : Option Streams → (Streams → Acts (Unit {0})) → Acts (Unit {0})
if_some None act = done tt
if_some (Some s) act = act s

module _ (deeper : Deeper) (scene : Scene) where
  -- ---- assignments and redirections

  unfoldable pub assignment : Bool → Assigned → Acts (Unit {0})
  assignment sets a = do
    text ← whole deeper scene (out-Assigned a).value
    assign_if sets (out-Assigned a).name text

  -- the values are expanded from left to right; each is set before the next one
  abbrev pub assignments : Bool → List Assigned → Acts (Unit {0})
  assignments sets [] = done tt
  assignments sets (a ∷ more) = do
    u ← assignment sets a
    assignments sets more

  unfoldable pub redirect_one : Redirect → Streams → Acts (Option Streams)
  redirect_one r s = do
    word ← whole deeper scene (out-Redirect r).target
    redirected (out-Redirect r).fd (out-Redirect r).kind word s

  -- from left to right up to the first that fails; then there are no streams, and the command isn't
  -- run
  abbrev pub redirects : List Redirect → Streams → Acts (Option Streams)
  redirects [] s = done (Some s)
  redirects (r ∷ rs) s = do
    next ← redirect_one r s
    if_open next (redirects rs)

  -- ---- a simple command

  abbrev pub ends_alone : Bool → List (List ℕ) → Streams → Acts (Unit {0})
  ends_alone true words s = own status_of_last
  ends_alone false words s = perform words s scene.input scene.in_loop

  -- in front of a command, assignments are expanded and have no other effect
  unfoldable pub act : List Assigned → List (List ℕ) → Streams → Acts (Unit {0})
  act assigned words s = do
    u ← assignments (is_none words) assigned
    ends_alone (is_none words) words s

  -- what follows its words: its redirections and its assignments
  abbrev pub of_words : Simple → List (List ℕ) → Acts (Unit {0})
  of_words c words = do
    s ← redirects (out-Simple c).redirects.items around
    if_some s (act (out-Simple c).assigned.items words)

  -- its unit is taken before all, then come its words
  unfoldable pub simple_of : Simple → Acts (Unit {0})
  simple_of c = do
    u ← below of_desk (spend 1)
    v ← own unsubstituted
    words ← fields deeper scene [] (out-Simple c).words.items
    of_words c words

  -- ---- if, case

  abbrev pub otherwise : Option Script → Acts (Unit {0})
  otherwise None = own (status_is 0)
  otherwise (Some s) = deeper s scene

  abbrev pub branches : List Branch → Option Script → Acts (Unit {0})
  branches [] other = otherwise other
  branches (b ∷ bs) other = do
    u ← deeper (out-Branch b).test scene
    by_status (λ n. if_zero n (deeper (out-Branch b).body scene) (branches bs other))

  unfoldable pub if_of : If → Acts (Unit {0})
  if_of c = branches (out-If c).branches.items (out-If c).other

  -- patterns are expanded up to the first that matches
  abbrev pub matches_one : List ℕ → List Word → Acts Bool
  matches_one text [] = done false
  matches_one text (p ∷ ps) = do
    gs ← pattern deeper scene p
    or_next (fits (pieces gs) text) (matches_one text ps)

  abbrev pub items : List ℕ → List Item → Acts (Unit {0})
  items text [] = own (status_is 0)
  items text (i ∷ more) = do
    found ← matches_one text (out-Item i).patterns.items
    if_found found (otherwise (out-Item i).body) (items text more)

  unfoldable pub case_of : Case → Acts (Unit {0})
  case_of c = do
    text ← whole deeper scene (out-Case c).word
    items text (out-Case c).items.items

-- ---- while, until, for

abbrev pub in_loop : Scene → Scene
in_loop scene = record { input = scene.input; in_loop = true }

abbrev pub goes_on : Bool → ℕ → Bool
goes_on until n = if until then not (n == 0) else n == 0

-- none: the loop has ended; else the status of the last turn
abbrev pub ends_with : ℕ → Change (Option ℕ)
ends_with last h = Ok (None, with_status last h)

abbrev pub body_status : LoopTurn → ℕ → Option ℕ
body_status Broken n = None
body_status _ n = Some n

abbrev pub after_body : LoopTurn → Change (Option ℕ)
after_body t h = Ok (body_status t h.shell.status, h)

unfoldable pub body_turn : Acts (Unit {0}) → Acts (Option ℕ)
body_turn body = do
  t ← caught body
  own (after_body t)

abbrev pub if_goes_on : Bool → Acts (Unit {0}) → ℕ → Acts (Option ℕ)
if_goes_on goes body last = if goes then body_turn body else own (ends_with last)

abbrev pub after_test : Bool → Acts (Unit {0}) → ℕ → LoopTurn → Acts (Option ℕ)
after_test until body last Broken = own (ends_with last)
after_test until body last Continued = done (Some last)
after_test until body last Whole = by_status (λ n. if_goes_on (goes_on until n) body last)

-- the status of the loop is that of its last body, or 0
unfoldable pub one_turn : Bool → Acts (Unit {0}) → Acts (Unit {0}) → ℕ → Acts (Option ℕ)
one_turn until test body last = do
  t ← caught test
  after_test until body last t

abbrev pub again : Option ℕ → (ℕ → Acts (Unit {0})) → Acts (Unit {0})
again None rest = done tt
again (Some last) rest = rest last

-- a turn costs a unit, also the one whose test ends the loop; by a number above the fuel, so that
-- the turns end before it does
abbrev pub turns : ℕ → Bool → Acts (Unit {0}) → Acts (Unit {0}) → ℕ → Acts (Unit {0})
turns zero until test body last = refuse (End exec.Spent)
turns (suc n) until test body last = do
  u ← below of_desk (spend 1)
  next ← one_turn until test body last
  again next (turns n until test body)

unfoldable pub loop_of : Deeper → Scene → Loop → Acts (Unit {0})
loop_of deeper scene c = λ h o w.
    turns (suc w.fuel) (out-Loop c).until (deeper (out-Loop c).test (in_loop scene)) (deeper (out-Loop c).body (in_loop scene)) 0 h o w

abbrev pub is_broken : LoopTurn → Bool
is_broken Broken = true
is_broken _ = false

abbrev pub unless_broken : Bool → Acts (Unit {0}) → Acts (Unit {0})
unless_broken broken rest = if broken then done tt else rest

unfoldable pub round : List ℕ → Acts (Unit {0}) → List ℕ → Acts LoopTurn
round name body word = do
  u ← below of_desk (spend 1)
  v ← own (assigned name word)
  caught body

abbrev pub rounds : List ℕ → Acts (Unit {0}) → List (List ℕ) → Acts (Unit {0})
rounds name body [] = done tt
rounds name body (w ∷ ws) = do
  t ← round name body w
  unless_broken (is_broken t) (rounds name body ws)

abbrev pub all_rounds : List ℕ → Acts (Unit {0}) → List (List ℕ) → Acts (Unit {0})
all_rounds name body [] = own (status_is 0)
all_rounds name body (w ∷ ws) = rounds name body (w ∷ ws)

unfoldable pub for_of : Deeper → Scene → For → Acts (Unit {0})
for_of deeper scene c = do
  words ← fields deeper scene [] (out-For c).words.items
  all_rounds (out-For c).name (deeper (out-For c).body (in_loop scene)) words

-- ---- compounds

abbrev pub CompoundBody : Type 0
CompoundBody = Compound-F Command Compound WordWhat AndOr Assigned Branch Case For If Item Joined Loop Pipeline Redirect Script Simple Word WordPiece

abbrev pub body_by : Deeper → Scene → CompoundBody → Acts (Unit {0})
body_by deeper scene (Compound-F.Subshell s) = subshell (deeper s (in_copy scene.input))
body_by deeper scene (Compound-F.Group s) = deeper s scene
body_by deeper scene (Compound-F.If c) = if_of deeper scene c
body_by deeper scene (Compound-F.Loop c) = loop_of deeper scene c
body_by deeper scene (Compound-F.For c) = for_of deeper scene c
body_by deeper scene (Compound-F.Case c) = case_of deeper scene c

unfoldable pub body_of : Deeper → Scene → Compound → Acts (Unit {0})
body_of deeper scene c = body_by deeper scene (out-Compound c)

abbrev pub has_no_end : Result (Unit {0}) Jump → Bool
has_no_end (Err (End e)) = true
has_no_end _ = false

-- what has no end reaches no file
abbrev pub handing : Bool → Streams → List Piece → Acts (Unit {0})
handing true s ps = own (hand s ps)
handing false s ps = delivered s ps

-- what it wrote goes where its redirections say, however it ended
abbrev pub passed_on : Streams → Collected → Acts (Unit {0})
passed_on s c = handing (has_no_end c.ended) s c.pieces >>= (λ u. jumped c.ended)

abbrev pub within_streams : Streams → Scene → Scene
within_streams s scene = record { input = input_of s scene.input; in_loop = scene.in_loop }

unfoldable pub routed : Deeper → Scene → Compound → Streams → Acts (Unit {0})
routed deeper scene c s = do
  k ← collected (body_of deeper (within_streams s scene) c)
  passed_on s k

-- a compound's redirections act before it
unfoldable pub compound_of : Deeper → Scene → Compound → List Redirect → Acts (Unit {0})
compound_of deeper scene c rs = do
  s ← redirects deeper scene rs around
  if_some s (routed deeper scene c)

-- ---- commands

abbrev pub CommandBody : Type 0
CommandBody = Command-F Command Compound WordWhat AndOr Assigned Branch Case For If Item Joined Loop Pipeline Redirect Script Simple Word WordPiece

abbrev pub command_by : Deeper → Scene → CommandBody → Acts (Unit {0})
command_by deeper scene (Command-F.Simple c) = simple_of deeper scene c
command_by deeper scene (Command-F.Compound c rs) = compound_of deeper scene c rs.items

unfoldable pub command_of : Deeper → Scene → Command → Acts (Unit {0})
command_of deeper scene c = command_by deeper scene (out-Command c)

abbrev pub if_last : List Command → Acts (Unit {0}) → Acts (Unit {0}) → Acts (Unit {0})
if_last [] last other = last
if_last (c ∷ cs) last other = other

-- stages run one after another in copies of the shell; each reads what the one before has written
abbrev pub piped : Deeper → List ℕ → List Command → Acts (Unit {0})
piped deeper input [] = done tt
piped deeper input (c ∷ cs) =
    if_last cs (subshell (command_of deeper (in_copy input) c)) (heard (command_of deeper (in_copy input) c) >>= (λ text. piped deeper text cs))

-- a command alone runs in the shell itself
abbrev pub stages : Deeper → Scene → List Command → Acts (Unit {0})
stages deeper scene [] = done tt
stages deeper scene (c ∷ []) = command_of deeper scene c
stages deeper scene (c ∷ d ∷ cs) = piped deeper [] (c ∷ d ∷ cs)

abbrev pub opposite : ℕ → ℕ
opposite n = if n == 0 then 1 else 0

abbrev pub turn_status : Change (Unit {0})
turn_status h = Ok (tt, with_status (opposite h.shell.status) h)

abbrev pub turned : Bool → Acts (Unit {0})
turned bang = if bang then own turn_status else done tt

unfoldable pub pipeline_of : Deeper → Scene → Pipeline → Acts (Unit {0})
pipeline_of deeper scene p = do
  u ← stages deeper scene (out-Pipeline p).stages.items
  turned (out-Pipeline p).not

-- `&&` goes on after a status 0, `||` after another
abbrev pub goes_with : Bool → ℕ → Bool
goes_with and n = if and then n == 0 else not (n == 0)

abbrev pub if_goes : Bool → Acts (Unit {0}) → Acts (Unit {0})
if_goes goes m = if goes then m else done tt

unfoldable pub joined_one : Deeper → Scene → Joined → Acts (Unit {0})
joined_one deeper scene j = by_status (λ n. if_goes (goes_with (out-Joined j).and n) (pipeline_of deeper scene (out-Joined j).next))

-- from left to right
abbrev pub joined : Deeper → Scene → List Joined → Acts (Unit {0})
joined deeper scene [] = done tt
joined deeper scene (j ∷ js) = do
  u ← joined_one deeper scene j
  joined deeper scene js

unfoldable pub and_or_of : Deeper → Scene → AndOr → Acts (Unit {0})
and_or_of deeper scene a = do
  u ← pipeline_of deeper scene (out-AndOr a).first
  joined deeper scene (out-AndOr a).rest.items

abbrev pub in_order : Deeper → Scene → List AndOr → Acts (Unit {0})
in_order deeper scene [] = done tt
in_order deeper scene (a ∷ more) = do
  u ← and_or_of deeper scene a
  in_order deeper scene more

-- an empty script has status 0
abbrev pub script_of : Deeper → Scene → List AndOr → Acts (Unit {0})
script_of deeper scene [] = own (status_is 0)
script_of deeper scene (a ∷ more) = in_order deeper scene (a ∷ more)

-- a script, in which so many levels of commands and substitutions may stand
abbrev pub script_at : ℕ → Deeper
script_at zero s scene = refuse (End (exec.Refused Depth))
script_at (suc left) s scene = script_of (script_at left) scene (out-Script s).list.items
