-- The shell makes no fuel: construct by construct, where scripts one level deeper make none.
use Rattle.std.proofs.Common.{◌≤◌, ℕ, zero, suc, Bool, true, false, List, [], ◌∷◌, ◌++◌, Option, Some, None, Result, Ok, Err, rules}
use Rattle.std.specs.Prelude.{nat_lt, drop, ◌==◌, not}
use Rattle.em_base.specs.declared.construct.Construct.{Construct}
use Rattle.em_tree.specs.declared.node.Kind.{Kind}
use Rattle.em_tree.specs.declared.node.Kind.TheVariants as kind
use Rattle.em_glob.specs.declared.glyph.Glyph.{Glyph}
use Rattle.em_glob.specs.Patterns.{pieces, fits, is_pattern}
use Rattle.em_view.specs.declared.done.Done.{Done}
use Rattle.em_view.specs.declared.done.ExecNo.{ExecNo}
use Rattle.em_view.specs.Actions.{Oracle, Workspace, Action}
use Rattle.em_view.specs.Steps.{own}
use Rattle.em_utility.specs.declared.options.Options.{Options}
use Rattle.em_utility.specs.declared.operand.OperandNo.{OperandNo}
use Rattle.em_utility.specs.Options.{read_options}
use Rattle.em_utility.specs.Operands.{located}
use Rattle.em_syntax.specs.declared.tree.Command.TheOpen.{Command-F, Compound-F}
use Rattle.em_syntax.specs.declared.tree.Script.{Script, out-Script}
use Rattle.em_syntax.specs.declared.tree.AndOr.{AndOr, out-AndOr}
use Rattle.em_syntax.specs.declared.tree.Joined.{Joined, out-Joined}
use Rattle.em_syntax.specs.declared.tree.Pipeline.{Pipeline, out-Pipeline}
use Rattle.em_syntax.specs.declared.tree.Command.{Command, out-Command}
use Rattle.em_syntax.specs.declared.tree.Simple.{Simple, out-Simple}
use Rattle.em_syntax.specs.declared.tree.Assigned.{Assigned, out-Assigned}
use Rattle.em_syntax.specs.declared.tree.Redirect.{Redirect, out-Redirect}
use Rattle.em_syntax.specs.declared.tree.RedirectKind.{RedirectKind}
use Rattle.em_syntax.specs.declared.tree.RedirectKind.TheVariants.{Write, Append, Read, Duplicate}
use Rattle.em_syntax.specs.declared.tree.Compound.{Compound, out-Compound}
use Rattle.em_syntax.specs.declared.tree.If.{If, out-If}
use Rattle.em_syntax.specs.declared.tree.Branch.{Branch, out-Branch}
use Rattle.em_syntax.specs.declared.tree.Loop.{Loop, out-Loop}
use Rattle.em_syntax.specs.declared.tree.For.{For, out-For}
use Rattle.em_syntax.specs.declared.tree.Case.{Case, out-Case}
use Rattle.em_syntax.specs.declared.tree.Item.{Item, out-Item}
use Rattle.em_syntax.specs.declared.tree.Word.{Word}
use Rattle.em_word.specs.declared.shell.Shell.{Shell}
use Rattle.em_word.specs.declared.fault.WordFault.{WordFault}
use Rattle.em_word.specs.declared.turn.Mode.{Mode}
use Rattle.em_word.specs.declared.turn.Mode.TheVariants as mode
use Rattle.em_word.specs.Ends.{of_desk}
use Rattle.em_word.specs.Talk.{Ends, Fails, Pays, Looks, Sets, Asks}
use Rattle.em_word.specs.Turns.{names_that_match, names_of, names_of_each, expanded, finish}
use Rattle.em_word.specs.Values.{Plan}
use Rattle.em_word.specs.Words.{word_plan}
use Rattle.em_command.specs.declared.jump.Jump.{Jump}
use Rattle.em_command.specs.declared.jump.Jump.TheVariants.{End}
use Rattle.em_command.specs.declared.here.Here.{Here}
use Rattle.em_command.specs.declared.here.Scene.{Scene}
use Rattle.em_command.specs.declared.streams.OpenedFile.{OpenedFile}
use Rattle.em_command.specs.declared.streams.Streams.{Streams}
use Rattle.em_command.specs.Jumps as jumps
use Rattle.em_command.specs.Jumps.{Acts, Change, looked, jump_of}
use Rattle.em_command.specs.Heres.{begun, assigned}
use Rattle.em_command.specs.Streams.{around, emptied, added_by, added, held, open_file, is_null, open_at, source_of, opened, at_path, duplicated, connect, redirected, input_of}
use Rattle.em_command.specs.Delivering.{append_to, append_some, append, appended, append_each, texts_for, delivered}
use Rattle.em_command.specs.Builtins.{Asked, directory_at, directory, itself, change_directory, cd, asked_of, with_options, asked, settling, name_of, builtin_of, ran}
use Rattle.em_command.specs.Commands.{or_unknown, text_utility, or_text, utility, by_builtin, by_refusal, refused_as, run, run_command}
use Rattle.em_command.specs.Commands as command
use Rattle.em_command.specs.Acting.{charge, jumped, left_over, perform}
use Rattle.em_exec.specs.Copies.{looked_at, subshell, heard, substituted, Collected, collected, caught}
use Rattle.em_exec.specs.Words.{Deeper, in_copy, worded, output, hold, added as with_fields, fields, whole, pattern}
use Rattle.em_exec.specs.Words as words
use Rattle.em_exec.specs.Running.{by_status, assign_if, if_open, is_none, if_some, assignment, assignments, redirect_one, redirects, ends_alone, act, simple_of, if_zero, otherwise, branches, if_of, or_next, matches_one, if_found, items, case_of}
use Rattle.em_exec.specs.Running.{in_loop, one_turn, again, turns, loop_of, is_broken, round, rounds, all_rounds, for_of}
use Rattle.em_exec.specs.Running.{CompoundBody, body_by, body_of, has_no_end, handing, passed_on, within_streams, routed, compound_of, CommandBody, command_by, command_of, if_last, piped, stages, turned, pipeline_of, goes_with, if_goes, joined_one, joined, and_or_of, in_order, script_of, script_at}
use Rattle.em_exec.specs.Exec as exec
use Rattle.em_exec.specs.Exec.{Session}
use Rattle.em_shell_laws.specs.Loops.{MakesNoFuel}
use Rattle.em_shell_laws.proofs.Burning.{Burns, BurnsAll, then_burns, burns_done, burns_fail, burns_lift, burns_by, burns_spend, burns_named, burns_gives, kind_burns, content_burns, put_burns, read_burns, matching_burns, all_then, all_done, all_refuse, all_own, all_below, all_within, all_by}
use Rattle.em_shell_laws.proofs.Looping.{turn_comes}
use Rattle.em_shell_laws.proofs.Tending.{file_utility_burns, text_utility_burns}

-- ---- built-ins and utilities

directory_burns : (cwd name : List ℕ) → Burns (directory cwd name)
unfolding directory directory_at
directory_burns cwd name = then_burns (burns_gives (located cwd name)) (λ p. then_burns (burns_named name (kind_burns p)) (λ k. burns_gives _))

change_burns : (cwd name : List ℕ) → BurnsAll (change_directory cwd name)
unfolding change_directory
change_burns cwd name = all_then (all_below itself (directory_burns cwd name)) (λ p. all_own _)

cd_burns : (os : List (List ℕ)) → BurnsAll (cd os)
cd_burns [] = all_refuse _
cd_burns (d ∷ []) = record { at = λ s. (change_burns s.cwd d).at s }
cd_burns (d ∷ e ∷ es) = all_refuse _

all_settling : (name : List ℕ) {m : Asked} → BurnsAll m → BurnsAll (settling name m)
unfolding settling
all_settling name h = record { at = λ s. record { down = λ o w. (h.at s).down o w } }

-- types that their crate keeps to itself, by functions that take them
abbrev DomainOf : {X Y : Type 0} → (X → Y) → Type 0
DomainOf {X} f = X

abbrev Builtin : Type 0
Builtin = DomainOf name_of

abbrev Answer : Type 0
Answer = DomainOf ran

owns : (f : Shell → Result (Answer × Shell) (OperandNo × Shell)) → BurnsAll {S = Shell} {E = OperandNo} (own f)
owns f = all_own f

asked_of_burns : (b : Builtin) (in_loop : Bool) (os : List (List ℕ)) → BurnsAll (asked_of b in_loop os)
asked_of_burns b in_loop os = search (rules, cd_burns, owns)

asked_burns : (b : Builtin) (in_loop : Bool) (ws : List (List ℕ)) → BurnsAll (asked b in_loop ws)
unfolding asked
asked_burns b in_loop ws = by_options (read_options (name_of b) [] [] ws)
  where
    by_options : (r : Result Options ExecNo) → BurnsAll (with_options b in_loop ws r)
    by_options (Ok o) = asked_of_burns b in_loop (drop o.taken ws)
    by_options (Err e) = all_refuse _

utility_burns : (name : List ℕ) (ws : List (List ℕ)) (input cwd : List ℕ) → Burns (utility name ws input cwd)
unfolding utility text_utility
utility_burns name ws input cwd = then_burns (file_utility_burns ws cwd) by_file
  where
    by_text : (d : Option Done) → Burns (or_unknown name d)
    by_text (Some d) = burns_done _
    by_text None = burns_done _

    by_file : (d : Option Done) → Burns (or_text name ws input cwd d)
    by_file (Some d) = burns_done _
    by_file None = then_burns (text_utility_burns ws input cwd) by_text

run_burns : (ws : List (List ℕ)) (input : List ℕ) (in_loop : Bool) → BurnsAll (run ws input in_loop)
unfolding run
run_burns [] input in_loop = all_done _
run_burns (name ∷ ws) input in_loop = by_no (refused_as name)
  where
    by_own : (b : Option Builtin) → BurnsAll (by_builtin b name (name ∷ ws) input in_loop)
    by_own (Some b) = all_settling (name_of b) (asked_burns b in_loop (drop 1 (name ∷ ws)))
    by_own None = record { at = λ s. (all_below command.itself (utility_burns name (name ∷ ws) input s.cwd)).at s }

    by_no : (c : Option Construct) → BurnsAll (by_refusal c name (name ∷ ws) input in_loop)
    by_no (Some c) = all_refuse _
    by_no None = by_own (builtin_of name)

-- ---- redirections, and where what is written goes

all_looked : {A B : Type 0} (m : Here → Action OperandNo A) (k : Result A OperandNo → Change B) → ((h : Here) → Burns (m h)) → BurnsAll (looked m k)
unfolding looked
all_looked m k down = record { at = λ h. record { down = λ o w. (down h).down o w } }

emptied_burns : (word p : List ℕ) → Burns (emptied word p)
unfolding emptied
emptied_burns word p = then_burns (burns_named word (put_burns p [])) (λ u. burns_done _)

file_burns : (cwd : List ℕ) (k : RedirectKind) (word p : List ℕ) → Burns (open_file cwd k word p)
unfolding added held
file_burns cwd Write word p = emptied_burns word p
file_burns cwd Append word p = then_burns (burns_named word (kind_burns p)) by_kind
  where
    by_kind : (k : Kind) → Burns (added_by word p k)
    by_kind kind.Absent = emptied_burns word p
    by_kind kind.File = burns_done _
    by_kind kind.Link = burns_done _
    by_kind kind.Dir = burns_fail _
file_burns cwd Read word p = then_burns (read_burns cwd word) (λ bytes. burns_done _)
file_burns cwd Duplicate word p = burns_done _

path_burns : (cwd : List ℕ) (fd : ℕ) (k : RedirectKind) (word : List ℕ) (s : Streams) → Burns (at_path cwd fd k word s)
unfolding opened source_of
path_burns cwd fd k word s = burns_by (nat_lt 2 fd) (burns_fail _)
    (then_burns (then_burns (burns_gives (located cwd word)) (λ p. burns_by (is_null p) (burns_done _) (file_burns cwd k word p))) (λ source. burns_done _))

redirected_burns : (fd : ℕ) (k : RedirectKind) (word : List ℕ) (s : Streams) → BurnsAll (redirected fd k word s)
unfolding redirected
redirected_burns fd k word s = all_looked (λ h. connect h.shell.cwd fd k word s) _ (λ h. by_kind h.shell.cwd k)
  where
    by_kind : (cwd : List ℕ) (k : RedirectKind) → Burns (connect cwd fd k word s)
    by_kind cwd Write = path_burns cwd fd Write word s
    by_kind cwd Append = path_burns cwd fd Append word s
    by_kind cwd Read = path_burns cwd fd Read word s
    by_kind cwd Duplicate = burns_gives (duplicated fd word s)

append_burns : (f : OpenedFile) (text : List ℕ) → Burns (append f text)
unfolding append_some
append_burns f [] = burns_done tt
append_burns f (b ∷ bs) = then_burns (burns_named f.word (content_burns f.path)) by_content
  where
    by_content : (old : Option (List ℕ)) → Burns (append_to f.word f.path (b ∷ bs) old)
    by_content None = burns_done tt
    by_content (Some bytes) = burns_named f.word (put_burns f.path (bytes ++ b ∷ bs))

each_appended : (fs : List OpenedFile) (ts : List (List ℕ)) → BurnsAll (append_each fs ts)
unfolding appended
each_appended [] ts = all_done tt
each_appended (f ∷ fs) [] = all_done tt
each_appended (f ∷ fs) (t ∷ ts) = all_then (all_looked (λ h. append f t) _ (λ h. append_burns f t)) (λ u. each_appended fs ts)

delivered_burns : (s : Streams) (ps : List _) → BurnsAll (delivered s ps)
unfolding delivered
delivered_burns s ps = all_then (all_own _) (λ u. each_appended s.files (texts_for s ps))

jumped_burns : (r : Result (Unit {0}) Jump) → BurnsAll (jumped r)
jumped_burns (Ok u) = all_done tt
jumped_burns (Err j) = all_refuse j

perform_burns : (ws : List (List ℕ)) (s : Streams) (input : List ℕ) (in_loop : Bool) → BurnsAll (perform ws s input in_loop)
unfolding perform run_command left_over charge
perform_burns ws s input in_loop = all_then (all_within _ _ End (all_then (run_burns ws (input_of s input) in_loop) (λ r. all_own _)))
    (λ r. all_then (all_below jumps.of_desk (burns_spend _)) (λ u. all_then (delivered_burns s r.done.pieces) (λ v. jumped_burns (jump_of r.flow))))

-- ---- copies of the shell

all_looked_at : {A : Type 0} (from : Here → Here) (back : Here → Result (Unit {0}) Jump → Here → A × Here) {m : Acts (Unit {0})} → BurnsAll m → BurnsAll (looked_at from back m)
unfolding looked_at
all_looked_at from back h = record { at = λ t. record { down = λ o w. (h.at (from t)).down o w } }

all_subshell : {m : Acts (Unit {0})} → BurnsAll m → BurnsAll (subshell m)
unfolding subshell
all_subshell h = all_then (all_looked_at _ _ h) (λ c. all_own _)

all_heard : {m : Acts (Unit {0})} → BurnsAll m → BurnsAll (heard m)
unfolding heard
all_heard h = all_then (all_looked_at _ _ h) (λ c. all_own _)

all_substituted : {m : Acts (Unit {0})} → BurnsAll m → BurnsAll (substituted m)
unfolding substituted
all_substituted h = all_then (all_looked_at _ _ h) (λ c. all_own _)

all_collected : {m : Acts (Unit {0})} → BurnsAll m → BurnsAll (collected m)
unfolding collected
all_collected h = all_looked_at _ _ h

all_caught : {m : Acts (Unit {0})} → BurnsAll m → BurnsAll (caught m)
unfolding caught
all_caught h = record { at = λ t. record { down = λ o w. (h.at t).down o w } }

all_status : {A : Type 0} (f : ℕ → Acts A) → ((n : ℕ) → BurnsAll (f n)) → BurnsAll (by_status f)
all_status f down = record { at = λ h. (down h.shell.status).at h }

-- ---- words

all_worded : {A : Type 0} (m : Here → Action WordFault A) → ((h : Here) → Burns (m h)) → BurnsAll (worded m)
unfolding worded
all_worded m down = record { at = λ h. record { down = λ o w. (down h).down o w } }

names_burn : (cwd : List ℕ) (f : List Glyph) → Burns (names_of cwd f)
unfolding names_of names_that_match
names_burn cwd f = burns_by (is_pattern f) (then_burns (burns_lift of_desk (matching_burns cwd f)) (λ ns. burns_done _)) (burns_done _)

each_burns : (cwd : List ℕ) (so_far : List (List ℕ)) (fs : List (List Glyph)) → Burns (names_of_each cwd so_far fs)
each_burns cwd so_far [] = burns_done _
each_burns cwd so_far (f ∷ fs) = then_burns (names_burn cwd f) (λ ns. each_burns cwd (so_far ++ ns) fs)

finish_burns : (m : Mode) (cwd : List ℕ) (ps : List _) → Burns (finish m cwd ps)
unfolding expanded
finish_burns mode.Fields cwd ps = then_burns (each_burns cwd [] _) (λ ns. burns_done _)
finish_burns mode.Whole cwd ps = burns_done _
finish_burns mode.Pattern cwd ps = burns_done _

module _ (deeper : Deeper) (down : (s : Script) (scene : Scene) → BurnsAll (deeper s scene)) where
  module _ (scene : Scene) where
    hold_burns : (m : Mode) (p : Plan Script) → BurnsAll (hold deeper scene m p)
    hold_burns m (Ends ps) = all_then (all_worded _ (λ h. finish_burns m h.shell.cwd ps)) (λ s. all_done _)
    hold_burns m (Fails f) = all_worded _ (λ h. burns_fail f)
    hold_burns m (Pays n t) = all_then (all_worded _ (λ h. burns_lift of_desk (burns_spend n))) (λ u. hold_burns m t)
    hold_burns m (Looks t) = record { at = λ h. (hold_burns m (t h.shell)).at h }
    hold_burns m (Sets name value t) = all_then (all_own _) (λ u. hold_burns m t)
    hold_burns m (Asks s t) = all_then (all_substituted (down s (in_copy scene.input))) (λ text. hold_burns m (t text))

    expanded_burns : (m : Mode) (w : Word) → BurnsAll (words.expanded deeper scene m w)
    unfolding words.expanded
    expanded_burns m w = hold_burns m (word_plan w)

    fields_burn : (so_far : List (List ℕ)) (ws : List Word) → BurnsAll (fields deeper scene so_far ws)
    unfolding with_fields
    fields_burn so_far [] = all_done _
    fields_burn so_far (w ∷ ws) = all_then (all_then (expanded_burns mode.Fields w) (λ e. all_done _)) (λ more. fields_burn more ws)

    whole_burns : (w : Word) → BurnsAll (whole deeper scene w)
    unfolding whole
    whole_burns w = all_then (expanded_burns mode.Whole w) (λ e. all_done _)

    pattern_burns : (w : Word) → BurnsAll (pattern deeper scene w)
    unfolding pattern
    pattern_burns w = all_then (expanded_burns mode.Pattern w) (λ e. all_done _)

    -- ---- simple commands

    assignments_burn : (sets : Bool) (list : List Assigned) → BurnsAll (assignments deeper scene sets list)
    unfolding assignment
    assignments_burn sets [] = all_done tt
    assignments_burn sets (a ∷ more) = all_then (all_then (whole_burns (out-Assigned a).value) (λ text. all_by sets (all_own _) (all_done tt))) (λ u. assignments_burn sets more)

    opens_burn : (rest : Streams → Acts (Option Streams)) → ((s : Streams) → BurnsAll (rest s)) → (next : Option Streams) → BurnsAll (if_open next rest)
    opens_burn rest h None = all_done None
    opens_burn rest h (Some s) = h s

    redirects_burn : (rs : List Redirect) (s : Streams) → BurnsAll (redirects deeper scene rs s)
    unfolding redirect_one
    redirects_burn [] s = all_done _
    redirects_burn (r ∷ rs) s =
        all_then (all_then (whole_burns (out-Redirect r).target) (λ word. redirected_burns (out-Redirect r).fd (out-Redirect r).kind word s)) (opens_burn (redirects deeper scene rs) (λ t. redirects_burn rs t))

    act_burns : (assigned : List Assigned) (ws : List (List ℕ)) (s : Streams) → BurnsAll (act deeper scene assigned ws s)
    unfolding act
    act_burns assigned ws s = all_then (assignments_burn (is_none ws) assigned) (λ u. by_words (is_none ws))
      where
        by_words : (none : Bool) → BurnsAll (ends_alone deeper scene none ws s)
        by_words true = all_own _
        by_words false = perform_burns ws s scene.input scene.in_loop

    streams_burn : (f : Streams → Acts (Unit {0})) → ((s : Streams) → BurnsAll (f s)) → (s : Option Streams) → BurnsAll (if_some s f)
    streams_burn f h None = all_done tt
    streams_burn f h (Some s) = h s

    simple_burns : (c : Simple) → BurnsAll (simple_of deeper scene c)
    unfolding simple_of
    simple_burns c = all_then (all_below jumps.of_desk (burns_spend 1)) (λ u. all_then (all_own _) (λ v. all_then (fields_burn [] (out-Simple c).words.items) (λ ws.
        all_then (redirects_burn (out-Simple c).redirects.items around) (streams_burn (act deeper scene (out-Simple c).assigned.items ws) (act_burns (out-Simple c).assigned.items ws)))))

    -- ---- if, case

    otherwise_burns : (other : Option Script) → BurnsAll (otherwise deeper scene other)
    otherwise_burns None = all_own _
    otherwise_burns (Some s) = down s scene

    branches_burn : (bs : List Branch) (other : Option Script) → BurnsAll (branches deeper scene bs other)
    branches_burn [] other = otherwise_burns other
    branches_burn (b ∷ bs) other = all_then (down (out-Branch b).test scene) (λ u. all_status _ (λ n. all_by (n == 0) (down (out-Branch b).body scene) (branches_burn bs other)))

    matches_burn : (text : List ℕ) (ps : List Word) → BurnsAll (matches_one deeper scene text ps)
    matches_burn text [] = all_done false
    matches_burn text (p ∷ ps) = all_then (pattern_burns p) (λ gs. all_by (fits (pieces gs) text) (all_done true) (matches_burn text ps))

    items_burn : (text : List ℕ) (is : List Item) → BurnsAll (items deeper scene text is)
    items_burn text [] = all_own _
    items_burn text (i ∷ more) = all_then (matches_burn text (out-Item i).patterns.items) (λ found. all_by found (otherwise_burns (out-Item i).body) (items_burn text more))

  -- ---- loops

  module _ (until : Bool) (test body : Acts (Unit {0})) (test_burns : BurnsAll test) (body_burns : BurnsAll body) where
    turn_burns : (last : ℕ) → BurnsAll (one_turn until test body last)
    turn_burns last = record {
      at = λ h. record {
        down = λ o w.
            turn_comes until test body last o (λ t p v. (test_burns.at t).down p v) (λ t p v. (body_burns.at t).down p v) h w;
      };
    }

    again_burns : (rest : ℕ → Acts (Unit {0})) → ((l : ℕ) → BurnsAll (rest l)) → (next : Option ℕ) → BurnsAll (again next rest)
    again_burns rest h None = all_done tt
    again_burns rest h (Some l) = h l

    turns_burn : (n last : ℕ) → BurnsAll (turns n until test body last)
    turns_burn zero last = all_refuse _
    turns_burn (suc n) last = all_then (all_below jumps.of_desk (burns_spend 1)) (λ u. all_then (turn_burns last) (again_burns (turns n until test body) (λ l. turns_burn n l)))

  loop_burns : (scene : Scene) (c : Loop) → BurnsAll (loop_of deeper scene c)
  unfolding loop_of
  loop_burns scene c = record {
    at = λ h. record {
      down = λ o w.
          ((turns_burn (out-Loop c).until _ _ (down (out-Loop c).test (in_loop scene)) (down (out-Loop c).body (in_loop scene)) (suc w.fuel) 0).at h).down o w;
    };
  }

  rounds_burn : (name : List ℕ) (body : Acts (Unit {0})) → BurnsAll body → (ws : List (List ℕ)) → BurnsAll (rounds name body ws)
  unfolding round
  rounds_burn name body h [] = all_done tt
  rounds_burn name body h (w ∷ ws) = all_then (all_then (all_below jumps.of_desk (burns_spend 1)) (λ u. all_then (all_own _) (λ v. all_caught h))) (λ t. all_by (is_broken t) (all_done tt) (rounds_burn name body h ws))

  for_burns : (scene : Scene) (c : For) → BurnsAll (for_of deeper scene c)
  unfolding for_of
  for_burns scene c = all_then (fields_burn scene [] (out-For c).words.items) by_words
    where
      by_words : (ws : List (List ℕ)) → BurnsAll (all_rounds (out-For c).name (deeper (out-For c).body (in_loop scene)) ws)
      by_words [] = all_own _
      by_words (w ∷ ws) = rounds_burn (out-For c).name _ (down (out-For c).body (in_loop scene)) (w ∷ ws)

  -- ---- commands

  body_burns : (scene : Scene) (c : CompoundBody) → BurnsAll (body_by deeper scene c)
  unfolding if_of case_of
  body_burns scene (Compound-F.Subshell s) = all_subshell (down s (in_copy scene.input))
  body_burns scene (Compound-F.Group s) = down s scene
  body_burns scene (Compound-F.If c) = branches_burn scene (out-If c).branches.items (out-If c).other
  body_burns scene (Compound-F.Loop c) = loop_burns scene c
  body_burns scene (Compound-F.For c) = for_burns scene c
  body_burns scene (Compound-F.Case c) = all_then (whole_burns scene (out-Case c).word) (λ text. items_burn scene text (out-Case c).items.items)

  passed_burns : (s : Streams) (c : Collected) → BurnsAll (passed_on s c)
  passed_burns s c = all_then (by_end (has_no_end c.ended)) (λ u. jumped_burns c.ended)
    where
      by_end : (none : Bool) → BurnsAll (handing none s c.pieces)
      by_end true = all_own _
      by_end false = delivered_burns s c.pieces

  compound_burns : (scene : Scene) (c : Compound) (rs : List Redirect) → BurnsAll (compound_of deeper scene c rs)
  unfolding compound_of routed body_of
  compound_burns scene c rs = all_then (redirects_burn scene rs around)
      (streams_burn scene (routed deeper scene c) (λ s. all_then (all_collected (body_burns (within_streams s scene) (out-Compound c))) (λ k. passed_burns s k)))

  command_burns : (scene : Scene) (c : Command) → BurnsAll (command_of deeper scene c)
  unfolding command_of
  command_burns scene c = by_form (out-Command c)
    where
      by_form : (x : CommandBody) → BurnsAll (command_by deeper scene x)
      by_form (Command-F.Simple s) = simple_burns scene s
      by_form (Command-F.Compound d rs) = compound_burns scene d rs.items

  piped_burns : (input : List ℕ) (cs : List Command) → BurnsAll (piped deeper input cs)
  piped_burns input [] = all_done tt
  piped_burns input (c ∷ []) = all_subshell (command_burns (in_copy input) c)
  piped_burns input (c ∷ d ∷ cs) = all_then (all_heard (command_burns (in_copy input) c)) (λ text. piped_burns text (d ∷ cs))

  pipeline_burns : (scene : Scene) (p : Pipeline) → BurnsAll (pipeline_of deeper scene p)
  unfolding pipeline_of
  pipeline_burns scene p = all_then (by_stages (out-Pipeline p).stages.items) (λ u. all_by (out-Pipeline p).not (all_own _) (all_done tt))
    where
      by_stages : (cs : List Command) → BurnsAll (stages deeper scene cs)
      by_stages [] = all_done tt
      by_stages (c ∷ []) = command_burns scene c
      by_stages (c ∷ d ∷ cs) = piped_burns [] (c ∷ d ∷ cs)

  joined_burns : (scene : Scene) (js : List Joined) → BurnsAll (joined deeper scene js)
  unfolding joined_one
  joined_burns scene [] = all_done tt
  joined_burns scene (j ∷ js) = all_then (all_status _ (λ n. all_by (goes_with (out-Joined j).and n) (pipeline_burns scene (out-Joined j).next) (all_done tt))) (λ u. joined_burns scene js)

  lists_burn : (scene : Scene) (ls : List AndOr) → BurnsAll (in_order deeper scene ls)
  unfolding and_or_of
  lists_burn scene [] = all_done tt
  lists_burn scene (a ∷ more) = all_then (all_then (pipeline_burns scene (out-AndOr a).first) (λ u. joined_burns scene (out-AndOr a).rest.items)) (λ u. lists_burn scene more)

  list_burns : (scene : Scene) (ls : List AndOr) → BurnsAll (script_of deeper scene ls)
  list_burns scene [] = all_own _
  list_burns scene (a ∷ more) = lists_burn scene (a ∷ more)

script_burns : (left : ℕ) (s : Script) (scene : Scene) → BurnsAll (script_at left s scene)
script_burns zero s scene = all_refuse _
script_burns (suc left) s scene = list_burns (script_at left) (script_burns left) scene (out-Script s).list.items

pub script_makes_none : (left : ℕ) (s : Script) (scene : Scene) → MakesNoFuel (script_at left s scene)
script_makes_none left s scene h o w = ((script_burns left s scene).at h).down o w

pub line_makes_none : (script : Script) (s : Session) (o : Oracle) (w : Workspace) → (exec.run script s o w).1.fuel ≤ w.fuel
unfolding exec.run
line_makes_none script s o w = ((script_burns 65 script (in_copy [])).at (begun s.shell)).down o w
