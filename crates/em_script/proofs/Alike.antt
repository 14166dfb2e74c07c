-- Scripts of one shape run alike: construct by construct, where scripts one level deeper do.
use Rattle.std.proofs.Common.{◌≡◌, ◌∙◌, ℕ, zero, suc, Bool, List, [], ◌∷◌, ◌++◌, map, Option, refl, sym, ap, arith}
use Rattle.std.specs.Option.{option_map}
use Rattle.em_glob.specs.Patterns.{pieces, fits}
use Rattle.em_view.specs.Actions.{spend, fail, lift}
use Rattle.em_view.specs.Steps.{done, own, below}
use Rattle.em_view.specs.Do.{◌>>=◌}
use Rattle.em_syntax.specs.declared.tree.Command.TheOpen.{Command-F, Compound-F}
use Rattle.em_syntax.specs.declared.tree.Script.{Script, out-Script}
use Rattle.em_syntax.specs.declared.tree.AndOr.{AndOr, out-AndOr}
use Rattle.em_syntax.specs.declared.tree.Joined.{Joined, out-Joined}
use Rattle.em_syntax.specs.declared.tree.Pipeline.{Pipeline, out-Pipeline}
use Rattle.em_syntax.specs.declared.tree.Command.{Command, roll-Command, out-Command, roll-out-Command}
use Rattle.em_syntax.specs.declared.tree.Command.TheVariants as command
use Rattle.em_syntax.specs.declared.tree.Simple.{Simple, out-Simple}
use Rattle.em_syntax.specs.declared.tree.Assigned.{Assigned, out-Assigned}
use Rattle.em_syntax.specs.declared.tree.Redirect.{Redirect, out-Redirect}
use Rattle.em_syntax.specs.declared.tree.Compound.{Compound, roll-Compound, out-Compound, roll-out-Compound}
use Rattle.em_syntax.specs.declared.tree.Compound.TheVariants as compound
use Rattle.em_syntax.specs.declared.tree.If.{If, out-If}
use Rattle.em_syntax.specs.declared.tree.Branch.{Branch, out-Branch}
use Rattle.em_syntax.specs.declared.tree.Loop.{Loop, out-Loop}
use Rattle.em_syntax.specs.declared.tree.For.{For, out-For}
use Rattle.em_syntax.specs.declared.tree.Case.{Case, out-Case}
use Rattle.em_syntax.specs.declared.tree.Item.{Item, out-Item}
use Rattle.em_syntax.specs.declared.tree.Word.{Word}
use Rattle.em_gram.specs.Same.{Shape, pair, variant, row, optional}
use Rattle.em_gram.specs.Same.{command_shape, compound_shape, and_or_shape, assigned_shape, branch_shape, case_shape, for_shape, if_shape, item_shape, joined_shape, loop_shape, pipeline_shape, redirect_shape, script_shape, simple_shape, word_shape}
use Rattle.em_gram.proofs.Shapes.{and_or_shape_is, assigned_shape_is, branch_shape_is, case_shape_is, for_shape_is, if_shape_is, item_shape_is, joined_shape_is, loop_shape_is, pipeline_shape_is, redirect_shape_is, script_shape_is, simple_shape_is}
use Rattle.em_gram.proofs.Shapes.{command_shape_Simple, command_shape_Compound, compound_shape_Subshell, compound_shape_Group, compound_shape_If, compound_shape_Loop, compound_shape_For, compound_shape_Case}
use Rattle.em_fields.specs.declared.part.Part.{Part}
use Rattle.em_word.specs.declared.turn.Mode.{Mode}
use Rattle.em_word.specs.declared.turn.Mode.TheVariants as mode
use Rattle.em_word.specs.Ends as word
use Rattle.em_word.specs.Talk.{Ends, Fails, Pays, Looks, Sets, Asks}
use Rattle.em_word.specs.Turns.{finish}
use Rattle.em_word.specs.Values.{Plan}
use Rattle.em_word.specs.Words.{word_plan}
use Rattle.em_command.specs.declared.here.Scene.{Scene}
use Rattle.em_command.specs.Jumps.{Acts, of_desk}
use Rattle.em_command.specs.Heres.{assigned}
use Rattle.em_command.specs.Streams.{around, redirected}
use Rattle.em_exec.specs.Copies.{subshell, heard, substituted, collected}
use Rattle.em_exec.specs.Words.{Deeper, in_copy, worded, expansion_of, fields_in, first_in, glyphs_in, output, hold, expanded, added, fields, whole, pattern}
use Rattle.em_exec.specs.Running.{by_status, assign_if, if_open, is_none, unsubstituted, if_zero, or_next, if_found, if_some, assignment, assignments, redirect_one, redirects, ends_alone, act, simple_of, otherwise, branches, if_of, matches_one, items, case_of}
use Rattle.em_exec.specs.Running.{in_loop, turns, loop_of, all_rounds, for_of, CompoundBody, body_by, body_of, passed_on, within_streams, routed, compound_of, CommandBody, command_by, command_of, if_last, piped, stages, turned, pipeline_of, goes_with, if_goes, joined_one, joined, and_or_of, in_order, script_of, script_at}
use Rattle.em_script.proofs.Asking.{asking}
use Rattle.em_script.proofs.Shaped.{first_same, second_same, inner_same, place_same, bytes_same, flag_same, number_same, kind_same, in_pairs, in_options}
use Rattle.em_script.proofs.Words.{words_alike}

-- a plan whose questions are told by what is done for them, up to what is done at its end
abbrev held : {A : Type 0} → (List Part → Acts A) → Plan (Acts (List ℕ)) → Acts A
held end (Ends ps) = end ps
held end (Fails f) = worded (λ h. fail f)
held end (Pays n t) = worded (λ h. lift word.of_desk (spend n)) >>= (λ u. held end t)
held end (Looks t) = λ h. held end (t h.shell) h
held end (Sets name value t) = own (assigned name value) >>= (λ u. held end t)
held end (Asks s t) = s >>= (λ text. held end (t text))

held_is : (deeper : Deeper) (scene : Scene) (m : Mode) (t : Plan Script) → hold deeper scene m t ≡ held (λ ps. worded (λ h. finish m h.shell.cwd ps) >>= (λ s. done (expansion_of s))) (asking (output deeper scene) t)
held_is deeper scene m (Ends ps) = refl
held_is deeper scene m (Fails f) = refl
held_is deeper scene m (Pays n t) = λ i. worded (λ h. lift word.of_desk (spend n)) >>= (λ u. held_is deeper scene m t i)
held_is deeper scene m (Looks t) = λ i. λ h. held_is deeper scene m (t h.shell) i h
held_is deeper scene m (Sets name value t) = λ i. own (assigned name value) >>= (λ u. held_is deeper scene m t i)
held_is deeper scene m (Asks s t) = λ i. output deeper scene s >>= (λ text. held_is deeper scene m (t text) i)

-- the shape of a command, and of a compound one, by its variant
abbrev pub command_by_variant : CommandBody → Shape
command_by_variant (Command-F.Simple c) = variant 0 (simple_shape c)
command_by_variant (Command-F.Compound c rs) = variant 1 (pair (compound_shape c) (row (map redirect_shape rs.items)))

pub command_is : (c : Command) → command_shape c ≡ command_by_variant (out-Command c)
command_is c = ap command_shape (sym (roll-out-Command c)) ∙ at (out-Command c)
  where
    at : (x : CommandBody) → command_shape (roll-Command x) ≡ command_by_variant x
    at (Command-F.Simple s) = ap command_shape (command.rolls-Simple s) ∙ command_shape_Simple s
    at (Command-F.Compound d rs) = ap command_shape (command.rolls-Compound d rs) ∙ command_shape_Compound d rs

abbrev compound_by_variant : CompoundBody → Shape
compound_by_variant (Compound-F.Subshell s) = variant 0 (script_shape s)
compound_by_variant (Compound-F.Group s) = variant 1 (script_shape s)
compound_by_variant (Compound-F.If c) = variant 2 (if_shape c)
compound_by_variant (Compound-F.Loop c) = variant 3 (loop_shape c)
compound_by_variant (Compound-F.For c) = variant 4 (for_shape c)
compound_by_variant (Compound-F.Case c) = variant 5 (case_shape c)

compound_is : (c : Compound) → compound_shape c ≡ compound_by_variant (out-Compound c)
compound_is c = ap compound_shape (sym (roll-out-Compound c)) ∙ at (out-Compound c)
  where
    at : (x : CompoundBody) → compound_shape (roll-Compound x) ≡ compound_by_variant x
    at (Compound-F.Subshell s) = ap compound_shape (compound.rolls-Subshell s) ∙ compound_shape_Subshell s
    at (Compound-F.Group s) = ap compound_shape (compound.rolls-Group s) ∙ compound_shape_Group s
    at (Compound-F.If d) = ap compound_shape (compound.rolls-If d) ∙ compound_shape_If d
    at (Compound-F.Loop d) = ap compound_shape (compound.rolls-Loop d) ∙ compound_shape_Loop d
    at (Compound-F.For d) = ap compound_shape (compound.rolls-For d) ∙ compound_shape_For d
    at (Compound-F.Case d) = ap compound_shape (compound.rolls-Case d) ∙ compound_shape_Case d

module _ (deeper : Deeper) (H : (s t : Script) → script_shape s ≡ script_shape t → deeper s ≡ deeper t) where
  -- words
  word_alike : (scene : Scene) (m : Mode) (v w : Word) → word_shape v ≡ word_shape w → expanded deeper scene m v ≡ expanded deeper scene m w
  unfolding expanded
  word_alike scene m v w e =
      held_is deeper scene m (word_plan v)
      ∙ ap (held (λ ps. worded (λ h. finish m h.shell.cwd ps) >>= (λ s. done (expansion_of s)))) (words_alike (output deeper scene) (λ s t d. λ i. substituted (H s t d i (in_copy scene.input))) v w e)
      ∙ sym (held_is deeper scene m (word_plan w))

  added_alike : (scene : Scene) (so_far : List (List ℕ)) (v w : Word) → word_shape v ≡ word_shape w → added deeper scene so_far v ≡ added deeper scene so_far w
  unfolding added
  added_alike scene so_far v w e = λ i. word_alike scene mode.Fields v w e i >>= (λ z. done (so_far ++ fields_in z))

  pub fields_alike : (scene : Scene) (xs ys : List Word) → row (map word_shape xs) ≡ row (map word_shape ys) → (so_far : List (List ℕ)) → fields deeper scene so_far xs ≡ fields deeper scene so_far ys
  fields_alike scene = in_pairs word_shape (λ xs ys. (so_far : List (List ℕ)) → fields deeper scene so_far xs ≡ fields deeper scene so_far ys) (λ so_far. refl)
      (λ x y xs ys e k so_far. λ i. added_alike scene so_far x y e i >>= (λ more. k more i))

  whole_alike : (scene : Scene) (v w : Word) → word_shape v ≡ word_shape w → whole deeper scene v ≡ whole deeper scene w
  unfolding whole
  whole_alike scene v w e = λ i. word_alike scene mode.Whole v w e i >>= (λ x. done (first_in (fields_in x)))

  pattern_alike : (scene : Scene) (v w : Word) → word_shape v ≡ word_shape w → pattern deeper scene v ≡ pattern deeper scene w
  unfolding pattern
  pattern_alike scene v w e = λ i. word_alike scene mode.Pattern v w e i >>= (λ x. done (glyphs_in x))

  -- assignments and redirections
  assignment_alike : (scene : Scene) (sets : Bool) (a b : Assigned) → assigned_shape a ≡ assigned_shape b → assignment deeper scene sets a ≡ assignment deeper scene sets b
  unfolding assignment
  assignment_alike scene sets a b e =
      let h = sym (assigned_shape_is a) ∙ e ∙ assigned_shape_is b in
      λ i. whole_alike scene (out-Assigned a).value (out-Assigned b).value (second_same h) i >>= (λ text. assign_if sets (bytes_same (first_same h) i) text)

  assignments_alike : (scene : Scene) (sets : Bool) (xs ys : List Assigned) → row (map assigned_shape xs) ≡ row (map assigned_shape ys) → assignments deeper scene sets xs ≡ assignments deeper scene sets ys
  assignments_alike scene sets = in_pairs assigned_shape (λ xs ys. assignments deeper scene sets xs ≡ assignments deeper scene sets ys) refl
      (λ x y xs ys e k. λ i. assignment_alike scene sets x y e i >>= (λ u. k i))

  redirect_alike : (scene : Scene) (a b : Redirect) → redirect_shape a ≡ redirect_shape b → redirect_one deeper scene a ≡ redirect_one deeper scene b
  unfolding redirect_one
  redirect_alike scene a b e =
      let h = sym (redirect_shape_is a) ∙ e ∙ redirect_shape_is b in
      λ i. λ s. whole_alike scene (out-Redirect a).target (out-Redirect b).target (second_same (second_same h)) i >>= (λ text. redirected (number_same (first_same h) i) (kind_same (first_same (second_same h)) i) text s)

  pub redirects_alike : (scene : Scene) (xs ys : List Redirect) → row (map redirect_shape xs) ≡ row (map redirect_shape ys) → redirects deeper scene xs ≡ redirects deeper scene ys
  redirects_alike scene = in_pairs redirect_shape (λ xs ys. redirects deeper scene xs ≡ redirects deeper scene ys) refl
      (λ x y xs ys e k. λ i. λ s. redirect_alike scene x y e i s >>= (λ next. if_open next (k i)))

  -- a simple command
  pub act_alike : (scene : Scene) (xs ys : List Assigned) → row (map assigned_shape xs) ≡ row (map assigned_shape ys) → act deeper scene xs ≡ act deeper scene ys
  unfolding act
  act_alike scene xs ys e = λ i. λ words s. assignments_alike scene (is_none words) xs ys e i >>= (λ u. ends_alone deeper scene (is_none words) words s)

  simple_alike : (scene : Scene) (a b : Simple) → simple_shape a ≡ simple_shape b → simple_of deeper scene a ≡ simple_of deeper scene b
  unfolding simple_of
  simple_alike scene a b e =
      let h = sym (simple_shape_is a) ∙ e ∙ simple_shape_is b in
      let c = out-Simple a in
      let d = out-Simple b in
      λ i. below of_desk (spend 1) >>= (λ u. own unsubstituted >>= (λ v. fields_alike scene c.words.items d.words.items (first_same (second_same h)) [] i
      >>= (λ words. redirects_alike scene c.redirects.items d.redirects.items (second_same (second_same h)) i around >>= (λ s. if_some s (act_alike scene c.assigned.items d.assigned.items (first_same h) i words)))))

  -- `if`
  otherwise_alike : (scene : Scene) (o p : Option Script) → optional (option_map script_shape o) ≡ optional (option_map script_shape p) → otherwise deeper scene o ≡ otherwise deeper scene p
  otherwise_alike scene = in_options script_shape (λ o p. otherwise deeper scene o ≡ otherwise deeper scene p) refl (λ s t e. λ i. H s t e i scene)

  branches_alike : (scene : Scene) (o p : Option Script) → optional (option_map script_shape o) ≡ optional (option_map script_shape p) → (xs ys : List Branch) → row (map branch_shape xs) ≡ row (map branch_shape ys)
      → branches deeper scene xs o ≡ branches deeper scene ys p
  branches_alike scene o p d = in_pairs branch_shape (λ xs ys. branches deeper scene xs o ≡ branches deeper scene ys p) (otherwise_alike scene o p d)
      (λ x y xs ys e k.
      let h = sym (branch_shape_is x) ∙ e ∙ branch_shape_is y in
      λ i. H (out-Branch x).test (out-Branch y).test (first_same h) i scene >>= (λ u. by_status (λ n. if_zero n (H (out-Branch x).body (out-Branch y).body (second_same h) i scene) (k i))))

  if_alike : (scene : Scene) (a b : If) → if_shape a ≡ if_shape b → if_of deeper scene a ≡ if_of deeper scene b
  unfolding if_of
  if_alike scene a b e =
      let h = sym (if_shape_is a) ∙ e ∙ if_shape_is b in
      branches_alike scene (out-If a).other (out-If b).other (second_same h) (out-If a).branches.items (out-If b).branches.items (first_same h)

  -- `case`
  matches_alike : (scene : Scene) (text : List ℕ) (xs ys : List Word) → row (map word_shape xs) ≡ row (map word_shape ys) → matches_one deeper scene text xs ≡ matches_one deeper scene text ys
  matches_alike scene text = in_pairs word_shape (λ xs ys. matches_one deeper scene text xs ≡ matches_one deeper scene text ys) refl
      (λ x y xs ys e k. λ i. pattern_alike scene x y e i >>= (λ gs. or_next (fits (pieces gs) text) (k i)))

  items_alike : (scene : Scene) (text : List ℕ) (xs ys : List Item) → row (map item_shape xs) ≡ row (map item_shape ys) → items deeper scene text xs ≡ items deeper scene text ys
  items_alike scene text = in_pairs item_shape (λ xs ys. items deeper scene text xs ≡ items deeper scene text ys) refl
      (λ x y xs ys e k.
      let h = sym (item_shape_is x) ∙ e ∙ item_shape_is y in
      λ i. matches_alike scene text (out-Item x).patterns.items (out-Item y).patterns.items (first_same h) i >>= (λ found. if_found found (otherwise_alike scene (out-Item x).body (out-Item y).body (second_same h) i) (k i)))

  case_alike : (scene : Scene) (a b : Case) → case_shape a ≡ case_shape b → case_of deeper scene a ≡ case_of deeper scene b
  unfolding case_of
  case_alike scene a b e =
      let h = sym (case_shape_is a) ∙ e ∙ case_shape_is b in
      λ i. whole_alike scene (out-Case a).word (out-Case b).word (first_same h) i >>= (λ text. items_alike scene text (out-Case a).items.items (out-Case b).items.items (second_same h) i)

  -- loops
  loop_alike : (scene : Scene) (a b : Loop) → loop_shape a ≡ loop_shape b → loop_of deeper scene a ≡ loop_of deeper scene b
  unfolding loop_of
  loop_alike scene a b e =
      let h = sym (loop_shape_is a) ∙ e ∙ loop_shape_is b in
      λ i. λ s o w. turns (suc w.fuel) (flag_same (first_same h) i) (H (out-Loop a).test (out-Loop b).test (first_same (second_same h)) i (in_loop scene)) (H (out-Loop a).body (out-Loop b).body (second_same (second_same h)) i (in_loop scene)) 0 s o w

  for_alike : (scene : Scene) (a b : For) → for_shape a ≡ for_shape b → for_of deeper scene a ≡ for_of deeper scene b
  unfolding for_of
  for_alike scene a b e =
      let h = sym (for_shape_is a) ∙ e ∙ for_shape_is b in
      λ i. fields_alike scene (out-For a).words.items (out-For b).words.items (first_same (second_same h)) [] i >>= (λ words. all_rounds (bytes_same (first_same h) i) (H (out-For a).body (out-For b).body (second_same (second_same h)) i (in_loop scene)) words)

  -- compounds
  body_alike : (scene : Scene) (c d : Compound) → compound_shape c ≡ compound_shape d → body_of deeper scene c ≡ body_of deeper scene d
  unfolding body_of
  body_alike scene c d e = at (out-Compound c) (out-Compound d) (sym (compound_is c) ∙ e ∙ compound_is d)
    where
      at : (x y : CompoundBody) → compound_by_variant x ≡ compound_by_variant y → body_by deeper scene x ≡ body_by deeper scene y
      at (Compound-F.Subshell s) (Compound-F.Subshell t) h = λ i. subshell (H s t (inner_same h) i (in_copy scene.input))
      at (Compound-F.Group s) (Compound-F.Group t) h = λ i. H s t (inner_same h) i scene
      at (Compound-F.If a) (Compound-F.If b) h = if_alike scene a b (inner_same h)
      at (Compound-F.Loop a) (Compound-F.Loop b) h = loop_alike scene a b (inner_same h)
      at (Compound-F.For a) (Compound-F.For b) h = for_alike scene a b (inner_same h)
      at (Compound-F.Case a) (Compound-F.Case b) h = case_alike scene a b (inner_same h)
      at x y h = absurd (omega (arith, place_same h))

  routed_alike : (scene : Scene) (c d : Compound) → compound_shape c ≡ compound_shape d → routed deeper scene c ≡ routed deeper scene d
  unfolding routed
  routed_alike scene c d e = λ i. λ s. collected (body_alike (within_streams s scene) c d e i) >>= (λ k. passed_on s k)

  compound_alike : (scene : Scene) (c d : Compound) (xs ys : List Redirect) → compound_shape c ≡ compound_shape d → row (map redirect_shape xs) ≡ row (map redirect_shape ys) → compound_of deeper scene c xs ≡ compound_of deeper scene d ys
  unfolding compound_of
  compound_alike scene c d xs ys e r = λ i. redirects_alike scene xs ys r i around >>= (λ s. if_some s (routed_alike scene c d e i))

  -- pipelines
  command_alike : (scene : Scene) (c d : Command) → command_shape c ≡ command_shape d → command_of deeper scene c ≡ command_of deeper scene d
  unfolding command_of
  command_alike scene c d e = at (out-Command c) (out-Command d) (sym (command_is c) ∙ e ∙ command_is d)
    where
      at : (x y : CommandBody) → command_by_variant x ≡ command_by_variant y → command_by deeper scene x ≡ command_by deeper scene y
      at (Command-F.Simple a) (Command-F.Simple b) h = simple_alike scene a b (inner_same h)
      at (Command-F.Compound a rs) (Command-F.Compound b ss) h = compound_alike scene a b rs.items ss.items (first_same (inner_same h)) (second_same (inner_same h))
      at x y h = absurd (omega (arith, place_same h))

  piped_alike : (xs ys : List Command) → row (map command_shape xs) ≡ row (map command_shape ys)
      → ((input : List ℕ) → piped deeper input xs ≡ piped deeper input ys) × ((a b : Acts (Unit {0})) → if_last xs a b ≡ if_last ys a b)
  piped_alike = in_pairs command_shape (λ xs ys. ((input : List ℕ) → piped deeper input xs ≡ piped deeper input ys) × ((a b : Acts (Unit {0})) → if_last xs a b ≡ if_last ys a b)) (λ input. refl, λ a b. refl)
      (λ x y xs ys e k. (
        λ input.
            (λ i. if_last xs (subshell (command_alike (in_copy input) x y e i)) (heard (command_alike (in_copy input) x y e i) >>= (λ text. k.0 text i)))
            ∙ k.1 (subshell (command_of deeper (in_copy input) y)) (heard (command_of deeper (in_copy input) y) >>= (λ text. piped deeper text ys)),
        λ a b. refl,
      ))

  stages_alike : (scene : Scene) (xs ys : List Command) → row (map command_shape xs) ≡ row (map command_shape ys) → stages deeper scene xs ≡ stages deeper scene ys
  stages_alike scene [] [] e = refl
  stages_alike scene (x ∷ []) (y ∷ []) e = command_alike scene x y (first_same e)
  stages_alike scene (x ∷ z ∷ xs) (y ∷ w ∷ ys) e = let p = piped_alike (x ∷ z ∷ xs) (y ∷ w ∷ ys) e in p.0 []
  stages_alike scene xs ys e = absurd cc

  pipeline_alike : (scene : Scene) (a b : Pipeline) → pipeline_shape a ≡ pipeline_shape b → pipeline_of deeper scene a ≡ pipeline_of deeper scene b
  unfolding pipeline_of
  pipeline_alike scene a b e =
      let h = sym (pipeline_shape_is a) ∙ e ∙ pipeline_shape_is b in
      λ i. stages_alike scene (out-Pipeline a).stages.items (out-Pipeline b).stages.items (second_same h) i >>= (λ u. turned (flag_same (first_same h) i))

  -- lists
  pub joined_one_alike : (scene : Scene) (a b : Joined) → joined_shape a ≡ joined_shape b → joined_one deeper scene a ≡ joined_one deeper scene b
  unfolding joined_one
  joined_one_alike scene a b e =
      let h = sym (joined_shape_is a) ∙ e ∙ joined_shape_is b in
      λ i. by_status (λ n. if_goes (goes_with (flag_same (first_same h) i) n) (pipeline_alike scene (out-Joined a).next (out-Joined b).next (second_same h) i))

  joined_alike : (scene : Scene) (xs ys : List Joined) → row (map joined_shape xs) ≡ row (map joined_shape ys) → joined deeper scene xs ≡ joined deeper scene ys
  joined_alike scene = in_pairs joined_shape (λ xs ys. joined deeper scene xs ≡ joined deeper scene ys) refl (λ x y xs ys e k. λ i. joined_one_alike scene x y e i >>= (λ u. k i))

  and_or_alike : (scene : Scene) (a b : AndOr) → and_or_shape a ≡ and_or_shape b → and_or_of deeper scene a ≡ and_or_of deeper scene b
  unfolding and_or_of
  and_or_alike scene a b e =
      let h = sym (and_or_shape_is a) ∙ e ∙ and_or_shape_is b in
      λ i. pipeline_alike scene (out-AndOr a).first (out-AndOr b).first (first_same h) i >>= (λ u. joined_alike scene (out-AndOr a).rest.items (out-AndOr b).rest.items (second_same h) i)

  order_alike : (scene : Scene) (xs ys : List AndOr) → row (map and_or_shape xs) ≡ row (map and_or_shape ys) → in_order deeper scene xs ≡ in_order deeper scene ys
  order_alike scene = in_pairs and_or_shape (λ xs ys. in_order deeper scene xs ≡ in_order deeper scene ys) refl (λ x y xs ys e k. λ i. and_or_alike scene x y e i >>= (λ u. k i))

  list_alike : (scene : Scene) (xs ys : List AndOr) → row (map and_or_shape xs) ≡ row (map and_or_shape ys) → script_of deeper scene xs ≡ script_of deeper scene ys
  list_alike scene [] [] e = refl
  list_alike scene [] (y ∷ ys) e = absurd cc
  list_alike scene (x ∷ xs) [] e = absurd cc
  list_alike scene (x ∷ xs) (y ∷ ys) e = order_alike scene (x ∷ xs) (y ∷ ys) e

pub scripts_alike : (n : ℕ) (s t : Script) → script_shape s ≡ script_shape t → script_at n s ≡ script_at n t
scripts_alike zero s t e = refl
scripts_alike (suc n) s t e = λ i. λ scene. list_alike (script_at n) (scripts_alike n) scene (out-Script s).list.items (out-Script t).list.items (sym (script_shape_is s) ∙ e ∙ script_shape_is t) i
