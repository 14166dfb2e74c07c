-- Pipelines: their stages, one after another in copies of the shell.
use Rattle.std.proofs.Common.{◌≡◌, ◌≢◌, ℕ, Bool, true, false, not, cond, List, [], ◌∷◌, ◌++◌, map, Result, Ok, Err, refl, sym, ap, ◌∙◌, append_assoc, ne_eqb}
use Rattle.std.specs.Prelude.{◌==◌}
use Rattle.std.specs.List.{filter, flat_map}
use Rattle.em_base.proofs.Lemmas.{by_cases}
use Rattle.em_view.specs.declared.done.Piece.{Piece}
use Rattle.em_view.specs.Actions.{Oracle, Workspace, ◌>>=◌}
use Rattle.em_view.specs.Steps.{and_then, done, own, with_state}
use Rattle.em_syntax.specs.declared.tree.Command.{Command}
use Rattle.em_syntax.specs.declared.tree.Pipeline.{Pipeline, out-Pipeline}
use Rattle.em_command.specs.declared.jump.Jump.{Jump}
use Rattle.em_command.specs.declared.jump.Jump.TheVariants.{Exit, Break, Continue, End}
use Rattle.em_command.specs.declared.here.Here.{Here}
use Rattle.em_command.specs.declared.here.Scene.{Scene}
use Rattle.em_command.specs.Jumps.{Acts}
use Rattle.em_command.specs.Heres.{branch, with_status, written, text_on, rejoined, overheard}
use Rattle.em_exec.specs.Copies.{apart, seen, looked_at, subshell, heard}
use Rattle.em_exec.specs.Words.{Deeper}
use Rattle.em_exec.specs.Running.{command_of, piped, stages, turned, pipeline_of, opposite}
use Rattle.em_shell_laws.specs.Ends.{Ends, Leaves, Comes, HasEnd}
use Rattle.em_shell_laws.specs.Pipes.{is_on, said_on, beside, Stage, written_by, reading, Runs, AreStages}
use Rattle.em_shell_laws.proofs.Going.{Outcome, then_on, left_out, nothing_more}

abbrev on : ℕ → List Piece → List Piece
on n ps = filter (is_on n) ps

pub text_said : (n : ℕ) (ps : List Piece) → text_on n ps ≡ said_on n ps
text_said n [] = refl
text_said n (p ∷ ps) = by_cases (p.stream == n) (λ b. cond b p.text [] ++ text_on n ps ≡ flat_map (λ (q : Piece). q.text) (cond b (p ∷ on n ps) (on n ps)))
    (λ _. ap (λ (t : List ℕ). p.text ++ t) (text_said n ps)) (λ _. text_said n ps)

-- ---- copies

module _ (m : Acts (Unit {0})) (h : Here) (o : Oracle) (w : Workspace) (copy : Here) (v : Workspace) where
  pub in_subshell : (ended : Result (Unit {0}) Jump) → HasEnd ended → Comes o m (branch h) w ended copy v → Ends o (subshell m) h w tt (with_status copy.shell.status (written copy.pieces h)) v
  unfolding subshell and_then ◌>>=◌ looked_at own
  in_subshell (Ok u) has e = ap (λ (z : Outcome (Unit {0})). let c = seen (apart h) z.0 in let y : Outcome (Unit {0}) = (rejoined c.0.1 c.0.0 c.1, z.1) in y) e
  in_subshell (Err Exit) has e = ap (λ (z : Outcome (Unit {0})). let c = seen (apart h) z.0 in let y : Outcome (Unit {0}) = (rejoined c.0.1 c.0.0 c.1, z.1) in y) e
  in_subshell (Err Break) has e = ap (λ (z : Outcome (Unit {0})). let c = seen (apart h) z.0 in let y : Outcome (Unit {0}) = (rejoined c.0.1 c.0.0 c.1, z.1) in y) e
  in_subshell (Err Continue) has e = ap (λ (z : Outcome (Unit {0})). let c = seen (apart h) z.0 in let y : Outcome (Unit {0}) = (rejoined c.0.1 c.0.0 c.1, z.1) in y) e
  in_subshell (Err (End x)) has e = absurd (has x refl)

  pub as_heard : (ended : Result (Unit {0}) Jump) → HasEnd ended → Comes o m (branch h) w ended copy v → Ends o (heard m) h w (text_on 1 copy.pieces) (written (beside 1 copy.pieces) h) v
  unfolding heard and_then ◌>>=◌ looked_at own
  as_heard (Ok u) has e = ap (λ (z : Outcome (Unit {0})). let c = seen (apart h) z.0 in let y : Outcome (List ℕ) = (overheard c.0.1 c.0.0 c.1, z.1) in y) e
  as_heard (Err Exit) has e = ap (λ (z : Outcome (Unit {0})). let c = seen (apart h) z.0 in let y : Outcome (List ℕ) = (overheard c.0.1 c.0.0 c.1, z.1) in y) e
  as_heard (Err Break) has e = ap (λ (z : Outcome (Unit {0})). let c = seen (apart h) z.0 in let y : Outcome (List ℕ) = (overheard c.0.1 c.0.0 c.1, z.1) in y) e
  as_heard (Err Continue) has e = ap (λ (z : Outcome (Unit {0})). let c = seen (apart h) z.0 in let y : Outcome (List ℕ) = (overheard c.0.1 c.0.0 c.1, z.1) in y) e
  as_heard (Err (End x)) has e = absurd (has x refl)

-- ---- stages

module _ (deeper : Deeper) (o : Oracle) (last : Stage) where
  abbrev commands : List Stage → List Command
  commands ss = map (λ s. s.command) ss

  abbrev others : List Stage → List Piece
  others ss = flat_map (λ s. beside 1 (written_by s)) ss

  abbrev comes_to : List Stage → Here → Here
  comes_to front h = with_status last.copy.shell.status (written (others front ++ written_by last) h)

  -- a stage with others behind it
  before : (s : Stage) (c : Command) (cs : List Command) (input : List ℕ) (h : Here) (w : Workspace) → Runs deeper o h.shell input w s
      → piped deeper input (s.command ∷ c ∷ cs) h o w ≡ piped deeper (said_on 1 (written_by s)) (c ∷ cs) (written (beside 1 (written_by s)) h) o s.after
  before s c cs input h w runs =
      then_on (heard (command_of deeper (reading input) s.command)) (λ text. piped deeper text (c ∷ cs)) o (text_on 1 s.copy.pieces)
      (as_heard (command_of deeper (reading input) s.command) h o w s.copy s.after s.ended runs.ends runs.comes)
      ∙ ap (λ (text : List ℕ). piped deeper text (c ∷ cs) (written (beside 1 (written_by s)) h) o s.after) (text_said 1 s.copy.pieces)

  one_more : (s : Stage) (front : List Stage) (input : List ℕ) (h : Here) (w : Workspace) → Runs deeper o h.shell input w s
      → piped deeper input (s.command ∷ commands (front ++ last ∷ [])) h o w ≡ piped deeper (said_on 1 (written_by s)) (commands (front ++ last ∷ [])) (written (beside 1 (written_by s)) h) o s.after
  one_more s [] input h w runs = before s last.command [] input h w runs
  one_more s (r ∷ front) input h w runs = before s r.command (commands (front ++ last ∷ [])) input h w runs

  further : (s : Stage) (front : List Stage) (h : Here) → comes_to front (written (beside 1 (written_by s)) h) ≡ comes_to (s ∷ front) h
  further s front h = ap (λ (ps : List Piece). with_status last.copy.shell.status (record h { pieces = ps }))
      (append_assoc h.pieces (beside 1 (written_by s)) (others front ++ written_by last)
      ∙ ap (λ (ps : List Piece). h.pieces ++ ps) (sym (append_assoc (beside 1 (written_by s)) (others front) (written_by last))))

  through : (front : List Stage) (input : List ℕ) (h : Here) (w : Workspace) → AreStages deeper o h.shell input w (front ++ last ∷ [])
      → Ends o (piped deeper input (commands (front ++ last ∷ []))) h w tt (comes_to front h) last.after
  through [] input h w are = in_subshell (command_of deeper (reading input) last.command) h o w last.copy last.after last.ended are.0.ends are.0.comes
  through (s ∷ front) input h w are =
      one_more s front input h w are.0 ∙ through front (said_on 1 (written_by s)) (written (beside 1 (written_by s)) h) s.after are.1
      ∙ ap (λ (t : Here). let y : Outcome (Unit {0}) = (Ok (tt, t), last.after) in y) (further s front h)

  -- two stages at least are piped
  staged : (scene : Scene) (first : Stage) (more : List Stage) (h : Here) (w : Workspace)
      → stages deeper scene (commands (first ∷ more ++ last ∷ [])) h o w ≡ piped deeper [] (commands (first ∷ more ++ last ∷ [])) h o w
  staged scene first [] h w = refl
  staged scene first (s ∷ more) h w = refl

-- ---- pipelines

module _ (deeper : Deeper) (scene : Scene) (o : Oracle) where
  abbrev by_bang : List Command → Bool → Here → Workspace → Outcome (Unit {0})
  by_bang cs bang h w = and_then (stages deeper scene cs) (λ u. turned bang) h o w

  spelled : (p : Pipeline) (bang : Bool) (cs : List Command) (h : Here) (w : Workspace) → (out-Pipeline p).not ≡ bang → (out-Pipeline p).stages.items ≡ cs → pipeline_of deeper scene p h o w ≡ by_bang cs bang h w
  unfolding pipeline_of
  spelled p bang cs h w is same =
      ap (λ (b : Bool). by_bang (out-Pipeline p).stages.items b h w) is ∙ ap (λ (ds : List Command). by_bang ds bang h w) same

  -- without `!` it is its stages
  plain : (p : Pipeline) (cs : List Command) (h : Here) (w : Workspace) → (out-Pipeline p).not ≡ false → (out-Pipeline p).stages.items ≡ cs → pipeline_of deeper scene p h o w ≡ stages deeper scene cs h o w
  plain p cs h w is same = spelled p false cs h w is same ∙ nothing_more (stages deeper scene cs) h o w

  pub alone : (p : Pipeline) (c : Command) (h : Here) (w : Workspace) → (out-Pipeline p).stages.items ≡ c ∷ [] → (out-Pipeline p).not ≡ false → pipeline_of deeper scene p h o w ≡ command_of deeper scene c h o w
  alone p c h w same is = plain p (c ∷ []) h w is same

  pub pipe : (p : Pipeline) (first : Stage) (more : List Stage) (last : Stage) (h : Here) (w : Workspace) → (out-Pipeline p).stages.items ≡ map (λ s. s.command) (first ∷ more ++ last ∷ []) → (out-Pipeline p).not ≡ false
      → AreStages deeper o h.shell [] w (first ∷ more ++ last ∷ [])
      → Ends o (pipeline_of deeper scene p) h w tt (with_status last.copy.shell.status (written (flat_map (λ s. beside 1 (written_by s)) (first ∷ more) ++ written_by last) h)) last.after
  pipe p first more last h w same is are =
      plain p (map (λ s. s.command) (first ∷ more ++ last ∷ [])) h w is same ∙ staged deeper o last scene first more h w ∙ through deeper o last (first ∷ more) [] h w are

  module _ (p q : Pipeline) (h t : Here) (w v : Workspace) (same : (out-Pipeline q).stages.items ≡ (out-Pipeline p).stages.items) (is_plain : (out-Pipeline p).not ≡ false) where
    of_stages : pipeline_of deeper scene p h o w ≡ stages deeper scene (out-Pipeline p).stages.items h o w
    of_stages = plain p (out-Pipeline p).stages.items h w is_plain refl

    pub left : (why : Jump) → Leaves o (pipeline_of deeper scene p) h w why t v → Leaves o (pipeline_of deeper scene q) h w why t v
    left why e = spelled q (out-Pipeline q).not (out-Pipeline p).stages.items h w refl same
        ∙ left_out (stages deeper scene (out-Pipeline p).stages.items) (λ u. turned (out-Pipeline q).not) o why (sym of_stages ∙ e)

    module _ (bang : (out-Pipeline q).not ≡ true) (e : Ends o (pipeline_of deeper scene p) h w tt t v) where
      turned_over : Ends o (pipeline_of deeper scene q) h w tt (with_status (opposite t.shell.status) t) v
      unfolding own
      turned_over = spelled q true (out-Pipeline p).stages.items h w bang same
          ∙ then_on (stages deeper scene (out-Pipeline p).stages.items) (λ u. turned true) o tt (sym of_stages ∙ e)

      abbrev as_status : ℕ → Outcome (Unit {0})
      as_status n = (Ok (tt, with_status n t), v)

      pub not_zero : t.shell.status ≡ 0 → Ends o (pipeline_of deeper scene q) h w tt (with_status 1 t) v
      not_zero zero = turned_over ∙ ap (λ (n : ℕ). as_status (opposite n)) zero

      pub not_other : t.shell.status ≢ 0 → Ends o (pipeline_of deeper scene q) h w tt (with_status 0 t) v
      not_other some = turned_over ∙ ap (λ (b : Bool). as_status (cond b 1 0)) (ne_eqb t.shell.status 0 some)
