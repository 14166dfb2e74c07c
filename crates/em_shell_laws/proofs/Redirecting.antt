-- Redirections, from left to right.
use Rattle.std.proofs.Common.{◌≡◌, ◌≢◌, ℕ, Bool, true, false, not, cond, List, [], ◌∷◌, ◌++◌, map, codes, Some, None, Result, Ok, Err, refl, sym, ap, ◌∙◌}
use Rattle.std.specs.Prelude.{◌==◌, Option}
use Rattle.std.specs.List.{filter}
use Rattle.std.specs.Str.{bytes_eq}
use Rattle.std.proofs.lemmas.Slice.Eq.{bytes_eq-Decides}
use Rattle.em_base.proofs.Lemmas.{by_cases}
use Rattle.em_tree.specs.declared.node.Kind.TheVariants as kind
use Rattle.em_view.specs.declared.done.Piece.{Piece}
use Rattle.em_view.specs.Actions as action
use Rattle.em_view.specs.Actions.{Oracle, Workspace, lift}
use Rattle.em_view.specs.Rows.{kind_at, put}
use Rattle.em_view.specs.Steps.{and_then, done}
use Rattle.em_utility.specs.Operands.{located, named}
use Rattle.em_syntax.specs.declared.tree.Redirect.{Redirect, out-Redirect}
use Rattle.em_syntax.specs.declared.tree.RedirectKind.{RedirectKind}
use Rattle.em_syntax.specs.declared.tree.RedirectKind.TheVariants.{Write, Append, Duplicate}
use Rattle.em_word.specs.Literal.{literal_of}
use Rattle.em_command.specs.declared.here.Here.{Here}
use Rattle.em_command.specs.declared.here.Scene.{Scene}
use Rattle.em_command.specs.declared.streams.OpenedFile.{OpenedFile}
use Rattle.em_command.specs.declared.streams.Streams.{Streams}
use Rattle.em_command.specs.Jumps.{looked}
use Rattle.em_command.specs.Heres.{piece}
use Rattle.em_command.specs.Streams.{around, emptied, added, source_of, opened, redirected}
use Rattle.em_command.specs.Delivering as delivering
use Rattle.em_command.specs.Delivering.{through, handed, text_for, texts_for}
use Rattle.em_exec.specs.Words.{Deeper, whole}
use Rattle.em_exec.specs.Running.{redirect_one, redirects, if_open}
use Rattle.em_shell_laws.specs.Ends.{Ends}
use Rattle.em_shell_laws.specs.Pipes.{is_on, said, said_on, beside}
use Rattle.em_shell_laws.specs.Redirections.{Is, Says, Empties, Finds, IsTwoToOne, into, both_into, apart_into, HasNoLinks, Holds}
use Rattle.em_shell_laws.proofs.Going.{Outcome, then_on}
use Rattle.em_shell_laws.proofs.Writing.{put_holds, looking_keeps}
use Rattle.em_shell_laws.proofs.Wording.{literal_whole}

not_null : (p : List ℕ) → p ≢ codes "/dev/null" → bytes_eq p (codes "/dev/null") ≡ false
not_null p other = by_cases (bytes_eq p (codes "/dev/null")) (λ b. bytes_eq p (codes "/dev/null") ≡ b → b ≡ false) (λ _ is. absurd (other ((bytes_eq-Decides p (codes "/dev/null")).0 is))) (λ _ _. refl) refl

abbrev Opens : Type 0
Opens = Outcome (Option Streams)

module _ (deeper : Deeper) (scene : Scene) (o : Oracle) where
  -- once the word is known
  by_word : (r : Redirect) (fd : ℕ) (k : RedirectKind) (s : Streams) (word : List ℕ) (h t : Here) (w u : Workspace) → Is fd k r → Ends o (whole deeper scene (out-Redirect r).target) h w word t u
      → redirect_one deeper scene r s h o w ≡ redirected fd k word s t o u
  unfolding redirect_one
  by_word r fd k s word h t w u is e =
      then_on (whole deeper scene (out-Redirect r).target) (λ x. redirected (out-Redirect r).fd (out-Redirect r).kind x s) o word e
      ∙ ap (λ (n : ℕ). redirected n (out-Redirect r).kind word s t o u) is.0 ∙ ap (λ (x : RedirectKind). redirected fd x word s t o u) is.1

  by_write : (s : Streams) (f : OpenedFile) (t : Here) (u v : Workspace) → located t.shell.cwd f.word ≡ Ok f.path → f.path ≢ codes "/dev/null" → put f.path [] o u ≡ (Ok tt, v) → Ends o (redirected 1 Write f.word s) t u (Some (into s f)) t v
  unfolding redirected looked opened source_of emptied named lift action.◌>>=◌ action.done
  by_write s f t u v path plain puts = rw (path, not_null f.path plain, puts) refl

  by_append : (s : Streams) (f : OpenedFile) (t : Here) (u v : Workspace) → located t.shell.cwd f.word ≡ Ok f.path → f.path ≢ codes "/dev/null" → kind_at f.path o u ≡ (Ok kind.File, v) → Ends o (redirected 1 Append f.word s) t u (Some (into s f)) t v
  unfolding redirected looked opened source_of added named lift action.◌>>=◌ action.done
  by_append s f t u v path plain finds = rw (path, not_null f.path plain, finds) refl

  by_double : (s : Streams) (h : Here) (w : Workspace) → Ends o (redirected 2 Duplicate (codes "1") s) h w (Some (record s { errors = s.output })) h w
  unfolding redirected looked action.done
  by_double s h w = refl

  pub writes : (r : Redirect) (s : Streams) (f : OpenedFile) (h t : Here) (w v : Workspace) → Empties deeper scene o r h w f t v → Ends o (redirect_one deeper scene r s) h w (Some (into s f)) t v
  writes r s f h t w v is = by_word r 1 Write s f.word h t w is.between is.says.is is.says.word ∙ by_write s f t is.between v is.says.path is.says.plain is.puts

  pub appends : (r : Redirect) (s : Streams) (f : OpenedFile) (h t : Here) (w v : Workspace) → Finds deeper scene o r h w f t v → Ends o (redirect_one deeper scene r s) h w (Some (into s f)) t v
  appends r s f h t w v is = by_word r 1 Append s f.word h t w is.between is.says.is is.says.word ∙ by_append s f t is.between v is.says.path is.says.plain is.finds

  doubles : (q : Redirect) (s : Streams) (h : Here) (w : Workspace) → IsTwoToOne deeper scene o q → Ends o (redirect_one deeper scene q s) h w (Some (record s { errors = s.output })) h w
  doubles q s h w is = by_word q 2 Duplicate s (codes "1") h h w w is.is (is.word h w) ∙ by_double s h w

  pub two_to_one : (q : Redirect) → Is 2 Duplicate q → literal_of (out-Redirect q).target ≡ Some (codes "1") → IsTwoToOne deeper scene o q
  two_to_one q is e = record { is = is; word = λ h w. literal_whole deeper scene o h w (out-Redirect q).target (codes "1") e }

  -- two redirections
  two : (r q : Redirect) (s x y : Streams) (h t k : Here) (w v u : Workspace) → Ends o (redirect_one deeper scene r s) h w (Some x) t v → Ends o (redirect_one deeper scene q x) t v (Some y) k u
      → Ends o (redirects deeper scene (r ∷ q ∷ []) s) h w (Some y) k u
  unfolding done
  two r q s x y h t k w v u first second =
      then_on (redirect_one deeper scene r s) (λ next. if_open next (redirects deeper scene (q ∷ []))) o (Some x) first
      ∙ then_on (redirect_one deeper scene q x) (λ next. if_open next (redirects deeper scene [])) o (Some y) second

  pub alone : (r : Redirect) (s x : Streams) (h t : Here) (w v : Workspace) → Ends o (redirect_one deeper scene r s) h w (Some x) t v → Ends o (redirects deeper scene (r ∷ []) s) h w (Some x) t v
  unfolding done
  alone r s x h t w v first = then_on (redirect_one deeper scene r s) (λ next. if_open next (redirects deeper scene [])) o (Some x) first

  module _ (r q : Redirect) (s : Streams) (f : OpenedFile) (h t : Here) (w v : Workspace) (empties : Empties deeper scene o r h w f t v) (doubled : IsTwoToOne deeper scene o q) where
    pub both : Ends o (redirects deeper scene (r ∷ q ∷ []) s) h w (Some (both_into s f)) t v
    both = two r q s (into s f) (both_into s f) h t t w v v (writes r s f h t w v empties) (doubles q (into s f) t v doubled)

    pub apart : Ends o (redirects deeper scene (q ∷ r ∷ []) s) h w (Some (apart_into s f)) t v
    apart = two q r s (record s { errors = s.output }) (apart_into s f) h h t w w v (doubles q s h w doubled) (writes r (record s { errors = s.output }) f h t w v empties)

  pub write : (r : Redirect) (s : Streams) (f : OpenedFile) (h t : Here) (w v : Workspace) (empties : Empties deeper scene o r h w f t v) → Ends o (redirect_one deeper scene r s) h w (Some (into s f)) t v × (HasNoLinks o empties.between → Holds v f.path [])
  write r s f h t w v is = (writes r s f h t w v is, λ none. put_holds f.path [] o is.between v none is.puts)

  pub append : (r : Redirect) (s : Streams) (f : OpenedFile) (h t : Here) (w v : Workspace) (found : Finds deeper scene o r h w f t v) → Ends o (redirect_one deeper scene r s) h w (Some (into s f)) t v × (v.changes ≡ found.between.changes)
  append r s f h t w v is = (appends r s f h t w v is, looking_keeps f.path o is.between v _ is.finds)

-- ---- where what is written goes

module _ (f : OpenedFile) where
  abbrev to_output : Piece → Piece
  to_output p = piece 1 p.text

  abbrev to_errors : Piece → Piece
  to_errors p = piece 2 p.text

  abbrev others : List Piece → List Piece
  others ps = beside 1 ps

  abbrev own : List Piece → List Piece
  own ps = filter (is_on 1) ps

  both_handed : (ps : List Piece) → handed (both_into around f) ps ≡ []
  both_handed [] = refl
  both_handed (p ∷ ps) = by_cases (p.stream == 1) (λ b. (let z = both_into around f in through (cond b z.output z.errors) p.text ++ handed z ps) ≡ []) (λ _. both_handed ps) (λ _. both_handed ps)

  both_texts : (ps : List Piece) → text_for (both_into around f) 0 ps ≡ said ps
  both_texts [] = refl
  both_texts (p ∷ ps) = by_cases (p.stream == 1) (λ b. (let z = both_into around f in delivering.into 0 (cond b z.output z.errors) p.text ++ text_for z 0 ps) ≡ p.text ++ said ps)
      (λ _. ap (λ (t : List ℕ). p.text ++ t) (both_texts ps)) (λ _. ap (λ (t : List ℕ). p.text ++ t) (both_texts ps))

  pub both_written : (ps : List Piece) → (handed (both_into around f) ps ≡ []) × (texts_for (both_into around f) ps ≡ said ps ∷ [])
  both_written ps = (both_handed ps, ap (λ (t : List ℕ). t ∷ []) (both_texts ps))

  apart_handed : (ps : List Piece) → handed (apart_into around f) ps ≡ map to_output (others ps)
  apart_handed [] = refl
  apart_handed (p ∷ ps) = by_cases (p.stream == 1) (λ b. (let z = apart_into around f in through (cond b z.output z.errors) p.text ++ handed z ps) ≡ map to_output (cond (not b) (p ∷ others ps) (others ps)))
      (λ _. apart_handed ps) (λ _. ap (λ (qs : List Piece). to_output p ∷ qs) (apart_handed ps))

  apart_texts : (ps : List Piece) → text_for (apart_into around f) 0 ps ≡ said_on 1 ps
  apart_texts [] = refl
  apart_texts (p ∷ ps) = by_cases (p.stream == 1) (λ b. (let z = apart_into around f in delivering.into 0 (cond b z.output z.errors) p.text ++ text_for z 0 ps) ≡ said (cond b (p ∷ own ps) (own ps)))
      (λ _. ap (λ (t : List ℕ). p.text ++ t) (apart_texts ps)) (λ _. apart_texts ps)

  pub apart_written : (ps : List Piece) → (handed (apart_into around f) ps ≡ map (λ p. piece 1 p.text) (beside 1 ps)) × (texts_for (apart_into around f) ps ≡ said_on 1 ps ∷ [])
  apart_written ps = (apart_handed ps, ap (λ (t : List ℕ). t ∷ []) (apart_texts ps))

  pub into_handed : (ps : List Piece) → handed (into around f) ps ≡ map (λ p. piece 2 p.text) (beside 1 ps)
  into_handed [] = refl
  into_handed (p ∷ ps) = by_cases (p.stream == 1) (λ b. (let z = into around f in through (cond b z.output z.errors) p.text ++ handed z ps) ≡ map to_errors (cond (not b) (p ∷ others ps) (others ps)))
      (λ _. into_handed ps) (λ _. ap (λ (qs : List Piece). to_errors p ∷ qs) (into_handed ps))

  pub into_texts : (ps : List Piece) → text_for (into around f) 0 ps ≡ said_on 1 ps
  into_texts [] = refl
  into_texts (p ∷ ps) = by_cases (p.stream == 1) (λ b. (let z = into around f in delivering.into 0 (cond b z.output z.errors) p.text ++ text_for z 0 ps) ≡ said (cond b (p ∷ own ps) (own ps)))
      (λ _. ap (λ (t : List ℕ). p.text ++ t) (into_texts ps)) (λ _. into_texts ps)
