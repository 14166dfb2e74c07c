-- The line of a make within a make, as the code meets it.
--     entered                    into a directory, by the path that its name is
--     by_two, by_other           by how many words there are
--     unjoined, no_rest, ..      the form
--     by_form, has_words, lost_words     what the form says is done
use Rattle.std.proofs.Common.{◌≡◌, ◌≢◌, ◌≤◌, ◌<◌, ℕ, Bool, true, false, List, [], ◌∷◌, length, get_or, Option, Some, None, Result, Ok, Err, option_map, refl, sym, ap, subst, arith}
use Rattle.std.specs.Prelude.{IsErrAnd}
use Rattle.em_view.specs.declared.done.ExecNo.{ExecNo}
use Rattle.em_view.specs.Performs.{DeskState, Told}
use Rattle.em_view.specs.Steps.{Steps, Does}
use Rattle.em_view.specs.Ends.{is_want}
use Rattle.em_view.proofs.Doing.{then_s, leave_s, finish_s}
use Rattle.em_syntax.specs.declared.tree.Simple.{Simple}
use Rattle.em_syntax.specs.declared.tree.AndOr.{AndOr, out-AndOr}
use Rattle.em_syntax.specs.declared.tree.Joined.{Joined, out-Joined}
use Rattle.em_syntax.specs.declared.tree.Pipeline.{Pipeline}
use Rattle.em_command.specs.declared.jump.Jump.{Jump}
use Rattle.em_command.specs.declared.here.Here.{Here}
use Rattle.em_command.specs.declared.here.Scene.{Scene}
use Rattle.em_command.specs.Jumps.{is_free}
use Rattle.em_exec.specs.declared.sub.SubWords.{SubWords}
use Rattle.em_exec.specs.declared.sub.WordsHeard.{WordsHeard}
use Rattle.em_exec.specs.Words.{Deeper}
use Rattle.em_exec.specs.Exec.{Session}
use Rattle.em_exec.specs.Subs.{SubForm, Behind, path_of, enter_by, enter, inside, ordinary, by_fields, behind, form_by, form_in, words_of, words_if}

-- ---- the directory

module _ {V : Type 0} {tells : V → Told} {old new : DeskState V} {h u : Here} {r : Result Bool Jump} (name : List ℕ) where
  pub entered : (o : Option (List ℕ)) → path_of h.shell.cwd name ≡ o → Does is_free tells old new h u r (enter_by o) → Does is_free tells old new h u r (enter name)
  unfolding enter
  entered o e p = let q = subst (λ (x : Option (List ℕ)). Does is_free tells old new h u r (enter_by x)) (sym e) p in record { performs = q.performs }

-- ---- how many fields there are

module _ {V : Type 0} {tells : V → Told} {old new : DeskState V} {h u : Here} {r : Result WordsHeard Jump} (deeper : Deeper) (scene : Scene) (cd : Simple) (j : Joined) (make : Simple) where
  pub by_two : (ws : List (List ℕ)) (name : List ℕ) → length ws ≡ 2 → name ≡ get_or ws 1 name → Does is_free tells old new h u r (inside deeper scene name make) → Does is_free tells old new h u r (by_fields deeper scene cd j make ws)
  by_two [] name two is p = absurd (omega (arith, two))
  by_two (a ∷ []) name two is p = absurd (omega (arith, two))
  by_two (a ∷ b ∷ []) name two is p = subst (λ (x : List ℕ). Does is_free tells old new h u r (inside deeper scene x make)) is p
  by_two (a ∷ b ∷ c ∷ ws) name two is p = absurd (omega (arith, two))

  pub by_other : (ws : List (List ℕ)) → length ws ≢ 2 → Does is_free tells old new h u r (ordinary deeper scene cd ws j) → Does is_free tells old new h u r (by_fields deeper scene cd j make ws)
  by_other [] isnt p = p
  by_other (a ∷ []) isnt p = p
  by_other (a ∷ b ∷ []) isnt p = absurd (isnt (let two : length (a ∷ b ∷ []) ≡ 2 = omega arith in two))
  by_other (a ∷ b ∷ c ∷ ws) isnt p = p

-- ---- the form

pub unjoined : (j : Joined) (cd : Simple) (make : Option Simple) → (out-Joined j).and ≡ false → behind j (Some cd) make ≡ None
unjoined j cd None e = refl
unjoined j cd (Some make) e = rw e refl

pub is_joined : (j : Joined) (cd : Simple) (make : Option Simple) (m : Simple) → (out-Joined j).and ≡ true → make ≡ Some m → behind j (Some cd) make ≡ Some (Behind cd j m)
is_joined j cd make m e is = rw (is, e) refl

pub is_alone : (j : Joined) (cd : Simple) (make : Option Simple) → make ≡ None → behind j (Some cd) make ≡ None
is_alone j cd make is = rw is refl

pub no_cd : (j : Joined) (cd make : Option Simple) → cd ≡ None → behind j cd make ≡ None
no_cd j cd make is = rw is refl

pub no_rest : (p : Pipeline) (js : List Joined) → length js < 1 → form_by p js ≡ form_by p []
no_rest p [] lt = refl
no_rest p (j ∷ js) lt = absurd (omega arith)

pub one_rest : (p : Pipeline) (js : List Joined) (j : Joined) → 1 ≤ length js → length js < 2 → j ≡ get_or js 0 j → form_by p js ≡ form_by p (j ∷ [])
one_rest p [] j ge lt is = absurd (omega arith)
one_rest p (k ∷ []) j ge lt is = ap (λ (x : Joined). form_by p (x ∷ [])) (sym is)
one_rest p (k ∷ l ∷ js) j ge lt is = absurd (omega arith)

pub more_rest : (p : Pipeline) (js : List Joined) → 2 ≤ length js → form_by p js ≡ None
more_rest p [] ge = absurd (omega arith)
more_rest p (k ∷ []) ge = absurd (omega arith)
more_rest p (k ∷ l ∷ js) ge = refl

pub one_list : (xs : List AndOr) (x : AndOr) → 1 ≤ length xs → length xs < 2 → x ≡ get_or xs 0 x → form_in xs ≡ form_by (out-AndOr x).first (out-AndOr x).rest.items
one_list [] x ge lt is = absurd (omega arith)
one_list (y ∷ []) x ge lt is = ap (λ (z : AndOr). form_by (out-AndOr z).first (out-AndOr z).rest.items) (sym is)
one_list (y ∷ z ∷ xs) x ge lt is = absurd (omega arith)

pub no_list : (xs : List AndOr) → length xs < 1 → form_in xs ≡ None
no_list [] lt = refl
no_list (y ∷ xs) lt = absurd (omega arith)

pub more_list : (xs : List AndOr) → 2 ≤ length xs → form_in xs ≡ None
more_list [] ge = absurd (omega arith)
more_list (y ∷ []) ge = absurd (omega arith)
more_list (y ∷ z ∷ xs) ge = refl

-- ---- words, or none

module _ {V : Type 0} {tells : V → Told} {old new : DeskState V} {s u : Session} where
  -- by another name of the form
  pub by_form : (o p : Option SubForm) → o ≡ p → {r : Result (Option SubWords) ExecNo} → Does is_want tells old new s u r (words_if (option_map words_of p)) → Does is_want tells old new s u r (words_if (option_map words_of o))
  by_form o p e {r} q = subst (λ (x : Option SubForm). Does is_want tells old new s u r (words_if (option_map words_of x))) (sym e) q

  pub has_words : (f : SubForm) {x : SubWords} → Does is_want tells old new s u (Ok x) (words_of f) → Does is_want tells old new s u (Ok (Some x)) (words_if (option_map words_of (Some f)))
  has_words f p = then_s _ p finish_s

  pub lost_words : (f : SubForm) {e : ExecNo} {r : Result (Option SubWords) ExecNo} → IsErrAnd r (λ x. x ≡ e) → Does is_want tells old new s u (Err e) (words_of f) → Does is_want tells old new s u r (words_if (option_map words_of (Some f)))
  lost_words f is p = leave_s _ is p
