-- What a reference to an undefined variable comes to.
use Rattle.std.proofs.Common.{◌≡◌, ◌≢◌, ◌≤◌, ◌-◌, ℕ, suc, false, eqb, List, [], ◌∷◌, None, Result, Ok, refl, sym, ap, ◌∙◌, arith}
use Rattle.std.proofs.lemmas.Bool.{ne_eqb, le-ltb}
use Rattle.em_base.proofs.Lemmas.{by_cases}
use Rattle.em_base.specs.declared.place.Place.{Place}
use Rattle.em_refs.specs.declared.part.Part.TheVariants.{Ref}
use Rattle.em_refs.specs.declared.part.Parted.{Parted}
use Rattle.em_refs.specs.Parts.{bracket_of, parted, span}
use Rattle.em_vars.specs.Entries.{Entries, value_of}
use Rattle.em_view.specs.Actions.{Oracle, Workspace, ◌>>=◌, go_on, spend}
use Rattle.em_view.specs.Steps.{and_then, done, below}
use Rattle.em_expand.specs.declared.no.ExpandNo.{ExpandNo}
use Rattle.em_expand.specs.declared.spoken.Spoken.{Spoken}
use Rattle.em_expand.specs.Calls.{substitution_of}
use Rattle.em_expand.specs.Desks.{Says, pay}
use Rattle.em_expand.specs.Doubled.{doubled}
use Rattle.em_expand.specs.Values.{meaning_by}
use Rattle.em_expand.specs.Expansion.{Setting, Deeper, Refers, expansion, reference, evaluate, named, variable, put_name, put_text, put_parts, put_variable, levels}
use Rattle.em_expand.proofs.Dollars.{next_done, put_doubled}

-- ---- steps that are run

abbrev Ended : Type 0 → Type 0
Ended A = Result (A × Spoken) (ExpandNo × Spoken) × Workspace

run_then : {A B : Type 0} (m : Says A) (k : A → Says B) (a : A) (s t : Spoken) (o : Oracle) (w v : Workspace) → m s o w ≡ (Ok (a, t), v) → and_then m k s o w ≡ k a t o v
unfolding and_then ◌>>=◌
run_then {A} m k a s t o w v e = ap (λ (z : Ended A). go_on z.0 z.1 (λ p. k p.0 p.1) o) e

run_done : {A : Type 0} (a : A) (s : Spoken) (o : Oracle) (w : Workspace) → (let m : Says A = done a in m s o w) ≡ (Ok (a, s), w)
unfolding done
run_done a s o w = refl

run_pay : (n : ℕ) (s : Spoken) (o : Oracle) (w : Workspace) → n ≤ w.fuel → pay n s o w ≡ (Ok (tt, s), record w { fuel = w.fuel - n })
unfolding pay below spend
run_pay n s o w le = rw (le-ltb w.fuel n le) refl

-- ---- a name of one byte

-- one byte is no substitution
no_parts : (b : ℕ) → substitution_of (b ∷ []) ≡ None
no_parts b = by_cases (eqb b 58) (λ c. eqb b 58 ≡ c → substitution_of (b ∷ []) ≡ None) (λ e _. rw e refl) (λ e _. rw e refl) refl

module _ (b : ℕ) (other : b ≢ 36) where
  -- and it is its own expansion
  one_byte : (refer : Refers) → put_text refer (b ∷ []) [] ≡ done (b ∷ [])
  one_byte refer =
      let plain : eqb b 36 ≡ false = ne_eqb b 36 other in
      let same : doubled (b ∷ []) ≡ b ∷ [] = rw plain refl in
      rw same at (put_doubled (b ∷ []) refer (b ∷ []) 0 0 [] (omega arith) (sym same))

  one_part : bracket_of b ≡ None → parted (36 ∷ b ∷ []) ≡ record { parts = Ref (span 1 2) ∷ []; unclosed = None }
  one_part kind = let plain : eqb b 36 ≡ false = ne_eqb b 36 other in rw (kind, plain) refl

  module _ (left : ℕ) (set : Setting) (none : value_of set.vars (b ∷ []) ≡ None) where
    is_empty : evaluate (λ fs text so_far. put_text (reference left set fs) text so_far) set [] None (b ∷ []) [] ≡ done []
    unfolding evaluate named variable
    is_empty =
        let deeper : Deeper = λ fs text so_far. put_text (reference left set fs) text so_far in
        ap (λ m. and_then m (λ name. put_name deeper set [] (substitution_of name) name [])) (one_byte (reference left set []))
        ∙ next_done (b ∷ []) (λ name. put_name deeper set [] (substitution_of name) name [])
        ∙ ap (λ p. put_name deeper set [] p (b ∷ []) []) (no_parts b)
        ∙ ap (λ v. put_variable deeper [] (b ∷ []) (meaning_by None v) []) none

    costs_one : (s : Spoken) (o : Oracle) (w : Workspace) → 1 ≤ w.fuel → reference (suc left) set [] None (b ∷ []) [] s o w ≡ (Ok ([], s), record w { fuel = w.fuel - 1 })
    unfolding reference
    costs_one s o w some =
        let v : Workspace = record w { fuel = w.fuel - 1 } in
        let all : v.fuel - 0 ≡ v.fuel = omega arith in
        run_then (pay 1) _ tt s s o w v (run_pay 1 s o w some)
        ∙ run_then _ _ [] s s o v v (ap (λ (m : Says (List ℕ)). m s o v) is_empty ∙ run_done [] s o v)
        ∙ run_then (pay 0) _ tt s s o v (record v { fuel = v.fuel - 0 }) (run_pay 0 s o v (omega arith))
        ∙ rw all (run_done [] s o v)

pub undefined_law : (vars : Entries) (cwd : List ℕ) (place : Place) (b : ℕ) (s : Spoken) (o : Oracle) (w : Workspace)
    → b ≢ 36 → bracket_of b ≡ None → value_of vars (b ∷ []) ≡ None → 1 ≤ w.fuel
    → expansion vars cwd place (36 ∷ b ∷ []) s o w ≡ (Ok ([], s), record w { fuel = w.fuel - 1 })
unfolding expansion
undefined_law vars cwd place b s o w other kind none some =
    let set : Setting = record { vars = vars; cwd = cwd; place = place } in
    let v : Workspace = record w { fuel = w.fuel - 1 } in
    ap (λ (p : Parted). let m : Says (List ℕ) = put_parts (reference levels set []) (36 ∷ b ∷ []) p.unclosed p.parts [] in m s o w) (one_part b other kind)
    ∙ run_then (reference levels set [] None (b ∷ []) []) _ [] s s o w v (costs_one b other 199 set none s o w some)
    ∙ run_done [] s o v
