-- What a name is in two layers of variables.
use Rattle.std.proofs.Common.{◌≡◌, ◌≢◌, ◌∙◌, refl, sym, ap, subst, cond, ℕ, List, [], ◌∷◌, Option, Some, None, option_map}
use Rattle.std.proofs.lemmas.Bool.{false≢true}
use Rattle.std.specs.List.{find}
use Rattle.std.specs.Str.{bytes_eq}
use Rattle.std.specs.Cmp.Lexicographic.{bytes_decides}
use Rattle.em_base.proofs.Lemmas.{by_cases}
use Rattle.em_vars.specs.declared.var.Var.{Var}
use Rattle.em_vars.specs.Entries.{Entries, value_of, with_value}
use Rattle.em_vars.proofs.Named.{set_own, set_other}
use Rattle.em_expand.specs.Layered.{automatic, with_own, own_text}

abbrev Pairs : Type 0
Pairs = List (List ℕ × List ℕ)

abbrev pub over : Option (List ℕ) → Option Var → Option Var
over (Some t) v = Some (automatic t)
over None v = v

pub value_in : (vars : Entries) (own : Pairs) (n : List ℕ) → value_of (with_own vars own) n ≡ over (own_text own n) (value_of vars n)
value_in vars [] n = refl
value_in vars (p ∷ own) n = by_cases (bytes_eq n p.0)
    (λ b. value_of (with_value (with_own vars own) p.0 (automatic p.1)) n ≡ over (option_map (λ q. q.1) (cond b (Some p) (find (λ q. bytes_eq n q.0) own))) (value_of vars n))
    (λ is. let same : n ≡ p.0 = (bytes_decides n p.0).0 is in subst (λ m. value_of (with_value (with_own vars own) m (automatic p.1)) n ≡ Some (automatic p.1)) same (set_own (with_own vars own) n (automatic p.1)))
    (λ is. let other : p.0 ≢ n = λ e. false≢true (sym is ∙ (bytes_decides n p.0).1 (sym e)) in set_other (with_own vars own) p.0 n (automatic p.1) other ∙ value_in vars own n)

pub own_value : (vars : Entries) (own : Pairs) (n t : List ℕ) → own_text own n ≡ Some t → value_of (with_own vars own) n ≡ Some (automatic t)
own_value vars own n t e = value_in vars own n ∙ ap (λ o. over o (value_of vars n)) e

pub shared_value : (vars : Entries) (own : Pairs) (n : List ℕ) → own_text own n ≡ None → value_of (with_own vars own) n ≡ value_of vars n
shared_value vars own n e = value_in vars own n ∙ ap (λ o. over o (value_of vars n)) e
