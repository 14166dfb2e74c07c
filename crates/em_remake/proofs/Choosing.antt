-- Goals are chosen among names, and names are compared by their stamps.
use Rattle.std.proofs.Common.{◌≡◌, refl, ap, ℕ, Bool, true, false, not, ◌&&◌, ◌||◌, nat_eq, List, [], ◌∷◌, Option, Some, None, arith}
use Rattle.std.specs.Prelude.{All}
use Rattle.std.specs.Bool.{Decides}
use Rattle.std.specs.List.{filter}
use Rattle.std.specs.Option.{option_eq}
use Rattle.std.proofs.lemmas.Bool.Decides.{Decides-eqb, Decides-by_and}
use Rattle.std.proofs.lemmas.List.Elements.{All-weaker, filter_passes}
use Rattle.std.proofs.lemmas.Option.{same_Some}
use Rattle.em_tree.specs.Trees.{Table}
use Rattle.em_rules.specs.declared.book.Book.{Book}
use Rattle.em_rules.specs.declared.rule.Rule.{Rule}
use Rattle.em_rules.specs.Groups.{is_double, is_double_kind}
use Rattle.em_rules.specs.Rules.{has_target, is_phony}
use Rattle.em_remake.specs.Remaking.{has_way, is_bare, is_endless, is_goal, goals_among, stamp_at, changed}

-- ---- goals

not_bare : (r : Rule) (name : List ℕ) → has_target r name && is_double_kind r.kind ≡ false → is_bare r name ≡ false
not_bare r name e = grind (arith, e)

pub none_endless : (rules : List Rule) (name : List ℕ) → is_double rules name ≡ false → is_endless rules name ≡ false
none_endless [] name e = refl
none_endless (r ∷ rules) name e = grind (arith, e, not_bare r name, none_endless rules name)

not_phony : (phony way : Bool) → not phony && way ≡ true → phony ≡ false
not_phony true way e = absurd cc
not_phony false way e = refl

pub goals_not_phony : (book : Book) (tree : Table) (cwd : List ℕ) (names : List (List ℕ)) → All (λ n. is_phony book.rules n ≡ false) (goals_among book tree cwd names)
goals_not_phony book tree cwd names = All-weaker (λ n. is_goal book tree cwd n ≡ true) (λ n. is_phony book.rules n ≡ false)
    (λ n e. not_phony (is_phony book.rules n) (not (is_endless book.rules n) && has_way book tree cwd n) e) (goals_among book tree cwd names) (filter_passes (is_goal book tree cwd) names)

none_pass : {X : Type 0} (p : X → Bool) → ((x : X) → p x ≡ false) → (xs : List X) → filter p xs ≡ []
none_pass p none [] = refl
none_pass p none (x ∷ xs) = rw (none x) (none_pass p none xs)

pub no_goals : (book : Book) (tree : Table) (cwd : List ℕ) (names : List (List ℕ)) → book.rules ≡ [] → book.patterns ≡ [] → goals_among book tree cwd names ≡ []
no_goals book tree cwd names rules patterns = none_pass (is_goal book tree cwd) (λ n. rw (rules, patterns) refl) names

-- ---- stamps

same_stamps : (s t : Option ℕ) → Decides (option_eq nat_eq s t) (s ≡ t)
same_stamps None None = ((λ _. refl), (λ _. refl))
same_stamps None (Some b) = ((λ e. absurd cc), (λ e. absurd cc))
same_stamps (Some a) None = ((λ e. absurd cc), (λ e. absurd cc))
same_stamps (Some a) (Some b) = ((λ e. ap Some ((Decides-eqb a b).0 e)), (λ e. (Decides-eqb a b).1 (same_Some a b e)))

both_same : (same changed : Bool) → not (not same || changed) ≡ (same && not changed)
both_same true changed = refl
both_same false changed = refl

not_true : (b : Bool) → not b ≡ true → b ≡ false
not_true true e = absurd cc
not_true false e = refl

module _ (before after : Table) (cwd : List ℕ) where
  unchanged : (names : List (List ℕ)) → Decides (not (changed before after names cwd)) (All (λ n. stamp_at before cwd n ≡ stamp_at after cwd n) names)
  unchanged = Decides-by_and (λ n. option_eq nat_eq (stamp_at before cwd n) (stamp_at after cwd n)) (λ n. stamp_at before cwd n ≡ stamp_at after cwd n) (λ ns. not (changed before after ns cwd))
      (λ n. same_stamps (stamp_at before cwd n) (stamp_at after cwd n)) refl
      (λ n ns. both_same (option_eq nat_eq (stamp_at before cwd n) (stamp_at after cwd n)) (changed before after ns cwd))

  pub all_same : (names : List (List ℕ)) → changed before after names cwd ≡ false → All (λ n. stamp_at before cwd n ≡ stamp_at after cwd n) names
  all_same names e = (unchanged names).0 (ap not e)

  pub none_changed : (names : List (List ℕ)) → All (λ n. stamp_at before cwd n ≡ stamp_at after cwd n) names → changed before after names cwd ≡ false
  none_changed names h = not_true (changed before after names cwd) ((unchanged names).1 h)
