-- Over a desk whose oracle tells of no link and whose own changes have none, nothing is followed, and all but the questions stays.
use Rattle.std.proofs.Common.{◌≡◌, ℕ, zero, suc, Bool, true, false, List, length, Option, Some, None, Result, Ok, refl, sym, ap, subst, ◌∙◌}
use Rattle.std.specs.FinMap.{get}
use Rattle.em_tree.specs.declared.node.Node.{Node}
use Rattle.em_tree.specs.declared.way.Met.{Met}
use Rattle.em_tree.specs.declared.way.Way.TheVariants.{To}
use Rattle.em_view.specs.declared.no.DeskNo.{DeskNo}
use Rattle.em_path.specs.Paths.{parent_text}
use Rattle.em_tree.specs.Trees.{Changes}
use Rattle.em_view.specs.Actions.{Workspace, Oracle, Action, go_on, ◌>>=◌, done, mine, ask}
use Rattle.em_tree.specs.Resolving.{most, levels, met_by, onward}
use Rattle.em_view.specs.Walking.{link_by, link_below, passed_by, passed_under, passed, pass_above, pass, lead_by, lead_on, too_many, resolve_from, resolve}
use Rattle.em_view.specs.Bare.{TellsNone, AreBare, IsStill, Stays}

module _ (o : Oracle) (none : TellsNone o) where
  stays_then : {A B : Type 0} (m : Action DeskNo A) (k : A → Action DeskNo B) (a : A) (b : B) → Stays o m a → Stays o (k a) b → Stays o (m >>= k) b
  unfolding ◌>>=◌
  stays_then {A} {B} m k a b f g w bare =
      let x = f w bare in
      let y = g (m o w).1 (subst (λ (d : Changes). AreBare d) (sym (ap (λ (v : Workspace). v.changes) x.1)) bare) in
      let step : go_on (m o w).0 (m o w).1 k o ≡ k a o (m o w).1 = ap (λ (r : Result A DeskNo). go_on r (m o w).1 k o) x.0 in (
        ap (λ (z : Result B DeskNo × Workspace). z.0) step ∙ y.0,
        subst (λ (z : Result B DeskNo × Workspace). IsStill w z.1) (sym step) (y.1 ∙ ap (λ (v : Workspace). record v { asked = (k a o (m o w).1).1.asked }) x.1),
      )

  stays_done : {A : Type 0} (a : A) → Stays o (done a) a
  unfolding done
  stays_done a w bare = (refl, refl)

  stays_own : (p : List ℕ) (w : Workspace) → AreBare w.changes → (m : Option (Option Node)) → get w.changes p ≡ m → ((link_by m p o w).0 ≡ Ok None) × IsStill w (link_by m p o w).1
  unfolding done ask ◌>>=◌
  stays_own p w bare (Some n) e = (ap (λ (x : Option (List ℕ)). let r : Result (Option (List ℕ)) DeskNo = Ok x in r) (bare p n e), refl)
  stays_own p w bare None e = (rw (none (length w.asked) p) refl, refl)

  stays_link : (p : List ℕ) → Stays o (link_below p) None
  unfolding link_below mine ◌>>=◌
  stays_link p w bare = stays_own p w bare (get w.changes p) refl

  stays_under : (above : List ℕ → Action DeskNo (Option Met)) → ((q : List ℕ) → Stays o (above q) None) → (p : List ℕ) (d : Option (List ℕ)) → Stays o (passed_under above p d) None
  stays_under above h p None = stays_done None
  stays_under above h p (Some dir) = stays_then (above dir) (passed_by dir p) None None (h dir) (stays_then (link_below p) (λ t. done (met_by dir p t)) None None (stays_link p) (stays_done None))

  stays_passed : (left : ℕ) (p : List ℕ) → Stays o (passed left p) None
  stays_passed zero p = stays_done None
  stays_passed (suc left) p = stays_under (passed left) (stays_passed left) p (parent_text p)

  stays_above : (d : Option (List ℕ)) → Stays o (pass_above d) None
  stays_above None = stays_done None
  stays_above (Some dir) = stays_passed levels dir

  stays_pass : (last : Bool) (p : List ℕ) → Stays o (pass last p) None
  stays_pass true p = stays_passed levels p
  stays_pass false p = stays_above (parent_text p)

  stays_from : (last : Bool) (left n : ℕ) (p : List ℕ) → Stays o (resolve_from last left n p) (record { way = To p; followed = n })
  stays_from last zero n p = stays_then (pass last p) (lead_by (too_many n) n p) None (record { way = To p; followed = n }) (stays_pass last p) (stays_done (record { way = To p; followed = n }))
  stays_from last (suc left) n p = stays_then (pass last p) (lead_by (λ m. lead_on (resolve_from last left (suc n)) n (onward p m)) n p) None (record { way = To p; followed = n }) (stays_pass last p) (stays_done (record { way = To p; followed = n }))

  pub bare : (last : Bool) (p : List ℕ) → Stays o (resolve last p) (record { way = To p; followed = 0 })
  unfolding resolve
  bare last p = stays_from last most 0 p
