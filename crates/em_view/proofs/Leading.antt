-- The walk over a desk finds what the links under own changes say.
use Rattle.std.proofs.Common.{◌≡◌, ℕ, zero, suc, Bool, true, false, List, length, Option, Some, None, Result, Ok, refl, sym, ap, subst, ◌∙◌}
use Rattle.std.specs.Option.{option_or}
use Rattle.std.specs.FinMap.{get}
use Rattle.em_tree.specs.declared.node.Node.{Node}
use Rattle.em_tree.specs.declared.way.Met.{Met}
use Rattle.em_tree.specs.declared.way.Way.TheVariants.{To, TooMany, Bad}
use Rattle.em_tree.specs.declared.way.Led.{Led}
use Rattle.em_view.specs.declared.no.DeskNo.{DeskNo}
use Rattle.em_path.specs.Paths.{parent_text}
use Rattle.em_tree.specs.declared.state.State.{State}
use Rattle.em_tree.specs.Trees.{Changes, link_of, laid_over}
use Rattle.em_tree.proofs.Laying.{over}
use Rattle.em_tree.proofs.Lawful.{get-laid_over}
use Rattle.em_view.specs.Actions.{Workspace, Oracle, snapshot, Action, go_on, ◌>>=◌, done, mine, ask}
use Rattle.em_tree.specs.Resolving.{Links, most, levels, met_by, first_under, first_link, above_only, on_way, onward, led_by, led_on, led_from, led, links_in}
use Rattle.em_view.specs.Walking.{link_by, link_below, passed_by, passed_under, passed, pass_above, pass, lead_by, lead_on, too_many, resolve_from, resolve}
use Rattle.em_view.specs.Bare.{TellsLinks, under_by, under, IsStill, Finds}

module _ (o : Oracle) (ls : Links) (d : Changes) (tells : TellsLinks o ls) where
  finds_then : {A B : Type 0} (m : Action DeskNo A) (k : A → Action DeskNo B) (a : A) (b : B) → Finds o d m a → Finds o d (k a) b → Finds o d (m >>= k) b
  unfolding ◌>>=◌
  finds_then {A} {B} m k a b f g w same =
      let x = f w same in
      let y = g (m o w).1 (ap (λ (v : Workspace). v.changes) x.1 ∙ same) in
      let step : go_on (m o w).0 (m o w).1 k o ≡ k a o (m o w).1 = ap (λ (r : Result A DeskNo). go_on r (m o w).1 k o) x.0 in (
        ap (λ (z : Result B DeskNo × Workspace). z.0) step ∙ y.0,
        subst (λ (z : Result B DeskNo × Workspace). IsStill w z.1) (sym step) (y.1 ∙ ap (λ (v : Workspace). record v { asked = (k a o (m o w).1).1.asked }) x.1),
      )

  finds_done : {A : Type 0} (a : A) → Finds o d (done a) a
  unfolding done
  finds_done a w same = (refl, refl)

  finds_own : (p : List ℕ) (w : Workspace) (m : Option (Option Node)) → ((link_by m p o w).0 ≡ Ok (under_by m (ls p))) × IsStill w (link_by m p o w).1
  unfolding done ask ◌>>=◌
  finds_own p w (Some n) = (refl, refl)
  finds_own p w None = (rw (tells (length w.asked) p) refl, refl)

  finds_link : (p : List ℕ) → Finds o d (link_below p) (under d ls p)
  unfolding link_below mine ◌>>=◌
  finds_link p w same = subst (λ (e : Changes). ((link_by (get w.changes p) p o w).0 ≡ Ok (under_by (get e p) (ls p))) × IsStill w (link_by (get w.changes p) p o w).1) same (finds_own p w (get w.changes p))

  finds_by : (dir p : List ℕ) (m : Option Met) → Finds o d (passed_by dir p m) (option_or m (met_by dir p (under d ls p)))
  finds_by dir p (Some m) = finds_done (Some m)
  finds_by dir p None = finds_then (link_below p) (λ t. done (met_by dir p t)) (under d ls p) (met_by dir p (under d ls p)) (finds_link p) (finds_done (met_by dir p (under d ls p)))

  finds_under : (above : List ℕ → Action DeskNo (Option Met)) (f : List ℕ → Option Met) → ((q : List ℕ) → Finds o d (above q) (f q)) → (p : List ℕ) (dir : Option (List ℕ)) → Finds o d (passed_under above p dir) (first_under (under d ls) f p dir)
  finds_under above f h p None = finds_done None
  finds_under above f h p (Some dir) = finds_then (above dir) (passed_by dir p) (f dir) (first_under (under d ls) f p (Some dir)) (h dir) (finds_by dir p (f dir))

  finds_passed : (left : ℕ) (p : List ℕ) → Finds o d (passed left p) (first_link (under d ls) left p)
  finds_passed zero p = finds_done None
  finds_passed (suc left) p = finds_under (passed left) (first_link (under d ls) left) (finds_passed left) p (parent_text p)

  finds_above : (dir : Option (List ℕ)) → Finds o d (pass_above dir) (above_only (first_link (under d ls) levels) dir)
  finds_above None = finds_done None
  finds_above (Some dir) = finds_passed levels dir

  finds_pass : (last : Bool) (p : List ℕ) → Finds o d (pass last p) (on_way (under d ls) last p)
  finds_pass true p = finds_passed levels p
  finds_pass false p = finds_above (parent_text p)

  finds_lead : (more : Met → Action DeskNo Led) (f : Met → Led) → ((x : Met) → Finds o d (more x) (f x)) → (n : ℕ) (p : List ℕ) (m : Option Met) → Finds o d (lead_by more n p m) (led_by f n p m)
  finds_lead more f h n p None = finds_done (record { way = To p; followed = n })
  finds_lead more f h n p (Some x) = h x

  finds_on : (next : List ℕ → Action DeskNo Led) (f : List ℕ → Led) → ((q : List ℕ) → Finds o d (next q) (f q)) → (n : ℕ) (q : Option (List ℕ)) → Finds o d (lead_on next n q) (led_on f n q)
  finds_on next f h n None = finds_done (record { way = Bad; followed = n })
  finds_on next f h n (Some q) = h q

  finds_from : (last : Bool) (left n : ℕ) (p : List ℕ) → Finds o d (resolve_from last left n p) (led_from (under d ls) last left n p)
  finds_from last zero n p = finds_then (pass last p) (lead_by (too_many n) n p) (on_way (under d ls) last p) (led_from (under d ls) last zero n p) (finds_pass last p)
      (finds_lead (too_many n) (λ m. record { way = TooMany; followed = n }) (λ x. finds_done (record { way = TooMany; followed = n })) n p (on_way (under d ls) last p))
  finds_from last (suc left) n p = finds_then (pass last p) (lead_by (λ m. lead_on (resolve_from last left (suc n)) n (onward p m)) n p) (on_way (under d ls) last p) (led_from (under d ls) last (suc left) n p) (finds_pass last p)
      (finds_lead (λ m. lead_on (resolve_from last left (suc n)) n (onward p m)) (λ m. led_on (led_from (under d ls) last left (suc n)) n (onward p m))
      (λ x. finds_on (resolve_from last left (suc n)) (led_from (under d ls) last left (suc n)) (finds_from last left (suc n)) n (onward p x)) n p (on_way (under d ls) last p))

  pub leads : (last : Bool) (p : List ℕ) → Finds o d (resolve last p) (led (under d ls) last p)
  unfolding resolve led
  leads last p = finds_from last most 0 p

-- on a state, the links under own changes are those of its tree with the changes laid over it
under_laid : (s : State) (d : Changes) (p : List ℕ) → under d (links_in s.tree) p ≡ links_in (laid_over d s.tree) p
under_laid s d p = by_case (get d p) ∙ sym (ap link_of (get-laid_over d s.tree p))
  where
    by_case : (m : Option (Option Node)) → under_by m (links_in s.tree p) ≡ link_of (over m (get s.tree p))
    by_case None = refl
    by_case (Some n) = refl

pub leads_laid : (s : State) (w : Workspace) (last : Bool) (p : List ℕ) → ((resolve last p (snapshot s) w).0 ≡ Ok (led (links_in (laid_over w.changes s.tree)) last p)) × IsStill w (resolve last p (snapshot s) w).1
leads_laid s w last p =
    let same : under w.changes (links_in s.tree) ≡ links_in (laid_over w.changes s.tree) = λ i q. under_laid s w.changes q i in
    subst (λ (ls : Links). ((resolve last p (snapshot s) w).0 ≡ Ok (led ls last p)) × IsStill w (resolve last p (snapshot s) w).1) same
    (leads (snapshot s) (links_in s.tree) w.changes (λ n q. refl) last p w refl)
