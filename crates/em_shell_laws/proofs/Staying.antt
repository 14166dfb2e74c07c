-- What a desk is asked changes nothing, wherever a path leads; and where it leads while no link is
-- told of or made.
--     Stays m             behind the action the changes are those that there were, however it ends
--     kind_stays, content_stays      so with what is read
--     target_is           each path leads to itself
use Rattle.std.proofs.Common.{◌≡◌, ℕ, ◌+◌, zero, suc, Bool, true, false, cond, List, [], ◌∷◌, Option, Some, None, Result, Ok, Err, refl, sym, ap, ◌∙◌}
use Rattle.std.specs.Prelude.{nat_lt, ◌-◌}
use Rattle.em_path.specs.Paths.{parent_text}
use Rattle.em_tree.specs.declared.node.Kind.{Kind}
use Rattle.em_tree.specs.declared.node.Node.{Node}
use Rattle.em_tree.specs.declared.way.Met.{Met}
use Rattle.em_tree.specs.declared.way.Way.{Way}
use Rattle.em_tree.specs.declared.way.Way.TheVariants.{To, TooMany, Bad}
use Rattle.em_tree.specs.declared.way.Led.{Led}
use Rattle.em_tree.specs.Resolving.{most, levels, onward}
use Rattle.em_view.specs.declared.no.DeskNo.{DeskNo}
use Rattle.em_view.specs.declared.no.DeskNo.TheVariants as no
use Rattle.em_view.specs.Actions.{Workspace, Oracle, Action, ◌>>=◌, go_on, done, ask, mine, spend}
use Rattle.em_view.specs.Bare.{TellsNone, AreBare}
use Rattle.em_view.specs.Walking.{link_by, link_below, passed_by, passed_under, passed, pass_above, pass, lead_by, lead_on, too_many, resolve_from, resolve, target_by, target}
use Rattle.em_view.specs.Rows.{blocks, size_of, kind_by, kind_below, kind_to, kind_at, content_by, content_below, content_to, content}
use Rattle.em_view.proofs.Walking.{bare}
use Rattle.em_shell_laws.specs.Redirections.{HasNoLinks}

pub record Stays {A : Type 0} (m : Action DeskNo A) : Type 0 where
  pub same : (o : Oracle) (w : Workspace) → (m o w).1.changes ≡ w.changes

module _ {A B : Type 0} where
  went : (k : A → Action DeskNo B) → ((a : A) → Stays (k a)) → (r : Result A DeskNo) (v w : Workspace) (o : Oracle) → v.changes ≡ w.changes → (go_on r v k o).1.changes ≡ w.changes
  went k h (Ok a) v w o e = (h a).same o v ∙ e
  went k h (Err x) v w o e = e

  then_stays : {m : Action DeskNo A} {k : A → Action DeskNo B} → Stays m → ((a : A) → Stays (k a)) → Stays (m >>= k)
  unfolding ◌>>=◌
  then_stays {m} {k} first h = record { same = λ o w. went k h (m o w).0 (m o w).1 w o (first.same o w) }

stays_done : {A : Type 0} (a : A) → Stays (done a)
unfolding done
stays_done a = record { same = λ o w. refl }

stays_spend : (n : ℕ) → Stays (spend n)
unfolding spend
stays_spend n = record { same = λ o w. by_case w (nat_lt w.fuel n) }
  where
    by_case : (w : Workspace) (b : Bool) → (let z : Result (Unit {0}) DeskNo × Workspace = cond b (Err no.Spent, w) (Ok tt, record w { fuel = w.fuel - n }) in z).1.changes ≡ w.changes
    by_case w true = refl
    by_case w false = refl

stays_ask : {A : Type 0} (q : _) (f : _ → A) → let m : Action DeskNo A = (ask q >>= λ a. done (f a)) in Stays m
unfolding ◌>>=◌ ask done
stays_ask q f = record { same = λ o w. refl }

stays_mine : {B : Type 0} (p : List ℕ) {k : Option (Option Node) → Action DeskNo B} → ((m : Option (Option Node)) → Stays (k m)) → Stays (mine p >>= k)
unfolding ◌>>=◌ mine
stays_mine p h = record { same = λ o w. (h _).same o w }

-- ---- where a path leads

link_below_stays : (p : List ℕ) → Stays (link_below p)
unfolding link_below
link_below_stays p = stays_mine p by_own
  where
    by_own : (m : Option (Option Node)) → Stays (link_by m p)
    by_own (Some n) = stays_done _
    by_own None = stays_ask _ _

passed_by_stays : (dir p : List ℕ) (m : Option Met) → Stays (passed_by dir p m)
passed_by_stays dir p (Some m) = stays_done _
passed_by_stays dir p None = then_stays (link_below_stays p) (λ text. stays_done _)

under_stays : (above : List ℕ → Action DeskNo (Option Met)) → ((q : List ℕ) → Stays (above q)) → (p : List ℕ) (o : Option (List ℕ)) → Stays (passed_under above p o)
under_stays above h p None = stays_done _
under_stays above h p (Some dir) = then_stays (h dir) (λ m. passed_by_stays dir p m)

passed_stays : (left : ℕ) (p : List ℕ) → Stays (passed left p)
passed_stays zero p = stays_done _
passed_stays (suc left) p = under_stays (passed left) (passed_stays left) p (parent_text p)

pass_stays : (last : Bool) (p : List ℕ) → Stays (pass last p)
pass_stays true p = passed_stays levels p
pass_stays false p = by_parent (parent_text p)
  where
    by_parent : (o : Option (List ℕ)) → Stays (pass_above o)
    by_parent None = stays_done _
    by_parent (Some dir) = passed_stays levels dir

lead_stays : (follow : Met → Action DeskNo Led) (n : ℕ) (p : List ℕ) → ((m : Met) → Stays (follow m)) → (o : Option Met) → Stays (lead_by follow n p o)
lead_stays follow n p h None = stays_done _
lead_stays follow n p h (Some m) = h m

on_stays : (next : List ℕ → Action DeskNo Led) (n : ℕ) → ((q : List ℕ) → Stays (next q)) → (o : Option (List ℕ)) → Stays (lead_on next n o)
on_stays next n h None = stays_done _
on_stays next n h (Some q) = h q

from_stays : (last : Bool) (left n : ℕ) (p : List ℕ) → Stays (resolve_from last left n p)
from_stays last zero n p = then_stays (pass_stays last p) (λ m. lead_stays (too_many n) n p (λ x. stays_done _) m)
from_stays last (suc left) n p = then_stays (pass_stays last p) (λ m. lead_stays (λ x. lead_on (resolve_from last left (suc n)) n (onward p x)) n p (λ x. on_stays (resolve_from last left (suc n)) n (from_stays last left (suc n)) (onward p x)) m)

resolve_stays : (last : Bool) (p : List ℕ) → Stays (resolve last p)
unfolding resolve
resolve_stays last p = from_stays last most 0 p

-- ---- what is read

kind_below_stays : (p : List ℕ) → Stays (kind_below p)
unfolding kind_below
kind_below_stays p = stays_mine p by_own
  where
    by_own : (m : Option (Option Node)) → Stays (kind_by m p)
    by_own (Some n) = stays_done _
    by_own None = stays_ask _ _

content_below_stays : (p : List ℕ) → Stays (content_below p)
unfolding content_below
content_below_stays p = stays_mine p by_own
  where
    by_own : (m : Option (Option Node)) → Stays (content_by m p)
    by_own (Some n) = stays_done _
    by_own None = stays_ask _ _

reading_stays : {A : Type 0} (last : Bool) (p : List ℕ) (to : Way → Action DeskNo A) (cost : A → ℕ → ℕ) → ((y : Way) → Stays (to y)) → let m : Action DeskNo A = (spend 1 >>= λ u. resolve last p >>= λ f. to f.way >>= λ a. spend (cost a f.followed) >>= λ v. done a) in Stays m
reading_stays last p to cost h = then_stays (stays_spend 1) (λ u. then_stays (resolve_stays last p) (λ f. then_stays (h f.way) (λ a. then_stays (stays_spend _) (λ v. stays_done _))))

pub kind_stays : (p : List ℕ) → Stays (kind_at p)
unfolding kind_at
kind_stays p = reading_stays true p kind_to (λ k n. n) by_way
  where
    by_way : (y : Way) → Stays (kind_to y)
    by_way (To q) = kind_below_stays q
    by_way TooMany = stays_done _
    by_way Bad = stays_done _

pub content_stays : (p : List ℕ) → Stays (content p)
unfolding content
content_stays p = reading_stays true p content_to (λ body n. blocks (size_of body) + n) by_way
  where
    by_way : (y : Way) → Stays (content_to y)
    by_way (To q) = content_below_stays q
    by_way TooMany = stays_done _
    by_way Bad = stays_done _

-- ---- without links

abbrev pub plainly : List ℕ → Led
plainly p = record { way = To p; followed = 0 }

pub resolve_is : (last : Bool) (p : List ℕ) (o : Oracle) (w v : Workspace) (f : Led) → HasNoLinks o w → resolve last p o w ≡ (Ok f, v) → (f ≡ plainly p) × (v.changes ≡ w.changes)
resolve_is last p o w v f none e =
    let b = bare o none.0 last p w none.1 in
    let got : ◌≡◌ {A = Result Led DeskNo} (Ok f) (Ok (plainly p)) = ap (λ (z : Result Led DeskNo × Workspace). z.0) (sym e) ∙ b.0 in
    (cc, ap (λ (z : Result Led DeskNo × Workspace). z.1.changes) (sym e) ∙ (resolve_stays last p).same o w)

pub target_on : (f : Led) (p : List ℕ) (o : Oracle) (w v : Workspace) (t : List ℕ × ℕ) → f ≡ plainly p → (target_by f.way >>= (λ q. done (q, f.followed))) o w ≡ (Ok t, v) → (t ≡ (p, 0)) × (v ≡ w)
unfolding ◌>>=◌ done
target_on f p o w v t is e =
    let plain : ◌≡◌ {A = Result (List ℕ × ℕ) DeskNo × Workspace} (Ok (p, 0), w) (Ok t, v) = ap (λ (l : Led). (let m : Action DeskNo (List ℕ × ℕ) = target_by l.way >>= (λ q. done (q, l.followed)) in m o w)) (sym is) ∙ e in
    let first : ◌≡◌ {A = Result (List ℕ × ℕ) DeskNo} (Ok (p, 0)) (Ok t) = ap (λ z. z.0) plain in
    ((let same : (p, 0) ≡ t = cc in sym same), sym (ap (λ z. z.1) plain))
