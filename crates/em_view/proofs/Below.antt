-- Reading under a job's own changes.
use Rattle.std.proofs.Common.{◌≡◌, ℕ, List, Option, Some, None, Result, Ok, Err, sym, ap, subst}
use Rattle.std.specs.FinMap.{get}
use Rattle.em_tree.specs.declared.node.Node.{Node}
use Rattle.em_tree.specs.declared.question.Question.{Question}
use Rattle.em_tree.specs.declared.question.Answer.{Answer}
use Rattle.em_view.specs.declared.no.DeskNo.{DeskNo}
use Rattle.em_view.specs.Actions.{Workspace, Action, ◌>>=◌, done, mine, ask}
use Rattle.em_view.specs.Performs.{DeskState, Told, Performs}
use Rattle.em_view.specs.Rows.{is_memory}
use Rattle.em_view.proofs.Performing.{then, exit, pure, finish}

module _ {V : Type 0} {tells : V → Told} where
  pub owned : (d : DeskState V) (p : List ℕ) (o : Option (Option Node)) → o ≡ get d.work.changes p → Performs is_memory tells d d (Ok o) (mine p)
  unfolding mine
  owned d p o e = pure (λ u. ap (λ (x : Option (Option Node)). let r : Result (Option (Option Node)) DeskNo × Workspace = (Ok x, d.work) in r) (sym e))

  module _ {A : Type 0} (d : DeskState V) (p : List ℕ) where
    -- the own changes say it
    pub below_own : (n : Option Node) (k : Option (Option Node) → Action DeskNo A) (a : A) → Some n ≡ get d.work.changes p → k (Some n) ≡ done a → Performs is_memory tells d d (Ok a) (mine p >>= k)
    below_own n k a is gives = then k (owned d p (Some n) is) (subst (λ (m : Action DeskNo A). Performs is_memory tells d d (Ok a) m) (sym gives) finish)

    -- they don't, and the view was asked
    pub below_asked : (e : DeskState V) (q : Question) (k : Option (Option Node) → Action DeskNo A) (f : Answer → A) (a : Answer) → None ≡ get d.work.changes p → k None ≡ (ask q >>= λ x. done (f x))
        → Performs is_memory tells d e (Ok a) (ask q) → Performs is_memory tells d e (Ok (f a)) (mine p >>= k)
    below_asked e q k f a is gives asked = then k (owned d p None is) (subst (λ (m : Action DeskNo A). Performs is_memory tells d e (Ok (f a)) m) (sym gives) (then (λ x. done (f x)) asked finish))

    pub below_failed : (e : DeskState V) (q : Question) (k : Option (Option Node) → Action DeskNo A) (f : Answer → Action DeskNo A) {x : DeskNo} → None ≡ get d.work.changes p → k None ≡ (ask q >>= f)
        → Performs is_memory tells d e (Err x) (ask q) → Performs is_memory tells d e (Err x) (mine p >>= k)
    below_failed e q k f {x} is gives asked = then k (owned d p None is) (subst (λ (m : Action DeskNo A). Performs is_memory tells d e (Err x) m) (sym gives) (exit f asked))
