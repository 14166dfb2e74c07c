use Rattle.std.proofs.Common.{◌≡◌, ◌+◌, ap, sym, subst, ℕ, List, arith}
use Rattle.std.specs.FinMap.{get, from_entries}
use Rattle.em_chain.specs.Posts.{Floored}
use Rattle.em_chain.specs.Floors.{IsRaised}
use Rattle.em_chain.proofs.Flooring.{lies_below}
use Rattle.em_chain.proofs.Posting.{lies_seen}
use Rattle.em_chain.proofs.Raising.{raised_none, raised_more}
use Rattle.em_chain.proofs.versions.Versions.raise.Goals as goal

pub loop-job-init : goal.loop-job-init
loop-job-init c =
    let at : c.self.inside.floor ≡ c.args.self.now.floor = ap (λ (v : Floored). v.floor) c.self.view_is in
    let none = raised_none c.self.inside.start c.self.inside.floor c.self.inside.lines (from_entries c.self.inside.posts.entries) c.self.invariant.1 in
    record {
      from = omega (arith, at);
      upto = omega (arith, at, c.requires);
      raised = subst (λ (v : Floored). IsRaised v c.self.inside.floor v) c.self.view_is none;
    }

pub raise_over-requires-clause-here : goal.raise_over-requires-clause-here
raise_over-requires-clause-here c = sym c.loop-job.invariant.raised.rest.floor

pub loop-job-preserved : goal.loop-job-preserved
loop-job-preserved c =
    let lies : (p : List ℕ) → lies_below (get c.args.self.now.merged p) c.args.self.now.floor = λ p. subst (λ (v : Floored). lies_below (get v.merged p) v.floor) c.self.view_is
    (lies_seen c.self.inside.start c.self.inside.floor c.self.inside.lines (from_entries c.self.inside.posts.entries) c.self.inside.floor p (omega arith)) in
    let i = c.loop-job.invariant in
    record {
      from = (let a = i.from in omega (arith, a));
      upto = omega (arith, c.loop-job-test.true);
      raised = raised_more c.args.self.now c.loop-job.self c.raise_over.new.self c.loop-job.job (c.loop-job.job + 1) i.from (omega arith) lies i.raised c.raise_over.ensures;
    }

pub returns : goal.returns
returns c =
    let i = c.loop-job.invariant in
    let all : c.loop-job.job ≡ c.args.to = (let a = i.upto in omega (arith, a, c.loop-job-test.false)) in
    subst (λ (f : ℕ). IsRaised c.args.self.now f c.loop-job.self) all i.raised
