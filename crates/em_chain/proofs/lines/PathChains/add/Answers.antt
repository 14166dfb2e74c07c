use Rattle.std.proofs.Common.{◌∙◌, sym, ap, subst, None, [], ◌∷◌, List, ℕ}
use Rattle.std.specs.FinMap.{get, from_entries}
use Rattle.em_tree.proofs.Maps.{order}
use Rattle.em_chain.specs.declared.lines.PathChain.{PathChain}
use Rattle.em_chain.specs.Lines.{IsLines, LineTable}
use Rattle.em_chain.proofs.Lining.{added_at, added_lines, IsLines-back}
use Rattle.em_chain.proofs.lines.PathChains.add.Goals as goal

pub invariant_of-self-in-Ok : goal.invariant_of-self-in-Ok
invariant_of-self-in-Ok c =
    let line : PathChain = record { above = c.in_ok-above.above; chain = c.in_ok-chain.chain } in (
      c.in-Ok.ensures.ordered,
      added_lines c.self.inside.held c.insert.new.self c.args.p.now line c.in_ok-path.path c.in_ok-path.ensures c.in-Ok.ensures.updates c.self.inside.children c.list.new.children (c.args.job, None) [] c.in_ok-chain.ensures c.in_ok-above.ensures c.self.invariant.1 c.in_ok-list.ensures.ok,
    )

pub returns-in-Ok-clause-ok : goal.returns-in-Ok-clause-ok
returns-in-Ok-clause-ok c =
    let line : PathChain = record { above = c.in_ok-above.above; chain = c.in_ok-chain.chain } in
    added_at c.self.inside.held c.insert.new.self c.args.p.now line c.in_ok-path.path c.in_ok-path.ensures c.in-Ok.ensures.updates c.args.self.now ((c.args.job, None) ∷ []) c.self.view_is c.in_ok-chain.ensures

pub invariant_of-self-in-Err : goal.invariant_of-self-in-Err
invariant_of-self-in-Err c = (
  c.in-Err.ensures.ordered,
  subst (λ (es : List (List ℕ × PathChain)). IsLines c.unlist.new.children (from_entries {R = order} es)) (sym c.in-Err.ensures.err)
      (IsLines-back (from_entries c.self.inside.held.entries) c.self.inside.children c.list.new.children c.unlist.new.children c.args.p.now c.self.invariant.1
      (ap (λ (t : LineTable). get t c.args.p.now) c.self.view_is ∙ c.requires) c.in_ok-list.ensures.ok c.unlist.ensures),
)
