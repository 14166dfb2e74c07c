use Rattle.std.proofs.Common.{◌∙◌, sym, ap}
use Rattle.std.specs.FinMap.{get}
use Rattle.em_tree.proofs.Maps.{path_found, ok_then}
use Rattle.em_tree.proofs.Laying.{present, missing}
use Rattle.em_chain.specs.Lines.{LineTable}
use Rattle.em_chain.proofs.Lining.{place_new}
use Rattle.em_chain.proofs.lines.PathChains.make_place.Goals as goal

pub grow-requires : goal.grow-requires
grow-requires c = present c.get.result _ (c.get.ensures.value ∙ path_found c.self.inside.held.entries c.args.p.now ∙ ap (λ (t : LineTable). get t c.args.p.now) c.self.view_is) (sym c.is_some.ensures ∙ c.if-is_some.true)

pub add-requires : goal.add-requires
add-requires c = missing c.get.result _ (c.get.ensures.value ∙ path_found c.self.inside.held.entries c.args.p.now ∙ ap (λ (t : LineTable). get t c.args.p.now) c.self.view_is) (sym c.is_some.ensures ∙ c.if-is_some.false)

pub returns-else-is_some-clause-ok : goal.returns-else-is_some-clause-ok
returns-else-is_some-clause-ok c =
    let none = missing c.get.result (get c.args.self.now c.args.p.now) (c.get.ensures.value ∙ path_found c.self.inside.held.entries c.args.p.now ∙ ap (λ (t : LineTable). get t c.args.p.now) c.self.view_is) (sym c.is_some.ensures ∙ c.if-is_some.false) in
    ok_then c.add.result c.add.ensures.ok (λ h q. h q ∙ place_new c.args.job c.args.self.now c.args.p.now q none)
