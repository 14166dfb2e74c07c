use Rattle.std.proofs.Common.{◌≡◌, ◌<◌, ◌+◌, ◌++◌, ◌∷◌, [], ℕ, List, Some, length, slice_get, get_or, refl, sym, subst, arith}
use Rattle.std.proofs.lemmas.Option.{slice_get_read}
use Rattle.em_report.specs.declared.report.ReportLine.{ReportLine}
use Rattle.em_insight.specs.declared.lead.Lead.{Lead}
use Rattle.em_insight.specs.Each.{Each, Any}
use Rattle.em_insight.specs.Links.{IsLead, Linked}
use Rattle.em_insight.proofs.Linking.{waits_linked, end_fits, linked_more}
use Rattle.em_insight.proofs.heaviest.linked.Goals as goal

line_at : (ls : List ReportLine) (i : ℕ) (l : ReportLine) → i < length ls → l ≡ get_or ls i l → slice_get ls i ≡ Some l
line_at ls i l lt is = slice_get_read ls (length ls) i l refl lt is

led : (es fs ws vs : List ℕ) (lead : Lead) → fs ≡ es → vs ≡ ws → IsLead fs (λ w. Any (λ v. v ≡ w) vs) lead → IsLead es (λ w. Any (λ v. v ≡ w) ws) lead
led es fs ws vs lead e f h = subst (λ z. IsLead z (λ w. Any (λ v. v ≡ w) ws) lead) e (subst (λ z. IsLead fs (λ w. Any (λ v. v ≡ w) z) lead) f h)

pub leader-lead-requires : goal.leader-lead-requires
leader-lead-requires c =
    subst (λ z. Each (λ w. w < length z) c.items.result.now) (sym c.deref.ensures.value) (subst (Each (λ w. w < length c.loop-line.ends.items)) (sym c.items.ensures)
    (waits_linked c.args.lines.now c.loop-line.line-index c.loop-line.ends.items c.loop-line.before.items c.line-item.result c.requires
    (line_at c.args.lines.now c.loop-line.line-index c.line-item.result c.loop-line-test.true c.line-item.is) c.loop-line.invariant))

pub overflow_add-line : goal.overflow_add-line
overflow_add-line c =
    omega (
      arith,
      end_fits c.args.lines.now c.loop-line.line-index c.loop-line.ends.items c.loop-line.before.items c.line-item.result c.leader-lead.result c.requires
          (line_at c.args.lines.now c.loop-line.line-index c.line-item.result c.loop-line-test.true c.line-item.is) c.loop-line.invariant
          (led c.loop-line.ends.items c.deref.result.now c.line-item.result.waits c.items.result.now c.leader-lead.result c.deref.ensures.value c.items.ensures c.leader-lead.ensures),
    )

pub loop-line-preserved : goal.loop-line-preserved
loop-line-preserved c =
    let new = linked_more c.args.lines.now c.loop-line.line-index c.loop-line.ends.items c.loop-line.before.items c.line-item.result c.leader-lead.result c.requires
    (line_at c.args.lines.now c.loop-line.line-index c.line-item.result c.loop-line-test.true c.line-item.is) c.loop-line.invariant
    (led c.loop-line.ends.items c.deref.result.now c.line-item.result.waits c.items.result.now c.leader-lead.result c.deref.ensures.value c.items.ensures c.leader-lead.ensures) in
    subst (λ bs. Linked c.args.lines.now (c.loop-line.line-index + 1) c.push.new.self.items bs) (sym c.in_ok-push-2.ensures.items)
    (subst (λ es. Linked c.args.lines.now (c.loop-line.line-index + 1) es (c.loop-line.before.items ++ c.leader-lead.result.job ∷ [])) (sym c.in_ok-push.ensures.items) new)
