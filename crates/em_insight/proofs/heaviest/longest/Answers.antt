use Rattle.std.proofs.Common.{◌≡◌, ◌∙◌, ◌<◌, ℕ, List, Option, Some, None, length, reverse, get_or, sym, subst}
use Rattle.em_report.specs.declared.report.ReportLine.{ReportLine}
use Rattle.em_insight.specs.declared.lead.Lead.{Lead}
use Rattle.em_insight.specs.Jobs.{refusal}
use Rattle.em_insight.specs.Chains.{Certifies, IsNamed}
use Rattle.em_insight.specs.Links.{IsLead, IsWalk, Linked}
use Rattle.em_insight.proofs.Linking.{before_below, sound}
use Rattle.em_insight.proofs.Walking.{certified, named}
use Rattle.em_insight.proofs.Finding.{path_is, path_weighs}
use Rattle.em_insight.proofs.heaviest.longest.Goals as goal

-- all that the parts found, of the report's lines
record Found (ls : List ReportLine) (es : List ℕ) (before : List (Option ℕ)) (lead : Lead) (js : List ℕ) : Type 0 where
  ok : refusal ls ≡ None
  links : Linked ls (length ls) es before
  top : IsLead es (λ w. w < length ls) lead
  walk : IsWalk before lead.job js

found : (ls ms : List ReportLine) (es fs : List ℕ) (before bs : List (Option ℕ)) (lead : Lead) (js : List ℕ) → ms ≡ ls → fs ≡ es → bs ≡ before → refusal ms ≡ None → Linked ms (length ms) es before
    → IsLead fs (λ w. w < length ms) lead → IsWalk bs lead.job js → Found ls es before lead js
found ls ms es fs before bs lead js a b d ok links top walk = record {
  ok = subst (λ z. refusal z ≡ None) a ok;
  links = subst (λ z. Linked z (length z) es before) a links;
  top = subst (λ z. IsLead z (λ w. w < length ls) lead) b (subst (λ z. IsLead fs (λ w. w < length z) lead) a top);
  walk = subst (λ z. IsWalk z lead.job js) d walk;
}

certifies : (ls : List ReportLine) (es : List ℕ) (before : List (Option ℕ)) (lead : Lead) (js jobs ends : List ℕ) → Found ls es before lead js → jobs ≡ reverse js → ends ≡ es
    → Certifies ls (record { jobs = jobs; fuel = lead.weight; ends = ends })
certifies ls es before lead js jobs ends f p q =
    subst (Certifies ls) (λ i. record { jobs = sym p i; fuel = lead.weight; ends = sym q i }) (certified ls es before f.links (λ j lt. (sound ls f.ok).below j) lead js f.top f.walk)

names : (ls : List ReportLine) (es : List ℕ) (before : List (Option ℕ)) (lead : Lead) (js jobs ends : List ℕ) → Found ls es before lead js → jobs ≡ reverse js → ends ≡ es
    → IsNamed ls (record { jobs = jobs; fuel = lead.weight; ends = ends })
names ls es before lead js jobs ends f p q =
    subst (IsNamed ls) (λ i. record { jobs = sym p i; fuel = lead.weight; ends = sym q i }) (named ls es before f.links (λ j lt. (sound ls f.ok).below j) lead js f.top f.walk)

pub walk-requires-clause-below : goal.walk-requires-clause-below
walk-requires-clause-below c =
    subst (λ z. (j k : ℕ) → get_or z j None ≡ Some k → k < j) (sym c.deref-2.ensures.value)
    (before_below c.items-lines.result.now c.in_ok-links.links.ends.items c.in_ok-links.links.before.items c.in_ok-check.ensures.ok c.in_ok-links.ensures)

pub returns-clause-certified : goal.returns-clause-certified
returns-clause-certified c =
    certifies c.args.report.now.lines c.in_ok-links.links.ends.items c.in_ok-links.links.before.items c.last_of-last.result c.in_ok-jobs.jobs.items c.from_vec.result c.from_vec-2.result
    (found c.args.report.now.lines c.items-lines.result.now c.in_ok-links.links.ends.items c.deref.result.now c.in_ok-links.links.before.items c.deref-2.result.now c.last_of-last.result c.in_ok-jobs.jobs.items
    c.items-lines.ensures c.deref.ensures.value c.deref-2.ensures.value c.in_ok-check.ensures.ok c.in_ok-links.ensures c.last_of-last.ensures c.in_ok-jobs.ensures)
    (c.from_vec.ensures ∙ c.reverse.ensures.items) c.from_vec-2.ensures

pub returns-clause-named : goal.returns-clause-named
returns-clause-named c =
    names c.args.report.now.lines c.in_ok-links.links.ends.items c.in_ok-links.links.before.items c.last_of-last.result c.in_ok-jobs.jobs.items c.from_vec.result c.from_vec-2.result
    (found c.args.report.now.lines c.items-lines.result.now c.in_ok-links.links.ends.items c.deref.result.now c.in_ok-links.links.before.items c.deref-2.result.now c.last_of-last.result c.in_ok-jobs.jobs.items
    c.items-lines.ensures c.deref.ensures.value c.deref-2.ensures.value c.in_ok-check.ensures.ok c.in_ok-links.ensures c.last_of-last.ensures c.in_ok-jobs.ensures)
    (c.from_vec.ensures ∙ c.reverse.ensures.items) c.from_vec-2.ensures

pub returns-clause-path : goal.returns-clause-path
returns-clause-path c =
    path_is c.args.report.now.lines (record { jobs = c.from_vec.result; fuel = c.last_of-last.result.weight; ends = c.from_vec-2.result }) (returns-clause-certified c) (returns-clause-named c)

pub returns-clause-fuel : goal.returns-clause-fuel
returns-clause-fuel c =
    path_weighs c.args.report.now.lines (record { jobs = c.from_vec.result; fuel = c.last_of-last.result.weight; ends = c.from_vec-2.result }) (returns-clause-certified c) (returns-clause-named c)
