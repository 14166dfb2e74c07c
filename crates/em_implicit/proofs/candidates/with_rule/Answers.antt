use Rattle.std.proofs.Common.{◌≡◌, ◌∙◌, ◌+◌, drop, map, is_some}
use Rattle.em_base.proofs.Lemmas.{left_at}
use Rattle.em_implicit.specs.Matches.{match_of}
use Rattle.em_implicit.specs.Seeking.{candidate_by, matches_of, seen}
use Rattle.em_implicit.proofs.Matched.{none_of, is_none, more_matches}
use Rattle.em_implicit.proofs.candidates.with_rule.Goals as goal

pub loop-i-preserved : goal.loop-i-preserved
loop-i-preserved c =
    let target = c.args.target.now in
    let number = c.args.numbered.number in
    let rule = c.args.numbered.rule.now in
    let pattern = c.pattern-item.result in
    let low = rw c.items-pattern-items.ensures at c.loop-i-test.true in
    let at = rw c.items-pattern-items.ensures at c.pattern-item.is in
    let left = left_at rule.targets c.loop-i.i pattern low at in
    record {
      more = more_matches (map seen c.loop-i.all.items) (map seen c.in_ok-all.all.items) (candidate_by number c.loop-i.i rule (match_of pattern target))
          (matches_of (c.loop-i.i + 1) target number rule (drop (c.loop-i.i + 1) rule.targets)) _
          (rw c.bytes.ensures at c.in_ok-all.ensures.more) (rw left at c.loop-i.invariant.more);
      unmatched = λ h.
          let none = is_none (match_of pattern target) (none_of (λ p. is_some (match_of p target)) rule.targets c.loop-i.i pattern low at h) in
          let same = (rw c.bytes.ensures at c.in_ok-all.ensures.unmatched) none in
          let is : c.in_ok-all.all ≡ c.loop-i.all = cc in
          is ∙ c.loop-i.invariant.unmatched h;
    }
