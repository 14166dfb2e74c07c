use Rattle.std.proofs.Common.{◌≡◌, ◌∙◌, ◌+◌, drop, map}
use Rattle.em_base.proofs.Lemmas.{left_at}
use Rattle.em_implicit.specs.Matches.{is_matched}
use Rattle.em_implicit.specs.Seeking.{matches_of, matches_from, seen}
use Rattle.em_implicit.proofs.Matched.{none_of, more_matches}
use Rattle.em_implicit.proofs.candidates.matches.Goals as goal

pub loop-number-preserved : goal.loop-number-preserved
loop-number-preserved c =
    let target = c.args.target.now in
    let patterns = c.args.patterns.now in
    let number = c.loop-number.number in
    let rule = c.index-patterns-number.result in
    let left = left_at patterns number rule c.loop-number-test.true c.index-patterns-number.is in
    record {
      all = more_matches (map seen c.loop-number.all.items) (map seen c.in_ok-all.all.items) (matches_of 0 target number rule rule.targets) (matches_from (number + 1) (drop (number + 1) patterns) target) _
          c.in_ok-all.ensures.more (rw left at c.loop-number.invariant.all);
      unmatched = λ h.
          let same = c.in_ok-all.ensures.unmatched (none_of (λ r. is_matched r target) patterns number rule c.loop-number-test.true c.index-patterns-number.is h) in
          let is : c.in_ok-all.all.items ≡ c.loop-number.all.items = cc in
          is ∙ c.loop-number.invariant.unmatched h;
    }
