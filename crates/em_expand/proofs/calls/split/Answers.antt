use Rattle.std.proofs.Common.{◌≡◌, ◌∙◌, ◌+◌, ◌-◌, ◌<◌, ◌≤◌, [], sym, refl, map, length, take, drop, append-nil, length-drop, arith}
use Rattle.std.proofs.lemmas.List.{take_all}
use Rattle.em_expand.proofs.Splits.{split_none, split_some, pushed}
use Rattle.em_expand.proofs.calls.split.Goals as goal

pub returns-in_default : goal.returns-in_default
returns-in_default c =
    let none = split_none c.args.bracket (c.args.commas - c.loop-n._n) c.loop-n.rest.now (sym c.in_default.ensures.first) in
    sym (append-nil (map (λ t. t.now) c.push.new.self.items)) ∙ pushed c.loop-n.texts.items _ c.loop-n.rest _ [] _ c.in_ok-push.ensures.items none c.loop-n.invariant.goes_on

pub loop-n-preserved : goal.loop-n-preserved
loop-n-preserved c =
    let rest = c.loop-n.rest.now in
    let at = c.in-Some.at in
    let low : at < length rest = c.in-Some.ensures.within in
    let within : length rest ≤ length c.args.text.now = c.loop-n.invariant.within in
    let all : take (length rest - (at + 1)) (drop (at + 1) rest) ≡ drop (at + 1) rest = take_all (length rest - (at + 1)) (drop (at + 1) rest) (omega (arith, length-drop (at + 1) rest)) in
    let shorter : length (drop (at + 1) rest) ≤ length c.args.text.now = omega (arith, length-drop (at + 1) rest) in
    let first = split_some c.args.bracket (c.args.commas - c.loop-n._n) (c.args.commas - (c.loop-n._n + 1)) at rest (let test = c.loop-n-test.true in omega arith) c.in-Some.ensures.first in
    record {
      within = rw all shorter;
      goes_on = rw all (pushed c.loop-n.texts.items _ _ _ _ _ c.in_ok-push-2.ensures.items first c.loop-n.invariant.goes_on);
    }

pub returns : goal.returns
returns c =
    let over : c.args.commas - c.loop-n._n ≡ 0 = let test = c.loop-n-test.false in omega arith in
    let last = rw over at c.loop-n.invariant.goes_on in
    sym (append-nil (map (λ t. t.now) c.push-2.new.self.items)) ∙ pushed c.loop-n.texts.items _ c.loop-n.rest _ [] _ c.in_ok-push-3.ensures.items refl last
