use Rattle.std.proofs.Common.{◌∙◌, ◌==◌, ◌∷◌, [], rules, tests, sym, ap, List, ℕ, length, take, take_all, length-append, arith}
use Rattle.std.proofs.lemmas.Iterator.Consumers.{YieldsList-turn, YieldsList-end}
use Rattle.std.proofs.lemmas.Iterator.Splits.{YieldsList-from_slice_split}
use Rattle.em_path.specs.Spelled.{spelled}
use Rattle.em_path.specs.Reading.{walk}
use Rattle.em_path.proofs.Spelling.{parts}
use Rattle.em_path.proofs.Walking.{walk_names, walk_next, front_plain, name_plain}
use Rattle.em_path.proofs.read.go_on.Goals as goal

pub loop-part-preserved : goal.loop-part-preserved
loop-part-preserved c = λ cs names e.
    let ps = parts c.args.name.now in
    let i = length c.loop-part.yielded in
    let turn = YieldsList-turn (YieldsList-from_slice_split _ (λ b. b == 47) c.args.name.now (cc) (cc) (cc) (λ x r q k. search (rules, tests))) c.loop-part.yielded c.loop-part.part-iterator c.loop-part.yielded_by c.next.result c.next.new.self c.in-Some.part c.in-Some.is c.next.ensures.steps in
    let so_far = walk_names cs (take i ps) names (front_plain ps i (name_plain c.args.name.now c.requires)) in
    c.in_ok-go.ensures (walk cs (take i ps)) so_far (c.loop-part.invariant cs names e) ∙ walk_next cs ps i c.in-Some.part.now turn.0 turn.1
    ∙ ap (λ k. spelled (walk cs (take k ps))) (sym (length-append c.loop-part.yielded (c.in-Some.part ∷ [])))

pub returns : goal.returns
returns c = λ cs names e.
    let ps = parts c.args.name.now in
    let end = YieldsList-end (YieldsList-from_slice_split _ (λ b. b == 47) c.args.name.now (cc) (cc) (cc) (λ x r q k. search (rules, tests))) c.loop-part.yielded c.loop-part.part-iterator c.loop-part.yielded_by c.next.result c.next.new.self c.in-None.is c.next.ensures.steps in
    let l = end.1 in
    c.loop-part.invariant cs names e ∙ ap (λ (qs : List (List ℕ)). spelled (walk cs qs)) (take_all (length c.loop-part.yielded) ps (omega arith))
