use Rattle.std.proofs.Common.{rules, ◌≡◌, Some, None, refl, length, take, drop, ◌+◌, ◌-◌, arith}
use Rattle.std.proofs.lemmas.Grind.{common_steps}
use Rattle.em_wordlist.specs.Stems.{stem_of}
use Rattle.em_wordlist.proofs.Matching.{stem_matches, no_stem}
use Rattle.em_wordlist.proofs.pattern.stem.Goals as goal

pub returns-then-eq-clause-none : goal.returns-then-eq-clause-none
returns-then-eq-clause-none c =
    let e : stem_of c.args.pattern.now c.args.word.now ≡ Some (record { start = 0; end = 0 }) = search rules in
    (λ h. cc, λ h. absurd (h _ (stem_matches c.args.pattern.now c.args.word.now _ e)))

pub returns-then-ends_with-clause-some : goal.returns-then-ends_with-clause-some
returns-then-ends_with-clause-some c =
    let e : stem_of c.args.pattern.now c.args.word.now ≡ Some (record { start = c.in-Some.at; end = length c.args.word.now - length (take (length c.args.pattern.now - (c.in-Some.at + 1)) (drop (c.in-Some.at + 1) c.args.pattern.now)) }) = grind (arith, common_steps) in
    stem_matches c.args.pattern.now c.args.word.now _ e

pub returns-then-ends_with-clause-none : goal.returns-then-ends_with-clause-none
returns-then-ends_with-clause-none c =
    let e : stem_of c.args.pattern.now c.args.word.now ≡ Some (record { start = c.in-Some.at; end = length c.args.word.now - length (take (length c.args.pattern.now - (c.in-Some.at + 1)) (drop (c.in-Some.at + 1) c.args.pattern.now)) }) = grind (arith, common_steps) in
    (λ h. cc, λ h. absurd (h _ (stem_matches c.args.pattern.now c.args.word.now _ e)))

pub returns-else-fits-clause-none : goal.returns-else-fits-clause-none
returns-else-fits-clause-none c =
    let e : stem_of c.args.pattern.now c.args.word.now ≡ None = grind (arith, common_steps) in
    (λ _. no_stem c.args.pattern.now c.args.word.now e, λ _. refl)
