use Rattle.std.proofs.Common.{◌≡◌, ◌∙◌, ◌++◌, ◌+◌, ◌∷◌, [], sym, ap, drop, append_assoc, append-nil, List, ℕ}
use Rattle.em_base.proofs.Lemmas.{left_at, none_at}
use Rattle.em_pathname.specs.declared.found.PathMatch.{PathMatch}
use Rattle.em_pathname.specs.Walking.{those_that_match}
use Rattle.em_pathname.proofs.Shown.{first_shown}
use Rattle.em_pathname.proofs.names.those_that_match.Goals as goal

pub loop-name-preserved : goal.loop-name-preserved
loop-name-preserved c =
    let given = λ (ns : List (List ℕ)). those_that_match c.args.cwd.now c.args.dir.now c.args.component.now ns in
    let name = c.name-item.result in
    let rest = drop (c.loop-name.name-index + 1) c.args.names.now in
    let left = left_at c.args.names.now c.loop-name.name-index name c.loop-name-test.true c.name-item.is in
    let so_far = rw left at c.loop-name.invariant in
    let pushed : c.push_shown.new.all ≡ c.loop-name.all ++ given (name ∷ []) = c.in_ok-push_shown.ensures ∙ ap (λ (fs : List PathMatch). c.loop-name.all ++ fs) (sym (rw c.bytes.ensures at c.in_ok-shown.ensures)) in
    ap (λ (fs : List PathMatch). fs ++ given rest) pushed ∙ append_assoc c.loop-name.all (given (name ∷ [])) (given rest)
    ∙ ap (λ (fs : List PathMatch). c.loop-name.all ++ fs) (sym (first_shown c.args.cwd.now c.args.dir.now c.args.component.now name rest)) ∙ so_far

pub returns : goal.returns
returns c =
    let none = none_at c.args.names.now c.loop-name.name-index c.loop-name-test.false in
    sym (append-nil c.loop-name.all) ∙ rw none at c.loop-name.invariant
