use Rattle.std.proofs.Common.{◌≡◌, ◌∷◌, ◌+◌, rules, length, sym, ap, subst, ◌∙◌, option_copied, arith}
use Rattle.em_lines.specs.Joining.{goes_on, untabbed, is_recipe}
use Rattle.em_lines.specs.First.{rows_in, joined_to, left_by}
use Rattle.em_lines.proofs.Rows.{continued, put, step, Done, done, ended, first}
use Rattle.em_lines.proofs.joining.first_line.Goals as goal
use Rattle.em_lines.proofs.joining.first_line.Goals.{then-tab+in_ok-append, else-tab+in_ok-splice, else-loop-rest-test, then-loop-rest-test+in_default}

pub loop-rest-init : goal.loop-rest-init
loop-rest-init c =
    let row = c.first_row.result.0.now in
    let more = rows_in (option_copied c.first_row.result.1) in
    let held : c.in_ok-text.text.items ≡ untabbed row = c.in_ok-text.ensures.items ∙ c.untabbed.ensures in
    let tab : c.eq-tab.result ≡ is_recipe (row ∷ joined_to row more) = search rules in
    let begun = first c.args.bytes.now row c.in_ok-text.text.items c.eq-tab.result more c.first_row.ensures held tab in
    record {
      text = begun.whole;
      rest = begun.rest;
      count = let k = begun.count in omega arith;
      few = omega arith;
    }

pub loop-rest-preserved : goal.loop-rest-preserved
loop-rest-preserved c =
    let tab = c.eq-tab.result in
    let held = c.loop-rest.text.items in
    let next = c.first_row-in-loop-rest.result.0.now in
    let more = rows_in (option_copied c.first_row-in-loop-rest.result.1) in
    let before : rows_in (option_copied c.loop-rest.rest) ≡ next ∷ more = ap (λ r. rows_in (option_copied r)) c.in-Some.is ∙ c.first_row-in-loop-rest.ensures in
    let one = step tab held next more (sym (c.loop-rest-test.ensures ∙ ap goes_on c.as_slice.ensures.value)) in
    let after : c.if-tab.text.items ≡ put tab held next = elim c.if-tab.branch [
      | then-tab+in_ok-append w ↦ ap (λ v. v.items) w.text-is ∙ w.in_ok-append.ensures ∙ sym (ap (λ t. put t held next) w.if-tab.true)
      | else-tab+in_ok-splice w ↦ ap (λ v. v.items) w.text-is ∙ w.in_ok-splice.ensures ∙ sym (ap (λ t. put t held next) w.if-tab.false)
    ] in
    record {
      text = c.loop-rest.invariant.text ∙ ap (λ r. continued tab held (joined_to held r)) before ∙ one.same_text ∙ ap (λ t. continued tab t (joined_to t more)) (sym after);
      rest = c.loop-rest.invariant.rest ∙ ap (left_by held) before ∙ one.same_rest ∙ ap (λ t. left_by t more) (sym after);
      count = let k = ap (λ r. length (joined_to held r)) before ∙ one.one_more ∙ ap (λ t. 1 + length (joined_to t more)) (sym after) in omega arith;
      few = omega arith;
    }

-- at the end nothing more is joined
over : (c : goal.After-from_vec-text) → Done c.eq-tab.result c.loop-rest.text.items (rows_in (option_copied c.loop-rest.rest))
over c = elim c.loop-rest-test.branch [
  | else-loop-rest-test w ↦ done c.eq-tab.result c.loop-rest.text.items (rows_in (option_copied c.loop-rest.rest)) (sym (w.loop-rest-test.ensures ∙ ap goes_on c.as_slice.ensures.value))
  | then-loop-rest-test+in_default w ↦ subst (λ r. Done c.eq-tab.result c.loop-rest.text.items (rows_in (option_copied r))) (sym w.in_default.is) (ended c.eq-tab.result c.loop-rest.text.items)
]

pub returns-clause-text : goal.returns-clause-text
returns-clause-text c = c.from_vec-text.ensures ∙ sym (c.loop-rest.invariant.text ∙ (over c).whole)

pub returns-clause-rows : goal.returns-clause-rows
returns-clause-rows c = let none = (over c).none in omega arith

pub returns-clause-rest : goal.returns-clause-rest
returns-clause-rest c = sym (c.loop-rest.invariant.rest ∙ (over c).left)
