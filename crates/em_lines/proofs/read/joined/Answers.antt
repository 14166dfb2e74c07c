use Rattle.std.proofs.Common.{◌≡◌, ◌<◌, ◌≤◌, ◌∷◌, [], ◌++◌, length, sym, ap, ◌∙◌, Some, option_copied, arith}
use Rattle.em_lines.specs.Joining.{grouped, joined_text}
use Rattle.em_lines.specs.First.{rows_in}
use Rattle.em_lines.specs.Lines.{joined, lines_from, no_more}
use Rattle.em_lines.proofs.Numbered.{after, after_line, after_stop, after_all, not_empty, fewer, long_line, one_line, none_left}
use Rattle.em_lines.proofs.read.joined.Goals as goal
use Rattle.em_lines.proofs.read.joined.Goals.{in-Some+then-is_empty, in_default}

pub returns-then-bytes-gt-LINE_LIMIT : goal.returns-then-bytes-gt-LINE_LIMIT
unfolding joined
returns-then-bytes-gt-LINE_LIMIT c =
    let file = c.args.file.now in
    let lines = c.loop-rest.lines in
    let number = c.loop-rest.number in
    let over : 1048576 < length c.in_ok-tab.field-0.text = let same = ap length c.bytes.ensures in omega arith in
    let long = long_line file c.in-Some.bytes.now c.in_ok-tab.field-0.text number (not_empty _ c.if-is_empty.ensures) c.in_ok-tab.ensures.text over c.loop-rest.invariant.few in
    sym (c.loop-rest.invariant.all ∙ ap (λ r. after lines (lines_from joined_text file number (grouped (rows_in (option_copied r))))) c.in-Some.is ∙ ap (after lines) long
    ∙ after_stop lines _ ∙ ap (λ f. record { lines = lines; too_long = Some record { file = f; line = number } }) (sym c.in_ok-copy.ensures))

pub loop-rest-smaller : goal.loop-rest-smaller
loop-rest-smaller c =
    let before = ap (λ r. length (rows_in (option_copied r))) c.in-Some.is in
    let behind = ap length c.in_ok-tab.ensures.rest in
    let few = fewer c.in-Some.bytes.now in
    omega arith

pub loop-rest-preserved : goal.loop-rest-preserved
loop-rest-preserved c =
    let file = c.args.file.now in
    let lines = c.loop-rest.lines in
    let number = c.loop-rest.number in
    let first = c.in_ok-tab.field-0 in
    let short : length first.text ≤ 1048576 = let same = ap length c.bytes.ensures in omega arith in
    let one = one_line file c.in-Some.bytes.now first.text number first.rows c.saturating_add-number.result first.tab (rows_in (option_copied first.rest)) (not_empty _ c.if-is_empty.ensures) c.in_ok-tab.ensures.tab c.in_ok-tab.ensures.text short
    c.loop-rest.invariant.few c.in_ok-tab.ensures.rows c.saturating_add-number.ensures c.in_ok-tab.ensures.rest in
    record {
      all = c.loop-rest.invariant.all ∙ ap (λ r. after lines (lines_from joined_text file number (grouped (rows_in (option_copied r))))) c.in-Some.is ∙ ap (after lines) one ∙ after_line lines _ _
          ∙ ap (λ f. after (lines ++ record { place = record { file = f; line = number }; tab = first.tab; text = first.text } ∷ []) (lines_from joined_text file c.saturating_add-number.result (grouped (rows_in (option_copied first.rest))))) (sym c.in_ok-copy.ensures)
          ∙ ap (λ l. after l (lines_from joined_text file c.saturating_add-number.result (grouped (rows_in (option_copied first.rest))))) (sym c.in_ok-push.ensures.ok);
      few = omega arith;
    }

pub returns : goal.returns
unfolding joined
returns c =
    let lines = c.loop-rest.lines in
    let none : lines_from joined_text c.args.file.now c.loop-rest.number (grouped (rows_in (option_copied c.loop-rest.rest))) ≡ no_more = elim c.match-rest.branch [
      | in-Some+then-is_empty w ↦ ap (λ r. lines_from joined_text c.args.file.now c.loop-rest.number (grouped (rows_in (option_copied r)))) w.in-Some.is ∙ none_left joined_text c.args.file.now w.in-Some.bytes.now c.loop-rest.number w.if-is_empty.ensures
      | in_default w ↦ ap (λ r. lines_from joined_text c.args.file.now c.loop-rest.number (grouped (rows_in (option_copied r)))) w.in_default.is
    ] in
    sym (c.loop-rest.invariant.all ∙ ap (after lines) none ∙ after_all lines)
