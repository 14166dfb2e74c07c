use Rattle.std.proofs.Common.{◌≡◌, suc, true, ◌++◌, cond, drop, drop-cons, append-nil, sym, ap, ◌∙◌}
use Rattle.std.specs.List.{list_any}
use Rattle.std.proofs.lemmas.List.{take_rest}
use Rattle.em_base.proofs.Lemmas.{none_at}
use Rattle.em_refs.specs.Parts.{left}
use Rattle.em_lines.specs.Comments.{bare, bare_parts}
use Rattle.em_lines.proofs.Bared.{is_hash, bare_none}
use Rattle.em_lines.proofs.comment.bare.Goals as goal
use Rattle.em_lines.proofs.comment.bare.Goals.{in-Some+in_ok-add, in_default}

pub returns-then-not-contains-clause-text : goal.returns-then-not-contains-clause-text
returns-then-not-contains-clause-text c = sym (bare_none c.args.line (ap (list_any is_hash) (sym c.bytes.ensures) ∙ sym c.contains.ensures.value ∙ c.if-not-contains.true))

pub returns-then-branch-clause-text : goal.returns-then-branch-clause-text
unfolding bare
returns-then-branch-clause-text c =
    let bytes = c.bytes-bytes.result.now in
    let parts = c.items-part-items.result.now in
    let i = c.loop-part.part-index in
    let behind = left bytes c.in_ok-parts.field-0.unclosed in
    let more = drop (suc i) parts in
    sym (ap bare (sym c.bytes-bytes.ensures) ∙ c.loop-part.invariant ∙ ap (λ ps. c.loop-part.text ++ bare_parts bytes ps behind) (drop-cons parts i _ c.loop-part-test.true) ∙ c.in_ok-add_part.ensures more behind
    ∙ ap (λ b. cond b c.add_part.new.text (c.add_part.new.text ++ bare_parts bytes more behind)) c.if-branch.true)

pub returns-clause-text : goal.returns-clause-text
unfolding bare
returns-clause-text c =
    let bytes = c.bytes-bytes.result.now in
    let text = c.loop-part.text in
    let whole : bare c.args.line ≡ text ++ left bytes c.in_ok-parts.field-0.unclosed =
    ap bare (sym c.bytes-bytes.ensures) ∙ c.loop-part.invariant ∙ ap (λ ps. text ++ bare_parts bytes ps (left bytes c.in_ok-parts.field-0.unclosed)) (none_at c.items-part-items.result.now c.loop-part.part-index c.loop-part-test.false) in
    elim c.match-unclosed.branch [
      | in-Some+in_ok-add w ↦ w.text-is ∙ w.in_ok-add.ensures.ok ∙ ap (λ r. text ++ r) (w.of.ensures ∙ take_rest bytes _) ∙ sym (whole ∙ ap (λ u. text ++ left bytes u) w.in-Some.is)
      | in_default w ↦ w.text-is ∙ sym (whole ∙ ap (λ u. text ++ left bytes u) w.in_default.is ∙ append-nil text)
    ]

pub returns-clause-plain : goal.returns-clause-plain
returns-clause-plain c = λ none. absurd (let some : list_any is_hash c.args.line ≡ true = ap (list_any is_hash) (sym c.bytes.ensures) ∙ sym c.contains.ensures.value ∙ c.if-not-contains.false in cc)
