use Rattle.std.proofs.Common.{◌∙◌, ◌++◌, ◌+◌, List, ℕ, ap, sym, drop, append_assoc, append-nil}
use Rattle.em_base.proofs.Lemmas.{left_at, none_at}
use Rattle.em_fileutil.specs.Listing.{lines, shown}
use Rattle.em_fileutil.proofs.list.list_text.Goals as goal

pub loop-entry-preserved : goal.loop-entry-preserved
loop-entry-preserved c =
    let how = c.args.how in
    let name = c.entry-item.result in
    let rest = drop (c.loop-entry.entry-index + 1) c.args.inside.now in
    let left = left_at c.args.inside.now c.loop-entry.entry-index name c.loop-entry-test.true c.entry-item.is in
    ap (λ (t : List ℕ). t ++ lines how rest) (rw c.bytes.ensures at c.in_ok-text-2.ensures) ∙ append_assoc c.loop-entry.text (shown how name) (lines how rest) ∙ rw left at c.loop-entry.invariant

pub returns : goal.returns
returns c =
    let none = none_at c.args.inside.now c.loop-entry.entry-index c.loop-entry-test.false in
    sym (append-nil c.loop-entry.text) ∙ rw none at c.loop-entry.invariant
