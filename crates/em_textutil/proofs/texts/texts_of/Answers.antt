use Rattle.std.proofs.Common.{◌≡◌, ◌∙◌, ◌+◌, ◌++◌, drop, List, ℕ, Bor, map, ap, sym, append_assoc, append-nil}
use Rattle.em_base.proofs.Lemmas.{left_at, none_at}
use Rattle.em_textutil.specs.Jobs.{text_of, texts_of}
use Rattle.em_textutil.proofs.texts.texts_of.Goals as goal

pub loop-source-preserved : goal.loop-source-preserved
loop-source-preserved c =
    let left = left_at c.args.sources.now c.loop-source.source-index c.source-item.result c.loop-source-test.true c.source-item.is in
    let inv = rw left at c.loop-source.invariant in
    rw c.in_ok-push_text.ensures (append_assoc (map (λ (t : Bor (List ℕ)). t.now) c.loop-source.texts.items) (text_of c.source-item.result.found) (texts_of (drop (c.loop-source.source-index + 1) c.args.sources.now)) ∙ inv)

pub returns : goal.returns
returns c =
    let none = none_at c.args.sources.now c.loop-source.source-index c.loop-source-test.false in
    sym (append-nil _) ∙ rw none at c.loop-source.invariant
