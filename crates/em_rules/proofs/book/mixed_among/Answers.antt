use Rattle.std.proofs.Common.{◌≡◌, true, ◌∙◌, ◌+◌, ap, sym, drop, map, cond, Some}
use Rattle.std.specs.Prelude.{find, option_map}
use Rattle.std.proofs.lemmas.Option.{slice_get-map}
use Rattle.em_base.proofs.Lemmas.{left_at}
use Rattle.em_rules.specs.Dots.{undotted}
use Rattle.em_rules.specs.Books.{has_other}
use Rattle.em_rules.proofs.Indexing.{get_at}
use Rattle.em_rules.proofs.book.mixed_among.Goals as goal

pub returns-then-has_other : goal.returns-then-has_other
returns-then-has_other c =
    let targets = c.args.targets.now in
    let i = c.loop-i.i in
    let t = c.index-targets-i.result in
    let test = has_other c.args.kind c.args.rules.now in
    let left = left_at targets i t c.loop-i-test.true c.index-targets-i.is in
    let is : test (undotted t) ≡ true = ap test (sym (c.undotted.ensures.name ∙ ap undotted c.bytes.ensures)) ∙ sym c.has_other.ensures ∙ c.if-has_other.true in (
      c.loop-i-test.true,
      sym c.loop-i.invariant ∙ ap (λ ts. find test (map undotted ts)) left
          ∙ ap (λ b. cond b (Some (undotted t)) (find test (map undotted (drop (i + 1) targets)))) is
          ∙ sym (slice_get-map undotted targets i ∙ ap (option_map undotted) (get_at targets i t c.loop-i-test.true c.index-targets-i.is)),
    )
