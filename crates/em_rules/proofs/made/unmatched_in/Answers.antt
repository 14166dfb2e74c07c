use Rattle.std.proofs.Common.{◌∙◌, ◌+◌, ap, sym, drop, map, cond, Some}
use Rattle.std.specs.Prelude.{find, is_none, option_map}
use Rattle.std.proofs.lemmas.Option.{slice_get-map}
use Rattle.em_base.proofs.Lemmas.{left_at}
use Rattle.em_wordlist.specs.Stems.{stem_of}
use Rattle.em_rules.specs.Dots.{undotted}
use Rattle.em_rules.proofs.Indexing.{get_at}
use Rattle.em_rules.proofs.made.unmatched_in.Goals as goal

pub returns-then-is_unmatched : goal.returns-then-is_unmatched
returns-then-is_unmatched c =
    let targets = c.args.targets.now in
    let i = c.loop-i.i in
    let t = c.index-targets-i.result in
    let left = left_at targets i t c.loop-i-test.true c.index-targets-i.is in (
      c.loop-i-test.true,
      sym c.loop-i.invariant ∙ ap (λ ts. find (λ t. is_none (stem_of c.args.form.now t)) (map undotted ts)) left
          ∙ ap (λ b. cond b (Some (undotted t)) (find (λ t. is_none (stem_of c.args.form.now t)) (map undotted (drop (i + 1) targets)))) (sym c.is_unmatched.ensures ∙ c.if-is_unmatched.true)
          ∙ sym (slice_get-map undotted targets i ∙ ap (option_map undotted) (get_at targets i t c.loop-i-test.true c.index-targets-i.is)),
    )
