use Rattle.std.proofs.Common.{◌∙◌, ap, List, ℕ, Bor, rules, tests, length, nat_lt}
use Rattle.std.specs.Slice.Iter.{split_rest, split_done, split_callee}
use Rattle.std.proofs.lemmas.Iterator.Consumers.{count_from_yields_List, YieldsList-from_filter}
use Rattle.std.proofs.lemmas.Iterator.Splits.{YieldsList-from_slice_split}
use Rattle.em_lineutil.specs.Lines.{is_space}
use Rattle.em_lineutil.proofs.count.word_count.Goals as goal

pub returns : goal.returns
returns c =
    count_from_yields_List {v = λ (w : Bor (List ℕ)). w.now} c.filter.result c.count.result c.count.ensures.ran
    (YieldsList-from_filter {s = c.filter.result} _ (λ w. nat_lt 0 (length w))
    (YieldsList-from_slice_split {s = c.filter.result.iter} _ is_space c.args.text.now (ap split_rest c.filter.ensures.source ∙ c.split.ensures.rest) (ap split_done c.filter.ensures.source ∙ c.split.ensures.done) (ap split_callee c.filter.ensures.source ∙ c.split.ensures.closure) (λ x r q k. search (rules, tests)))
    c.filter.ensures.closure (λ x b q k. search (rules, tests)))
