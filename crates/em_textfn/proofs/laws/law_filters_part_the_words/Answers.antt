use Rattle.std.proofs.Common.{refl, not}
use Rattle.std.proofs.lemmas.List.Sorted.{IsPermutation-filter_both}
use Rattle.em_textfn.specs.Texts.{matches}
use Rattle.em_textfn.proofs.Listing.{filters_apart}
use Rattle.em_textfn.proofs.laws.law_filters_part_the_words.Goals as goal

pub returns-clause-together : goal.returns-clause-together
returns-clause-together c = λ patterns words. IsPermutation-filter_both (matches patterns) (λ w. not (matches patterns w)) (λ w. refl) words

pub returns-clause-apart : goal.returns-clause-apart
returns-clause-apart c = λ patterns words w. filters_apart (matches patterns) words w
