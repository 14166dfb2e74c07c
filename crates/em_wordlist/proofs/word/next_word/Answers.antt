use Rattle.std.proofs.Common.{◌+◌, ◌∙◌, not, length, sym, arith}
use Rattle.std.proofs.lemmas.Bool.{not-false}
use Rattle.em_base.specs.Blanks.{is_blank}
use Rattle.em_base.proofs.Lemmas.{runs_to, runs_out}
use Rattle.em_wordlist.proofs.Wording.{word_of_runs}
use Rattle.em_wordlist.proofs.word.next_word.Goals as goal

pub returns-in_default : goal.returns-in_default
returns-in_default c = λ i low high.
    let blanks = runs_out (λ b. not (is_blank b)) c.args.text.now c.args.at c.requires.within (sym c.plain_at.ensures ∙ c.in_default.is) in
    not-false _ (blanks.fails i low high)

pub returns-in-Some-blank_at : goal.returns-in-Some-blank_at
returns-in-Some-blank_at c =
    let text = c.args.text.now in
    let start = c.args.at + c.in-Some.blanks in
    let blanks = runs_to (λ b. not (is_blank b)) text c.args.at c.in-Some.blanks c.requires.within (sym c.plain_at.ensures ∙ c.in-Some.is) in
    let plain = runs_to is_blank text start c.in-Some-blank_at.length (omega arith) (sym c.blank_at.ensures ∙ c.in-Some-blank_at.is) in
    (word_of_runs text c.args.at start (start + c.in-Some-blank_at.length) c.requires.apart blanks.0 blanks.1 plain.0, omega arith, λ i low high. not-false _ (blanks.0.fails i low high))

pub returns-in-None : goal.returns-in-None
returns-in-None c =
    let text = c.args.text.now in
    let start = c.args.at + c.in-Some.blanks in
    let blanks = runs_to (λ b. not (is_blank b)) text c.args.at c.in-Some.blanks c.requires.within (sym c.plain_at.ensures ∙ c.in-Some.is) in
    let plain = runs_out is_blank text start (omega arith) (sym c.blank_at.ensures ∙ c.in-None.is) in
    (word_of_runs text c.args.at start (length text) c.requires.apart blanks.0 blanks.1 plain, omega arith, λ i low high. not-false _ (blanks.0.fails i low high))
