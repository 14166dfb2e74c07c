use Rattle.em_laws.proofs.Lining.{counted_lines, counted_word, counted_words, written_alone, written_counts}
use Rattle.em_laws.proofs.texts.law_count.Goals as goal

pub returns-clause-lines : goal.returns-clause-lines
returns-clause-lines c = counted_lines

pub returns-clause-word : goal.returns-clause-word
returns-clause-word c = counted_word

pub returns-clause-words : goal.returns-clause-words
returns-clause-words c = counted_words

pub returns-clause-written : goal.returns-clause-written
returns-clause-written c = written_counts

pub returns-clause-alone : goal.returns-clause-alone
returns-clause-alone c = written_alone
