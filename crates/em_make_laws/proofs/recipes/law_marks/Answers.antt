use Rattle.em_make_laws.proofs.Recipe.{marked_silent, marked_lenient, marked_forced, marked_blank, marked_plain}
use Rattle.em_make_laws.proofs.recipes.law_marks.Goals as goal

pub returns : goal.returns
returns c = record { silent = marked_silent; lenient = marked_lenient; forced = marked_forced; blank = marked_blank; plain = marked_plain }
