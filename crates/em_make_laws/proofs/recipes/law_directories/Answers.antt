use Rattle.em_make_laws.proofs.Recipe.{directories_read, files_read}
use Rattle.em_make_laws.proofs.recipes.law_directories.Goals as goal

pub returns : goal.returns
returns c = record { directories = directories_read c.law_automatic.ensures.own; files = files_read c.law_automatic.ensures.own }
