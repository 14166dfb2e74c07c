use Rattle.em_reader.proofs.makefiles.makefile_of.Goals as goal

pub returns-in-None : goal.returns-in-None
returns-in-None g c = rw c.in-None.is c.first_file.ensures
