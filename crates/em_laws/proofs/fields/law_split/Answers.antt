use Rattle.em_laws.proofs.Splitting.{fields_parted, fields_one, glyphs_marked}
use Rattle.em_laws.proofs.fields.law_split.Goals as goal

pub returns-clause-parted : goal.returns-clause-parted
returns-clause-parted c = fields_parted

pub returns-clause-one : goal.returns-clause-one
returns-clause-one c = fields_one

pub returns-clause-text : goal.returns-clause-text
returns-clause-text c = glyphs_marked
