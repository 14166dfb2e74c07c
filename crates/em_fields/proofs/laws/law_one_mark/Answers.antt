use Rattle.em_fields.proofs.Joining.{joined_fields, joined_glyphs}
use Rattle.em_fields.proofs.laws.law_one_mark.Goals as goal

pub returns-clause-fields : goal.returns-clause-fields
returns-clause-fields c = joined_fields

pub returns-clause-glyphs : goal.returns-clause-glyphs
returns-clause-glyphs c = joined_glyphs
