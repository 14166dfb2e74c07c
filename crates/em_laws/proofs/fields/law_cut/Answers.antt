use Rattle.em_laws.proofs.Splitting.{short_end, long_end, short_front, long_front}
use Rattle.em_laws.proofs.fields.law_cut.Goals as goal

pub returns-clause-short_end : goal.returns-clause-short_end
returns-clause-short_end c = short_end c.law_fits.ensures

pub returns-clause-long_end : goal.returns-clause-long_end
returns-clause-long_end c = long_end c.law_fits.ensures

pub returns-clause-short_front : goal.returns-clause-short_front
returns-clause-short_front c = short_front c.law_fits.ensures

pub returns-clause-long_front : goal.returns-clause-long_front
returns-clause-long_front c = long_front c.law_fits.ensures
