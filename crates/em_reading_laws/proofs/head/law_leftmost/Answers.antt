use Rattle.em_reading_laws.proofs.Leftmost.{whole_law, known_law, any_law, known_any}
use Rattle.em_reading_laws.proofs.head.law_leftmost.Goals as goal

pub returns : goal.returns
returns c = record { whole = whole_law; known = known_law; whole_any = any_law; known_any = known_any }
