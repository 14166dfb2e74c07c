use Rattle.em_laws.proofs.Numbering.{above_all, first_old, later_old, make_old, place_old, put_old, remove_old, touch_old}
use Rattle.em_laws.proofs.desk.law_newest.Goals as goal

pub returns-clause-first : goal.returns-clause-first
returns-clause-first c = first_old

pub returns-clause-put : goal.returns-clause-put
returns-clause-put c = put_old

pub returns-clause-place : goal.returns-clause-place
returns-clause-place c = place_old

pub returns-clause-make : goal.returns-clause-make
returns-clause-make c = make_old

pub returns-clause-remove : goal.returns-clause-remove
returns-clause-remove c = remove_old

pub returns-clause-touch : goal.returns-clause-touch
returns-clause-touch c = touch_old

pub returns-clause-above : goal.returns-clause-above
returns-clause-above c = above_all

pub returns-clause-later : goal.returns-clause-later
returns-clause-later c = later_old
