use Rattle.std.proofs.Common.{Ok, ap, sym}
use Rattle.std.proofs.lemmas.Result.{err_from_is_err_and}
use Rattle.em_plan.specs.Walking.{asks_for}
use Rattle.em_plan.proofs.Offering.{first_offered, none_offered}
use Rattle.em_plan.proofs.Sought.{makefile_units}
use Rattle.em_plan.proofs.Walks.{need_below, on_ok, on_ok3, on_ok4, on_err, fails_want, fails_need, fails_behind, fails_into, steps_circular, steps_past, steps_into, steps_close}
use Rattle.em_plan.proofs.walk.step.Goals as goal

-- every prerequisite was visited
pub returns-in_default-clause-ok : goal.returns-in_default-clause-ok
returns-in_default-clause-ok g c =
    let none = sym (rw c.in_default.is at c.get.ensures) in
    on_ok3 _ _ _ _ c.close.result (λ begun marks walked. steps_close g.T.There.asks (asks_for c.args.makefile) c.args.frame c.args.walk.now c.close.new.walk c.requires.marked _ none begun marks walked)
    c.close.ensures.begun c.close.ensures.marks c.close.ensures.walked

pub returns-in_default-clause-err : goal.returns-in_default-clause-err
returns-in_default-clause-err g c = on_err _ _ c.close.result (λ e is. fails_want g.T.There.asks _ _ e is) c.close.ensures.only

pub returns-in_err-name-clause-err : goal.returns-in_err-name-clause-err
returns-in_err-name-clause-err g c =
    let p = err_from_is_err_and c.from_residual.result c.from_residual.ensures.1 in
    rw p.1 (fails_want g.T.There.asks _ _ _ p.2)

-- the next one is open
pub drop_circular-requires : goal.drop_circular-requires
drop_circular-requires g c = need_below c.args.frame.making.needs c.args.frame.next c.in-Some.need.now (sym (rw c.in-Some.is at c.get.ensures))

pub returns-in_default-next_place-clause-ok : goal.returns-in_default-next_place-clause-ok
returns-in_default-next_place-clause-ok g c =
    let at = sym (rw c.in-Some.is at c.get.ensures) in
    on_ok _ _ c.drop_circular.result (λ is. steps_circular g.T.There.asks (asks_for c.args.makefile) c.args.frame c.args.walk.now c.drop_circular.new.walk c.requires.marked _ c.in-Some.need.now at
    (rw c.bytes.ensures at c.in_default-next_place.ensures) is)
    (rw (c.bytes-in_default-next_place.ensures, c.in_ok-name.ensures) at c.drop_circular.ensures.ok)

pub returns-in_default-next_place-clause-err : goal.returns-in_default-next_place-clause-err
returns-in_default-next_place-clause-err g c = on_err _ _ c.drop_circular.result (λ e is. fails_want g.T.There.asks _ _ e is) c.drop_circular.ensures.only

-- its units were asked for
pub returns-in_err-asked-clause-err : goal.returns-in_err-asked-clause-err
returns-in_err-asked-clause-err g c =
    let at = sym (rw c.in-Some.is at c.get.ensures) in
    let p = err_from_is_err_and c.from_residual-in_err-asked.result c.from_residual-in_err-asked.ensures.1 in
    rw p.1 (fails_need g.T.There.asks (asks_for c.args.makefile) c.args.frame c.args.walk.now c.args.walk.now c.requires.marked _ _ c.in-Some.need.now at
    (rw c.bytes.ensures at c.in-Some-next_place.ensures.0) _ _ c.in_err-asked.ensures.unrefused p.2 (rw c.bytes-2.ensures at c.in_err-asked.ensures.next))

pub pass-requires : goal.pass-requires
pass-requires g c = need_below c.args.frame.making.needs c.args.frame.next c.in-Some.need.now (sym (rw c.in-Some.is at c.get.ensures))

pub returns-in_default-asked-clause-ok : goal.returns-in_default-asked-clause-ok
returns-in_default-asked-clause-ok g c =
    let at = sym (rw c.in-Some.is at c.get.ensures) in
    let none = none_offered g.T.There.asks _ _ _ _ (ap Ok c.in_default-asked.is) (rw c.bytes-2.ensures at c.in_ok-asked.ensures.next) in
    on_ok _ _ c.pass.result (λ is. steps_past g.T.There.asks (asks_for c.args.makefile) c.args.frame c.args.walk.now c.pass.new.walk c.requires.marked c.in-Some.need.now at
    (rw c.bytes.ensures at c.in-Some-next_place.ensures.0) none is) c.pass.ensures.ok

pub returns-in_default-asked-clause-err : goal.returns-in_default-asked-clause-err
returns-in_default-asked-clause-err g c =
    let at = sym (rw c.in-Some.is at c.get.ensures) in
    let none = none_offered g.T.There.asks _ _ _ _ (ap Ok c.in_default-asked.is) (rw c.bytes-2.ensures at c.in_ok-asked.ensures.next) in
    on_err _ _ c.pass.result (λ e is. fails_behind g.T.There.asks (asks_for c.args.makefile) c.args.frame c.args.walk.now c.args.walk.now c.requires.marked _ _ c.in-Some.need.now at
    (rw c.bytes.ensures at c.in-Some-next_place.ensures.0) _ none e is) c.pass.ensures.only

pub returns-in_err-name-2-clause-err : goal.returns-in_err-name-2-clause-err
returns-in_err-name-2-clause-err g c =
    let at = sym (rw c.in-Some.is at c.get.ensures) in
    let h = first_offered g.T.There.asks _ _ _ _ _ (ap Ok c.in-Some-asked.is) (rw c.bytes-2.ensures at c.in_ok-asked.ensures.next) in
    let p = err_from_is_err_and c.from_residual-in_err-name-2.result c.from_residual-in_err-name-2.ensures.1 in
    rw p.1 (fails_behind g.T.There.asks (asks_for c.args.makefile) c.args.frame c.args.walk.now c.args.walk.now c.requires.marked _ _ c.in-Some.need.now at
    (rw c.bytes.ensures at c.in-Some-next_place.ensures.0) _ h.1 _ p.2)

pub returns-clause-ok : goal.returns-clause-ok
returns-clause-ok g c =
    let at = sym (rw c.in-Some.is at c.get.ensures) in
    let h = first_offered g.T.There.asks _ _ _ _ _ (ap Ok c.in-Some-asked.is) (rw c.bytes-2.ensures at c.in_ok-asked.ensures.next) in
    let few = rw c.in-Some-asked.is at c.in_ok-asked.ensures.few in
    on_ok4 _ _ _ _ _ c.go_into.result
    (λ room begun marks walked. steps_into g.T.There.asks (asks_for c.args.makefile) c.args.frame c.args.walk.now c.go_into.new.walk c.requires.marked (makefile_units c.args.makefile) c.in-Some.need.now _ _ at
    (rw c.bytes.ensures at c.in-Some-next_place.ensures.0) h.1 few room begun marks walked)
    c.go_into.ensures.room (rw c.in_ok-name-2.ensures at c.go_into.ensures.begun) c.go_into.ensures.marks c.go_into.ensures.walked

pub returns-clause-err : goal.returns-clause-err
returns-clause-err g c =
    let at = sym (rw c.in-Some.is at c.get.ensures) in
    let h = first_offered g.T.There.asks _ _ _ _ _ (ap Ok c.in-Some-asked.is) (rw c.bytes-2.ensures at c.in_ok-asked.ensures.next) in
    on_err _ _ c.go_into.result (λ e why. fails_into g.T.There.asks (asks_for c.args.makefile) c.args.frame c.args.walk.now c.args.walk.now c.requires.marked _ _ c.in-Some.need.now _ _ at
    (rw c.bytes.ensures at c.in-Some-next_place.ensures.0) h.1 e why) c.go_into.ensures.err
