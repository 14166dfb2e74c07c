use Rattle.std.specs.Prelude.{Result, OnOk}
use Rattle.std.specs.BTreeSet.{Updates}
use Rattle.em_insight.specs.Queues.{pairs, IsSynced, IsLoose}
use Rattle.em_insight.specs.Jobs.{refusal}
use Rattle.std.proofs.Common.{true, None, [], ◌∷◌, ◌++◌, set, ◌≡◌, ◌∙◌, ◌<◌, ◌≤◌, ℕ, List, Some, length, take, get_or, slice_get, sym, ap, subst, arith}
use Rattle.std.proofs.lemmas.Option.{get_or_from_slice_get}
use Rattle.em_report.specs.declared.report.ReportLine.{ReportLine}
use Rattle.em_insight.specs.declared.queue.Place.{Place}
use Rattle.em_insight.specs.declared.queue.Place.TheVariants.{Held, Coming}
use Rattle.em_insight.specs.declared.queue.Queue.{Queue}
use Rattle.em_insight.specs.Each.{Each}
use Rattle.em_insight.specs.Jobs.{waits_at}
use Rattle.em_insight.specs.Queues.{IsDue, IsUnstarted}
use Rattle.em_insight.proofs.Lists.{each_map, on_ok, on_both}
use Rattle.em_insight.proofs.Linking.{sound, each_at, take_whole}
use Rattle.em_insight.proofs.Filing.{at_of, waits_are, loose_due, same_filed, filed_coming, filed_held, Filed}
use Rattle.em_insight.proofs.queue.Queue.file.Goals as goal

-- what the parts found, of the job's waits
record Parts (ls : List ReportLine) (q : Queue) (job next due : ℕ) (waits : List ℕ) : Type 0 where
  at : slice_get q.places.items job ≡ Some (Held next due)
  waits_is : waits ≡ waits_at ls job
  promised : IsDue q.places.items (take next waits) due × (next ≤ length waits)
  small : Each (λ w. w < length ls) waits

parts : (ls : List ReportLine) (q : Queue) (job next due : ℕ) (waits : List ℕ) (x : Place) (l : ReportLine) → refusal ls ≡ None → job < length ls → IsSynced ls q → IsLoose ls q job → x ≡ get_or q.places.items job x → x ≡ Held next due
    → l ≡ get_or ls job l → waits ≡ l.waits → Parts ls q job next due waits
parts ls q job next due waits x l ok lt s loose is held line w =
    let at : slice_get q.places.items job ≡ Some (Held next due) = at_of q.places.items job x (Held next due) (omega (arith, lt, s.places)) (sym is ∙ held) in
    let we : waits ≡ waits_at ls job = w ∙ waits_are ls job l lt line in
    record {
      at = at;
      waits_is = we;
      promised = subst (λ ws. IsDue q.places.items (take next ws) due × (next ≤ length ws)) (sym we) (loose_due ls q job next due loose at);
      small = subst (Each (λ w. w < length ls)) (sym we) (each_map (λ w. w < job) (λ w. w < length ls) (waits_at ls job) (λ w k. omega (arith, k, lt)) ((sound ls ok).below job));
    }

came : {E : Type 0} (ls : List ReportLine) (q r : Queue) (job next due stop end : ℕ) (waits : List ℕ) (ps : List Place) (res : Result (Unit {0}) E) → Parts ls q job next due waits → IsSynced ls q → job < length ls → ps ≡ q.places.items
    → stop ≡ length waits → IsDue ps (take stop waits) end → OnOk res (r.places.items ≡ set q.places.items job (Coming end)) → r.held.items ≡ q.held.items → r.ready ≡ q.ready
    → OnOk res (Updates pairs q.coming r.coming (end, job) true) → OnOk res (Filed ls q r job)
came ls q r job next due stop end waits ps res p s lt e all d places held ready coming =
    let whole : take stop waits ≡ waits_at ls job = take_whole waits stop (omega (arith, all)) ∙ p.waits_is in
    let new : IsDue q.places.items (waits_at ls job) end = subst (λ z. IsDue z (waits_at ls job) end) e (subst (λ ws. IsDue ps ws end) whole d) in
    on_both res (λ is up. filed_coming ls q r job next due end s lt p.at is held ready up new) places coming

stays : {E : Type 0} (ls : List ReportLine) (q r : Queue) (job next due stop end : ℕ) (waits : List ℕ) (ps : List Place) (res : Result (Unit {0}) E) → Parts ls q job next due waits → IsSynced ls q → job < length ls → ps ≡ q.places.items
    → stop < length waits → IsDue ps (take stop waits) end → IsUnstarted ps (get_or waits stop 0) → OnOk res (r.places.items ≡ set q.places.items job (Held stop end))
    → OnOk res (r.held.items ≡ set q.held.items (get_or waits stop 0) (get_or q.held.items (get_or waits stop 0) [] ++ job ∷ [])) → r.ready ≡ q.ready → r.coming ≡ q.coming → OnOk res (Filed ls q r job)
stays ls q r job next due stop end waits ps res p s lt e some d un places held ready coming =
    let new : IsDue q.places.items (take stop (waits_at ls job)) end = subst (λ z. IsDue z (take stop (waits_at ls job)) end) e (subst (λ ws. IsDue ps (take stop ws) end) p.waits_is d) in
    on_both res (λ is more. filed_held ls q r job next due stop end (get_or waits stop 0) s lt p.at is more (each_at (λ w. w < length ls) waits stop some p.small) ready coming
    (ap (λ ws. get_or ws stop 0) p.waits_is) (subst (λ ws. stop < length ws) p.waits_is some) (subst (λ z. IsUnstarted z (get_or waits stop 0)) e un) new) places held

pub returns-in_default : goal.returns-in_default
returns-in_default c = record {
  synced = c.requires.synced;
  filed = same_filed c.args.lines.now c.args.self.now c.args.job (λ next due e. c.in_default.not-Held next due (c.index.ensures ∙ get_or_from_slice_get c.args.self.now.places.items c.args.job (Held next due) _ e)) c.requires.loose;
  others = λ j h. h;
  loose = λ j h. h;
  starts = λ j e. ((λ h. h), (λ h. h));
  ready = λ j due h. h;
}

pub advance-next-requires-clause-begun : goal.advance-next-requires-clause-begun
advance-next-requires-clause-begun c = (parts c.args.lines.now c.args.self.now c.args.job c.in-Held.next c.in-Held.due c.items-waits.result.now c.index.result.now c.index-lines-job.result c.requires.order c.requires.known c.requires.synced c.requires.loose c.index.ensures c.in-Held.is c.index-lines-job.is (c.items-waits.ensures ∙ sym (ap (λ (z : ReportLine). z.waits) c.index-lines-job.is))).promised.1

pub advance-next-requires-clause-within : goal.advance-next-requires-clause-within
advance-next-requires-clause-within c =
    each_map (λ w. w < length c.args.lines.now) (λ w. w < length c.as_slice.result.now) c.items-waits.result.now (λ w k. omega (arith, k, ap (λ (z : List Place). length z) c.as_slice.ensures.value, c.requires.synced.places))
    (parts c.args.lines.now c.args.self.now c.args.job c.in-Held.next c.in-Held.due c.items-waits.result.now c.index.result.now c.index-lines-job.result c.requires.order c.requires.known c.requires.synced c.requires.loose c.index.ensures c.in-Held.is c.index-lines-job.is (c.items-waits.ensures ∙ sym (ap (λ (z : ReportLine). z.waits) c.index-lines-job.is))).small

pub advance-next-requires-clause-due : goal.advance-next-requires-clause-due
advance-next-requires-clause-due c = subst (λ z. IsDue z (take c.in-Held.next c.items-waits.result.now) c.in-Held.due) (sym c.as_slice.ensures.value) (parts c.args.lines.now c.args.self.now c.args.job c.in-Held.next c.in-Held.due c.items-waits.result.now c.index.result.now c.index-lines-job.result c.requires.order c.requires.known c.requires.synced c.requires.loose c.index.ensures c.in-Held.is c.index-lines-job.is (c.items-waits.ensures ∙ sym (ap (λ (z : ReportLine). z.waits) c.index-lines-job.is))).promised.0

pub hold-requires-clause-wait : goal.hold-requires-clause-wait
hold-requires-clause-wait c =
    let small : get_or c.items-waits.result.now c.advance-next.result.0 0 < length c.args.lines.now = each_at (λ w. w < length c.args.lines.now) c.items-waits.result.now c.advance-next.result.0 (omega (arith, c.if-next-waits.false, c.advance-next.ensures.stops)) (parts c.args.lines.now c.args.self.now c.args.job c.in-Held.next c.in-Held.due c.items-waits.result.now c.index.result.now c.index-lines-job.result c.requires.order c.requires.known c.requires.synced c.requires.loose c.index.ensures c.in-Held.is c.index-lines-job.is (c.items-waits.ensures ∙ sym (ap (λ (z : ReportLine). z.waits) c.index-lines-job.is))).small in
    omega (arith, small, c.requires.synced.helds)

pub returns-then-next-waits-clause-synced : goal.returns-then-next-waits-clause-synced
returns-then-next-waits-clause-synced c = on_ok c.come.result (λ (f : Filed c.args.lines.now c.args.self.now c.come.new.self c.args.job). f.synced)
    (came c.args.lines.now c.args.self.now c.come.new.self c.args.job c.in-Held.next c.in-Held.due c.advance-next.result.0 c.advance-next.result.1 c.items-waits.result.now c.as_slice.result.now c.come.result (parts c.args.lines.now c.args.self.now c.args.job c.in-Held.next c.in-Held.due c.items-waits.result.now c.index.result.now c.index-lines-job.result c.requires.order c.requires.known c.requires.synced c.requires.loose c.index.ensures c.in-Held.is c.index-lines-job.is (c.items-waits.ensures ∙ sym (ap (λ (z : ReportLine). z.waits) c.index-lines-job.is))) c.requires.synced c.requires.known c.as_slice.ensures.value c.if-next-waits.true c.advance-next.ensures.due c.come.ensures.places c.come.ensures.held c.come.ensures.ready c.come.ensures.coming)

pub returns-then-next-waits-clause-filed : goal.returns-then-next-waits-clause-filed
returns-then-next-waits-clause-filed c = on_ok c.come.result (λ (f : Filed c.args.lines.now c.args.self.now c.come.new.self c.args.job). f.again.filed)
    (came c.args.lines.now c.args.self.now c.come.new.self c.args.job c.in-Held.next c.in-Held.due c.advance-next.result.0 c.advance-next.result.1 c.items-waits.result.now c.as_slice.result.now c.come.result (parts c.args.lines.now c.args.self.now c.args.job c.in-Held.next c.in-Held.due c.items-waits.result.now c.index.result.now c.index-lines-job.result c.requires.order c.requires.known c.requires.synced c.requires.loose c.index.ensures c.in-Held.is c.index-lines-job.is (c.items-waits.ensures ∙ sym (ap (λ (z : ReportLine). z.waits) c.index-lines-job.is))) c.requires.synced c.requires.known c.as_slice.ensures.value c.if-next-waits.true c.advance-next.ensures.due c.come.ensures.places c.come.ensures.held c.come.ensures.ready c.come.ensures.coming)

pub returns-then-next-waits-clause-others : goal.returns-then-next-waits-clause-others
returns-then-next-waits-clause-others c = on_ok c.come.result (λ (f : Filed c.args.lines.now c.args.self.now c.come.new.self c.args.job). f.again.others)
    (came c.args.lines.now c.args.self.now c.come.new.self c.args.job c.in-Held.next c.in-Held.due c.advance-next.result.0 c.advance-next.result.1 c.items-waits.result.now c.as_slice.result.now c.come.result (parts c.args.lines.now c.args.self.now c.args.job c.in-Held.next c.in-Held.due c.items-waits.result.now c.index.result.now c.index-lines-job.result c.requires.order c.requires.known c.requires.synced c.requires.loose c.index.ensures c.in-Held.is c.index-lines-job.is (c.items-waits.ensures ∙ sym (ap (λ (z : ReportLine). z.waits) c.index-lines-job.is))) c.requires.synced c.requires.known c.as_slice.ensures.value c.if-next-waits.true c.advance-next.ensures.due c.come.ensures.places c.come.ensures.held c.come.ensures.ready c.come.ensures.coming)

pub returns-then-next-waits-clause-loose : goal.returns-then-next-waits-clause-loose
returns-then-next-waits-clause-loose c = on_ok c.come.result (λ (f : Filed c.args.lines.now c.args.self.now c.come.new.self c.args.job). f.again.loose)
    (came c.args.lines.now c.args.self.now c.come.new.self c.args.job c.in-Held.next c.in-Held.due c.advance-next.result.0 c.advance-next.result.1 c.items-waits.result.now c.as_slice.result.now c.come.result (parts c.args.lines.now c.args.self.now c.args.job c.in-Held.next c.in-Held.due c.items-waits.result.now c.index.result.now c.index-lines-job.result c.requires.order c.requires.known c.requires.synced c.requires.loose c.index.ensures c.in-Held.is c.index-lines-job.is (c.items-waits.ensures ∙ sym (ap (λ (z : ReportLine). z.waits) c.index-lines-job.is))) c.requires.synced c.requires.known c.as_slice.ensures.value c.if-next-waits.true c.advance-next.ensures.due c.come.ensures.places c.come.ensures.held c.come.ensures.ready c.come.ensures.coming)

pub returns-then-next-waits-clause-starts : goal.returns-then-next-waits-clause-starts
returns-then-next-waits-clause-starts c = on_ok c.come.result (λ (f : Filed c.args.lines.now c.args.self.now c.come.new.self c.args.job). f.again.starts)
    (came c.args.lines.now c.args.self.now c.come.new.self c.args.job c.in-Held.next c.in-Held.due c.advance-next.result.0 c.advance-next.result.1 c.items-waits.result.now c.as_slice.result.now c.come.result (parts c.args.lines.now c.args.self.now c.args.job c.in-Held.next c.in-Held.due c.items-waits.result.now c.index.result.now c.index-lines-job.result c.requires.order c.requires.known c.requires.synced c.requires.loose c.index.ensures c.in-Held.is c.index-lines-job.is (c.items-waits.ensures ∙ sym (ap (λ (z : ReportLine). z.waits) c.index-lines-job.is))) c.requires.synced c.requires.known c.as_slice.ensures.value c.if-next-waits.true c.advance-next.ensures.due c.come.ensures.places c.come.ensures.held c.come.ensures.ready c.come.ensures.coming)

pub returns-then-next-waits-clause-ready : goal.returns-then-next-waits-clause-ready
returns-then-next-waits-clause-ready c = on_ok c.come.result (λ (f : Filed c.args.lines.now c.args.self.now c.come.new.self c.args.job). f.ready)
    (came c.args.lines.now c.args.self.now c.come.new.self c.args.job c.in-Held.next c.in-Held.due c.advance-next.result.0 c.advance-next.result.1 c.items-waits.result.now c.as_slice.result.now c.come.result (parts c.args.lines.now c.args.self.now c.args.job c.in-Held.next c.in-Held.due c.items-waits.result.now c.index.result.now c.index-lines-job.result c.requires.order c.requires.known c.requires.synced c.requires.loose c.index.ensures c.in-Held.is c.index-lines-job.is (c.items-waits.ensures ∙ sym (ap (λ (z : ReportLine). z.waits) c.index-lines-job.is))) c.requires.synced c.requires.known c.as_slice.ensures.value c.if-next-waits.true c.advance-next.ensures.due c.come.ensures.places c.come.ensures.held c.come.ensures.ready c.come.ensures.coming)

pub returns-else-next-waits-clause-synced : goal.returns-else-next-waits-clause-synced
returns-else-next-waits-clause-synced c = on_ok c.hold.result (λ (f : Filed c.args.lines.now c.args.self.now c.hold.new.self c.args.job). f.synced)
    (let lt : c.advance-next.result.0 < length c.items-waits.result.now = omega (arith, c.if-next-waits.false, c.advance-next.ensures.stops) in stays c.args.lines.now c.args.self.now c.hold.new.self c.args.job c.in-Held.next c.in-Held.due c.advance-next.result.0 c.advance-next.result.1 c.items-waits.result.now c.as_slice.result.now c.hold.result (parts c.args.lines.now c.args.self.now c.args.job c.in-Held.next c.in-Held.due c.items-waits.result.now c.index.result.now c.index-lines-job.result c.requires.order c.requires.known c.requires.synced c.requires.loose c.index.ensures c.in-Held.is c.index-lines-job.is (c.items-waits.ensures ∙ sym (ap (λ (z : ReportLine). z.waits) c.index-lines-job.is))) c.requires.synced c.requires.known c.as_slice.ensures.value lt c.advance-next.ensures.due (c.advance-next.ensures.held lt) c.hold.ensures.places c.hold.ensures.held c.hold.ensures.ready c.hold.ensures.coming)

pub returns-else-next-waits-clause-filed : goal.returns-else-next-waits-clause-filed
returns-else-next-waits-clause-filed c = on_ok c.hold.result (λ (f : Filed c.args.lines.now c.args.self.now c.hold.new.self c.args.job). f.again.filed)
    (let lt : c.advance-next.result.0 < length c.items-waits.result.now = omega (arith, c.if-next-waits.false, c.advance-next.ensures.stops) in stays c.args.lines.now c.args.self.now c.hold.new.self c.args.job c.in-Held.next c.in-Held.due c.advance-next.result.0 c.advance-next.result.1 c.items-waits.result.now c.as_slice.result.now c.hold.result (parts c.args.lines.now c.args.self.now c.args.job c.in-Held.next c.in-Held.due c.items-waits.result.now c.index.result.now c.index-lines-job.result c.requires.order c.requires.known c.requires.synced c.requires.loose c.index.ensures c.in-Held.is c.index-lines-job.is (c.items-waits.ensures ∙ sym (ap (λ (z : ReportLine). z.waits) c.index-lines-job.is))) c.requires.synced c.requires.known c.as_slice.ensures.value lt c.advance-next.ensures.due (c.advance-next.ensures.held lt) c.hold.ensures.places c.hold.ensures.held c.hold.ensures.ready c.hold.ensures.coming)

pub returns-else-next-waits-clause-others : goal.returns-else-next-waits-clause-others
returns-else-next-waits-clause-others c = on_ok c.hold.result (λ (f : Filed c.args.lines.now c.args.self.now c.hold.new.self c.args.job). f.again.others)
    (let lt : c.advance-next.result.0 < length c.items-waits.result.now = omega (arith, c.if-next-waits.false, c.advance-next.ensures.stops) in stays c.args.lines.now c.args.self.now c.hold.new.self c.args.job c.in-Held.next c.in-Held.due c.advance-next.result.0 c.advance-next.result.1 c.items-waits.result.now c.as_slice.result.now c.hold.result (parts c.args.lines.now c.args.self.now c.args.job c.in-Held.next c.in-Held.due c.items-waits.result.now c.index.result.now c.index-lines-job.result c.requires.order c.requires.known c.requires.synced c.requires.loose c.index.ensures c.in-Held.is c.index-lines-job.is (c.items-waits.ensures ∙ sym (ap (λ (z : ReportLine). z.waits) c.index-lines-job.is))) c.requires.synced c.requires.known c.as_slice.ensures.value lt c.advance-next.ensures.due (c.advance-next.ensures.held lt) c.hold.ensures.places c.hold.ensures.held c.hold.ensures.ready c.hold.ensures.coming)

pub returns-else-next-waits-clause-loose : goal.returns-else-next-waits-clause-loose
returns-else-next-waits-clause-loose c = on_ok c.hold.result (λ (f : Filed c.args.lines.now c.args.self.now c.hold.new.self c.args.job). f.again.loose)
    (let lt : c.advance-next.result.0 < length c.items-waits.result.now = omega (arith, c.if-next-waits.false, c.advance-next.ensures.stops) in stays c.args.lines.now c.args.self.now c.hold.new.self c.args.job c.in-Held.next c.in-Held.due c.advance-next.result.0 c.advance-next.result.1 c.items-waits.result.now c.as_slice.result.now c.hold.result (parts c.args.lines.now c.args.self.now c.args.job c.in-Held.next c.in-Held.due c.items-waits.result.now c.index.result.now c.index-lines-job.result c.requires.order c.requires.known c.requires.synced c.requires.loose c.index.ensures c.in-Held.is c.index-lines-job.is (c.items-waits.ensures ∙ sym (ap (λ (z : ReportLine). z.waits) c.index-lines-job.is))) c.requires.synced c.requires.known c.as_slice.ensures.value lt c.advance-next.ensures.due (c.advance-next.ensures.held lt) c.hold.ensures.places c.hold.ensures.held c.hold.ensures.ready c.hold.ensures.coming)

pub returns-else-next-waits-clause-starts : goal.returns-else-next-waits-clause-starts
returns-else-next-waits-clause-starts c = on_ok c.hold.result (λ (f : Filed c.args.lines.now c.args.self.now c.hold.new.self c.args.job). f.again.starts)
    (let lt : c.advance-next.result.0 < length c.items-waits.result.now = omega (arith, c.if-next-waits.false, c.advance-next.ensures.stops) in stays c.args.lines.now c.args.self.now c.hold.new.self c.args.job c.in-Held.next c.in-Held.due c.advance-next.result.0 c.advance-next.result.1 c.items-waits.result.now c.as_slice.result.now c.hold.result (parts c.args.lines.now c.args.self.now c.args.job c.in-Held.next c.in-Held.due c.items-waits.result.now c.index.result.now c.index-lines-job.result c.requires.order c.requires.known c.requires.synced c.requires.loose c.index.ensures c.in-Held.is c.index-lines-job.is (c.items-waits.ensures ∙ sym (ap (λ (z : ReportLine). z.waits) c.index-lines-job.is))) c.requires.synced c.requires.known c.as_slice.ensures.value lt c.advance-next.ensures.due (c.advance-next.ensures.held lt) c.hold.ensures.places c.hold.ensures.held c.hold.ensures.ready c.hold.ensures.coming)

pub returns-else-next-waits-clause-ready : goal.returns-else-next-waits-clause-ready
returns-else-next-waits-clause-ready c = on_ok c.hold.result (λ (f : Filed c.args.lines.now c.args.self.now c.hold.new.self c.args.job). f.ready)
    (let lt : c.advance-next.result.0 < length c.items-waits.result.now = omega (arith, c.if-next-waits.false, c.advance-next.ensures.stops) in stays c.args.lines.now c.args.self.now c.hold.new.self c.args.job c.in-Held.next c.in-Held.due c.advance-next.result.0 c.advance-next.result.1 c.items-waits.result.now c.as_slice.result.now c.hold.result (parts c.args.lines.now c.args.self.now c.args.job c.in-Held.next c.in-Held.due c.items-waits.result.now c.index.result.now c.index-lines-job.result c.requires.order c.requires.known c.requires.synced c.requires.loose c.index.ensures c.in-Held.is c.index-lines-job.is (c.items-waits.ensures ∙ sym (ap (λ (z : ReportLine). z.waits) c.index-lines-job.is))) c.requires.synced c.requires.known c.as_slice.ensures.value lt c.advance-next.ensures.due (c.advance-next.ensures.held lt) c.hold.ensures.places c.hold.ensures.held c.hold.ensures.ready c.hold.ensures.coming)
