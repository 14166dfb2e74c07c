-- From a run to the headline.
--     reaches_work, reaches_count      a run that found a site and built there, or only counted
--     stops              a run that found none
--     headline           a run that reached its ending keeps the headline
--     exits              and so does who hands on its status
use Rattle.std.proofs.Common.{◌≡◌, ◌≢◌, ℕ, Bool, true, List, [], ◌∷◌, ◌++◌, length, Option, Some, None, Result, Ok, Err, refl, sym, ap, subst, ◌∙◌, inl, ◌⊎◌, ⊎_elim, arith}
use Rattle.std.specs.Prelude.{IsErrAnd, take}
use Rattle.std.specs.FinMap.{empty}
use Rattle.std.proofs.Math.Seq.{take-append_seam}
use Rattle.em_host.specs.declared.call.Call.{Call}
use Rattle.em_host.specs.Outside.{Files, Outside, Tells}
use Rattle.em_host.specs.Calls.{files_after, MakesFront, FailsIn}
use Rattle.em_host.proofs.Telling.{Tells-then, Tells-weaken, Tells-same, makes_none, front_none, front_printed, fails_printed}
use Rattle.em_engine.specs.declared.note.Note.{Note}
use Rattle.em_workers.specs.Printing.{RunsOut}
use Rattle.em_program.specs.declared.build.Finished.{Finished}
use Rattle.em_program.specs.declared.rounds.BuildStep.{BuildStep}
use Rattle.em_program.specs.declared.site.Site.{Site}
use Rattle.em_program.specs.declared.verdict.BuildStatus.{BuildStatus}
use Rattle.em_program.specs.declared.verdict.BuildStatus.TheVariants.{Done, Outdated, Faulty, Refused, Spent}
use Rattle.em_program.specs.declared.stop.ProgramEnd.{ProgramEnd}
use Rattle.em_program.specs.declared.stop.ProgramEnd.TheVariants.{End, Failed, NoMemory}
use Rattle.em_program.specs.Statuses.{code_of}
use Rattle.em_program.specs.Course.{Trace, go_on, ◌>>=◌, done, Ends, Meets, Follows}
use Rattle.em_program.specs.Projects.{site}
use Rattle.em_program.specs.Rounds.{Build, first}
use Rattle.em_program.specs.Endings.{verdict_in, notes_in, notes_of, Tally, tally_in, working, IsOver, AllAt, AreAll, AreSo, IsWork, IsCount, answered, ended_at, ended}
use Rattle.em_program.specs.Headline.{verdict_of, exit_status, IsCut, Comes, first_in, told_of, Reaches, Headline, Exits}
use Rattle.em_program.proofs.Following.{then_does, leave_does}
use Rattle.em_program.proofs.Working.{same_end, if_ok}

-- ---- the site was found

-- the verdict alone
told_verdict : (steps : Trace Tally) (r : Result Finished ProgramEnd) (y z : Outside) → Meets steps (tally_in r) y z → Meets (go_on steps.calls steps.end (λ t. done t.verdict) y.files) (verdict_in r) y z
unfolding done
told_verdict steps (Ok f) y z h = then_does (λ t. done t.verdict) steps (record { verdict = f.verdict; jobs = f.jobs; nodes = f.nodes; whole = true }) (Ok f.verdict) y z z h (record { same = refl; made = makes_none z })
told_verdict steps (Err e) y z h = leave_does (λ t. done t.verdict) steps e y z h

module _ (words : List (List ℕ)) (s : Site) (r : Result Finished ProgramEnd) (new : s.earlier.notes ≡ []) (a b c : Option Outside) where
  -- what is so of the builds of the site is so of those of the words
  found_so : (builds : List Build) (x z : Outside) → (site words x.files).end ≡ Ok s → AreSo s builds r → Meets (ended words builds x.files) (verdict_in r) x z → Reaches words r x z
  found_so builds x z at so meets =
      let same : first_in words x.files ≡ (first s empty).end = same_end words x.files s at empty in
      let res : Reaches words r x z = record {
        builds = builds;
        run = λ st e. so.run st (sym same ∙ e);
        all = λ over. subst (λ (end : Result BuildStep BuildStatus). AllAt builds end (AreAll builds)) (sym same) (so.all over);
        notes = if_ok r (λ f is. is ∙ ap (λ (ns : List Note). ns ++ notes_of builds) new) so.notes;
        meets = meets;
      } in res

  pub reaches_work : s.order.generate ≡ None → Follows (site words) (Ok s) a b → Tells (IsWork s r) b c → Tells (Reaches words r) a c
  unfolding ◌>>=◌ ended_at
  reaches_work none given work = Tells-then a b c
      (λ x y z h i. found_so i.builds x z h.same i.so
      (then_does (ended_at i.builds) (site words x.files) s (verdict_in r) x y z h
      (subst (λ (o : Option ℕ). Meets (answered o (working i.builds s) y.files) (verdict_in r) y z) (sym none) (told_verdict (working i.builds s y.files) r y z i.meets))))
      given.told work

  pub reaches_count : {n : ℕ} → s.order.generate ≡ Some n → Follows (site words) (Ok s) a b → Tells (IsCount s r) b c → Tells (Reaches words r) a c
  unfolding ◌>>=◌ ended_at
  reaches_count some given count = Tells-then a b c
      (λ x y z h i. found_so i.builds x z h.same i.so
      (then_does (ended_at i.builds) (site words x.files) s (verdict_in r) x y z h
      (subst (λ (o : Option ℕ). Meets (answered o (working i.builds s) y.files) (verdict_in r) y z) (sym some) i.meets)))
      given.told count

-- ---- no site was found

no_first : (words : List (List ℕ)) (files : Files) (verdict : BuildStatus) → (site words files).end ≡ Err verdict → first_in words files ≡ Err verdict
unfolding ◌>>=◌
no_first words files verdict e = ap (λ (x : Result Site BuildStatus). (go_on (site words files).calls x first files).end) e

none_found : (words : List (List ℕ)) (e : ProgramEnd) (x y : Outside) → (IsOver (Err e) → AllAt [] (first_in words x.files) (AreAll [])) → Meets (ended words [] x.files) (Err e) x y → Reaches words (Err e) x y
none_found words e x y all meets =
    let res : Reaches words (Err e) x y = record {
      builds = [];
      run = λ st given. tt;
      all = all;
      notes = tt;
      meets = meets;
    } in res

all_none : (words : List (List ℕ)) (e : ProgramEnd) (x y : Outside) → Meets (site words x.files) (Err e) x y → IsOver (Err e) → AllAt [] (first_in words x.files) (AreAll [])
all_none words (End verdict) x y h over = subst (λ (end : Result BuildStep BuildStatus). AllAt [] end (AreAll [])) (sym (no_first words x.files verdict h.same)) refl
all_none words Failed x y h over = absurd over
all_none words NoMemory x y h over = absurd over

pub stops : (words : List (List ℕ)) (r : Result Finished ProgramEnd) {e : ProgramEnd} {a b : Option Outside} → IsErrAnd r (λ s. s ≡ e) → Follows (site words) (Err e) a b → Tells (Reaches words r) a b
unfolding ◌>>=◌
stops words (Ok f) is given = absurd is
stops words (Err s) {e} {a} {b} is given = subst (λ (t : ProgramEnd). Tells (Reaches words (Err t)) a b) (sym is) (Tells-weaken a b
    (λ x y h. none_found words e x y (all_none words e x y h) (leave_does (ended_at []) (site words x.files) e x y h))
    given.told)

-- ---- the headline

not_3 : (verdict : BuildStatus) → code_of verdict ≡ 3 → ⊥
not_3 Done e = omega arith
not_3 Outdated e = omega arith
not_3 Faulty e = omega arith
not_3 Refused e = omega arith
not_3 Spent e = omega arith

not_7 : (verdict : BuildStatus) → code_of verdict ≡ 7 → ⊥
not_7 Done e = omega arith
not_7 Outdated e = omega arith
not_7 Faulty e = omega arith
not_7 Refused e = omega arith
not_7 Spent e = omega arith

comes_whole : (steps : Trace BuildStatus) (end : Result BuildStatus BuildStatus) (x y : Outside) → Ends steps end x y → Comes steps (code_of (verdict_of end)) x y
comes_whole steps end x y p = record {
  status = λ a b. ap (λ e. code_of (verdict_of e)) (sym p.same);
  done = λ a b. p.made;
  failed = λ e. absurd (not_3 (verdict_of end) e);
  short = λ e. absurd (not_7 (verdict_of end) e);
  cut = λ e. absurd (⊎_elim (not_3 (verdict_of end)) (not_7 (verdict_of end)) e);
}

-- the files behind a front of the calls
front_left : (calls made left : List Call) (x y : Outside) → calls ≡ made ++ left → y.files ≡ files_after made x.files → (n : ℕ) × (y.files ≡ files_after (take n calls) x.files)
front_left calls made left x y all files = (length made, files ∙ ap (λ (c : List Call). files_after c x.files) (sym (ap (take (length made)) all ∙ take-append_seam made left)))

comes_failed : (steps : Trace BuildStatus) (x y : Outside) → FailsIn true steps.calls x y → Comes steps 3 x y
comes_failed steps x y p = record {
  status = λ a b. absurd (a refl);
  done = λ a b. absurd (a refl);
  failed = λ e. p;
  short = λ e. absurd (omega arith);
  cut = λ e. record { printed = fails_printed steps.calls x y true p; files = front_left steps.calls p.made (p.last ∷ p.left) x y p.all p.files };
}

cut_short : (calls : List Call) (x y : Outside) → RunsOut calls x y → IsCut calls x y
cut_short calls x y p = ⊎_elim
    (λ (f : MakesFront calls x y). let r : IsCut calls x y = record { printed = front_printed calls x y f; files = front_left calls f.made f.left x y f.all f.done.files } in r)
    (λ (f : (is_noted : Bool) × FailsIn is_noted calls x y). let r : IsCut calls x y = record { printed = fails_printed calls x y f.0 f.1; files = front_left calls f.1.made (f.1.last ∷ f.1.left) x y f.1.all f.1.files } in r)
    p

comes_short : (steps : Trace BuildStatus) (x y : Outside) → RunsOut steps.calls x y → Comes steps 7 x y
comes_short steps x y p = record {
  status = λ a b. absurd (b refl);
  done = λ a b. absurd (b refl);
  failed = λ e. absurd (omega arith);
  short = λ e. p;
  cut = λ e. cut_short steps.calls x y p;
}

comes : (words : List (List ℕ)) (builds : List Build) (r : Result BuildStatus ProgramEnd) (x y : Outside) → Meets (ended words builds x.files) r x y → Comes (ended words builds x.files) (exit_status r) x y
comes words builds (Ok verdict) x y p = comes_whole (ended words builds x.files) (Ok verdict) x y p
comes words builds (Err (End verdict)) x y p = comes_whole (ended words builds x.files) (Err verdict) x y p
comes words builds (Err Failed) x y p = comes_failed (ended words builds x.files) x y p
comes words builds (Err NoMemory) x y p = comes_short (ended words builds x.files) x y p

-- at a status other than 3 and 7 all that follows was built, and its notes are told
over_at : (r : Result Finished ProgramEnd) → exit_status (verdict_in r) ≢ 3 → exit_status (verdict_in r) ≢ 7 → IsOver r
over_at (Ok f) a b = tt
over_at (Err (End verdict)) a b = tt
over_at (Err Failed) a b = absurd (a refl)
over_at (Err NoMemory) a b = absurd (b refl)

notes_at : (words : List (List ℕ)) (r : Result Finished ProgramEnd) (x y : Outside) (p : Reaches words r x y) → exit_status (verdict_in r) ≢ 3 → exit_status (verdict_in r) ≢ 7
    → notes_in r ≡ told_of p.builds (ended words p.builds x.files).end
notes_at words (Ok f) x y p a b = p.notes ∙ sym (ap (told_of p.builds) p.meets.same)
notes_at words (Err (End verdict)) x y p a b = sym (ap (told_of p.builds) p.meets.same)
notes_at words (Err Failed) x y p a b = absurd (a refl)
notes_at words (Err NoMemory) x y p a b = absurd (b refl)

pub none_at : (r : Result Finished ProgramEnd) → (exit_status (verdict_in r) ≡ 3) ⊎ (exit_status (verdict_in r) ≡ 7) → notes_in r ≡ []
none_at (Ok f) e = absurd (⊎_elim (not_3 f.verdict) (not_7 f.verdict) e)
none_at (Err s) e = refl

pub headline : (words : List (List ℕ)) (r : Result Finished ProgramEnd) (a b : Option Outside) → Tells (Reaches words r) a b → Tells (Headline words (exit_status (verdict_in r)) (notes_in r)) a b
headline words r a b p = Tells-weaken a b
    (λ x y h. let res : Headline words (exit_status (verdict_in r)) (notes_in r) x y = record {
      builds = h.builds;
      run = h.run;
      all = λ c d. h.all (over_at r c d);
      notes_are = notes_at words r x y h;
      none = none_at r;
      comes = comes words h.builds (verdict_in r) x y h.meets;
    } in res)
    p

pub exits : (words : List (List ℕ)) (code : ℕ) (notes : List Note) (a b : Option Outside) → Tells (Headline words code notes) a b → Tells (Exits words code) a b
exits words code notes a b p = Tells-weaken a b (λ x y h. (notes, h)) p

-- want of memory before the first call
pub exits_none : (words : List (List ℕ)) (a : Option Outside) → Tells (Exits words 7) a a
exits_none words a = exits words 7 [] a a (headline words (Err NoMemory) a a (Tells-same (Reaches words (Err NoMemory)) a
    (λ x. none_found words NoMemory x x (λ over. absurd over) (inl (front_none (ended words [] x.files).calls x)))))
