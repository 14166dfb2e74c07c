-- What an ending leaves of the host's files, and its status.
--     replacing st b         what is said and replaced behind the last build
--     last_gives             the last part's text, and what it comes to
--     run_comes              a run leaves all files and isn't closed, or it comes to its last build, and is
--     left_by                the files, by cases
--     left_refused           a refusal leaves all
--     status_asked           status 1 is of a build that was only asked for
use Rattle.std.proofs.Common.{◌≡◌, ◌≢◌, ℕ, Bool, true, false, cond, ◌||◌, List, [], ◌∷◌, ◌++◌, length, Option, Some, None, Result, Ok, Err, refl, sym, ap, subst, ◌∙◌, inl, inr, ◌⊎◌, ⊎_elim, arith}
use Rattle.std.specs.List.{list_any}
use Rattle.std.specs.FinMap.{empty}
use Rattle.em_base.proofs.Lemmas.{by_cases}
use Rattle.em_host.specs.declared.call.Call.{Call}
use Rattle.em_host.specs.Outside.{Files}
use Rattle.em_host.specs.Calls.{files_after, printed_by}
use Rattle.em_tree.specs.declared.outcome.Outcome.{Outcome}
use Rattle.em_tree.specs.declared.state.State.{State}
use Rattle.em_image.specs.declared.no.ImageNo.{ImageNo}
use Rattle.em_cmdline.specs.declared.order.HistoryMode.{HistoryMode}
use Rattle.em_cmdline.specs.declared.order.HistoryMode.TheVariants as mode
use Rattle.em_cmdline.specs.Words.{order_of, refusal}
use Rattle.em_run.specs.Serial.{outputs_of}
use Rattle.em_engine.specs.declared.note.Note.{Note}
use Rattle.em_program.specs.declared.project.Terms.{Terms}
use Rattle.em_program.specs.declared.rounds.BuildStep.{BuildStep}
use Rattle.em_program.specs.declared.site.Site.{Site}
use Rattle.em_program.specs.declared.verdict.BuildStatus.{BuildStatus}
use Rattle.em_program.specs.declared.verdict.BuildStatus.TheVariants.{Done, Faulty, Refused, Spent}
use Rattle.em_closing.specs.Closing.{closing}
use Rattle.em_program.specs.Statuses.{is_spent, is_refused, is_faulty, code_of, status_of}
use Rattle.em_program.specs.Course.{Trace, Course, ◌>>=◌, done, say, say_all, keep}
use Rattle.em_program.specs.Messages.{image_line, summary}
use Rattle.em_program.specs.Projects.{site}
use Rattle.em_program.specs.Rounds.{Build, is_early, left_by as state_by, first, goes_on}
use Rattle.em_program.specs.Endings.{closed, written, kept, history_kept, report_kept, replaced, finish, broken_off, fuel_of, is_whole, is_asked, Tally, tally_of, last_of, next_or_last, after_jobs, run_from, working, summed, counted_as, answered, ended_at, ended}
use Rattle.em_program.specs.Headline.{verdict_of}
use Rattle.em_program_laws.specs.Laws.{files_left, status_in}
use Rattle.em_program_laws.proofs.Courses.{ok_err, in_case, left, trace_then, trace_stop, end_behind, left_behind, end_then, left_stop, left_done, say_still, all_still, stop_left, stop_end, Gives, gives_done, gives_say, gives_keep, gives_if, gives_then, Keeps, keeps_then, keeps_done, keeps_say, keeps_keep}
use Rattle.em_program_laws.proofs.Parts.{site_quiet, quiet_first, Any, IsSet, site_is, IsOn, first_on, goes_on_good}

-- ---- of a generated project only the summary is said

pub counted_left : (calls : List Call) (end : Result Tally BuildStatus) (f : Files) → left (counted_as calls end) f ≡ f
unfolding done
counted_left calls (Ok t) f = by_cases t.whole (λ b. left (cond b (summed calls t) (done t.verdict)) f ≡ f)
    (λ _. left_done (say (summary t.jobs (length (printed_by calls)) t.nodes (code_of t.verdict))) (λ u. t.verdict) f ∙ say_still _ f)
    (λ _. refl)
counted_left calls (Err v) f = stop_left BuildStatus (printed_by calls) v f

-- ---- what is printed behind the last build, and the verdict

abbrev pub text_closed : List ℕ → Result (List ℕ) ImageNo → List ℕ
text_closed text (Ok bytes) = text ++ ([] ++ [])
text_closed text (Err e) = (text ++ image_line e) ++ []

abbrev pub is_broken : Result (List ℕ) ImageNo → Bool
is_broken (Ok bytes) = false
is_broken (Err e) = true

abbrev pub text_replaced : Option (List ℕ) → List ℕ → State → List ℕ
text_replaced None text s = text ++ []
text_replaced (Some image) text s = text_closed text (written s) ++ ([] ++ ([] ++ []))

abbrev pub verdict_replaced : Option (List ℕ) → List Outcome → State → BuildStatus
verdict_replaced None earlier s = status_of false false earlier s.outcomes
verdict_replaced (Some image) earlier s = status_of false (is_broken (written s)) earlier s.outcomes

gives_kept : (o : Option (List ℕ)) (bytes : List ℕ) → Gives (kept o bytes) [] tt
gives_kept None bytes = gives_done tt
gives_kept (Some name) bytes = gives_keep name bytes

pub gives_closed : (image text : List ℕ) (earlier : List Outcome) (s : State) (w : Result (List ℕ) ImageNo) → Gives (closed image text earlier s w) (text_closed text w) (status_of false (is_broken w) earlier s.outcomes)
gives_closed image text earlier s (Ok bytes) = gives_then (say text) _ text _ tt _ (gives_say text) (gives_then (keep image bytes) _ [] [] tt _ (gives_keep image bytes) (gives_done _))
gives_closed image text earlier s (Err e) = gives_then (say (text ++ image_line e)) _ (text ++ image_line e) [] tt _ (gives_say (text ++ image_line e)) (gives_done _)

module _ (t : Terms) (notes : List Note) where
  gives_history : (m : HistoryMode) → Gives (history_kept t notes m) [] tt
  gives_history mode.Create = gives_kept t.order.history _
  gives_history mode.Merge = gives_kept t.order.history _
  gives_history mode.Read = gives_done tt

  gives_replaced : (image : Option (List ℕ)) (fuel text : List ℕ) (s : State) → Gives (replaced t notes image fuel text s) (text_replaced image text s) (verdict_replaced image t.earlier.outcomes s)
  gives_replaced None fuel text s = gives_then (say text) _ text [] tt _ (gives_say text) (gives_done _)
  gives_replaced (Some image) fuel text s =
      let v = status_of false (is_broken (written s)) t.earlier.outcomes s.outcomes in
      gives_then (closed image text t.earlier.outcomes s (written s)) _ (text_closed text (written s)) _ v v (gives_closed image text t.earlier.outcomes s (written s))
      (gives_then (history_kept t notes t.order.mode) _ [] _ tt v (gives_history t.order.mode)
      (gives_then (report_kept t notes fuel v) _ [] [] tt v (gives_kept t.order.report _) (gives_done v)))

module _ (st : BuildStep) (b : Build) where
  abbrev pub text_at : List ℕ
  text_at = closing st.project.terms.order.silent st.project.terms.plan (state_by st.project b).outcomes st.project.terms.goals (is_early st.project b)

  abbrev pub replacing : Course BuildStatus
  replacing = replaced st.project.terms b.notes st.project.terms.order.image (fuel_of b.made) text_at (state_by st.project b)

  abbrev pub text_for : List ℕ
  text_for = cond (is_asked st) [] (text_replaced st.project.terms.order.image text_at (state_by st.project b)) ++ []

  abbrev pub asked_verdict : BuildStatus
  asked_verdict = status_of true false st.project.terms.earlier.outcomes (state_by st.project b).outcomes

  abbrev pub verdict_by : Bool → BuildStatus
  verdict_by asked = cond asked asked_verdict (verdict_replaced st.project.terms.order.image st.project.terms.earlier.outcomes (state_by st.project b))

  abbrev pub tally_for : Tally
  tally_for = tally_of st.project.terms (state_by st.project b) (verdict_by (is_asked st))

  abbrev finishing : Course BuildStatus
  finishing = finish st.project.terms b.notes (is_asked st) (fuel_of b.made) (is_early st.project b) (state_by st.project b)

  finishing_gives : Gives finishing (cond (is_asked st) [] (text_replaced st.project.terms.order.image text_at (state_by st.project b))) (verdict_by (is_asked st))
  finishing_gives = gives_if (is_asked st) _ _ _ _ _ _ (gives_done asked_verdict) (gives_replaced st.project.terms b.notes st.project.terms.order.image (fuel_of b.made) text_at (state_by st.project b))

  pub last_gives : Gives (last_of st b) text_for tally_for
  last_gives = gives_then finishing _ _ [] _ tally_for finishing_gives (gives_done tally_for)

  -- asked only, nothing is replaced
  pub last_left : (f : Files) → left (last_of st b) f ≡ left (cond (is_asked st) (done asked_verdict) replacing) f
  last_left f = left_done finishing (tally_of st.project.terms (state_by st.project b)) f

not_1 : (a b c : Bool) → code_of (cond a Spent (cond b Refused (cond c Faulty Done))) ≡ 1 → ⊥
not_1 true b c e = omega (arith, e)
not_1 false true c e = omega (arith, e)
not_1 false false true e = omega (arith, e)
not_1 false false false e = omega (arith, e)

unasked : (broken : Bool) (earlier os : List Outcome) → code_of (status_of false broken earlier os) ≡ 1 → ⊥
unasked broken earlier os e = not_1 (list_any is_spent earlier || list_any is_spent os) (list_any is_refused earlier || list_any is_refused os) (broken || (list_any is_faulty earlier || list_any is_faulty os)) e

unasked_replaced : (image : Option (List ℕ)) (earlier : List Outcome) (s : State) → code_of (verdict_replaced image earlier s) ≡ 1 → ⊥
unasked_replaced None earlier s e = unasked false earlier s.outcomes e
unasked_replaced (Some image) earlier s e = unasked (is_broken (written s)) earlier s.outcomes e

pub said : (texts : List (List ℕ)) (f : Files) → (say_all texts f).end ≡ Ok tt
unfolding say_all
said texts f = refl

-- ---- the builds of a run

module _ (words : List (List ℕ)) where
  abbrev Asks : Result Tally BuildStatus → Type 0
  Asks (Ok t) = code_of t.verdict ≡ 1 → (order_of words).question ≡ true
  Asks (Err v) = code_of v ≢ 1

  -- all files are as before
  record IsIdle (m : Course Tally) (f : Files) : Type 0 where
    still : left m f ≡ f
    end : Asks (m f).end

  -- the last build was reached, and the run closed behind it
  pub record IsClosed (m : Course Tally) (f : Files) : Type 0 where
    pub st : BuildStep
    pub build : Build
    pub on : IsOn words st
    pub unasked : is_asked st ≡ false
    pub files : left m f ≡ left (replacing st build) f
    pub tally : Tally
    pub end : (m f).end ≡ Ok tally
    pub calm : code_of tally.verdict ≢ 1

  abbrev Comes : Course Tally → Files → Type 0
  Comes m f = IsIdle m f ⊎ IsClosed m f

  module _ {A : Type 0} (m : Course A) (k : A → Course Tally) (f : Files) where
    comes_behind : (a : A) → (m f).end ≡ Ok a → left m f ≡ f → Comes (k a) f → Comes (m >>= k) f
    comes_behind a e still = ⊎_elim
        (λ (c : IsIdle (k a) f). let r : Comes (m >>= k) f = inl (record {
          still = left_behind m k f a e still ∙ c.still;
          end = subst Asks (sym (end_behind m k f a e still)) c.end;
        }) in r)
        (λ (c : IsClosed (k a) f). let r : Comes (m >>= k) f = inr (record {
          st = c.st;
          build = c.build;
          on = c.on;
          unasked = c.unasked;
          files = left_behind m k f a e still ∙ c.files;
          tally = c.tally;
          end = end_behind m k f a e still ∙ c.end;
          calm = c.calm;
        }) in r)

    comes_stopped : (v : BuildStatus) → (m f).end ≡ Err v → left m f ≡ f → code_of v ≢ 1 → Comes (m >>= k) f
    comes_stopped v e still calm = inl (record {
      still = left_stop m k f v e ∙ still;
      end = subst Asks (sym (ap (λ (t : Trace Tally). t.end) (trace_stop m k f v e))) calm;
    })

  broken_comes : (f : Files) → Comes broken_off f
  unfolding done
  broken_comes f = inl (record { still = refl; end = λ one. absurd (omega (arith, one)) })

  module _ (st : BuildStep) (b : Build) (f : Files) (on : IsOn words st) where
    last_comes : Comes (last_of st b) f
    unfolding done
    last_comes = by_cases (is_asked st) (λ q. Comes (last_of st b) f)
        (λ q. inl (record {
          still = last_left st b f ∙ ap (λ q. left (cond q (done (asked_verdict st b)) (replacing st b)) f) q;
          end = subst Asks (sym ((last_gives st b).end f)) (λ one. sym on.asked ∙ q);
        }))
        (λ q. inr (record {
          st = st;
          build = b;
          on = on;
          unasked = q;
          files = last_left st b f ∙ ap (λ q. left (cond q (done (asked_verdict st b)) (replacing st b)) f) q;
          tally = tally_for st b;
          end = (last_gives st b).end f;
          calm = λ one. unasked_replaced st.project.terms.order.image st.project.terms.earlier.outcomes (state_by st.project b) (sym (ap (λ q. code_of (verdict_by st b q)) q) ∙ one);
        }))

    module _ (later : BuildStep → Course Tally) (comes : (n : BuildStep) → IsOn words n → Comes (later n) f) where
      next_comes : (o : Option (Course BuildStep)) → goes_on st b ≡ o → Comes (next_or_last later st b o) f
      next_comes None e = last_comes
      next_comes (Some next) e =
          let good = goes_on_good words st b next on e in
          in_case (next f).end (Comes (next >>= later) f)
          (λ n i. comes_behind next later f n i (good.quiet.still f) (comes n (good.on f n i)))
          (λ v i. comes_stopped next later f v i (good.quiet.still f) (good.quiet.calm f v i))

      jobs_come : Comes (after_jobs later st b) f
      jobs_come = by_cases (is_whole st.project b) (λ w. Comes (cond w (next_or_last later st b (goes_on st b)) broken_off) f)
          (λ _. next_comes (goes_on st b) refl)
          (λ _. broken_comes f)

  run_comes : (builds : List Build) (st : BuildStep) (f : Files) → IsOn words st → Comes (run_from builds st) f
  unfolding run_from
  run_comes [] st f on = broken_comes f
  run_comes (b ∷ bs) st f on =
      comes_behind (say_all (outputs_of b.made)) (λ u. after_jobs (run_from bs) st b) f tt (said (outputs_of b.made) f) (all_still (outputs_of b.made) f)
      (jobs_come st b f on (run_from bs) (λ n is. run_comes bs n f is))

  work_comes : (builds : List Build) (s : Site) (f : Files) → IsSet words s.order → Comes (working builds s) f
  work_comes builds s f set =
      let quiet = quiet_first Any s in
      in_case (first s f).end (Comes (working builds s) f)
      (λ st e. comes_behind (first s) (run_from builds) f st e (quiet.still f) (run_comes builds st f (first_on words s set f st e)))
      (λ v e. comes_stopped (first s) (run_from builds) f v e (quiet.still f) (quiet.calm f v e))

  asks : (m : Course Tally) (f : Files) → Comes m f → Asks (m f).end
  asks m f = ⊎_elim (λ (c : IsIdle m f). c.end) (λ (c : IsClosed m f). subst Asks (sym c.end) (λ one. absurd (c.calm one)))

-- ---- the ending

module _ (builds : List Build) where
  pub ended_none : (s : Site) (f : Files) → s.order.generate ≡ None → ended_at builds s f ≡ answered None (working builds s) f
  unfolding ended_at
  ended_none s f e = ap (λ (o : Option ℕ). answered o (working builds s) f) e

  pub none_left : (s : Site) (f : Files) → s.order.generate ≡ None → left (ended_at builds s) f ≡ left (working builds s) f
  none_left s f e = ap (λ (t : Trace BuildStatus). files_after t.calls f) (ended_none s f e) ∙ left_done (working builds s) (λ (t : Tally). t.verdict) f

  pub some_left : (s : Site) (f : Files) (n : ℕ) → s.order.generate ≡ Some n → left (ended_at builds s) f ≡ f
  unfolding ended_at
  some_left s f n e = ap (λ (o : Option ℕ). left (answered o (working builds s)) f) e ∙ counted_left (working builds s empty).calls (working builds s empty).end f

  module _ (words : List (List ℕ)) (f : Files) where
    pub at_site : (s : Site) → (site words f).end ≡ Ok s → files_left words builds f ≡ left (ended_at builds s) f
    at_site s e = left_behind (site words) (ended_at builds) f s e ((site_quiet words).still f)

    pub no_site : (v : BuildStatus) → (site words f).end ≡ Err v → files_left words builds f ≡ f
    no_site v e = left_stop (site words) (ended_at builds) f v e ∙ (site_quiet words).still f

    -- where nothing is replaced, and where a run is closed
    pub left_by : (R : Files → Type 0) → R f
        → ((st : BuildStep) (b : Build) → IsOn words st → is_asked st ≡ false → (order_of words).generate ≡ None → R (left (replacing st b) f))
        → R (files_left words builds f)
    left_by R same more = in_case (site words f).end (R (files_left words builds f))
        (λ s e. subst R (sym (at_site s e)) (by_size s (site_is words f s e) s.order.generate refl))
        (λ v e. subst R (sym (no_site v e)) same)
      where
        by_size : (s : Site) → IsSet words s.order → (n : Option ℕ) → s.order.generate ≡ n → R (left (ended_at builds s) f)
        by_size s set None g = subst R (sym (none_left s f g)) (⊎_elim
            (λ (c : IsIdle words (working builds s) f). subst R (sym c.still) same)
            (λ (c : IsClosed words (working builds s) f). subst R (sym c.files) (more c.st c.build c.on c.unasked (sym set.from.order.generate ∙ g)))
            (work_comes words builds s f set))
        by_size s set (Some n) g = subst R (sym (some_left s f n g)) same

    -- behind a closing there is no refusal
    closed_ends : (s : Site) (v : BuildStatus) → s.order.generate ≡ None → (ended_at builds s f).end ≡ Err v → IsClosed words (working builds s) f → ⊥
    unfolding done
    closed_ends s v g e c = ok_err (sym (ap (λ (t : Trace BuildStatus). t.end) (trace_then (working builds s) (λ t. done t.verdict) f c.tally c.end)) ∙ sym (ap (λ (t : Trace BuildStatus). t.end) (ended_none s f g)) ∙ e)

    refused_at : (s : Site) (v : BuildStatus) → IsSet words s.order → (ended_at builds s f).end ≡ Err v → (n : Option ℕ) → s.order.generate ≡ n → left (ended_at builds s) f ≡ f
    refused_at s v set e None g = none_left s f g ∙ ⊎_elim
        (λ (c : IsIdle words (working builds s) f). c.still)
        (λ (c : IsClosed words (working builds s) f). absurd (closed_ends s v g e c))
        (work_comes words builds s f set)
    refused_at s v set e (Some n) g = some_left s f n g

    pub left_refused : (v : BuildStatus) → (ended words builds f).end ≡ Err v → files_left words builds f ≡ f
    left_refused v e = in_case (site words f).end (files_left words builds f ≡ f)
        (λ s i. at_site s i ∙ refused_at s v (site_is words f s i) (sym (end_behind (site words) (ended_at builds) f s i ((site_quiet words).still f)) ∙ e) s.order.generate refl)
        (λ w i. no_site w i)

-- ---- one file of the host

module _ (name : List ℕ) where
  keeps_kept : (o : Option (List ℕ)) (bytes : List ℕ) → o ≢ Some name → Keeps name (kept o bytes)
  keeps_kept None bytes not_so = keeps_done name tt
  keeps_kept (Some n) bytes not_so = keeps_keep name n bytes (λ e. not_so (ap Some (sym e)))

  keeps_closed : (image text : List ℕ) (earlier : List Outcome) (s : State) (w : Result (List ℕ) ImageNo) → name ≢ image → Keeps name (closed image text earlier s w)
  keeps_closed image text earlier s (Ok bytes) not_so = keeps_then name (say text) _ (keeps_say name text) (λ u. keeps_then name (keep image bytes) _ (keeps_keep name image bytes not_so) (λ v. keeps_done name _))
  keeps_closed image text earlier s (Err e) not_so = keeps_then name (say (text ++ image_line e)) _ (keeps_say name (text ++ image_line e)) (λ u. keeps_done name _)

  module _ (t : Terms) (notes : List Note) where
    keeps_history : (m : HistoryMode) → (m ≢ mode.Read → t.order.history ≢ Some name) → Keeps name (history_kept t notes m)
    keeps_history mode.Create not_so = keeps_kept t.order.history _ (not_so (λ e. absurd cc))
    keeps_history mode.Merge not_so = keeps_kept t.order.history _ (not_so (λ e. absurd cc))
    keeps_history mode.Read not_so = keeps_done name tt

    pub keeps_rest : (fuel : List ℕ) → (t.order.mode ≢ mode.Read → t.order.history ≢ Some name) → t.order.report ≢ Some name → (verdict : BuildStatus)
        → Keeps name (history_kept t notes t.order.mode >>= (λ u. report_kept t notes fuel verdict >>= (λ v. done verdict)))
    keeps_rest fuel history report verdict =
        keeps_then name (history_kept t notes t.order.mode) _ (keeps_history t.order.mode history) (λ u.
        keeps_then name (report_kept t notes fuel verdict) _ (keeps_kept t.order.report _ report) (λ v.
        keeps_done name verdict))

    pub keeps_replaced : (image : Option (List ℕ)) (fuel text : List ℕ) (s : State) → image ≢ Some name → (t.order.mode ≢ mode.Read → t.order.history ≢ Some name) → t.order.report ≢ Some name → Keeps name (replaced t notes image fuel text s)
    keeps_replaced None fuel text s not_so history report = keeps_then name (say text) _ (keeps_say name text) (λ u. keeps_done name _)
    keeps_replaced (Some image) fuel text s not_so history report =
        keeps_then name (closed image text t.earlier.outcomes s (written s)) _ (keeps_closed image text t.earlier.outcomes s (written s) (λ e. not_so (ap Some (sym e)))) (λ verdict.
        keeps_rest fuel history report verdict)

-- ---- the status

module _ (words : List (List ℕ)) (builds : List Build) where
  abbrev Asked : Result BuildStatus BuildStatus → Type 0
  Asked r = code_of (verdict_of r) ≡ 1 → (order_of words).question ≡ true

  counted_asked : (calls : List Call) (end : Result Tally BuildStatus) (f : Files) → Asks words end → Asked (counted_as calls end f).end
  unfolding done
  counted_asked calls (Ok t) f h = by_cases t.whole (λ b. Asked (cond b (summed calls t) (done t.verdict) f).end)
      (λ _. end_then (say (summary t.jobs (length (printed_by calls)) t.nodes (code_of t.verdict))) _ f Asked (λ v e. absurd (ok_err (sym ((gives_say _).end f) ∙ e))) (λ u e. h))
      (λ _. h)
  counted_asked calls (Err v) f h = λ one. absurd (h (ap (λ r. code_of (verdict_of r)) (sym (stop_end BuildStatus (printed_by calls) v f)) ∙ one))

  answered_asked : (s : Site) → IsSet words s.order → (n : Option ℕ) (f : Files) → Asked (answered n (working builds s) f).end
  unfolding done
  answered_asked s set None f =
      let h : Asks words (working builds s f).end = asks words (working builds s) f (work_comes words builds s f set) in
      end_then (working builds s) _ f Asked
      (λ v e one. absurd (subst (Asks words) e h one))
      (λ t e. subst (Asks words) e h)
  answered_asked s set (Some n) f = counted_asked (working builds s empty).calls (working builds s empty).end f (asks words (working builds s) empty (work_comes words builds s empty set))

  at_asked : (s : Site) → IsSet words s.order → (f : Files) → Asked (ended_at builds s f).end
  unfolding ended_at
  at_asked s set f = answered_asked s set s.order.generate f

  -- status 1 is of a build that was only asked for
  pub status_asked : (f : Files) → status_in words builds f ≡ 1 → (refusal words ≡ None) × ((order_of words).question ≡ true)
  status_asked f = end_then (site words) (ended_at builds) f (λ r. code_of (verdict_of r) ≡ 1 → (refusal words ≡ None) × ((order_of words).question ≡ true))
      (λ v e one. absurd ((site_quiet words).calm f v e one))
      (λ s e one. (let set = site_is words f s e in (set.from.order.accepted, at_asked s set _ one)))
