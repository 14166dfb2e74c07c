-- Which files of the host an ending replaces.
--     others_stay            none but the three that the order names
--     read_stays             not the history, where it is only read
--     nothing ..             none at all
--     last_leaves            the image's file behind the last build
--     image_put, image_stays         it becomes the new image's text, unless that breaks a limit
--     has_tree               where nothing is refused the last build leaves a tree
use Rattle.std.proofs.Common.{◌≡◌, ◌≢◌, ℕ, Bool, true, false, cond, ◌||◌, ◌==◌, List, [], ◌∷◌, length, Option, Some, None, is_some, Result, Ok, Err, refl, sym, ap, subst, ◌∙◌, ◌++◌, arith}
use Rattle.std.specs.Prelude.{IsSome}
use Rattle.std.specs.FinMap.{empty, get, entries}
use Rattle.std.proofs.lemmas.Bool.{false≢true}
use Rattle.em_base.proofs.Lemmas.{by_cases}
use Rattle.em_host.specs.declared.call.Call.{Call}
use Rattle.em_host.specs.Outside.{Files}
use Rattle.em_host.specs.Calls.{printed_by}
use Rattle.em_tree.specs.declared.state.State.{State}
use Rattle.em_tree.specs.Trees.{Table}
use Rattle.em_image.specs.Image.{limits, broken, image_text, text_unless, writing}
use Rattle.em_image.specs.declared.no.ImageNo.{ImageNo}
use Rattle.em_image.specs.declared.no.Which.{Which}
use Rattle.em_cmdline.specs.declared.order.HistoryMode.TheVariants as mode
use Rattle.em_cmdline.specs.declared.order.WordNo.{WordNo}
use Rattle.em_cmdline.specs.declared.order.WordNo.TheVariants.{Unknown}
use Rattle.em_cmdline.specs.Pages.{page_in}
use Rattle.em_cmdline.specs.Words.{Differ, HasNames, HasSource, is_one, refusal, order_of, unreadable, causes, first_some, found as rows_of, when}
use Rattle.em_program_laws.proofs.Sound.{has_names, has_source}
use Rattle.em_run.specs.Serial.{outputs_of, IsSerial}
use Rattle.em_nesting.specs.Nested.{MakesAll}
use Rattle.em_engine.specs.declared.note.Note.{Note}
use Rattle.em_program.specs.declared.project.Project.{Project}
use Rattle.em_program.specs.declared.project.Terms.{Terms}
use Rattle.em_program.specs.declared.rounds.BuildStep.{BuildStep}
use Rattle.em_program.specs.declared.site.Site.{Site}
use Rattle.em_program.specs.declared.verdict.BuildStatus.{BuildStatus}
use Rattle.em_program.specs.Statuses.{status_of}
use Rattle.em_program.specs.Course.{Trace, Course, ◌>>=◌, done, say, say_all, keep}
use Rattle.em_program.specs.Messages.{image_line}
use Rattle.em_program.specs.Projects.{site}
use Rattle.em_program.specs.Rounds.{Build, is_early, left_by as state_by, first, goes_on}
use Rattle.em_program.specs.Endings.{closed, written, replaced, broken_off, fuel_of, is_whole, is_asked, last_of, next_or_last, after_jobs, run_from, AllAt, AllBehind, AreAll, Tally, working, counted_as, answered, ended_at, ended}
use Rattle.em_program.specs.Headline.{first_in}
use Rattle.em_program.specs.Serial.{ends}
use Rattle.em_program_laws.specs.Laws.{files_left, tree_at, tree_behind, tree_left, IsOther}
use Rattle.em_program_laws.proofs.Courses.{ok_err, left, ok_then, trace_stop, end_behind, left_behind, left_then, left_done, all_still, stop_end, get_own, keeps_then, keeps_say, keeps_done}
use Rattle.em_program_laws.proofs.Parts.{site_quiet, quiet_first, Any, IsSet, IsOn, IsGood, goes_on_good, found}
use Rattle.em_program_laws.proofs.Leaving.{text_at, replacing, asked_verdict, last_left, said, none_left, at_site, left_by, keeps_replaced, keeps_rest, gives_closed}

-- ---- the names of the host's files

rest_none : (a : Option WordNo) (rest : List (Option WordNo)) → first_some (a ∷ rest) ≡ None → first_some rest ≡ None
rest_none None rest e = e
rest_none (Some a) rest e = absurd cc

no_causes : (words : List (List ℕ)) → refusal words ≡ None → first_some (causes (rows_of words)) ≡ None
unfolding refusal
no_causes words e = rest_none (when (unreadable words) Unknown) (causes (rows_of words)) e

pub names_of : (words : List (List ℕ)) → refusal words ≡ None → HasNames (order_of words)
unfolding order_of
names_of words e = has_names (rows_of words) (no_causes words e)

source_of : (words : List (List ℕ)) → refusal words ≡ None → HasSource (order_of words)
unfolding order_of
source_of words e = has_source (rows_of words) (no_causes words e)

pub apart : (a b : Option (List ℕ)) (s t : List ℕ) → Differ a b → a ≡ Some s → b ≡ Some t → s ≢ t
apart a b s t d p q = subst (λ (x : Option (List ℕ)). Differ x (Some t)) p (subst (λ (y : Option (List ℕ)). Differ a y) q d)

no_other_source : (image generate explain : Bool) → is_one image generate explain ≡ true → image ≡ true → generate ≡ false
no_other_source true true explain e i = absurd cc
no_other_source true false explain e i = refl
no_other_source false generate explain e i = absurd cc

some_same : {A : Type 0} {a b : A} → (let x : Option A = Some a in let y : Option A = Some b in x ≡ y) → a ≡ b
some_same e = cc

not_some : {A : Type 0} (o : Option A) → is_some o ≡ false → o ≡ None
not_some None e = refl
not_some (Some a) e = absurd cc

none_some : {A P : Type 0} (o : Option A) → IsSome o → o ≡ None → P
none_some None some e = absurd cc
none_some (Some a) some e = absurd cc

-- ---- the files that stay

pub others_stay : (words : List (List ℕ)) (builds : List Build) (files : Files) (name : List ℕ) → IsOther (order_of words) name → get (files_left words builds files) name ≡ get files name
others_stay words builds files name other = left_by builds words files (λ g. get g name ≡ get files name) refl
    (λ st b on asked generate. keeps_replaced name st.project.terms b.notes st.project.terms.order.image _ _ _
    (λ i. other.image (sym on.from.order.image ∙ i))
    (λ _ i. other.history (sym on.from.order.history ∙ i))
    (λ i. other.report (sym on.from.order.report ∙ i)) files)

pub read_stays : (words : List (List ℕ)) (builds : List Build) (files : Files) (name : List ℕ) → (order_of words).mode ≡ mode.Read → (order_of words).history ≡ Some name → get (files_left words builds files) name ≡ get files name
read_stays words builds files name read history = left_by builds words files (λ g. get g name ≡ get files name) refl
    (λ st b on asked generate.
    let names = names_of words on.from.order.accepted in
    keeps_replaced name st.project.terms b.notes st.project.terms.order.image _ _ _
    (λ i. apart (order_of words).image (order_of words).history name name names.image_history (sym on.from.order.image ∙ i) history refl)
    (λ not_so _. not_so (on.from.order.mode ∙ read))
    (λ i. apart (order_of words).history (order_of words).report name name names.history_report history (sym on.from.order.report ∙ i) refl) files)

module _ (words : List (List ℕ)) (builds : List Build) (files : Files) where
  unless : ((st : BuildStep) → IsOn words st → is_asked st ≡ false → (order_of words).generate ≡ None → ⊥) → files_left words builds files ≡ files
  unless never = left_by builds words files (λ g. g ≡ files) refl (λ st b on asked generate. absurd (never st on asked generate))

  pub nothing_generated : IsSome (order_of words).generate → files_left words builds files ≡ files
  nothing_generated some = unless (λ st on asked generate. none_some (order_of words).generate some generate)

  pub nothing_asked : (order_of words).question ≡ true → files_left words builds files ≡ files
  nothing_asked question = unless (λ st on asked generate. false≢true (sym asked ∙ on.asked ∙ question))

  pub nothing_explained : IsSome (order_of words).explain → files_left words builds files ≡ files
  nothing_explained some = unless (λ st on asked generate. none_some (order_of words).explain some (sym on.from.order.explain ∙ on.from.unexplained))

  pub nothing_on_page : IsSome (page_in words) → files_left words builds files ≡ files
  nothing_on_page some = unless (λ st on asked generate. none_some (page_in words) some on.from.order.page)

  pub nothing_unordered : IsSome (refusal words) → files_left words builds files ≡ files
  nothing_unordered some = unless (λ st on asked generate. none_some (refusal words) some on.from.order.accepted)

-- ---- the image

abbrev pub image_closed : Result (List ℕ) ImageNo → Option (List ℕ) → Option (List ℕ)
image_closed (Ok bytes) old = Some bytes
image_closed (Err e) old = old

module _ (t : Terms) (notes : List Note) (image fuel text : List ℕ) (s : State) (f : Files) (history : t.order.history ≢ Some image) (report : t.order.report ≢ Some image) where
  abbrev closing_by : Result (List ℕ) ImageNo → Course BuildStatus
  closing_by w = closed image text t.earlier.outcomes s w

  behind_closed : get (left (replaced t notes (Some image) fuel text s) f) image ≡ get (left (closing_by (written s)) f) image
  behind_closed =
      ap (λ (g : Files). get g image) (left_then (closing_by (written s)) _ f _ ((gives_closed image text t.earlier.outcomes s (written s)).end f))
      ∙ keeps_rest image t notes fuel (λ _. history) report _ (left (closing_by (written s)) f)

  closed_leaves : (w : Result (List ℕ) ImageNo) → get (left (closing_by w) f) image ≡ image_closed w (get f image)
  unfolding say keep
  closed_leaves (Ok bytes) =
      ap (λ (g : Files). get g image) (left_then (say text) _ f tt refl ∙ left_done (keep image bytes) (λ v. status_of false false t.earlier.outcomes s.outcomes) (left (say text) f))
      ∙ get_own (left (say text) f) image bytes
  closed_leaves (Err e) = keeps_then image (say (text ++ image_line e)) _ (keeps_say image (text ++ image_line e)) (λ u. keeps_done image _) f

  pub replaced_leaves : get (left (replaced t notes (Some image) fuel text s) f) image ≡ image_closed (written s) (get f image)
  replaced_leaves = behind_closed ∙ closed_leaves (written s)

serial_whole : (p : Project) (b : Build) → IsSerial MakesAll ends p.start p.specs b.made → is_whole p b ≡ true
serial_whole p b serial = by_cases (is_early p b) (λ e. is_early p b ≡ e → (e || length b.made == length p.specs) ≡ true)
    (λ _ _. refl)
    (λ _ isnt. let e : length b.made ≡ length p.specs = serial.whole isnt in grind (arith, e)) refl

module _ (words : List (List ℕ)) (name : List ℕ) (image : (order_of words).image ≡ Some name) where
  module _ (st : BuildStep) (b : Build) (f : Files) (on : IsOn words st) where
    not_history : st.project.terms.order.history ≢ Some name
    not_history e = apart (order_of words).image (order_of words).history name name (names_of words on.from.order.accepted).image_history image (sym on.from.order.history ∙ e) refl

    not_report : st.project.terms.order.report ≢ Some name
    not_report e = apart (order_of words).image (order_of words).report name name (names_of words on.from.order.accepted).image_report image (sym on.from.order.report ∙ e) refl

    replacing_leaves : get (left (replacing st b) f) name ≡ image_closed (written (state_by st.project b)) (get f name)
    replacing_leaves =
        ap (λ (o : Option (List ℕ)). get (left (replaced st.project.terms b.notes o (fuel_of b.made) (text_at st b) (state_by st.project b)) f) name) (on.from.order.image ∙ image)
        ∙ replaced_leaves st.project.terms b.notes name (fuel_of b.made) (text_at st b) (state_by st.project b) f not_history not_report

    -- the image's file behind the last build
    pub last_leaves : get (left (last_of st b) f) name ≡ cond (is_asked st) (get f name) (image_closed (written (state_by st.project b)) (get f name))
    unfolding done
    last_leaves = ap (λ (g : Files). get g name) (last_left st b f)
        ∙ by_cases (is_asked st) (λ q. get (left (cond q (done (asked_verdict st b)) (replacing st b)) f) name ≡ cond q (get f name) (image_closed (written (state_by st.project b)) (get f name)))
        (λ _. refl)
        (λ _. replacing_leaves)

  module _ (question : (order_of words).question ≡ false) (f : Files) (t : Table) where
    abbrev Leaves : Course Tally → Type 0
    Leaves m = get (left m f) name ≡ image_closed (writing limits t) (get f name)

    tree_ends : (st : BuildStep) (b : Build) → IsOn words st → (let x : Option Table = Some (state_by st.project b).tree in let y : Option Table = Some t in x ≡ y) → Leaves (last_of st b)
    tree_ends st b on e =
        last_leaves st b f on
        ∙ ap (λ q. cond q (get f name) (image_closed (written (state_by st.project b)) (get f name))) (on.asked ∙ question)
        ∙ ap (λ (u : Table). image_closed (writing limits u) (get f name)) (some_same e)

    module _ (bs : List Build) (later : (n : BuildStep) → IsOn words n → AreAll bs n → tree_left bs n ≡ Some t → Leaves (run_from bs n)) where
      tree_at_end : (next : Course BuildStep) → IsGood words next → (end : Result BuildStep BuildStatus) → (next empty).end ≡ end → AllAt bs end (AreAll bs) → tree_at (tree_left bs) end ≡ Some t → Leaves (next >>= run_from bs)
      tree_at_end next good (Ok n) e all some =
          let at : (next f).end ≡ Ok n = good.quiet.same f empty tt ∙ e in
          ap (λ (g : Files). get g name) (left_behind next (run_from bs) f n at (good.quiet.still f)) ∙ later n (good.on f n at) all some
      tree_at_end next good (Err v) e all some = absurd cc

      tree_behind_is : (st : BuildStep) (b : Build) → IsOn words st → (o : Option (Course BuildStep)) → goes_on st b ≡ o → AllBehind bs o (AreAll bs) → tree_behind (tree_left bs) st b o ≡ Some t → Leaves (next_or_last (run_from bs) st b o)
      tree_behind_is st b on None e all some = tree_ends st b on some
      tree_behind_is st b on (Some next) e all some = tree_at_end next (goes_on_good words st b next on e) (next empty).end refl all some

      tree_whole : (st : BuildStep) (b : Build) → IsOn words st → IsSerial MakesAll ends st.project.start st.project.specs b.made → AllBehind bs (goes_on st b) (AreAll bs) → tree_behind (tree_left bs) st b (goes_on st b) ≡ Some t → Leaves (after_jobs (run_from bs) st b)
      tree_whole st b on serial all some =
          ap (λ w. get (left (cond w (next_or_last (run_from bs) st b (goes_on st b)) broken_off) f) name) (serial_whole st.project b serial)
          ∙ tree_behind_is st b on (goes_on st b) refl all some

    run_leaves : (builds : List Build) (st : BuildStep) → IsOn words st → AreAll builds st → tree_left builds st ≡ Some t → Leaves (run_from builds st)
    unfolding run_from
    run_leaves [] st on all some = absurd all
    run_leaves (b ∷ bs) st on all some =
        ap (λ (g : Files). get g name) (left_behind (say_all (outputs_of b.made)) (λ u. after_jobs (run_from bs) st b) f tt (said (outputs_of b.made) f) (all_still (outputs_of b.made) f))
        ∙ tree_whole bs (λ n is every known. run_leaves bs n is every known) st b on all.0 all.1 some

module _ (words : List (List ℕ)) (builds : List Build) (files : Files) (st : BuildStep) (t : Table) (name : List ℕ)
    (given : first_in words files ≡ Ok st) (all : AreAll builds st) (some : tree_left builds st ≡ Some t) (image : (order_of words).image ≡ Some name) (question : (order_of words).question ≡ false) where
  not_generated : (s : Site) → IsSet words s.order → s.order.generate ≡ None
  not_generated s set = set.from.order.generate ∙ not_some (order_of words).generate
      (no_other_source (is_some (order_of words).image) (is_some (order_of words).generate) (is_some (order_of words).explain) (source_of words set.from.order.accepted) (ap (λ (o : Option (List ℕ)). is_some o) image))

  image_left : get (files_left words builds files) name ≡ image_closed (writing limits t) (get files name)
  image_left =
      let is = found words files st given in
      ap (λ (g : Files). get g name)
      (at_site builds words files is.0 is.1.here ∙ none_left builds is.0 files (not_generated is.0 is.1.set)
      ∙ left_behind (first is.0) (run_from builds) files st is.1.then ((quiet_first Any is.0).still files))
      ∙ run_leaves words name image question files t builds st is.1.on all some

  pub image_put : broken limits t ≡ None → get (files_left words builds files) name ≡ Some (image_text t)
  image_put none = image_left ∙ ap (λ (w : Option Which). image_closed (text_unless w (entries t)) (get files name)) none

  image_stays_by : (w : Option Which) → broken limits t ≡ w → IsSome w → get (files_left words builds files) name ≡ get files name
  image_stays_by None e some = absurd cc
  image_stays_by (Some w) e some = image_left ∙ ap (λ (w : Option Which). image_closed (text_unless w (entries t)) (get files name)) e

  pub image_stays : IsSome (broken limits t) → get (files_left words builds files) name ≡ get files name
  image_stays some = image_stays_by (broken limits t) refl some

-- ---- the last tree

-- there is one, wherever nothing is refused and nothing broke off
module _ (bs : List Build) (f : Files) (v : Tally) (later : (n : BuildStep) → (words : List (List ℕ)) → IsOn words n → AreAll bs n → (run_from bs n f).end ≡ Ok v → IsSome (tree_left bs n)) where
  has_at : (next : Course BuildStep) (words : List (List ℕ)) → IsGood words next → (end : Result BuildStep BuildStatus) → (next empty).end ≡ end → AllAt bs end (AreAll bs) → ((next >>= run_from bs) f).end ≡ Ok v → IsSome (tree_at (tree_left bs) end)
  has_at next words good (Ok n) e all ended =
      let at : (next f).end ≡ Ok n = good.quiet.same f empty tt ∙ e in
      later n words (good.on f n at) all (sym (end_behind next (run_from bs) f n at (good.quiet.still f)) ∙ ended)
  has_at next words good (Err w) e all ended =
      let at : (next f).end ≡ Err w = good.quiet.same f empty tt ∙ e in
      absurd (ok_err (sym ended ∙ ap (λ (t : Trace Tally). t.end) (trace_stop next (run_from bs) f w at)))

  has_behind : (st : BuildStep) (b : Build) (words : List (List ℕ)) → IsOn words st → (o : Option (Course BuildStep)) → goes_on st b ≡ o → AllBehind bs o (AreAll bs) → (next_or_last (run_from bs) st b o f).end ≡ Ok v → IsSome (tree_behind (tree_left bs) st b o)
  has_behind st b words on None e all ended = refl
  has_behind st b words on (Some next) e all ended = has_at next words (goes_on_good words st b next on e) (next empty).end refl all ended

  has_whole : (st : BuildStep) (b : Build) (words : List (List ℕ)) → IsOn words st → IsSerial MakesAll ends st.project.start st.project.specs b.made → AllBehind bs (goes_on st b) (AreAll bs) → (after_jobs (run_from bs) st b f).end ≡ Ok v
      → IsSome (tree_behind (tree_left bs) st b (goes_on st b))
  has_whole st b words on serial all ended = has_behind st b words on (goes_on st b) refl all
      (sym (ap (λ w. (cond w (next_or_last (run_from bs) st b (goes_on st b)) broken_off f).end) (serial_whole st.project b serial)) ∙ ended)

run_has : (builds : List Build) (f : Files) (v : Tally) (st : BuildStep) (words : List (List ℕ)) → IsOn words st → AreAll builds st → (run_from builds st f).end ≡ Ok v → IsSome (tree_left builds st)
unfolding run_from
run_has [] f v st words on all ended = absurd all
run_has (b ∷ bs) f v st words on all ended = has_whole bs f v (λ n more is every done. run_has bs f v n more is every done) st b words on all.0 all.1
    (sym (end_behind (say_all (outputs_of b.made)) (λ u. after_jobs (run_from bs) st b) f tt (said (outputs_of b.made) f) (all_still (outputs_of b.made) f)) ∙ ended)

module _ (words : List (List ℕ)) (builds : List Build) (files : Files) (st : BuildStep) (all : AreAll builds st) where
  work_has : (s : Site) (f : Files) (t : Tally) → (first s f).end ≡ Ok st → IsOn words st → (working builds s f).end ≡ Ok t → IsSome (tree_left builds st)
  work_has s f t e on ended = run_has builds f t st words on all (sym (end_behind (first s) (run_from builds) f st e ((quiet_first Any s).still f)) ∙ ended)

  counted_has : (calls : List Call) (end : Result Tally BuildStatus) (f : Files) (v : BuildStatus) (P : Type 0) → (counted_as calls end f).end ≡ Ok v → ((t : Tally) → end ≡ Ok t → P) → P
  counted_has calls (Ok t) f v P ended more = more t refl
  counted_has calls (Err w) f v P ended more = absurd (ok_err (sym ended ∙ stop_end BuildStatus (printed_by calls) w f))

  at_has : (s : Site) → (first s files).end ≡ Ok st → IsOn words st → (n : Option ℕ) (v : BuildStatus) → (answered n (working builds s) files).end ≡ Ok v → IsSome (tree_left builds st)
  at_has s e on None v ended = ok_then (working builds s) (λ t. done t.verdict) files v (IsSome (tree_left builds st)) ended (λ t i j. work_has s files t e on i)
  at_has s e on (Some n) v ended = counted_has (working builds s empty).calls (working builds s empty).end files v (IsSome (tree_left builds st)) ended
      (λ t i. work_has s empty t ((quiet_first Any s).same empty files tt ∙ e) on i)

  pub has_tree : (v : BuildStatus) → first_in words files ≡ Ok st → (ended words builds files).end ≡ Ok v → IsSome (tree_left builds st)
  unfolding ended_at
  has_tree v given ended =
      let is = found words files st given in
      at_has is.0 is.1.then is.1.on is.0.order.generate v (sym (end_behind (site words) (ended_at builds) files is.0 is.1.here ((site_quiet words).still files)) ∙ ended)
