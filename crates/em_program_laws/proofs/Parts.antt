-- The parts before a build: what there is to build is worked out without replacing a file.
--     IsOf words o           the order is that of the words, which ask for no page, and aren't refused
--     IsFrom, IsSet words o          nor do they ask for an explanation; and what is asked is the words', too
--     site_is                a site is of the order of its words
--     quiet_site, quiet_first, quiet_following       no file is replaced on the way to a site, to the first build, nor from one to the next
--     IsOn words st          a step is of the words
--     first_on, goes_on_good         the first one, and each that follows a build
--     found                  the first step, and the site of which it is
use Rattle.std.proofs.Common.{◌≡◌, ◌≢◌, ℕ, zero, suc, Bool, true, false, cond, List, [], ◌∷◌, Option, Some, None, is_some, Result, Ok, Err, refl, sym, ap, subst, ◌∙◌, codes, arith}
use Rattle.std.specs.Prelude.{IfSome, find, nat_lt, ◌^◌}
use Rattle.std.specs.FinMap.{get}
use Rattle.em_host.specs.Outside.{Files}
use Rattle.em_path.specs.declared.path.PathNo.{PathNo}
use Rattle.em_path.specs.Paths.{root_text}
use Rattle.em_path.specs.Reading.{read_fault, resolved_text}
use Rattle.em_tree.specs.Trees.{Table, base_of, kind_of}
use Rattle.em_tree.specs.Resolving.{node_behind}
use Rattle.em_tree.specs.declared.node.Kind.{Kind}
use Rattle.em_tree.specs.declared.node.Kind.TheVariants as kind
use Rattle.em_tree.specs.declared.state.State.{State}
use Rattle.em_image.specs.Image.{limits}
use Rattle.em_image.specs.Reading as image
use Rattle.em_image.specs.declared.no.ImageNo.{ImageNo}
use Rattle.em_gen.specs.Generated as generated
use Rattle.em_history.specs.Histories.{Pair}
use Rattle.em_cmdline.specs.declared.order.HistoryMode.{HistoryMode}
use Rattle.em_cmdline.specs.declared.order.HistoryMode.TheVariants as mode
use Rattle.em_cmdline.specs.declared.order.Order.{Order}
use Rattle.em_cmdline.specs.declared.order.WordNo.{WordNo}
use Rattle.em_cmdline.specs.declared.page.Page.{Page}
use Rattle.em_cmdline.specs.Words.{refusal, order_of}
use Rattle.em_cmdline.specs.Pages.{page_in, text_of}
use Rattle.em_insight.specs.declared.no.InsightNo.{InsightNo}
use Rattle.em_insight.specs.Jobs as insight
use Rattle.em_insight.specs.Telling.{explanation}
use Rattle.em_report.specs.declared.report.Report.{Report}
use Rattle.em_report.specs.declared.report.ReportLine.{ReportLine}
use Rattle.em_report.specs.Reading as report
use Rattle.em_rules.specs.declared.book.Book.{Book}
use Rattle.em_reading.specs.declared.no.ReadNo.{ReadNo}
use Rattle.em_reading.specs.declared.noted.Missing.{Missing}
use Rattle.em_reader.specs.declared.makefiles.Round.{Round}
use Rattle.em_plan.specs.declared.no.PlanNo.{PlanNo}
use Rattle.em_plan.specs.declared.planned.Plan.{Plan}
use Rattle.em_remake.specs.Remaking.{goals_of, changed}
use Rattle.em_program.specs.declared.project.Project.{Project}
use Rattle.em_program.specs.declared.rounds.Remaking.{Remaking}
use Rattle.em_program.specs.declared.rounds.BuildStep.{BuildStep}
use Rattle.em_program.specs.declared.site.Site.{Site}
use Rattle.em_program.specs.declared.verdict.BuildStatus.TheVariants.{Done, Faulty}
use Rattle.em_program.specs.Statuses.{code_of}
use Rattle.em_program.specs.Course.{Course, done, say, take}
use Rattle.em_program.specs.Endings.{is_asked}
use Rattle.em_program.specs.Explaining as explaining
use Rattle.em_program.specs.Explaining.{report_in, report_of, as_taken, as_told, told_of, explained_of, explained}
use Rattle.em_closing.specs.Refusals.{word_line, dir_line, read_line, plan_line}
use Rattle.em_program.specs.Messages.{bad_words, no_image, image_line, no_report, report_line, insight_line, still_changing}
use Rattle.em_program.specs.Headline.{first_in}
use Rattle.em_program.specs.Projects.{as_found, image_in, as_read, tree_of, tree_in, pairs_of, recalled_from, recalled, as_dir, as_path, entered, as_round, round_of, as_plan, planned, site, assembled, project_at}
use Rattle.em_program.specs.Rounds.{Build, based, is_lacking, refused_by, all_there, round_order, final, remade, by_goals, round, first, is_early, left_by, moved, following, goes_by, goes_on}
use Rattle.em_program.specs.Words.{aimed, as_ordered, paged, ordered}
use Rattle.em_program_laws.proofs.Courses.{ok_same, ok_err, left, ok_then, stop_end, IsQuiet, quiet_done, quiet_say, quiet_take, quiet_then, quiet_stop, quiet_if, Every, every_after, every_then, every_done, every_stop, every_if}

faulty : code_of Faulty ≢ 1
faulty e = absurd (omega (arith, e))

well : code_of Done ≢ 1
well e = absurd (omega (arith, e))

-- ---- no file is replaced

module _ (Agree : Files → Files → Type 0) where
  abbrev pub Sees : List ℕ → Type 0
  Sees name = (f g : Files) → Agree f g → get f name ≡ get g name

  quiet_as_ordered : (not_so : Option WordNo) (o : Order) → IsQuiet Agree Order (as_ordered not_so o)
  quiet_as_ordered None o = quiet_done Agree (aimed o)
  quiet_as_ordered (Some e) o = quiet_stop Agree Order (word_line e) Faulty faulty

  quiet_paged : (page : Option Page) (words : List (List ℕ)) → IsQuiet Agree Order (paged page words)
  quiet_paged None words = quiet_as_ordered (refusal words) (order_of words)
  quiet_paged (Some page) words = quiet_stop Agree Order (text_of page) Done well

  pub quiet_ordered : (words : List (List ℕ)) → IsQuiet Agree Order (ordered words)
  quiet_ordered words = quiet_paged (page_in words) words

  quiet_taken : (found : Option (List ℕ)) → IsQuiet Agree (List ℕ) (as_taken found)
  quiet_taken None = quiet_stop Agree (List ℕ) no_report Faulty faulty
  quiet_taken (Some bytes) = quiet_done Agree bytes

  quiet_report : (read : Result Report ℕ) → IsQuiet Agree Report (explaining.as_read read)
  quiet_report (Ok r) = quiet_done Agree r
  quiet_report (Err at) = quiet_stop Agree Report (report_line at) Faulty faulty

  quiet_told : (not_so : Option InsightNo) (agents : ℕ) (lines : List ReportLine) → IsQuiet Agree (Unit {0}) (as_told not_so agents lines)
  quiet_told None agents lines = quiet_stop Agree (Unit {0}) (explanation lines agents) Done well
  quiet_told (Some e) agents lines = quiet_stop Agree (Unit {0}) (insight_line e) Faulty faulty

  pub quiet_explained : (name : Option (List ℕ)) (agents : ℕ) → IfSome name Sees → IsQuiet Agree (Unit {0}) (explained_of name agents)
  quiet_explained None agents h = quiet_done Agree tt
  quiet_explained (Some name) agents h =
      quiet_then Agree (report_in name) _ (quiet_then Agree (take name) as_taken (quiet_take Agree name h) quiet_taken) (λ bytes.
      quiet_then Agree (report_of bytes) _ (quiet_report (report.reading bytes)) (λ r.
      quiet_told (insight.refusal r.lines) agents r.lines))

  quiet_found : (found : Option (List ℕ)) → IsQuiet Agree (List ℕ) (as_found found)
  quiet_found None = quiet_stop Agree (List ℕ) no_image Faulty faulty
  quiet_found (Some bytes) = quiet_done Agree bytes

  quiet_read : (read : Result Table ImageNo) → IsQuiet Agree Table (as_read read)
  quiet_read (Ok tree) = quiet_done Agree tree
  quiet_read (Err e) = quiet_stop Agree Table (image_line e) Faulty faulty

  pub quiet_tree : (n : Option ℕ) (name : Option (List ℕ)) → IfSome name Sees → IsQuiet Agree Table (tree_in n name)
  quiet_tree (Some n) name h = quiet_done Agree (generated.project n)
  quiet_tree None (Some name) h = quiet_then Agree (image_in name) tree_of (quiet_then Agree (take name) as_found (quiet_take Agree name h) quiet_found) (λ bytes. quiet_read (image.reading limits bytes))
  quiet_tree None None h = quiet_stop Agree Table bad_words Faulty faulty

  quiet_recalled_from : (name : Option (List ℕ)) → IfSome name Sees → IsQuiet Agree (List Pair) (recalled_from name)
  quiet_recalled_from None h = quiet_done Agree []
  quiet_recalled_from (Some name) h = quiet_then Agree (take name) _ (quiet_take Agree name h) (λ found. quiet_done Agree (pairs_of found))

  quiet_recalled : (m : HistoryMode) (name : Option (List ℕ)) → IfSome name Sees → IsQuiet Agree (List Pair) (recalled m name)
  quiet_recalled mode.Create name h = quiet_done Agree []
  quiet_recalled mode.Merge name h = quiet_recalled_from name h
  quiet_recalled mode.Read name h = quiet_recalled_from name h

  if_named : (name : Option (List ℕ)) → ((n : List ℕ) → Sees n) → IfSome name Sees
  if_named None every = tt
  if_named (Some n) every = every n

  pub quiet_site : ((n : List ℕ) → Sees n) → (words : List (List ℕ)) → IsQuiet Agree Site (site words)
  quiet_site every words =
      quiet_then Agree (ordered words) _ (quiet_ordered words) (λ o.
      quiet_then Agree (explained o) _ (quiet_explained o.explain o.agents (if_named o.explain every)) (λ u.
      quiet_then Agree (tree_in o.generate o.image) _ (quiet_tree o.generate o.image (if_named o.image every)) (λ tree.
      quiet_then Agree (recalled o.mode o.history) _ (quiet_recalled o.mode o.history (if_named o.history every)) (λ old.
      quiet_done Agree _))))

  quiet_dir : (name path : List ℕ) (k : Kind) → IsQuiet Agree (List ℕ) (as_dir name path k)
  quiet_dir name path kind.Dir = quiet_done Agree path
  quiet_dir name path kind.File = quiet_stop Agree (List ℕ) (dir_line name) Faulty faulty
  quiet_dir name path kind.Absent = quiet_stop Agree (List ℕ) (dir_line name) Faulty faulty
  quiet_dir name path kind.Link = quiet_stop Agree (List ℕ) (dir_line name) Faulty faulty

  quiet_path : (t : Table) (name : List ℕ) (not_so : Option PathNo) → IsQuiet Agree (List ℕ) (as_path t name not_so)
  quiet_path t name None = quiet_dir name (resolved_text root_text name) (kind_of (node_behind t (resolved_text root_text name)))
  quiet_path t name (Some e) = quiet_stop Agree (List ℕ) (dir_line name) Faulty faulty

  pub quiet_entered : (t : Table) (name : List ℕ) → IsQuiet Agree (List ℕ) (entered t name)
  quiet_entered t name = quiet_path t name (read_fault root_text name)

  quiet_as_round : (read : Result (Round × List ℕ) (ReadNo × List ℕ)) → IsQuiet Agree Round (as_round read)
  quiet_as_round (Ok p) = quiet_then Agree (say p.1) _ (quiet_say Agree p.1) (λ u. quiet_done Agree p.0)
  quiet_as_round (Err p) = quiet_then Agree (say p.1) _ (quiet_say Agree p.1) (λ u. quiet_stop Agree Round (read_line p.0) Faulty faulty)

  quiet_round_of : (o : Order) (start : State) → IsQuiet Agree Round (round_of o start)
  quiet_round_of o start = quiet_as_round _

  quiet_plan : (found : Bool) (plan : Result Plan PlanNo) → IsQuiet Agree Plan (as_plan found plan)
  quiet_plan found (Ok plan) = quiet_then Agree (say plan.notes) _ (quiet_say Agree plan.notes) (λ u. quiet_done Agree plan)
  quiet_plan found (Err e) = quiet_stop Agree Plan (plan_line found e) Faulty faulty

  quiet_project : (s : Site) (book : Book) (cwd : List ℕ) → IsQuiet Agree Project (project_at s book cwd)
  quiet_project s book cwd = quiet_then Agree (planned book s.order s.start.tree cwd) _ (quiet_plan book.found _) (λ plan. quiet_done Agree _)

  quiet_based : (t : Table) → IsQuiet Agree (Unit {0}) (based t)
  quiet_based t = quiet_if Agree (nat_lt (2 ^ 62) (base_of t)) _ _ (quiet_stop Agree (Unit {0}) _ Faulty faulty) (quiet_done Agree tt)

  quiet_lacking : (m : Option Missing) → IsQuiet Agree (Unit {0}) (refused_by m)
  quiet_lacking None = quiet_done Agree tt
  quiet_lacking (Some m) = quiet_stop Agree (Unit {0}) _ Faulty faulty

  quiet_final : (s : Site) (cwd : List ℕ) (r : Round) → IsQuiet Agree BuildStep (final s cwd r)
  quiet_final s cwd r =
      quiet_then Agree (all_there s.start.tree cwd r.missing) _ (quiet_lacking (find (is_lacking s.start.tree cwd) r.missing)) (λ u.
      quiet_then Agree (based s.start.tree) _ (quiet_based s.start.tree) (λ v.
      quiet_then Agree (project_at s r.book cwd) _ (quiet_project s r.book cwd) (λ p.
      quiet_done Agree _)))

  quiet_goals : (left : ℕ) (s : Site) (cwd : List ℕ) (r : Round) (goals : List (List ℕ)) → IsQuiet Agree BuildStep (by_goals left s cwd r goals)
  quiet_goals left s cwd r [] = quiet_final s cwd r
  quiet_goals left s cwd r (g ∷ gs) = quiet_then Agree (project_at (record s { order = round_order s.order (g ∷ gs) }) r.book cwd) _ (quiet_project _ r.book cwd) (λ p. quiet_done Agree _)

  quiet_round : (left : ℕ) (s : Site) (cwd : List ℕ) → IsQuiet Agree BuildStep (round left s cwd)
  unfolding round
  quiet_round zero s cwd = quiet_stop Agree BuildStep still_changing Faulty faulty
  quiet_round (suc left) s cwd =
      quiet_then Agree (based s.start.tree) _ (quiet_based s.start.tree) (λ u.
      quiet_then Agree (round_of s.order s.start) _ (quiet_round_of s.order s.start) (λ r.
      quiet_goals left s cwd r (goals_of r s.start.tree cwd)))

  pub quiet_first : (s : Site) → IsQuiet Agree BuildStep (first s)
  quiet_first s = quiet_then Agree (entered s.start.tree s.order.dir) _ (quiet_entered s.start.tree s.order.dir) (λ cwd. quiet_round 8 s cwd)

  pub quiet_following : (m : Remaking) (s : Site) → IsQuiet Agree BuildStep (following m s)
  quiet_following m s = quiet_if Agree (changed m.before s.start.tree m.goals m.cwd) _ _ (quiet_round m.left s m.cwd) (quiet_final s m.cwd m.round)

-- on the same files
abbrev pub Same : Files → Files → Type 0
Same f g = f ≡ g

pub site_quiet : (words : List (List ℕ)) → IsQuiet Same Site (site words)
site_quiet words = quiet_site Same (λ name f g e. ap (λ (u : Files). get u name) e) words

-- on whatever files: what leads to a build calls nothing but what it says
abbrev pub Any : Files → Files → Type 0
Any f g = Unit {0}

-- ---- the order of the words

pub record IsOf (words : List (List ℕ)) (o : Order) : Type 0 where
  pub page : page_in words ≡ None
  pub accepted : refusal words ≡ None
  pub image : o.image ≡ (order_of words).image
  pub history : o.history ≡ (order_of words).history
  pub mode : o.mode ≡ (order_of words).mode
  pub report : o.report ≡ (order_of words).report
  pub generate : o.generate ≡ (order_of words).generate
  pub explain : o.explain ≡ (order_of words).explain

-- also of what is asked, which a round's order lacks
pub record IsAll (words : List (List ℕ)) (o : Order) : Type 0 where
  pub order : IsOf words o
  pub question : o.question ≡ (order_of words).question

is_of_by : (b : Bool) (words : List (List ℕ)) → page_in words ≡ None → refusal words ≡ None → IsAll words (cond b (record (order_of words) { goals = codes "all" ∷ [] }) (order_of words))
is_of_by true words p r = record { order = record { page = p; accepted = r; image = refl; history = refl; mode = refl; report = refl; generate = refl; explain = refl }; question = refl }
is_of_by false words p r = record { order = record { page = p; accepted = r; image = refl; history = refl; mode = refl; report = refl; generate = refl; explain = refl }; question = refl }

ordered_by : (not_so : Option WordNo) (words : List (List ℕ)) (f : Files) (o : Order) → page_in words ≡ None → refusal words ≡ not_so → (as_ordered not_so (order_of words) f).end ≡ Ok o → IsAll words o
unfolding done
ordered_by None words f o p r e = subst (IsAll words) (ok_same e) (is_of_by (is_some (order_of words).generate) words p r)
ordered_by (Some not_so) words f o p r e = absurd (ok_err (sym e ∙ stop_end Order (word_line not_so) Faulty f))

paged_by : (page : Option Page) (words : List (List ℕ)) (f : Files) (o : Order) → page_in words ≡ page → (paged page words f).end ≡ Ok o → IsAll words o
paged_by None words f o p e = ordered_by (refusal words) words f o p refl e
paged_by (Some page) words f o p e = absurd (ok_err (sym e ∙ stop_end Order (text_of page) Done f))

pub ordered_is : (words : List (List ℕ)) (f : Files) (o : Order) → (ordered words f).end ≡ Ok o → IsAll words o
ordered_is words f o e = paged_by (page_in words) words f o refl e

-- behind an explanation nothing is done
told_ends : (not_so : Option InsightNo) (agents : ℕ) (lines : List ReportLine) (f : Files) (u : Unit {0}) → (as_told not_so agents lines f).end ≡ Ok u → ⊥
told_ends None agents lines f u e = ok_err (sym e ∙ stop_end (Unit {0}) (explanation lines agents) Done f)
told_ends (Some not_so) agents lines f u e = ok_err (sym e ∙ stop_end (Unit {0}) (insight_line not_so) Faulty f)

explained_by : (name : Option (List ℕ)) (agents : ℕ) (f : Files) (u : Unit {0}) → (explained_of name agents f).end ≡ Ok u → name ≡ None
explained_by None agents f u e = refl
explained_by (Some name) agents f u e = absurd (ok_then (report_in name) _ f u ⊥ e (λ bytes _ i.
    ok_then (report_of bytes) _ _ u ⊥ i (λ r _ j.
    told_ends (insight.refusal r.lines) agents r.lines _ u j)))

pub record IsFrom (words : List (List ℕ)) (o : Order) : Type 0 where
  pub order : IsOf words o
  pub unexplained : o.explain ≡ None

-- of a site, and of what follows a round
pub record IsSet (words : List (List ℕ)) (o : Order) : Type 0 where
  pub from : IsFrom words o
  pub question : o.question ≡ (order_of words).question

pub site_is : (words : List (List ℕ)) (f : Files) (s : Site) → (site words f).end ≡ Ok s → IsSet words s.order
unfolding done
site_is words f s e =
    ok_then (ordered words) _ f s (IsSet words s.order) e (λ o is i.
    ok_then (explained o) _ _ s (IsSet words s.order) i (λ u told j.
    ok_then (tree_in o.generate o.image) _ _ s (IsSet words s.order) j (λ tree _ k.
    ok_then (recalled o.mode o.history) _ _ s (IsSet words s.order) k (λ old _ l.
    let all : IsAll words o = ordered_is words f o is in
    subst (λ (t : Site). IsSet words t.order) (ok_same l) (record { from = record { order = all.order; unexplained = explained_by o.explain o.agents _ u told }; question = all.question })))))

-- ---- the steps

module _ (words : List (List ℕ)) where
  pub record IsOn (st : BuildStep) : Type 0 where
    pub from : IsFrom words st.project.terms.order
    pub asked : is_asked st ≡ (order_of words).question
    -- of what follows a round
    pub set : IfSome st.remaking (λ m. IsSet words m.order)

  round_from : (o : Order) (goals : List (List ℕ)) → IsFrom words o → IsFrom words (round_order o goals)
  round_from o goals is = record {
    order = record { page = is.order.page; accepted = is.order.accepted; image = is.order.image; history = is.order.history; mode = is.order.mode; report = is.order.report; generate = is.order.generate; explain = is.order.explain };
    unexplained = is.unexplained;
  }

  project_order : (s : Site) (book : Book) (cwd : List ℕ) → Every (λ (p : Project). p.terms.order ≡ s.order) (project_at s book cwd)
  project_order s book cwd = every_then (λ (p : Project). p.terms.order ≡ s.order) (planned book s.order s.start.tree cwd) _ (λ plan. every_done _ (assembled s book plan) refl)

  final_on : (s : Site) (cwd : List ℕ) (r : Round) → IsSet words s.order → Every IsOn (final s cwd r)
  final_on s cwd r is =
      every_then IsOn (all_there s.start.tree cwd r.missing) _ (λ u.
      every_then IsOn (based s.start.tree) _ (λ v.
      every_after (λ (p : Project). p.terms.order ≡ s.order) IsOn (project_at s r.book cwd) _ (project_order s r.book cwd) (λ p same.
      every_done IsOn _ (record {
        from = subst (IsFrom words) (sym same) is.from;
        asked = ap (λ (o : Order). o.question) same ∙ is.question;
        set = tt;
      }))))

  remade_on : (left : ℕ) (s : Site) (cwd : List ℕ) (r : Round) (goals : List (List ℕ)) → IsSet words s.order → Every IsOn (remade left s cwd r goals)
  remade_on left s cwd r goals is =
      let here : Site = record s { order = round_order s.order goals } in
      every_after (λ (p : Project). p.terms.order ≡ round_order s.order goals) IsOn (project_at here r.book cwd) _ (project_order here r.book cwd) (λ p same.
      every_done IsOn _ (record {
        from = subst (IsFrom words) (sym same) (round_from s.order goals is.from);
        asked = is.question;
        set = is;
      }))

  goals_on : (left : ℕ) (s : Site) (cwd : List ℕ) (r : Round) (goals : List (List ℕ)) → IsSet words s.order → Every IsOn (by_goals left s cwd r goals)
  goals_on left s cwd r [] is = final_on s cwd r is
  goals_on left s cwd r (g ∷ gs) is = remade_on left s cwd r (g ∷ gs) is

  round_on : (left : ℕ) (s : Site) (cwd : List ℕ) → IsSet words s.order → Every IsOn (round left s cwd)
  unfolding round
  round_on zero s cwd is = every_stop IsOn still_changing Faulty
  round_on (suc left) s cwd is =
      every_then IsOn (based s.start.tree) _ (λ u.
      every_then IsOn (round_of s.order s.start) _ (λ r.
      goals_on left s cwd r (goals_of r s.start.tree cwd) is))

  pub first_on : (s : Site) → IsSet words s.order → Every IsOn (first s)
  first_on s is = every_then IsOn (entered s.start.tree s.order.dir) _ (λ cwd. round_on 8 s cwd is)

  pub following_on : (m : Remaking) (s : Site) → IsSet words s.order → Every IsOn (following m s)
  following_on m s is = every_if IsOn (changed m.before s.start.tree m.goals m.cwd) _ _ (round_on m.left s m.cwd is) (final_on s m.cwd m.round is)

  -- what follows a build
  pub record IsGood (next : Course BuildStep) : Type 0 where
    pub quiet : IsQuiet Any BuildStep next
    pub on : Every IsOn next

  some_good : (b : Bool) (way next : Course BuildStep) → IsGood way → cond b None (Some way) ≡ Some next → IsGood next
  some_good true way next is e = absurd cc
  some_good false way next is e = let same : way ≡ next = cc in subst IsGood same is

  goes_good : (o : Option Remaking) (p : Project) (b : Build) (next : Course BuildStep) → IfSome o (λ m. IsSet words m.order) → goes_by o p b ≡ Some next → IsGood next
  goes_good None p b next is e = absurd cc
  goes_good (Some m) p b next is e =
      let s = moved m.order p.terms (left_by p b) b.notes in
      some_good (is_early p b) (following m s) next (record { quiet = quiet_following Any m s; on = following_on m s is }) e

  pub goes_on_good : (st : BuildStep) (b : Build) (next : Course BuildStep) → IsOn st → goes_on st b ≡ Some next → IsGood next
  goes_on_good st b next is e = goes_good st.remaking st.project b next is.set e

-- ---- a step, and the site of which it is

pub record IsFound (words : List (List ℕ)) (f : Files) (st : BuildStep) (s : Site) : Type 0 where
  pub here : (site words f).end ≡ Ok s
  pub set : IsSet words s.order
  pub then : (first s f).end ≡ Ok st
  pub on : IsOn words st

is_found : (words : List (List ℕ)) (f : Files) (st : BuildStep) (s : Site) → (site words f).end ≡ Ok s → (first s f).end ≡ Ok st → IsFound words f st s
is_found words f st s e i =
    let set : IsSet words s.order = site_is words f s e in
    record { here = e; set = set; then = i; on = first_on words s set f st i }

pub found : (words : List (List ℕ)) (f : Files) (st : BuildStep) → first_in words f ≡ Ok st → (s : Site) × IsFound words f st s
found words f st e = ok_then (site words) first f st ((s : Site) × IsFound words f st s) e (λ s at i.
    (s, is_found words f st s at (subst (λ (g : Files). (first s g).end ≡ Ok st) ((site_quiet words).still f) i)))
