-- What of the host's files shows in a run: the image, or the report to explain, and no other; and of
-- its builds what their jobs made, and not their notes.
--     Twin R x y         two traces print the same, and end with values that R relates, or with the same verdict
--     twin_site          the site, but for the history's pairs
--     twin_ways          the ways to a step, but for those and for notes
--     Shows R m n f g    two courses are twins on their files, and leave the same image
--     shows_run          the builds of a run
--     shown              the ending
use Rattle.std.proofs.Common.{◌≡◌, ◌≢◌, ℕ, Bool, true, false, cond, List, [], ◌∷◌, ◌++◌, length, Option, Some, None, Result, Ok, Err, refl, sym, ap, subst, ◌∙◌}
use Rattle.std.specs.Prelude.{IfSome}
use Rattle.std.specs.FinMap.{get, insert, empty}
use Rattle.em_base.proofs.Lemmas.{by_cases}
use Rattle.em_host.specs.declared.call.Call.{Call}
use Rattle.em_host.specs.Outside.{Files}
use Rattle.em_host.specs.Calls.{printed_by}
use Rattle.em_host.proofs.Telling.{printed_by-append}
use Rattle.em_history.specs.Histories.{Pair}
use Rattle.em_cmdline.specs.declared.order.HistoryMode.{HistoryMode}
use Rattle.em_cmdline.specs.declared.order.HistoryMode.TheVariants as mode
use Rattle.em_cmdline.specs.declared.order.Order.{Order}
use Rattle.em_cmdline.specs.Words.{order_of, refusal}
use Rattle.em_run.specs.Serial.{outputs_of}
use Rattle.em_engine.specs.declared.note.Note.{Note}
use Rattle.em_program.specs.declared.site.Earlier.{Earlier}
use Rattle.em_program.specs.declared.rounds.Remaking.{Remaking}
use Rattle.em_program.specs.declared.rounds.BuildStep.{BuildStep}
use Rattle.em_program.specs.declared.site.Site.{Site}
use Rattle.em_program.specs.declared.verdict.BuildStatus.{BuildStatus}
use Rattle.em_program.specs.Alike.{AreSites, AreSteps, EndAlike, IsSame}
use Rattle.em_program.specs.Statuses.{code_of}
use Rattle.em_program.specs.Course.{Trace, Course, behind, ◌>>=◌, done, quit, say, say_all, take, stop}
use Rattle.em_program.specs.Explaining.{explained}
use Rattle.em_program.specs.Messages.{summary}
use Rattle.em_program.specs.Projects.{tree_in, pairs_of, recalled, site}
use Rattle.em_program.specs.Rounds.{Build, is_early, left_by, first, moved, following, goes_by, goes_on}
use Rattle.em_program.specs.Words.{ordered}
use Rattle.em_program.specs.Endings.{written, broken_off, is_whole, is_asked, last_of, next_or_last, after_jobs, run_from, Tally, working, summed, counted_as, counted, answered, ended_at, ended}
use Rattle.em_program.proofs.Untouched.{firsts, followings, moves}
use Rattle.em_program_laws.specs.Laws.{AreSeenAlike, AreMadeAlike, IsSameEnd}
use Rattle.em_program_laws.proofs.Courses.{ok_same, ok_err, err_same, in_case, left, trace_then, trace_stop, left_behind, left_stop, left_done, all_still, IsQuiet, Gives, get_other}
use Rattle.em_program_laws.proofs.Parts.{site_quiet, quiet_ordered, quiet_explained, quiet_tree, quiet_first, quiet_following, ordered_is, Any, IsOf, IsSet, site_is, IsOn, first_on, following_on}
use Rattle.em_program_laws.proofs.Leaving.{counted_left, text_for, tally_for, last_gives}
use Rattle.em_program_laws.proofs.Replacing.{names_of, apart, image_closed, last_leaves}

-- ---- two traces

abbrev pub Both : {A B : Type 0} → (A → B → Type 0) → Result A BuildStatus → Result B BuildStatus → Type 0
Both R (Ok a) (Ok b) = R a b
Both R (Err v) (Err w) = v ≡ w
Both R _ _ = ⊥

pub record Twin {A B : Type 0} (R : A → B → Type 0) (x : Trace A) (y : Trace B) : Type 0 where
  pub printed : printed_by x.calls ≡ printed_by y.calls
  pub end : Both R x.end y.end

abbrev pub Alike : {A : Type 0} → A → A → Type 0
Alike a b = a ≡ b

both_same : {A : Type 0} (x y : Result A BuildStatus) → x ≡ y → Both Alike x y
both_same (Ok a) (Ok b) e = ok_same e
both_same (Ok a) (Err w) e = absurd (ok_err e)
both_same (Err v) (Ok b) e = absurd (ok_err (sym e))
both_same (Err v) (Err w) e = err_same e

both_is : {A : Type 0} (x y : Result A BuildStatus) → Both Alike x y → x ≡ y
both_is (Ok a) (Ok b) e = ap Ok e
both_is (Ok a) (Err w) e = absurd e
both_is (Err v) (Ok b) e = absurd e
both_is (Err v) (Err w) e = ap Err e

module _ {A B C D : Type 0} (R : A → C → Type 0) (S : B → D → Type 0) (m : Course A) (k : A → Course B) (n : Course C) (l : C → Course D) (f g : Files) where
  behind_twin : (c d : List Call) (x : Trace B) (y : Trace D) → printed_by c ≡ printed_by d → Twin S x y → Twin S (behind c x) (behind d y)
  behind_twin c d x y p q = record {
    printed = printed_by-append c x.calls ∙ ap (λ (t : List ℕ). t ++ printed_by x.calls) p ∙ ap (λ (t : List ℕ). printed_by d ++ t) q.printed ∙ sym (printed_by-append d y.calls);
    end = q.end;
  }

  both_went : (a : A) (b : C) → (m f).end ≡ Ok a → (n g).end ≡ Ok b → printed_by (m f).calls ≡ printed_by (n g).calls → Twin S (k a (left m f)) (l b (left n g)) → Twin S ((m >>= k) f) ((n >>= l) g)
  both_went a b e i p q =
      subst (λ (x : Trace B). Twin S x ((n >>= l) g)) (sym (trace_then m k f a e))
      (subst (λ (y : Trace D). Twin S (behind (m f).calls (k a (left m f))) y) (sym (trace_then n l g b i))
      (behind_twin (m f).calls (n g).calls (k a (left m f)) (l b (left n g)) p q))

  both_stopped : (v w : BuildStatus) → (m f).end ≡ Err v → (n g).end ≡ Err w → printed_by (m f).calls ≡ printed_by (n g).calls → v ≡ w → Twin S ((m >>= k) f) ((n >>= l) g)
  both_stopped v w e i p same =
      subst (λ (x : Trace B). Twin S x ((n >>= l) g)) (sym (trace_stop m k f v e))
      (subst (λ (y : Trace D). Twin S (record { calls = (m f).calls; end = Err v }) y) (sym (trace_stop n l g w i))
      (record { printed = p; end = same }))

  pub twin_then_left : Twin R (m f) (n g) → ((a : A) (b : C) → (m f).end ≡ Ok a → R a b → Twin S (k a (left m f)) (l b (left n g))) → Twin S ((m >>= k) f) ((n >>= l) g)
  twin_then_left p more =
      let ends : (x : Result A BuildStatus) (y : Result C BuildStatus) → (m f).end ≡ x → (n g).end ≡ y → Both R x y =
      λ x y e i. subst (λ (u : Result C BuildStatus). Both R x u) i (subst (λ (u : Result A BuildStatus). Both R u (n g).end) e p.end) in
      in_case (m f).end (Twin S ((m >>= k) f) ((n >>= l) g))
      (λ a e. in_case (n g).end (Twin S ((m >>= k) f) ((n >>= l) g))
      (λ b i. both_went a b e i p.printed (more a b e (ends (Ok a) (Ok b) e i)))
      (λ w i. absurd (ends (Ok a) (Err w) e i)))
      (λ v e. in_case (n g).end (Twin S ((m >>= k) f) ((n >>= l) g))
      (λ b i. absurd (ends (Err v) (Ok b) e i))
      (λ w i. both_stopped v w e i p.printed (ends (Err v) (Err w) e i)))

  pub twin_then : left m f ≡ f → left n g ≡ g → Twin R (m f) (n g) → ((a : A) (b : C) → (m f).end ≡ Ok a → R a b → Twin S (k a f) (l b g)) → Twin S ((m >>= k) f) ((n >>= l) g)
  twin_then still quiet p more = twin_then_left p (λ a b e r.
      subst (λ (u : Files). Twin S (k a u) (l b (left n g))) (sym still)
      (subst (λ (u : Files). Twin S (k a f) (l b u)) (sym quiet) (more a b e r)))

-- the same course, which is quiet
twin_quiet : {A B D : Type 0} (S : B → D → Type 0) (Agree : Files → Files → Type 0) (m : Course A) (k : A → Course B) (l : A → Course D) (f g : Files) → IsQuiet Agree A m → Agree f g
    → ((a : A) → (m f).end ≡ Ok a → Twin S (k a f) (l a g)) → Twin S ((m >>= k) f) ((m >>= l) g)
twin_quiet {A = A} S Agree m k l f g is agree more =
    twin_then Alike S m k m l f g (is.still f) (is.still g) (record { printed = is.printed f g agree; end = both_same (m f).end (m g).end (is.same f g agree) })
    (λ a b e same. subst (λ (c : A). Twin S (k a f) (l c g)) same (more a e))

twin_done : {A B : Type 0} (R : A → B → Type 0) (a : A) (b : B) (f g : Files) → R a b → Twin R (done a f) (done b g)
unfolding done
twin_done R a b f g r = record { printed = refl; end = r }

twin_gives : {A : Type 0} (m n : Course A) (text : List ℕ) (a : A) (f g : Files) → Gives m text a → Gives n text a → Twin Alike (m f) (n g)
twin_gives m n text a f g p q = record { printed = p.printed f ∙ sym (q.printed g); end = both_same (m f).end (n g).end (p.end f ∙ sym (q.end g)) }

-- ---- the site

record IsRecalled (m : HistoryMode) (name : Option (List ℕ)) (f : Files) : Type 0 where
  old : List Pair
  end : (recalled m name f).end ≡ Ok old
  printed : printed_by (recalled m name f).calls ≡ []
  still : left (recalled m name) f ≡ f

is_recalled : (m : HistoryMode) (name : Option (List ℕ)) (f : Files) → IsRecalled m name f
unfolding ◌>>=◌ take done
is_recalled mode.Create name f = record { old = []; end = refl; printed = refl; still = refl }
is_recalled mode.Merge None f = record { old = []; end = refl; printed = refl; still = refl }
is_recalled mode.Merge (Some name) f = record { old = pairs_of (get f name); end = refl; printed = refl; still = refl }
is_recalled mode.Read None f = record { old = []; end = refl; printed = refl; still = refl }
is_recalled mode.Read (Some name) f = record { old = pairs_of (get f name); end = refl; printed = refl; still = refl }

twin_recalled : (m : HistoryMode) (name : Option (List ℕ)) (f g : Files) → Twin (λ (a b : List Pair). Unit {0}) (recalled m name f) (recalled m name g)
twin_recalled m name f g =
    let p = is_recalled m name f in
    let q = is_recalled m name g in
    record {
      printed = p.printed ∙ sym q.printed;
      end = subst (λ (x : Result (List Pair) BuildStatus). Both (λ (a b : List Pair). Unit {0}) x (recalled m name g).end) (sym p.end)
          (subst (λ (y : Result (List Pair) BuildStatus). Both (λ (a b : List Pair). Unit {0}) (Ok p.old) y) (sym q.end) tt);
    }

seen_as : (a b : Option (List ℕ)) (f g : Files) → a ≡ b → IfSome b (λ name. get f name ≡ get g name) → IfSome a (λ name. get f name ≡ get g name)
seen_as a b f g e h = subst (λ (o : Option (List ℕ)). IfSome o (λ name. get f name ≡ get g name)) (sym e) h

named : (I : Files → Files → Type 0) (name : Option (List ℕ)) → ((x y : Files) → I x y → IfSome name (λ n. get x n ≡ get y n)) → IfSome name (λ n. (x y : Files) → I x y → get x n ≡ get y n)
named I None h = tt
named I (Some n) h = h

pub twin_site : (words : List (List ℕ)) (f g : Files) → AreSeenAlike (order_of words) f g → Twin AreSites (site words f) (site words g)
twin_site words f g seen =
    twin_quiet AreSites (AreSeenAlike (order_of words)) (ordered words) _ _ f g (quiet_ordered (AreSeenAlike (order_of words)) words) seen (λ o e.
    let is = (ordered_is words f o e).order in
    twin_quiet AreSites (AreSeenAlike o) (explained o) _ _ f g (quiet_explained (AreSeenAlike o) o.explain o.agents (named (AreSeenAlike o) o.explain (λ x y h. h.explain))) (of_order o is) (λ u _.
    twin_quiet AreSites (AreSeenAlike o) (tree_in o.generate o.image) _ _ f g (quiet_tree (AreSeenAlike o) o.generate o.image (named (AreSeenAlike o) o.image (λ x y h. h.image))) (of_order o is) (λ tree _.
    twin_then (λ (a b : List Pair). Unit {0}) AreSites (recalled o.mode o.history) _ (recalled o.mode o.history) _ f g (is_recalled o.mode o.history f).still (is_recalled o.mode o.history g).still (twin_recalled o.mode o.history f g) (λ a b _ _.
    twin_done AreSites _ _ f g (record { order = refl; start = refl; outcomes = refl })))))
  where
    of_order : (o : Order) → IsOf words o → AreSeenAlike o f g
    of_order o is = record { image = seen_as o.image (order_of words).image f g is.image seen.image; explain = seen_as o.explain (order_of words).explain f g is.explain seen.explain }

-- ---- the steps

to_both : (x y : Result BuildStep BuildStatus) → EndAlike x y → Both AreSteps x y
to_both (Ok u) (Ok v) e = e
to_both (Ok u) (Err w) e = absurd e
to_both (Err v) (Ok w) e = absurd e
to_both (Err v) (Err w) e = e

-- ways to a step that are the same on the same files are twins on any
twin_ways : (c d : Course BuildStep) (f g : Files) → IsSame c d f → IsQuiet Any BuildStep d → Twin AreSteps (c f) (d g)
twin_ways c d f g is quiet = record {
  printed = ap printed_by is.calls ∙ quiet.printed f g tt;
  end = subst (λ (y : Result BuildStep BuildStatus). Both AreSteps (c f).end y) (quiet.same f g tt) (to_both (c f).end (d f).end is.end);
}

-- a step that is alike is this one with other pairs, notes and waits
abbrev other_step : BuildStep → List Pair → Earlier → List (List ℕ) → BuildStep
other_step u old past waits = record {
  project = record {
    terms = record {
      order = u.project.terms.order;
      old = old;
      earlier = record { notes = past.notes; outcomes = u.project.terms.earlier.outcomes; shown = past.shown };
      goals = u.project.terms.goals;
      plan = u.project.terms.plan;
      waits = waits;
    };
    start = u.project.start;
    specs = u.project.specs;
  };
  remaking = u.remaking;
}

is_other_step : (u v : BuildStep) → AreSteps u v → other_step u v.project.terms.old v.project.terms.earlier v.project.terms.waits ≡ v
is_other_step u v same = λ i. record {
  project = record {
    terms = record {
      order = same.project.order i;
      old = v.project.terms.old;
      earlier = record { notes = v.project.terms.earlier.notes; outcomes = same.project.outcomes i; shown = v.project.terms.earlier.shown };
      goals = same.project.goals i;
      plan = same.project.plan i;
      waits = v.project.terms.waits;
    };
    start = same.project.start i;
    specs = same.project.specs i;
  };
  remaking = same.remaking i;
}

abbrev other_build : Build → List Note → Build
other_build b notes = record { made = b.made; notes = notes }

is_other_build : (b c : Build) → b.made ≡ c.made → other_build b c.notes ≡ c
is_other_build b c same = λ i. record { made = same i; notes = c.notes }

heads : {A : Type 0} {a b : A} {xs ys : List A} → a ∷ xs ≡ b ∷ ys → a ≡ b
heads e = cc

tails : {A : Type 0} {a b : A} {xs ys : List A} → a ∷ xs ≡ b ∷ ys → xs ≡ ys
tails e = cc

first_made : (b c : Build) (bs cs : List Build) → AreMadeAlike (b ∷ bs) (c ∷ cs) → b.made ≡ c.made
first_made b c bs cs e = heads e

rest_made : (b c : Build) (bs cs : List Build) → AreMadeAlike (b ∷ bs) (c ∷ cs) → AreMadeAlike bs cs
rest_made b c bs cs e = tails e

-- ---- the summary

twin_counted : (c d : List Call) (end : Result Tally BuildStatus) (f g : Files) → printed_by c ≡ printed_by d → Twin Alike (counted_as c end f) (counted_as d end g)
unfolding ◌>>=◌ say quit done
twin_counted c d (Ok t) f g same = by_cases t.whole (λ b. Twin Alike (cond b (summed c t) (done t.verdict) f) (cond b (summed d t) (done t.verdict) g))
    (λ _. subst (λ (text : List ℕ). Twin Alike (summed c t f) ((say (summary t.jobs (length text) t.nodes (code_of t.verdict)) >>= (λ u. done t.verdict)) g)) same (record { printed = refl; end = refl }))
    (λ _. record { printed = refl; end = refl })
twin_counted c d (Err v) f g same = subst (λ (text : List ℕ). Twin Alike (stop {A = BuildStatus} (printed_by c) v f) (stop {A = BuildStatus} text v g)) same (record { printed = refl; end = refl })

twin_sum : (x y : Trace Tally) (f g : Files) → Twin Alike x y → Twin Alike (counted x f) (counted y g)
twin_sum x y f g p = subst (λ (e : Result Tally BuildStatus). Twin Alike (counted_as x.calls x.end f) (counted_as y.calls e g)) (both_is x.end y.end p.end) (twin_counted x.calls y.calls x.end f g p.printed)

-- ---- two courses that show the same

module _ (words : List (List ℕ)) where
  -- the image's file is the same
  abbrev Agrees : Files → Files → Type 0
  Agrees f g = IfSome (order_of words).image (λ name. get f name ≡ get g name)

  agrees_as : (x y f g : Files) → x ≡ f → y ≡ g → Agrees f g → Agrees x y
  agrees_as x y f g e i same = subst (λ (u : Files). Agrees u y) (sym e) (subst (λ (u : Files). Agrees f u) (sym i) same)

  agrees_with : (o : Option (List ℕ)) (f : Files) → IfSome o (λ name. get f name ≡ get f name)
  agrees_with None f = tt
  agrees_with (Some name) f = refl

  record Shows {A B : Type 0} (R : A → B → Type 0) (m : Course A) (n : Course B) (f g : Files) : Type 0 where
    twin : Twin R (m f) (n g)
    files : Agrees (left m f) (left n g)

  module _ {A B C D : Type 0} (R : A → C → Type 0) (S : B → D → Type 0) (m : Course A) (k : A → Course B) (n : Course C) (l : C → Course D) (f g : Files) (still : left m f ≡ f) (quiet : left n g ≡ g)
      (twin : Twin R (m f) (n g)) (same : Agrees f g) (more : (a : A) (b : C) → (m f).end ≡ Ok a → R a b → Shows S (k a) (l b) f g) where
    both_end : (x : Result A BuildStatus) (y : Result C BuildStatus) → (m f).end ≡ x → (n g).end ≡ y → Both R x y
    both_end x y e i = subst (λ (u : Result C BuildStatus). Both R x u) i (subst (λ (u : Result A BuildStatus). Both R u (n g).end) e twin.end)

    files_then : Agrees (left (m >>= k) f) (left (n >>= l) g)
    files_then = in_case (m f).end (Agrees (left (m >>= k) f) (left (n >>= l) g))
        (λ a e. in_case (n g).end (Agrees (left (m >>= k) f) (left (n >>= l) g))
        (λ b i. agrees_as _ _ (left (k a) f) (left (l b) g) (left_behind m k f a e still) (left_behind n l g b i quiet) (more a b e (both_end (Ok a) (Ok b) e i)).files)
        (λ w i. absurd (both_end (Ok a) (Err w) e i)))
        (λ v e. in_case (n g).end (Agrees (left (m >>= k) f) (left (n >>= l) g))
        (λ b i. absurd (both_end (Err v) (Ok b) e i))
        (λ w i. agrees_as _ _ f g (left_stop m k f v e ∙ still) (left_stop n l g w i ∙ quiet) same))

    shows_then : Shows S (m >>= k) (n >>= l) f g
    shows_then = record { twin = twin_then R S m k n l f g still quiet twin (λ a b e r. (more a b e r).twin); files = files_then }

  module _ (f g : Files) (seen : Agrees f g) where
    shows_broken : Shows Alike broken_off broken_off f g
    unfolding done
    shows_broken = record { twin = record { printed = refl; end = refl }; files = seen }

    -- ---- a build, and what follows it

    module _ (u : BuildStep) (b : Build) (old : List Pair) (earlier : Earlier) (waits : List (List ℕ)) (notes : List Note) (on : IsOn words u) where
      abbrev v : BuildStep
      v = other_step u old earlier waits

      abbrev c : Build
      c = other_build b notes

      alike_steps : AreSteps u v
      alike_steps = record { project = record { order = refl; outcomes = refl; plan = refl; goals = refl; start = refl; specs = refl }; remaking = refl }

      on_other : IsOn words v
      on_other = record { from = on.from; asked = on.asked; set = on.set }

      last_files : (o : Option (List ℕ)) → (order_of words).image ≡ o → IfSome o (λ name. get f name ≡ get g name) → IfSome o (λ name. get (left (last_of u b) f) name ≡ get (left (last_of v c) g) name)
      last_files None e h = tt
      last_files (Some name) e h =
          last_leaves words name e u b f on
          ∙ ap (λ (o : Option (List ℕ)). cond (is_asked u) o (image_closed (written (left_by u.project b)) o)) h
          ∙ sym (last_leaves words name e v c g on_other)

      shows_last : Shows Alike (last_of u b) (last_of v c) f g
      shows_last = record {
        twin = twin_gives (last_of u b) (last_of v c) (text_for u b) (tally_for u b) f g (last_gives u b) (last_gives v c);
        files = last_files (order_of words).image refl seen;
      }

      module _ (later past : BuildStep → Course Tally) (more : (n w : BuildStep) → AreSteps n w → IsOn words n → Shows Alike (later n) (past w) f g) where
        module _ (m : Remaking) (some : u.remaking ≡ Some m) where
          abbrev here : Site
          here = moved m.order u.project.terms (left_by u.project b) b.notes

          abbrev there : Site
          there = moved m.order v.project.terms (left_by u.project b) notes

          set : IsSet words m.order
          set = subst (λ (o : Option Remaking). IfSome o (λ m. IsSet words m.order)) some on.set

          shows_way : Shows Alike (following m here >>= later) (following m there >>= past) f g
          shows_way =
              let quiet = quiet_following Any m there in
              shows_then AreSteps Alike (following m here) later (following m there) past f g ((quiet_following Any m here).still f) (quiet.still g)
              (twin_ways (following m here) (following m there) f g (followings m here there f (moves m.order u.project v.project (left_by u.project b) b.notes notes alike_steps.project)) quiet) seen
              (λ n w e same. more n w same (following_on words m here set f n e))

          by_early : (early : Bool) → Shows Alike (next_or_last later u b (cond early None (Some (following m here)))) (next_or_last past v c (cond early None (Some (following m there)))) f g
          by_early true = shows_last
          by_early false = shows_way

        by_remaking : (o : Option Remaking) → u.remaking ≡ o → Shows Alike (next_or_last later u b (goes_by o u.project b)) (next_or_last past v c (goes_by o v.project c)) f g
        by_remaking None e = shows_last
        by_remaking (Some m) e = by_early m e (is_early u.project b)

        shows_jobs : Shows Alike (after_jobs later u b) (after_jobs past v c) f g
        shows_jobs = by_cases (is_whole u.project b) (λ w. Shows Alike (cond w (next_or_last later u b (goes_on u b)) broken_off) (cond w (next_or_last past v c (goes_on v c)) broken_off) f g)
            (λ _. by_remaking u.remaking refl)
            (λ _. shows_broken)

        shows_said : (texts : List (List ℕ)) → Shows Alike (say_all texts >>= (λ x. after_jobs later u b)) (say_all texts >>= (λ x. after_jobs past v c)) f g
        unfolding say_all
        shows_said texts = shows_then (Alike {A = Unit {0}}) Alike (say_all texts) _ (say_all texts) _ f g (all_still texts f) (all_still texts g) (record { printed = refl; end = refl }) seen (λ x y e same. shows_jobs)

    shows_build : (b c : Build) (bs cs : List Build) (u v : BuildStep) → b.made ≡ c.made → AreSteps u v → IsOn words u
        → ((n w : BuildStep) → AreSteps n w → IsOn words n → Shows Alike (run_from bs n) (run_from cs w) f g)
        → Shows Alike (run_from (b ∷ bs) u) (run_from (c ∷ cs) v) f g
    unfolding run_from
    shows_build b c bs cs u v made same on more =
        subst (λ (w : BuildStep). Shows Alike (run_from (b ∷ bs) u) (run_from (c ∷ cs) w) f g) (is_other_step u v same)
        (subst (λ (d : Build). Shows Alike (run_from (b ∷ bs) u) (run_from (d ∷ cs) (other_step u v.project.terms.old v.project.terms.earlier v.project.terms.waits)) f g) (is_other_build b c made)
        (shows_said u b v.project.terms.old v.project.terms.earlier v.project.terms.waits c.notes on (run_from bs) (run_from cs) more (outputs_of b.made)))

    shows_run : (builds others : List Build) → AreMadeAlike builds others → (u v : BuildStep) → AreSteps u v → IsOn words u → Shows Alike (run_from builds u) (run_from others v) f g
    unfolding run_from
    shows_run [] [] made u v same on = shows_broken
    shows_run [] (c ∷ cs) made u v same on = absurd cc
    shows_run (b ∷ bs) [] made u v same on = absurd cc
    shows_run (b ∷ bs) (c ∷ cs) made u v same on = shows_build b c bs cs u v (first_made b c bs cs made) same on (λ n w alike is. shows_run bs cs (rest_made b c bs cs made) n w alike is)

-- ---- the ending

module _ (words : List (List ℕ)) (builds others : List Build) (made : AreMadeAlike builds others) where
  module _ (s t : Site) (same : AreSites s t) (set : IsSet words s.order) where
    shows_work : (f g : Files) → Agrees words f g → Shows words Alike (working builds s) (working others t) f g
    shows_work f g seen =
        let quiet = quiet_first Any t in
        shows_then words AreSteps Alike (first s) (run_from builds) (first t) (run_from others) f g ((quiet_first Any s).still f) (quiet.still g) (twin_ways (first s) (first t) f g (firsts s t f same) quiet) seen
        (λ u v e alike. shows_run words f g seen builds others made u v alike (first_on words s set f u e))

    shows_answered : (n : Option ℕ) (f g : Files) → Agrees words f g → Shows words Alike (answered n (working builds s)) (answered n (working others t)) f g
    shows_answered None f g seen =
        let work = shows_work f g seen in
        record {
          twin = twin_then_left Alike Alike (working builds s) _ (working others t) _ f g work.twin (λ x y _ alike.
              subst (λ (z : Tally). Twin Alike (done x.verdict (left (working builds s) f)) (done z.verdict (left (working others t) g))) alike (twin_done Alike x.verdict x.verdict _ _ refl));
          files = agrees_as words _ _ (left (working builds s) f) (left (working others t) g) (left_done (working builds s) (λ (x : Tally). x.verdict) f) (left_done (working others t) (λ (x : Tally). x.verdict) g) work.files;
        }
    shows_answered (Some n) f g seen = record {
      twin = twin_sum (working builds s empty) (working others t empty) f g (shows_work empty empty (agrees_with words (order_of words).image empty)).twin;
      files = agrees_as words _ _ f g (counted_left (working builds s empty).calls (working builds s empty).end f) (counted_left (working others t empty).calls (working others t empty).end g) seen;
    }

    shows_at : (f g : Files) → Agrees words f g → Shows words Alike (ended_at builds s) (ended_at others t) f g
    unfolding ended_at
    shows_at f g seen = subst (λ (n : Option ℕ). Shows words Alike (answered s.order.generate (working builds s)) (answered n (working others t)) f g) (ap (λ (o : Order). o.generate) same.order) (shows_answered s.order.generate f g seen)

  shows_ended : (f g : Files) → AreSeenAlike (order_of words) f g → Shows words Alike (ended words builds) (ended words others) f g
  shows_ended f g seen = shows_then words AreSites Alike (site words) (ended_at builds) (site words) (ended_at others) f g ((site_quiet words).still f) ((site_quiet words).still g) (twin_site words f g seen) seen.image
      (λ s t e same. shows_at s t same (site_is words f s e) f g seen.image)

  -- ---- the law

  pub shown : (f g : Files) → AreSeenAlike (order_of words) f g → IsSameEnd words builds others f g
  shown f g seen =
      let it = shows_ended f g seen in
      record { printed = it.twin.printed; end = both_is (ended words builds f).end (ended words others g).end it.twin.end; image = it.files }

  stays_seen : (o : Option (List ℕ)) (files : Files) (name bytes : List ℕ) → o ≢ Some name → IfSome o (λ n. get files n ≡ get (insert files name bytes) n)
  stays_seen None files name bytes not_so = tt
  stays_seen (Some n) files name bytes not_so = sym (get_other files name bytes n (λ e. not_so (ap Some e)))

  pub other_history : (files : Files) (name bytes : List ℕ) → refusal words ≡ None → (order_of words).history ≡ Some name → (order_of words).explain ≢ Some name → IsSameEnd words builds others files (insert files name bytes)
  other_history files name bytes ordered history explain = shown files (insert files name bytes) (record {
    image = stays_seen (order_of words).image files name bytes (λ e. apart (order_of words).image (order_of words).history name name (names_of words ordered).image_history e history refl);
    explain = stays_seen (order_of words).explain files name bytes explain;
  })
