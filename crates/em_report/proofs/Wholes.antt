-- Waits, lines and reports, each read from the left part by part.
use Rattle.std.proofs.Common.{◌≡◌, ◌≢◌, ℕ, zero, suc, ◌-◌, ◌^◌, ◌<◌, ◌≤◌, ◌==◌, not, Bool, true, false, cond, ◌⊎◌, inl, List, [], ◌∷◌, ◌++◌, length, drop, Ok, codes, decimal, refl, sym, ap, subst, ◌∙◌, append_assoc, arith}
use Rattle.std.specs.List.{flat_map, AllByRecursion}
use Rattle.std.proofs.lemmas.Bool.{eqb-true, eqb-false}
use Rattle.std.proofs.lemmas.List.Elements.{recursion_from_All, All-from_recursion}
use Rattle.em_history.specs.Names.{is_name, parts_names}
use Rattle.em_report.specs.declared.report.CauseWord.{CauseWord}
use Rattle.em_report.specs.declared.report.CauseWord.TheVariants as cause
use Rattle.em_report.specs.declared.report.ReportLine.{ReportLine}
use Rattle.em_report.specs.declared.report.Report.{Report}
use Rattle.em_report.specs.Reports.{word_of, wait_text, line_text, report_text, IsLine, IsReport}
use Rattle.em_report.specs.Parts.{◌>>=◌, Here, text_at, number_at, runs_at, cause_at, gap_at, waits_at}
use Rattle.em_report.specs.Reading.{next, line_at, lines_at, status_at, report_at}
use Rattle.em_report.proofs.Languages.{Lang, Took, Reads, Where, Rest, then_reads, field_reads, map_reads, narrow_reads, done, stuck_here, shorter}
use Rattle.em_report.proofs.Digits.{Number, number_reads}
use Rattle.em_report.proofs.Pieces.{Fixed, text_reads, Spaced, spaced_reads, Gap, gap_reads, Runs, runs_reads, Cause, cause_reads, Name, name_reads}

-- ---- waits

abbrev Small : ℕ → Type 0
Small w = w < 2 ^ 32

abbrev waits_text : List ℕ → List ℕ
waits_text ws = flat_map wait_text ws ++ codes "\n"

abbrev pub Waits : Lang (List ℕ)
Waits = record { valid = AllByRecursion Small; text = waits_text; follow = λ _. true }

abbrev behind_blank : List ℕ → List ℕ
behind_blank [] = []
behind_blank (n ∷ ws) = decimal n ++ waits_text ws

-- what stands behind the newline, and behind a blank
abbrev Gapped : Bool → Lang (List ℕ)
Gapped true = record { valid = λ ws. ws ≡ []; text = λ _. []; follow = λ _. true }
Gapped false = record { valid = λ ws. (n : ℕ) × (xs : List ℕ) × (ws ≡ n ∷ xs) × Small n × AllByRecursion Small xs; text = behind_blank; follow = λ _. true }

-- what stands behind the wait n
abbrev Waited : ℕ → Lang (List ℕ)
Waited n = record { valid = λ ws. (xs : List ℕ) × (ws ≡ n ∷ xs) × AllByRecursion Small xs; text = λ ws. waits_text (drop 1 ws); follow = λ _. true }

ends_name : (ws a : List ℕ) → parts_names (next (waits_text ws ++ a)) ≡ true
ends_name [] a = refl
ends_name (n ∷ ws) a = refl

ends_number : (ws a : List ℕ) → (Number (2 ^ 32 - 1)).follow (next (waits_text ws ++ a)) ≡ true
ends_number [] a = refl
ends_number (n ∷ ws) a = refl

waits_filled : (ws a w : List ℕ) → waits_text ws ++ a ≡ 0 ∷ w → ⊥
waits_filled [] a w e = cc
waits_filled (n ∷ ws) a w e = cc

no_bytes : (bs : List ℕ) → length bs ≤ 0 → next bs ≡ 0
no_bytes [] l = refl
no_bytes (b ∷ bs) l = absurd (omega arith)

one_wait : (n : ℕ) (ws : List ℕ) → waits_text (n ∷ ws) ≡ codes " " ++ behind_blank (n ∷ ws)
one_wait n ws = ap (λ (t : List ℕ). 32 ∷ t) (append_assoc (decimal n) (flat_map wait_text ws) (codes "\n"))

pub waits_reads : (k : ℕ) (h : Here) → length h.rest ≤ k → Reads Waits h (waits_at k h)
unfolding waits_at
waits_reads zero h room = stuck_here Waits h [] tt (λ y v a w g e. waits_filled y a w (e ∙ ap (λ (c : ℕ). c ∷ w) (no_bytes h.rest room)))
waits_reads (suc k) h room =
    then_reads Gap Waits Gapped (record { split = split; join = join; some = some; after = λ x y a v s g. (follows x (next a), refl) })
    h (gap_at h) (λ g. cond g.0 (Ok ([], g.1)) (number_at (2 ^ 32 - 1) g.1 >>= λ n. waits_at k n.1 >>= λ ws. Ok (n.0 ∷ ws.0, ws.1))) (gap_reads h) (λ x j t. go (λ i le. waits_reads k i le) x j t)
  where
    split : (y : List ℕ) → AllByRecursion Small y → (x : Bool) × Unit {0} × (Gapped x).valid y
    split [] v = (true, tt, refl)
    split (n ∷ ws) v = (false, tt, (n, ws, refl, v.0, v.1))

    join : (x : Bool) (y : List ℕ) → Unit {0} → (Gapped x).valid y → AllByRecursion Small y × (waits_text y ≡ cond x (10 ∷ []) (32 ∷ []) ++ (Gapped x).text y)
    join true y v s = (subst (λ (z : List ℕ). AllByRecursion Small z) (sym s) tt, ap waits_text s)
    join false y v s =
        let all : AllByRecursion Small (s.0 ∷ s.1) = (s.3, s.4) in
        (subst (λ (z : List ℕ). AllByRecursion Small z) (sym s.2) all, ap waits_text s.2 ∙ one_wait s.0 s.1 ∙ ap (λ (z : List ℕ). 32 ∷ behind_blank z) (sym s.2))

    some : (x : Bool) → Unit {0} → (y : List ℕ) × (Gapped x).valid y
    some true v = ([], refl)
    some false v = (0 ∷ [], (0, [], refl, omega arith, tt))

    follows : (x : Bool) (c : ℕ) → (Gapped x).follow c ≡ true
    follows true c = refl
    follows false c = refl

    go : ((i : Here) → length i.rest ≤ k → Reads Waits i (waits_at k i)) → (x : Bool) (j : Here) → Took Gap h x j → Reads (Gapped x) j (cond x (Ok ([], j)) (number_at (2 ^ 32 - 1) j >>= λ n. waits_at k n.1 >>= λ ws. Ok (n.0 ∷ ws.0, ws.1)))
    go on true j t = done (Gapped true) [] j refl refl (λ y e. e)
    go on false j t =
        then_reads (Number (2 ^ 32 - 1)) (Gapped false) Waited (record {
          split = λ y v. (v.0, omega (arith, v.3), (v.1, v.2, v.4));
          join = λ x y v s. ((x, s.0, s.1, omega arith, s.2), ap behind_blank s.1 ∙ ap (λ (z : List ℕ). decimal x ++ waits_text (drop 1 z)) (sym s.1));
          some = λ x v. (x ∷ [], ([], refl, tt));
          after = λ x y a v s g. (refl, ends_number (drop 1 y) a);
        }) j (number_at (2 ^ 32 - 1) j) (λ n. waits_at k n.1 >>= λ ws. Ok (n.0 ∷ ws.0, ws.1)) (number_reads (2 ^ 32 - 1) (omega arith) (omega arith) j)
        (λ n i u. map_reads Waits (Waited n) (λ ws. n ∷ ws) (record { from = λ y v. (v.0, v.2, v.1); to = λ ws v. ((ws, refl, v), refl); follow = λ c g. refl })
        i (waits_at k i) (on i (omega (arith, room, shorter Gap h j false t, shorter (Number (2 ^ 32 - 1)) j i n u))))

-- ---- a line

abbrev line : ℕ → ℕ → CauseWord → ℕ → List ℕ → List ℕ → ReportLine
line j r c f t ws = record { job = j; runs = r; cause = c; fuel = f; target = t; waits = ws }

abbrev a_name : List ℕ
a_name = codes "a"

is_line : (j r : ℕ) (c : CauseWord) (f : ℕ) (t ws : List ℕ) → j ≤ 2 ^ 32 - 1 → (r ≡ 1) ⊎ (r ≡ 2) → f ≤ 2 ^ 64 - 1 → is_name t ≡ true → AllByRecursion Small ws → IsLine (line j r c f t ws)
is_line j r c f t ws vj vr vf vt vw = record { job = omega arith; runs = vr; fuel = omega arith; target = vt; waits = All-from_recursion Small ws vw }

abbrev after_fuel : ReportLine → List ℕ
after_fuel l = l.target ++ waits_text l.waits

abbrev after_cause : ReportLine → List ℕ
after_cause l = decimal l.fuel ++ codes " " ++ after_fuel l

abbrev after_runs : ReportLine → List ℕ
after_runs l = word_of l.cause ++ codes " " ++ after_cause l

abbrev after_job : ReportLine → List ℕ
after_job l = decimal l.runs ++ codes " " ++ after_runs l

abbrev after_head : ReportLine → List ℕ
after_head l = decimal l.job ++ codes " " ++ after_job l

line_parts : (l : ReportLine) → line_text l ≡ codes "job " ++ after_head l
line_parts l = simp append_assoc

abbrev pub Line : Lang ReportLine
Line = record { valid = IsLine; text = line_text; follow = λ _. true }

-- each field with the blank behind it leaves the rest of the line
pub line_reads : (h : Here) → Reads Line h (line_at h)
unfolding line_at
line_reads h =
    let L1 = Rest Line (λ _. tt {0}) after_head (tt {0}) in
    let L2 : ℕ → Lang ReportLine = λ j. Rest L1 (λ l. l.job) after_job j in
    let L3 : ℕ → ℕ → Lang ReportLine = λ j r. Rest (L2 j) (λ l. l.runs) after_runs r in
    let L4 : ℕ → ℕ → CauseWord → Lang ReportLine = λ j r c. Rest (L3 j r) (λ l. l.cause) after_cause c in
    let L5 : ℕ → ℕ → CauseWord → ℕ → Lang ReportLine = λ j r c f. Rest (L4 j r c) (λ l. l.fuel) after_fuel f in
    let L6 : ℕ → ℕ → CauseWord → ℕ → List ℕ → Lang ReportLine = λ j r c f t. Rest (L5 j r c f) (λ l. l.target) (λ l. waits_text l.waits) t in
    field_reads (Fixed (codes "job ")) Line (λ _. tt {0}) after_head
    (record { valid = λ l v. tt; parts = line_parts; some = λ u v. (line 0 1 cause.Clean 0 a_name [], is_line 0 1 cause.Clean 0 a_name [] (omega arith) (inl refl) (omega arith) refl tt, refl); after = λ l a v g. refl })
    h _ _ (text_reads (codes "job ") refl h) (λ u h1 t1.
    field_reads (Spaced (Number (2 ^ 32 - 1))) L1 (λ l. l.job) after_job
    (record { valid = λ l v. omega (arith, v.0.job); parts = λ l. refl; some = λ j v. (line j 1 cause.Clean 0 a_name [], (is_line j 1 cause.Clean 0 a_name [] v (inl refl) (omega arith) refl tt, refl), refl); after = λ l a v g. refl })
    h1 _ _ (spaced_reads (Number (2 ^ 32 - 1)) refl h1 (number_at (2 ^ 32 - 1) h1) (number_reads (2 ^ 32 - 1) (omega arith) (omega arith) h1)) (λ j h2 tj.
    field_reads (Spaced Runs) (L2 j) (λ l. l.runs) after_runs
    (record { valid = λ l v. v.0.0.runs; parts = λ l. refl; some = λ r v. (line j r cause.Clean 0 a_name [], ((is_line j r cause.Clean 0 a_name [] tj.valid v (omega arith) refl tt, refl), refl), refl); after = λ l a v g. refl })
    h2 _ _ (spaced_reads Runs refl h2 (runs_at h2) (runs_reads h2)) (λ r h3 tr.
    field_reads (Spaced Cause) (L3 j r) (λ l. l.cause) after_cause
    (record { valid = λ l v. tt; parts = λ l. refl; some = λ c v. (line j r c 0 a_name [], (((is_line j r c 0 a_name [] tj.valid tr.valid (omega arith) refl tt, refl), refl), refl), refl); after = λ l a v g. refl })
    h3 _ _ (spaced_reads Cause refl h3 (cause_at h3) (cause_reads h3)) (λ c h4 tc.
    field_reads (Spaced (Number (2 ^ 64 - 1))) (L4 j r c) (λ l. l.fuel) after_fuel
    (record { valid = λ l v. omega (arith, v.0.0.0.0.fuel); parts = λ l. refl; some = λ f v. (line j r c f a_name [], ((((is_line j r c f a_name [] tj.valid tr.valid v refl tt, refl), refl), refl), refl), refl); after = λ l a v g. refl })
    h4 _ _ (spaced_reads (Number (2 ^ 64 - 1)) refl h4 (number_at (2 ^ 64 - 1) h4) (number_reads (2 ^ 64 - 1) (omega arith) (omega arith) h4)) (λ f h5 tf.
    field_reads Name (L5 j r c f) (λ l. l.target) (λ l. waits_text l.waits)
    (record { valid = λ l v. v.0.0.0.0.0.target; parts = λ l. refl; some = λ t v. (line j r c f t [], (((((is_line j r c f t [] tj.valid tr.valid tf.valid v tt, refl), refl), refl), refl), refl), refl); after = λ l a v g. ends_name l.waits a })
    h5 _ _ (name_reads h5) (λ t h6 tn.
    map_reads Waits (L6 j r c f t) (λ ws. line j r c f t ws) (record {
      from = λ l v. (l.waits, recursion_from_All Small l.waits v.0.0.0.0.0.0.waits, λ i. record { job = v.0.0.0.0.1 i; runs = v.0.0.0.1 i; cause = v.0.0.1 i; fuel = v.0.1 i; target = v.1 i; waits = l.waits });
      to = λ ws v. (((((((is_line j r c f t ws tj.valid tr.valid tf.valid tn.valid v, refl), refl), refl), refl), refl), refl), refl);
      follow = λ d g. refl;
    }) h6 (waits_at (length h6.rest) h6) (waits_reads (length h6.rest) h6 (omega arith))))))))

-- ---- lines

abbrev lines_text : List ReportLine → List ℕ
lines_text ls = flat_map line_text ls

abbrev Lines : Lang (List ReportLine)
Lines = record { valid = AllByRecursion IsLine; text = lines_text; follow = λ c. not (c == 106) }

-- what stands behind the line l
abbrev Lined : ReportLine → Lang (List ReportLine)
Lined l = record { valid = λ ls. (xs : List ReportLine) × (ls ≡ l ∷ xs) × AllByRecursion IsLine xs; text = λ ls. lines_text (drop 1 ls); follow = λ c. not (c == 106) }

begin_other : (ls : List ReportLine) (c : ℕ) (a w : List ℕ) → c ≢ 106 → lines_text ls ++ a ≡ c ∷ w → ls ≡ []
begin_other [] c a w n e = refl
begin_other (l ∷ ls) c a w n e = let same : 106 ≡ c = cc in absurd (n (sym same))

begin_here : (ls : List ReportLine) (c : ℕ) (a w : List ℕ) → c ≡ 106 → not (next a == 106) ≡ true → lines_text ls ++ a ≡ c ∷ w → ls ≢ []
begin_here [] c a w is g e empty = let same : next a ≡ 106 = ap next e ∙ is in let bad : false ≡ true = sym (ap (λ (z : ℕ). not (z == 106)) same) ∙ g in cc
begin_here (l ∷ ls) c a w is g e empty = cc

no_line : (h : Here) → next h.rest ≢ 106 → Took Lines h [] h
no_line h n = record { valid = tt; taken = refl; place = omega arith; only = λ y v a w g e. begin_other y (next h.rest) a w n e }

lines_reads : (k : ℕ) (h : Here) → length h.rest ≤ k → Reads Lines h (lines_at k h)
unfolding lines_at
lines_reads zero h room = no_line h (λ e. omega (arith, no_bytes h.rest room))
lines_reads (suc k) h room =
    elim (next h.rest == 106) as (λ b. (next h.rest == 106) ≡ b → Reads Lines h (cond b (line_at h >>= λ l. lines_at k l.1 >>= λ ls. Ok (l.0 ∷ ls.0, ls.1)) (Ok ([], h)))) [
      | true ↦ λ b.
          narrow_reads Lines (λ ls. ls ≢ []) h (line_at h >>= λ l. lines_at k l.1 >>= λ ls. Ok (l.0 ∷ ls.0, ls.1)) (λ y v a w g e. begin_here y (next h.rest) a w (eqb-true _ 106 b) g e)
          (then_reads Line (Where Lines (λ ls. ls ≢ [])) Lined (record { split = split; join = join; some = λ l v. (l ∷ [], ([], refl, tt)); after = λ x y a v s g. (g, refl) })
          h _ _ (line_reads h)
          (λ l j t. map_reads Lines (Lined l) (λ ls. l ∷ ls) (record { from = λ y v. (v.0, v.2, v.1); to = λ ls v. ((ls, refl, v), refl); follow = λ c g. g })
          j (lines_at k j) (lines_reads k j (omega (arith, room, shorter Line h j l t)))))
      | false ↦ λ b. no_line h (eqb-false _ 106 b)
    ] refl
  where
    split : (y : List ReportLine) → AllByRecursion IsLine y × (y ≢ []) → (l : ReportLine) × IsLine l × (Lined l).valid y
    split [] v = absurd (v.1 refl)
    split (l ∷ ls) v = (l, v.0.0, (ls, refl, v.0.1))

    join : (l : ReportLine) (y : List ReportLine) → IsLine l → (Lined l).valid y → (AllByRecursion IsLine y × (y ≢ [])) × (lines_text y ≡ line_text l ++ lines_text (drop 1 y))
    join l y v s =
        let all : AllByRecursion IsLine (l ∷ s.0) = (v, s.2) in
        ((subst (λ (z : List ReportLine). AllByRecursion IsLine z) (sym s.1) all, λ e. let bad : l ∷ s.0 ≡ [] = sym s.1 ∙ e in cc), ap lines_text s.1 ∙ ap (λ (z : List ReportLine). line_text l ++ lines_text (drop 1 z)) (sym s.1))

-- ---- the status, and the report

abbrev status_text : ℕ → List ℕ
status_text s = codes "status " ++ (decimal s ++ codes "\n.\n")

abbrev Status : Lang ℕ
Status = record { valid = λ s. s < 2 ^ 8; text = status_text; follow = λ _. true }

status_reads : (h : Here) → Reads Status h (status_at h)
unfolding status_at
status_reads h =
    let R1 = Rest Status (λ _. tt {0}) (λ s. decimal s ++ codes "\n.\n") (tt {0}) in
    let R2 : ℕ → Lang ℕ = λ s. Rest R1 (λ z. z) (λ _. codes "\n.\n") s in
    field_reads (Fixed (codes "status ")) Status (λ _. tt {0}) (λ s. decimal s ++ codes "\n.\n") (record { valid = λ y v. tt; parts = λ y. refl; some = λ u v. (0, omega arith, refl); after = λ y a v g. refl })
    h _ _ (text_reads (codes "status ") refl h) (λ u k t.
    field_reads (Number (2 ^ 8 - 1)) R1 (λ z. z) (λ _. codes "\n.\n") (record { valid = λ y v. omega (arith, v.0); parts = λ y. refl; some = λ s v. (s, (omega arith, refl), refl); after = λ y a v g. refl })
    k _ _ (number_reads (2 ^ 8 - 1) (omega arith) (omega arith) k) (λ s j t.
    map_reads (Fixed (codes "\n.\n")) (R2 s) (λ _. s) (record { from = λ y v. (tt, tt, v.1); to = λ u v. (((omega (arith, t.valid), refl), refl), refl); follow = λ c g. refl })
    j (text_at (codes "\n.\n") j) (text_reads (codes "\n.\n") refl j)))

abbrev pub Whole : Lang Report
Whole = record { valid = IsReport; text = report_text; follow = λ _. true }

abbrev of_lines : Report → List ℕ
of_lines r = lines_text r.lines ++ status_text r.status

report_parts : (r : Report) → report_text r ≡ codes "EMREPORT 1\n" ++ of_lines r
report_parts r = simp append_assoc

pub report_reads : (h : Here) → Reads Whole h (report_at h)
unfolding report_at
report_reads h =
    let R1 = Rest Whole (λ _. tt {0}) of_lines (tt {0}) in
    let R2 : List ReportLine → Lang Report = λ ls. Rest R1 (λ r. r.lines) (λ r. status_text r.status) ls in
    field_reads (Fixed (codes "EMREPORT 1\n")) Whole (λ _. tt {0}) of_lines (record { valid = λ r v. tt; parts = report_parts; some = λ u v. (record { lines = []; status = 0 }, is_report [] 0 tt (omega arith), refl); after = λ r a v g. refl })
    h _ _ (text_reads (codes "EMREPORT 1\n") refl h) (λ u k t.
    field_reads Lines R1 (λ r. r.lines) (λ r. status_text r.status) (record { valid = λ r v. recursion_from_All IsLine r.lines v.0.lines; parts = λ r. refl; some = λ ls v. (record { lines = ls; status = 0 }, (is_report ls 0 v (omega arith), refl), refl); after = λ r a v g. refl })
    k _ _ (lines_reads (length k.rest) k (omega arith)) (λ ls j t.
    map_reads Status (R2 ls) (λ s. record { lines = ls; status = s }) (record { from = λ r v. (r.status, v.0.0.status, λ i. record { lines = v.1 i; status = r.status }); to = λ s v. (((is_report ls s t.valid v, refl), refl), refl); follow = λ c g. refl })
    j (status_at j) (status_reads j)))
  where
    is_report : (ls : List ReportLine) (s : ℕ) → AllByRecursion IsLine ls → s < 2 ^ 8 → IsReport (record { lines = ls; status = s })
    is_report ls s v w = record { lines = All-from_recursion IsLine ls v; status = w }
