-- Lists that are read item by item: what was read, in front of what is still read.
use Rattle.std.proofs.Common.{◌≡◌, ℕ, suc, ◌+◌, ◌-◌, ◌^◌, ◌<◌, ◌≤◌, ◌==◌, true, false, Bool, cond, List, [], ◌∷◌, ◌++◌, Result, Ok, Err, refl, sym, ap, subst, ◌∙◌, append_assoc, append-nil, arith}
use Rattle.em_report.specs.declared.no.ReportNo.{ReportNo}
use Rattle.em_report.specs.declared.no.ReportNo.TheVariants as no
use Rattle.em_report.specs.declared.report.ReportLine.{ReportLine}
use Rattle.em_report.specs.Parts.{◌>>=◌, Fails, Here, gap_at, number_at, waits_at}
use Rattle.em_report.specs.Reading.{next, line_at, lines_at}

abbrev pub behind : {A : Type 0} → List A → Result (List A × Here) ℕ → Result (List A × Here) ℕ
behind xs read = read >>= λ ys. Ok (xs ++ ys.0, ys.1)

pub behind_none : {A : Type 0} (read : Result (List A × Here) ℕ) → behind [] read ≡ read
behind_none (Ok (xs, k)) = refl
behind_none (Err at) = refl

-- one item more was read
pub behind_push : {A : Type 0} (xs : List A) (x : A) (read : Result (List A × Here) ℕ) → behind (xs ++ x ∷ []) read ≡ behind xs (read >>= λ ys. Ok (x ∷ ys.0, ys.1))
behind_push {A} xs x (Ok (ys, k)) = ap (λ (zs : List A). Ok (zs, k)) (append_assoc xs (x ∷ []) ys)
behind_push xs x (Err at) = refl

-- a fault in the first of two parts is the fault of both
pub fails_then : {A B : Type 0} (e : ReportNo) (r : Result A ℕ) (f : A → Result B ℕ) → Fails e r → Fails e (r >>= f)
fails_then (no.Form at) r f h = rw h refl
fails_then no.NoMemory r f h = tt

-- what was read is all
all_read : {A : Type 0} (xs : List A) (k : Here) (read whole : Result (List A × Here) ℕ) → read ≡ Ok ([], k) → behind xs read ≡ whole → whole ≡ Ok (xs, k)
all_read {A} xs k read whole e so_far = sym so_far ∙ ap (behind xs) e ∙ ap (λ (zs : List A). Ok (zs, k)) (append-nil xs)

-- the read of a list fails
not_read : {A : Type 0} (e : ReportNo) (xs : List A) (read whole : Result (List A × Here) ℕ) → Fails e read → behind xs read ≡ whole → Fails e whole
not_read e xs read whole f so_far = subst (λ r. Fails e r) so_far (fails_then e read (λ ys. Ok (xs ++ ys.0, ys.1)) f)

turn : (n i : ℕ) → i < n → n - i ≡ suc (n - (i + 1))
turn n i lt = omega arith

turns_out : (n i : ℕ) → n ≤ i → n - i ≡ 0
turns_out n i le = omega arith

-- ---- waits

abbrev Waits : Type 0
Waits = Result (List ℕ × Here) ℕ

behind_gap : ℕ → Bool × Here → Waits
behind_gap k g = cond g.0 (Ok ([], g.1)) (number_at (2 ^ 32 - 1) g.1 >>= λ n. waits_at k n.1 >>= λ ws. Ok (n.0 ∷ ws.0, ws.1))

waits_step : (k : ℕ) (h : Here) → waits_at (suc k) h ≡ (gap_at h >>= behind_gap k)
unfolding waits_at behind_gap
waits_step k h = refl

pub gap_fails : (e : ReportNo) (xs : List ℕ) (k : ℕ) (h : Here) (whole : Waits) → Fails e (gap_at h) → behind xs (waits_at (suc k) h) ≡ whole → Fails e whole
gap_fails e xs k h whole f = not_read e xs (waits_at (suc k) h) whole (subst (λ r. Fails e r) (sym (waits_step k h)) (fails_then e (gap_at h) (behind_gap k) f))

pub waits_end : (xs : List ℕ) (k : ℕ) (h after : Here) (whole : Waits) → gap_at h ≡ Ok (true, after) → behind xs (waits_at (suc k) h) ≡ whole → whole ≡ Ok (xs, after)
unfolding behind_gap
waits_end xs k h after whole e = all_read xs after (waits_at (suc k) h) whole (waits_step k h ∙ rw e refl)

-- a blank stands there
blank_step : (k : ℕ) (h after : Here) → gap_at h ≡ Ok (false, after) → waits_at (suc k) h ≡ (number_at (2 ^ 32 - 1) after >>= λ n. waits_at k n.1 >>= λ ws. Ok (n.0 ∷ ws.0, ws.1))
unfolding behind_gap
blank_step k h after e = waits_step k h ∙ rw e refl

pub wait_fails : (e : ReportNo) (xs : List ℕ) (k : ℕ) (h after : Here) (whole : Waits) → gap_at h ≡ Ok (false, after) → Fails e (number_at (2 ^ 32 - 1) after) → behind xs (waits_at (suc k) h) ≡ whole → Fails e whole
wait_fails e xs k h after whole g f =
    not_read e xs (waits_at (suc k) h) whole (subst (λ r. Fails e r) (sym (blank_step k h after g)) (fails_then e (number_at (2 ^ 32 - 1) after) (λ n. waits_at k n.1 >>= λ ws. Ok (n.0 ∷ ws.0, ws.1)) f))

pub wait_more : (xs : List ℕ) (k n : ℕ) (h after j : Here) (whole : Waits) → gap_at h ≡ Ok (false, after) → number_at (2 ^ 32 - 1) after ≡ Ok (n, j) → behind xs (waits_at (suc k) h) ≡ whole → behind (xs ++ n ∷ []) (waits_at k j) ≡ whole
wait_more xs k n h after j whole g e so_far = behind_push xs n (waits_at k j) ∙ ap (behind xs) (sym (blank_step k h after g ∙ rw e refl)) ∙ so_far

-- at the i-th turn of n, and behind them
pub waits_turn : (xs : List ℕ) (n i : ℕ) (h : Here) (whole : Result (List ℕ × Here) ℕ) → i < n → behind xs (waits_at (n - i) h) ≡ whole → behind xs (waits_at (suc (n - (i + 1))) h) ≡ whole
waits_turn xs n i h whole lt = subst (λ k. behind xs (waits_at k h) ≡ whole) (turn n i lt)

pub waits_out : (xs : List ℕ) (n i : ℕ) (h : Here) (whole : Result (List ℕ × Here) ℕ) → n ≤ i → behind xs (waits_at (n - i) h) ≡ whole → whole ≡ Err h.at
unfolding waits_at
waits_out xs n i h whole le so_far = sym (subst (λ k. behind xs (waits_at k h) ≡ whole) (turns_out n i le) so_far)

-- ---- lines

abbrev Lines : Type 0
Lines = Result (List ReportLine × Here) ℕ

abbrev line_then : ℕ → Here → Lines
line_then k h = line_at h >>= λ l. lines_at k l.1 >>= λ ls. Ok (l.0 ∷ ls.0, ls.1)

lines_step : (k : ℕ) (h : Here) → lines_at (suc k) h ≡ cond (next h.rest == 106) (line_then k h) (Ok ([], h))
unfolding lines_at
lines_step k h = refl

pub lines_end : (xs : List ReportLine) (k : ℕ) (h : Here) (whole : Lines) → (next h.rest == 106) ≡ false → behind xs (lines_at (suc k) h) ≡ whole → whole ≡ Ok (xs, h)
lines_end xs k h whole e = all_read xs h (lines_at (suc k) h) whole (lines_step k h ∙ rw e refl)

pub line_fails : (e : ReportNo) (xs : List ReportLine) (k : ℕ) (h : Here) (whole : Lines) → (next h.rest == 106) ≡ true → Fails e (line_at h) → behind xs (lines_at (suc k) h) ≡ whole → Fails e whole
line_fails e xs k h whole b f =
    not_read e xs (lines_at (suc k) h) whole (subst (λ r. Fails e r) (sym (lines_step k h ∙ rw b refl)) (fails_then e (line_at h) (λ l. lines_at k l.1 >>= λ ls. Ok (l.0 ∷ ls.0, ls.1)) f))

pub line_more : (xs : List ReportLine) (k : ℕ) (l : ReportLine) (h j : Here) (whole : Lines) → (next h.rest == 106) ≡ true → line_at h ≡ Ok (l, j) → behind xs (lines_at (suc k) h) ≡ whole → behind (xs ++ l ∷ []) (lines_at k j) ≡ whole
line_more xs k l h j whole b e so_far = behind_push xs l (lines_at k j) ∙ ap (behind xs) (sym (lines_step k h ∙ rw (b, e) refl)) ∙ so_far

-- at the i-th turn of n, and behind them
pub lines_turn : (xs : List ReportLine) (n i : ℕ) (h : Here) (whole : Result (List ReportLine × Here) ℕ) → i < n → behind xs (lines_at (n - i) h) ≡ whole → behind xs (lines_at (suc (n - (i + 1))) h) ≡ whole
lines_turn xs n i h whole lt = subst (λ k. behind xs (lines_at k h) ≡ whole) (turn n i lt)

pub lines_out : (xs : List ReportLine) (n i : ℕ) (h : Here) (whole : Result (List ReportLine × Here) ℕ) → n ≤ i → behind xs (lines_at (n - i) h) ≡ whole → whole ≡ Ok (xs, h)
unfolding lines_at
lines_out xs n i h whole le so_far = all_read xs h (lines_at 0 h) whole refl (subst (λ k. behind xs (lines_at k h) ≡ whole) (turns_out n i le) so_far)
