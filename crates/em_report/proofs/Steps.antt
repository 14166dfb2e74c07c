-- Reading byte by byte: one step of fixed texts and of digits.
use Rattle.std.proofs.Common.{◌≡◌, ℕ, suc, ◌+◌, ◌-◌, ◌*◌, ◌<◌, ◌≤◌, Bool, true, false, List, [], ◌∷◌, length, get_or, drop, Some, None, cond, Result, Ok, refl, sym, ap, subst, ◌∙◌, add-one, drop-cons}
use Rattle.std.proofs.lemmas.List.{drop_all, drop-drop}
use Rattle.em_report.specs.declared.no.ReportNo.{ReportNo}
use Rattle.em_report.specs.Parts.{◌>>=◌, Fails, Here, here, skip, fixed_at, text_at, fits, more_at}
use Rattle.em_report.proofs.Joins.{fails_then}

pub text_more : (bs : List ℕ) (i : ℕ) (h k : Here) (whole : Result (Unit {0} × Here) ℕ) → i < length bs → fixed_at (get_or bs i 0) h ≡ Ok (tt, k) → text_at (drop i bs) h ≡ whole → text_at (drop (i + 1) bs) k ≡ whole
unfolding text_at
text_more bs i h k whole lt e so_far =
    let one : text_at (drop i bs) h ≡ text_at (drop (i + 1) bs) k = rw (add-one, drop-cons bs i 0, e) refl in
    sym one ∙ so_far

pub text_ends : (e : ReportNo) (bs : List ℕ) (i : ℕ) (h : Here) (whole : Result (Unit {0} × Here) ℕ) → i < length bs → Fails e (fixed_at (get_or bs i 0) h) → text_at (drop i bs) h ≡ whole → Fails e whole
unfolding text_at
text_ends e bs i h whole lt f so_far =
    let one : text_at (drop i bs) h ≡ (fixed_at (get_or bs i 0) h >>= λ k. text_at (drop (suc i) bs) k.1) = rw (drop-cons bs i 0) refl in
    subst (λ r. Fails e r) (sym one ∙ so_far) (fails_then e (fixed_at (get_or bs i 0) h) (λ k. text_at (drop (suc i) bs) k.1) f)

pub text_done : (bs : List ℕ) (i : ℕ) (h : Here) (whole : Result (Unit {0} × Here) ℕ) → length bs ≤ i → text_at (drop i bs) h ≡ whole → whole ≡ Ok (tt, h)
unfolding text_at
text_done bs i h whole le so_far = sym so_far ∙ rw (drop_all i bs le) refl

-- ---- digits

-- what an appended digit says of the test
pub is_fit : (b : Bool) (n m : ℕ) → Some n ≡ cond b (Some m) None → (b ≡ true) × (n ≡ m)
is_fit true n m e = (refl, cc)
is_fit false n m e = absurd cc

pub no_fit : (b : Bool) (m : ℕ) → None ≡ cond b (Some m) None → b ≡ false
no_fit true m e = absurd cc
no_fit false m e = refl

-- the rest at the i-th of the bytes
here_at : (at i : ℕ) (bs rest : List ℕ) → i < length bs → rest ≡ drop i bs → here at rest ≡ here at (get_or bs i 0 ∷ drop (suc i) bs)
here_at at i bs rest lt e = ap (λ (r : List ℕ). here at r) (e ∙ drop-cons bs i 0 lt)

pub more_fits : (limit n m at i : ℕ) (bs rest : List ℕ) (whole : ℕ × Here) → i < length bs → rest ≡ drop i bs → Some m ≡ cond (fits limit n (get_or bs i 0)) (Some (10 * n + (get_or bs i 0 - 48))) None
    → more_at limit n (here at rest) ≡ whole → more_at limit m (skip 1 (here at rest)) ≡ whole
unfolding more_at
more_fits limit n m at i bs rest whole lt e some so_far =
    let f = is_fit _ m _ some in
    let c = get_or bs i 0 in
    let one : more_at limit n (here at rest) ≡ more_at limit (10 * n + (c - 48)) (here (at + 1) (drop (suc i) bs)) = ap (more_at limit n) (here_at at i bs rest lt e) ∙ rw f.0 refl in
    let on : skip 1 (here at rest) ≡ here (at + 1) (drop (suc i) bs) = ap (λ (r : List ℕ). here (at + 1) (drop 1 r)) (e ∙ drop-cons bs i 0 lt) in
    ap (more_at limit m) on ∙ ap (λ (v : ℕ). more_at limit v (here (at + 1) (drop (suc i) bs))) f.1 ∙ sym one ∙ so_far

pub more_stops : (limit n at i : ℕ) (bs rest : List ℕ) (whole : ℕ × Here) → i < length bs → rest ≡ drop i bs → None ≡ cond (fits limit n (get_or bs i 0)) (Some (10 * n + (get_or bs i 0 - 48))) None
    → more_at limit n (here at rest) ≡ whole → (n, here at rest) ≡ whole
unfolding more_at
more_stops limit n at i bs rest whole lt e none so_far =
    let k = here_at at i bs rest lt e in
    let one : more_at limit n (here at rest) ≡ (n, here at (get_or bs i 0 ∷ drop (suc i) bs)) = ap (more_at limit n) k ∙ rw (no_fit _ _ none) refl in
    ap (λ (h : Here). (n, h)) k ∙ sym one ∙ so_far

pub more_ends : (limit n at i : ℕ) (bs rest : List ℕ) (whole : ℕ × Here) → length bs ≤ i → rest ≡ drop i bs → more_at limit n (here at rest) ≡ whole → (n, here at rest) ≡ whole
unfolding more_at
more_ends limit n at i bs rest whole le e so_far =
    let k : here at rest ≡ here at [] = ap (λ (r : List ℕ). here at r) (e ∙ drop_all i bs le) in
    ap (λ (h : Here). (n, h)) k ∙ sym (ap (more_at limit n) k) ∙ so_far

pub one_on : (i : ℕ) (bs rest : List ℕ) → rest ≡ drop i bs → drop 1 rest ≡ drop (i + 1) bs
one_on i bs rest e = ap (λ (r : List ℕ). drop 1 r) e ∙ drop-drop 1 i bs
