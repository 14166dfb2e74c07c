-- Reading by parts: what a fault in one part says of the whole, and fixed texts byte by byte.
use Rattle.std.proofs.Common.{◌≡◌, ℕ, suc, ◌+◌, ◌<◌, ◌≤◌, List, length, get_or, drop, Result, Ok, refl, sym, subst, ◌∙◌, add-one, drop-cons}
use Rattle.std.proofs.lemmas.List.{drop_all}
use Rattle.em_image.specs.declared.no.ImageNo.{ImageNo}
use Rattle.em_image.specs.declared.no.ImageNo.TheVariants as no
use Rattle.em_image.specs.Parts.{◌>>=◌, Fails, Here, fixed_at, text_at}

-- a fault in the first of two parts is the fault of both
pub fails_then : {A B : Type 0} (e : ImageNo) (r : Result A ImageNo) (f : A → Result B ImageNo) → Fails e r → Fails e (r >>= f)
fails_then (no.Form at) r f h = rw h refl
fails_then (no.Number at) r f h = rw h refl
fails_then (no.Path at) r f h = rw h refl
fails_then (no.Order at) r f h = rw h refl
fails_then (no.Parent at) r f h = rw h refl
fails_then (no.Short at) r f h = rw h refl
fails_then (no.Rest at) r f h = rw h refl
fails_then (no.Limit w at) r f h = rw h refl
fails_then no.NoMemory r f h = tt

pub text_more : (bs : List ℕ) (i : ℕ) (here after : Here) (whole : Result Here ImageNo) → i < length bs → fixed_at (get_or bs i 0) here ≡ Ok after → text_at (drop i bs) here ≡ whole → text_at (drop (i + 1) bs) after ≡ whole
unfolding text_at
text_more bs i here after whole lt e so_far =
    let one : text_at (drop i bs) here ≡ text_at (drop (i + 1) bs) after = rw (add-one, drop-cons bs i 0, e) refl in
    sym one ∙ so_far

pub text_ends : (e : ImageNo) (bs : List ℕ) (i : ℕ) (here : Here) (whole : Result Here ImageNo) → i < length bs → Fails e (fixed_at (get_or bs i 0) here) → text_at (drop i bs) here ≡ whole → Fails e whole
unfolding text_at
text_ends e bs i here whole lt h so_far =
    let one : text_at (drop i bs) here ≡ (fixed_at (get_or bs i 0) here >>= λ after. text_at (drop (suc i) bs) after) = rw (drop-cons bs i 0) refl in
    subst (λ r. Fails e r) (sym one ∙ so_far) (fails_then e (fixed_at (get_or bs i 0) here) (λ after. text_at (drop (suc i) bs) after) h)

pub text_done : (bs : List ℕ) (i : ℕ) (here : Here) (whole : Result Here ImageNo) → length bs ≤ i → text_at (drop i bs) here ≡ whole → whole ≡ Ok here
unfolding text_at
text_done bs i here whole le so_far = sym so_far ∙ rw (drop_all i bs le) refl
