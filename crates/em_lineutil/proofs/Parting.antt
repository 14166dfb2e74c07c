-- The parts of a format, one after another, and what they write.
use Rattle.std.proofs.Common.{◌≡◌, ◌∙◌, ℕ, zero, suc, ◌+◌, ◌-◌, ◌<◌, ◌≤◌, Bool, true, false, cond, List, [], ◌∷◌, ◌++◌, length, Option, Some, None, Result, Ok, Err, refl, sym, ap, subst, arith, append_assoc, append-nil, eqb}
use Rattle.em_base.proofs.Lemmas.{by_cases}
use Rattle.em_lineutil.specs.declared.format.Part.{Part}
use Rattle.em_lineutil.specs.declared.format.Part.TheVariants.{Byte, Word, Number}
use Rattle.em_lineutil.specs.Formats.{before, directed, directive, format_of, shown, shown_times, strange, strange_times, left}

pub before_more : (ps qs : List Part) (r : Result (List Part) (Option ℕ)) → before (ps ++ qs) r ≡ before ps (before qs r)
before_more ps qs (Ok rs) = ap (λ (all : List Part). let r : Result (List Part) (Option ℕ) = Ok all in r) (append_assoc ps qs rs)
before_more ps qs (Err e) = refl

pub begun_with : (old new ps : List Part) (rest whole : Result (List Part) (Option ℕ)) → new ≡ old ++ ps → whole ≡ before ps rest → before new rest ≡ before old whole
begun_with old new ps rest whole e is = ap (λ (all : List Part). before all rest) e ∙ before_more old ps rest ∙ ap (before old) (sym is)

pub directed_by : (b : ℕ) (p : Part) (rest : List ℕ) → directive b ≡ Some p → format_of (37 ∷ b ∷ rest) ≡ before (p ∷ []) (format_of rest)
directed_by b p rest e = ap (λ (d : Option Part). directed d b (format_of rest)) e

-- a byte that begins neither a directive nor an escape
pub plain_first : (b : ℕ) (rest : List ℕ) → eqb b 92 ≡ false → eqb b 37 ≡ false → format_of (b ∷ rest) ≡ before (Byte b ∷ []) (format_of rest)
plain_first b [] escape percent = rw percent refl
plain_first b (c ∷ rest) escape percent = rw (escape, percent) refl

pub nothing_before : (r : Result (List Part) (Option ℕ)) → before [] r ≡ r
nothing_before (Ok ps) = refl
nothing_before (Err e) = refl

-- the format once more, with the words that are left
pub shown_once : (out new whole : List ℕ) (n : ℕ) (ps : List Part) (ws rest : List (List ℕ)) → 0 < n → new ≡ out ++ shown ps ws → rest ≡ left ps ws → out ++ shown_times n ps ws ≡ whole → new ++ shown_times (n - 1) ps rest ≡ whole
shown_once out new whole zero ps ws rest low e k h = absurd (omega arith)
shown_once out new whole (suc n) ps ws rest low e k h = let one : suc n - 1 ≡ n = omega arith in rw (one, e, k) (append_assoc out (shown ps ws) (shown_times n ps (left ps ws)) ∙ h)

pub strange_once : (all new whole : List (List ℕ)) (n : ℕ) (ps : List Part) (ws rest : List (List ℕ)) → 0 < n → new ≡ all ++ strange ps ws → rest ≡ left ps ws → all ++ strange_times n ps ws ≡ whole → new ++ strange_times (n - 1) ps rest ≡ whole
strange_once all new whole zero ps ws rest low e k h = absurd (omega arith)
strange_once all new whole (suc n) ps ws rest low e k h = let one : suc n - 1 ≡ n = omega arith in rw (one, e, k) (append_assoc all (strange ps ws) (strange_times n ps (left ps ws)) ∙ h)
