-- The parts of a report, each read from the left: what it gives and where it ends, or the first
-- byte at which none goes on.
--     text_at bs           these bytes
--     number_at limit      canonical decimal up to a limit; it ends in front of a byte that doesn't fit
--     runs_at, cause_at, name_at      1 or 2; the word of a cause; the bytes up to one that parts names
--     waits_at k           up to so many waits, each behind a blank, and a newline
use Rattle.std.specs.Prelude.{◌≡◌, ℕ, zero, suc, ◌+◌, ◌-◌, ◌*◌, ◌^◌, ◌&&◌, ◌==◌, not, nat_lt, nat_le, Bool, true, false, List, [], ◌∷◌, take, drop, Option, Some, None, Result, Ok, Err, if◌then◌else◌}
use Rattle.std.specs.Char.{is_ascii_digit}
use Rattle.std.specs.List.{prefix_len}
use Rattle.em_history.specs.Names.{parts_names}
use Rattle.em_report.specs.declared.no.ReportNo.{ReportNo}
use Rattle.em_report.specs.declared.no.ReportNo.TheVariants as no
use Rattle.em_report.specs.declared.report.CauseWord.{CauseWord}
use Rattle.em_report.specs.declared.report.CauseWord.TheVariants as cause
use Rattle.em_report.specs.declared.cursor.Cursor.{Cursor}
use Rattle.em_report.specs.Reports.{word_of}

infixl 10 ◌>>=◌
abbrev pub ◌>>=◌ : {A B : Type 0} → Result A ℕ → (A → Result B ℕ) → Result B ℕ
(Ok x) >>= f = f x
(Err at) >>= f = Err at

-- What a call returned, seen by view, is what reading gives, unless memory ran out.
abbrev pub Fails : {Y : Type 0} → ReportNo → Result Y ℕ → Type 0
Fails (no.Form at) read = read ≡ Err at
Fails no.NoMemory read = Unit {0}

abbrev pub Gives : {X Y : Type 0} → (X → Y) → Result X ReportNo → Result Y ℕ → Type 0
Gives view (Ok x) read = read ≡ Ok (view x)
Gives view (Err e) read = Fails e read

-- a place, and the bytes from there on
pub record Here : Type 0 where
  pub at : ℕ
  pub rest : List ℕ

abbrev pub seen : Cursor → Here
seen c = record { at = c.at; rest = c.rest.now }

abbrev pub here : ℕ → List ℕ → Here
here at rest = record { at = at; rest = rest }

abbrev pub skip : ℕ → Here → Here
skip n h = here (h.at + n) (drop n h.rest)

abbrev pub fixed_in : ℕ → ℕ → List ℕ → Result (Unit {0} × Here) ℕ
fixed_in b at [] = Err at
fixed_in b at (c ∷ cs) = if c == b then Ok (tt, here (at + 1) cs) else Err at

abbrev pub fixed_at : ℕ → Here → Result (Unit {0} × Here) ℕ
fixed_at b h = fixed_in b h.at h.rest

unfoldable pub text_at : List ℕ → Here → Result (Unit {0} × Here) ℕ
text_at [] h = Ok (tt, h)
text_at (b ∷ bs) h = fixed_at b h >>= λ k. text_at bs k.1

-- a part, and a blank
abbrev pub spaced : {A : Type 0} → Result (A × Here) ℕ → Result (A × Here) ℕ
spaced read = read >>= λ x. fixed_at 32 x.1 >>= λ b. Ok (x.0, b.1)

-- ---- numbers

abbrev pub digit_in : ℕ → List ℕ → Result (ℕ × Here) ℕ
digit_in at [] = Err at
digit_in at (c ∷ cs) = if is_ascii_digit c then Ok (c - 48, here (at + 1) cs) else Err at

abbrev pub digit_at : Here → Result (ℕ × Here) ℕ
digit_at h = digit_in h.at h.rest

-- a digit that may stand behind a number: not behind a lone zero, nor where the limit is passed
abbrev pub fits : ℕ → ℕ → ℕ → Bool
fits limit n c = is_ascii_digit c && nat_lt 0 n && nat_le (10 * n + (c - 48)) limit

abbrev pub more_in : ℕ → ℕ → ℕ → List ℕ → ℕ × Here
more_in limit n at [] = (n, here at [])
more_in limit n at (c ∷ cs) = if fits limit n c then more_in limit (10 * n + (c - 48)) (at + 1) cs else (n, here at (c ∷ cs))

unfoldable pub more_at : ℕ → ℕ → Here → ℕ × Here
more_at limit n h = more_in limit n h.at h.rest

unfoldable pub number_at : ℕ → Here → Result (ℕ × Here) ℕ
number_at limit h = digit_at h >>= λ d. Ok (more_at limit d.0 d.1)

abbrev pub runs_in : ℕ → List ℕ → Result (ℕ × Here) ℕ
runs_in at [] = Err at
runs_in at (c ∷ cs) = if c == 49 then Ok (1, here (at + 1) cs) else if c == 50 then Ok (2, here (at + 1) cs) else Err at

abbrev pub runs_at : Here → Result (ℕ × Here) ℕ
runs_at h = runs_in h.at h.rest

-- ---- words

-- the cause whose word begins so
abbrev pub begun_by : ℕ → Option CauseWord
begun_by c =
    if c == 45 then Some cause.Clean else if c == 100 then Some cause.Differ else if c == 115 then Some cause.Strange
    else if c == 102 then Some cause.Foreign else if c == 109 then Some cause.Memory else None

abbrev pub cause_of : Option CauseWord → Here → Result (CauseWord × Here) ℕ
cause_of None h = Err h.at
cause_of (Some w) h = text_at (word_of w) h >>= λ k. Ok (w, k.1)

abbrev pub cause_in : ℕ → List ℕ → Result (CauseWord × Here) ℕ
cause_in at [] = Err at
cause_in at (c ∷ cs) = cause_of (begun_by c) (here at (c ∷ cs))

abbrev pub cause_at : Here → Result (CauseWord × Here) ℕ
cause_at h = cause_in h.at h.rest

abbrev pub name_len : List ℕ → ℕ
name_len bs = prefix_len (λ b. not (parts_names b)) bs

abbrev pub name_at : Here → Result (List ℕ × Here) ℕ
name_at h = if name_len h.rest == 0 then Err h.at else Ok (take (name_len h.rest) h.rest, skip (name_len h.rest) h)

-- ---- waits

-- a blank, or the newline that ends the line
abbrev pub gap_in : ℕ → List ℕ → Result (Bool × Here) ℕ
gap_in at [] = Err at
gap_in at (c ∷ cs) = if c == 32 then Ok (false, here (at + 1) cs) else if c == 10 then Ok (true, here (at + 1) cs) else Err at

abbrev pub gap_at : Here → Result (Bool × Here) ℕ
gap_at h = gap_in h.at h.rest

unfoldable pub waits_at : ℕ → Here → Result (List ℕ × Here) ℕ
waits_at zero h = Err h.at
waits_at (suc k) h = gap_at h >>= λ g. if g.0 then Ok ([], g.1) else number_at (2 ^ 32 - 1) g.1 >>= λ n. waits_at k n.1 >>= λ ws. Ok (n.0 ∷ ws.0, ws.1)
