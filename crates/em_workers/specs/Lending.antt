-- The committer's side of a board, where it tells what it does.
--     Lending              what the coming calls of `lend` give, which jobs were asked for, what was settled, and whether the lender was
--                          stopped
--     asked_all js a       what is told of the jobs asked for, after these too
--     Both P before after  the lender tells both, and P holds of them; or it tells neither
--     Lends, Settles, Stops      the three calls, from before to after
use Rattle.std.specs.Prelude.{◌≡◌, ◌≢◌, ℕ, ◌+◌, ◌==◌, ◌&&◌, Bool, true, List, [], ◌∷◌, ◌++◌, Option, Some, None, Result, Err, is_ok, drop, if◌then◌else◌}
use Rattle.em_engine.specs.declared.event.Taken.{Taken}
use Rattle.em_shared.specs.declared.no.SettleNo.{SettleNo}
use Rattle.em_shared.specs.declared.no.SettleNo.TheVariants as no
use Rattle.em_workers.specs.declared.settled.Settled.{Settled}

-- the job that was asked for last, and whether each was the one behind the one before
pub record Asked : Type 0 where
  pub last : Option ℕ
  pub in_order : Bool

abbrev pub is_behind : Option ℕ → ℕ → Bool
is_behind None job = true
is_behind (Some k) job = job == k + 1

abbrev pub asked_then : ℕ → Asked → Asked
asked_then job a = record { last = Some job; in_order = a.in_order && is_behind a.last job }

abbrev pub asked_all : List ℕ → Asked → Asked
asked_all [] a = a
asked_all (j ∷ js) a = asked_all js (asked_then j a)

pub record Lending (S : Type 0) : Type 0 where
  pub lends : List (Option (Taken S))
  pub asked : Asked
  pub settled : List Settled
  pub stopped : Bool

abbrev pub Both : {S : Type 0} → (Lending S → Lending S → Type 0) → Option (Lending S) → Option (Lending S) → Type 0
Both P None None = Unit {0}
Both P None (Some b) = ⊥
Both P (Some a) None = ⊥
Both P (Some a) (Some b) = P a b

-- past the end of the list nothing is lent
abbrev pub first_of : {A : Type 0} → List (Option A) → Option A
first_of [] = None
first_of (l ∷ ls) = l

pub record Lends {S : Type 0} (job : ℕ) (lent : Option (Taken S)) (before after : Lending S) : Type 0 where
  pub lent_is : lent ≡ first_of before.lends
  pub left : after ≡ record before { lends = drop 1 before.lends; asked = asked_then job before.asked }

pub record Settles {S : Type 0} (done : Settled) (result : Result (Unit {0}) SettleNo) (before after : Lending S) : Type 0 where
  pub settled : after ≡ record before { settled = if is_ok result then before.settled ++ done ∷ [] else before.settled }
  -- a lender that tells takes every job
  pub may : result ≢ Err no.Phase

abbrev pub Stops : {S : Type 0} → Lending S → Lending S → Type 0
Stops before after = after ≡ record before { stopped = true }
