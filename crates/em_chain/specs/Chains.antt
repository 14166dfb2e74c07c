-- What jobs make of one path: a chain of pairs, each of a job and what the path becomes, in rising
-- order of job.
--     chain_of ps p         of each post that names p, in order, its job and what p becomes
--     last_below j c        the last pair whose job is below j
--     counted n             one step more
--     job_in c i            the i-th job
--     IsOpen j c a b        the jobs before the place a are below j, and those from b on are not
--     job_before c i        the job right before the place i
--     without j c           c without a pair of the job j
--     roomed j c            c with a pair of the job j, which says absent where it is new
--     head_below f c        the first pair, if its job is below f
--     from_job f c          c from the job f on
use Rattle.std.specs.Prelude.{ℕ, zero, suc, ◌+◌, ◌-◌, ◌^◌, ◌<◌, ◌≤◌, ◌==◌, if◌then◌else◌, not, List, [], ◌∷◌, length, Option, Some, None, option_map, filter_map, is_some, nat_lt, slice_index_or}
use Rattle.std.specs.List.{filter}
use Rattle.std.specs.Ordering.{nat_cmp, eq_by_cmp}
use Rattle.std.specs.FinMap.{get, entries, find, put}
use Rattle.em_tree.specs.declared.node.Node.{Node}
use Rattle.em_chain.specs.Posts.{Posts}
use Rattle.em_chain.specs.Pairs.{Pairs}

abbrev pub chain_of : Posts → List ℕ → Pairs
chain_of ps p = filter_map (λ e. option_map (λ c. (e.0, c)) (get e.1.delta p)) (entries ps)

abbrev pub last_from : Option (ℕ × Option Node) → ℕ → Pairs → Option (ℕ × Option Node)
last_from found j [] = found
last_from found j (e ∷ es) = last_from (if nat_lt e.0 j then Some e else found) j es

abbrev pub last_below : ℕ → Pairs → Option (ℕ × Option Node)
last_below j c = last_from None j c

-- at 2 ^ 64 - 1 it stays
abbrev pub counted : ℕ → ℕ
counted n = if n == 2 ^ 64 - 1 then n else n + 1

abbrev pub job_in : Pairs → ℕ → ℕ
job_in c i = (slice_index_or c i (0, None)).0

pub record IsOpen (j : ℕ) (c : Pairs) (a b : ℕ) : Type 0 where
  pub ordered : a ≤ b
  pub within : b ≤ length c
  pub below : (k : ℕ) → k < a → job_in c k < j
  pub above : (k : ℕ) → b ≤ k → k < length c → j ≤ job_in c k

abbrev pub job_before : Pairs → ℕ → Option ℕ
job_before c zero = None
job_before c (suc i) = Some (job_in c i)

abbrev pub without : ℕ → Pairs → Pairs
without j c = filter (λ e. not (eq_by_cmp nat_cmp j e.0)) c

abbrev pub roomed : ℕ → Pairs → Pairs
roomed j c = if is_some (find nat_cmp j c) then c else put nat_cmp j None c

abbrev pub head_below : ℕ → Pairs → Option (ℕ × Option Node)
head_below f [] = None
head_below f (e ∷ c) = if nat_lt e.0 f then Some e else None

abbrev pub from_job : ℕ → Pairs → Pairs
from_job f c = filter (λ e. not (nat_lt e.0 f)) c
