-- How a host counts its faults.
--     is_fault r          the call failed, and not for want of memory
--     next_count n        one fault more; the last value, 2^64 - 1, stays
--     count_after r n     the count after a call that answered r
use Rattle.std.specs.Prelude.{ℕ, ◌+◌, ◌-◌, ◌^◌, Bool, true, false, nat_lt, if◌then◌else◌, Result, Ok, Err}
use Rattle.em_host.specs.declared.no.HostNo.{HostNo}
use Rattle.em_host.specs.declared.no.HostNo.TheVariants.{Failed, NoMemory}

abbrev pub is_fault : {A : Type 0} → Result A HostNo → Bool
is_fault (Ok a) = false
is_fault (Err Failed) = true
is_fault (Err NoMemory) = false

abbrev pub next_count : ℕ → ℕ
next_count n = if nat_lt n (2 ^ 64 - 1) then n + 1 else n

abbrev pub count_after : {A : Type 0} → Result A HostNo → ℕ → ℕ
count_after r n = if is_fault r then next_count n else n
