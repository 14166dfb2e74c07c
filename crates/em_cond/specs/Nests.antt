-- Conditionals that are open, the innermost first.
--     next_branch b holds      how far a conditional is with one branch more, whose condition holds or doesn't
--     branch_after cs          how far it is with branches of these conditions, in order
--     entered holds, after_other, after_leave      a nest after `ifeq` and its like, `else`, `endif`; none where that isn't balanced
--     may_turn ks             a further branch whose condition holds would be read: none was read so far, and all round it is
--     is_active ks             in each conditional the present branch is the one that is read
use Rattle.std.specs.Prelude.{Bool, true, false, not, ◌&&◌, List, [], ◌∷◌, Option, Some, None, option_and_then, if◌then◌else◌}
use Rattle.std.specs.List.{list_all}
use Rattle.em_cond.specs.declared.nest.Branch.{Branch}
use Rattle.em_cond.specs.declared.nest.Branch.TheVariants.{Before, Taken, Behind}
use Rattle.em_cond.specs.declared.nest.Conditional.{Conditional}

-- the branch that is read is the first whose condition holds
abbrev pub next_branch : Branch → Bool → Branch
next_branch Before true = Taken
next_branch Before false = Before
next_branch Taken holds = Behind
next_branch Behind holds = Behind

abbrev pub branch_from : Branch → List Bool → Branch
branch_from b [] = b
branch_from b (c ∷ cs) = branch_from (next_branch b c) cs

abbrev pub branch_after : List Bool → Branch
branch_after cs = branch_from Before cs

abbrev pub entered : Bool → Conditional
entered holds = record { branch = next_branch Before holds; closed = false }

-- a plain `else` counts as a condition that holds, and is the last branch
abbrev pub otherwise : Option Bool → Conditional → Conditional
otherwise None k = record { branch = next_branch k.branch true; closed = true }
otherwise (Some holds) k = record { branch = next_branch k.branch holds; closed = false }

abbrev pub after_other : Option Bool → List Conditional → Option (List Conditional)
after_other condition [] = None
after_other condition (k ∷ ks) = if k.closed then None else Some (otherwise condition k ∷ ks)

abbrev pub after_leave : List Conditional → Option (List Conditional)
after_leave [] = None
after_leave (k ∷ ks) = Some ks

-- further branches in order
abbrev pub after_others : List (Option Bool) → List Conditional → Option (List Conditional)
after_others [] ks = Some ks
after_others (c ∷ cs) ks = option_and_then (after_others cs) (after_other c ks)

abbrev pub is_taken : Branch → Bool
is_taken Taken = true
is_taken _ = false

abbrev pub is_active : List Conditional → Bool
is_active ks = list_all (λ k. is_taken k.branch) ks

abbrev pub is_before : Branch → Bool
is_before Before = true
is_before _ = false

-- a further branch can be the one that is read
abbrev pub is_waiting : Conditional → Bool
is_waiting k = not k.closed && is_before k.branch

abbrev pub may_turn : List Conditional → Bool
may_turn [] = false
may_turn (k ∷ ks) = is_waiting k && is_active ks
