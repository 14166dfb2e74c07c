-- Four shapes of functions over a desk, of which docs/DESKS.md works two through; the crate's tests
-- prove a function of each.
--     show p            an output, with a refusal after what was said
--     wait n p          a recursion on a number of turns
--     known p           a lower layer's error under its name in a higher one
--     show_first p      a part of a state lent to a lower layer
use Rattle.std.specs.Prelude.{ℕ, zero, suc, Bool, true, false, List, ◌++◌, Option, Some, None, Result, Ok, Err, codes}
use Rattle.em_tree.specs.declared.node.Kind.{Kind}
use Rattle.em_tree.specs.declared.node.Kind.TheVariants as kind
use Rattle.em_view.specs.declared.no.FileNo.TheVariants as file
use Rattle.em_view.specs.declared.no.DeskNo.{DeskNo}
use Rattle.em_view.specs.declared.no.DeskNo.TheVariants as no
use Rattle.em_view.specs.Actions.{Action, done, lift}
use Rattle.em_view.specs.Actions as action
use Rattle.em_view.specs.Rows.{is_memory, content, kind_at}
use Rattle.em_view.specs.Steps.{Steps, and_then, refuse, own, below, within}

-- the text stands behind what was said
abbrev pub said : List ℕ → List ℕ → Result (Unit {0} × List ℕ) (DeskNo × List ℕ)
said text output = Ok (tt, output ++ text)

abbrev pub show_body : Option (List ℕ) → Steps (List ℕ) DeskNo (Unit {0})
show_body None = refuse (no.File file.Absent)
show_body (Some bytes) = own (said bytes)

abbrev pub itself : DeskNo → DeskNo
itself e = e

unfoldable pub show : List ℕ → Steps (List ℕ) DeskNo (Unit {0})
show p = and_then (own (said (codes "read "))) (λ u. and_then (below itself (content p)) show_body)

abbrev pub wait_by : Action DeskNo Bool → Kind → Action DeskNo Bool
wait_by rest kind.Absent = rest
wait_by rest _ = done true

unfoldable pub wait : ℕ → List ℕ → Action DeskNo Bool
wait zero p = done false
wait (suc n) p = action.◌>>=◌ (kind_at p) (wait_by (wait n p))

-- a higher layer's error: a lower one's, or none
abbrev pub is_free_above : Option DeskNo → Bool
is_free_above None = false
is_free_above (Some e) = is_memory e

abbrev pub of_desk : DeskNo → Option DeskNo
of_desk e = Some e

abbrev pub known_by : Kind → Action (Option DeskNo) Kind
known_by kind.Absent = action.fail None
known_by k = done k

unfoldable pub known : List ℕ → Action (Option DeskNo) Kind
known p = action.◌>>=◌ (lift of_desk (kind_at p)) known_by

abbrev pub with_first : List ℕ × List ℕ → List ℕ → List ℕ × List ℕ
with_first outputs first = (first, outputs.1)

unfoldable pub show_first : List ℕ → Steps (List ℕ × List ℕ) DeskNo (Unit {0})
show_first p = within (λ (s : List ℕ × List ℕ). s.0) with_first itself (show p)
