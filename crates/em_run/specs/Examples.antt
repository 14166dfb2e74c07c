-- A small job, which the crate's tests run.
--     mark p          where nothing is it makes a file of one byte; it says what it found
--     end_of e        how it ends where a desk's call is refused
--     is_failed o     the outcomes that end the serial run
--     same_parts      jobs with equal parts are the same
use Rattle.std.specs.Prelude.{◌≡◌, ℕ, ◌==◌, nat_eq, ◌&&◌, Bool, true, false, List, ◌++◌, Result, Ok, codes}
use Rattle.std.specs.Cmp.Lexicographic.{pointwise, same_text}
use Rattle.std.proofs.Common.{sym}
use Rattle.std.proofs.lemmas.Bool.{and_parts, eqb-true}
use Rattle.em_tree.specs.declared.node.Kind.{Kind}
use Rattle.em_tree.specs.declared.node.Kind.TheVariants as kind
use Rattle.em_tree.specs.declared.outcome.Outcome.{Outcome}
use Rattle.em_tree.specs.declared.outcome.Outcome.TheVariants as ended
use Rattle.em_view.specs.declared.no.DeskNo.{DeskNo}
use Rattle.em_view.specs.declared.no.DeskNo.TheVariants as no
use Rattle.em_view.specs.Rows.{kind_at, put}
use Rattle.em_view.specs.Steps.{Steps, done, own, below}
use Rattle.em_view.specs.Do.{◌>>=◌}

-- the text stands behind what was said
abbrev pub said : List ℕ → List ℕ → Result (Unit {0} × List ℕ) (DeskNo × List ℕ)
said text output = Ok (tt, output ++ text)

abbrev pub itself : DeskNo → DeskNo
itself e = e

abbrev pub mark_by : List ℕ → Kind → Steps (List ℕ) DeskNo Outcome
mark_by p kind.Absent = do
  u ← own (said (codes "made"))
  v ← below itself (put p (codes "x"))
  done ended.Made
mark_by p _ = do
  u ← own (said (codes "there"))
  done ended.Upto

unfoldable pub mark : List ℕ → Steps (List ℕ) DeskNo Outcome
mark p = do
  k ← below itself (kind_at p)
  mark_by p k

-- want of memory ends no run
abbrev pub end_of : DeskNo → Outcome
end_of (no.File f) = ended.Failed 1
end_of no.Spent = ended.Spent
end_of no.NoMemory = ended.Spent

abbrev pub is_failed : Outcome → Bool
is_failed (ended.Failed status) = true
is_failed _ = false

pub same_parts : (x y : ℕ × (ℕ × List ℕ)) → (x.0 == y.0 && (x.1.0 == y.1.0 && pointwise nat_eq x.1.1 y.1.1)) ≡ true → x ≡ y
same_parts x y h =
    let a = and_parts _ _ h in
    let b = and_parts _ _ a.1 in
    λ i. (eqb-true x.0 y.0 a.0 i, (eqb-true x.1.0 y.1.0 b.0 i, same_text x.1.1 y.1.1 (sym b.1) i))
