-- A small job, which the tests run.
--     grown body path       the file of the job before, if it is there, and behind it this path
--     link before path      it says that, and makes a file of it at the path
--     same_links            jobs with equal parts are the same
use Rattle.std.specs.Prelude.{◌≡◌, ℕ, ◌==◌, nat_eq, ◌&&◌, true, List, ◌++◌, Option, Some, None}
use Rattle.std.specs.Cmp.Lexicographic.{pointwise, same_text}
use Rattle.std.proofs.Common.{sym}
use Rattle.std.proofs.lemmas.Bool.{and_parts, eqb-true}
use Rattle.em_tree.specs.declared.outcome.Outcome.{Outcome}
use Rattle.em_tree.specs.declared.outcome.Outcome.TheVariants as ended
use Rattle.em_view.specs.declared.no.DeskNo.{DeskNo}
use Rattle.em_view.specs.Rows.{content, put}
use Rattle.em_view.specs.Steps.{Steps, done, own, below}
use Rattle.em_view.specs.Do.{◌>>=◌}
use Rattle.em_run.specs.Examples.{said, itself}

abbrev pub grown : Option (List ℕ) → List ℕ → List ℕ
grown None path = path
grown (Some bytes) path = bytes ++ path

abbrev pub link_by : List ℕ → List ℕ → Steps (List ℕ) DeskNo Outcome
link_by text path = do
  u ← own (said text)
  v ← below itself (put path text)
  done ended.Made

unfoldable pub link : List ℕ → List ℕ → Steps (List ℕ) DeskNo Outcome
link before path = do
  body ← below itself (content before)
  link_by (grown body path) path

pub same_links : (x y : ℕ × (List ℕ × List ℕ)) → (x.0 == y.0 && (pointwise nat_eq x.1.0 y.1.0 && pointwise nat_eq x.1.1 y.1.1)) ≡ true → x ≡ y
same_links x y h =
    let a = and_parts _ _ h in
    let b = and_parts _ _ a.1 in
    λ i. (eqb-true x.0 y.0 a.0 i, (same_text x.1.0 y.1.0 (sym b.0) i, same_text x.1.1 y.1.1 (sym b.1) i))
