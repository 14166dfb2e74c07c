-- The headline in four sentences.
use Rattle.std.proofs.Common.{◌≡◌, ◌≢◌, ℕ, false, List, ◌++◌, Some, None, Result, Ok, ap, subst, ◌∙◌}
use Rattle.std.specs.Prelude.{IsSome}
use Rattle.std.specs.FinMap.{get}
use Rattle.em_host.specs.Outside.{Files, Outside}
use Rattle.em_host.specs.Calls.{printed_by}
use Rattle.em_tree.specs.Trees.{Table}
use Rattle.em_image.specs.Image.{limits, broken, image_text}
use Rattle.em_cmdline.specs.Words.{order_of}
use Rattle.em_engine.specs.declared.note.Note.{Note}
use Rattle.em_program.specs.declared.rounds.BuildStep.{BuildStep}
use Rattle.em_program.specs.declared.verdict.BuildStatus.{BuildStatus}
use Rattle.em_program.specs.Endings.{AllAt, AreAll, ended}
use Rattle.em_program.specs.Headline.{Headline, first_in}
use Rattle.em_program_laws.specs.Laws.{status_in, tree_left}
use Rattle.em_program_laws.proofs.Replacing.{image_put, image_stays, has_tree}

module _ (words : List (List ℕ)) (status : ℕ) (notes : List Note) (before after : Outside) (h : Headline words status notes before after) where
  pub printed : status ≢ 3 → status ≢ 7 → after.printed ≡ before.printed ++ printed_by (ended words h.builds before.files).calls
  printed a b = (h.comes.done a b).printed

  pub status_is : status ≢ 3 → status ≢ 7 → status ≡ status_in words h.builds before.files
  status_is a b = h.comes.status a b

  module _ (st : BuildStep) where
    all_at : status ≢ 3 → status ≢ 7 → first_in words before.files ≡ Ok st → AreAll h.builds st
    all_at a b given = subst (λ (end : Result BuildStep BuildStatus). AllAt h.builds end (AreAll h.builds)) given (h.all a b)

    pub has : (verdict : BuildStatus) → status ≢ 3 → status ≢ 7 → first_in words before.files ≡ Ok st → (ended words h.builds before.files).end ≡ Ok verdict → IsSome (tree_left h.builds st)
    has verdict a b given ends = has_tree words h.builds before.files st (all_at a b given) verdict given ends

    module _ (t : Table) (name : List ℕ) (a : status ≢ 3) (b : status ≢ 7) (given : first_in words before.files ≡ Ok st) (some : tree_left h.builds st ≡ Some t)
        (image : (order_of words).image ≡ Some name) (question : (order_of words).question ≡ false) where
      pub put : broken limits t ≡ None → get after.files name ≡ Some (image_text t)
      put none = ap (λ (f : Files). get f name) (h.comes.done a b).files ∙ image_put words h.builds before.files st t name given (all_at a b given) some image question none

      pub stays : IsSome (broken limits t) → get after.files name ≡ get before.files name
      stays broke = ap (λ (f : Files). get f name) (h.comes.done a b).files ∙ image_stays words h.builds before.files st t name given (all_at a b given) some image question broke
