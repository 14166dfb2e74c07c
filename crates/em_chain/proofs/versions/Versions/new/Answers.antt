use Rattle.em_chain.proofs.Posting.{empty_held, no_merged}
use Rattle.std.proofs.Common.{◌∙◌, ap, List, ℕ}
use Rattle.em_chain.specs.declared.post.Post.{Post}
use Rattle.em_chain.specs.Posts.{Merged, Floored}
use Rattle.std.specs.FinMap.{from_entries, empty}
use Rattle.em_chain.proofs.versions.Versions.new.Goals as goal

pub invariant_of-result : goal.invariant_of-result
invariant_of-result c = (c.new.ensures.ordered, empty_held c.new.result.entries c.new-2.result c.new.ensures.empty c.new-2.ensures)

pub returns : goal.returns
returns c =
    let with : Merged → List (ℕ × Post) → Floored = λ m es. record { start = c.args.start; floor = 0; merged = m; posts = from_entries es } in
    ap (λ (m : Merged). with m c.new.result.entries) (no_merged c.new-2.result c.new-2.ensures) ∙ ap (with empty) c.new.ensures.empty
