use Rattle.std.proofs.Common.{◌≡◌, ℕ, Bool, List, Ok, sym, subst}
use Rattle.em_image.specs.Image.{limits}
use Rattle.em_image.specs.Parts.{Here, IsAt, seen, head_at}
use Rattle.em_image.specs.Reading.{root_at}
use Rattle.em_image.proofs.Fields.{here}
use Rattle.em_image.proofs.Forward.{after, at_ok, at_start, head_reads, root_reads}
use Rattle.em_image.proofs.reading.whole.Goals as goal

-- behind the first line
headed : (input rest : List ℕ) (x : Bool × Here) → rest ≡ input → head_at (here 0 rest) ≡ Ok x → IsAt input x.1
headed input rest x same e =
    let start : IsAt input (here 0 rest) = subst (λ (r : List ℕ). IsAt input (here 0 r)) (sym same) (at_start input) in
    at_ok after input (here 0 rest) (head_at (here 0 rest)) x start (head_reads (here 0 rest)) e

pub root-requires : goal.root-requires
root-requires c = headed c.args.input.now c.as_slice-rest.result.now (c.in_ok-links.links, seen c.in_ok-links.cursor) c.as_slice-rest.ensures c.in_ok-links.ensures

pub nodes-requires : goal.nodes-requires
nodes-requires c =
    let input = c.args.input.now in
    let links = c.in_ok-links.links in
    let h = seen c.in_ok-links.cursor in
    let head = headed input c.as_slice-rest.result.now (links, h) c.as_slice-rest.ensures c.in_ok-links.ensures in
    at_ok after input h (root_at limits links h) (c.in_ok-stamp.stamp, seen c.in_ok-stamp.cursor) head (root_reads limits links h) c.in_ok-stamp.ensures
