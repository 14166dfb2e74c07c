use Rattle.em_image.specs.Image.{limits}
use Rattle.em_image.specs.Parts.{seen, stamp_at, sort_at}
use Rattle.em_image.proofs.Forward.{after, at_ok, stamp_reads, sort_reads}
use Rattle.em_image.proofs.lines.header.Goals as goal

pub path-requires : goal.path-requires
path-requires c =
    let input = c.args.input.now in
    let h = seen c.args.cursor in
    let k = seen c.in_ok-stamp.cursor in
    let behind_stamp = at_ok after input h (stamp_at limits h) (c.in_ok-stamp.stamp, k) c.requires (stamp_reads limits h) c.in_ok-stamp.ensures in
    at_ok after input k (sort_at limits c.args.mark k) (c.in_ok-sort.sort, seen c.in_ok-sort.cursor) behind_stamp (sort_reads limits c.args.mark k) c.in_ok-sort.ensures
