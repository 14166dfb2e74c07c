use Rattle.em_image.specs.Parts.{seen, mark_at}
use Rattle.em_image.proofs.Forward.{after, at_ok, mark_reads}
use Rattle.em_image.proofs.reading.root.Goals as goal

pub header-requires : goal.header-requires
header-requires c =
    let h = seen c.args.cursor in
    at_ok after c.args.input.now h (mark_at c.args.links h) (c.in_ok-mark.mark, seen c.in_ok-mark.after) c.requires (mark_reads c.args.links h) c.in_ok-mark.ensures
