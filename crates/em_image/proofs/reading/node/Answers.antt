use Rattle.em_image.specs.Image.{limits}
use Rattle.em_image.specs.Parts.{Here, seen}
use Rattle.em_image.specs.Reading.{Header, header_at}
use Rattle.em_image.specs.Headers.{header_of}
use Rattle.em_image.proofs.Laws.{sound}
use Rattle.em_image.proofs.Forward.{after, at_ok, header_reads, is_sized}
use Rattle.em_image.proofs.reading.node.Goals as goal

pub body-requires : goal.body-requires
body-requires c =
    let h = seen c.args.cursor in
    let m = c.args.mark in
    let x : Header × Here = (header_of c.in_ok-header.header, seen c.in_ok-header.after) in
    record {
      at = at_ok after c.args.input.now h (header_at limits m h) x c.requires.at (header_reads limits m h) c.in_ok-header.ensures;
      size = is_sized limits sound m h x c.in_ok-header.ensures;
    }
