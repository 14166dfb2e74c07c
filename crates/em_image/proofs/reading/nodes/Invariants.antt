use Rattle.std.proofs.Common.{◌≡◌, ◌-◌, true, Some}
use Rattle.std.specs.FinMap as map
use Rattle.em_path.specs.Paths.{root_text}
use Rattle.em_tree.specs.declared.node.Node.TheVariants as node
use Rattle.em_image.specs.Image.{limits}
use Rattle.em_image.specs.Parts.{IsAt, seen}
use Rattle.em_image.specs.Reading.{has_dir, nodes_at}
use Rattle.em_image.proofs.Loop.{Loop}
use Rattle.em_image.proofs.reading.nodes.Given as goal

-- what is still read gives the whole, and the home is a directory of what was read
abbrev pub invariant-loop : goal.invariant-loop
invariant-loop l = record {
  loop : Loop l.links l.due (limits.nodes - l.counter) l.last l.tree (seen l.here) (nodes_at limits l.links l.links (limits.nodes - 1) root_text (map.insert map.empty root_text (node.Dir l.root_stamp)) (seen l.fn.cursor));
  at : IsAt l.input (seen l.here);
  home : has_dir l.tree (Some l.home) ≡ true;
}
