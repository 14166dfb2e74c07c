use Rattle.std.proofs.Common.{◌≡◌, ◌+◌, ◌||◌, length}
use Rattle.std.specs.List.{flat_map, list_any}
use Rattle.std.specs.FinMap.{entries}
use Rattle.em_image.specs.Image.{node_text, limits, image_text, is_link, is_too_big, is_too_late}
use Rattle.em_image.proofs.Links.{AllSay}
use Rattle.em_image.proofs.writing.measured.Given as goal

-- the room is for what is left, where all has room for the rest; what was found, or is found in the
-- rest, is in all
abbrev pub invariant-loop-path : goal.invariant-loop-path
invariant-loop-path l = record {
  room : l.room + length (image_text l.tree) ≡ limits.image + length (flat_map node_text l.path-iterator);
  link : (l.has_link || list_any is_link l.path-iterator) ≡ list_any is_link (entries l.tree);
  big : (l.has_big_file || list_any (is_too_big limits) l.path-iterator) ≡ list_any (is_too_big limits) (entries l.tree);
  say : AllSay l.path-iterator → AllSay (entries l.tree);
  late : (l.has_late_stamp || list_any (is_too_late limits) l.path-iterator) ≡ list_any (is_too_late limits) (entries l.tree);
}
