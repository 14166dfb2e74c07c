-- How much parts weigh.
use Rattle.std.proofs.Common.{◌≡◌, ℕ, Bool, true, false, suc, List, [], ◌∷◌, map, length, refl, ap}
use Rattle.em_fields.specs.declared.part.Part.{Part}
use Rattle.em_fields.specs.Parts.{glyphs, marked, mark, joined, part_of}
use Rattle.em_fields.proofs.Joining.{marked_alike}

part_size : (q : Bool) (text : List ℕ) → length (glyphs (map (part_of q) text)) ≡ length text
part_size q [] = refl
part_size q (b ∷ bs) = ap suc (part_size q bs)

pub marked_size : (q : Bool) (text : List ℕ) → length (glyphs (marked q text)) ≡ length text
marked_size true text = part_size true text
marked_size false text = part_size false text

pub kept_size : (q : Bool) (ps : List Part) → length (glyphs (joined (mark q) ps)) ≡ length (glyphs ps)
kept_size q ps = ap length (marked_alike q ps)
