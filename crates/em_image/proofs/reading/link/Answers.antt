use Rattle.std.proofs.Common.{◌≡◌, ◌≤◌, ℕ, Bool, true, false, cond, nat_lt, List, length, take, Option, Some, None, refl, subst, sym, arith}
use Rattle.std.specs.List.{position_or_len}
use Rattle.std.proofs.lemmas.List.{length-take}
use Rattle.em_tree.specs.LinkTexts.{IsLinkText}
use Rattle.em_image.specs.Parts.{longest_link}
use Rattle.em_image.specs.Reading.{is_unfit}
use Rattle.em_image.proofs.Nodes.{is_text}
use Rattle.em_image.proofs.reading.link.Goals as goal

none_found : (o : Option ℕ) (b : Bool) (k : ℕ) → o ≡ cond b (Some k) None → ((n : ℕ) → o ≡ Some n → ⊥) → b ≡ false
none_found o true k e none = absurd (none k e)
none_found o false k e none = refl

taken : (n : ℕ) (rest : List ℕ) → n ≤ length rest → (1 ≤ n) × (n ≤ longest_link) → nat_lt (position_or_len is_unfit (take n rest)) (length (take n rest)) ≡ false → IsLinkText (take n rest)
taken n rest long sized none =
    let len : length (take n rest) ≡ n = omega (arith, length-take n rest) in
    is_text (take n rest) (length (take n rest)) refl (omega (arith, len, sized.0), omega (arith, len, sized.1)) none

pub new-text-requires : goal.new-text-requires
new-text-requires c =
    let n = c.args.size in
    let rest = c.args.cursor.rest.now in
    let t = take n rest in
    let none : nat_lt (position_or_len is_unfit t) (length t) ≡ false = none_found c.first_unfit.result _ _ c.first_unfit.ensures c.in_default.not-Some in
    subst IsLinkText (sym c.in_ok-from_slice.ensures) (taken n rest c.if-cursor-size.false c.requires none)
