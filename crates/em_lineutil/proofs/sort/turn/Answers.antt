use Rattle.std.proofs.Common.{◌≡◌, ◌∙◌, ap, Bor, List, [], ◌∷◌, ℕ, map, refl, reverse}
use mathlib.Core.List.{reverse_aux}
use Rattle.em_lineutil.proofs.sort.turn.Goals as goal

turned_map : {A B : Type 0} (f : A → B) (xs ys : List A) → map f (reverse_aux xs ys) ≡ reverse_aux (map f xs) (map f ys)
turned_map f [] ys = refl
turned_map f (x ∷ xs) ys = turned_map f xs (x ∷ ys)

pub returns-then-backwards : goal.returns-then-backwards
returns-then-backwards c = rw c.if-backwards.true (ap (map (λ (l : Bor (List ℕ)). l.now)) c.reverse.ensures.items ∙ turned_map (λ (l : Bor (List ℕ)). l.now) c.args.lines.now.items [])
