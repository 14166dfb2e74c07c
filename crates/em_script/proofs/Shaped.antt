-- Shapes, part by part.
use Rattle.std.proofs.Common.{◌≡◌, ℕ, Bool, List, [], ◌∷◌, map, Option, Some, None}
use Rattle.std.specs.Option.{option_map}
use Rattle.em_syntax.specs.declared.tree.RedirectKind.{RedirectKind}
use Rattle.em_gram.specs.Same.{Shape, pair, bytes, flag, number, kind, variant, row, optional}

pub first_same : {a b c d : Shape} → pair a b ≡ pair c d → a ≡ c
first_same e = cc

pub second_same : {a b c d : Shape} → pair a b ≡ pair c d → b ≡ d
second_same e = cc

pub inner_same : {k : ℕ} {a b : Shape} → variant k a ≡ variant k b → a ≡ b
inner_same e = cc

pub place_same : {j k : ℕ} {a b : Shape} → variant j a ≡ variant k b → j ≡ k
place_same e = cc

pub bytes_same : {a b : List ℕ} → bytes a ≡ bytes b → a ≡ b
bytes_same e = cc

pub flag_same : {a b : Bool} → flag a ≡ flag b → a ≡ b
flag_same e = cc

pub number_same : {a b : ℕ} → number a ≡ number b → a ≡ b
number_same e = cc

pub kind_same : {a b : RedirectKind} → kind a ≡ kind b → a ≡ b
kind_same e = cc

-- lists whose items have the same shapes have the same length, item by item
pub in_pairs : {X : Type 0} (shape : X → Shape) (P : List X → List X → Type 0) → P [] [] → ((x y : X) (xs ys : List X) → shape x ≡ shape y → P xs ys → P (x ∷ xs) (y ∷ ys)) → (xs ys : List X) → row (map shape xs) ≡ row (map shape ys) → P xs ys
in_pairs shape P n c [] [] e = n
in_pairs shape P n c [] (y ∷ ys) e = absurd cc
in_pairs shape P n c (x ∷ xs) [] e = absurd cc
in_pairs shape P n c (x ∷ xs) (y ∷ ys) e = c x y xs ys (first_same e) (in_pairs shape P n c xs ys (second_same e))

pub in_options : {X : Type 0} (shape : X → Shape) (P : Option X → Option X → Type 0) → P None None → ((x y : X) → shape x ≡ shape y → P (Some x) (Some y)) → (o p : Option X) → optional (option_map shape o) ≡ optional (option_map shape p) → P o p
in_options shape P n c None None e = n
in_options shape P n c None (Some y) e = absurd cc
in_options shape P n c (Some x) None e = absurd cc
in_options shape P n c (Some x) (Some y) e = c x y (first_same e)
