-- `sort`: the lines of all texts in byte order.
--     sorted ls         the lines in rising order, each as often as it stands there: each is put in its place among the others
--     sort_text o texts     what is written
use Rattle.std.specs.Prelude.{ℕ, nat_eq, Bool, List, [], ◌∷◌, ◌++◌, map, reverse, if◌then◌else◌}
use Rattle.std.specs.List.{flat_map, dedup}
use Rattle.std.specs.Ordering.{nat_cmp, is_lt}
use Rattle.std.specs.Cmp.Lexicographic.{pointwise, slice_cmp}
use Rattle.bstr.specs.Text.{lines_of}
use Rattle.em_lineutil.specs.declared.sort.Order.{Order}
use Rattle.em_lineutil.specs.Lines.{bare}

abbrev pub placed : List ℕ → List (List ℕ) → List (List ℕ)
placed l [] = l ∷ []
placed l (m ∷ ms) = if is_lt (slice_cmp nat_cmp m l) then m ∷ placed l ms else l ∷ m ∷ ms

abbrev pub sorted : List (List ℕ) → List (List ℕ)
sorted [] = []
sorted (l ∷ ls) = placed l (sorted ls)

abbrev pub once : Bool → List (List ℕ) → List (List ℕ)
once unique ls = if unique then dedup (pointwise nat_eq) ls else ls

abbrev pub turned : Bool → List (List ℕ) → List (List ℕ)
turned backwards ls = if backwards then reverse ls else ls

abbrev pub bare_lines : List ℕ → List (List ℕ)
bare_lines text = map bare (lines_of text)

unfoldable pub sort_text : Order → List (List ℕ) → List ℕ
sort_text o texts = flat_map (λ l. l ++ 10 ∷ []) (turned o.backwards (once o.unique (sorted (flat_map bare_lines texts))))
