-- What a directory's names give, one name after another.
use Rattle.std.proofs.Common.{◌≡◌, ℕ, Bool, true, false, cond, List, [], ◌∷◌, ◌++◌, Option, Some, None, refl}
use Rattle.std.specs.List.{filter, filter_map}
use Rattle.em_glob.specs.declared.glyph.Glyph.{Glyph}
use Rattle.em_pathname.specs.declared.found.PathMatch.{PathMatch}
use Rattle.em_pathname.specs.Walking.{found, name_below, shows, those_that_match}

put_first : {A B : Type 0} (f : A → Option B) (r : Option B) (n : A) (ns : List A) → f n ≡ r → filter_map f (n ∷ ns) ≡ filter_map f (n ∷ []) ++ filter_map f ns
put_first f None n ns e = rw e refl
put_first f (Some b) n ns e = rw e refl

first_kept : {A B : Type 0} (f : A → Option B) (p : A → Bool) (b : Bool) (n : A) (ns : List A) → filter_map f (cond b (n ∷ filter p ns) (filter p ns)) ≡ filter_map f (cond b (n ∷ []) []) ++ filter_map f (filter p ns)
first_kept f p true n ns = put_first f (f n) n (filter p ns) refl
first_kept f p false n ns = refl

pub first_shown : (cwd : List ℕ) (dir : PathMatch) (c : List Glyph) (n : List ℕ) (ns : List (List ℕ)) → those_that_match cwd dir c (n ∷ ns) ≡ those_that_match cwd dir c (n ∷ []) ++ those_that_match cwd dir c ns
first_shown cwd dir c n ns = first_kept (λ m. found cwd (name_below dir.name m)) (shows c) (shows c n) n ns
