-- The form of a line, as the code meets it.
use Rattle.std.proofs.Common.{◌≡◌, ◌==◌, ◌++◌, ◌∷◌, [], ℕ, Bool, true, false, Bor, List, length, Option, Some, None, drop, refl, sym, ap, arith}
use Rattle.std.specs.Option.{MatchOption, IsNone, IfSome}
use Rattle.std.proofs.lemmas.Bool.{eqb-true}
use Rattle.std.proofs.lemmas.Slice.Eq.{bytes_eq-Decides}
use Rattle.std.specs.Str.{bytes_eq}
use Rattle.em_exec.specs.Literals.{is_text}
use Rattle.em_exec.specs.Subs.{followed}

-- a test that is true exactly where another is
pub same_test : (a b : Bool) → (a ≡ true → b ≡ true) → (b ≡ true → a ≡ true) → a ≡ b
same_test true true f g = refl
same_test false false f g = refl
same_test true false f g = sym (f refl)
same_test false true f g = g refl

-- what both begin with doesn't count
pub begun_alike : (t left : List ℕ) (more : Option (List ℕ)) → is_text (t ++ left) (followed (Some t) more) ≡ is_text left more
begun_alike t left None = refl
begun_alike t left (Some m) = same_test (bytes_eq (t ++ m) (t ++ left)) (bytes_eq m left)
    (λ e. (bytes_eq-Decides m left).1 (unfront t ((bytes_eq-Decides (t ++ m) (t ++ left)).0 e)))
    (λ e. (bytes_eq-Decides (t ++ m) (t ++ left)).1 (ap (λ x. t ++ x) ((bytes_eq-Decides m left).0 e)))
  where
    unfront : (t : List ℕ) → t ++ m ≡ t ++ left → m ≡ left
    unfront [] e = e
    unfront (b ∷ bs) e = unfront bs (ap (drop 1) e)

-- what it doesn't begin with is none of its beginnings
pub begun_otherwise : (name t : List ℕ) (more : Option (List ℕ)) → ((rest : List ℕ) → name ≡ t ++ rest → ⊥) → is_text name (followed (Some t) more) ≡ false
begun_otherwise name t None never = refl
begun_otherwise name t (Some m) never = by_end (bytes_eq (t ++ m) name) refl
  where
    by_end : (b : Bool) → bytes_eq (t ++ m) name ≡ b → bytes_eq (t ++ m) name ≡ false
    by_end false e = e
    by_end true e = absurd (never m (sym ((bytes_eq-Decides (t ++ m) name).0 e)))

pub stripped : (o : Option (List ℕ)) (name t : List ℕ) (r : Option (Bor (List ℕ))) → o ≡ Some t → MatchOption r ((rest : List ℕ) → name ≡ t ++ rest → ⊥) (λ x. name ≡ t ++ x.now)
    → IfSome r (λ x. (more : Option (List ℕ)) → is_text name (followed o more) ≡ is_text x.now more)
stripped o name t None e m = tt
stripped o name t (Some x) e m = λ more. rw (e, m) (begun_alike t x.now more)

pub unstripped : (o : Option (List ℕ)) (name t : List ℕ) (r : Option (Bor (List ℕ))) → o ≡ Some t → MatchOption r ((rest : List ℕ) → name ≡ t ++ rest → ⊥) (λ x. name ≡ t ++ x.now)
    → IsNone r → (more : Option (List ℕ)) → is_text name (followed o more) ≡ false
unstripped o name t None e m none = λ more. rw e (begun_otherwise name t more m)
unstripped o name t (Some x) e m none = absurd (let some : true ≡ false = none in cc)

pub unbegun : (name : List ℕ) (o more : Option (List ℕ)) → o ≡ None → is_text name (followed o more) ≡ false
unbegun name o more e = rw e refl

-- nothing is left of a name that is nothing
pub nothing_more : (left : List ℕ) → (length left == 0) ≡ is_text left (Some [])
nothing_more [] = refl
nothing_more (b ∷ bs) = by_end (length (b ∷ bs) == 0) refl
  where
    by_end : (z : Bool) → (length (b ∷ bs) == 0) ≡ z → (length (b ∷ bs) == 0) ≡ false
    by_end false e = e
    by_end true e = absurd (omega (arith, eqb-true (length (b ∷ bs)) 0 e))
