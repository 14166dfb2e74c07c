-- The substitutions that stand before what is left, and arguments that are passed over.
use Rattle.std.proofs.Common.{◌≡◌, ◌≢◌, ◌∙◌, ℕ, zero, suc, ◌+◌, ◌-◌, ◌<◌, List, [], ◌∷◌, ◌++◌, length, drop, Some, refl, sym, ap, arith}
use Rattle.std.proofs.lemmas.List.{drop-drop}
use Rattle.std.proofs.Math.Seq.{drop-append_seam}
use Rattle.std.specs.Prelude.{slice_get}
use Rattle.em_syntax.specs.Scripts.{script_in, scripts_in}
use Rattle.em_syntax.specs.Pieces.{what_in}
use Rattle.em_syntax.specs.Nesting.{Stays, Opens, Closes, nesting_in, nesting_of}
use Rattle.em_syntax.specs.declared.tree.Script.{Script}
use Rattle.em_syntax.specs.declared.tree.Value.{Value}
use Rattle.em_syntax.specs.declared.tree.WordPiece.{WordPiece, out-WordPiece}
use Rattle.em_syntax.specs.declared.tree.WordWhat.TheVariants as what
use Rattle.em_syntax.proofs.Variants.{is_bytes, is_value, is_argument, is_end, is_output}
use Rattle.em_word.specs.Passing.{still_open, behind}

drop_next : {A : Type 0} (n : ℕ) (xs : List A) (y : A) (ws : List A) → drop n xs ≡ y ∷ ws → drop (suc n) xs ≡ ws
drop_next zero [] y ws e = absurd cc
drop_next zero (x ∷ xs) y ws e = ap (drop 1) e
drop_next (suc n) [] y ws e = absurd cc
drop_next (suc n) (x ∷ xs) y ws e = drop_next n xs y ws e

pub next_is : {A : Type 0} (n : ℕ) (xs : List A) (y : A) (ws : List A) → drop n xs ≡ y ∷ ws → slice_get xs n ≡ Some y
next_is zero [] y ws e = absurd cc
next_is zero (x ∷ xs) y ws e = ap (λ l. slice_get l 0) e
next_is (suc n) [] y ws e = absurd cc
next_is (suc n) (x ∷ xs) y ws e = next_is n xs y ws e

pub past_one : {A : Type 0} (n : ℕ) (xs : List A) (y : A) (ws : List A) → drop n xs ≡ y ∷ ws → drop (n + 1) xs ≡ ws
past_one n xs y ws e =
    let m : n + 1 ≡ suc n = omega arith in
    ap (λ k. drop k xs) m ∙ drop_next n xs y ws e

-- more of them
pub past : {A : Type 0} (n m : ℕ) (xs ys zs : List A) → drop n xs ≡ ys → drop m ys ≡ zs → drop (n + m) xs ≡ zs
past n m xs ys zs e f = sym (drop-drop m n xs) ∙ ap (drop m) e ∙ f

module _ (p : WordPiece) (ps : List WordPiece) where
  pub bytes_scripts : (t : List ℕ) → (out-WordPiece p).what ≡ what.Bytes t → scripts_in (p ∷ ps) ≡ scripts_in ps
  bytes_scripts t e = ap (λ w. script_in w ++ scripts_in ps) (is_bytes p t e)

  pub value_scripts : (v : Value) → (out-WordPiece p).what ≡ what.Value v → scripts_in (p ∷ ps) ≡ scripts_in ps
  value_scripts v e = ap (λ w. script_in w ++ scripts_in ps) (is_value p v e)

  pub argument_scripts : (v : Value) → (out-WordPiece p).what ≡ what.Argument v → scripts_in (p ∷ ps) ≡ scripts_in ps
  argument_scripts v e = ap (λ w. script_in w ++ scripts_in ps) (is_argument p v e)

  pub end_scripts : (out-WordPiece p).what ≡ what.End → scripts_in (p ∷ ps) ≡ scripts_in ps
  end_scripts e = ap (λ w. script_in w ++ scripts_in ps) (is_end p e)

  pub output_scripts : (s : Script) → (out-WordPiece p).what ≡ what.Output s → scripts_in (p ∷ ps) ≡ s ∷ scripts_in ps
  output_scripts s e = ap (λ w. script_in w ++ scripts_in ps) (is_output p s e)

  -- behind a piece
  pub one_behind : (n m : ℕ) → n ≢ 0 → m ≡ still_open (nesting_of p) (n - 1) → behind n (p ∷ ps) ≡ behind m ps
  one_behind zero m some is = absurd (some refl)
  one_behind (suc n) m some is = ap (λ k. behind k ps) (ap (still_open (nesting_of p)) (let e : n ≡ suc n - 1 = omega arith in e) ∙ sym is)

  pub past_piece : (n m : ℕ) (ss : List Script) → drop n ss ≡ scripts_in (p ∷ ps) → m ≡ n + length (script_in (what_in p)) → drop m ss ≡ scripts_in ps
  past_piece n m ss e is = ap (λ k. drop k ss) is ∙ past n (length (script_in (what_in p))) ss (scripts_in (p ∷ ps)) (scripts_in ps) e (drop-append_seam (script_in (what_in p)) (scripts_in ps))

pub nothing_left : {A : Type 0} (xs : List A) → length xs ≡ 0 → xs ≡ []
nothing_left [] e = refl
nothing_left (x ∷ xs) e = absurd cc

pub none_behind : (n : ℕ) (ps : List WordPiece) → ps ≡ [] → behind n ps ≡ ps
none_behind zero ps e = refl
none_behind (suc n) ps e = ap (behind (suc n)) e ∙ sym e

-- how each piece nests
module _ (p : WordPiece) where
  pub bytes_nest : (t : List ℕ) → (out-WordPiece p).what ≡ what.Bytes t → nesting_of p ≡ Stays
  bytes_nest t e = ap nesting_in (is_bytes p t e)

  pub value_nests : (v : Value) → (out-WordPiece p).what ≡ what.Value v → nesting_of p ≡ Stays
  value_nests v e = ap nesting_in (is_value p v e)

  pub argument_nests : (v : Value) → (out-WordPiece p).what ≡ what.Argument v → nesting_of p ≡ Opens
  argument_nests v e = ap nesting_in (is_argument p v e)

  pub end_nests : (out-WordPiece p).what ≡ what.End → nesting_of p ≡ Closes
  end_nests e = ap nesting_in (is_end p e)

  pub output_nests : (s : Script) → (out-WordPiece p).what ≡ what.Output s → nesting_of p ≡ Stays
  output_nests s e = ap nesting_in (is_output p s e)

-- numbers that are open
pub stays_open : (n : ℕ) → 0 < n → n ≡ suc (n - 1)
stays_open n low = omega (arith, low)
