-- What the plan of pieces means: closed lists one after another, and values with their arguments.
use Rattle.std.proofs.Common.{◌≡◌, ◌∙◌, ℕ, zero, suc, Bool, true, List, [], ◌∷◌, ◌++◌, Option, Some, None, refl, sym, ap, append_assoc}
use Rattle.em_syntax.specs.declared.tree.Command.TheOpen.{WordWhat-F}
use Rattle.em_syntax.specs.declared.tree.Script.{Script}
use Rattle.em_syntax.specs.declared.tree.Value.{Value}
use Rattle.em_syntax.specs.declared.tree.WordPiece.{WordPiece, out-WordPiece}
use Rattle.em_syntax.specs.Pieces.{What, what_in}
use Rattle.em_syntax.specs.Nesting.{Stays, Opens, Closes, nesting_in, nesting_of, IsClosed, nothing, plain, argument}
use Rattle.em_fields.specs.declared.part.Part.{Part}
use Rattle.em_fields.specs.declared.form.Form.{Form}
use Rattle.em_fields.specs.declared.form.Late.{Late}
use Rattle.em_fields.specs.Forms.{form_of, early_value, late_value}
use Rattle.em_fields.specs.Parts.{marked, joined}
use Rattle.em_word.specs.Talk.{Pays, Looks, and_then}
use Rattle.em_word.specs.Values.{Plan, charged, text_of, close, unless_early, by_form, output_piece, value_piece}
use Rattle.em_word.specs.Words.{Around, Next, if_early, begun, passed, taken_up, plan, expansion}
use Rattle.em_word.specs.Passing.{still_open, behind}
use Rattle.em_word.proofs.Plans.{assoc}

-- what nests so is this
closes_is : (w : What) → nesting_in w ≡ Closes → w ≡ WordWhat-F.End
closes_is (WordWhat-F.Bytes t) e = absurd cc
closes_is (WordWhat-F.Value v) e = absurd cc
closes_is (WordWhat-F.Argument v) e = absurd cc
closes_is WordWhat-F.End e = refl
closes_is (WordWhat-F.Output s) e = absurd cc

opens_is : (w : What) → nesting_in w ≡ Opens → (v : Value) × (w ≡ WordWhat-F.Argument v)
opens_is (WordWhat-F.Bytes t) e = absurd cc
opens_is (WordWhat-F.Value v) e = absurd cc
opens_is (WordWhat-F.Argument v) e = (v, refl)
opens_is WordWhat-F.End e = absurd cc
opens_is (WordWhat-F.Output s) e = absurd cc

-- passing over
passed_by : (n : ℕ) (w : What) (os : List Around) (ps : List Part) (next : Next) → passed n w os ps next ≡ next (still_open (nesting_in w) n) os ps
passed_by n (WordWhat-F.Bytes t) os ps next = refl
passed_by n (WordWhat-F.Value v) os ps next = refl
passed_by n (WordWhat-F.Argument v) os ps next = refl
passed_by n WordWhat-F.End os ps next = refl
passed_by n (WordWhat-F.Output s) os ps next = refl

pass_one : (n : ℕ) (os : List Around) (ps : List Part) (p : WordPiece) (rest : List WordPiece) → plan (suc n) os ps (p ∷ rest) ≡ plan (still_open (nesting_of p) n) os ps rest
pass_one n os ps p rest = passed_by n (what_in p) os ps (λ m us qs. plan m us qs rest)

-- of arguments that are passed over nothing comes but what stands behind them
pub behind_plan : (n : ℕ) (os : List Around) (ps : List Part) (xs : List WordPiece) → plan n os ps xs ≡ plan 0 os ps (behind n xs)
behind_plan zero os ps xs = refl
behind_plan (suc n) os ps [] = refl
behind_plan (suc n) os ps (p ∷ xs) = pass_one n os ps p xs ∙ behind_plan (still_open (nesting_of p) n) os ps xs

closed_passed : (n : ℕ) (os : List Around) (ps : List Part) (xs rest : List WordPiece) → IsClosed xs → plan (suc n) os ps (xs ++ rest) ≡ plan (suc n) os ps rest
closed_passed n os ps _ rest nothing = refl
closed_passed n os ps _ rest (plain p xs s c) = pass_one n os ps p (xs ++ rest) ∙ ap (λ x. plan (still_open x n) os ps (xs ++ rest)) s ∙ closed_passed n os ps xs rest c
closed_passed n os ps _ rest (argument p inside e xs o i f c) =
    pass_one n os ps p ((inside ++ e ∷ xs) ++ rest)
    ∙ (λ j. plan (still_open (o j) n) os ps (append_assoc inside (e ∷ xs) rest j))
    ∙ closed_passed (suc n) os ps inside (e ∷ (xs ++ rest)) i
    ∙ pass_one (suc n) os ps e (xs ++ rest) ∙ ap (λ x. plan (still_open x (suc n)) os ps (xs ++ rest)) f ∙ closed_passed n os ps xs rest c

-- the pieces of an argument come first, by themselves
abbrev First : List WordPiece → Type 0
First xs = (os : List Around) (ps : List Part) (rest : List WordPiece) → plan 0 os ps (xs ++ rest) ≡ and_then (expansion ps xs) (λ qs. plan 0 os qs rest)

module _ (q : Bool) (name : List ℕ) (inside : List WordPiece) (e : WordPiece) (closed : IsClosed inside) (first : First inside) (is_end : what_in e ≡ WordWhat-F.End) (os : List Around) (ps : List Part) (rest : List WordPiece) where
  abbrev following : Next
  following m us qs = plan m us qs (inside ++ e ∷ rest)

  abbrev then_rest : List Part → Plan Script
  then_rest more = plan 0 os (joined ps more) rest

  over_end : (qs : List Part) → plan 1 os qs (e ∷ rest) ≡ plan 0 os qs rest
  over_end qs = pass_one 0 os qs e rest ∙ ap (λ w. plan (still_open (nesting_in w) 0) os qs rest) is_end

  at_end : (late : Late) (qs : List Part) → plan 0 (record { quoted = q; late = late; name = name; parts = ps } ∷ os) qs (e ∷ rest) ≡ and_then (close late q name qs) then_rest
  at_end late qs = ap (λ w. taken_up w (out-WordPiece e).quoted (record { quoted = q; late = late; name = name; parts = ps } ∷ os) qs (λ m us rs. plan m us rs rest)) is_end

  by_early : (x : Option (List ℕ)) (late : Late) → if_early x late q name os ps following ≡ and_then (unless_early x q (and_then (expansion [] inside) (close late q name))) then_rest
  by_early (Some value) late = λ i. and_then (charged (marked q value)) (λ more. (closed_passed 0 os (joined ps more) inside (e ∷ rest) closed ∙ over_end (joined ps more)) i)
  by_early None late =
      first (record { quoted = q; late = late; name = name; parts = ps } ∷ os) [] (e ∷ rest)
      ∙ (λ i. and_then (expansion [] inside) (λ qs. at_end late qs i))
      ∙ sym (assoc (expansion [] inside) (close late q name) then_rest)

  begun_is : (g : Option Form) → begun g q name os ps following ≡ and_then (by_form g q name (Some (expansion [] inside))) then_rest
  begun_is None = refl
  begun_is (Some f) = λ i. Looks (λ shell. by_early (early_value f (text_of shell name) shell.status) (late_value f) i)

  pub value_begun : (p : WordPiece) (form : List ℕ) (v : Value) → (out-WordPiece p).quoted ≡ q → v.name ≡ name → v.form ≡ form → what_in p ≡ WordWhat-F.Argument v →
      plan 0 os ps (p ∷ inside ++ e ∷ rest) ≡ and_then (value_piece q name form (Some (expansion [] inside))) then_rest
  unfolding value_piece
  value_begun p form v quoted named formed is =
      (λ i. taken_up (is i) (quoted i) os ps following)
      ∙ (λ i. Pays 1 (begun (form_of (named i) (formed i) true) q (named i) os ps following))
      ∙ ap (Pays 1) (begun_is (form_of name form true))

-- a piece that neither opens nor ends an argument
module _ (q : Bool) (xs : List WordPiece) (first : First xs) (os : List Around) (ps : List Part) (rest : List WordPiece) where
  abbrev onto : List Part → Plan Script
  onto qs = plan 0 os qs rest

  one_part : (p : Plan Script) → and_then p (λ more. plan 0 os (joined ps more) (xs ++ rest)) ≡ and_then (and_then p (λ more. expansion (joined ps more) xs)) onto
  one_part p = (λ i. and_then p (λ more. first os (joined ps more) rest i)) ∙ sym (assoc p (λ more. expansion (joined ps more) xs) onto)

  by_what : (w : What) → nesting_in w ≡ Stays → taken_up w q os ps (λ m us qs. plan m us qs (xs ++ rest)) ≡ and_then (taken_up w q [] ps (λ m us qs. plan m us qs xs)) onto
  by_what (WordWhat-F.Bytes t) s = first os (joined ps (marked q t)) rest
  by_what (WordWhat-F.Value v) s = one_part (value_piece q v.name v.form None)
  by_what (WordWhat-F.Argument v) s = absurd cc
  by_what WordWhat-F.End s = absurd cc
  by_what (WordWhat-F.Output x) s = one_part (output_piece q x)

pub closed_first : (xs : List WordPiece) → IsClosed xs → First xs
closed_first _ nothing = λ os ps rest. refl
closed_first _ (plain p xs s c) = λ os ps rest. by_what (out-WordPiece p).quoted xs (closed_first xs c) os ps rest (what_in p) s
closed_first _ (argument p inside e xs o i f c) = λ os ps rest.
    let v = opens_is (what_in p) o in
    let q = (out-WordPiece p).quoted in
    let is_end = closes_is (what_in e) f in
    let value = value_piece q v.0.name v.0.form (Some (expansion [] inside)) in
    ap (λ l. plan 0 os ps (p ∷ l)) (append_assoc inside (e ∷ xs) rest)
    ∙ value_begun q v.0.name inside e i (closed_first inside i) is_end os ps (xs ++ rest) p v.0.form v.0 refl refl refl v.1
    ∙ (λ j. and_then value (λ more. closed_first xs c os (joined ps more) rest j))
    ∙ sym (assoc value (λ more. expansion (joined ps more) xs) (λ qs. plan 0 os qs rest))
    ∙ ap (λ t. and_then t (λ qs. plan 0 os qs rest)) (sym (value_begun q v.0.name inside e i (closed_first inside i) is_end [] ps xs p v.0.form v.0 refl refl refl v.1))
