-- Plans whose questions are named anew. The pieces of a word do so with the plans that they are
-- made of.
use Rattle.std.proofs.Common.{◌≡◌, ◌∙◌, ℕ, Bool, List, [], Option, Some, None, refl, ap}
use Rattle.std.specs.Option.{option_map}
use Rattle.em_fields.specs.declared.part.Part.{Part}
use Rattle.em_fields.specs.declared.form.Form.{Form}
use Rattle.em_fields.specs.declared.form.Late.{Late}
use Rattle.em_fields.specs.declared.form.Late.TheVariants.{Keep, Assign, Complain, Cut}
use Rattle.em_fields.specs.Forms.{form_of, early_value, late_value}
use Rattle.em_word.specs.Talk.{Ends, Fails, Pays, Looks, Sets, Asks, and_then}
use Rattle.em_word.specs.Values.{Plan, text_of, close, argument, unless_early, by_form, is_there, value_piece}

abbrev pub asking : {Q R : Type 0} → (Q → R) → Plan Q → Plan R
asking f (Ends ps) = Ends ps
asking f (Fails e) = Fails e
asking f (Pays n t) = Pays n (asking f t)
asking f (Looks t) = Looks (λ shell. asking f (t shell))
asking f (Sets name value t) = Sets name value (asking f t)
asking f (Asks q t) = Asks (f q) (λ output. asking f (t output))

module _ {Q R : Type 0} (f : Q → R) where
  pub then_asking : (t : Plan Q) (k : List Part → Plan Q) → asking f (and_then t k) ≡ and_then (asking f t) (λ ps. asking f (k ps))
  then_asking (Ends ps) k = refl
  then_asking (Fails e) k = refl
  then_asking (Pays n t) k = ap (Pays n) (then_asking t k)
  then_asking (Looks t) k = λ i. Looks (λ shell. then_asking (t shell) k i)
  then_asking (Sets name value t) k = ap (Sets name value) (then_asking t k)
  then_asking (Asks q t) k = λ i. Asks (f q) (λ output. then_asking (t output) k i)

  pub close_asking : (late : Late) (q : Bool) (name : List ℕ) (ps : List Part) → asking f (close late q name ps) ≡ close late q name ps
  close_asking Keep q name ps = refl
  close_asking Assign q name ps = refl
  close_asking Complain q name ps = refl
  close_asking (Cut side) q name ps = refl

  argument_asking : (w : Option (Plan Q)) → asking f (argument w) ≡ argument (option_map (asking f) w)
  argument_asking None = refl
  argument_asking (Some t) = refl

  early_asking : (value : Option (List ℕ)) (q : Bool) (t : Plan Q) → asking f (unless_early value q t) ≡ unless_early value q (asking f t)
  early_asking None q t = refl
  early_asking (Some value) q t = refl

  late_asking : (w : Option (Plan Q)) (late : Late) (q : Bool) (name : List ℕ) → asking f (and_then (argument w) (close late q name)) ≡ and_then (argument (option_map (asking f) w)) (close late q name)
  late_asking w late q name = then_asking (argument w) (close late q name) ∙ (λ i. and_then (argument_asking w i) (λ ps. close_asking late q name ps i))

  form_asking : (form : Option Form) (q : Bool) (name : List ℕ) (w : Option (Plan Q)) → asking f (by_form form q name w) ≡ by_form form q name (option_map (asking f) w)
  form_asking None q name w = refl
  form_asking (Some g) q name w =
      λ i. Looks (λ shell. (early_asking (early_value g (text_of shell name) shell.status) q (and_then (argument w) (close (late_value g) q name)) ∙ ap (unless_early (early_value g (text_of shell name) shell.status) q) (late_asking w (late_value g) q name)) i)

  there : (w : Option (Plan Q)) → is_there w ≡ is_there (option_map (asking f) w)
  there None = refl
  there (Some t) = refl

  pub value_asking : (q : Bool) (name form : List ℕ) (w : Option (Plan Q)) → asking f (value_piece q name form w) ≡ value_piece q name form (option_map (asking f) w)
  unfolding value_piece
  value_asking q name form w = ap (Pays 1) (form_asking (form_of name form (is_there w)) q name w ∙ (λ i. by_form (form_of name form (there w i)) q name (option_map (asking f) w)))
