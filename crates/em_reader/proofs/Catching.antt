-- The expansion of a text, whose refusals of a function are values.
use Rattle.std.proofs.Common.{◌≡◌, false, List, ℕ, Result, Ok, Err, refl, sym, ap, ◌∙◌}
use Rattle.em_base.specs.declared.place.Place.{Place}
use Rattle.em_view.specs.Actions.{Workspace}
use Rattle.em_view.specs.Performs.{DeskState, Told, is_free}
use Rattle.em_view.specs.Steps.{Does, with_state, with_part, within}
use Rattle.em_expand.specs.declared.no.ExpandNo.{ExpandNo}
use Rattle.em_expand.specs.declared.no.ExpandNo.TheVariants as no
use Rattle.em_expand.specs.declared.spoken.Spoken.{Spoken}
use Rattle.em_expand.specs.Desks as low
use Rattle.em_expand.specs.Expansion.{expansion}
use Rattle.em_reading.specs.declared.no.ReadNo.{ReadNo}
use Rattle.em_reading.specs.declared.heard.Expanded.{Expanded}
use Rattle.em_reading.specs.declared.reading.Reading.{Reading}
use Rattle.em_reading.specs.Faults as faults
use Rattle.em_reader.proofs.States.{free_with}
use Rattle.em_reader.specs.Hearing.{plain, caught_of, caught_by, caught, with_spoken, itself, heard}

free_caught : (p : Place) (e : ExpandNo) → is_free faults.is_free (caught_of p e) ≡ low.is_free e
free_caught p (no.SelfReference t) = refl
free_caught p (no.UserError t) = refl
free_caught p (no.BadArgument t) = refl
free_caught p no.Unclosed = refl
free_caught p (no.Refused t) = refl
free_caught p no.Spent = refl
free_caught p no.TooDeep = refl
free_caught p no.NoMemory = refl

module _ {V : Type 0} {tells : V → Told} {old new : DeskState V} (p : Place) (text : List ℕ) {s : Reading} {t : Spoken} where
  pub heard_ok : {a : List ℕ} → Does low.is_free tells old new s.spoken t (Ok a) (expansion s.book.vars s.cwd p text)
      → Does faults.is_free tells old new s (with_spoken s t) (Ok (plain a)) (heard p text)
  unfolding heard caught within
  heard_ok {a} q = let k = q.performs in record {
    performs = record {
      grows = k.grows;
      plain = λ h o all. ap (λ (z : Result (List ℕ × Spoken) (ExpandNo × Spoken) × Workspace). let x : Result (Expanded × Reading) (ReadNo × Reading) × Workspace = (caught_by p (with_part with_spoken itself s z.0), z.1) in x) (k.plain refl o all);
    };
  }

  pub heard_err : {e : ExpandNo} {r : Result Expanded ReadNo} → (is_free faults.is_free r ≡ false → r ≡ caught_of p e)
      → Does low.is_free tells old new s.spoken t (Err e) (expansion s.book.vars s.cwd p text) → Does faults.is_free tells old new s (with_spoken s t) r (heard p text)
  unfolding heard caught within
  heard_err {e} {r} is q =
      let k = q.performs in
      let given : is_free faults.is_free r ≡ false → low.is_free e ≡ false = λ h. sym (free_caught p e) ∙ ap (is_free faults.is_free) (sym (is h)) ∙ h in
      record {
        performs = record {
          grows = k.grows;
          plain = λ h o all. let f = sym (free_with r (with_spoken s t)) ∙ h in
              ap (λ (z : Result (List ℕ × Spoken) (ExpandNo × Spoken) × Workspace). let x : Result (Expanded × Reading) (ReadNo × Reading) × Workspace = (caught_by p (with_part with_spoken itself s z.0), z.1) in x) (k.plain (given f) o all)
              ∙ ap (λ (y : Result Expanded ReadNo). let x : Result (Expanded × Reading) (ReadNo × Reading) × Workspace = (with_state y (with_spoken s t), new.work) in x) (sym (is f));
        };
      }
