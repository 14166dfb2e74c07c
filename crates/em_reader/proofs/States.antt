-- Steps that look at the state first.
use Rattle.std.proofs.Common.{◌≡◌, ◌≢◌, ◌-◌, ℕ, zero, suc, Result, Ok, Err, refl, sym, ap, arith}
use Rattle.em_base.specs.declared.place.Place.{Place}
use Rattle.em_view.specs.declared.no.DeskNo.{DeskNo}
use Rattle.em_view.specs.declared.no.DeskNo.TheVariants as no
use Rattle.em_view.specs.Rows.{is_memory}
use Rattle.em_view.specs.Performs.{DeskState, Told}
use Rattle.em_view.specs.Performs as performs
use Rattle.em_view.specs.Steps.{Does, with_state}
use Rattle.em_reading.specs.declared.no.ReadNo.{ReadNo}
use Rattle.em_reading.specs.declared.reading.Reading.{Reading}
use Rattle.em_reading.specs.Faults.{is_free, of_desk}
use Rattle.em_reader.specs.Hearing.{Reads}

pub on_state : {V A : Type 0} {tells : V → Told} {old new : DeskState V} {s t : Reading} {r : Result A ReadNo} (f : Reading → Reads A)
    → Does is_free tells old new s t r (f s) → Does is_free tells old new s t r (λ x. f x x)
on_state f q = record { performs = q.performs }

pub free_of_desk : (p : Place) (x : DeskNo) → is_free (of_desk p x) ≡ is_memory x
free_of_desk p no.NoMemory = refl
free_of_desk p no.Spent = refl
free_of_desk p (no.File f) = refl

pub one_more : (left : ℕ) → left ≢ 0 → left ≡ suc (left - 1)
one_more zero h = absurd (h refl)
one_more (suc n) h = let e : suc n - 1 ≡ n = omega arith in ap suc (sym e)

pub free_with : {A S : Type 0} (r : Result A ReadNo) (t : S) → performs.is_free (λ (x : ReadNo × S). is_free x.0) (with_state r t) ≡ performs.is_free is_free r
free_with (Ok a) t = refl
free_with (Err e) t = refl
