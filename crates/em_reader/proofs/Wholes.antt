-- The book, what was noted and what was said, from what was read.
--     whole_ok, whole_err      from what was read
--     book_ok, book_err        without what was noted
use Rattle.std.proofs.Common.{◌≡◌, ◌∙◌, List, ℕ, Option, None, Result, Ok, Err, refl, sym, ap, subst}
use Rattle.std.specs.Prelude.{IsErrAnd}
use Rattle.em_rules.specs.declared.book.Book.{Book}
use Rattle.em_vars.specs.Entries.{Entries}
use Rattle.em_view.specs.Actions.{Oracle, Workspace}
use Rattle.em_view.specs.Performs.{DeskState, Told}
use Rattle.em_view.specs.Steps.{Does}
use Rattle.em_reading.specs.declared.no.ReadNo.{ReadNo}
use Rattle.em_reading.specs.declared.noted.Noted.{Noted}
use Rattle.em_reading.specs.declared.reading.Reading.{Reading}
use Rattle.em_reading.specs.Faults.{is_free}
use Rattle.em_reading.specs.Start.{start}
use Rattle.em_reader.specs.declared.makefiles.Round.{Round}
use Rattle.em_reader.specs.Makefiles.{made, made_round, read_all, read_from, round_from, round_of, start_noting}

abbrev of_round : Result (Unit {0} × Reading) (ReadNo × Reading) × Workspace → Result (Round × List ℕ) (ReadNo × List ℕ) × Workspace
of_round z = (made_round z.0, z.1)

module _ {V : Type 0} {tells : V → Told} {old new : DeskState V} (noted : Option Noted) (name : Option (List ℕ)) (cwd : List ℕ) (vars : Entries) {said : List ℕ} {r : Reading} where
  pub whole_ok : Does is_free tells old new (start_noting noted cwd vars said) r (Ok tt) (read_all name) → Does is_free tells old new said r.spoken.said (Ok (round_of r.book r.noted)) (round_from noted name cwd vars)
  unfolding round_from
  whole_ok q = let k = q.performs in record { performs = record { grows = k.grows; plain = λ h o all. ap of_round (k.plain refl o all) } }

  pub whole_err : {e : ReadNo} → Does is_free tells old new (start_noting noted cwd vars said) r (Err e) (read_all name) → Does is_free tells old new said r.spoken.said (Err e) (round_from noted name cwd vars)
  unfolding round_from
  whole_err q = let k = q.performs in record { performs = record { grows = k.grows; plain = λ h o all. ap of_round (k.plain h o all) } }

-- ---- without what was noted

abbrev book_in : Result (Round × List ℕ) (ReadNo × List ℕ) → Result (Book × List ℕ) (ReadNo × List ℕ)
book_in (Ok p) = Ok (p.0.book, p.1)
book_in (Err p) = Err p

abbrev of_book : Result (Round × List ℕ) (ReadNo × List ℕ) × Workspace → Result (Book × List ℕ) (ReadNo × List ℕ) × Workspace
of_book z = (book_in z.0, z.1)

same_made : (x : Result (Unit {0} × Reading) (ReadNo × Reading)) → made x ≡ book_in (made_round x)
same_made (Ok p) = refl
same_made (Err p) = refl

module _ (name : Option (List ℕ)) (cwd : List ℕ) (vars : Entries) where
  same : (said : List ℕ) (o : Oracle) (w : Workspace) → read_from name cwd vars said o w ≡ of_book (round_from None name cwd vars said o w)
  unfolding read_from round_from
  same said o w = ap (λ (x : Result (Book × List ℕ) (ReadNo × List ℕ)). let z : Result (Book × List ℕ) (ReadNo × List ℕ) × Workspace = (x, (read_all name (start cwd vars said) o w).1) in z) (same_made (read_all name (start cwd vars said) o w).0)

  module _ {V : Type 0} {tells : V → Told} {old new : DeskState V} {said now : List ℕ} where
    pub book_ok : {x : Round} → Does is_free tells old new said now (Ok x) (round_from None name cwd vars) → Does is_free tells old new said now (Ok x.book) (read_from name cwd vars)
    book_ok q = let k = q.performs in record { performs = record { grows = k.grows; plain = λ h o all. same said o old.work ∙ ap of_book (k.plain refl o all) } }

    book_no : {e : ReadNo} → Does is_free tells old new said now (Err e) (round_from None name cwd vars) → Does is_free tells old new said now (Err e) (read_from name cwd vars)
    book_no q = let k = q.performs in record { performs = record { grows = k.grows; plain = λ h o all. same said o old.work ∙ ap of_book (k.plain h o all) } }

    pub book_err : {e : ReadNo} {x : Result Book ReadNo} → IsErrAnd x (λ y. y ≡ e) → Does is_free tells old new said now (Err e) (round_from None name cwd vars) → Does is_free tells old new said now x (read_from name cwd vars)
    book_err {x = Ok b} is q = absurd is
    book_err {x = Err y} is q = subst (λ (z : ReadNo). Does is_free tells old new said now (Err z) (read_from name cwd vars)) (sym is) (book_no q)
