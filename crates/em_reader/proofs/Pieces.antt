-- The pieces of a rule's head, one after another.
use Rattle.std.proofs.Common.{◌≡◌, true, false, List, ◌++◌, ℕ, Option, Some, None, Ok, refl, sym, ap, ◌∙◌}
use Rattle.std.specs.Prelude.{is_some}
use Rattle.em_base.specs.declared.place.Place.{Place}
use Rattle.em_view.specs.Performs.{DeskState, Told}
use Rattle.em_view.specs.Steps.{Does, done}
use Rattle.em_view.proofs.Doing.{Goes, finish_s}
use Rattle.em_reading.specs.declared.heard.Expanded.{Expanded}
use Rattle.em_reading.specs.declared.reading.Reading.{Reading}
use Rattle.em_reading.specs.Faults.{is_free}
use Rattle.em_reader.specs.Hearing.{Reads, plain, joined, go_on, heard_pieces}

pub unrefused : (r : Option (List ℕ)) → is_some r ≡ false → r ≡ None
unrefused None h = refl
unrefused (Some name) h = absurd cc

module _ {V : Type 0} {tells : V → Told} where
  cut_at : {d : DeskState V} {s : Reading} (k : List ℕ → Reads Expanded) (text : List ℕ) (r : Option (List ℕ)) → is_some r ≡ true
      → Does is_free tells d d s s (Ok (record { text = text; refused = r })) (go_on k text r)
  cut_at k text None h = absurd cc
  cut_at k text (Some name) h = finish_s

  -- a piece that was refused ends them
  pub cut : {d : DeskState V} {s : Reading} (k : List ℕ → Reads Expanded) (so_far : List ℕ) (more all : Expanded) → all ≡ joined so_far more → is_some all.refused ≡ true
      → Does is_free tells d d s s (Ok all) (go_on k (so_far ++ more.text) more.refused)
  cut k so_far more all is h = rw is (cut_at k (so_far ++ more.text) more.refused (sym (ap (λ (e : Expanded). is_some e.refused) is) ∙ h))

  goes_at : {first here : DeskState V} {s t : Reading} {whole : Reads Expanded} (k : List ℕ → Reads Expanded) (text : List ℕ) (r : Option (List ℕ)) → r ≡ None
      → Goes is_free tells first here s t whole (go_on k text r) → Goes is_free tells first here s t whole (k text)
  goes_at k text None h g = g
  goes_at k text (Some name) h g = absurd cc

  -- and any other goes on
  pub goes : {first here : DeskState V} {s t : Reading} {whole : Reads Expanded} (p : Place) (xs : List (List ℕ)) (so_far : List ℕ) (more all : Expanded) → all ≡ joined so_far more → all.refused ≡ None
      → Goes is_free tells first here s t whole (go_on (λ text. heard_pieces p text xs) (so_far ++ more.text) more.refused) → Goes is_free tells first here s t whole (heard_pieces p all.text xs)
  goes p xs so_far more all is h g = rw is (goes_at (λ text. heard_pieces p text xs) (so_far ++ more.text) more.refused (sym (ap (λ (e : Expanded). e.refused) is) ∙ h) g)

  whole_at : {d : DeskState V} {s : Reading} (text : List ℕ) (r : Option (List ℕ)) → r ≡ None → Does is_free tells d d s s (Ok (record { text = text; refused = r })) (done (plain text))
  whole_at text None h = finish_s
  whole_at text (Some name) h = absurd cc

  pub whole : {d : DeskState V} {s : Reading} (e : Expanded) → e.refused ≡ None → Does is_free tells d d s s (Ok e) (done (plain e.text))
  whole e h = whole_at e.text e.refused h
