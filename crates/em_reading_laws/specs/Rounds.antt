-- Words of the law on rounds.
--     is_wanting missing    a file that is needed is missing
--     IsAbsent e            the fault that a makefile isn't there
use Rattle.std.specs.Prelude.{◌≡◌, ℕ, Bool, List}
use Rattle.std.specs.List.{list_any}
use Rattle.em_base.specs.declared.place.Place.{Place}
use Rattle.em_reading.specs.declared.no.MakefileFault.TheVariants as fault
use Rattle.em_reading.specs.declared.no.ReadNo.{ReadNo}
use Rattle.em_reading.specs.declared.noted.Missing.{Missing}
use Rattle.em_reading.specs.Faults.{at_place}

abbrev pub is_wanting : List Missing → Bool
is_wanting missing = list_any (λ m. m.needed) missing

abbrev pub IsAbsent : ReadNo → Type 0
IsAbsent e = (p : Place) × (name : List ℕ) × (e ≡ at_place p (fault.Include name))
