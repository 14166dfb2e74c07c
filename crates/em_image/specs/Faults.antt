-- Where a fault may be, and whether it stays.
--     FaultFits end e      the place of a fault that was found in an input that ends at `end`
--     stays e              whether a fault stays when bytes are added behind the input
use Rattle.std.specs.Prelude.{◌≡◌, ℕ, ◌<◌, Bool, true, false}
use Rattle.em_image.specs.declared.no.Which.TheVariants as which
use Rattle.em_image.specs.declared.no.ImageNo.{ImageNo}
use Rattle.em_image.specs.declared.no.ImageNo.TheVariants as no

-- Short is told at the end of the input, any other fault at one of its bytes. That the input is too
-- long, or that memory ran out, isn't found by reading it.
abbrev pub FaultFits : ℕ → ImageNo → Type 0
FaultFits end (no.Form at) = at < end
FaultFits end (no.Number at) = at < end
FaultFits end (no.Path at) = at < end
FaultFits end (no.Order at) = at < end
FaultFits end (no.Parent at) = at < end
FaultFits end (no.Short at) = at ≡ end
FaultFits end (no.Rest at) = at < end
FaultFits end (no.Limit which.Image at) = ⊥
FaultFits end (no.Limit which.Nodes at) = at < end
FaultFits end (no.Limit which.File at) = at < end
FaultFits end (no.Limit which.Stamp at) = at < end
FaultFits end (no.Limit which.Link at) = at < end
FaultFits end no.NoMemory = ⊥

-- A fault at a byte of the input stays. Short need not. The other two aren't found by reading.
abbrev pub stays : ImageNo → Bool
stays (no.Short at) = false
stays (no.Limit which.Image at) = false
stays no.NoMemory = false
stays e = true
