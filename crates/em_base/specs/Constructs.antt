-- Which refused constructs hold a text.
use Rattle.std.specs.Prelude.{Bool, true, false}
use Rattle.em_base.specs.declared.construct.Construct.{Construct}
use Rattle.em_base.specs.declared.construct.Construct.TheVariants.{Command, Letter, MakeName}

abbrev pub holds_text : Construct → Bool
holds_text (Command name) = true
holds_text (Letter utility letter) = true
holds_text (MakeName name) = true
holds_text _ = false
