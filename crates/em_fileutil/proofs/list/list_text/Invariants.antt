use Rattle.std.proofs.Common.{◌≡◌, ◌++◌, drop}
use Rattle.em_fileutil.specs.Listing.{lines, list_text}
use Rattle.em_fileutil.proofs.list.list_text.Given as goal

-- with the lines of the names left it is the whole text
abbrev pub invariant-loop-entry : goal.invariant-loop-entry
invariant-loop-entry l = l.text ++ lines l.how (drop l.entry-index l.inside) ≡ list_text l.how l.name l.inside
