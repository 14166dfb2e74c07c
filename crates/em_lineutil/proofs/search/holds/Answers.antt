use Rattle.std.proofs.Common.{◌≡◌, ◌∙◌, List, ℕ, Bor, Option, Some, None, is_some, ap, sym}
use Rattle.bstr.specs.Find.{first_of, matches}
use Rattle.bstr.specs.Text.{SplitsOnce}
use Rattle.em_lineutil.proofs.search.holds.Goals as goal

-- a text can be split exactly where there is a match
told : (hay needle : List ℕ) (r : Option ℕ) (out : Option (Bor (List ℕ) × Bor (List ℕ))) → SplitsOnce hay needle r out → is_some out ≡ is_some r
told hay needle r None none = ap is_some (sym none)
told hay needle r (Some p) some = ap is_some (sym some.1)

pub returns : goal.returns
returns c = c.is_some.ensures ∙ told c.args.line.now c.args.text.now (first_of (matches c.args.line.now c.args.text.now 0)) c.split_once_str.result c.split_once_str.ensures
