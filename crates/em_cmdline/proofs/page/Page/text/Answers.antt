use Rattle.std.proofs.Common.{ap, sym}
use Rattle.em_cmdline.specs.Pages.{text_of}
use Rattle.em_cmdline.proofs.page.Page.text.Goals as goal

pub returns-in-Usage : goal.returns-in-Usage
returns-in-Usage c = ap text_of (sym c.in-Usage.is)
