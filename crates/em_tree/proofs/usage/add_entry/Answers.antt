use Rattle.std.proofs.Common.{◌≡◌, ◌∙◌, ap, sym}
use Rattle.em_tree.proofs.Keeping.{goes_on_popped, begins}
use Rattle.em_tree.proofs.usage.add_entry.Goals as goal

pub returns-in-Some : goal.returns-in-Some
returns-in-Some c =
    rw c.push_reserved.ensures.items (goes_on_popped c.pop.new.self.items c.args.looks.now.items c.as_slice.result.now c.pop.result _ c.in-Some.clear c.args.entry c.pop.ensures.items c.as_slice.ensures.value c.in-Some.ensures.some c.as_slice.ensures.len c.pop.ensures.variant.1 c.in-Some.ensures.last)

pub returns-in-None : goal.returns-in-None
returns-in-None c = rw c.push_reserved-in-None.ensures.items (begins c.args.looks.now.items c.args.entry)
