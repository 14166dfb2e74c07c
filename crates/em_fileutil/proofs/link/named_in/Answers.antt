use Rattle.em_view.proofs.OwnNames.{component_of}
use Rattle.em_fileutil.proofs.link.named_in.Goals as goal

pub child-requires : goal.child-requires
child-requires c = component_of c.args.path.now _ c.text-text.ensures.path c.in-Some.ensures
