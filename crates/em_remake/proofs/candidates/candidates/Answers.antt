use Rattle.std.proofs.Common.{◌≡◌, sym, [], map}
use Rattle.em_plan.specs.Once.{each_once}
use Rattle.em_plan.proofs.Asked.{there_none}
use Rattle.em_remake.proofs.Gathering.{each_once_append}
use Rattle.em_remake.proofs.candidates.candidates.Goals as goal

pub add_all-requires : goal.add_all-requires
add_all-requires c = rw (c.new-there.ensures, c.new-names.ensures) there_none

pub returns : goal.returns
returns c =
    let r = c.args.r.now in
    let files : c.add_all.new.names ≡ each_once [] r.files = rw (← c.new-names.ensures, ← c.items.ensures) c.in_ok-add_all.ensures.names in
    rw (c.in_ok-add_missing.ensures.names, files, c.items-2.ensures) (sym (each_once_append [] r.files (map (λ m. m.name) r.missing)))
