use Rattle.em_path.proofs.Walking.{resolve_names, resolves_itself}
use Rattle.em_path.proofs.laws.law_resolved.Goals as goal

pub returns : goal.returns
returns c = record { components = resolve_names; itself = resolves_itself }
