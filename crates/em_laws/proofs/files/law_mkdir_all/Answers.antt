use Rattle.em_laws.proofs.Copying.{mkdir_dirs, mkdir_kept}
use Rattle.em_laws.proofs.Sparing.{mkdir_same}
use Rattle.em_laws.proofs.files.law_mkdir_all.Goals as goal

pub returns-clause-dirs : goal.returns-clause-dirs
returns-clause-dirs c = mkdir_dirs

pub returns-clause-kept : goal.returns-clause-kept
returns-clause-kept c = mkdir_kept

pub returns-clause-same : goal.returns-clause-same
returns-clause-same c = mkdir_same
