use Rattle.em_laws.proofs.Testing.{test_bytes, test_dir, test_exists, test_file, test_link, test_newer, test_older}
use Rattle.em_laws.proofs.tested.law_files.Goals as goal

pub returns-clause-exists : goal.returns-clause-exists
returns-clause-exists c = test_exists

pub returns-clause-file : goal.returns-clause-file
returns-clause-file c = test_file

pub returns-clause-dir : goal.returns-clause-dir
returns-clause-dir c = test_dir

pub returns-clause-bytes : goal.returns-clause-bytes
returns-clause-bytes c = test_bytes

pub returns-clause-newer : goal.returns-clause-newer
returns-clause-newer c = test_newer

pub returns-clause-link : goal.returns-clause-link
returns-clause-link c = test_link

pub returns-clause-older : goal.returns-clause-older
returns-clause-older c = test_older
