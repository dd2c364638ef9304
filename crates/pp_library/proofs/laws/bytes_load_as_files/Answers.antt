use Rattle.pp_library.proofs.OneFileLemmas.{bytes_load_as_files}
use Rattle.pp_library.proofs.laws.bytes_load_as_files.Goals as goal

pub returns : goal.returns
returns c = bytes_load_as_files
