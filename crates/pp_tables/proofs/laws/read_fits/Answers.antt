use Rattle.pp_tables.proofs.Ranges as ranges
use Rattle.pp_tables.proofs.laws.read_fits.Goals as goal

pub returns : goal.returns
returns c = ranges.read_fits
