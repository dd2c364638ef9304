use Rattle.std.proofs.Common.{refl}
use Rattle.std.specs.Fmt.{digits}
use Rattle.pp_options.specs.Listing.{options_text}
use Rattle.pp_options.proofs.plain_names.lists_in_plain_lines.Goals as goal

-- both are one text
pub returns-clause-defaults : goal.returns-clause-defaults
unfolding options_text digits
returns-clause-defaults c = refl
