use Rattle.std.proofs.Common.{subst, sym}
use Rattle.std.specs.Prelude.{IfSome}
use Rattle.pp_load.specs.Joining.{AreMergeable, IsOneOf, CanTakeOff}
use Rattle.pp_load.proofs.KindLemmas.{agreed}
use Rattle.pp_load.proofs.JoiningLemmas.{front_joins, bases_taken}
use Rattle.pp_load.proofs.combine.join.Goals as goal

-- the sources can be merged
pub merge_all-requires-after_bounds : goal.merge_all-requires-after_bounds
merge_all-requires-after_bounds g c = λ _ _.
    subst AreMergeable (sym c.in_ok-sources.ensures.front)
    (front_joins c.args.sources c.args.profiles c.requires.few (agreed c.args.profiles c.requires.agree) c.requires.some c.requires.all)

-- the bases can be taken off them
pub less_bases-requires-clause-bases : goal.less_bases-requires-clause-bases
less_bases-requires-clause-bases g c = λ _ _.
    subst (λ bases. IfSome c.args.kind (λ _. CanTakeOff c.in_ok-source.source bases)) (sym c.in_ok-sources.ensures.rest)
    (bases_taken c.args.kind c.args.sources c.args.profiles c.in_ok-source.source c.requires.few (agreed c.args.profiles c.requires.agree) c.requires.some c.requires.bases
    (subst (λ list. IsOneOf list c.in_ok-source.source) c.in_ok-sources.ensures.front c.in_ok-source.ensures.one))
