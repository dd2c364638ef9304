use Rattle.std.proofs.Common.{refl, subst}
use Rattle.pp_count.specs.Counted.{report_samples}
use Rattle.pp_count.specs.EdgeSums.{AreEdgesOf}
use Rattle.pp_count.proofs.recounting.recount.Goals as goal

-- both ends of an edge are kept, so all are marked
pub returns-clause-edges : goal.returns-clause-edges
returns-clause-edges g c = λ f holds.
    subst (λ keep. AreEdgesOf c.args.survey.now.l.now.profile (report_samples c.args.survey.now.l.now.profile f c.args.survey.now.config.now c.args.survey.now.column) c.args.survey.now.counted.now.sums.names keep c.in_ok-edges.edges)
    c.as_slice-keep.ensures (c.in_ok-edges.ensures.all f holds refl)
