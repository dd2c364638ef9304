use Rattle.std.proofs.Common.{◌*◌, refl, subst, sym, arith}
use Rattle.std.proofs.lemmas.Result.{IfOk-weaker}
use Rattle.pp_model.specs.Rules.{IsCompact}
use Rattle.pp_steal.specs.declared.piece.TheConstants.{PIECE}
use Rattle.pp_steal.specs.Pieces.{piece_of}
use Rattle.pp_count.specs.Scope.{IsSoundScope, AreCountable, IsPartOf, samples_in_scope}
use Rattle.pp_count.proofs.Joined.{range_part}
use Rattle.pp_count.proofs.Kept.{values_fit}
use Rattle.pp_count.proofs.parts.count_piece.Goals as goal

pub count_piece_of-part-requires-clause-sound : goal.count_piece_of-part-requires-clause-sound
count_piece_of-part-requires-clause-sound c = subst IsSoundScope (sym c.whole-scope.ensures)
    (record { filters = c.in_ok-filters.ensures; verdicts = c.requires.can.verdicts; table = c.requires.table; few_kept = tt; chosen = tt })

pub count_piece_of-part-requires-clause-countable : goal.count_piece_of-part-requires-clause-countable
count_piece_of-part-requires-clause-countable c = subst (λ scope. AreCountable scope (samples_in_scope scope)) (sym c.whole-scope.ensures)
    (record {
      fits = values_fit c.args.l.now.profile c.args.column c.args.config.now.presentation.divide_by c.requires.can.countable c.requires.can.column;
      few = c.requires.can.countable.samples;
    })

pub returns : goal.returns
returns c = IfOk-weaker c.count_piece_of-part.result _ _ (λ part is.
    range_part _ (c.args.piece * PIECE) (PIECE * c.args.piece) _ part refl refl (subst IsCompact c.get-compact.ensures.same c.get-compact.ensures.compact) c.requires.table (omega arith)
    (subst (λ scope. IsPartOf scope (c.args.piece * PIECE) (piece_of (samples_in_scope scope) c.args.piece) part) c.whole-scope.ensures is)) c.count_piece_of-part.ensures
