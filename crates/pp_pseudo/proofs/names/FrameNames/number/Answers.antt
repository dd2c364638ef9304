use Rattle.std.proofs.Common.{ap, sym, ◌∙◌}
use Rattle.std.proofs.lemmas.Bool.{false≢true}
use Rattle.std.specs.Option.{is_some}
use Rattle.pp_pseudo.proofs.NamesLemmas.{known, met, added}
use Rattle.pp_pseudo.proofs.names.FrameNames.number.Goals as goal

-- the name was met before
pub returns-in-Some-clause-numbered : goal.returns-in-Some-clause-numbered
returns-in-Some-clause-numbered c =
    known c.self.inside.seen.keys c.args.self.now c.args.name.now c.in-Some.n c.self.view_is (sym c.get_index_of.ensures.index ∙ c.in-Some.is)

-- it is new
pub returns-clause-numbered : goal.returns-clause-numbered
returns-clause-numbered c =
    added c.self.inside.seen.keys c.insert.new.self.keys c.args.self.now c.into_vec-key.result c.args.name.now c.len-next.result c.self.view_is
    c.in_ok-insert.ensures.keys (c.into_vec-key.ensures ∙ c.in_ok-from_slice.ensures) (sym (ap is_some c.in_default.is) ∙ c.get_index_of.ensures.found) c.len-next.ensures.len

-- a name that was met takes no memory
pub returns-in_err-from_slice-clause-known : goal.returns-in_err-from_slice-clause-known
returns-in_err-from_slice-clause-known c has =
    absurd (false≢true (met c.self.inside.seen.keys c.args.self.now c.args.name.now c.self.view_is (sym (ap is_some c.in_default.is) ∙ c.get_index_of.ensures.found) has))

pub returns-in_err-insert-clause-known : goal.returns-in_err-insert-clause-known
returns-in_err-insert-clause-known c has =
    absurd (false≢true (met c.self.inside.seen.keys c.args.self.now c.args.name.now c.self.view_is (sym (ap is_some c.in_default.is) ∙ c.get_index_of.ensures.found) has))
