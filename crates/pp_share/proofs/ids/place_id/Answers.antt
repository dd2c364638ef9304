use Rattle.std.proofs.Common.{◌+◌, sym, ap, ◌∙◌}
use Rattle.std.proofs.lemmas.Bool.{ne_eqb, cond-false}
use Rattle.pp_share.proofs.IdLemmas.{place_missed}
use Rattle.pp_share.proofs.ids.place_id.Goals as goal

-- the id isn't there
pub returns-in-None : goal.returns-in-None
returns-in-None c =
    ap (λ n. n + 1) (c.len-len.ensures.len ∙ sym (place_missed _ c.args.ids.now.keys (sym c.in-None.ensures.index)))
    ∙ sym (cond-false _ _ _ (ne_eqb c.args.id 0 c.if-id-eq0.false))
