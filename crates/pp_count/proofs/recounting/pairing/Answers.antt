use Rattle.std.proofs.Common.{◌<◌, All, length, get_or, map, sym, ap, ◌∙◌, subst, arith}
use Rattle.pp_count.specs.Edges.{AreOnce, ArePairPlaces}
use Rattle.pp_count.proofs.Edged.{keys_below}
use Rattle.pp_count.proofs.recounting.pairing.Goals as goal

pub places-requires-clause-below : goal.places-requires-clause-below
places-requires-clause-below c =
    subst (λ ks. All (λ k. k < c.len-count.result) ks)
    (sym (c.as_slice-keys.ensures ∙ c.in_ok-list.ensures ∙ ap (λ ns. map (λ n. get_or ns n 0) c.args.kept.now) c.as_slice-numbers.ensures))
    (λ i d here. omega (
      arith,
      keys_below c.args.counted.now.numbers c.args.kept.now (length c.args.counted.now.table.names) c.requires.below c.requires.names i d here,
      c.len-count.ensures.len,
    ))

pub places-requires-clause-once : goal.places-requires-clause-once
places-requires-clause-once c =
    subst AreOnce (sym (c.as_slice-keys.ensures ∙ c.in_ok-list.ensures ∙ ap (λ ns. map (λ n. get_or ns n 0) c.args.kept.now) c.as_slice-numbers.ensures)) c.requires.once

pub returns-clause-places : goal.returns-clause-places
returns-clause-places c =
    subst (λ ks. ArePairPlaces ks c.in_ok-place.place) (c.as_slice-keys.ensures ∙ c.in_ok-list.ensures ∙ ap (λ ns. map (λ n. get_or ns n 0) c.args.kept.now) c.as_slice-numbers.ensures)
    c.in_ok-place.ensures
