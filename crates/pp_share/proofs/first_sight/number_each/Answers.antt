use Rattle.std.proofs.Common.{rules}
use Rattle.pp_model.proofs.FirstSightLemmas.{distinct_push, ids_push}
use Rattle.pp_share.proofs.first_sight.number_each.Goals as goal

pub loop-key-preserved : goal.loop-key-preserved
loop-key-preserved g c =
    let laws = g.met.K.Eq.laws in
    let seen = c.loop-key.yielded in
    let table = distinct_push g.K.PartialEq.eq laws.refl seen c.in-Some.key in
    let number = ids_push g.K.PartialEq.eq laws.refl seen c.in-Some.key in
    record {
      seen = search (rules, table);
      given = search (rules, number);
    }
