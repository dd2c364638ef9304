use Rattle.std.proofs.Common.{rules, w64, FitsSigned, of_z, ap}
use Rattle.std.proofs.lemmas.Int.{to_z-of_z}
use Rattle.pp_grain.specs.Naming.{place_text}
use Rattle.pp_grain.specs.Told.{written_texts}
use Rattle.pp_grain.proofs.NamingLemmas.{joined, begun, placed}
use Rattle.pp_grain.proofs.naming.put_place.Goals as goal

pub returns-clause-ok : goal.returns-clause-ok
returns-clause-ok c =
    let key = c.args.key.now in
    let line_fits : FitsSigned w64 key.line = search rules in
    let column_fits : FitsSigned w64 key.column = search rules in
    joined c.put_after_colon-2.result c.args.out.now _ _ _ key.file.now _ _ (place_text (written_texts key)) c.in_ok-extend.ensures.ok
    c.in_ok-put_after_colon.ensures.ok c.put_after_colon-2.ensures.ok
    (placed (written_texts key) _ _ (to_z-of_z w64 _ line_fits) (to_z-of_z w64 _ column_fits) (λ is. c.if-key-eq0.false (ap (of_z w64) is)))

pub returns-clause-err : goal.returns-clause-err
returns-clause-err c =
    begun c.put_after_colon-2.result c.args.out.now _ _ _ _ _ c.in_ok-extend.ensures.ok c.in_ok-put_after_colon.ensures.ok
    c.put_after_colon-2.ensures.err
