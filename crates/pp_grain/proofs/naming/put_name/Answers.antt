use Rattle.std.proofs.Common.{codes, ◌++◌, ap, ◌∙◌}
use Rattle.std.specs.List.{join_with_byte}
use Rattle.pp_grain.specs.Naming.{code_words, hex16, name_text}
use Rattle.pp_grain.specs.Told.{written_texts}
use Rattle.pp_grain.proofs.NamingLemmas.{joined, begun, after_address}
use Rattle.pp_grain.proofs.naming.put_name.Goals as goal

pub returns-clause-ok : goal.returns-clause-ok
returns-clause-ok c =
    let key = written_texts c.args.key.now in
    joined c.put_code-2.result c.args.out.now _ _ _ (hex16 key.address) (codes " ") (join_with_byte 32 (code_words key)) (name_text key)
    (c.in_ok-extend.ensures.ok ∙ ap (λ digits. c.args.out.now ++ digits) c.hex16.ensures.digits) c.in_ok-extend-2.ensures.ok c.put_code-2.ensures.ok
    (after_address key c.if-key-eq0.false)

pub returns-clause-err : goal.returns-clause-err
returns-clause-err c =
    begun c.put_code-2.result c.args.out.now _ _ _ _ _ c.in_ok-extend.ensures.ok c.in_ok-extend-2.ensures.ok c.put_code-2.ensures.err
