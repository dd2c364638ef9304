use Rattle.std.proofs.Common.{◌≡◌, ◌-◌, length, max, arith}
use Rattle.pp_export.proofs.Lines.{keys_joined}
use Rattle.pp_export.proofs.folded.put_keys.Goals as goal

pub returns-clause-keys : goal.returns-clause-keys
returns-clause-keys c =
    keys_joined c.args.l.now.profile c.args.names.now c.args.keys.now c.loop-key.key-index c.args.out.now c.loop-key.out c.truncate.new.self c.max-end.result
    c.loop-key-test.false c.loop-key.invariant.out_is
    (let end : c.max-end.result ≡ max (length c.loop-key.out - 1) (length c.args.out.now)
    = omega (arith, c.max-end.ensures, c.saturating_sub.ensures, c.len.ensures, c.len-start.ensures) in end)
    c.truncate.ensures
