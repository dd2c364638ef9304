use Rattle.std.proofs.Common.{◌≡◌, suc, ◌+◌, ◌-◌, ◌<◌, ◌++◌, take, ap, sym, ◌∙◌, length, arith}
use Rattle.std.proofs.lemmas.List.{take_more_set}
use Rattle.pp_wire.proofs.Shortest.{last_group, next_group, all_groups, smaller, written_more}
use Rattle.pp_wire.proofs.varint.varint_into.Goals as goal

pub returns-then-rest-lt128-clause-bytes : goal.returns-then-rest-lt128-clause-bytes
returns-then-rest-lt128-clause-bytes c =
    let room : c.loop-len.len < length c.loop-len.buffer = omega arith in
    take_more_set c.loop-len.buffer c.loop-len.len c.loop-len.rest room
    ∙ ap (λ g. take c.loop-len.len c.loop-len.buffer ++ g) (sym (last_group (9 - c.loop-len.len) c.loop-len.rest c.if-rest-lt128.true)) ∙ c.loop-len.invariant.written

pub loop-len-preserved : goal.loop-len-preserved
loop-len-preserved c =
    let room : c.loop-len.len < length c.loop-len.buffer = omega arith in
    let less : 9 - c.loop-len.len ≡ suc (9 - (c.loop-len.len + 1)) = omega arith in
    let one = next_group (9 - c.loop-len.len) (9 - (c.loop-len.len + 1)) c.loop-len.rest less c.if-rest-lt128.false in
    record {
      written = written_more c.loop-len.buffer _ _ c.loop-len.len _ room (sym (ap (λ g. take c.loop-len.len c.loop-len.buffer ++ g) one) ∙ c.loop-len.invariant.written);
      small = smaller c.loop-len.len c.loop-len.rest c.loop-len-test.true c.loop-len.invariant.small;
    }

pub returns-clause-bytes : goal.returns-clause-bytes
returns-clause-bytes c =
    let nine : c.loop-len.len ≡ 9 = omega arith in
    let room : 9 < length c.loop-len.buffer = omega arith in
    let so_far = rw nine at c.loop-len.invariant.written in
    take_more_set c.loop-len.buffer 9 c.loop-len.rest room
    ∙ ap (λ g. take 9 c.loop-len.buffer ++ g) (sym (all_groups c.loop-len.rest)) ∙ so_far
