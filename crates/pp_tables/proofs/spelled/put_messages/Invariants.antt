use Rattle.std.proofs.Common.{◌≡◌, ◌++◌, take}
use Rattle.std.specs.List.{AllByRecursion}
use Rattle.pp_tables.specs.Encode.{message_fields}
use Rattle.pp_tables.proofs.spelled.put_messages.Given as goal

-- the fields of the messages so far, whose numbers were read
abbrev pub invariant-loop-message : goal.invariant-loop-message
invariant-loop-message g l = record {
  written : l.out ≡ l.fn.out ++ message_fields g.M.Spelled.bytes l.number (take l.message-index l.list);
  numbers : AllByRecursion g.M.Spelled.fits (take l.message-index l.list);
}
