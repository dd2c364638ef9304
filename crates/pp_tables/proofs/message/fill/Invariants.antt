use Rattle.std.proofs.Common.{◌≡◌, length}
use Rattle.pp_wire.specs.Fields.{fields}
use Rattle.pp_tables.specs.Message.{walk_fault, fault_in}
use Rattle.pp_tables.proofs.message.fill.Given as goal

-- what the message has and what is left are what all the fields give
abbrev pub invariant-loop-next : goal.invariant-loop-next
invariant-loop-next g l = record {
  value : g.M.Message.filled l.message l.walker.items ≡ g.M.Message.filled l.fn.message (fields l.bytes l.at).items;
  fault : walk_fault g.M.Message.rules l.walker ≡ fault_in g.M.Message.rules l.bytes l.at;
}

abbrev pub decreases-loop-next : goal.decreases-loop-next
decreases-loop-next g l = length l.walker.items
