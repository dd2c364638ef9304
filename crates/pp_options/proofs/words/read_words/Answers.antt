use Rattle.std.proofs.Common.{refl}
use Rattle.pp_options.specs.Words.{entries}
use Rattle.pp_options.proofs.ReadingLemmas.{reading_start, refused_reads}
use Rattle.pp_options.proofs.words.read_words.Goals as goal

-- a word has a fault
pub returns-in-Err : goal.returns-in-Err
returns-in-Err c =
    let ws = c.args.words.now in
    refused_reads (Unit {0}) ws c.take_words.new.self _ _ (c.in-Err.ensures (entries 1 ws) (reading_start _ _ c.in_ok-draft.ensures)) refl
