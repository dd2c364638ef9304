use Rattle.std.proofs.Common.{◌≡◌, ◌≢◌, ℕ, false, arith, sym, take_all}
use Rattle.std.proofs.lemmas.Bool.Decides.{nat_tests}
use Rattle.std.proofs.lemmas.List.Elements.{All-more, All-same}
use Rattle.pp_base.specs.Words.{is_line_end}
use Rattle.pp_desk.proofs.line_reader.find_end.Goals as goal

no_end : (byte : ℕ) → byte ≢ 10 → is_line_end byte ≡ false
no_end byte other = grind (arith, nat_tests)

-- one byte more is no line end
pub searching-preserved : goal.searching-preserved
searching-preserved c = record {
  inside = omega arith;
  none = All-more (λ byte. is_line_end byte ≡ false) _ _ 0 c.searching-test.true c.searching.invariant.none (no_end _ c.if-bytes-at-eq10.false);
}

-- all were searched
pub returns : goal.returns
returns c = All-same (λ byte. is_line_end byte ≡ false) _ _ (sym (take_all c.searching.at c.args.bytes.now c.searching-test.false)) c.searching.invariant.none
