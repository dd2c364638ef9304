use Rattle.std.proofs.Common.{◌≡◌, ◌++◌, List, ℕ, length, ap, sym, subst, ◌∙◌, arith, IfOk}
use Rattle.std.specs.List.{flat_map}
use Rattle.pp_units.specs.Words.{shown}
use Rattle.pp_count.specs.Counts.{samples_at}
use Rattle.pp_count.proofs.Based.{chosen_few}
use Rattle.pp_count.proofs.Rising.{rising_below, samples_length}
use Rattle.pp_samples.specs.Traces.{trace_of}
use Rattle.pp_samples.proofs.TraceLemmas.{traced_kept}
use Rattle.pp_samples.proofs.traces.put_samples.Goals as goal

-- the report sees its samples so
pub invariant_of-traces : goal.invariant_of-traces
invariant_of-traces g c = record {
  sound = record { filters = c.filters.ensures; verdicts = c.args.survey.now.can.verdicts; table = c.table.ensures; few_kept = tt; chosen = tt };
  made = c.in_ok-made.ensures;
}

-- each number is that of a sample
pub put_all-written-requires-after_bounds : goal.put_all-written-requires-after_bounds
put_all-written-requires-after_bounds g c = λ _ _.
    let survey = c.args.survey.now in
    let p = survey.l.now.profile in
    let kept : List ℕ = survey.counted.now.kept in
    omega (
      arith,
      ap length c.as_slice-kept.ensures,
      chosen_few p kept survey.can.countable survey.counts.rising,
      samples_length p kept (rising_below 0 (length p.sample) kept survey.counts.rising),
    )

-- the samples with the kept numbers are those that have lines
pub returns : goal.returns
returns g c = λ f holds.
    let survey = c.args.survey.now in
    let p = survey.l.now.profile in
    let unit = shown c.args.unit.now in
    let trace = trace_of p f survey.config.now survey.column unit in
    subst (λ (text : List ℕ). IfOk c.put_all-written.result (λ _. c.put_all-written.new.lines ≡ c.args.lines.now ++ text))
    (ap (λ (kept : List ℕ). flat_map trace (samples_at p kept)) c.as_slice-kept.ensures
    ∙ sym (traced_kept p f survey.config.now survey.column unit survey.counted.now.kept (survey.counts.kept f holds)))
    (c.put_all-written.ensures f holds)
