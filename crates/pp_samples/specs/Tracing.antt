-- What the samples of a traces report are written by. No public clause cites it.
use Rattle.std.specs.Prelude.{◌≡◌, ℕ, ◌<◌, List, length}
use Rattle.std.specs.List.{flat_map}
use Rattle.pp_model.specs.declared.profile.Sample.{Sample}
use Rattle.pp_model.specs.declared.profile.Profile.{Profile}
use Rattle.pp_model.specs.Finders.{Finders}
use Rattle.pp_model.specs.FrameTexts.{Written}
use Rattle.pp_units.specs.Shown.{shown}
use Rattle.pp_count.specs.Scope.{config_of}
use Rattle.pp_count.specs.Seeing.{HoldsFilters}
use Rattle.pp_count.specs.Table.{written_key}
use Rattle.pp_count.specs.Counts.{samples_at}
use Rattle.pp_samples.specs.declared.subject.Traces.{Traces}
use Rattle.pp_samples.specs.Traces.{trace_of}

-- the profile of the samples
abbrev pub trace_profile : Traces → Profile
trace_profile t = t.scope.l.now.profile

-- what the key of the number stands for
abbrev pub trace_key : Traces → ℕ → Written
trace_key t = written_key (trace_profile t) t.scope.table.now.names

-- it is the number of a key
abbrev pub IsKeyNumber : Traces → ℕ → Type 0
IsKeyNumber t number = number < length t.scope.table.now.names

-- the verdicts are what these patterns find
abbrev pub FindsInTraces : Traces → Finders → Type 0
FindsInTraces t f = HoldsFilters t.scope.l.now t.scope.v.now t.scope.config.now.filtering f

-- the lines of a sample
abbrev pub sample_trace : Traces → Finders → Sample → List ℕ
sample_trace t f s =
    trace_of (trace_profile t) f (config_of t.scope) t.scope.column (shown t.unit.now) s

-- the lines of the samples with these numbers
abbrev pub traces_text_at : Traces → Finders → List ℕ → List ℕ
traces_text_at t f numbers = flat_map (sample_trace t f) (samples_at (trace_profile t) numbers)

-- The text is the lines of the samples with these numbers.
abbrev pub HasTraces : Traces → List ℕ → List ℕ → Type 0
HasTraces t numbers text = (f : Finders) → FindsInTraces t f → text ≡ traces_text_at t f numbers
