use Rattle.std.proofs.Common.{◌<◌, arith, drop, length, sym, ap, subst, take, ◌∙◌}
use Rattle.pp_samples.specs.declared.frame_lines.LinePlace.{LinePlace}
use Rattle.pp_samples.specs.FrameLines.{bare_line, StandsAt}
use Rattle.pp_samples.specs.Tracing.{trace_profile}
use Rattle.pp_samples.proofs.trace.made_line.Goals as goal

-- the bytes at the place are the line
pub returns : goal.returns
returns c =
    let t = c.args.t.now in
    let place = c.in-Some.place.now in
    let found = rw c.deref.ensures.value at c.in-Some.ensures.lookup in
    let line = bare_line (trace_profile t) t.scope.table.now.names c.args.number in
    let here : c.args.number < length t.lines.now.places.items = grind (arith, c.in-Some.ensures.lookup.0, c.deref.ensures.value) in
    let stands : StandsAt t.lines.now.text place line = subst (λ (q : LinePlace). StandsAt t.lines.now.text q line) (sym found.1) (t.made.each c.args.number place here) in
    c.split_at-2.ensures.front ∙ ap (take place.len) (c.split_at.ensures.back ∙ ap (drop place.start) c.as_slice.ensures) ∙ stands.are
