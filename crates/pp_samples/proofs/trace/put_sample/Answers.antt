use Rattle.pp_count.specs.Scope.{config_of}
use Rattle.std.proofs.Common.{◌≡◌, ◌++◌, ℕ, Bool, true, false, List, map, ap, sym, subst, ◌∙◌, IfOk}
use Rattle.std.proofs.lemmas.List.{append-nil}
use Rattle.pp_stack.specs.Runs.{kept_if}
use Rattle.pp_units.specs.Shown.{shown}
use Rattle.pp_samples.specs.Traces.{trace_text}
use Rattle.pp_samples.specs.Tracing.{trace_profile, trace_key}
use Rattle.pp_samples.proofs.TraceLemmas.{trace_seen}
use Rattle.pp_samples.proofs.trace.put_sample.Goals as goal

-- the filters drop the sample
pub returns-then-not-branch : goal.returns-then-not-branch
returns-then-not-branch c f finds =
    let t = c.args.t.now in
    let keys = map (trace_key t) c.see.new.keys.items in
    let seen = c.in_ok-see.ensures.seen f finds ∙ ap (λ (kept : Bool). kept_if kept keys) c.if-not-branch.true in
    sym (append-nil c.args.lines.now)
    ∙ ap (λ (text : List ℕ). c.args.lines.now ++ text)
    (sym (trace_seen (trace_profile t) f (config_of t.scope) t.scope.column (shown t.unit.now) c.args.s.now false keys seen))

-- the room holds the lines of the sample's labels, its value and its keys
pub returns : goal.returns
returns c f finds =
    let t = c.args.t.now in
    let keys = map (trace_key t) c.see.new.keys.items in
    let seen = c.in_ok-see.ensures.seen f finds ∙ ap (λ (kept : Bool). kept_if kept keys) c.if-not-branch.false in
    subst (λ (text : List ℕ). IfOk c.put_room.result (λ _. c.put_room.new.lines ≡ c.args.lines.now ++ text))
    ((λ i. trace_text (c.in_ok-write_labels.ensures f finds.found i) (c.in_ok-write_own_value.ensures i) keys)
    ∙ sym (trace_seen (trace_profile t) f (config_of t.scope) t.scope.column (shown t.unit.now) c.args.s.now true keys seen))
    c.put_room.ensures
