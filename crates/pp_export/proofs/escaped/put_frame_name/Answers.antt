use Rattle.std.proofs.Common.{◌≡◌, ℕ, ◌+◌, ◌-◌, List, [], ◌++◌, drop, length, map, take, ap, ◌∙◌, arith}
use Rattle.std.proofs.lemmas.List.{append-nil, drop_all, length-append, length-drop, length-map, take_all}
use Rattle.std.proofs.Math.Seq.{drop-append_seam, take-append_seam}
use Rattle.pp_export.specs.Escaped.{frame_byte}
use Rattle.pp_export.proofs.escaped.put_frame_name.Goals as goal

-- a text whose last bytes are written over
written_over : (old name before items new : List ℕ) (start len : ℕ) → start ≡ length old → items ≡ old ++ name → before ≡ items → len ≡ length items
    → new ≡ map frame_byte (take (length before - start) (drop start before))
    → take len ((take start before ++ (new ++ drop (length before - start) (drop start before)))
    ++ drop (length (take start before ++ (new ++ drop (length before - start) (drop start before)))) items)
    ≡ old ++ map frame_byte name
written_over old name before items new start len start_is items_are same len_is is =
    let whole : List ℕ = old ++ map frame_byte name in
    let before_is : before ≡ old ++ name = same ∙ items_are in
    let long : length before ≡ length old + length name = ap length before_is ∙ length-append old name in
    let front : take start before ≡ old = (λ i. take (start_is i) (before_is i)) ∙ take-append_seam old name in
    let rest : drop start before ≡ name = (λ i. drop (start_is i) (before_is i)) ∙ drop-append_seam old name in
    let part : take (length before - start) (drop start before) ≡ name = ap (take (length before - start)) rest ∙ take_all (length before - start) name (omega (arith, long, start_is)) in
    let tail : drop (length before - start) (drop start before) ≡ [] = drop_all (length before - start) (drop start before) (omega (arith, length-drop start before)) in
    let inner : take start before ++ (new ++ drop (length before - start) (drop start before)) ≡ whole =
    (λ i. front i ++ ((is ∙ ap (map frame_byte) part) i ++ tail i)) ∙ ap (λ r. old ++ r) (append-nil (map frame_byte name)) in
    let count : length whole ≡ len = omega (arith, length-append old (map frame_byte name), length-map name frame_byte, len_is, ap length items_are, length-append old name) in
    ap (λ r. take len (r ++ drop (length r) items)) inner
    ∙ ap (λ r. take len (whole ++ r)) (drop_all (length whole) items (omega (arith, count, len_is)))
    ∙ ap (take len) (append-nil whole) ∙ take_all len whole (omega (arith, count))

pub returns : goal.returns
returns c =
    written_over c.args.text.now.items c.args.name.now c.deref_mut.result.now c.extend_from_slice.new.self.items c.write_frame_bytes.new.name c.len-start.result c.extend_from_slice.new.self.len
    (c.len-start.ensures ∙ c.args.text.now.ok.0) c.in_ok-extend_from_slice.ensures.items c.deref_mut.ensures.value c.extend_from_slice.new.self.ok.0 c.write_frame_bytes.ensures
