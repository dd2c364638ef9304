-- The bytes of a buffer between two places.
use Rattle.std.proofs.Common.{◌≡◌, ◌≤◌, ◌+◌, ◌-◌, ◌++◌, ℕ, List, length, take, drop, refl, ap, ◌∙◌, arith, length-take, length-drop}
use Rattle.std.proofs.lemmas.List.{drop-take, drop-drop, take-append-le}
use borrow.Rule.Slice.PartMut.{put_mid, post_of, same_len_mid}
use Rattle.std.proofs.Math.Seq.{take-append-add}

-- as many as the places are apart
pub length_between : (bytes : List ℕ) (start end : ℕ) → start ≤ end → end ≤ length bytes → length (take (end - start) (drop start bytes)) ≡ end - start
length_between bytes start end h l = omega (arith, length-take (end - start) (drop start bytes), length-drop start bytes)

-- without the first of them
pub between_later : (bytes : List ℕ) (start end count : ℕ) → count ≤ end - start → take (end - (start + count)) (drop (start + count) bytes) ≡ drop count (take (end - start) (drop start bytes))
between_later bytes start end count h =
    let e : end - start ≡ count + (end - (start + count)) = omega arith in
    rw (e, drop-take, drop-drop) refl

-- with more behind them, where as many as `most` were lent
pub between_more : (bytes more held : List ℕ) (len most count : ℕ) → take len bytes ≡ held → len ≤ length bytes → count ≤ length more → take (len + count - 0) (drop 0 (put_mid len (len + most - len) bytes more)) ≡ held ++ take count more
between_more bytes more held len most count e l h =
    let n : length (take len bytes) ≡ len = omega (arith, length-take len bytes) in
    let m : len + count - 0 ≡ length (take len bytes) + count = omega arith in
    rw m (take-append-add (take len bytes) (more ++ post_of len (len + most - len) bytes) count ∙ ap (λ l. take len bytes ++ l) (take-append-le count more _ h) ∙ ap (λ l. l ++ take count more) e)

-- all of the buffer is there again
pub length_put : (bytes more : List ℕ) (len most : ℕ) → len + most ≤ length bytes → length more ≡ most → length (put_mid len (len + most - len) bytes more) ≡ length bytes
length_put bytes more len most l e = same_len_mid len (len + most - len) bytes more (omega (arith, length-take {A = ℕ}, length-drop {A = ℕ}))
