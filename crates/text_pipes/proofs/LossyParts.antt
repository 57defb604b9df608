-- The lossy reading of bytes in parts.
use Rattle.std.proofs.Common.{◌≡◌, ℕ, ◌≤◌, List, ◌++◌, length, take, drop, ap, ◌∙◌, sym, append_assoc}
use Rattle.std.proofs.lemmas.List.{take-append-drop, take-append-le, drop-append-le}
use Rattle.std.specs.Str.Lossy.{utf8_lossy}
use Rattle.pull_nodes.specs.Utf8.{finished_front, unfinished_rest}
use Rattle.pull_nodes.proofs.LossyCuts.{lossy-finished, lossy-whole}
use Rattle.pull_nodes.proofs.LossyLaws.{unfinished_rest-append}

-- what is finished of the bytes in front may be read alone
lossy-apart : (w more : List ℕ) → utf8_lossy (w ++ more) ≡ utf8_lossy (finished_front w) ++ utf8_lossy (unfinished_rest w ++ more)
lossy-apart w more =
    let z = unfinished_rest w ++ more in
    let f = utf8_lossy (finished_front w) in
    lossy-whole (w ++ more) ∙ (ap (λ t. t ++ utf8_lossy (unfinished_rest (w ++ more))) (lossy-finished w more)
    ∙ (ap (λ t. (f ++ utf8_lossy (finished_front z)) ++ utf8_lossy t) (unfinished_rest-append w more)
    ∙ (append_assoc f (utf8_lossy (finished_front z)) (utf8_lossy (unfinished_rest z)) ∙ ap (λ t. f ++ t) (sym (lossy-whole z)))))

-- cut where the window's unfinished character begins
pub lossy-parts : (bytes window behind part rest : List ℕ) (k n : ℕ) → window ≡ take k bytes → behind ≡ drop k bytes → n ≤ length window → take n window ≡ finished_front window
    → drop n window ≡ unfinished_rest window → part ≡ take n bytes → rest ≡ drop n bytes → utf8_lossy bytes ≡ utf8_lossy part ++ utf8_lossy rest
lossy-parts bytes window behind part rest k n window_is behind_is within front back part_is rest_is =
    let whole : window ++ behind ≡ bytes = ap (λ t. t ++ behind) window_is ∙ (ap (λ t. take k bytes ++ t) behind_is ∙ take-append-drop k bytes) in
    let one : finished_front window ≡ part = sym front ∙ (sym (take-append-le n window behind within) ∙ (ap (take n) whole ∙ sym part_is)) in
    let two : unfinished_rest window ++ behind ≡ rest = ap (λ t. t ++ behind) (sym back) ∙ (sym (drop-append-le n window behind within) ∙ (ap (drop n) whole ∙ sym rest_is)) in
    ap utf8_lossy (sym whole) ∙ (lossy-apart window behind ∙ (ap (λ t. utf8_lossy t ++ utf8_lossy (unfinished_rest window ++ behind)) one ∙ ap (λ t. utf8_lossy part ++ utf8_lossy t) two))
