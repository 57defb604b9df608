-- A device that is read piece by piece.
use Rattle.std.proofs.Common.{◌≡◌, ℕ, ◌+◌, ◌≤◌, Bool, List, ◌++◌, length, take, drop, Option, None, Some, sym, ◌∙◌, ap, subst, arith, length-append, nat_eq}
use Rattle.std.specs.Prelude.{IfSome}
use Rattle.std.proofs.lemmas.List.{drop-drop, length-take-le, take-append-le}
use Rattle.std.proofs.Math.Seq.{take-add}
use Rattle.device_port.specs.Device.{DeviceTold, moved}
use Rattle.outer_tables.specs.Whole.{Gives, WasRead, most_read}

-- the device at another place
abbrev placed : DeviceTold → ℕ → Bool → DeviceTold
placed d a e = record d { at = a; ended = e }

-- the bytes so far, and behind them the next ones
both : (content : Option (List ℕ)) (at : ℕ) (bytes piece : List ℕ) → IfSome content (λ c. bytes ≡ take (length bytes) (drop at c)) → IfSome content (λ c. piece ≡ take (length piece) (drop (at + length bytes) c))
    → IfSome content (λ c. bytes ++ piece ≡ take (length bytes + length piece) (drop at c))
both None at bytes piece g h = tt
both (Some c) at bytes piece g h =
    ap (λ x. x ++ piece) g ∙ (ap (λ x. take (length bytes) (drop at c) ++ x) (h ∙ ap (take (length piece)) (sym (drop-drop (length bytes) at c))) ∙ sym (take-add (length bytes) (length piece) (drop at c)))

-- some way on, and n bytes more
further : (old mid new : DeviceTold) (m n : ℕ) → mid ≡ placed old (old.at + m) mid.ended → new ≡ moved n mid → new ≡ placed old (old.at + (m + n)) new.ended
further old mid new m n e h =
    h ∙ (ap (moved n) e ∙ ap (λ a. placed old a (nat_eq n 0)) (let a : old.at + m + n ≡ old.at + (m + n) = omega arith in a)) ∙ ap (λ b. placed old (old.at + (m + n)) b) (sym (ap (λ (d : DeviceTold). d.ended) h))

next_gives : (old mid new : DeviceTold) (bytes piece : List ℕ) (n : ℕ) → Gives old mid bytes → length piece ≡ n → length bytes + n ≤ most_read → new ≡ moved n mid → IfSome mid.content (λ c. piece ≡ take n (drop mid.at c))
    → Gives old new (bytes ++ piece)
next_gives old mid new bytes piece n f is few told given =
    let size : length bytes + n ≡ length (bytes ++ piece) = omega (arith, is, length-append bytes piece) in
    let here : length bytes + length piece ≡ length (bytes ++ piece) = omega (arith, length-append bytes piece) in
    record {
      few = omega (arith, size, few);
      told = further old mid new (length bytes) n f.told told ∙ ap (λ k. placed old (old.at + k) new.ended) size;
      given = subst (λ k. IfSome old.content (λ c. bytes ++ piece ≡ take k (drop old.at c))) here
          (both old.content old.at bytes piece f.given (subst (λ (d : DeviceTold). IfSome d.content (λ c. piece ≡ take (length piece) (drop d.at c))) f.told (subst (λ k. IfSome mid.content (λ c. piece ≡ take k (drop mid.at c))) (sym is) given)));
    }

-- a read gave n bytes to the front of a buffer, before more that was there, and these were put behind the bytes so far
pub one_piece_more : (old mid new : DeviceTold) (bytes buffer more grown : List ℕ) (n : ℕ) → Gives old mid bytes → n ≤ length buffer → length bytes + n ≤ most_read → new ≡ moved n mid
    → IfSome mid.content (λ c. take n buffer ≡ take n (drop mid.at c)) → grown ≡ bytes ++ take n (buffer ++ more) → Gives old new grown
one_piece_more old mid new bytes buffer more grown n f fits few told given is =
    subst (λ xs. Gives old new xs) (sym (is ∙ ap (λ xs. bytes ++ xs) (take-append-le n buffer more fits)))
    (next_gives old mid new bytes (take n buffer) n f (length-take-le n buffer fits) few told given)

-- so many bytes were given, and no read failed
pub gives_some : (old new : DeviceTold) (bytes : List ℕ) → Gives old new bytes → WasRead 0 old new
gives_some old new bytes f =
    f.told ∙ ap (λ a. placed old a new.ended) (sym (ap (λ (d : DeviceTold). d.at) f.told)) ∙ ap (λ k. let d : DeviceTold = record old { at = new.at; ended = new.ended; read_faults = k } in d) (let z : old.read_faults ≡ old.read_faults + 0 = omega arith in z)
