-- A source that is read piece by piece.
use Rattle.std.proofs.Common.{◌≡◌, ◌≢◌, ℕ, ◌+◌, ◌<◌, ◌≤◌, List, [], ◌++◌, length, take, drop, Bool, false, ◌&&◌, nat_eq, nat_lt, Option, None, Some, option_map, Result, Ok, Err, refl, sym, ◌∙◌, ap, subst, arith, length-append}
use Rattle.std.specs.Prelude.{IfSome, IsErrAnd}
use Rattle.std.proofs.lemmas.List.{drop-drop, length-drop, length-take-le, take-append-le}
use Rattle.std.proofs.lemmas.Bool.{eq-eqb, false≢true, le-ltb, lt-ltb, ne_eqb}
use Rattle.std.proofs.Math.Seq.{take-add}
use Rattle.std.proofs.lemmas.List.{take_all}
use Rattle.device_port.specs.Source.{SourceTold, without_front}
use Rattle.source_input.specs.Input.{IsCutShort, IsRead, ReadsSource}
use Rattle.source_input.specs.declared.reading.NotRead.{NotRead}

-- the source gave these bytes so far
pub record IsFront (most : ℕ) (old new : SourceTold) (bytes : List ℕ) : Type 0 where
  pub few : length bytes ≤ most
  pub told : new ≡ record (without_front (length bytes) old) { ended = nat_eq (length bytes) 0 && old.ended }
  pub given : IfSome old.left (λ left. bytes ≡ take (length bytes) left)

left_twice : (m n : ℕ) (w : Option (List ℕ)) → option_map (drop n) (option_map (drop m) w) ≡ option_map (drop (m + n)) w
left_twice m n None = refl
left_twice m n (Some left) = ap (λ x. Some x) (drop-drop n m left)

-- m bytes further, and then n
pub further : (m n : ℕ) (old mid new : SourceTold) (b : Bool) → mid ≡ record (without_front m old) { ended = b } → new ≡ without_front n mid → new ≡ record (without_front (m + n) old) { ended = nat_eq n 0 }
further m n old mid new b e h =
    h ∙ (ap (λ s. without_front n s) e ∙ ap (λ w. let t : SourceTold = record { left = w; ended = nat_eq n 0; faults = old.faults } in t) (left_twice m n old.left))

-- the bytes so far, and behind them the next ones
both : (w : Option (List ℕ)) (bytes piece : List ℕ) → IfSome w (λ left. bytes ≡ take (length bytes) left) → IfSome (option_map (drop (length bytes)) w) (λ left. piece ≡ take (length piece) left)
    → IfSome w (λ left. bytes ++ piece ≡ take (length bytes + length piece) left)
both None bytes piece g h = tt
both (Some left) bytes piece g h = ap (λ x. x ++ piece) g ∙ (ap (λ x. take (length bytes) left ++ x) h ∙ sym (take-add (length bytes) (length piece) left))

next_front : (most : ℕ) (old mid new : SourceTold) (bytes piece : List ℕ) (n : ℕ) → IsFront most old mid bytes → n ≢ 0 → length piece ≡ n → length bytes + n ≤ most → new ≡ without_front n mid → IfSome mid.left (λ left. piece ≡ take n left)
    → IsFront most old new (bytes ++ piece)
next_front most old mid new bytes piece n f some is few told given =
    let size : length bytes + n ≡ length (bytes ++ piece) = omega (arith, is, length-append bytes piece) in
    let here : length bytes + length piece ≡ length (bytes ++ piece) = omega (arith, length-append bytes piece) in
    let on : nat_eq n 0 ≡ (nat_eq (length (bytes ++ piece)) 0 && old.ended) = ne_eqb n 0 some ∙ sym (ap (λ b. b && old.ended) (ne_eqb (length (bytes ++ piece)) 0 (λ e. some (omega (arith, size, e))))) in
    record {
      few = omega (arith, size, few);
      told = further (length bytes) n old mid new _ f.told told ∙ (ap (λ k. record (without_front k old) { ended = nat_eq n 0 }) size ∙ ap (λ b. record (without_front (length (bytes ++ piece)) old) { ended = b }) on);
      given = subst (λ k. IfSome old.left (λ left. bytes ++ piece ≡ take k left)) here
          (both old.left bytes piece f.given (subst (λ w. IfSome w (λ left. piece ≡ take (length piece) left)) (ap (λ (s : SourceTold). s.left) f.told) (subst (λ k. IfSome mid.left (λ left. piece ≡ take k left)) (sym is) given)));
    }

-- a read gave n bytes to the front of a buffer, before more that was there, and these were put behind the bytes so far
pub one_piece_more : (most : ℕ) (old mid new : SourceTold) (bytes buffer more grown : List ℕ) (n : ℕ) → IsFront most old mid bytes → n ≢ 0 → n ≤ length buffer → length bytes + n ≤ most → new ≡ without_front n mid
    → IfSome mid.left (λ left. take n buffer ≡ take n left) → grown ≡ bytes ++ take n (buffer ++ more) → IsFront most old new grown
one_piece_more most old mid new bytes buffer more grown n f some fits few told given is =
    subst (λ xs. IsFront most old new xs) (sym (is ∙ ap (λ xs. bytes ++ xs) (take-append-le n buffer more fits)))
    (next_front most old mid new bytes (take n buffer) n f some (length-take-le n buffer fits) few told given)

-- as many as are read at most
whole_front : (most : ℕ) (w : Option (List ℕ)) (bytes : List ℕ) → length bytes ≡ most → IfSome w (λ left. bytes ≡ take (length bytes) left) → IfSome w (λ left. bytes ≡ take most left)
whole_front most w bytes e g = subst (λ k. IfSome w (λ left. bytes ≡ take k left)) e g

pub read_enough : (most : ℕ) (old new : SourceTold) (bytes : List ℕ) → IsFront most old new bytes → 0 < most → most ≤ length bytes → IsRead most old new bytes
read_enough most old new bytes f some enough =
    let full : length bytes ≡ most = omega (arith, enough, f.few) in
    let on : (nat_eq (length bytes) 0 && old.ended) ≡ nat_lt (length bytes) most = ap (λ b. b && old.ended) (ne_eqb (length bytes) 0 (λ e. omega (arith, some, enough, e))) ∙ sym (le-ltb (length bytes) most enough) in
    record { few = f.few; told = f.told ∙ ap (λ b. record (without_front (length bytes) old) { ended = b }) on; given = whole_front most old.left bytes full f.given }

all_of : (most : ℕ) (w : Option (List ℕ)) (bytes : List ℕ) → length bytes ≤ most → IfSome (option_map (drop (length bytes)) w) (λ left. left ≡ []) → IfSome w (λ left. bytes ≡ take (length bytes) left) → IfSome w (λ left. bytes ≡ take most left)
all_of most None bytes few none g = tt
all_of most (Some left) bytes few none g =
    let short : length left ≤ length bytes = omega (arith, ap (λ x. length x) none, length-drop (length bytes) left) in
    g ∙ (take_all (length bytes) left short ∙ sym (take_all most left (omega (arith, short, few))))

-- the last read gave nothing
pub read_to_end : (most : ℕ) (old mid new : SourceTold) (bytes : List ℕ) (n : ℕ) → n ≡ 0 → length bytes < most → IsFront most old mid bytes → new ≡ without_front n mid → IfSome mid.left (λ left. left ≡ []) → IsRead most old new bytes
read_to_end most old mid new bytes n zero short f told none =
    let on : nat_eq n 0 ≡ nat_lt (length bytes) most = eq-eqb n 0 zero ∙ sym (lt-ltb (length bytes) most short) in
    let size : length bytes + n ≡ length bytes = omega (arith, zero) in
    record {
      few = f.few;
      told = further (length bytes) n old mid new _ f.told told ∙ (ap (λ k. record (without_front k old) { ended = nat_eq n 0 }) size ∙ ap (λ b. record (without_front (length bytes) old) { ended = b }) on);
      given = all_of most old.left bytes f.few (subst (λ w. IfSome w (λ left. left ≡ [])) (ap (λ (s : SourceTold). s.left) f.told) none) f.given;
    }

-- so much was taken, and memory was wanting
pub taken_of : (most : ℕ) (old mid new : SourceTold) (bytes : List ℕ) (n : ℕ) → IsFront most old mid bytes → length bytes + n ≤ most → new ≡ without_front n mid → IsCutShort most false old new
taken_of most old mid new bytes n f few told =
    let there = further (length bytes) n old mid new _ f.told told in
    record { count = length bytes + n; few = few; told = there ∙ ap (λ b. record (without_front (length bytes + n) old) { ended = b }) (sym (ap (λ (s : SourceTold). s.ended) there)); ended = λ h. absurd (false≢true h) }

-- the error that is handed on
pub stopped_by : (most : ℕ) (old new : SourceTold) (r : Result (List ℕ) NotRead) (e : NotRead) → IsErrAnd r (λ d. d ≡ e) → ReadsSource most old new (Err e) → ReadsSource most old new r
stopped_by most old new (Ok bytes) e is h = absurd is
stopped_by most old new (Err d) e is h = subst (λ x. ReadsSource most old new (Err x)) (sym is) h
