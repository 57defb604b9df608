-- Writes to a device, one after another.
use Rattle.std.proofs.Common.{◌≡◌, inl, inr, ℕ, ◌+◌, ◌-◌, ◌^◌, ◌<◌, ◌≤◌, List, [], ◌∷◌, ◌++◌, length, take, drop, refl, sym, ◌∙◌, ap, subst, arith, Option, Some, None}
use Rattle.std.proofs.lemmas.List.{length-take, take-take, take_all}
use Rattle.std.proofs.Math.Seq.{take-add}
use Rattle.std.specs.Prelude.{option_map}
use Rattle.device_port.specs.Device.{DeviceTold, with_written}
use Rattle.pull_turns.specs.Around.{Affords, Around, FailsToWrite, IsHeld, SameScopes, TakesPiece, Writes, gist}
use Rattle.pull_turns.proofs.Kept.{keeps_on, keeps_same}
use Rattle.pull_turns.proofs.Written.{more_behind, none_behind}

-- two pieces behind one another are one piece
with_more : (d : DeviceTold) (xs ys : List ℕ) → with_written (with_written d xs) ys ≡ with_written d (xs ++ ys)
with_more d xs ys = ap (λ w. let e : DeviceTold = record d { written = w } in e) (more_behind d.written xs ys)

scopes_then : (a b c : Around) → SameScopes a b → SameScopes b c → SameScopes a c
scopes_then a b c h k = record {
  opened = λ i o. h.opened i (k.opened i o);
  within = λ i j. (λ w. (h.within i j).0 ((k.within i j).0 w), λ w. (k.within i j).1 ((h.within i j).1 w));
  closed = λ i x. (λ w. (h.closed i x).0 ((k.closed i x).0 w), λ w. (k.closed i x).1 ((h.closed i x).1 w));
  holds = λ q i w. k.holds q i (h.holds q i w);
}

affords_then : (a b c : Around) → Affords a b → Affords b c → Affords a c
affords_then a b c h k = record { events = omega (arith, h.events, k.events); scopes = omega (arith, h.scopes, k.scopes); rows = omega (arith, h.rows, k.rows) }

-- nothing was written yet
pub none_written : (a : Around) (p : ℕ) (bytes : List ℕ) → Writes a p (take 0 bytes) 0 a
none_written a p bytes = record {
  told = sym (ap (λ w. let d : DeviceTold = record (a.told p) { written = w; write_faults = (a.told p).write_faults + 0 } in d) (first bytes) ∙ ap (λ n. let d : DeviceTold = record (a.told p) { write_faults = n } in d) (omega arith));
  keeps = keeps_same a (λ q. q ≡ p) (λ c. ⊥);
  scopes = record { opened = λ k o. o; within = λ k c. (λ w. w, λ w. w); closed = λ k x. (λ w. w, λ w. w); holds = λ q k w. w };
  affords = record { events = omega arith; scopes = omega arith; rows = omega arith };
}
  where
    first : (bytes : List ℕ) → option_map (λ w. w ++ take 0 bytes) (a.told p).written ≡ (a.told p).written
    first [] = none_behind (a.told p).written
    first (x ∷ bytes) = none_behind (a.told p).written

module _ (a m b : Around) (p at : ℕ) (bytes : List ℕ) (le : at ≤ length bytes) (h : Writes a p (take at bytes) 0 m) where
  rest : List ℕ
  rest = take (length bytes - at) (drop at bytes)

  told_now : m.told p ≡ with_written (a.told p) (take at bytes)
  told_now = h.told ∙ ap (λ n. let d : DeviceTold = record (with_written (a.told p) (take at bytes)) { write_faults = n } in d) (omega arith)

  -- a piece more
  pub one_more : (n : ℕ) → TakesPiece m p n (take (length bytes - at) (drop at bytes)) b → (at + n ≤ length bytes) × Writes a p (take (at + n) bytes) 0 b
  one_more n k =
      let fits : n ≤ length bytes - at = omega (arith, k.count, length-take (length bytes - at) (drop at bytes)) in
      let piece : take at bytes ++ take n (take (length bytes - at) (drop at bytes)) ≡ take (at + n) bytes =
      ap (λ zs. take at bytes ++ zs) (take-take n (length bytes - at) (drop at bytes) fits) ∙ sym (take-add at n bytes) in (
        omega (arith, fits, le),
        record {
          told = k.told ∙ (ap (λ d. with_written d (take n (take (length bytes - at) (drop at bytes)))) told_now
              ∙ (with_more (a.told p) (take at bytes) (take n (take (length bytes - at) (drop at bytes))) ∙ (ap (with_written (a.told p)) piece
              ∙ ap (λ i. let d : DeviceTold = record (with_written (a.told p) (take (at + n) bytes)) { write_faults = i } in d) (omega arith))));
          keeps = keeps_on a m b (λ q. q ≡ p) (λ c. ⊥) h.keeps k.keeps;
          scopes = scopes_then a m b h.scopes k.scopes;
          affords = affords_then a m b h.affords k.affords;
        },
      )

  -- and then a write failed
  pub then_fails : FailsToWrite m p b → Writes a p (take at bytes) 1 b
  then_fails k = record {
    told = k.told ∙ ap (λ (d : DeviceTold). let e : DeviceTold = record d { write_faults = d.write_faults + 1 } in e) told_now;
    keeps = keeps_on a m b (λ q. q ≡ p) (λ c. ⊥) h.keeps k.keeps;
    scopes = scopes_then a m b h.scopes k.scopes;
    affords = affords_then a m b h.affords k.affords;
  }

  pub held_on : IsHeld a p → IsHeld m p
  held_on i = (i.0, h.scopes.holds p i.0 i.1)

-- all was written
pub all_written : (a b : Around) (p at : ℕ) (bytes : List ℕ) → length bytes ≤ at → Writes a p (take at bytes) 0 b → Writes a p bytes 0 b
all_written a b p at bytes le h = subst (λ xs. Writes a p xs 0 b) (take_all at bytes le) h
