-- What each step adds to the loads of a stream.
use Rattle.std.proofs.Common.{◌≡◌, ℕ, false, List, [], ◌∷◌, ◌++◌, sym, ap, ◌∙◌, append_assoc, append-nil}
use Rattle.std.proofs.lemmas.Grind.{flat_map-append}
use Rattle.chunk_core.specs.declared.code.How.{How}
use Rattle.join_tale.specs.Bounds.{Bounds}
use Rattle.join_tale.specs.Keeping.{IsTale}
use Rattle.join_tale.specs.Laws.{GainsLoad, KeepsLoads, LoadsAreReceived}
use Rattle.join_tale.specs.Steps.{dropped, ended, ended_late, failed, lacked, written}
use Rattle.join_tale.specs.Tales.{Message, Tale, load_of, loads_in, loads_of}
use Rattle.join_tale.proofs.Parts.{loads_end}

abbrev Loads : Type 0
Loads = List (List ℕ)

-- the loads of one message more
loads_one : (j : ℕ) (ms : List Message) (m : Message) → loads_of j (ms ++ m ∷ []) ≡ loads_of j ms ++ loads_in j m
loads_one j ms m = flat_map-append (loads_in j) ms (m ∷ []) ∙ ap (λ (l : Loads). loads_of j ms ++ l) (append-nil (loads_in j m))

-- where the second list is empty
beside_none : (a b c : Loads) → b ≡ [] → (a ++ b) ++ c ≡ a ++ c
beside_none a b c e = ap (λ (l : Loads). (a ++ l) ++ c) e ∙ ap (λ (l : Loads). l ++ c) (append-nil a)

module _ (bounds : Bounds) (t : Tale) (k : ℕ) (x : List ℕ) where
  none_late : IsTale bounds t → t.ceased ≡ false → (j : ℕ) → loads_of j t.late ≡ []
  none_late i c j = ap (λ (l : List Message). loads_of j l) (i.frames.quiet c).0

  write_gains : IsTale bounds t → t.ceased ≡ false → GainsLoad t (written t k x) k x
  write_gains i c j =
      let e : loads_of j t.late ≡ [] = none_late i c j in
      ap (λ (l : Loads). l ++ loads_of j t.late) (loads_one j t.front (load_of k x))
      ∙ ap (λ (l : Loads). (loads_of j t.front ++ loads_in j (load_of k x)) ++ l) e
      ∙ append-nil (loads_of j t.front ++ loads_in j (load_of k x))
      ∙ sym (beside_none (loads_of j t.front) (loads_of j t.late) (loads_in j (load_of k x)) e)

  fail_gains : IsTale bounds t → t.ceased ≡ false → GainsLoad t (failed t k x) k x
  fail_gains i c j =
      ap (λ (l : Loads). loads_of j t.front ++ l) (append-nil (loads_in j (load_of k x)))
      ∙ sym (beside_none (loads_of j t.front) (loads_of j t.late) (loads_in j (load_of k x)) (none_late i c j))

  lack_gains : IsTale bounds t → t.ceased ≡ false → GainsLoad t (lacked t k x) k x
  lack_gains i c j =
      ap (λ (l : Loads). loads_of j t.front ++ l) (append-nil (loads_in j (load_of k x)))
      ∙ sym (beside_none (loads_of j t.front) (loads_of j t.late) (loads_in j (load_of k x)) (none_late i c j))

  drop_gains : GainsLoad t (dropped t k x) k x
  drop_gains j =
      ap (λ (l : Loads). loads_of j t.front ++ l) (loads_one j t.late (load_of k x))
      ∙ sym (append_assoc (loads_of j t.front) (loads_of j t.late) (loads_in j (load_of k x)))

end_keeps : (t : Tale) (k : ℕ) (h : How) → KeepsLoads t (ended t k h)
end_keeps t k h j = ap (λ (l : Loads). l ++ loads_of j t.late) (loads_end j k h t.front)

late_end_keeps : (t : Tale) (k : ℕ) (h : How) → KeepsLoads t (ended_late t k h)
late_end_keeps t k h j = ap (λ (l : Loads). loads_of j t.front ++ l) (loads_end j k h t.late)

pub loads_are_received : (bounds : Bounds) → LoadsAreReceived bounds
loads_are_received bounds = record {
  written = λ t k x i c. write_gains bounds t k x i c;
  failed = λ t k x i c. fail_gains bounds t k x i c;
  lacked = λ t k x i c. lack_gains bounds t k x i c;
  dropped = λ t k x. drop_gains bounds t k x;
  ended = end_keeps;
  ended_late = late_end_keeps;
}
