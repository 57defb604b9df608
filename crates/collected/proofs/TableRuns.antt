-- How tables came out, told row by row.
use Rattle.std.proofs.Common.{◌≡◌, ◌⊎◌, ℕ, ◌+◌, ◌<◌, ◌≤◌, false, List, [], ◌∷◌, inl, inr, length, take, drop, Option, Some, None, subst, ⊎_elim, arith}
use Rattle.std.proofs.lemmas.List.{length-drop, length-take}
use Rattle.chunk_core.specs.declared.code.Code.{Code}
use Rattle.device_port.specs.Device.{Place, DeviceTold}
use Rattle.outer_tables.specs.declared.not_read.NotRead.{NotRead}
use Rattle.outer_tables.specs.declared.not_read.NotRead.TheVariants as why
use Rattle.run_rules.specs.Homes.{is_tried}
use Rattle.run_rules.specs.Opening.{AreTablesFailed, AreTablesLeft, AreTablesRead, AreUntried, ArePartsRead, IsTableFailed, IsTableRead}
use Rattle.run_rules.specs.Work.{Opener, Part, RunRecord}

same_or_more : (r q : ℕ) → r ≤ q → (q ≡ r) ⊎ (r + 1 ≤ q)
same_or_more r q l = grind arith

-- m is where one of these parts begins, or behind them all
abbrev pub IsSeam : ℕ → ℕ → List Part → Type 0
IsSeam m r [] = Unit {0}
IsSeam m r (q ∷ qs) = (m ≤ r) ⊎ ((r + q.tables ≤ m) × IsSeam m (r + q.tables) qs)

module _ (w : ℕ → DeviceTold) where
  -- nothing failed there
  abbrev pub IsCalm : ℕ → Type 0
  IsCalm i = ((w i).open_faults ≡ 0) × ((w i).read_faults ≡ 0)

  -- nothing was tried there
  abbrev pub IsBare : ℕ → Type 0
  IsBare i = (is_tried (w i) ≡ false) × IsCalm i

module _ (o : Opener) (c : RunRecord) (w : ℕ → DeviceTold) where
  -- How the tables from the row r on came out: those of the contents were read, and the one behind them wasn't, where that is told. Nothing was tried behind it.
  pub record CameOut (r : ℕ) (paths bss : List (List ℕ)) (lack : Option NotRead) : Type 0 where
    pub few : length bss ≤ length paths
    pub whole : lack ≡ None → length bss ≡ length paths
    pub read : (i : ℕ) → i < length bss → IsTableRead o c (r + i) (w (r + i))
    pub failed : (f : Code) → lack ≡ Some (why.Fault f) → (length bss < length paths) × IsTableFailed o c (w (r + length bss)) f
    pub calm : lack ≡ Some why.Memory → length bss < length paths → IsCalm w (r + length bss)
    pub idle : (j : ℕ) → r + length bss < j → j < r + length paths → IsBare w j

  abbrev IsRead : ℕ → Type 0
  IsRead i = IsTableRead o c i (w i)

  abbrev IsIdle : ℕ → Type 0
  IsIdle i = is_tried (w i) ≡ false

  pub each_read : (r : ℕ) (ps : List Place) → ((i : ℕ) → r ≤ i → i < r + length ps → IsRead i) → AreTablesRead o c w r ps
  each_read r [] h = tt
  each_read r (p ∷ ps) h = (h r (omega arith) (omega arith), each_read (r + 1) ps (λ i l m. h i (omega (arith, l)) (omega (arith, m))))

  pub each_idle : (r : ℕ) (ps : List Place) → ((i : ℕ) → r ≤ i → i < r + length ps → IsIdle i) → AreUntried w r ps
  each_idle r [] h = tt
  each_idle r (p ∷ ps) h = (h r (omega arith) (omega arith), each_idle (r + 1) ps (λ i l m. h i (omega (arith, l)) (omega (arith, m))))

  -- the table of row q failed
  pub failed_at : (f : Code) (q r : ℕ) (ps : List Place) → r ≤ q → q < r + length ps → ((i : ℕ) → r ≤ i → i < q → IsRead i) → IsTableFailed o c (w q) f → ((i : ℕ) → q < i → i < r + length ps → IsIdle i) → AreTablesFailed o c w r ps f
  failed_at f q r [] low high read failed idle = absurd (omega (arith, low, high))
  failed_at f q r (p ∷ ps) low high read failed idle =
      ⊎_elim
      (λ e. inl (subst (λ k. IsTableFailed o c (w k) f) e failed, each_idle (r + 1) ps (λ i l m. idle i (omega (arith, e, l)) (omega (arith, m)))))
      (λ l. inr (read r (omega arith) (omega (arith, l)), failed_at f q (r + 1) ps l (omega (arith, high)) (λ i k m. read i (omega (arith, k)) m) failed (λ i k m. idle i k (omega (arith, m)))))
      (same_or_more r q low)

  -- the tables before row q were read, and nothing was tried behind it
  pub left_at : (q r : ℕ) (ps : List Place) → r ≤ q → ((i : ℕ) → r ≤ i → i < q → i < r + length ps → IsRead i) → ((i : ℕ) → q ≤ i → i < r + length ps → IsCalm w i) → ((i : ℕ) → q < i → i < r + length ps → IsIdle i) → AreTablesLeft o c w r ps
  left_at q r [] low read calm idle = tt
  left_at q r (p ∷ ps) low read calm idle =
      ⊎_elim
      (λ e. let u = calm r (omega (arith, e)) (omega arith) in inl (u.0, u.1, each_idle (r + 1) ps (λ i l m. idle i (omega (arith, e, l)) (omega (arith, m)))))
      (λ l. inr (read r (omega arith) (omega (arith, l)) (omega arith), left_at q (r + 1) ps l (λ i k m n. read i (omega (arith, k)) m (omega (arith, n))) (λ i k m. calm i k (omega (arith, m))) (λ i k m. idle i k (omega (arith, m)))))
      (same_or_more r q low)

  -- the tables before row m were read, where a part begins, and nothing was tried from there on
  pub parts_at : (m r : ℕ) (ts : List Place) (qs : List Part) → IsSeam m r qs → ((i : ℕ) → r ≤ i → i < m → i < r + length ts → IsRead i) → ((i : ℕ) → m ≤ i → i < r + length ts → IsIdle i) → ArePartsRead o c w r ts qs
  parts_at m r ts [] seam read idle = tt
  parts_at m r ts (q ∷ qs) seam read idle =
      ⊎_elim
      (λ l. inl (each_idle r ts (λ i k n. idle i (omega (arith, l, k)) n)))
      (λ s.
      let taken = length-take q.tables ts in
      let behind = length-drop q.tables ts in
      let few = s.0 in
      inr (
        each_read r (take q.tables ts) (λ i k n. read i k (omega (arith, n, taken, few)) (omega (arith, n, taken))),
        parts_at m (r + q.tables) (drop q.tables ts) qs s.1 (λ i k l n. read i (omega (arith, k)) l (omega (arith, k, n, behind))) (λ i k n. idle i k (omega (arith, n, behind, few, k))),
      ))
      seam
