-- In which order a stream notes the ends of its rows.
use Rattle.std.specs.Prelude.{◌≡◌, ℕ, Bool, true, false, nat_eq, ◌&&◌, if◌then◌else◌, List, [], ◌∷◌, ◌++◌, reverse, flat_map}
use Rattle.std.specs.List.{list_all as all}
use Rattle.chunk_core.specs.declared.code.Exit.{Exit}
use Rattle.chunk_core.specs.declared.code.Exit.TheVariants.{Succeeded, Errored, Canceled}
use Rattle.res_ledger.specs.declared.event.StreamNo.{StreamNo}
use Rattle.res_ledger.specs.declared.event.What.{What}
use Rattle.res_ledger.specs.declared.event.What.TheVariants.{Cancel, Close, Final}
use Rattle.res_ledger.specs.declared.event.Event.{Event}
use Rattle.res_ledger.specs.Own.{own, leased_of, teardown, leased_rows}
use Rattle.chunk_core.specs.Lists.{has}

-- xs stands in ys in that order, and what is left out may be
pub data Picks (may : ℕ → Type 0) : List ℕ → List ℕ → Type 0 where
  none : Picks may [] []
  pick : {xs ys : List ℕ} (x : ℕ) → Picks may xs ys → Picks may (x ∷ xs) (x ∷ ys)
  pass : {xs ys : List ℕ} (y : ℕ) → may y → Picks may xs ys → Picks may xs (y ∷ ys)

-- the rows of a run of Finals
abbrev pub firsts : List (ℕ × Bool) → List ℕ
firsts [] = []
firsts (f ∷ fs) = f.0 ∷ firsts fs

-- a run of Finals, each with the exit x
abbrev pub finals : Exit → List (ℕ × Bool) → List What
finals x [] = []
finals x (f ∷ fs) = Final f.0 x f.1 ∷ finals x fs

-- neither a Cancel nor a Close nor a Final
abbrev pub is_plain : What → Bool
is_plain (Cancel j x) = false
is_plain (Close s x) = false
is_plain (Final r x ok) = false
is_plain w = true

-- any row
abbrev pub IsAny : ℕ → Type 0
IsAny r = Unit {0}

-- E, standing after A, is made of plain events, of Closes each with a run of Finals in the order of its teardown, and of Cancels each with a run of Finals in the order of what is due there; each Final has the exit of the Close or Cancel that its run follows, and a Close may leave out the rows that may wait
pub data IsInBlocks (may : ℕ → Type 0) (due : ℕ → List ℕ) : List What → List What → Type 0 where
  none : (A : List What) → IsInBlocks may due A []
  plain : (A E : List What) (w : What) → is_plain w ≡ true → IsInBlocks may due (A ++ w ∷ []) E → IsInBlocks may due A (w ∷ E)
  close : (A E : List What) (s : ℕ) (x : Exit) (fs : List (ℕ × Bool)) → Picks may (firsts fs) (teardown A s) → IsInBlocks may due (A ++ Close s x ∷ finals x fs) E → IsInBlocks may due A (Close s x ∷ (finals x fs ++ E))
  cancel : (A E : List What) (j : ℕ) (x : Exit) (fs : List (ℕ × Bool)) → Picks IsAny (firsts fs) (due j) → IsInBlocks may due (A ++ Cancel j x ∷ finals x fs) E → IsInBlocks may due A (Cancel j x ∷ (finals x fs ++ E))

-- what is drawn from each event and the list of those before it, which begins with P
abbrev pub gathered : (List Event → Event → List ℕ) → List Event → List Event → List ℕ
gathered of P [] = []
gathered of P (e ∷ L) = of P e ++ gathered of (P ++ e ∷ []) L

-- the rows that the event covers after P, if it is a Lease for j
abbrev pub covered_for : ℕ → List Event → Event → List ℕ
covered_for j P e = flat_map (λ l. if nat_eq l.0 j then leased_rows (own e.by P) l.1 else []) (leased_of e.what)

-- the rows that the event covers after P, if it is a Lease
abbrev pub covered_at : List Event → Event → List ℕ
covered_at P e = flat_map (λ l. leased_rows (own e.by P) l.1) (leased_of e.what)

-- the rows that the Lease for j covers, in the order of acquisition
abbrev pub covered_by : List Event → ℕ → List ℕ
covered_by L j = gathered (covered_for j) [] L

-- the rows that some Lease covers
abbrev pub covered : List Event → List ℕ
covered L = gathered covered_at [] L

-- what k noted stands in blocks: at a Close rows that a Lease covers may wait, and a Cancel is followed by rows of its Lease, latest acquired first
abbrev pub IsInOrder : List Event → StreamNo → Type 0
IsInOrder L k = IsInBlocks (λ r. has r (covered L) ≡ true) (λ j. reverse (covered_by L j)) [] (own k L)

-- what each stream noted stands in blocks
abbrev pub IsOrdered : List Event → Type 0
IsOrdered L = (k : StreamNo) → IsInOrder L k

-- what is left of ys behind r passes, where all before r may be left out
abbrev pub passes_after : (ℕ → Bool) → ℕ → List ℕ → (List ℕ → Bool) → Bool
passes_after may r [] go = false
passes_after may r (y ∷ ys) go = if nat_eq y r then go ys else (may y && passes_after may r ys go)

-- any row passes
abbrev pub any_row : ℕ → Bool
any_row r = true

abbrev pub same_exit : Exit → Exit → Bool
same_exit Succeeded Succeeded = true
same_exit Errored Errored = true
same_exit Canceled Canceled = true
same_exit x y = false

-- E, standing after A, is in blocks, where Finals of the rows xs with the exit x may come first and those that pass m may be left out
abbrev pub is_in_blocks : (ℕ → Bool) → (ℕ → List ℕ) → List What → Exit → (ℕ → Bool) → List ℕ → List What → Bool
is_in_blocks may due A x m xs [] = all m xs
is_in_blocks may due A x m xs (Cancel j y ∷ E) = all m xs && is_in_blocks may due (A ++ Cancel j y ∷ []) y any_row (due j) E
is_in_blocks may due A x m xs (Close s y ∷ E) = all m xs && is_in_blocks may due (A ++ Close s y ∷ []) y may (teardown A s) E
is_in_blocks may due A x m xs (Final r y ok ∷ E) = same_exit y x && passes_after m r xs (λ ys. is_in_blocks may due (A ++ Final r y ok ∷ []) x m ys E)
is_in_blocks may due A x m xs (w ∷ E) = all m xs && is_in_blocks may due (A ++ w ∷ []) x any_row [] E

-- a test of IsInOrder
abbrev pub is_in_order : List Event → StreamNo → Bool
is_in_order L k = is_in_blocks (λ r. has r (covered L)) (λ j. reverse (covered_by L j)) [] Succeeded any_row [] (own k L)

-- a test of IsOrdered, by the streams that noted something
abbrev pub is_ordered : List Event → Bool
is_ordered L = all (λ e. is_in_order L e.by) L
