-- All tables, one after another.
use Rattle.std.proofs.Common.{◌≡◌, ◌⊎◌, ℕ, zero, suc, ◌+◌, ◌-◌, ◌*◌, ◌<◌, ◌≤◌, Bool, List, [], ◌∷◌, ◌++◌, length, map, take, drop, get_or, Option, Some, None, Result, Ok, Err, inl, inr, refl, sym, ◌∙◌, ap, subst, ⊎_elim, arith, append-nil}
use Rattle.std.specs.Prelude.{IsErrAnd}
use Rattle.std.specs.FinMap.{get}
use Rattle.std.proofs.lemmas.List.{length-take-le, take-append-drop, take_all, take_more}
use Rattle.chunk_core.specs.declared.code.Exit.{Exit}
use Rattle.chunk_core.specs.Lists.{IsAmong}
use Rattle.chunk_core.specs.Lists.IsAmong.{here, there}
use Rattle.chunk_core.proofs.Cuts.{append_assoc}
use Rattle.chunk_core.proofs.Each.{among_each}
use Rattle.chunk_core.proofs.Filters.{among_append, among_right}
use Rattle.chunk_core.proofs.Members.{among_nil}
use Rattle.csv_pipes.specs.Dictionaries.{Dictionary, table_value, values_of}
use Rattle.device_port.specs.Device.{DeviceTold}
use Rattle.device_port.specs.Depot.{DepotTold}
use Rattle.join_tree.specs.Mains.{IsMain, IsRoot}
use Rattle.join_tree.specs.Progress.{Progress, reading}
use Rattle.join_tree.specs.Notes.{RowsRise, is_table_note}
use Rattle.join_tree.proofs.Growing.{main_reads}
use Rattle.res_ledger.specs.declared.event.Event.{Event}
use Rattle.res_ledger.specs.declared.event.StreamNo.TheVariants.{Outer}
use Rattle.res_ledger.specs.declared.event.What.TheVariants.{Acquire}
use Rattle.res_ledger.specs.Ledger.{Notes}
use Rattle.res_ledger.specs.Own.{leased_of}
use Rattle.res_ledger.proofs.Mapped.{among_map}
use Rattle.scope_tree.specs.Calls.{IsOpenScope, Seen, used}
use Rattle.scope_tree.specs.Trace.{owed}
use Rattle.tree_laws.specs.Alone.{StaysAlone}
use Rattle.outer_tables.specs.declared.not_read.NotRead.{NotRead}
use Rattle.outer_tables.specs.declared.not_read.NotRead.TheVariants as why
use Rattle.outer_tables.specs.Outcomes.{AreOf, values_in}
use Rattle.outer_tables.specs.Outcomes.ComeOut.{none}
use Rattle.outer_tables.specs.Rows.{AcquiresRows, acquires}
use Rattle.outer_tables.specs.Tables.{ReadsTable, ReadsTables, TriesTables}
use Rattle.outer_tables.proofs.Acquiring.{acquired_between, acquired_one, acquires_none, same_scope}
use Rattle.outer_tables.proofs.Outcomes.{all_opened}
use Rattle.outer_tables.proofs.Trying.{contents_then, tries_more, tries_none, tries_then}

of_more : (ds : List Dictionary) (bss : List (List ℕ)) (d : Dictionary) (bytes : List ℕ) → AreOf ds bss → ((key : List ℕ) → get d key ≡ table_value bytes key) → AreOf (ds ++ d ∷ []) (bss ++ bytes ∷ [])
of_more [] [] d bytes h v = (v, tt)
of_more (e ∷ ds) (b ∷ bss) d bytes h v = (h.0, of_more ds bss d bytes h.1 v)
of_more [] (b ∷ bss) d bytes h v = absurd h
of_more (e ∷ ds) [] d bytes h v = absurd h

-- so their values are those of the contents
pub of_values : (ds : List Dictionary) (bss : List (List ℕ)) (t : ℕ) (key : List ℕ) → AreOf ds bss → values_of ds t key ≡ values_in bss t key
of_values [] [] t key h = refl
of_values (d ∷ ds) (b ∷ bss) zero key h = h.0 key
of_values (d ∷ ds) (b ∷ bss) (suc t) key h = of_values ds bss t key h.1
of_values [] (b ∷ bss) t key h = absurd h
of_values (d ∷ ds) [] t key h = absurd h

what_among : (e : Event) (L : List Event) → IsAmong e L → IsAmong e.what (map (λ (x : Event). x.what) L)
what_among e L (here ys) = here (map (λ (x : Event). x.what) ys)
what_among e L (there {xs = ys} y m) = there y.what (what_among e ys m)

module _ {V : Type 0} (ends : V → Exit → Bool → V → Type 0) (s r : ℕ) (ps : List V) (a b : Seen V) (f : AcquiresRows ends s r ps a b) where
  new_notes : (e : Event) → IsAmong e f.events → IsAmong e.what (acquires s r (length ps))
  new_notes e m = subst (λ l. IsAmong e.what l) f.noted (what_among e f.events m)

  events_are : (e : Event) → IsAmong e b.seat.events → IsAmong e a.seat.events ⊎ IsAmong e f.events
  events_are e m = among_append e a.seat.events f.events (subst (λ l. IsAmong e l) (ap (λ s. s.seat.events) f.tree) m)

  stays_alone : StaysAlone a.seat b.seat
  stays_alone = let t = f.tree in record {
    by = ap (λ s. s.seat.by) t;
    main = ap (λ s. s.seat.main) t;
    pairs = ap (λ s. s.seat.pairs) t;
    kept = ap (λ s. s.seat.kept) t;
    had = ap (λ s. s.seat.had) t;
    out = ap (λ s. s.seat.out) t;
    events = λ e m. ⊎_elim
        (λ i. inl i)
        (λ i. inr (among_each (λ (x : Event). x.by ≡ a.seat.by) e f.events f.own i ∙ sym (ap (λ s. s.seat.by) t), let w = acquired_one s r (length ps) e.what (new_notes e i) in ap leased_of w.1))
        (events_are e m);
  }

  -- the main tree is so much further
  -- The main tree is so much further, where no row of the root is acquired behind a lease, and rows are acquired in their order.
  pub rows_main : (width n : ℕ) (p : Progress V) → IsMain ends width n a p → p.root ≡ None → (s ≡ 0 → p.leased ≡ 0) → ((q t : ℕ) → IsAmong (Acquire q t) p.tables → q < r) → IsMain ends width n b (reading p (acquires s r (length ps)))
  rows_main width n p h root idle older =
      main_reads a b p (acquires s r (length ps)) h root f.calls stays_alone (f.scopes.usable 0 (subst (λ i. IsRoot a i) root h.root))
      (λ e m. ⊎_elim (λ i. inl i) (λ i. inr (new_notes e i)) (events_are e m))
      (λ w m. let x = acquired_one s r (length ps) w m in ap is_table_note x.1)
      noted_so
      (λ q m. let x = acquired_one s r (length ps) (Acquire q 0) m in idle (same_scope q 0 x.0 s x.1))
      rows_rise
    where
      noted_so : (q : ℕ) → IsAmong (Acquire q 0) (acquires s r (length ps)) → Notes b.seat.events Outer (Acquire q 0)
      noted_so q m =
          let e = among_map (λ (x : Event). x.what) (Acquire q 0) f.events (subst (λ l. IsAmong (Acquire q 0) l) (sym f.noted) m) in
          (e.0, subst (λ (s : Seen V). IsAmong e.0 s.seat.events) (sym f.tree) (among_right e.0 a.seat.events f.events e.1), among_each (λ (x : Event). x.by ≡ a.seat.by) e.0 f.events f.own e.1 ∙ h.by, e.2)

      rows_rise : RowsRise b.seat.events
      rows_rise e z i t q u m n by of is are l = ⊎_elim
          (λ old. ⊎_elim
          (λ was. h.gives.rise e z i t q u old was by of is are l)
          (λ new. absurd (let k = f.later z e new old in omega (k, l, arith)))
          (events_are z n))
          (λ new. ⊎_elim
          (λ was. let low = older q u (h.told.outer (Acquire q u) (z, was, of, are)) in let high = (acquired_between f.events s r (length ps) f.noted e i t new is).0 in omega (low, high, arith))
          (λ also. f.rise e z i t q u new also is are l)
          (events_are z n))
          (events_are e m)

-- so far all were read, and the dictionaries have their values
pub record AreReadSoFar {V : Type 0} (told : V → DeviceTold) (ends : V → Exit → Bool → V → Type 0) (s r : ℕ) (paths : List (List ℕ)) (old new : DepotTold) (a b : Seen V) (had ds : List Dictionary) : Type 0 where
  pub tries : TriesTables told ends s r paths old new a b None
  pub values : (bss : List (List ℕ)) → AreOf had bss → AreOf ds (bss ++ tries.contents)

-- the tables P, of which the i-th is read next
module _ {V : Type 0} (told : V → DeviceTold) (ends : V → Exit → Bool → V → Type 0) (s r : ℕ) (P : List (List ℕ)) (i : ℕ) (path : List ℕ) (before : i < length P) (is : path ≡ get_or P i path) (old mid : DepotTold) (a b : Seen V) (had ds : List Dictionary) (f : AreReadSoFar told ends s r (take i P) old mid a b had ds) where
  so_many : length (take i P) ≡ i
  so_many = length-take-le i P (omega arith)

  one_more : take (i + 1) P ≡ take i P ++ path ∷ []
  one_more = take_more P i path before ∙ ap (λ p. take i P ++ p ∷ []) (sym is)

  whole : (take i P ++ path ∷ []) ++ drop (i + 1) P ≡ P
  whole = ap (λ l. l ++ drop (i + 1) P) (sym one_more) ∙ take-append-drop (i + 1) P

  so_far : length f.tries.devices ≡ i
  so_far = all_opened f.tries.out ∙ so_many

  -- what the next one asks of the tree
  pub scope_open : IsOpenScope a s → IsOpenScope b s
  scope_open o = f.tries.rows.scopes.usable s o

  pub row_empty : ((q : ℕ) → q < length P → IsAmong (r + q) a.seat.empty) → IsAmong (r + i) b.seat.empty
  row_empty h = (f.tries.rows.empty (r + i)).1 (h i before, λ w. let x = w.1 in let z = so_far in omega (x, z, arith))

  pub room_left : used a + length P ≤ a.rows → used b + 1 ≤ b.rows
  room_left h = let u = f.tries.rows.room.used in let q = f.tries.rows.room.rows in let z = so_far in omega (u, q, z, h, before, arith)

  pub events_left : owed a.seat + 2 * length P ≤ a.seat.spare → owed b.seat + 2 ≤ b.seat.spare
  events_left h =
      let o = f.tries.rows.owed in let e : b.seat.spare ≡ a.seat.spare - length f.tries.devices = ap (λ (x : Seen V). x.seat.spare) f.tries.rows.tree in let z = so_far in omega (o, e, z, h, before, arith)

  behind : r + i ≡ r + length (take i P)
  behind = let z = so_many in omega (z, arith)

  module _ (new : DepotTold) (c : Seen V) where
    after : (w : Option NotRead) → TriesTables told ends s (r + i) (path ∷ []) mid new b c w → TriesTables told ends s r (take i P ++ path ∷ []) old new a c w
    after w t = tries_then told ends s r (take i P) (path ∷ []) old mid new a b c w (r + i) behind f.tries t

    failed : (w : NotRead) → TriesTables told ends s r (take i P ++ path ∷ []) old new a c (Some w) → TriesTables told ends s r P old new a c (Some w)
    failed w t = subst (λ l. TriesTables told ends s r l old new a c (Some w)) whole (tries_more told ends s r (take i P ++ path ∷ []) (drop (i + 1) P) old new a c w t)

    -- where it isn't read
    pub not_read : (w : NotRead) → ReadsTable told ends s (r + i) path mid new b c (Err w) → TriesTables told ends s r P old new a c (Some w)
    not_read w t = failed w (after (Some w) t.tries)

    module _ (d : Dictionary) (t : ReadsTable told ends s (r + i) path mid new b c (Ok d)) where
      contents_are : (after None t.tries).contents ≡ f.tries.contents ++ t.dict.0 ∷ []
      unfolding after
      contents_are = contents_then told ends s r (take i P) (path ∷ []) old mid new a b c None (r + i) behind f.tries t.tries ∙ ap (λ l. f.tries.contents ++ l) t.dict.1

      -- where it was read
      pub read_on : AreReadSoFar told ends s r (take (i + 1) P) old new a c had (ds ++ d ∷ [])
      read_on = subst (λ l. AreReadSoFar told ends s r l old new a c had (ds ++ d ∷ [])) (sym one_more) (record {
        tries = after None t.tries;
        values = λ bss h. subst (λ l. AreOf (ds ++ d ∷ []) l) (append_assoc bss f.tries.contents (t.dict.0 ∷ []) ∙ ap (λ l. bss ++ l) (sym contents_are)) (of_more ds (bss ++ f.tries.contents) d t.dict.0 (f.values bss h) t.dict.2);
      })

      -- where it was read, and memory was wanting then
      pub read_last : TriesTables told ends s r P old new a c (Some why.Memory)
      read_last =
          let rest = drop (i + 1) P in let n = length (take i P ++ path ∷ []) in
          subst (λ l. TriesTables told ends s r l old new a c (Some why.Memory)) whole (tries_then told ends s r (take i P ++ path ∷ []) rest old new new a c c (Some why.Memory) (r + n) refl (after None t.tries) (tries_none told ends s (r + n) rest new new c refl))

module _ {V : Type 0} (told : V → DeviceTold) (ends : V → Exit → Bool → V → Type 0) (s r : ℕ) (P : List (List ℕ)) (old new : DepotTold) (a b : Seen V) (had ds : List Dictionary) where
  -- the error that is handed on
  pub tables_badly : (x : Result (Unit {0}) NotRead) (w : NotRead) → IsErrAnd x (λ z. z ≡ w) → TriesTables told ends s r P old new a b (Some w) → ReadsTables told ends s r P old new a b had ds x
  tables_badly (Ok u) w is t = absurd is
  tables_badly (Err z) w is t =
      let u : TriesTables told ends s r P old new a b (Some z) = subst (λ y. TriesTables told ends s r P old new a b (Some y)) (sym is) t in
      record { tries = u; values = tt; main = rows_main ends s r u.devices a b u.rows }

  -- all were read
  pub tables_read : (i : ℕ) → length P ≤ i → AreReadSoFar told ends s r (take i P) old new a b had ds → ReadsTables told ends s r P old new a b had ds (Ok tt)
  tables_read i all f =
      let g : AreReadSoFar told ends s r P old new a b had ds = subst (λ l. AreReadSoFar told ends s r l old new a b had ds) (take_all i P all) f in
      record { tries = g.tries; values = g.values; main = rows_main ends s r g.tries.devices a b g.tries.rows }

-- at first no table was to be read
pub none_read : {V : Type 0} (told : V → DeviceTold) (ends : V → Exit → Bool → V → Type 0) (s r : ℕ) (old : DepotTold) (a : Seen V) (ds : List Dictionary) → AreReadSoFar told ends s r [] old old a a ds ds
none_read told ends s r old a ds = record {
  tries = record {
    devices = [];
    back = [];
    contents = [];
    out = none;
    made = record { made = sym (append-nil old.made); retired = sym (append-nil old.retired); files = refl };
    unknown = tt;
    rows = acquires_none ends s r a;
  };
  values = λ bss h. subst (λ l. AreOf ds l) (sym (append-nil bss)) h;
}
