-- Rows that are acquired one after another.
use Rattle.std.proofs.Common.{◌≡◌, ◌⊎◌, ◌↔◌, ℕ, zero, suc, ◌+◌, ◌-◌, ◌<◌, ◌≤◌, Bool, cond, List, [], ◌∷◌, ◌++◌, length, map, inl, inr, refl, sym, ◌∙◌, ap, subst, ⊎_elim, arith, eq-eqb, ne_eqb, append-nil, length-append}
use Rattle.std.proofs.lemmas.List.{map-append}
use Rattle.std.specs.List.{AllByRecursion}
use Rattle.chunk_core.specs.declared.code.Exit.{Exit}
use Rattle.chunk_core.specs.Lists.{IsAmong}
use Rattle.chunk_core.specs.Lists.IsAmong.{here, there}
use Rattle.chunk_core.proofs.Cuts.{append_assoc}
use Rattle.chunk_core.proofs.Each.{each_append}
use Rattle.chunk_core.proofs.Filters.{among_append, among_right}
use Rattle.chunk_core.proofs.Members.{among_cons, among_last, among_left, among_nil, among_snoc}
use Rattle.res_ledger.specs.declared.event.Event.{Event}
use Rattle.res_ledger.specs.declared.event.What.{What}
use Rattle.res_ledger.specs.declared.event.What.TheVariants.{Acquire}
use Rattle.res_ledger.proofs.Mapped.{map_among}
use Rattle.row_seat.specs.declared.view.View.{View}
use Rattle.row_seat.specs.Views.{HasRow, IsWithin, noted, paid, placed, run, with_row, without}
use Rattle.row_seat.proofs.Members.{among_kept, among_without}
use Rattle.scope_tree.specs.Calls.{AcquiresRow as Acquired, KeepsScopes, Seen, TakesRoom}
use Rattle.scope_tree.specs.Trace.{acquiring, owed}
use Rattle.scope_tree.proofs.Lent.{length_with}
use Rattle.scope_tree.proofs.Use.{seen_is}
use Rattle.tree_laws.specs.Called.{MayAcquire}
use Rattle.tree_laws.specs.Called.Called.{none, acquired, written}
use Rattle.tree_laws.proofs.Follows.{called_then}
use Rattle.outer_tables.specs.Rows.{AcquireUpwards, AcquiresRows, AreLater, acquires, rows_from}

run_append : (r m n : ℕ) → run r (m + n) ≡ run r m ++ run (r + m) n
run_append r zero n = ap (λ k. run r k) (let e : 0 + n ≡ n = omega arith in e) ∙ ap (λ k. run k n) (let e : r ≡ r + 0 = omega arith in e)
run_append r (suc m) n =
    let t = run_append (suc r) m n in
    ap (λ k. run r k) (let e : suc m + n ≡ suc (m + n) = omega arith in e) ∙ ap (λ l. r ∷ l) (t ∙ ap (λ k. run (suc r) m ++ run k n) (let e : suc r + m ≡ r + suc m = omega arith in e))

acquires_append : (s r m n : ℕ) → acquires s r (m + n) ≡ acquires s r m ++ acquires s (r + m) n
acquires_append s r m n = ap (map (λ q. Acquire q s)) (run_append r m n) ∙ map-append (λ q. Acquire q s) (run r m) (run (r + m) n)

-- what was noted of rows is an Acquire of one of them
pub acquired_one : (s r n : ℕ) (w : What) → IsAmong w (acquires s r n) → (q : ℕ) × (w ≡ Acquire q s) × (r ≤ q) × (q < r + n)
acquired_one s r zero w m = absurd (among_nil m)
acquired_one s r (suc n) w m = ⊎_elim (λ e. (r, e, omega arith, omega arith)) (λ i. let x = acquired_one s (suc r) n w i in let low = x.2 in let high = x.3 in (x.0, x.1, omega (low, arith), omega (high, arith))) (among_cons m)

same_row : (r s q t : ℕ) → Acquire r s ≡ Acquire q t → r ≡ q
same_row r s q t e = cc

pub same_scope : (r s q t : ℕ) → Acquire r s ≡ Acquire q t → t ≡ s
same_scope r s q t e = cc

-- whose row is one of them
pub acquired_between : (L : List Event) (s r n : ℕ) → map (λ (e : Event). e.what) L ≡ acquires s r n → (e : Event) (q t : ℕ) → IsAmong e L → e.what ≡ Acquire q t → (r ≤ q) × (q < r + n)
acquired_between L s r n is e q t m w =
    let x = acquired_one s r n (Acquire q t) (subst (λ l. IsAmong (Acquire q t) l) is (subst (λ v. IsAmong v (map (λ (y : Event). y.what) L)) w (map_among (λ (y : Event). y.what) e L m))) in
    let same = same_row q t x.0 s x.1 in let low = x.2 in let high = x.3 in (omega (same, low, arith), omega (same, high, arith))

only_this : (e f : Event) → IsAmong e (f ∷ []) → e ≡ f
only_this e f m = ⊎_elim (λ s. s) (λ i. absurd (among_nil i)) (among_cons m)

module _ {P : Type 0} where
  rows_append : (r : ℕ) (ps qs : List P) → rows_from r (ps ++ qs) ≡ rows_from r ps ++ rows_from (r + length ps) qs
  rows_append r [] qs = ap (λ k. rows_from k qs) (let e : r ≡ r + 0 = omega arith in e)
  rows_append r (p ∷ ps) qs =
      let y : ℕ × P = (r, p) in
      ap (λ l. y ∷ l) (rows_append (suc r) ps qs ∙ ap (λ k. rows_from (suc r) ps ++ rows_from k qs) (let e : suc r + length ps ≡ r + suc (length ps) = omega arith in e))

  -- another payload in the row that was acquired last
  with_last : (r : ℕ) (p q : P) (xs : List (ℕ × P)) → ¬ (HasRow xs r) → with_row r q (xs ++ (r, p) ∷ []) ≡ xs ++ (r, q) ∷ []
  with_last r p q [] h = ap (λ b. let y : ℕ × P = (r, q) in let z : ℕ × P = (r, p) in cond b (y ∷ []) (z ∷ [])) (eq-eqb r r refl)
  with_last r p q (x ∷ xs) h =
      ap (λ b. let y : ℕ × P = (x.0, q) in let z : ℕ × P = (r, p) in cond b (y ∷ (xs ++ z ∷ [])) (x ∷ with_row r q (xs ++ z ∷ []))) (ne_eqb x.0 r (λ e. h (x.1, subst (λ i. IsAmong (i, x.1) (x ∷ xs)) e (here xs))))
      ∙ ap (λ l. x ∷ l) (with_last r p q xs (λ i. h (i.0, there x i.1)))

  keeps_scopes : (a b c : Seen P) → KeepsScopes a b → KeepsScopes b c → KeepsScopes a c
  keeps_scopes a b c k l = record { usable = λ s u. l.usable s (k.usable s u); closed = λ s u. l.closed s (k.closed s u) }

  takes_room : (m n : ℕ) (a b c : Seen P) → TakesRoom 0 m a b → TakesRoom 0 n b c → TakesRoom 0 (m + n) a c
  takes_room m n a b c k l = record {
    opens = let x = k.opens in let y = l.opens in omega (x, y, arith);
    used = let x = k.used in let y = l.used in omega (x, y, arith);
    own = λ T. let x = k.own T in let y = l.own T in omega (x, y, arith);
    scopes = l.scopes ∙ k.scopes;
    rows = l.rows ∙ k.rows;
  }

  module _ (ends : P → Exit → Bool → P → Type 0) where
    -- the tree with rows more
    abbrev more : (a b : Seen P) → List (ℕ × P) → List Event → ℕ → Seen P
    more a b rows events n = record a { seat = record a.seat { empty = b.seat.empty; opened = a.seat.opened ++ rows; events = a.seat.events ++ events; spare = a.seat.spare - n } }

    pub acquires_none : (s r : ℕ) (a : Seen P) → AcquiresRows ends s r [] a a
    acquires_none s' r a = record {
      events = [];
      noted = refl;
      own = tt;
      later = λ e f m n. absurd (among_nil m);
      rise = λ e f q s o t m n. absurd (among_nil m);
      tree = ap (λ x. let v : View P = record a.seat { opened = x } in let s : Seen P = record a { seat = v } in s) (sym (append-nil a.seat.opened))
          ∙ ap (λ x. let v : View P = record a.seat { opened = a.seat.opened ++ []; events = x } in let s : Seen P = record a { seat = v } in s) (sym (append-nil a.seat.events))
          ∙ ap (λ x. let v : View P = record a.seat { opened = a.seat.opened ++ []; events = a.seat.events ++ []; spare = x } in let s : Seen P = record a { seat = v } in s) (let e : a.seat.spare ≡ a.seat.spare - 0 = omega arith in e);
      empty = λ q. (λ m. (m, λ w. absurd (let x = w.0 in let y = w.1 in omega (x, y, arith))), λ m. m.0);
      calls = none;
      scopes = record { usable = λ s u. u; closed = λ s u. u };
      room = record { opens = omega arith; used = omega arith; own = λ T. omega arith; scopes = refl; rows = refl };
      owed = omega arith;
    }

    -- one row, as the tree acquired it
    pub acquires_one : (a b : Seen P) (s r : ℕ) (p : P) → MayAcquire a s r → Acquired a s r p b → KeepsScopes a b → TakesRoom 0 1 a b → owed b.seat ≡ owed a.seat + 1 → AcquiresRows ends s r (p ∷ []) a b
    acquires_one a b s' r p may o scopes room owes =
        let e = acquiring a.seat r s' o.stamp in
        let rest : b.seat.empty ≡ without r a.seat.empty = ap (λ v. v.empty) o.seat in record {
          events = e ∷ [];
          noted = refl;
          own = (refl, tt);
          later = λ x f m n. subst (λ (y : Event). f.stamp < y.stamp) (sym (only_this x e m)) (o.fresh.1 f n);
          rise = λ x f q s u t m n i j l. let a' = ap (λ (y : Event). y.stamp) (only_this x e m) in let b' = ap (λ (y : Event). y.stamp) (only_this f e n) in absurd (omega (a', b', l, arith));
          tree = seen_is a b (placed (noted a.seat e) r p) o.seat o.shelf o.scopes o.rows ∙ ap (λ l. let v : View P = record (placed (noted a.seat e) r p) { empty = l } in let s : Seen P = record a { seat = v } in s) (sym rest);
          empty = λ q. (
            λ m. let t = among_without r a.seat.empty q (subst (λ l. IsAmong q l) rest m) in (t.0, λ w. t.1 (let x = w.0 in let y = w.1 in omega (x, y, arith))),
            λ m. subst (λ l. IsAmong q l) (sym rest) (among_kept r a.seat.empty q m.0 (λ i. m.1 (omega (i, arith), omega (i, arith)))),
          );
          calls = acquired a b s' r p none may o;
          scopes = scopes;
          room = room;
          owed = owes;
        }

    -- and then with another payload
    module _ (a b : Seen P) (s' r : ℕ) (p q : P) (one : AcquiresRows ends s' r (p ∷ []) a b) (new : ¬ (HasRow a.seat.opened r)) where
      abbrev changed : Seen P
      changed = record b { seat = paid b.seat r q }

      opened_is : b.seat.opened ≡ a.seat.opened ++ (r, p) ∷ []
      opened_is = ap (λ s. s.seat.opened) one.tree

      changed_is : changed ≡ more a b ((r, q) ∷ []) one.events 1
      changed_is =
          let y : ℕ × P = (r, q) in
          ap (λ (s : Seen P). let t : Seen P = record s { seat = record s.seat { opened = with_row r q b.seat.opened } } in t) one.tree
          ∙ ap (λ l. let v : View P = record (more a b (y ∷ []) one.events 1).seat { opened = l } in let s : Seen P = record a { seat = v } in s) (ap (with_row r q) opened_is ∙ with_last r p q a.seat.opened new)

      changed_acquires : AcquiresRows ends s' r (q ∷ []) a changed
      changed_acquires =
          let l = length_with r q b.seat.opened in record {
            events = one.events;
            noted = one.noted;
            own = one.own;
            later = one.later;
            rise = one.rise;
            tree = changed_is;
            empty = one.empty;
            calls = written b changed r q one.calls (p, subst (λ l. IsAmong (r, p) l) (sym opened_is) (among_last a.seat.opened (r, p))) refl;
            scopes = record { usable = one.scopes.usable; closed = one.scopes.closed };
            room = record { opens = one.room.opens; used = one.room.used; own = one.room.own; scopes = one.room.scopes; rows = one.room.rows };
            owed = let o = one.owed in omega (l, o, arith);
          }

      pub acquires_changed : (c : Seen P) → c ≡ changed → AcquiresRows ends s' r (q ∷ []) a c
      acquires_changed c is = subst (λ s. AcquiresRows ends s' r (q ∷ []) a s) (sym is) changed_acquires

    -- the row that was acquired last has this payload
    pub the_last : (s r : ℕ) (p q : P) (a b : Seen P) → AcquiresRows ends s r (p ∷ []) a b → ¬ (HasRow a.seat.opened r) → IsAmong (r, q) b.seat.opened → q ≡ p
    the_last s' r p q a b one new m =
        ⊎_elim (λ i. absurd (new (q, i))) (λ e. ap (λ (y : ℕ × P). y.1) e) (among_snoc a.seat.opened (r, q) (r, p) (subst (λ l. IsAmong (r, q) l) (ap (λ s. s.seat.opened) one.tree) m))

    -- rows, and then the rows behind them
    module _ (a b c : Seen P) (s' r : ℕ) (ps qs : List P) (f : AcquiresRows ends s' r ps a b) (g : AcquiresRows ends s' (r + length ps) qs b c) where
      all_noted : map (λ (e : Event). e.what) (f.events ++ g.events) ≡ acquires s' r (length (ps ++ qs))
      all_noted =
          map-append (λ (e : Event). e.what) f.events g.events ∙ ap (λ l. l ++ map (λ (e : Event). e.what) g.events) f.noted ∙ ap (λ l. acquires s' r (length ps) ++ l) g.noted
          ∙ sym (acquires_append s' r (length ps) (length qs)) ∙ ap (acquires s' r) (sym (length-append ps qs))

      by_same : (e : Event) → e.by ≡ b.seat.by → e.by ≡ a.seat.by
      by_same e h = h ∙ ap (λ s. s.seat.by) f.tree

      whose : (L : List Event) → AllByRecursion (λ e. e.by ≡ b.seat.by) L → AllByRecursion (λ e. e.by ≡ a.seat.by) L
      whose [] h = tt
      whose (e ∷ L) h = (by_same e h.0, whose L h.1)

      before : (e : Event) → IsAmong e a.seat.events ⊎ IsAmong e f.events → IsAmong e b.seat.events
      before e m = subst (λ (s : Seen P). IsAmong e s.seat.events) (sym f.tree) (⊎_elim (λ i. among_left f.events i) (λ i. among_right e a.seat.events f.events i) m)

      all_later : AreLater (f.events ++ g.events) a.seat.events
      all_later e z m n = ⊎_elim (λ i. f.later e z i n) (λ i. g.later e z i (before z (inl n))) (among_append e f.events g.events m)

      all_rise : AcquireUpwards (f.events ++ g.events)
      all_rise e z i s q t m n is are l = ⊎_elim
          (λ x. ⊎_elim (λ y. f.rise e z i s q t x y is are l) (λ y. let u = g.later z e y (before e (inr x)) in absurd (omega (u, l, arith))) (among_append z f.events g.events n))
          (λ x. ⊎_elim
          (λ y. let low = (acquired_between g.events s' (r + length ps) (length qs) g.noted e i s x is).0 in let high = (acquired_between f.events s' r (length ps) f.noted z q t y are).1 in omega (low, high, arith))
          (λ y. g.rise e z i s q t x y is are l)
          (among_append z f.events g.events n))
          (among_append e f.events g.events m)

      tree_is : c ≡ more a c (rows_from r (ps ++ qs)) (f.events ++ g.events) (length (ps ++ qs))
      tree_is =
          g.tree ∙ ap (λ (s : Seen P). more s c (rows_from (r + length ps) qs) g.events (length qs)) f.tree
          ∙ ap (λ l. let v : View P = record a.seat { empty = c.seat.empty; opened = l; events = a.seat.events ++ f.events ++ g.events; spare = a.seat.spare - length ps - length qs } in let s : Seen P = record a { seat = v } in s) (append_assoc a.seat.opened (rows_from r ps) (rows_from (r + length ps) qs) ∙ ap (λ l. a.seat.opened ++ l) (sym (rows_append r ps qs)))
          ∙ ap (λ l. let v : View P = record a.seat { empty = c.seat.empty; opened = a.seat.opened ++ rows_from r (ps ++ qs); events = l; spare = a.seat.spare - length ps - length qs } in let s : Seen P = record a { seat = v } in s) (append_assoc a.seat.events f.events g.events)
          ∙ ap (λ n. let v : View P = record a.seat { empty = c.seat.empty; opened = a.seat.opened ++ rows_from r (ps ++ qs); events = a.seat.events ++ (f.events ++ g.events); spare = n } in let s : Seen P = record a { seat = v } in s) (let l = length-append ps qs in let e : a.seat.spare - length ps - length qs ≡ a.seat.spare - length (ps ++ qs) = omega (l, arith) in e)

      still_empty : (q : ℕ) → IsAmong q c.seat.empty ↔ (IsAmong q a.seat.empty × ¬ (IsWithin r (r + length (ps ++ qs)) q))
      still_empty q =
          let l = length-append ps qs in let back = f.empty q in let on = g.empty q in (
            λ m. let t = on.0 m in let u = back.0 t.0 in (u.0, λ w. let x = w.0 in let y = w.1 in let n : ¬ (r + length ps ≤ q) = λ h. t.1 (h, omega (l, y, arith)) in u.1 (x, let z : q < r + length ps = omega (n, arith) in z)),
            λ m. on.1 (back.1 (m.0, λ w. m.1 (w.0, let y = w.1 in omega (l, y, arith))), λ w. m.1 (let x = w.0 in omega (x, arith), let y = w.1 in omega (l, y, arith))),
          )

      pub acquires_then : AcquiresRows ends s' r (ps ++ qs) a c
      acquires_then = record {
        events = f.events ++ g.events;
        noted = all_noted;
        own = each_append (λ (e : Event). e.by ≡ a.seat.by) f.events g.events f.own (whose g.events g.own);
        later = all_later;
        rise = all_rise;
        tree = tree_is;
        empty = still_empty;
        calls = called_then f.calls g.calls;
        scopes = keeps_scopes a b c f.scopes g.scopes;
        room = subst (λ n. TakesRoom 0 n a c) (sym (length-append ps qs)) (takes_room (length ps) (length qs) a b c f.room g.room);
        owed = let x = f.owed in let y = g.owed in let l = length-append ps qs in omega (x, y, l, arith);
      }
