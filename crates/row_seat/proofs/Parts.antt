-- The parts of the rule under a step on one row.
use Rattle.std.proofs.Common.{◌≡◌, ◌≢◌, ℕ, zero, suc, ◌+◌, ◌*◌, ◌≤◌, ◌⊎◌, true, List, [], ◌∷◌, ◌++◌, slice_set, inl, inr, refl, sym, ap, ◌∙◌, subst, ⊎_elim, arith}
use Rattle.std.specs.Prelude.{Some, Option}
use Rattle.std.proofs.lemmas.Bool.{cases_eq}
use Rattle.res_ledger.specs.declared.event.What.TheVariants.{Acquire, Lease}
use Rattle.row_seat.specs.Totals.{IsAt, pair_times, times, total}
use Rattle.res_ledger.specs.Ledger.{Covers, IsCanceled, IsFinalized, IsLeased, Notes}
use Rattle.row_seat.specs.Rule.{Ownership, OwnershipsAgree, GivenIn, Hold, LeasesAgree, LeftIn, PaysAgree, Purse}
use Rattle.res_ledger.specs.declared.event.Event.{Event}
use Rattle.res_ledger.specs.Streams.{HasRight}
use Rattle.res_ledger.specs.declared.event.StreamNo.TheVariants.{Inner}
use Rattle.chunk_core.specs.Lists.{IsAmong}
use Rattle.res_ledger.specs.declared.event.StreamNo.{StreamNo}
use Rattle.chunk_core.proofs.Members.{among_last, among_left, among_snoc}
use Rattle.res_ledger.proofs.Ledgers.{covers_leased}
use Rattle.row_seat.proofs.Totals.{each, one_at, put_else, put_here, some_back, some_put, total_set}

set_twice : {A : Type 0} (xs : List A) (i : ℕ) (a b : A) → slice_set (slice_set xs i a) i b ≡ slice_set xs i b
set_twice [] i a b = refl
set_twice (x ∷ xs) zero a b = refl
set_twice (x ∷ xs) (suc i) a b = ap (λ l. x ∷ l) (set_twice xs i a b)

pub covered_leased : (L : List Event) (j r : ℕ) (k : StreamNo) → Covers L j k r → IsLeased L j
covered_leased L j r k c = let t = covers_leased L j r k c in (k, t.0, t.1)

-- what is read of the row's counts

module _ (log : List Event) (ds : List Ownership) (k : OwnershipsAgree log ds) (id : ℕ) (d d' : Ownership) (at : IsAt ds id d) where
  pub ownership_step : d'.by ≡ d.by → d'.events ≡ d.events → ((r : ℕ) → IsAmong r d'.empty → IsAmong r d.empty) → ((r : ℕ) → IsAmong r d'.opened → (s : ℕ) × Notes log d.by (Acquire r s)) → ((r : ℕ) → IsAmong r d'.handed → HasRight log d.by r) → OwnershipsAgree log (slice_set ds id d')
  ownership_step by events empty opens' hands' = record {
    fresh = λ i r t q u. each ds id d' (λ i u. IsAmong r u.empty → Notes log q (Acquire r t) → Notes u.events q (Acquire r t))
        (λ a n. subst (λ l. Notes l q (Acquire r t)) (sym events) (k.fresh id r t q d at (empty r a) n)) (λ i u ne g. k.fresh i r t q u g) i u;
    opened = λ i r u. each ds id d' (λ i u. IsAmong r u.opened → (s : ℕ) × Notes log u.by (Acquire r s)) (λ a. subst (λ b. (s : ℕ) × Notes log b (Acquire r s)) (sym by) (opens' r a)) (λ i u ne g. k.opened i r u g) i u;
    handed = λ i r u. each ds id d' (λ i u. IsAmong r u.handed → HasRight log u.by r) (λ a. subst (λ b. HasRight log b r) (sym by) (hands' r a)) (λ i u ne g. k.handed i r u g) i u;
  }

module _ (log : List Event) (hs : List Hold) (k : LeasesAgree log hs) (id : ℕ) (h h' : Hold) (at : IsAt hs id h) where
  -- where the pairs stay, all of them in order
  pub hold_step : h'.main ≡ h.main → h'.by ≡ h.by → h'.had ≡ h.had → h'.kept ≡ h.kept
      → ((j r : ℕ) → IsAmong (j, r) h.pairs → IsCanceled log j ⊎ IsAmong (j, r) h'.pairs)
      → ((j r : ℕ) → IsAmong (j, r) h'.pairs → ((q : StreamNo) × Covers log j q r) ⊎ (¬ (IsLeased log j) × (h.main ≡ true) × IsAmong r h'.opened))
      → ((j r : ℕ) → IsAmong (j, r) h'.pairs → ((h.main ≡ true) × ¬ (IsAmong j h.had)) ⊎ (h.by ≡ Inner j))
      → ((j r : ℕ) → total (λ (u : Hold). pair_times j r u.pairs) (slice_set hs id h') ≤ 1) → LeasesAgree log (slice_set hs id h')
  hold_step main by had kept stay paired holder once = record {
    by_main = λ i a b q u. each hs id h' (λ i u. u.main ≡ true → Notes log q (Lease a b) → q ≡ u.by) (λ m n. k.by_main id a b q h at (sym main ∙ m) n ∙ sym by) (λ i u ne g. k.by_main i a b q u g) i u;
    stand = λ j r q c. ⊎_elim (λ x. inl x) (λ x. ⊎_elim
        (λ s. ⊎_elim (λ c. inl c) (λ m. inr (id, h', put_here hs id h h' at, m)) (stay j r (subst (λ (u : Hold). IsAmong (j, r) u.pairs) (one_at hs id x.1 h (subst (λ n. IsAt hs n x.1) s x.2) at) x.3)))
        (λ ne. inr (x.0, x.1, put_else hs id x.0 x.1 h' ne x.2, x.3)) (cases_eq x.0 id)) (k.stand j r q c);
    paired = λ i j r u. each hs id h' (λ i u. IsAmong (j, r) u.pairs → ((q : StreamNo) × Covers log j q r) ⊎ (¬ (IsLeased log j) × (u.main ≡ true) × IsAmong r u.opened))
        (λ m. ⊎_elim (λ o. inl o) (λ o. inr (o.0, main ∙ o.1, o.2)) (paired j r m)) (λ i u ne g. k.paired i j r u g) i u;
    holder = λ i j r u. each hs id h' (λ i u. IsAmong (j, r) u.pairs → ((u.main ≡ true) × ¬ (IsAmong j u.had)) ⊎ (u.by ≡ Inner j)) (λ m. ⊎_elim (λ o. inl (main ∙ o.0, λ a. o.1 (subst (λ l. IsAmong j l) had a))) (λ o. inr (by ∙ o)) (holder j r m)) (λ i u ne g. k.holder i j r u g) i u;
    kept = λ i j u. each hs id h' (λ i u. IsAmong j u.kept → IsLeased log j × ¬ (IsCanceled log j) × (((u.main ≡ true) × ¬ (IsAmong j u.had)) ⊎ (u.by ≡ Inner j)))
        (λ m. let t = k.kept id j h at (subst (λ l. IsAmong j l) kept m) in (t.0, t.1, ⊎_elim (λ o. inl (main ∙ o.0, λ a. o.1 (subst (λ l. IsAmong j l) had a))) (λ o. inr (by ∙ o)) t.2)) (λ i u ne g. k.kept i j u g) i u;
    keeper = λ j l. ⊎_elim (λ c. inl c) (λ x. inr (some_put hs id h h' at (λ (u : Hold). IsAmong j u.kept) (λ m. subst (λ l. IsAmong j l) (sym kept) m) x)) (k.keeper j l);
    kept_once = λ j. let t = total_set (λ (u : Hold). times j u.kept) hs id h h' at in let o = k.kept_once j in let s : times j h'.kept ≡ times j h.kept = ap (λ l. times j l) kept in omega arith;
    pair_once = once;
  }

-- where no payload is left or given
pub pays_same : {P : Type 0} {word : ℕ → ℕ} {slot slot' : ℕ → Option P} {log log' : List Event} {ps qs : List (Purse P)} → PaysAgree word slot log ps
    → ((q : ℕ) (y : P) → LeftIn qs q y → LeftIn ps q y) → ((q : ℕ) (y : P) → LeftIn ps q y → LeftIn qs q y) → ((q : ℕ) (y : P) → GivenIn qs q y → GivenIn ps q y) → ((q n : ℕ) → word q ≡ 3 + 4 * n → 1 ≤ n → slot' q ≡ slot q)
    → ((i q : ℕ) (p : Purse P) → IsAt qs i p → IsAmong q p.handed → (y : P) × IsAmong (q, y) p.given × (¬ (IsAmong q p.taken) → slot' q ≡ Some y)) → ((q : ℕ) → IsFinalized log' q → (y : P) × GivenIn qs q y) → PaysAgree word slot' log' qs
pays_same k left left' given same handed final = record {
  left_when = λ q y l. k.left_when q y (left q y l);
  given_when = λ q y g. k.given_when q y (given q y g);
  left_one = λ q y z a b. k.left_one q y z (left q y a) (left q z b);
  given_is = λ q y g. left' q y (k.given_is q y (given q y g));
  waits = λ q n e le. let t = k.waits q n e le in (t.0, left' q t.0 t.1, same q n e le ∙ t.2);
  handed = handed;
  final = final;
}

module _ {P : Type 0} (word word' : ℕ → ℕ) (slot : ℕ → Option P) (log : List Event) (ps : List (Purse P)) (k : PaysAgree word slot log ps) (r : ℕ) (other : (q : ℕ) → q ≢ r → word' q ≡ word q) where
  -- no payload moves, and the row stays closed or stays open
  pub pay_word : ((n : ℕ) → word r ≡ 3 + 4 * n → (m : ℕ) × (word' r ≡ 3 + 4 * m)) → (word r ≡ 3 → word' r ≡ 3) → ((n : ℕ) → word' r ≡ 3 + 4 * n → 1 ≤ n → (m : ℕ) × (word r ≡ 3 + 4 * m) × (1 ≤ m)) → PaysAgree word' slot log ps
  pay_word closed over waits = record {
    left_when = λ q x l. let t = k.left_when q x l in ⊎_elim (λ e. subst (λ a. (n : ℕ) × (word' a ≡ 3 + 4 * n)) (sym e) (closed t.0 (subst (λ a. word a ≡ 3 + 4 * t.0) e t.1))) (λ ne. (t.0, other q ne ∙ t.1)) (cases_eq q r);
    given_when = λ q x g. let t = k.given_when q x g in ⊎_elim (λ e. subst (λ a. word' a ≡ 3) (sym e) (over (subst (λ a. word a ≡ 3) e t))) (λ ne. other q ne ∙ t) (cases_eq q r);
    left_one = k.left_one;
    given_is = k.given_is;
    waits = λ q n is le. ⊎_elim (λ e. let t = waits n (subst (λ a. word' a ≡ 3 + 4 * n) e is) le in k.waits q t.0 (subst (λ a. word a ≡ 3 + 4 * t.0) (sym e) t.1) t.2) (λ ne. k.waits q n (sym (other q ne) ∙ is) le) (cases_eq q r);
    handed = k.handed;
    final = k.final;
  }

  -- the row is handed over with the payload that its owner left
  pub give_pays : (id : ℕ) (p : Purse P) (x : P) → IsAt ps id p → word' r ≡ 3 → LeftIn ps r x → slot r ≡ Some x → ((y : P) → ¬ (GivenIn ps r y)) → PaysAgree word' slot log (slice_set ps id (record p { handed = p.handed ++ r ∷ []; given = p.given ++ (r, x) ∷ [] }))
  give_pays id p x at now here there none =
      let p' : Purse P = record p { handed = p.handed ++ r ∷ []; given = p.given ++ (r, x) ∷ [] } in
      let left : (q : ℕ) (y : P) → LeftIn (slice_set ps id p') q y → LeftIn ps q y = λ q y. some_back ps id p p' at (λ (u : Purse P). IsAmong (q, y) u.left) (λ m. m) in
      let left' : (q : ℕ) (y : P) → LeftIn ps q y → LeftIn (slice_set ps id p') q y = λ q y. some_put ps id p p' at (λ (u : Purse P). IsAmong (q, y) u.left) (λ m. m) in
      let given' : (q : ℕ) (y : P) → GivenIn ps q y → GivenIn (slice_set ps id p') q y = λ q y. some_put ps id p p' at (λ (u : Purse P). IsAmong (q, y) u.given) (among_left ((r, x) ∷ [])) in
      let given : (q : ℕ) (y : P) → GivenIn (slice_set ps id p') q y → GivenIn ps q y ⊎ ((q ≡ r) × (y ≡ x)) = λ q y g.
      each ps id p' (λ i u. IsAmong (q, y) u.given → GivenIn ps q y ⊎ ((q ≡ r) × (y ≡ x))) (λ m. ⊎_elim (λ o. inl (id, p, at, o)) (λ e. inr (ap (λ (z : ℕ × P). z.0) e, ap (λ (z : ℕ × P). z.1) e)) (among_snoc p.given (q, y) (r, x) m)) (λ i u ne a m. inl (i, u, a, m)) g.0 g.1 g.2 g.3 in
      let same : (q n : ℕ) → q ≢ r → word' q ≡ 3 + 4 * n → word q ≡ 3 + 4 * n = λ q n ne e. sym (other q ne) ∙ e in record {
        left_when = λ q y l. let t = k.left_when q y (left q y l) in ⊎_elim (λ e. (0, subst (λ n. word' n ≡ 3 + 4 * 0) (sym e) (now ∙ omega arith))) (λ ne. (t.0, other q ne ∙ t.1)) (cases_eq q r);
        given_when = λ q y g. ⊎_elim (λ e. subst (λ n. word' n ≡ 3) (sym e) now) (λ ne. ⊎_elim (λ o. other q ne ∙ k.given_when q y o) (λ o. absurd (ne o.0)) (given q y g)) (cases_eq q r);
        left_one = λ q y z a b. k.left_one q y z (left q y a) (left q z b);
        given_is = λ q y g. left' q y (⊎_elim (k.given_is q y) (λ o. subst (λ n. LeftIn ps n y) (sym o.0) (subst (λ z. LeftIn ps r z) (sym o.1) here)) (given q y g));
        waits = λ q n is le. ⊎_elim (λ e. let z : word' r ≡ 3 + 4 * n = subst (λ a. word' a ≡ 3 + 4 * n) e is in absurd (omega arith)) (λ ne. let t = k.waits q n (same q n ne is) le in (t.0, left' q t.0 t.1, t.2)) (cases_eq q r);
        handed = λ i q u. each ps id p' (λ i u. IsAmong q u.handed → (y : P) × IsAmong (q, y) u.given × (¬ (IsAmong q u.taken) → slot q ≡ Some y))
            (λ m. ⊎_elim (λ o. let t = k.handed id q p at o in (t.0, among_left ((r, x) ∷ []) t.1, t.2)) (λ e. (x, subst (λ n. IsAmong (n, x) (p.given ++ (r, x) ∷ [])) (sym e) (among_last p.given (r, x)), λ f. subst (λ n. slot n ≡ Some x) (sym e) there)) (among_snoc p.handed q r m))
            (λ i u ne g. k.handed i q u g) i u;
        final = λ q f. let t = k.final q f in (t.0, given' q t.0 t.1);
      }

  module _ (slot' : ℕ → Option P) (elsewhere : (q : ℕ) → q ≢ r → slot' q ≡ slot q) (id : ℕ) (p : Purse P) (x : P) (at : IsAt ps id p) where
    -- the payload is left in the slot
    pub shut_pays : (m : ℕ) → word' r ≡ 3 + 4 * m → slot' r ≡ Some x → ((n : ℕ) → word r ≢ 3 + 4 * n) → ((i : ℕ) (u : Purse P) → IsAt ps i u → ¬ (IsAmong r u.handed)) → PaysAgree word' slot' log (slice_set ps id (record p { left = p.left ++ (r, x) ∷ [] }))
    shut_pays m now there was none =
        let p' : Purse P = record p { left = p.left ++ (r, x) ∷ [] } in
        let no_left : (y : P) → ¬ (LeftIn ps r y) = λ y l. let t = k.left_when r y l in was t.0 t.1 in
        let no_given : (y : P) → ¬ (GivenIn ps r y) = λ y g. was 0 (k.given_when r y g ∙ omega arith) in
        let left : (q : ℕ) (y : P) → LeftIn (slice_set ps id p') q y → LeftIn ps q y ⊎ ((q ≡ r) × (y ≡ x)) = λ q y g.
        each ps id p' (λ i u. IsAmong (q, y) u.left → LeftIn ps q y ⊎ ((q ≡ r) × (y ≡ x))) (λ m. ⊎_elim (λ o. inl (id, p, at, o)) (λ e. inr (ap (λ (z : ℕ × P). z.0) e, ap (λ (z : ℕ × P). z.1) e)) (among_snoc p.left (q, y) (r, x) m)) (λ i u ne a m. inl (i, u, a, m)) g.0 g.1 g.2 g.3 in
        let left' : (q : ℕ) (y : P) → LeftIn ps q y → LeftIn (slice_set ps id p') q y = λ q y. some_put ps id p p' at (λ (u : Purse P). IsAmong (q, y) u.left) (among_left ((r, x) ∷ [])) in
        let given : (q : ℕ) (y : P) → GivenIn (slice_set ps id p') q y → GivenIn ps q y = λ q y. some_back ps id p p' at (λ (u : Purse P). IsAmong (q, y) u.given) (λ m. m) in
        let given' : (q : ℕ) (y : P) → GivenIn ps q y → GivenIn (slice_set ps id p') q y = λ q y. some_put ps id p p' at (λ (u : Purse P). IsAmong (q, y) u.given) (λ m. m) in
        let not_r : (q : ℕ) (y : P) → LeftIn ps q y → q ≢ r = λ q y l e. no_left y (subst (λ n. LeftIn ps n y) e l) in record {
          left_when = λ q y l. ⊎_elim (λ o. let t = k.left_when q y o in (t.0, other q (not_r q y o) ∙ t.1)) (λ e. (m, subst (λ n. word' n ≡ 3 + 4 * m) (sym e.0) now)) (left q y l);
          given_when = λ q y g. let o = given q y g in other q (λ e. no_given y (subst (λ n. GivenIn ps n y) e o)) ∙ k.given_when q y o;
          left_one = λ q y z a b. ⊎_elim
              (λ o. ⊎_elim (λ o'. k.left_one q y z o o') (λ e. absurd (not_r q y o e.0)) (left q z b))
              (λ e. ⊎_elim (λ o'. absurd (not_r q z o' e.0)) (λ e'. e.1 ∙ sym e'.1) (left q z b))
              (left q y a);
          given_is = λ q y g. left' q y (k.given_is q y (given q y g));
          waits = λ q n is le. ⊎_elim (λ e. (x, (id, p', put_here ps id p p' at, subst (λ a. IsAmong (a, x) (p.left ++ (r, x) ∷ [])) (sym e) (among_last p.left (r, x))), subst (λ a. slot' a ≡ Some x) (sym e) there))
              (λ ne. let t = k.waits q n (sym (other q ne) ∙ is) le in (t.0, left' q t.0 t.1, elsewhere q ne ∙ t.2)) (cases_eq q r);
          handed = λ i q u. each ps id p' (λ i u. IsAmong q u.handed → (y : P) × IsAmong (q, y) u.given × (¬ (IsAmong q u.taken) → slot' q ≡ Some y))
              (λ m. let t = k.handed id q p at m in (t.0, t.1, λ f. elsewhere q (λ e. none id p at (subst (λ n. IsAmong n p.handed) e m)) ∙ t.2 f))
              (λ i u ne g m. let t = k.handed i q u g m in (t.0, t.1, λ f. elsewhere q (λ e. none i u g (subst (λ n. IsAmong n u.handed) e m)) ∙ t.2 f)) i u;
          final = λ q f. let t = k.final q f in (t.0, given' q t.0 t.1);
        }

module _ {P : Type 0} (word word' : ℕ → ℕ) (slot : ℕ → Option P) (log : List Event) (ps : List (Purse P)) (k : PaysAgree word slot log ps) (r : ℕ) (other : (q : ℕ) → q ≢ r → word' q ≡ word q) (slot' : ℕ → Option P) (elsewhere : (q : ℕ) → q ≢ r → slot' q ≡ slot q) (id : ℕ) (p : Purse P) (x : P) (at : IsAt ps id p) where
  -- and is handed to the closer at once
  pub close_pays : word' r ≡ 3 → slot' r ≡ Some x → ((n : ℕ) → word r ≢ 3 + 4 * n) → ((i : ℕ) (u : Purse P) → IsAt ps i u → ¬ (IsAmong r u.handed)) → PaysAgree word' slot' log (slice_set ps id (record p { left = p.left ++ (r, x) ∷ []; handed = p.handed ++ r ∷ []; given = p.given ++ (r, x) ∷ [] }))
  close_pays now there was none =
      let p' : Purse P = record p { left = p.left ++ (r, x) ∷ [] } in
      let first = shut_pays word word' slot log ps k r other slot' elsewhere id p x at 0 (now ∙ omega arith) there was none in
      let none' : (y : P) → ¬ (GivenIn (slice_set ps id p') r y) = λ y g. was 0 (k.given_when r y (some_back ps id p p' at (λ (u : Purse P). IsAmong (r, y) u.given) (λ m. m) g) ∙ omega arith) in
      let at' = put_here ps id p p' at in
      subst (λ l. PaysAgree word' slot' log l) (set_twice ps id p' (record p' { handed = p.handed ++ r ∷ []; given = p.given ++ (r, x) ∷ [] }))
      (give_pays word' word' slot' log (slice_set ps id p') first r (λ q ne. refl) id p' x at' now (id, p', at', among_last p.left (r, x)) there none')
