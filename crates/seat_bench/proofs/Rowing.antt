-- Rows one after another, call by call.
use Rattle.std.proofs.Common.{◌≡◌, ◌≢◌, ℕ, zero, suc, ◌+◌, ◌-◌, ◌*◌, ◌<◌, ◌≤◌, ◌⊎◌, ◌↔◌, Bool, List, [], ◌∷◌, ◌++◌, inl, inr, refl, sym, ap, ◌∙◌, subst, ⊎_elim, arith, true, false, not, cond, leb, ltb, filter, eqb, eq-eqb}
use Rattle.chunk_core.specs.declared.code.Exit.TheVariants.{Succeeded}
use Rattle.chunk_core.specs.Lists.{IsAmong}
use Rattle.chunk_core.specs.Lists.IsAmong.{here, there}
use Rattle.chunk_core.proofs.Members.{among_cons, among_last, among_left, among_nil, among_snoc}
use Rattle.chunk_core.proofs.Filters.{filter_among}
use Rattle.std.proofs.lemmas.Bool.{le-ltb}
use Rattle.res_ledger.specs.declared.event.Event.{Event}
use Rattle.res_ledger.specs.declared.event.StreamNo.{StreamNo}
use Rattle.res_ledger.specs.declared.event.StreamNo.TheVariants.{Inner, Outer}
use Rattle.res_ledger.specs.declared.event.What.{What}
use Rattle.res_ledger.specs.declared.event.What.TheVariants.{Acquire, Cancel, Close, Final, Lease, Open}
use Rattle.res_ledger.specs.Ledger.{IsAcquired, IsClosed, IsCoveredBy, IsLeased, IsOpened, LiesWithin, Notes}
use Rattle.res_ledger.specs.Ledger.LiesWithin.{same, below}
use Rattle.row_seat.specs.declared.view.Left.TheVariants.{Stays, Yours}
use Rattle.row_seat.specs.declared.view.View.{View}
use Rattle.row_seat.specs.Views.{CanClose, CanLease, CanLeave, CanSplit, split_main, split_off, within, CanPlace, CanTake, ClosesRow, LeavesRow, MayNote, handed_over, leased, noted, placed, run, shut, start, took, without, without_pair, without_row}
use Rattle.row_seat.proofs.Members.{among_kept}
use Rattle.shared_scripts.specs.Races.{IsEnded}
use Rattle.shared_scripts.specs.Rows.{CanOpenRow, CanShutRow, IsPast, QuitsRow, ShutsRow}
use Rattle.shared_scripts.proofs.Lendings.{no_row, none_left}
use Rattle.shared_scripts.proofs.Pasts.{among_run, covered, grow, more_notes, not_acquired, not_closed, not_leased, not_opened, root_open}
use Rattle.seat_bench.specs.Rows.{IsHost, IsIdle, IsLent, IsMain, IsOpen, IsShut}

abbrev pub event : {P : Type 0} → View P → ℕ → What → Event
event v n x = record { stamp = n; by = v.by; what = x }

pub outer_inner : (n : ℕ) → Outer ≢ Inner n
outer_inner n e = cc

no_pair : (n : ℕ) → without_pair n n ((n, n) ∷ []) ≡ []
no_pair n = rw (eq-eqb n n refl) refl

module _ {P : Type 0} where
  last_note : (v : View P) (s : ℕ) (w : What) → Notes (v.events ++ event v s w ∷ []) v.by w
  last_note v s w = (event v s w, among_last v.events (event v s w), refl, refl)

  module _ (v : View P) (n to : ℕ) (lt : n < to) (i : IsIdle v n to) (s t : ℕ) (p : P) where
    abbrev pub opening : View P
    opening = noted v (event v s (Open (n + 1) 0))

    abbrev pub acquiring : View P
    acquiring = noted opening (event opening t (Acquire n (n + 1)))

    pub can_open : CanOpenRow v n
    can_open = let room = i.room in (n, i.at.past, i.at.empty n (omega arith) lt, omega arith)

    past_open : (x : Event) → IsAmong x opening.events → IsPast (n + 1) n n n x.what
    past_open = grow v.events i.at.past (n + 1) n n n (omega arith) (omega arith) (omega arith) (omega arith) (event v s (Open (n + 1) 0)) (omega arith, omega arith, refl)

    pub is_open : IsOpen (placed acquiring n p) n to
    is_open = record {
      at = record {
        past = grow opening.events past_open (n + 1) (n + 1) n n (omega arith) (omega arith) (omega arith) (omega arith) (event opening t (Acquire n (n + 1))) (omega arith, refl);
        empty = λ r a b. among_kept n v.empty r (i.at.empty r (omega arith) b) (λ e. omega arith);
        handed = i.at.handed;
        taken = i.at.taken;
        had = i.at.had;
      };
      pay = p;
      opened = ap (λ l. l ++ (n, p) ∷ []) i.opened;
      pairs = i.pairs;
      kept = i.kept;
      scope = more_notes (event opening t (Acquire n (n + 1)) ∷ []) (last_note v s (Open (n + 1) 0));
      row = last_note opening t (Acquire n (n + 1));
      room = (let room = i.room in omega arith);
    }

  module _ (v : View P) (n to : ℕ) (lt : n < to) (i : IsOpen v n to) (main : IsMain v) (s : ℕ) where
    abbrev pub lending : View P
    lending = leased v n n

    pub can_lease : CanLease v n n
    can_lease = (
      main.main,
      (i.pay, subst (λ l. IsAmong (n, i.pay) l) (sym i.opened) (here [])),
      (λ m. among_nil (subst (λ l. IsAmong (n, n) l) i.pairs m)),
      (λ e. outer_inner n (sym main.by ∙ e)),
      (λ m. among_nil (subst (λ l. IsAmong n l) i.at.had m)),
      not_leased v.events i.at.past n (omega arith),
    )

    shut_not : ¬ (IsClosed v.events v.by (n + 1))
    shut_not = not_closed v.events i.at.past v.by (n + 1) (omega arith)

    covers : (r : ℕ) → IsAmong (n, r) lending.pairs ↔ IsCoveredBy v.events v.by (n + 1) r
    covers r = (
      (λ m. ⊎_elim (λ e. subst (λ (q : ℕ). IsCoveredBy v.events v.by (n + 1) q) (sym (ap (λ (x : ℕ × ℕ). x.1) e)) (n + 1, i.row, inr (same (n + 1)), shut_not)) (λ z. absurd (among_nil z)) (among_cons (subst (λ l. IsAmong (n, r) (l ++ (n, n) ∷ [])) i.pairs m))),
      (λ x. subst (λ (q : ℕ). IsAmong (n, q) lending.pairs) (sym (covered v.events i.at.past v.by n r x)) (among_last v.pairs (n, n))),
    )

    pub may_lease : MayNote lending (Lease n (n + 1)) × (1 ≤ lending.spare)
    may_lease = let room = i.room in ((main.main, (λ e. outer_inner n (sym main.by ∙ e)), (λ m. among_nil (subst (λ l. IsAmong n l) i.at.had m)), not_leased v.events i.at.past n (omega arith), (inr (0, i.scope), shut_not), covers), omega arith)

    pub is_lent : IsLent (noted lending (event lending s (Lease n (n + 1)))) n to
    is_lent = record {
      at = record {
        past = grow v.events i.at.past (n + 1) (n + 1) (n + 1) n (omega arith) (omega arith) (omega arith) (omega arith) (event lending s (Lease n (n + 1))) (omega arith);
        empty = i.at.empty;
        handed = i.at.handed;
        taken = i.at.taken;
        had = i.at.had;
      };
      pay = i.pay;
      opened = i.opened;
      pairs = ap (λ l. l ++ (n, n) ∷ []) i.pairs;
      kept = ap (λ l. l ++ n ∷ []) i.kept;
      scope = more_notes (event lending s (Lease n (n + 1)) ∷ []) i.scope;
      row = more_notes (event lending s (Lease n (n + 1)) ∷ []) i.row;
      lease = last_note lending s (Lease n (n + 1));
      room = (let room = i.room in omega arith);
    }

  module _ (v : View P) (n to : ℕ) (lt : n < to) (i : IsLent v n to) (s : ℕ) where
    abbrev pub closing : View P
    closing = noted v (event v s (Close (n + 1) Succeeded))

    one_lease : (j : ℕ) → IsAmong (j, n) v.pairs → j ≡ n
    one_lease j m = ⊎_elim (λ e. ap (λ (x : ℕ × ℕ). x.0) e) (λ z. absurd (among_nil z)) (among_cons (subst (λ l. IsAmong (j, n) l) i.pairs m))

    pub can_shut : CanShutRow v n
    can_shut = let room = i.room in (
      (i.pay, subst (λ l. IsAmong (n, i.pay) l) (sym i.opened) (here [])),
      i.row,
      (inr (0, i.scope), not_closed v.events i.at.past v.by (n + 1) (omega arith)),
      (λ j m. subst (λ (x : ℕ). (t : ℕ) × Notes v.events v.by (Lease x t)) (sym (one_lease j m)) (n + 1, i.lease)),
      (λ m. among_nil (subst (λ l. IsAmong n l) i.at.taken m)),
      omega arith,
    )

    past_close : (x : Event) → IsAmong x closing.events → IsPast (n + 1) (n + 1) (n + 1) (n + 1) x.what
    past_close = grow v.events i.at.past (n + 1) (n + 1) (n + 1) (n + 1) (omega arith) (omega arith) (omega arith) (omega arith) (event v s (Close (n + 1) Succeeded)) (omega arith, omega arith)

    none_open : without_row n v.opened ≡ []
    none_open = ap (λ l. without_row n l) i.opened ∙ no_row n i.pay

    close_stays : (w : View P) → ClosesRow closing n Stays w → IsShut w n to
    close_stays w x = subst (λ z. IsShut z n to) (sym x.2) (record {
      at = record { past = past_close; empty = i.at.empty; handed = i.at.handed; taken = i.at.taken; had = i.at.had };
      opened = none_open;
      pairs = i.pairs;
      kept = i.kept;
      room = (let room = i.room in omega arith);
    })

    close_ends : (w u : View P) → ClosesRow closing n Yours w → (ok : Bool) → IsEnded w n ok u → IsShut u n to
    close_ends w u x ok is =
        let f : View P → View P = λ z. noted (took z n) (event (took z n) is.0 (Final n Succeeded ok)) in
        let g : View P = handed_over (shut closing n x.0) n x.0 in
        subst (λ z. IsShut z n to) (sym (is.1 ∙ ap f x.2)) (record {
          at = record {
            past = grow closing.events past_close (n + 1) (n + 1) (n + 1) (n + 1) (omega arith) (omega arith) (omega arith) (omega arith) (event g is.0 (Final n Succeeded ok)) tt;
            empty = i.at.empty;
            handed = ap (λ l. without n (l ++ n ∷ [])) i.at.handed ∙ none_left n;
            taken = ap (λ l. without n (l ++ n ∷ [])) i.at.taken ∙ none_left n;
            had = i.at.had;
          };
          opened = none_open;
          pairs = i.pairs;
          kept = i.kept;
          room = (let room = i.room in omega arith);
        })

  module _ (v : View P) (n to : ℕ) (lt : n < to) (i : IsShut v n to) (s : ℕ) where
    abbrev pub leaving : View P
    leaving = noted v (event v s (Cancel n Succeeded))

    pub may_cancel : IsMain v → MayNote v (Cancel n Succeeded) × (1 ≤ v.spare)
    may_cancel main = let room = i.room in ((subst (λ l. IsAmong n l) (sym i.kept) (here []), λ b. absurd (outer_inner n (sym main.by ∙ b))), omega arith)

    pub can_leave : CanLeave leaving n n
    can_leave = (subst (λ l. IsAmong (n, n) l) (sym i.pairs) (here []), (Succeeded, last_note v s (Cancel n Succeeded)))

    pub none_taken : ¬ (IsAmong n leaving.taken)
    none_taken m = among_nil (subst (λ l. IsAmong n l) i.at.taken m)

    pub room_left : 1 ≤ leaving.spare
    room_left = let room = i.room in omega arith

    past_leave : (x : Event) → IsAmong x leaving.events → IsPast (n + 1) (n + 1) (n + 1) (n + 1) x.what
    past_leave = grow v.events i.at.past (n + 1) (n + 1) (n + 1) (n + 1) (omega arith) (omega arith) (omega arith) (omega arith) (event v s (Cancel n Succeeded)) tt

    none_paired : without_pair n n v.pairs ≡ []
    none_paired = ap (λ l. without_pair n n l) i.pairs ∙ no_pair n

    none_kept : without n v.kept ≡ []
    none_kept = ap (λ l. without n l) i.kept ∙ none_left n

    leave_stays : (w : View P) → LeavesRow leaving n n Stays w → IsIdle w (n + 1) to
    leave_stays w x = subst (λ z. IsIdle z (n + 1) to) (sym x.0) (record {
      at = record { past = past_leave; empty = i.at.empty; handed = i.at.handed; taken = i.at.taken; had = i.at.had };
      opened = i.opened;
      pairs = none_paired;
      kept = none_kept;
      room = (let room = i.room in omega arith);
    })

    leave_ends : (w u : View P) → LeavesRow leaving n n Yours w → (ok : Bool) → IsEnded w n ok u → IsIdle u (n + 1) to
    leave_ends w u x ok is =
        let f : View P → View P = λ z. noted (took z n) (event (took z n) is.0 (Final n Succeeded ok)) in
        subst (λ z. IsIdle z (n + 1) to) (sym (is.1 ∙ ap f x.1)) (record {
          at = record {
            past = grow leaving.events past_leave (n + 1) (n + 1) (n + 1) (n + 1) (omega arith) (omega arith) (omega arith) (omega arith) (event v is.0 (Final n Succeeded ok)) tt;
            empty = i.at.empty;
            handed = ap (λ l. without n (l ++ n ∷ [])) i.at.handed ∙ none_left n;
            taken = ap (λ l. without n (l ++ n ∷ [])) i.at.taken ∙ none_left n;
            had = i.at.had;
          };
          opened = i.opened;
          pairs = none_paired;
          kept = none_kept;
          room = (let room = i.room in omega arith);
        })

  -- a row that nobody leased ends
  module _ (v : View P) (n to : ℕ) (lt : n < to) (i : IsOpen v n to) (s : ℕ) where
    abbrev pub ending : View P
    ending = noted v (event v s (Close (n + 1) Succeeded))

    pub can_end : CanShutRow v n
    can_end = let room = i.room in (
      (i.pay, subst (λ l. IsAmong (n, i.pay) l) (sym i.opened) (here [])),
      i.row,
      (inr (0, i.scope), not_closed v.events i.at.past v.by (n + 1) (omega arith)),
      (λ j m. absurd (among_nil (subst (λ l. IsAmong (j, n) l) i.pairs m))),
      (λ m. among_nil (subst (λ l. IsAmong n l) i.at.taken m)),
      omega arith,
    )

    past_end : (x : Event) → IsAmong x ending.events → IsPast (n + 1) (n + 1) (n + 1) (n + 1) x.what
    past_end = grow v.events i.at.past (n + 1) (n + 1) (n + 1) (n + 1) (omega arith) (omega arith) (omega arith) (omega arith) (event v s (Close (n + 1) Succeeded)) (omega arith, omega arith)

    none_opened : without_row n v.opened ≡ []
    none_opened = ap (λ l. without_row n l) i.opened ∙ no_row n i.pay

    end_stays : (w : View P) → ClosesRow ending n Stays w → IsIdle w (n + 1) to
    end_stays w x = subst (λ z. IsIdle z (n + 1) to) (sym x.2) (record {
      at = record { past = past_end; empty = i.at.empty; handed = i.at.handed; taken = i.at.taken; had = i.at.had };
      opened = none_opened;
      pairs = i.pairs;
      kept = i.kept;
      room = (let room = i.room in omega arith);
    })

    end_ends : (w u : View P) → ClosesRow ending n Yours w → (ok : Bool) → IsEnded w n ok u → IsIdle u (n + 1) to
    end_ends w u x ok is =
        let f : View P → View P = λ z. noted (took z n) (event (took z n) is.0 (Final n Succeeded ok)) in
        subst (λ z. IsIdle z (n + 1) to) (sym (is.1 ∙ ap f x.2)) (record {
          at = record {
            past = grow ending.events past_end (n + 1) (n + 1) (n + 1) (n + 1) (omega arith) (omega arith) (omega arith) (omega arith) (event v is.0 (Final n Succeeded ok)) tt;
            empty = i.at.empty;
            handed = ap (λ l. without n (l ++ n ∷ [])) i.at.handed ∙ none_left n;
            taken = ap (λ l. without n (l ++ n ∷ [])) i.at.taken ∙ none_left n;
            had = i.at.had;
          };
          opened = none_opened;
          pairs = i.pairs;
          kept = i.kept;
          room = (let room = i.room in omega arith);
        })

  -- what the row's steps leave
  pub shuts_on : (v : View P) (n to : ℕ) → n < to → IsLent v n to → (w : View P) → ShutsRow v n w → IsShut w n to
  shuts_on v n to lt i w x = ⊎_elim (λ stays. close_stays v n to lt i x.0 w stays) (λ ends. close_ends v n to lt i x.0 ends.0 w ends.1 ends.2.0 ends.2.1) x.1

  pub ends_on : (v : View P) (n to : ℕ) → n < to → IsOpen v n to → (w : View P) → ShutsRow v n w → IsIdle w (n + 1) to
  ends_on v n to lt i w x = ⊎_elim (λ stays. end_stays v n to lt i x.0 w stays) (λ ends. end_ends v n to lt i x.0 ends.0 w ends.1 ends.2.0 ends.2.1) x.1

  pub quits_on : (v : View P) (n to : ℕ) → n < to → IsShut v n to → (s : ℕ) (w : View P) → QuitsRow (noted v (event v s (Cancel n Succeeded))) n n w → IsIdle w (n + 1) to
  quits_on v n to lt i s w x = ⊎_elim (λ stays. leave_stays v n to lt i s w stays) (λ ends. leave_ends v n to lt i s ends.0 w ends.1 ends.2.0 ends.2.1) x

  pub main_still : (v w : View P) → w.main ≡ v.main → w.by ≡ v.by → IsMain v → IsMain w
  main_still v w e f m = record { main = e ∙ m.main; by = f ∙ m.by }

  pub main_shuts : (v : View P) (n : ℕ) (w : View P) → ShutsRow v n w → IsMain v → IsMain w
  main_shuts v n w x = ⊎_elim
      (λ stays. main_still v w (ap (λ z. z.main) stays.2) (ap (λ z. z.by) stays.2))
      (λ ends. main_still v w (ap (λ z. z.main) ends.2.1.1 ∙ ap (λ z. z.main) ends.1.2) (ap (λ z. z.by) ends.2.1.1 ∙ ap (λ z. z.by) ends.1.2))
      x.1

  pub main_quits : (v : View P) (j n : ℕ) (w : View P) → QuitsRow v j n w → IsMain v → IsMain w
  main_quits v j n w x = ⊎_elim
      (λ stays. main_still v w (ap (λ z. z.main) stays.0) (ap (λ z. z.by) stays.0))
      (λ ends. main_still v w (ap (λ z. z.main) ends.2.1.1 ∙ ap (λ z. z.main) ends.1.1) (ap (λ z. z.by) ends.2.1.1 ∙ ap (λ z. z.by) ends.1.1))
      x

  -- the main seat splits off a seat with rows and room for its events
  module _ (v : View P) (j a b to room splits : ℕ) (h : IsHost v j a to room (splits + 1)) (le : a ≤ b) (end : b ≤ to) (most : 7 * (b - a) ≤ room) where
    pub may_split : CanSplit v j a b (7 * (b - a))
    may_split = let r = h.room in let q = h.splits in (
      h.is.main,
      (λ e. outer_inner j (sym h.is.by ∙ e)),
      (λ m. let l = h.had j m in omega arith),
      (λ r w. let x = w.0 in let y = w.1 in (h.empty r w.0 (omega arith), λ q. among_nil (subst (λ l. IsAmong q.2.0 l) h.events q.2.1))),
      omega arith,
      omega arith,
      (λ r m. absurd (among_nil (subst (λ l. IsAmong (j, r) l) h.pairs m))),
    )

    pub host_still : IsHost (split_main v j a b (7 * (b - a))) (j + 1) b to (room - 7 * (b - a)) splits
    host_still = let r = h.room in let q = h.splits in record {
      is = record { main = h.is.main; by = h.is.by };
      events = h.events;
      pairs = ap (λ l. filter (λ (x : ℕ × ℕ). not (eqb x.0 j)) l) h.pairs;
      kept = ap (λ l. without j l) h.kept;
      had = (λ i m. ⊎_elim (λ x. let l = h.had i x in omega arith) (λ e. omega arith) (among_snoc v.had i j m));
      empty = (λ r c d. filter_among (λ (x : ℕ). not (within a b x)) r v.empty (h.empty r (omega arith) d) (ap not (out a b r c)));
      room = omega arith;
      splits = omega arith;
    }
      where
        out : (x y r : ℕ) → y ≤ r → within x y r ≡ false
        out x y r l = (elim (leb x r) as (λ c. cond c (ltb r y) false ≡ false) [ true ↦ le-ltb r y l | false ↦ refl ])

    pub guest_idle : IsIdle (split_off v j a b (7 * (b - a))) a b
    guest_idle = record {
      at = record {
        past = (λ x m. absurd (among_nil m));
        empty = (λ r c d. among_run (b - a) a r c (omega arith));
        handed = refl;
        taken = refl;
        had = refl;
      };
      opened = refl;
      pairs = ap (λ l. filter (λ (x : ℕ × ℕ). eqb x.0 j) l) h.pairs;
      kept = ap (λ l. filter (λ x. eqb x j) l) h.kept;
      room = omega arith;
    }

  pub host_start : (v : View P) (n m q : ℕ) → v ≡ start Outer n m q → IsHost v 1 0 n m q
  host_start v n m q e = subst (λ z. IsHost z 1 0 n m q) (sym e) (record {
    is = record { main = refl; by = refl };
    events = refl;
    pairs = refl;
    kept = refl;
    had = (λ i m. absurd (among_nil m));
    empty = (λ r a b. among_run n 0 r a (omega arith));
    room = omega arith;
    splits = omega arith;
  })

  pub at_start : (v : View P) (n q : ℕ) → v ≡ start Outer n (7 * n) q → IsIdle v 0 n
  at_start v n q e = subst (λ z. IsIdle z 0 n) (sym e) (record {
    at = record { past = (λ x m. absurd (among_nil m)); empty = (λ r a b. among_run n 0 r a (omega arith)); handed = refl; taken = refl; had = refl };
    opened = refl;
    pairs = refl;
    kept = refl;
    room = omega arith;
  })
