-- A seat and its table after a call.
use Rattle.std.proofs.Common.{◌≡◌, ◌≢◌, ℕ, ◌+◌, ◌-◌, ◌*◌, ◌<◌, ◌≤◌, ◌^◌, true, map, List, [], ◌∷◌, ◌++◌, length, slice_set, refl, sym, ap, ◌∙◌, subst, arith, length-append, filter, not}
use Rattle.std.specs.Prelude.{Some, None, Option, slice_index, slice_index_or, vec_capacity, vec_len}
use Rattle.std.proofs.lemmas.List.{get_or_default, get_or-set_same, get_or-set_other, length-set, length_push, length-map}
use Rattle.chunk_core.specs.Lists.{IsAmong}
use Rattle.chunk_core.proofs.Filters.{bool_not}
use Rattle.chunk_core.proofs.Places.{at_map}
use Rattle.known.specs.declared.Known.{Known}
use Rattle.res_ledger.specs.declared.event.Event.{Event}
use Rattle.res_ledger.specs.declared.event.StreamNo.TheVariants.{Inner}
use Rattle.res_ledger.specs.declared.event.What.{What}
use Rattle.res_ledger.proofs.Ledgers.{stamp_below}
use Rattle.row_seat.specs.declared.plain.PlainSeat.{PlainSeat}
use Rattle.row_seat.specs.declared.plain.PlainTable.{PlainTable}
use Rattle.row_seat.specs.declared.token.Token.{Token}
use Rattle.std.specs.Map.{keys_of}
use Rattle.row_seat.specs.PlainSeats.{IsTable, Sits, shown}
use Rattle.row_seat.specs.Rule.{Book, IsSeated, RuleHolds, book, purse}
use Rattle.row_seat.specs.Steps.{gone, handed_over, joined, leased, noted, placed, shut, taken_in, split_main, split_off, took}
use Rattle.row_seat.specs.Totals.{IsAt}
use Rattle.row_seat.specs.Views.{CanClose, CanJoin, CanLease, CanLeave, CanPlace, CanSplit, HasRow, IsFreshStamp, MayNote, OthersFit, within}
use Rattle.row_seat.proofs.Changes.{more_else, more_here, more_last, total_both, total_more, two_else, two_first}
use Rattle.row_seat.proofs.Hands.{row_among}
use Rattle.row_seat.proofs.Joins.{apart, join_keeps}
use Rattle.row_seat.proofs.Members.{length_without, one_shorter}
use Rattle.row_seat.proofs.Moves.{close_stays, close_yours, lease_keeps, leave_keeps, leave_last, place_keeps, row_empty, row_handed, row_leased, row_open, take_keeps}
use Rattle.row_seat.proofs.Splits.{run_fits, split_keeps}
use Rattle.row_seat.proofs.Tells.{leases_below}
use Rattle.row_seat.proofs.Ticked.{tick_keeps}
use Rattle.row_seat.proofs.Times.{run_length}
use Rattle.row_seat.proofs.Totals.{one_at, put_else, put_here, total_at, total_set, total_two}

-- a table whose views become l
module _ {P : Type 0} {d' : PlainTable P} (l : List (Token P)) (views : d'.views ≡ l) (table : IsTable d'.slots.items d'.words.items d'.events.items (vec_capacity d'.events) l) where
  -- a seat whose view stays
  still_sits : {d : PlainTable P} → length d'.slots.items ≡ length d.slots.items → (o : PlainSeat P) → Sits o d → IsAt l o.id o.token → Sits o d'
  still_sits many o k at = record {
    table = subst (λ l. IsTable d'.slots.items d'.words.items d'.events.items (vec_capacity d'.events) l) (sym views) table;
    seated = record { at = subst (λ l. IsAt l o.id o.token) (sym views) at; live = k.seated.live };
    by = k.by;
    held = k.held;
    hold = k.hold;
    whole = λ m. let n = k.whole m in omega arith;
  }

  -- a seat whose view becomes w
  now_sits : (s' : PlainSeat P) (w : Token P) → s'.token ≡ w → IsAt l s'.id w → w.live ≡ true → s'.by ≡ w.by → keys_of s'.hands.items ≡ w.opened → length w.empty + vec_len s'.hands ≤ vec_capacity s'.hands → (w.main ≡ true → length d'.slots.items ≤ vec_capacity s'.hands) → Sits s' d'
  now_sits s' w is at live by held hold whole = record {
    table = subst (λ l. IsTable d'.slots.items d'.words.items d'.events.items (vec_capacity d'.events) l) (sym views) table;
    seated = record { at = subst (λ l. IsAt l s'.id s'.token) (sym views) (subst (λ t. IsAt l s'.id t) (sym is) at); live = ap (λ (t : Token P). t.live) is ∙ live };
    by = by ∙ ap (λ (t : Token P). t.by) (sym is);
    held = held ∙ ap (λ (t : Token P). t.opened) (sym is);
    hold = subst (λ (t : Token P). length t.empty + vec_len s'.hands ≤ vec_capacity s'.hands) (sym is) hold;
    whole = λ m. whole (ap (λ (t : Token P). t.main) (sym is) ∙ m);
  }

-- the views of two seats with different names stand apart
pub other_place : {P : Type 0} {views : List (Token P)} {id jd : ℕ} {v w : Token P} → IsSeated views id v → IsSeated views jd w → w.by ≢ v.by → jd ≢ id
other_place {P = P} {views = views} {id = id} {v = v} {w = w} a b ne e = ne (ap (λ (t : Token P). t.by) (one_at views id w v (subst (λ n. IsAt views n w) e b.at) a.at))

-- a step of one seat
module _ {P : Type 0} {s' : PlainSeat P} {d' : PlainTable P} {s : PlainSeat P} {d : PlainTable P} (h : Sits s d) (w : Token P) (views : d'.views ≡ slice_set d.views s.id w)
    (table : IsTable d'.slots.items d'.words.items d'.events.items (vec_capacity d'.events) (slice_set d.views s.id w)) (many : length d'.slots.items ≡ length d.slots.items) where
  pub sits_put : s'.id ≡ s.id → s'.token ≡ w → w.live ≡ true → s'.by ≡ w.by → keys_of s'.hands.items ≡ w.opened → length w.empty + vec_len s'.hands ≤ vec_capacity s'.hands → (w.main ≡ true → length d'.slots.items ≤ vec_capacity s'.hands) → Sits s' d'
  sits_put id is = now_sits (slice_set d.views s.id w) views table s' w is (subst (λ n. IsAt (slice_set d.views s.id w) n w) (sym id) (put_here d.views s.id s.token w h.seated.at))

module _ {P : Type 0} {d' : PlainTable P} {s : PlainSeat P} {d : PlainTable P} (h : Sits s d) (w : Token P) (views : d'.views ≡ slice_set d.views s.id w)
    (table : IsTable d'.slots.items d'.words.items d'.events.items (vec_capacity d'.events) (slice_set d.views s.id w)) (many : length d'.slots.items ≡ length d.slots.items) where
  pub others_put : OthersFit shown Sits s.token.by d d'
  others_put o ne k = still_sits (slice_set d.views s.id w) views table many o k (put_else d.views s.id o.id o.token w (other_place h.seated k.seated ne) k.seated.at)

module _ {P : Type 0} {s : PlainSeat P} {d : PlainTable P} (h : Sits s d) where
  open h use {table, seated}

  abbrev v : Token P
  v = s.token

  abbrev words : List ℕ
  words = d.words.items

  abbrev slots : List (Option P)
  slots = d.slots.items

  word_now : (r x : ℕ) → r < length slots → slice_index (slice_set words r x) r ≡ x
  word_now r x l = get_or-set_same words r x 0 (let e = table.words_are in omega arith)

  word_else : (r x q : ℕ) → q ≢ r → slice_index (slice_set words r x) q ≡ slice_index words q
  word_else r x q ne = get_or-set_other words r q x 0 ne

  slot_now : (r : ℕ) (x : Option P) → r < length slots → slice_index_or (slice_set slots r x) r None ≡ x
  slot_now r x l = get_or-set_same slots r x None l

  slot_else : (r : ℕ) (x : Option P) (q : ℕ) → q ≢ r → slice_index_or (slice_set slots r x) q None ≡ slice_index_or slots q None
  slot_else r x q ne = get_or-set_other slots r q x None ne

  table_put : {slots' : List (Option P)} {words' : List ℕ} {events' : List Event} (w : Token P) → length words' ≡ length words → length slots' ≡ length slots
      → RuleHolds (length slots) table.room (λ r. slice_index words' r) (λ r. slice_index_or slots' r None) events' (slice_set d.views s.id w)
      → length w.empty + length w.opened ≤ length v.empty + length v.opened → IsTable slots' words' events' (vec_capacity d.events) (slice_set d.views s.id w)
  table_put {slots' = slots'} {words' = words'} {events' = events'} w lw ls rule load = record {
    room = table.room;
    enough = table.enough;
    words_are = lw ∙ (table.words_are ∙ sym ls);
    rule = subst (λ n. RuleHolds n table.room (λ r. slice_index words' r) (λ r. slice_index_or slots' r None) events' (slice_set d.views s.id w)) (sym ls) rule;
    load = let a = total_set (λ (u : Token P). length u.empty + length u.opened) d.views s.id v w seated.at in let b = table.load in omega arith;
  }

  -- a row of the table has a word and a slot
  pub has_place : (r : ℕ) → r < length slots → (r < vec_len d.words) × (r < vec_len d.slots)
  has_place r l = let e = table.words_are in let a = d.words.ok.0 in let b = d.slots.ok.0 in (omega arith, omega arith)

  pub word_read : (r x : ℕ) → r < length slots → x ≡ slice_index_or words r x → x ≡ slice_index words r
  word_read r x l e = e ∙ get_or_default words r x 0 (let a = table.words_are in omega arith)

  pub slot_read : (r : ℕ) (x : Option P) → r < length slots → x ≡ slice_index_or slots r x → x ≡ slice_index_or slots r None
  slot_read r x l e = e ∙ get_or_default slots r x None l

  pub in_hand : (r : ℕ) → HasRow s.hands.items r → IsAmong r v.opened
  in_hand r m = row_among r s.hands.items v.opened h.held m

  pub empty_row : (r : ℕ) → IsAmong r v.empty → r < length slots
  empty_row r m = (row_empty table.rule seated r m).0

  pub open_row : (r : ℕ) → HasRow s.hands.items r → r < length slots
  open_row r m = (row_open table.rule seated r (in_hand r m)).0

  pub handed_row : (r : ℕ) → IsAmong r v.handed → r < length slots
  handed_row r m = (row_handed table.rule seated r m).0

  pub leased_row : (j r : ℕ) → IsAmong (j, r) v.pairs → (r < length slots) × (4 ≤ slice_index words r)
  leased_row j r m = row_leased table.rule seated j r m

  -- no word runs over
  pub word_small : (r : ℕ) → HasRow s.hands.items r → slice_index words r + 4 < 2 ^ 64
  word_small r m = let b = row_open table.rule seated r (in_hand r m) in let w = leases_below table.rule r in let b1 = b.1 in omega arith

  pub place_table : (r : ℕ) → CanPlace (shown s) r → IsTable slots (slice_set words r 1) d.events.items (vec_capacity d.events) (slice_set d.views s.id (placed v r))
  place_table r can =
      table_put (placed v r) (length-set words r 1) refl
      (place_keeps table.rule seated (λ q. slice_index (slice_set words r 1) q) r (word_else r 1) (word_now r 1 (empty_row r can.0)) can.0 can.1.0 can.1.1)
      (let l = length_without r v.empty can.0 in let p = length_push v.opened r in omega arith)

  pub lease_table : (j r n : ℕ) → j < 2 ^ 32 → CanLease (shown s) j r → n ≡ slice_index words r → IsTable slots (slice_set words r (n + 4)) d.events.items (vec_capacity d.events) (slice_set d.views s.id (leased v j r))
  lease_table j r n small can is =
      let x = n + 4 in
      table_put (leased v j r) (length-set words r x) refl
      (lease_keeps table.rule seated (λ q. slice_index (slice_set words r x) q) r (word_else r x) (word_now r x (open_row r can.1) ∙ ap (λ n. n + 4) is) j small can.0 (in_hand r can.1) can.2 can.5 can.4)
      (omega arith)

  pub room_left : 1 ≤ v.spare → length d.events.items + 1 ≤ vec_capacity d.events
  room_left sp =
      let a = table.rule.books.sum in let e = table.enough in
      let t = total_at (λ (b : Book). b.spare) (map book d.views) s.id (book v) (at_map book d.views s.id v seated.at) in omega arith

  pub fresh_stamp : IsFreshStamp (shown s) (length d.events.items)
  fresh_stamp = let k = table.rule.books in let at = at_map book d.views s.id v seated.at in
      (k.floor s.id (book v) at, λ e m. stamp_below d.events.items e k.stamped (k.inside s.id (book v) e at m))

  pub tick_table : (x : What) → MayNote (shown s) x → 1 ≤ v.spare → let e : Event = record { stamp = length d.events.items; by = v.by; what = x } in IsTable slots words (d.events.items ++ e ∷ []) (vec_capacity d.events) (slice_set d.views s.id (noted v e))
  tick_table x may sp = let e : Event = record { stamp = length d.events.items; by = v.by; what = x } in
      table_put (noted v e) refl refl (tick_keeps table.rule seated sp s.hands.items x may) (omega arith)

  pub last_slot : (r : ℕ) → slice_index words r ≡ 7 → (p : P) × (slice_index_or slots r None ≡ Some p)
  last_slot r e = let x = table.rule.pays.waits r 1 (let a : 7 ≡ 3 + 4 * 1 = refl in e ∙ a) (omega arith) in (x.0, x.2)

  module _ (j r n : ℕ) (can : CanLeave (shown s) j r) (is : n ≡ slice_index words r) where
    now : slice_index (slice_set words r (n - 4)) r ≡ n - 4
    now = word_now r (n - 4) (leased_row j r can.0).0

    pub leave_table : n - 4 ≢ 3 → IsTable slots (slice_set words r (n - 4)) d.events.items (vec_capacity d.events) (slice_set d.views s.id (gone v j r))
    leave_table stays =
        let b = (leased_row j r can.0).1 in let t = now in
        table_put (gone v j r) (length-set words r (n - 4)) refl
        (leave_keeps table.rule seated (λ q. slice_index (slice_set words r (n - 4)) q) r (word_else r (n - 4)) j can.0 can.1 (omega arith) (λ e. stays (sym t ∙ e)))
        (omega arith)

    pub last_table : (p : P) → n - 4 ≡ 3 → slice_index_or slots r None ≡ Some p → IsTable slots (slice_set words r (n - 4)) d.events.items (vec_capacity d.events) (slice_set d.views s.id (handed_over (gone v j r) r p))
    last_table p last lies =
        let b = (leased_row j r can.0).1 in let t = now in
        table_put (handed_over (gone v j r) r p) (length-set words r (n - 4)) refl
        (leave_last table.rule seated (λ q. slice_index (slice_set words r (n - 4)) q) r (word_else r (n - 4)) j p can.0 can.1 (omega arith) (t ∙ last) lies)
        (omega arith)

  module _ (r n : ℕ) (p : P) (can : CanClose (shown s) r) (is : n ≡ slice_index words r) where
    now' : slice_index (slice_set words r (n + 2)) r ≡ n + 2
    now' = word_now r (n + 2) (open_row r can.0)

    pub stays_table : n + 2 ≢ 3 → IsTable (slice_set slots r (Some p)) (slice_set words r (n + 2)) d.events.items (vec_capacity d.events) (slice_set d.views s.id (shut v r p))
    stays_table stays =
        table_put (shut v r p) (length-set words r (n + 2)) (length-set slots r (Some p))
        (close_stays table.rule seated (λ q. slice_index (slice_set words r (n + 2)) q) r (word_else r (n + 2)) (λ q. slice_index_or (slice_set slots r (Some p)) q None) p (slot_else r (Some p)) (slot_now r (Some p) (open_row r can.0)) can.1.0 can.1.1 can.1.2 (in_hand r can.0) can.2 (now' ∙ ap (λ k. k + 2) is) (λ e. stays (sym now' ∙ e)))
        (let l = one_shorter r v.opened in omega arith)

    pub yours_table : n + 2 ≡ 3 → IsTable (slice_set slots r (Some p)) (slice_set words r (n + 2)) d.events.items (vec_capacity d.events) (slice_set d.views s.id (handed_over (shut v r p) r p))
    yours_table last =
        table_put (handed_over (shut v r p) r p) (length-set words r (n + 2)) (length-set slots r (Some p))
        (close_yours table.rule seated (λ q. slice_index (slice_set words r (n + 2)) q) r (word_else r (n + 2)) (λ q. slice_index_or (slice_set slots r (Some p)) q None) p (slot_else r (Some p)) (slot_now r (Some p) (open_row r can.0)) can.1.0 can.1.1 can.1.2 (in_hand r can.0) can.2 (now' ∙ ap (λ k. k + 2) is) (now' ∙ last))
        (let l = one_shorter r v.opened in omega arith)

  pub take_table : (r : ℕ) → IsAmong r v.handed → IsTable (slice_set slots r None) words d.events.items (vec_capacity d.events) (slice_set d.views s.id (took v r))
  take_table r mine =
      table_put (took v r) refl (length-set slots r None)
      (take_keeps table.rule seated (λ q. slice_index_or (slice_set slots r None) q None) r (slot_else r None) mine)
      (omega arith)

  -- what a handed row's slot holds
  pub taken_slot : (r : ℕ) → IsAmong r v.handed → ¬ (IsAmong r v.taken) → (p : P) × IsAmong (r, p) v.given × (slice_index_or slots r None ≡ Some p)
  taken_slot r m n = let x = table.rule.pays.handed s.id r (purse v) (at_map purse d.views s.id v seated.at) m in (x.0, x.1, x.2 n)

-- one seat takes another in
module _ {P : Type 0} {s o : PlainSeat P} {d : PlainTable P} (h : Sits s d) (k : Sits o d) (can : CanJoin (shown s) (shown o)) where
  abbrev after : List (Token P)
  after = slice_set (slice_set d.views s.id (joined s.token o.token)) o.id (taken_in o.token)

  no_open : o.token.opened ≡ []
  no_open = sym k.held ∙ ap keys_of can.2.0

  two : s.id ≢ o.id
  two = apart h.table.rule h.seated k.seated can.0 can.1.0 can.1.1 can.1.2 no_open can.2.2 can.2.3 can.2.4

  pub join_table : IsTable d.slots.items d.words.items d.events.items (vec_capacity d.events) after
  join_table = let v = s.token in let w = o.token in record {
    room = h.table.room;
    enough = h.table.enough;
    words_are = h.table.words_are;
    rule = join_keeps h.table.rule h.seated k.seated can.0 can.1.0 can.1.1 can.1.2 no_open can.2.2 can.2.3 can.2.4;
    load = let a = total_both d.views s.id o.id v w (joined v w) (taken_in w) h.seated.at k.seated.at two (λ (u : Token P). length u.empty + length u.opened) in let b = h.table.load in let c = length-append v.empty w.empty in omega arith;
  }

  module _ {d' : PlainTable P} (views : d'.views ≡ after) (table : IsTable d'.slots.items d'.words.items d'.events.items (vec_capacity d'.events) after) (many : length d'.slots.items ≡ length d.slots.items) where
    pub join_sits : (t : Known (Token P)) → t ≡ joined s.token o.token → let s' : PlainSeat P = record s { token = t } in Sits s' d'
    join_sits t is = let v = s.token in let w = o.token in now_sits after views table (record s { token = t }) (joined v w) is (two_first d.views s.id o.id v w (joined v w) (taken_in w) h.seated.at k.seated.at two) h.seated.live h.by h.held
        (let a = total_two (λ (u : Token P). length u.empty + length u.opened) d.views s.id o.id v w two h.seated.at k.seated.at in let b = h.table.load in let c = length-append v.empty w.empty in let f = h.whole can.0 in
        let e : length (keys_of s.hands.items) ≡ length v.opened = ap length h.held in let l = length-map s.hands.items (λ (x : ℕ × P). x.0) in let q = s.hands.ok.0 in omega arith)
        (λ m. let f = h.whole can.0 in omega arith)

    pub join_others : (x : PlainSeat P) → x.token.by ≢ s.token.by → x.token.by ≢ o.token.by → Sits x d → Sits x d'
    join_others x ne me y = let v = s.token in let w = o.token in still_sits after views table many x y
        (two_else d.views s.id o.id v w (joined v w) (taken_in w) h.seated.at k.seated.at two x.id x.token (other_place h.seated y.seated ne) (other_place k.seated y.seated me) y.seated.at)

-- one seat is split off
module _ {P : Type 0} {s : PlainSeat P} {d : PlainTable P} (h : Sits s d) {j from to n : ℕ} (can : CanSplit (shown s) j from to n) where
  abbrev parted : List (Token P)
  parted = slice_set d.views s.id (split_main s.token j from to n) ++ split_off s.token j from to n ∷ []

  cut_fits : length (filter (λ r. not (within from to r)) s.token.empty) + (to - from) ≤ length s.token.empty
  cut_fits = run_fits from to s.token.empty (λ r a. (can.3 r a).0)

  pub split_table : IsTable d.slots.items d.words.items d.events.items (vec_capacity d.events) parted
  split_table = let v = s.token in let a = split_main v j from to n in let b = split_off v j from to n in record {
    room = h.table.room;
    enough = h.table.enough;
    words_are = h.table.words_are;
    rule = split_keeps h.table.rule h.seated j from to n can.0 can.1 can.2 can.3 can.4 can.6;
    load = let t = total_more d.views s.id v a b h.seated.at (λ (u : Token P). length u.empty + length u.opened) in let l = h.table.load in let c = cut_fits in let e = run_length from (to - from) in omega arith;
  }

  module _ {d' : PlainTable P} (views : d'.views ≡ parted) (table : IsTable d'.slots.items d'.words.items d'.events.items (vec_capacity d'.events) parted) (many : length d'.slots.items ≡ length d.slots.items) where
    pub split_sits : (t : Known (Token P)) → t ≡ split_main s.token j from to n → let s' : PlainSeat P = record s { token = t } in Sits s' d'
    split_sits t is = let v = s.token in let a = split_main v j from to n in let b = split_off v j from to n in
        now_sits parted views table (record s { token = t }) a is (more_here d.views s.id v a b h.seated.at) h.seated.live h.by h.held (let c = cut_fits in let f = h.hold in omega arith) (λ m. let f = h.whole can.0 in omega arith)

    pub split_new : (o : PlainSeat P) → o.id ≡ length d.views → o.token ≡ split_off s.token j from to n → o.by ≡ Inner j → o.hands.items ≡ [] → vec_len o.hands ≡ 0 → to - from ≤ vec_capacity o.hands → Sits o d'
    split_new o id is by items none room = let v = s.token in let a = split_main v j from to n in let b = split_off v j from to n in
        now_sits parted views table o b is (subst (λ k. IsAt parted k b) (sym id) (more_last d.views s.id v a b h.seated.at)) refl by (ap keys_of items) (let e = run_length from (to - from) in omega arith) (λ m. absurd (bool_not (sym m)))

    pub split_others : OthersFit shown Sits s.token.by d d'
    split_others x ne y = let v = s.token in let a = split_main v j from to n in let b = split_off v j from to n in
        still_sits parted views table many x y (more_else d.views s.id v a b h.seated.at x.id x.token (other_place h.seated y.seated ne) y.seated.at)
