-- What the rule tells of the rows that one seat has, and of their slots.
use Rattle.std.proofs.Common.{◌≡◌, ◌≢◌, ℕ, ◌+◌, ◌*◌, ◌≤◌, ◌⊎◌, map, List, ◌++◌, sym, ◌∙◌, subst, ⊎_elim, arith, length-append}
use Rattle.std.specs.Prelude.{Option}
use Rattle.chunk_core.specs.Lists.{IsAmong}
use Rattle.chunk_core.proofs.Filters.{among_append}
use Rattle.chunk_core.proofs.Places.{at_map}
use Rattle.res_ledger.specs.declared.event.Event.{Event}
use Rattle.row_seat.specs.declared.token.Token.{Token}
use Rattle.row_seat.specs.Rule.{IsInside, IsSeated, PaysAgree, Purse, RuleHolds, Holdings, purse, work}
use Rattle.row_seat.specs.Totals.{IsAt, times, total}
use Rattle.row_seat.proofs.Moves.{row_empty, row_handed, row_leased, row_open}
use Rattle.row_seat.proofs.Rows.{one_place}
use Rattle.row_seat.proofs.Times.{few_below, times_both, times_some}
use Rattle.row_seat.proofs.Totals.{total_at, total_one, total_sum}

module _ {P : Type 0} {rows room : ℕ} {word : ℕ → ℕ} {slot : ℕ → Option P} {log : List Event} {views : List (Token P)} (rule : RuleHolds rows room word slot log views) where
  held_once : (r : ℕ) → total (λ (u : Holdings). times r u.opened + times r u.handed) (map work views) ≤ 1
  held_once r = let s = one_place (rule.words r) in let t = total_sum (λ (u : Holdings). times r u.opened) (λ (u : Holdings). times r u.handed) (map work views) in omega arith

  module _ {id : ℕ} {v : Token P} (seat : IsSeated views id v) where
    open seat use {at}

    pub inside : IsInside rows v
    inside = let e = λ (r : ℕ) (m : IsAmong r v.empty). (row_empty rule seat r m).0 in let o = λ (r : ℕ) (m : IsAmong r v.opened). (row_open rule seat r m).0 in record {
      empty = e;
      opened = o;
      pairs = λ j r m. (row_leased rule seat j r m).0;
      handed = λ r m. (row_handed rule seat r m).0;
      few = let l = length-append v.empty v.opened in
          let t = few_below rows (v.empty ++ v.opened) (λ r m. ⊎_elim (e r) (o r) (among_append r v.empty v.opened m))
          (λ r. let b = times_both r v.empty v.opened in let s = one_place (rule.words r) in let k = at_map work views id v at in
          let x = total_at (λ (u : Holdings). times r u.empty) (map work views) id (work v) k in let y = total_at (λ (u : Holdings). times r u.opened) (map work views) id (work v) k in omega arith) in omega arith;
    }

    -- no other seat has a row that this one has open or handed
    pub alone_at : (r i : ℕ) (u : Token P) → IsAmong r v.opened ⊎ IsAmong r v.handed → IsAt views i u → IsAmong r u.opened ⊎ IsAmong r u.handed → i ≡ id
    alone_at r i u mine g theirs = let f = λ (u : Holdings). times r u.opened + times r u.handed in
        let one : (z : Token P) → IsAmong r z.opened ⊎ IsAmong r z.handed → 1 ≤ times r z.opened + times r z.handed = λ z. ⊎_elim (λ m. let t = times_some r z.opened m in omega arith) (λ m. let t = times_some r z.handed m in omega arith) in
        total_one f (map work views) i id (work u) (work v) (held_once r) (at_map work views i u g) (at_map work views id v at) (one u theirs) (one v mine)

-- the slot of a row that awaits no lease, and isn't handed and untaken, may change
slot_free : {P : Type 0} (word : ℕ → ℕ) (slot slot' : ℕ → Option P) (log : List Event) (ps : List (Purse P)) (r : ℕ) → PaysAgree word slot log ps → ((q : ℕ) → q ≢ r → slot' q ≡ slot q) → ((n : ℕ) → word r ≡ 3 + 4 * n → 1 ≤ n → ⊥)
    → ((i : ℕ) (p : Purse P) → IsAt ps i p → IsAmong r p.handed → IsAmong r p.taken) → PaysAgree word slot' log ps
slot_free word slot slot' log ps r k elsewhere quiet lifted = record {
  left_when = k.left_when;
  given_when = k.given_when;
  left_one = k.left_one;
  given_is = k.given_is;
  waits = λ q n e le. let t = k.waits q n e le in (t.0, t.1, elsewhere q (λ s. quiet n (subst (λ a. word a ≡ 3 + 4 * n) s e) le) ∙ t.2);
  handed = λ i q p g m. let t = k.handed i q p g m in (t.0, t.1, λ f. elsewhere q (λ s. f (subst (λ a. IsAmong a p.taken) (sym s) (lifted i p g (subst (λ a. IsAmong a p.handed) s m)))) ∙ t.2 f);
  final = k.final;
}

module _ {P : Type 0} {rows room : ℕ} {word : ℕ → ℕ} {slot : ℕ → Option P} {log : List Event} {views : List (Token P)} (rule : RuleHolds rows room word slot log views) (r : ℕ) where
  pub with_slot : (slot' : ℕ → Option P) → ((q : ℕ) → q ≢ r → slot' q ≡ slot q) → ((n : ℕ) → word r ≡ 3 + 4 * n → 1 ≤ n → ⊥) → ((i : ℕ) (p : Purse P) → IsAt (map purse views) i p → IsAmong r p.handed → IsAmong r p.taken) → RuleHolds rows room word slot' log views
  with_slot slot' elsewhere quiet lifted = record {
    seats = rule.seats;
    books = rule.books;
    words = rule.words;
    ownerships = rule.ownerships;
    leases = rule.leases;
    pays = slot_free word slot slot' log (map purse views) r rule.pays elsewhere quiet lifted;
    small = rule.small;
    taken_in = rule.taken_in;
  }
