-- Another payload in a row leaves a main tree as far as it is.
use Rattle.std.proofs.Common.{◌≡◌, ◌≢◌, ℕ, Bool, true, false, nat_eq, List, [], ◌∷◌, cond, inl, refl, sym, ap, ◌∙◌, subst, ⊎_elim, arith}
use Rattle.chunk_core.specs.declared.code.Exit.{Exit}
use Rattle.chunk_core.specs.Lists.{IsAmong}
use Rattle.chunk_core.specs.Lists.IsAmong.{here, there}
use Rattle.chunk_core.proofs.Bools.{number}
use Rattle.chunk_core.proofs.Members.{among_cons, among_nil}
use Rattle.join_tree.specs.Given.{GivesMore}
use Rattle.join_tree.specs.Mains.{IsMain}
use Rattle.join_tree.specs.Notes.{GivesInPace, IsTold}
use Rattle.join_tree.specs.Progress.{Progress}
use Rattle.join_tree.specs.Steps.{KeepsGuests, TakesEvents}
use Rattle.join_tree.proofs.Given.{gives_none}
use Rattle.join_tree.proofs.Growing.{main_calls, root_same}
use Rattle.join_tree.proofs.Turns.{outs_calm}
use Rattle.join_tree.proofs.Queue.{waits_same}
use Rattle.row_seat.specs.Views.{HasRow, paid, with_row}
use Rattle.scope_tree.specs.Calls.{IsClosedScope, IsOpenScope, KeepsScopes, Seen, TakesRoom}
use Rattle.scope_tree.specs.Trace.{trace}
use Rattle.scope_tree.proofs.Lent.{length_with}
use Rattle.tree_laws.specs.Called.Called.{none, written}
use Rattle.tree_laws.proofs.Kept.{lent_stays}
use Rattle.list_rows.specs.Reading.{KeepsRowsBut}

module _ {P : Type 0} where
  -- the other rows have what they had
  with_other : (r : ℕ) (p : P) (y : ℕ × P) (xs : List (ℕ × P)) → y.0 ≢ r → IsAmong y xs → IsAmong y (with_row r p xs)
  with_other r p y [] ne m = absurd (among_nil m)
  with_other r p y (x ∷ xs) ne m = ⊎_elim
      (λ e. first (nat_eq x.0 r) refl (λ h. ne (ap (λ (z : ℕ × P). z.0) e ∙ h)) e)
      (λ i. later (nat_eq x.0 r) i (with_other r p y xs ne i))
      (among_cons m)
    where
      first : (b : Bool) → nat_eq x.0 r ≡ b → x.0 ≢ r → y ≡ x → IsAmong y (cond b ((x.0, p) ∷ xs) (x ∷ with_row r p xs))
      first true h n e = absurd (n (number x.0 r h))
      first false h n e = subst (λ z. IsAmong z (x ∷ with_row r p xs)) (sym e) (here (with_row r p xs))

      later : (b : Bool) → IsAmong y xs → IsAmong y (with_row r p xs) → IsAmong y (cond b ((x.0, p) ∷ xs) (x ∷ with_row r p xs))
      later true i j = there (x.0, p) i
      later false i j = there x j

  module _ (a b : Seen P) (r : ℕ) (p : P) (e : b ≡ record a { seat = paid a.seat r p }) where
    same_trace : trace b.seat ≡ trace a.seat
    same_trace = ap (λ (z : Seen P). trace z.seat) e

    pub paid_rows : KeepsRowsBut r a.seat b.seat
    paid_rows = record {
      noted = λ x m. subst (λ l. IsAmong x l) (sym (ap (λ (z : Seen P). z.seat.events) e)) m;
      left = λ y m. subst (λ l. IsAmong y l) (sym (ap (λ (z : Seen P). z.seat.left) e)) m;
      given = λ y m. subst (λ l. IsAmong y l) (sym (ap (λ (z : Seen P). z.seat.given) e)) m;
      opened = λ y ne m. inl (subst (λ l. IsAmong y l) (sym (ap (λ (z : Seen P). z.seat.opened) e)) (with_other r p y a.seat.opened ne m));
    }

    pub paid_scopes : KeepsScopes a b
    paid_scopes = record {
      usable = λ s u. subst (λ (z : Seen P). IsOpenScope z s) (sym e) u;
      closed = λ s u. subst (λ (z : Seen P). IsClosedScope z s) (sym e) u;
    }

    pub paid_room : TakesRoom 0 0 a b
    paid_room = subst (λ (z : Seen P). TakesRoom 0 0 a z) (sym e) (record { opens = omega arith; used = omega arith; own = λ T. omega arith; scopes = refl; rows = refl })

    pub paid_events : TakesEvents 0 a b
    paid_events = subst (λ (z : Seen P). TakesEvents 0 a z) (sym e) (let l = length_with r p a.seat.opened in omega (l, arith))

    pub paid_gives : GivesMore [] a b
    paid_gives = gives_none a b same_trace

    module _ (ends : P → Exit → Bool → P → Type 0) (has : HasRow a.seat.opened r) where
      pub paid_guests : KeepsGuests a b
      paid_guests = record {
        out = ap (λ (z : Seen P). z.seat.out) e;
        splits = ap (λ (z : Seen P). z.seat.splits) e;
        empty = λ q m. subst (λ l. IsAmong q l) (sym (ap (λ (z : Seen P). z.seat.empty) e)) m;
        lent = λ j T l. lent_stays {ends = ends} (written a b r p none has e) l;
      }

      pub paid_main : (width n : ℕ) (q : Progress P) → IsMain ends width n a q → IsMain ends width n b q
      paid_main width n q h =
          let events : b.seat.events ≡ a.seat.events = ap (λ (z : Seen P). z.seat.events) e in
          main_calls a b q q.waits q.next q.leased q.tables q.root q.ahead q.last [] h (written a b r p none has e) (λ j U m. absurd (among_nil m)) (ap (λ (z : Seen P). z.seat.had) e) (ap (λ (z : Seen P). z.seat.out) e)
          h.order
          h.few
          (omega arith)
          (waits_same a.seat b.seat q.waits (ap (λ (z : Seen P). z.seat.kept) e) (ap (λ (z : Seen P). z.seat.pairs) e) h.waits)
          (λ j U m. lent_stays {ends = ends} (written a b r p none has e) (h.lent j U m))
          (root_same a b q.root (ap (λ (z : Seen P). z.seat.by) e) events h.root)
          (subst (λ L. IsTold q L) (sym events) h.told)
          (subst (λ L. GivesInPace width L) (sym events) h.gives)
          (outs_calm a.seat b.seat h.outs
          (λ j m. subst (λ l. IsAmong j l) (ap (λ (z : Seen P). z.seat.out) e) m)
          (λ x m. subst (λ l. IsAmong x l) (sym events) m)
          (λ x j s m w. subst (λ l. IsAmong x l) events m)
          (λ x y m by w. subst (λ l. IsAmong x l) events m))
