-- What is kept of guests and rows, by one step after another.
use Rattle.std.proofs.Common.{ℕ, ◌+◌, ◌≤◌, Bool, List, length, inl, inr, refl, sym, ap, ◌∙◌, subst, ⊎_elim, arith}
use Rattle.chunk_core.specs.declared.code.Exit.{Exit}
use Rattle.chunk_core.specs.Lists.{IsAmong}
use Rattle.chunk_core.proofs.Members.{among_left}
use Rattle.join_tree.specs.Guests.{AreOut, Guest}
use Rattle.join_tree.specs.Steps.{KeepsGuests, KeepsRows}
use Rattle.outer_tables.specs.Rows.{AcquiresRows}
use Rattle.scope_tree.specs.Calls.{Seen}
use Rattle.tree_families.specs.Families.{Split}
use Rattle.tree_laws.proofs.Kept.{lent_stays}
use Rattle.outer_stream.specs.Steps.{KeepsOthers}

module _ {P : Type 0} where
  pub others_same : (t : ℕ) (a : Seen P) → KeepsOthers t a a
  others_same t a = record { out = refl; splits = refl; empty = λ r l m. m; lent = λ j T h. h }

  pub others_kept : (t : ℕ) (a b : Seen P) → KeepsGuests a b → KeepsOthers t a b
  others_kept t a b k = record { out = k.out; splits = k.splits; empty = λ r l m. k.empty r m; lent = k.lent }

  pub others_then : (s t : ℕ) (a b c : Seen P) → s ≤ t → KeepsOthers t a b → KeepsOthers s b c → KeepsOthers t a c
  others_then s t a b c few k l = record { out = l.out ∙ k.out; splits = l.splits ∙ k.splits; empty = λ r h m. l.empty r (omega (h, few, arith)) (k.empty r h m); lent = λ j T h. l.lent j T (k.lent j T h) }

  -- the same guests are out
  pub outs_others : (t : ℕ) (a b : Seen P) (ms : List Split) (gs : List Guest) → KeepsOthers t a b → AreOut a ms gs → AreOut b ms gs
  outs_others t a b ms gs k o = record {
    each = λ g m. let t = o.each g m in record { out = subst (λ l. IsAmong g.stream l) (sym k.out) t.out; floor = t.floor; lent = k.lent g.stream g.rows t.lent };
    all = λ j m. o.all j (subst (λ l. IsAmong j l) k.out m);
    apart = o.apart;
  }

  pub rows_same : (a : Seen P) → KeepsRows a.seat a.seat
  rows_same a = record { noted = λ e m. m; left = λ y m. m; given = λ y m. m; opened = λ y m. inl m }

  pub rows_then : (a b c : Seen P) → KeepsRows a.seat b.seat → KeepsRows b.seat c.seat → KeepsRows a.seat c.seat
  rows_then a b c k l = record {
    noted = λ e m. l.noted e (k.noted e m);
    left = λ y m. l.left y (k.left y m);
    given = λ y m. l.given y (k.given y m);
    opened = λ y m. ⊎_elim (λ o. l.opened y o) (λ i. inr (l.left y i)) (k.opened y m);
  }

  module _ (xs : P → Exit → Bool → P → Type 0) (s r : ℕ) (ps : List P) (a b : Seen P) (f : AcquiresRows xs s r ps a b) where
    pub acquired_keeps : (t : ℕ) → r + length ps ≤ t → KeepsOthers t a b
    acquired_keeps t few = record {
      out = ap (λ z. z.seat.out) f.tree;
      splits = ap (λ z. z.seat.splits) f.tree;
      empty = λ q l m. (f.empty q).1 (m, λ w. let y = w.1 in absurd (omega (y, l, few, arith)));
      lent = λ j T h. lent_stays f.calls h;
    }

    pub acquired_rows : KeepsRows a.seat b.seat
    acquired_rows = record {
      noted = λ e m. subst (λ l. IsAmong e l) (sym (ap (λ z. z.seat.events) f.tree)) (among_left f.events m);
      left = λ y m. subst (λ l. IsAmong y l) (sym (ap (λ z. z.seat.left) f.tree)) m;
      given = λ y m. subst (λ l. IsAmong y l) (sym (ap (λ z. z.seat.given) f.tree)) m;
      opened = λ y m. inl (subst (λ l. IsAmong y l) (sym (ap (λ z. z.seat.opened) f.tree)) (among_left _ m));
    }
