-- The rule holds at the start.
use Rattle.std.proofs.Common.{◌≡◌, ℕ, zero, suc, ◌≤◌, true, false, List, [], ◌∷◌, ◌++◌, length, slice_index_or, inl, inr, refl, sym, ap, ◌∙◌, subst, ⊎_elim, arith, length-append}
use Rattle.std.specs.Prelude.{None, Option, slice_index, vec_capacity, vec_len}
use mathlib.Core.Option.{some-ne-none, some-injective}
use Rattle.row_seat.specs.Totals.{IsAt}
use Rattle.row_seat.specs.Rule.{Book, Ownership, Hold, Purse, RuleHolds, Who, book, ownership, hold, purse, who}
use Rattle.chunk_core.specs.Lists.{IsAmong}
use Rattle.std.specs.Map.{keys_of}
use Rattle.row_seat.specs.PlainSeats.{IsTable, Sits}
use Rattle.row_seat.specs.Steps.{first_token}
use Rattle.res_ledger.specs.Ledger.{Notes}
use Rattle.row_seat.specs.declared.plain.PlainSeat.{PlainSeat}
use Rattle.row_seat.specs.declared.plain.PlainTable.{PlainTable}
use Rattle.res_ledger.specs.declared.event.StreamNo.{StreamNo}
use Rattle.row_seat.specs.declared.token.Token.{Token}
use Rattle.res_ledger.specs.declared.event.What.{What}
use Rattle.chunk_core.proofs.Members.{among_nil}
use Rattle.row_seat.specs.Rule.RowStands.{beyond, vacant}
use Rattle.chunk_core.proofs.Filters.{bool_not}
use Rattle.row_seat.proofs.Times.{run_in, run_length, run_out}
use Rattle.row_seat.proofs.Splits.{span_cases}

pub zeros_push : (xs : List ℕ) → ((r : ℕ) → slice_index_or xs r 0 ≡ 0) → (r : ℕ) → slice_index_or (xs ++ 0 ∷ []) r 0 ≡ 0
zeros_push [] h zero = refl
zeros_push [] h (suc r) = refl
zeros_push (x ∷ xs) h zero = h 0
zeros_push (x ∷ xs) h (suc r) = zeros_push xs (λ q. h (suc q)) r

only_one : {V : Type 0} (a v : V) (i : ℕ) → IsAt (a ∷ []) i v → (i ≡ 0) × (a ≡ v)
only_one a v zero e = (refl, some-injective a v e)
only_one a v (suc i) e = absurd (some-ne-none v (sym e))

no_parts : {A : Type 0} (P Q : List A) (x : A) → [] ≡ P ++ x ∷ Q → ⊥
no_parts P Q x e = let l = ap length e in let m = length-append P (x ∷ Q) in omega arith

none_noted : (k : StreamNo) (w : What) → ¬ (Notes [] k w)
none_noted k w n = among_nil n.1

pub one_view : {V : Type 0} (a : V) (Q : ℕ → V → Type 0) → Q 0 a → (i : ℕ) (v : V) → IsAt (a ∷ []) i v → Q i v
one_view a Q q i v g = let t = only_one a v i g in subst (λ z. Q i z) t.1 (subst (λ n. Q n a) (sym t.0) q)

module _ {P : Type 0} (by : StreamNo) (rows events splits : ℕ) (word : ℕ → ℕ) (slot : ℕ → Option P) (zero' : (r : ℕ) → word r ≡ 0) where
  abbrev f : Token P
  f = first_token by rows events splits

  pub starts : RuleHolds rows events word slot [] (f ∷ [])
  starts = record {
    seats = record {
      main = (0, who f, refl, refl);
      one = λ i j v w g h m n. (only_one (who f) v i g).0 ∙ sym (only_one (who f) w j h).0;
      alive = one_view (who f) (λ i w. w.main ≡ true → w.live ≡ true) (λ m. refl);
      out = λ i j v w g h m l n. absurd (bool_not (ap (λ (z : Who). z.main) (only_one (who f) w j h).1 ∙ n));
      had = λ i n v g m a. absurd (among_nil (subst (λ (z : Who). IsAmong n z.out) (sym (only_one (who f) v i g).1) a));
      apart = λ i n v g m a. absurd (among_nil (subst (λ (z : Who). IsAmong n z.had) (sym (only_one (who f) v i g).1) a));
      names = λ i j v w g h l m e. (only_one (who f) v i g).0 ∙ sym (only_one (who f) w j h).0;
      noted = λ i v e g m a. absurd (among_nil a);
    };
    books = record {
      stamped = λ Q R e h. absurd (no_parts Q R e h);
      legal = λ Q R e h. absurd (no_parts Q R e h);
      sum = omega arith;
      inside = λ i b e g. subst (λ (z : Book). IsAmong e z.events → IsAmong e []) (only_one (book f) b i g).1 (λ m. m);
      whole = λ e m. absurd (among_nil m);
      own = one_view (book f) (λ i b. b.live ≡ true → _) (λ l. refl);
      pure = λ i b e g. subst (λ (z : Book). z.main ≡ false → IsAmong e z.events → e.by ≡ z.by) (only_one (book f) b i g).1 (λ l m. absurd (among_nil m));
      floor = λ i b g. subst (λ (z : Book). z.floor ≤ 0) (only_one (book f) b i g).1 (omega arith);
      once = λ n. omega arith;
      one = λ i j b c d e g h m. absurd (among_nil (subst (λ (z : Book). IsAmong d z.events) (sym (only_one (book f) b i g).1) m));
      order = λ i b e g m. absurd (among_nil (subst (λ (z : Book). IsAmong e z.events) (sym (only_one (book f) b i g).1) m));
      above = λ i b e g m. absurd (among_nil (subst (λ (z : Book). IsAmong e z.events) (sym (only_one (book f) b i g).1) m));
    };
    words = λ r. ⊎_elim
        (λ s. let s1 = s.1 in let i = run_in r 0 rows (omega arith) (omega arith) in vacant s.1 (zero' r) (omega arith) (omega arith) (omega arith) (omega arith) (λ x. none_noted x.0 _ x.2.1))
        (λ s. let i = run_out r 0 rows (⊎_elim (λ a. inl a) (λ b. inr (omega arith)) s) in beyond (⊎_elim (λ a. absurd (omega arith)) (λ b. b) s) (omega arith) (omega arith) (omega arith) (omega arith) (λ x. none_noted x.0 _ x.2))
        (span_cases 0 rows r);
    ownerships = record {
      fresh = λ i r t k d g m n. absurd (none_noted k _ n);
      opened = λ i r d g m. absurd (among_nil (subst (λ (z : Ownership). IsAmong r z.opened) (sym (only_one (ownership f) d i g).1) m));
      handed = λ i r d g m. absurd (among_nil (subst (λ (z : Ownership). IsAmong r z.handed) (sym (only_one (ownership f) d i g).1) m));
    };
    leases = record {
      by_main = λ i j s k h g m n. absurd (none_noted k _ n);
      stand = λ j r k c. absurd (no_parts c.0 c.1 c.2 c.4);
      paired = λ i j r h g m. absurd (among_nil (subst (λ (z : Hold). IsAmong (j, r) z.pairs) (sym (only_one (hold f) h i g).1) m));
      holder = λ i j r h g m. absurd (among_nil (subst (λ (z : Hold). IsAmong (j, r) z.pairs) (sym (only_one (hold f) h i g).1) m));
      kept = λ i j h g m. absurd (among_nil (subst (λ (z : Hold). IsAmong j z.kept) (sym (only_one (hold f) h i g).1) m));
      keeper = λ j l. absurd (none_noted l.0 _ l.2);
      kept_once = λ j. omega arith;
      pair_once = λ j r. omega arith;
    };
    pays = record {
      left_when = λ r x t. absurd (among_nil (subst (λ (z : Purse P). IsAmong (r, x) z.left) (sym (only_one (purse f) t.1 t.0 t.2).1) t.3));
      given_when = λ r x t. absurd (among_nil (subst (λ (z : Purse P). IsAmong (r, x) z.given) (sym (only_one (purse f) t.1 t.0 t.2).1) t.3));
      left_one = λ r x y t u. absurd (among_nil (subst (λ (z : Purse P). IsAmong (r, x) z.left) (sym (only_one (purse f) t.1 t.0 t.2).1) t.3));
      given_is = λ r x t. absurd (among_nil (subst (λ (z : Purse P). IsAmong (r, x) z.given) (sym (only_one (purse f) t.1 t.0 t.2).1) t.3));
      waits = λ r n e le. let z = zero' r in absurd (omega arith);
      handed = λ i r p g m. absurd (among_nil (subst (λ (z : Purse P). IsAmong r z.handed) (sym (only_one (purse f) p i g).1) m));
      final = λ r x. absurd (none_noted x.0 _ x.2.1);
    };
    taken_in = one_view f (λ i v. v.live ≡ false → _) (λ l. absurd (bool_not l));
    small = λ i j r v g m. absurd (among_nil (subst (λ (z : Token P). IsAmong (j, r) z.pairs) (sym (only_one f v i g).1) m));
  }

module _ {P : Type 0} (s : PlainSeat P) (d : PlainTable P) (by : StreamNo) (rows events splits : ℕ) (token : s.token ≡ first_token by rows events splits) (views : d.views ≡ first_token by rows events splits ∷ []) (id : s.id ≡ 0) (name : s.by ≡ by)
    (slots : length d.slots.items ≡ rows) (words : length d.words.items ≡ rows) (zero' : (r : ℕ) → slice_index d.words.items r ≡ 0) (room : events ≤ vec_capacity d.events) (log : d.events.items ≡ []) (none : s.hands.items ≡ []) (many : rows ≤ vec_capacity s.hands) (len : vec_len s.hands ≡ 0) where
  table : IsTable d.slots.items d.words.items [] (vec_capacity d.events) (first_token by rows events splits ∷ [])
  table = record {
    room = events;
    enough = room;
    words_are = words ∙ sym slots;
    rule = subst (λ n. RuleHolds n events (λ r. slice_index d.words.items r) (λ r. slice_index_or d.slots.items r None) [] (first_token by rows events splits ∷ [])) (sym slots) (starts by rows events splits (λ r. slice_index d.words.items r) (λ r. slice_index_or d.slots.items r None) zero');
    load = let e = run_length 0 rows in let f = slots in omega arith;
  }

  pub start_sits : Sits s d
  start_sits = record {
    table = subst (λ l. IsTable d.slots.items d.words.items l (vec_capacity d.events) d.views) (sym log) (subst (λ l. IsTable d.slots.items d.words.items [] (vec_capacity d.events) l) (sym views) table);
    seated = record { at = rw (views, id, token) refl; live = ap (λ (u : Token P). u.live) token };
    by = name ∙ ap (λ (u : Token P). u.by) (sym token);
    held = ap keys_of none ∙ ap (λ (u : Token P). u.opened) (sym token);
    hold = rw token (let e = run_length 0 rows in omega arith);
    whole = λ m. omega arith;
  }
