-- The seat of a guest at the end.
use Rattle.std.proofs.Common.{◌≡◌, ℕ, Bool, true, false, List, [], ◌∷◌, ◌++◌, refl, sym, ap, ◌∙◌, subst, ⊎_elim, eq-eqb}
use Rattle.chunk_core.specs.declared.code.Exit.{Exit}
use Rattle.chunk_core.specs.Lists.{IsAmong}
use Rattle.chunk_core.specs.Lists.IsAmong.{here}
use Rattle.chunk_core.proofs.Filters.{among_filter, filter_among}
use Rattle.chunk_core.proofs.Members.{among_nil, among_snoc}
use Rattle.row_seat.specs.declared.view.View.{View}
use Rattle.row_seat.proofs.Members.{among_without}
use Rattle.scope_tree.specs.Calls.{Cancels, Seen}
use Rattle.chunk_core.proofs.Reversed.{reverse_among}
use Rattle.scope_tree.proofs.Lessee.{lease_gone}
use Rattle.scope_tree.proofs.Parts.{eqb_eq}
use Rattle.scope_tree.proofs.Use.{cancel_follows}
use Rattle.tree_laws.specs.Alone.{StaysAlone}
use Rattle.tree_laws.specs.Called.{Called}
use Rattle.tree_laws.specs.Called.Called.{none, opened, acquired, written, leased, cancelled, closed, split, taken_in}
use Rattle.tree_laws.specs.Laws.{GuestsRest, SplitsMakeGuests}
use Rattle.tree_laws.proofs.Along.{called_after}
use Rattle.tree_laws.proofs.Alone.{alone_acquires, alone_closes, alone_opens}

pub nothing_among : {A : Type 0} (xs : List A) → ((x : A) → ¬ (IsAmong x xs)) → xs ≡ []
nothing_among [] n = refl
nothing_among (x ∷ xs) n = absurd (n x (here xs))

module _ {P : Type 0} where
  -- the Leases and leases that w has left v had, and they are not of those that were cancelled
  record HasLeasesLeft (v w : View P) (Cs : List (ℕ × List ℕ)) : Type 0 where
    kept : (i : ℕ) → IsAmong i w.kept → IsAmong i v.kept × ((T : List ℕ) → ¬ (IsAmong (i, T) Cs))
    pairs : (i r : ℕ) → IsAmong (i, r) w.pairs → IsAmong (i, r) v.pairs × ((T : List ℕ) → IsAmong (i, T) Cs → ¬ (IsAmong r T))

  left_alone : (u v w : View P) (Cs : List (ℕ × List ℕ)) → StaysAlone v w → HasLeasesLeft u v Cs → HasLeasesLeft u w Cs
  left_alone u v w Cs a h = record {
    kept = λ i m. h.kept i (subst (λ l. IsAmong i l) a.kept m);
    pairs = λ i r m. h.pairs i r (subst (λ l. IsAmong (i, r) l) a.pairs m);
  }

  left_cancelled : {ends : P → Exit → Bool → P → Type 0} {b c : Seen P} {j : ℕ} {T : List ℕ} {x : Exit} (u : View P) (Cs : List (ℕ × List ℕ)) → Cancels ends b j T x c → HasLeasesLeft u b.seat Cs → HasLeasesLeft u c.seat (Cs ++ (j, T) ∷ [])
  left_cancelled {b = b} {c = c} {j = j} {T = T} u Cs o h = record {
    kept = λ i m.
        let n = among_without j b.seat.kept i (subst (λ l. IsAmong i l) (ap (λ z. z.kept) (cancel_follows o).same) m) in
        let t = h.kept i n.0 in
        (t.0, λ U q. ⊎_elim (λ x. t.1 U x) (λ e. n.1 (ap (λ (z : ℕ × List ℕ). z.0) e)) (among_snoc Cs (i, U) (j, T) q));
    pairs = λ i r m.
        let t = h.pairs i r ((cancel_follows o).pairs (i, r) m) in (
          t.0,
          λ U q n. ⊎_elim
              (λ x. t.1 U x n)
              (λ e. lease_gone r o.left.2 (reverse_among r T (subst (λ l. IsAmong r l) (ap (λ (z : ℕ × List ℕ). z.1) e) n)) (subst (λ z. IsAmong (z, r) c.seat.pairs) (ap (λ (z : ℕ × List ℕ). z.0) e) m))
              (among_snoc Cs (i, U) (j, T) q),
        );
  }

module _ {P : Type 0} {ends : P → Exit → Bool → P → Type 0} where
  not_main : {A : Type 0} {a b : Seen P} {Cs : List (ℕ × List ℕ)} → a.seat.main ≡ false → Called ends a Cs b → b.seat.main ≡ true → A
  not_main f k t = absurd (let z : true ≡ false = sym t ∙ ((called_after k).main ∙ f) in cc)

  -- the tree of a seat that isn't the main one makes no lease
  called_left : {a b : Seen P} {Cs : List (ℕ × List ℕ)} → a.seat.main ≡ false → Called ends a Cs b → HasLeasesLeft a.seat b.seat Cs
  called_left f none = record { kept = λ i m. (m, λ T n. among_nil n); pairs = λ i r m. (m, λ T n. absurd (among_nil n)) }
  called_left {a = a} f (opened {Cs = Cs} b c at s k m o) = left_alone a.seat b.seat c.seat Cs (alone_opens o) (called_left f k)
  called_left {a = a} f (acquired {Cs = Cs} b c s r p k m o) = left_alone a.seat b.seat c.seat Cs (alone_acquires o) (called_left f k)
  called_left {a = a} f (written {Cs = Cs} b c r p k m o) = subst (λ (x : Seen P). HasLeasesLeft a.seat x.seat Cs) (sym o) (let h = called_left f k in record { kept = h.kept; pairs = h.pairs })
  called_left f (leased b c s j T k m o) = not_main f k m.main
  called_left {a = a} f (cancelled {Cs = Cs} b c j T x k m o) = left_cancelled a.seat Cs o (called_left f k)
  called_left {a = a} f (closed {Cs = Cs} b c s x k m o) = left_alone a.seat b.seat c.seat Cs (alone_closes o) (called_left f k)
  called_left f (split b c j from to n k m o) = not_main f k m.0
  called_left f (taken_in b c w k m p o) = not_main f k m.0

  pub guests_rest : GuestsRest ends
  guests_rest j n T y v open' =
      let h = called_left v.guest.main v.calls in
      let kept : y.seat.kept ≡ [] = nothing_among y.seat.kept (λ i m. let t = h.kept i m in t.1 T (subst (λ z. IsAmong {A = ℕ × List ℕ} (z, T) ((j, T) ∷ [])) (sym ((v.guest.kept i).0 t.0)) (here []))) in
      let pairs : y.seat.pairs ≡ [] = nothing_among y.seat.pairs (λ x m.
      let t = h.pairs x.0 x.1 m in let s = (v.guest.pairs x.0 x.1).0 t.0 in
      t.1 T (subst (λ z. IsAmong {A = ℕ × List ℕ} (z, T) ((j, T) ∷ [])) (sym s.0) (here [])) s.1) in
      (open'.0, open'.3, pairs, kept, open'.1, open'.2)

pub splits_make_guests : (P : Type 0) → SplitsMakeGuests P
splits_make_guests P v j from to n T start keeps holds = record {
  start = start;
  by = refl;
  main = refl;
  had = refl;
  floor = refl;
  kept = λ i. ((λ m. eqb_eq i j (among_filter _ i v.kept m).1), (λ e. filter_among _ i v.kept (subst (λ z. IsAmong z v.kept) (sym e) keeps) (eq-eqb i j e)));
  pairs = λ i r. (
    (λ m. let t = among_filter _ (i, r) v.pairs m in let e = eqb_eq i j t.1 in (e, (holds r).0 (subst (λ z. IsAmong (z, r) v.pairs) e t.0))),
    (λ s. filter_among _ (i, r) v.pairs (subst (λ z. IsAmong (z, r) v.pairs) (sym s.0) ((holds r).1 s.1)) (eq-eqb i j s.0)),
  );
}
