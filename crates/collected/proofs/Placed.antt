-- Where the Closes of the roots stand in the ledger.
use Rattle.std.proofs.Common.{◌≡◌, ℕ, ◌<◌, List, ◌∷◌, ◌++◌, sym, ◌∙◌, subst, ⊎_elim}
use Rattle.chunk_core.specs.Lists.{IsAmong}
use Rattle.chunk_core.specs.declared.code.Exit.{Exit}
use Rattle.chunk_core.proofs.Cuts.{two_places}
use Rattle.dealt_streams.specs.Places.{ClosedAs}
use Rattle.join_tree.specs.Progress.{Progress}
use Rattle.join_tree.specs.Settled.{Settles}
use Rattle.res_ledger.specs.Ledger.{IsLegal, MayFollow, NotesClose}
use Rattle.res_ledger.specs.Ledger.LiesWithin.{same}
use Rattle.res_ledger.specs.declared.event.Event.{Event}
use Rattle.res_ledger.specs.declared.event.StreamNo.{StreamNo}
use Rattle.res_ledger.specs.declared.event.StreamNo.TheVariants.{Inner, Outer}
use Rattle.res_ledger.specs.declared.event.What.TheVariants.{Close}
use Rattle.res_ledger.proofs.Prefixes.{split_at}
use Rattle.scope_tree.specs.Calls.{Seen}
use Rattle.stop_places.specs.Places.{ClosedWithin}

-- before a Close of its root stands none of its stream
none_before : (L A B : List Event) (e f : Event) (k : StreamNo) (x y : Exit) → IsLegal L → L ≡ A ++ e ∷ B → e.by ≡ k → e.what ≡ Close 0 x → IsAmong f A → f.by ≡ k → f.what ≡ Close 0 y → ⊥
none_before L A B e f k x y legal is by w m other v =
    let may : MayFollow A k (Close 0 x) = subst (λ q. MayFollow A q (Close 0 x)) by (subst (λ z. MayFollow A e.by z) w (legal A B e is)) in
    may.1 (0, same 0, (y, (f, m, other, v)))

-- a stream closes its root once
pub one_close : (L : List Event) (e f : Event) (k : StreamNo) (x y : Exit) → IsLegal L → IsAmong e L → IsAmong f L → e.by ≡ k → f.by ≡ k → e.what ≡ Close 0 x → f.what ≡ Close 0 y → e ≡ f
one_close L e f k x y legal m n by other w v =
    let t = split_at e L m in
    let u = split_at f L n in
    ⊎_elim
    (λ s. s.0)
    (λ s. ⊎_elim (λ i. absurd (none_before L u.0 u.1 f e k y x legal u.2 other v i by w)) (λ i. absurd (none_before L t.0 t.1 e f k x y legal t.2 by w i other v)) s)
    (two_places t.0 t.1 u.0 u.1 e f (sym t.2 ∙ u.2))

module _ {P : Type 0} (width n : ℕ) (b : Seen P) (q : Progress P) (L : List Event) (s : Settles width n b q L) where
  -- wherever a stream closed its root, the stamp is such as it is kept
  pub closes_as : (is : ℕ → Type 0) (k : StreamNo) → ClosedAs b q is k → (e : Event) (x : Exit) → IsAmong e L → e.by ≡ k → e.what ≡ Close 0 x → is e.stamp
  closes_as is Outer c e x m by w =
      let all : e ≡ c.0 = one_close L e c.0 Outer x c.1 s.whole.legal m ((s.ledger.whole c.0).1 c.2) by c.3 w c.4 in
      subst (λ (z : Event). is z.stamp) (sym all) c.5
  closes_as is (Inner k) c e x m by w = c.3 e x ((s.told.own c.0 c.1 e (by ∙ sym c.2)).0 m) w

  -- and it closed it where each stream did that came back
  pub closed_within : ((k : ℕ) (y : Seen P) → IsAmong y q.back → y.seat.by ≡ Inner k → NotesClose L (Inner k) 0) → (at : ℕ) (k : StreamNo) → ClosedAs b q (λ n. n < at) k → ClosedWithin L k at
  closed_within closed at Outer c = (c.0, c.1, (s.ledger.whole c.0).1 c.2, c.3, c.4, c.5)
  closed_within closed at (Inner k) c =
      let r = closed k c.0 c.1 c.2 in
      let e = r.1.0 in
      (e, r.0, r.1.1, r.1.2, r.1.3, c.3 e r.0 ((s.told.own c.0 c.1 e (r.1.2 ∙ sym c.2)).0 r.1.1) r.1.3)
