-- What a call of a tree leaves of what its stream noted.
use Rattle.std.proofs.Common.{◌≡◌, ◌≢◌, ℕ, ◌<◌, ◌≤◌, ◌⊎◌, Bool, true, false, List, [], ◌∷◌, ◌++◌, inl, inr, refl, sym, ap, ◌∙◌, subst, ⊎_elim, append_assoc, append-nil}
use Rattle.std.proofs.lemmas.Bool.{cases_eq}
use Rattle.chunk_core.specs.declared.code.Exit.{Exit}
use Rattle.chunk_core.specs.Lists.{IsAmong}
use Rattle.chunk_core.proofs.Filters.{among_append}
use Rattle.chunk_core.proofs.Members.{among_left, among_last, among_snoc}
use Rattle.res_ledger.specs.declared.event.Event.{Event}
use Rattle.res_ledger.specs.declared.event.StreamNo.{StreamNo}
use Rattle.res_ledger.specs.declared.event.StreamNo.TheVariants.{Inner}
use Rattle.res_ledger.specs.declared.event.What.{What}
use Rattle.res_ledger.specs.declared.event.What.TheVariants.{Open, Acquire, Lease, Cancel, Close, Final}
use Rattle.res_ledger.specs.Ledger.{Notes, NotesCancel}
use Rattle.res_ledger.specs.Own.{leased_of}
use Rattle.res_ledger.specs.Streams.{by_stream}
use Rattle.res_ledger.proofs.Growth.{noted_more, noted_new}
use Rattle.res_ledger.proofs.Ledgers.{by_both, by_in, by_none, inner_is}
use Rattle.res_ledger.specs.Rising.{Rises}
use Rattle.row_seat.specs.declared.view.View.{View}
use Rattle.row_seat.specs.Views.{AreApart, CanJoin, CanSplit, IsFreshStamp, joined, kept_after, name_of, noted, split_main}
use Rattle.row_seat.proofs.Members.{among_kept, among_without}
use Rattle.scope_tree.proofs.Shelf.{by_snoc, rises_snoc}

-- what a seat knows of its stream's events, of its Leases and of the seats that it gave
pub record Folio : Type 0 where
  pub by : StreamNo
  pub main : Bool
  pub floor : ℕ
  pub events : List Event
  pub kept : List ℕ
  pub had : List ℕ
  pub out : List ℕ

abbrev pub folio : {P : Type 0} → View P → Folio
folio v = record { by = v.by; main = v.main; floor = v.floor; events = v.events; kept = v.kept; had = v.had; out = v.out }

-- the Lease for j is kept, or its stream had a seat, or its Cancel is noted
abbrev pub IsMet : Folio → ℕ → Type 0
IsMet v j = IsAmong j v.kept ⊎ (IsAmong j v.had ⊎ NotesCancel v.events v.by j)

-- the streams whose seats are out had a seat, and are others than this one
abbrev pub IsGiven : Folio → Type 0
IsGiven v = (j : ℕ) → IsAmong j v.out → IsAmong j v.had × (v.by ≢ Inner j)

-- the stream j had a seat, which isn't out, and is another than this one
abbrev pub IsBack : Folio → ℕ → Type 0
IsBack v j = IsAmong j v.had × ¬ (IsAmong j v.out) × (v.by ≢ Inner j)

-- each event is in the seat's own name or in that of a seat that came back
abbrev pub AreNamed : Folio → Type 0
AreNamed v = (e : Event) → IsAmong e v.events → (e.by ≡ v.by) ⊎ ((j : ℕ) × (e.by ≡ Inner j) × IsBack v j)

-- no event in its own name stands below its floor
abbrev pub AreFloored : Folio → Type 0
AreFloored v = (e : Event) → IsAmong e v.events → e.by ≡ v.by → v.floor ≤ e.stamp

-- w is what has become of v
pub record IsAfter (v w : Folio) : Type 0 where
  pub by : w.by ≡ v.by
  pub main : w.main ≡ v.main
  pub more : List Event
  pub events : w.events ≡ v.events ++ more
  pub rises : Rises (by_stream v.by v.events) → Rises (by_stream w.by w.events)
  pub met : (j : ℕ) → IsMet v j → IsMet w j
  pub had : v.main ≡ false → w.had ≡ v.had
  pub own : v.main ≡ false → (e : Event) → IsAmong e w.events → IsAmong e v.events ⊎ ((e.by ≡ w.by) × (leased_of e.what ≡ []))
  pub given : IsGiven v → IsGiven w
  pub back : (j : ℕ) → IsBack v j → IsBack w j × ((e : Event) → IsAmong e w.events → e.by ≡ Inner j → IsAmong e v.events)
  pub named : IsGiven v → AreNamed v → AreNamed w
  pub floor : w.floor ≡ v.floor
  pub floored : AreFloored v → AreFloored w

pub after_same : (v : Folio) → IsAfter v v
after_same v = record {
  by = refl;
  main = refl;
  more = [];
  events = sym (append-nil v.events);
  rises = λ r. r;
  met = λ j m. m;
  had = λ m. refl;
  own = λ m e n. inl n;
  given = λ g. g;
  back = λ j h. (h, λ e m k. m);
  named = λ g h. h;
  floor = refl;
  floored = λ h. h;
}

pub after_then : (u v w : Folio) → IsAfter u v → IsAfter v w → IsAfter u w
after_then u v w a b = record {
  by = b.by ∙ a.by;
  main = b.main ∙ a.main;
  more = a.more ++ b.more;
  events = b.events ∙ ap (λ l. l ++ b.more) a.events ∙ append_assoc u.events a.more b.more;
  rises = λ r. b.rises (a.rises r);
  met = λ j m. b.met j (a.met j m);
  had = λ m. b.had (a.main ∙ m) ∙ a.had m;
  own = λ m e n. ⊎_elim (λ o. ⊎_elim (λ i. inl i) (λ k. inr (k.0 ∙ sym b.by, k.1)) (a.own m e o)) (λ k. inr k) (b.own (a.main ∙ m) e n);
  given = λ g. b.given (a.given g);
  back = λ j h. let x = a.back j h in let y = b.back j x.0 in (y.0, λ e m k. x.1 e (y.1 e m k) k);
  named = λ g h. b.named (a.given g) (a.named g h);
  floor = b.floor ∙ a.floor;
  floored = λ h. b.floored (a.floored h);
}

-- an event takes a Lease away only if it is its Cancel
kept_or : (w : What) (j : ℕ) (xs : List ℕ) → IsAmong j xs → IsAmong j (kept_after w xs) ⊎ ((x : Exit) × (w ≡ Cancel j x))
kept_or (Open s p) j xs m = inl m
kept_or (Acquire r s) j xs m = inl m
kept_or (Lease i s) j xs m = inl (among_left (i ∷ []) m)
kept_or (Cancel i x) j xs m = ⊎_elim (λ e. inr (x, ap (λ z. Cancel z x) (sym e))) (λ ne. inl (among_kept i xs j m ne)) (cases_eq j i)
kept_or (Close s x) j xs m = inl m
kept_or (Final r x ok) j xs m = inl m

-- the seat's event with the stamp n
abbrev pub with_event : Folio → ℕ → What → Folio
with_event v n w = record v { events = v.events ++ record { stamp = n; by = v.by; what = w } ∷ []; kept = kept_after w v.kept }

-- an event that is a Lease only where the seat is the main one
pub after_event : (v : Folio) (n : ℕ) (w : What) → v.floor ≤ n → ((e : Event) → IsAmong e v.events → e.stamp < n) → (leased_of w ≡ []) ⊎ (v.main ≡ true) → IsAfter v (with_event v n w)
after_event v n w low f plain =
    let e : Event = record { stamp = n; by = v.by; what = w } in record {
      by = refl;
      main = refl;
      more = e ∷ [];
      events = refl;
      rises = λ r. subst Rises (sym (by_snoc v.by v.events e refl)) (rises_snoc (by_stream v.by v.events) e r (λ x m. f x (by_in v.by v.events x m).0));
      met = λ j m. ⊎_elim
          (λ k. ⊎_elim (λ l. inl l) (λ c. inr (inr (c.0, subst (λ x. Notes (v.events ++ e ∷ []) v.by x) c.1 (noted_new v.events e)))) (kept_or w j v.kept k))
          (λ o. inr (⊎_elim (λ h. inl h) (λ c. inr (c.0, noted_more v.events e c.1)) o))
          m;
      had = λ m. refl;
      own = λ m x n. ⊎_elim
          (λ o. inl o)
          (λ i. ⊎_elim (λ l. inr (ap (λ (z : Event). z.by) i, ap (λ (z : Event). leased_of z.what) i ∙ l)) (λ t. absurd (let z : true ≡ false = sym t ∙ m in cc)) plain)
          (among_snoc v.events x e n);
      given = λ g. g;
      back = λ j h. (h, λ x m k. ⊎_elim (λ o. o) (λ i. absurd (h.2 (sym (ap (λ (z : Event). z.by) i) ∙ k))) (among_snoc v.events x e m));
      named = λ g h x m. ⊎_elim (λ o. h x o) (λ i. inl (ap (λ (z : Event). z.by) i)) (among_snoc v.events x e m);
      floor = refl;
      floored = λ h x m k. ⊎_elim (λ o. h x o k) (λ i. subst (λ (z : Event). v.floor ≤ z.stamp) (sym i) low) (among_snoc v.events x e m);
    }

module _ {P : Type 0} where
  pub after_noted : (v : View P) (n : ℕ) (w : What) → IsFreshStamp v n → (leased_of w ≡ []) ⊎ (v.main ≡ true) → IsAfter (folio v) (folio (noted v (record { stamp = n; by = v.by; what = w })))
  after_noted v n w f plain = after_event (folio v) n w f.0 f.1 plain

  pub after_split : (v : View P) (j from to n : ℕ) → CanSplit v j from to n → IsAfter (folio v) (folio (split_main v j from to n))
  after_split v j from to n c = record {
    by = refl;
    main = refl;
    more = [];
    events = sym (append-nil v.events);
    rises = λ r. r;
    met = λ i m. ⊎_elim
        (λ k. ⊎_elim (λ e. inr (inl (subst (λ x. IsAmong x (v.had ++ j ∷ [])) (sym e) (among_last v.had j)))) (λ ne. inl (among_kept j v.kept i k ne)) (cases_eq i j))
        (λ o. inr (⊎_elim (λ h. inl (among_left (j ∷ []) h)) (λ x. inr x) o))
        m;
    had = λ m. absurd (let z : true ≡ false = sym c.0 ∙ m in cc);
    own = λ m e n. inl n;
    given = λ g i m. ⊎_elim
        (λ o. let t = g i o in (among_left (j ∷ []) t.0, t.1))
        (λ e. (subst (λ x. IsAmong x (v.had ++ j ∷ [])) (sym e) (among_last v.had j), λ s. c.1 (s ∙ ap Inner e)))
        (among_snoc v.out i j m);
    back = λ i h. ((among_left (j ∷ []) h.0, (λ m. ⊎_elim h.1 (λ e. c.2 (subst (λ x. IsAmong x v.had) e h.0)) (among_snoc v.out i j m)), h.2), λ e m k. m);
    named = λ g h e m. ⊎_elim
        (λ k. inl k)
        (λ k. inr (k.0, k.1, (among_left (j ∷ []) k.2.0, (λ o. ⊎_elim k.2.1 (λ i. c.2 (subst (λ x. IsAmong x v.had) i k.2.0)) (among_snoc v.out k.0 j o)), k.2.2)))
        (h e m);
    floor = refl;
    floored = λ h. h;
  }

  pub after_joined : (v w : View P) → CanJoin v w → AreApart v w → IsAfter (folio v) (folio (joined v w))
  after_joined v w c a = record {
    by = refl;
    main = refl;
    more = w.events;
    events = refl;
    rises = λ r. subst Rises (sym (by_both v.by v.events w.events ∙ ap (λ l. by_stream v.by v.events ++ l) (by_none v.by w.events a.events) ∙ append-nil (by_stream v.by v.events))) r;
    met = λ j m. ⊎_elim (λ k. inl k) (λ o. inr (⊎_elim (λ h. inl h) (λ c. inr (c.0, (c.1.0, among_left w.events c.1.1, c.1.2, c.1.3))) o)) m;
    had = λ m. refl;
    given = λ g j m. g j (among_without (name_of w.by) v.out j m).0;
    back = λ j h. (
      (h.0, (λ m. h.1 (among_without (name_of w.by) v.out j m).0), h.2),
      λ e m k. ⊎_elim (λ o. o) (λ o. absurd (h.1 (subst (λ x. IsAmong x v.out) (inner_is c.1.0 j (sym c.1.1 ∙ (sym (a.own e o) ∙ k))) c.1.2))) (among_append e v.events w.events m),
    );
    own = λ m. absurd (let z : true ≡ false = sym c.0 ∙ m in cc);
    named = λ g h e m. ⊎_elim
        (λ o. ⊎_elim (λ k. inl k) (λ k. inr (k.0, k.1, (k.2.0, (λ i. k.2.1 (among_without (name_of w.by) v.out k.0 i).0), k.2.2))) (h e o))
        (λ o. let t = g c.1.0 c.1.2 in inr (c.1.0, a.own e o ∙ c.1.1, (t.0, (λ i. (among_without (name_of w.by) v.out c.1.0 i).1 (sym (ap name_of c.1.1))), t.1)))
        (among_append e v.events w.events m);
    floor = refl;
    floored = λ h e m k. ⊎_elim (λ o. h e o k) (λ o. absurd (a.events e o k)) (among_append e v.events w.events m);
  }
