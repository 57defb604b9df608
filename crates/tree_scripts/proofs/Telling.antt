-- What a stream that is alone has noted, call by call.
use Rattle.std.proofs.Common.{◌≡◌, ℕ, Bool, List, [], ◌∷◌, ◌++◌, refl, sym, ap, ◌∙◌, subst, cond, not}
use Rattle.chunk_core.specs.declared.code.Exit.{Exit}
use Rattle.chunk_core.specs.Lists.{IsAmong}
use Rattle.chunk_core.specs.Lists.IsAmong.{here, there}
use Rattle.chunk_core.proofs.Members.{among_nil}
use Rattle.res_ledger.specs.declared.event.Event.{Event}
use Rattle.res_ledger.specs.declared.event.StreamNo.{StreamNo}
use Rattle.res_ledger.specs.declared.event.What.{What}
use Rattle.res_ledger.specs.declared.event.What.TheVariants.{Acquire, Cancel, Close, Lease, Open}
use Rattle.res_ledger.specs.Ledger.{stamped}
use Rattle.res_ledger.specs.Order.{finals, firsts}
use Rattle.res_ledger.specs.Own.{teardown}
use Rattle.res_ledger.specs.Rising.{Rises}
use Rattle.res_ledger.specs.Streams.{by_stream}
use Rattle.row_seat.specs.declared.view.View.{View}
use Rattle.row_seat.specs.Views.{HasPair, IsLedgerOf}
use Rattle.scope_tree.specs.Calls.{AcquiresRow, AtStart, Cancels, ClosesScope, Leases, OpensScope, Seen}
use Rattle.scope_tree.specs.Leased.{leased_all}
use Rattle.scope_tree.specs.Released.{said}
use Rattle.scope_tree.specs.Trace.{trace}
use Rattle.scope_tree.proofs.Follows.{follows_alone, same_by}
use Rattle.scope_tree.proofs.Use.{acquired_said, cancel_follows, canceled_said, close_follows, closed_by, closed_said, leased_said, open_one, opened_said, start_said}
use Rattle.tree_scripts.specs.Waiting.{NotesAlone, noted_by}
use Rattle.tree_scripts.proofs.Alone.{alone_more}
use Rattle.tree_scripts.proofs.Finished.{ledger_stamped}
use Rattle.scope_tree.specs.Rows.{unleased}
use Rattle.scope_tree.proofs.Ending.{close_unleased, leased_on}

-- the seat of the stream k has the events E of that stream, and no others
pub record Tells {P : Type 0} (k : StreamNo) (E : List What) (v : View P) : Type 0 where
  pub by : v.by ≡ k
  pub said : trace v ≡ E
  pub alone : NotesAlone v

module _ {P : Type 0} {k : StreamNo} where
  pub new_tells : {v w : View P} → AtStart v → w ≡ v → v.by ≡ k → Tells k [] w
  new_tells {v = v} {w = w} a e b = record { by = ap (λ z. z.by) e ∙ b; said = start_said v w a e; alone = λ x m. absurd (among_nil (subst (λ l. IsAmong x l) (ap (λ z. z.events) e ∙ a.events) m)) }

  pub first_tells : {a b : Seen P} {c : ℕ} → Tells k [] a.seat → (o : OpensScope a 0 c b) → Tells k (Open 1 0 ∷ []) b.seat
  first_tells {a = a} {b = b} {c = c} t o = record { by = ap (λ v. v.by) o.seat ∙ t.by; said = open_one t.said o; alone = subst (λ v. NotesAlone v) (sym o.seat) (alone_more a.seat o.stamp (Open c o.parent) t.alone) }

module _ {P : Type 0} {k : StreamNo} {E : List What} where
  pub open_tells : {a b : Seen P} {at c : ℕ} → Tells k E a.seat → (o : OpensScope a at c b) → Tells k (E ++ Open c o.parent ∷ []) b.seat
  open_tells {a = a} {b = b} {c = c} t o = record {
    by = ap (λ v. v.by) o.seat ∙ t.by;
    said = opened_said o ∙ ap (λ l. l ++ Open c o.parent ∷ []) t.said;
    alone = subst (λ v. NotesAlone v) (sym o.seat) (alone_more a.seat o.stamp (Open c o.parent) t.alone);
  }

  pub acquire_tells : {a b : Seen P} {s r : ℕ} {p : P} → Tells k E a.seat → AcquiresRow a s r p b → Tells k (E ++ Acquire r s ∷ []) b.seat
  acquire_tells {a = a} {b = b} {s = s} {r = r} t o = record {
    by = ap (λ v. v.by) o.seat ∙ t.by;
    said = acquired_said o ∙ ap (λ l. l ++ Acquire r s ∷ []) t.said;
    alone = subst (λ v. NotesAlone v) (sym o.seat) (alone_more a.seat o.stamp (Acquire r s) t.alone);
  }

  pub lease_tells : {a b : Seen P} {s j : ℕ} {T : List ℕ} → Tells k E a.seat → Leases a s j T b → Tells k (E ++ Lease j s ∷ []) b.seat
  lease_tells {a = a} {b = b} {s = s} {j = j} {T = T} t o = record {
    by = ap (λ v. v.by) o.seat ∙ t.by;
    said = leased_said o ∙ ap (λ l. l ++ Lease j s ∷ []) t.said;
    alone = subst (λ v. NotesAlone v) (sym o.seat) (alone_more (leased_all a.seat j T) o.stamp (Lease j s) t.alone);
  }

  pub close_tells : {ends : P → Exit → Bool → P → Type 0} {x : Exit} {a b : Seen P} {s : ℕ} → Tells k E a.seat → (c : ClosesScope ends a s x b) → Tells k (E ++ Close s x ∷ finals x (said c.torn.0)) b.seat
  close_tells {x = x} {a = a} {s = s} t c = record {
    by = closed_by c ∙ t.by;
    said = closed_said c ∙ ap (λ l. l ++ Close s x ∷ finals x (said c.torn.0)) t.said;
    alone = follows_alone (close_follows c) (alone_more a.seat c.stamp (Close s x) t.alone);
  }

  pub cancel_tells : {ends : P → Exit → Bool → P → Type 0} {x : Exit} {a b : Seen P} {j : ℕ} {T : List ℕ} → Tells k E a.seat → (c : Cancels ends a j T x b) → Tells k (E ++ Cancel j x ∷ finals x (said c.left.0)) b.seat
  cancel_tells {x = x} {a = a} {j = j} t c = record {
    by = same_by (cancel_follows c) ∙ t.by;
    said = canceled_said c ∙ ap (λ l. l ++ Cancel j x ∷ finals x (said c.left.0)) t.said;
    alone = follows_alone (cancel_follows c) (alone_more a.seat c.stamp (Cancel j x) t.alone);
  }

  -- the finished ledger is what was noted
  pub ledger_tells : {v w : View P} (L : List Event) → Tells k E v → w ≡ v → IsLedgerOf w L → Rises (by_stream w.by w.events) → L ≡ stamped 0 (noted_by k E)
  ledger_tells {v = v} {w = w} L t e is r =
      let a : NotesAlone w = subst NotesAlone (sym e) t.alone in
      ledger_stamped w L is a r ∙ ap (λ z. stamped 0 (noted_by z.by (trace z))) e ∙ ap (λ q. stamped 0 (noted_by q (trace v))) t.by ∙ ap (λ l. stamped 0 (noted_by k l)) t.said

unleased_all : {P : Type 0} (v : View P) (T : List ℕ) → ((r : ℕ) → IsAmong r T → HasPair v r) → unleased v.pairs T ≡ []
unleased_all v [] h = refl
unleased_all v (r ∷ T) h = ap (λ b. cond (not b) (r ∷ unleased v.pairs T) (unleased v.pairs T)) (leased_on v r (h r (here T))) ∙ unleased_all v T (λ q m. h q (there r m))

none_said : (fs : List (ℕ × Bool)) → firsts fs ≡ [] → fs ≡ []
none_said [] e = refl
none_said (f ∷ fs) e = absurd (let q : f.0 ∷ firsts fs ≡ [] = e in cc)

-- where no seat is out, a close whose rows are all leased ends none
pub close_waits : {P : Type 0} {ends : P → Exit → Bool → P → Type 0} {x : Exit} {a b : Seen P} {s : ℕ} (c : ClosesScope ends a s x b) → a.seat.out ≡ [] → ((r : ℕ) → IsAmong r (teardown (trace a.seat) s) → HasPair a.seat r) → said c.torn.0 ≡ []
close_waits {a = a} {s = s} c o h = none_said (said c.torn.0) (close_unleased c o ∙ unleased_all a.seat (teardown (trace a.seat) s) h)

-- two rows that ended, with their outcomes
pub two_ended : (fs : List (ℕ × Bool)) (i j : ℕ) → firsts fs ≡ i ∷ j ∷ [] → (a b : Bool) × (fs ≡ (i, a) ∷ (j, b) ∷ [])
two_ended [] i j e = absurd (let q : [] ≡ i ∷ j ∷ [] = e in cc)
two_ended (f ∷ []) i j e = absurd (let q : f.0 ∷ [] ≡ i ∷ j ∷ [] = e in cc)
two_ended (f ∷ h ∷ []) i j e = (f.1, h.1, ap (λ n. let y : ℕ × Bool = (n, f.1) in y ∷ h ∷ []) (let q : f.0 ∷ h.0 ∷ [] ≡ i ∷ j ∷ [] = e in let r : f.0 ≡ i = cc in r) ∙ ap (λ n. let z : ℕ × Bool = (i, f.1) in let y : ℕ × Bool = (n, h.1) in z ∷ y ∷ []) (let q : f.0 ∷ h.0 ∷ [] ≡ i ∷ j ∷ [] = e in let r : h.0 ≡ j = cc in r))
two_ended (f ∷ h ∷ k ∷ fs) i j e = absurd (let q : f.0 ∷ h.0 ∷ k.0 ∷ firsts fs ≡ i ∷ j ∷ [] = e in cc)
