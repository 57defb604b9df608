-- What the steps of a collector add to the places of closes.
use Rattle.std.proofs.Common.{◌≡◌, ◌≢◌, ℕ, suc, ◌<◌, ◌≤◌, List, [], ◌∷◌, ◌++◌, Some, refl, sym, ap, ◌∙◌, subst, ⊎_elim}
use Rattle.chunk_core.specs.Lists.{IsAmong}
use Rattle.chunk_core.specs.declared.code.Exit.{Exit}
use Rattle.chunk_core.specs.declared.code.How.{How}
use Rattle.chunk_core.specs.declared.code.How.TheVariants as how
use Rattle.chunk_core.proofs.Filters.{among_append}
use Rattle.chunk_core.proofs.Members.{among_cons, among_nil}
use Rattle.interrupt_ctx.specs.Ends.{SeatSeen}
use Rattle.interrupt_ctx.specs.Views.{interruption}
use Rattle.interrupt_ctx.specs.declared.view.Interruption.{Interruption}
use Rattle.interrupt_ctx.specs.declared.view.View.{View as BoardView}
use Rattle.interrupt_ctx.specs.declared.why.Stop.{Stop}
use Rattle.interrupt_ctx.specs.declared.why.Why.TheVariants as why
use Rattle.join_tale.specs.Bounds.{Bounds}
use Rattle.join_tale.specs.Steps.{Marks}
use Rattle.join_tale.specs.Steps.Marks.{fresh, stale}
use Rattle.join_tale.specs.Tales.{Came, FailedSo, Tale}
use Rattle.join_tree.specs.Progress.{Progress}
use Rattle.res_ledger.specs.declared.event.Event.{Event}
use Rattle.res_ledger.specs.declared.event.StreamNo.{StreamNo}
use Rattle.res_ledger.specs.declared.event.StreamNo.TheVariants.{Inner, Outer}
use Rattle.res_ledger.specs.declared.event.What.TheVariants.{Close}
use Rattle.row_seat.specs.declared.view.View.{View}
use Rattle.scope_tree.specs.Calls.{Seen}
use Rattle.stream_jobs.specs.Learned.{HasLearned, HasSetFor}
use Rattle.stream_jobs.specs.Places.{HasPlaces}
use Rattle.dealt_streams.specs.Places.{ArePlaced, ClosedAs}

-- what a job obeyed that has ended so: where it was halted, what it found
abbrev pub heed : {V : Type 0} (k : ℕ) (seat : View V) (board : BoardView) (h : How) → HasPlaces k seat board h → List (StreamNo × Stop)
heed k seat board how.Done q = []
heed k seat board how.Halted q = (Inner k, (q.obeyed refl).0) ∷ []
heed k seat board (how.Fault c) q = []
heed k seat board how.Memory q = []

module _ {V : Type 0} where
  -- what was closed so is closed so still, once more was noted and more trees came back
  pub closed_still : (b c : Seen V) (p q : Progress V) → ((e : Event) → IsAmong e b.seat.events → IsAmong e c.seat.events) → ((y : Seen V) → IsAmong y p.back → IsAmong y q.back) → (is : ℕ → Type 0) (k : StreamNo) → ClosedAs b p is k → ClosedAs c q is k
  closed_still b c p q noted back is Outer h = (h.0, h.1, noted h.0 h.2, h.3, h.4, h.5)
  closed_still b c p q noted back is (Inner k) h = (h.0, back h.0 h.1, h.2, h.3)

  module _ (bounds : Bounds) where
    pub placed_still : (b c : Seen V) (p q : Progress V) (t u : Tale) (os : List (StreamNo × Stop)) (vs : List Interruption) → ((e : Event) → IsAmong e b.seat.events → IsAmong e c.seat.events) → ((y : Seen V) → IsAmong y p.back → IsAmong y q.back) → ((k : StreamNo) → FailedSo t k → FailedSo u k)
        → ArePlaced bounds b p t os vs → ArePlaced bounds c q u os vs
    placed_still b c p q t u os vs noted back fails h = record {
      obeyed = λ k w m. closed_still b c p q noted back (λ n. w.at ≤ n) k (h.obeyed k w m);
      failed = λ x w m is. let f = h.failed x w m is in (f.0, fails f.0 f.1, closed_still b c p q noted back (λ n. n < w.at) f.0 f.2);
      ended = λ x w m is. let f = h.ended x w m is in (f.0, f.1, f.2, f.3, closed_still b c p q noted back (λ n. n < w.at) (Inner f.1) f.4);
    }

    module _ (b : Seen V) (p : Progress V) (t : Tale) where
      pub placed_none : ArePlaced bounds b p t [] []
      placed_none = record { obeyed = λ k w m. absurd (among_nil m); failed = λ x w m is. absurd (among_nil m); ended = λ x w m is. absurd (among_nil m) }

      pub placed_more : (os us : List (StreamNo × Stop)) (vs ws : List Interruption) → ArePlaced bounds b p t os vs → ArePlaced bounds b p t us ws → ArePlaced bounds b p t (os ++ us) (vs ++ ws)
      placed_more os us vs ws h g = record {
        obeyed = λ k w m. ⊎_elim (λ i. h.obeyed k w i) (λ i. g.obeyed k w i) (among_append (k, w) os us m);
        failed = λ x w m is. ⊎_elim (λ i. h.failed x w i is) (λ i. g.failed x w i is) (among_append (interruption x w) vs ws m);
        ended = λ x w m is. ⊎_elim (λ i. h.ended x w i is) (λ i. g.ended x w i is) (among_append (interruption x w) vs ws m);
      }

      pub placed_both : (os : List (StreamNo × Stop)) (vs : List Interruption) → ArePlaced bounds b p t os [] → ArePlaced bounds b p t [] vs → ArePlaced bounds b p t os vs
      placed_both os vs h g = record { obeyed = h.obeyed; failed = g.failed; ended = g.ended }

      -- a stream that was halted closed its root so
      pub placed_heeded : (k : StreamNo) (w : Stop) → ClosedAs b p (λ n. w.at ≤ n) k → ArePlaced bounds b p t ((k, w) ∷ []) []
      placed_heeded k w h = record {
        obeyed = λ j v m. ⊎_elim (λ e. one j v e) (λ i. absurd (among_nil i)) (among_cons m);
        failed = λ x v m is. absurd (among_nil m);
        ended = λ x v m is. absurd (among_nil m);
      }
        where
          one : (j : StreamNo) (v : Stop) → ◌≡◌ {A = StreamNo × Stop} (j, v) (k, w) → ClosedAs b p (λ n. v.at ≤ n) j
          one j v e = subst (λ (y : StreamNo × Stop). ClosedAs b p (λ n. y.1.at ≤ n) y.0) (sym e) h

      -- a stop that was set, or found, for what asks no order
      pub placed_plain : {x : ℕ} {w : Stop} (vs cs : List Interruption) → Marks x w vs cs → w.why ≢ why.Fault → w.why ≢ why.Until → ArePlaced bounds b p t [] vs
      placed_plain {x = x} {w = w} vs cs fresh a z = record {
        obeyed = λ k v m. absurd (among_nil m);
        failed = λ y v m is. ⊎_elim (λ e. absurd (a (ap (λ (i : Interruption). i.stop.why) (sym e) ∙ is))) (λ i. absurd (among_nil i)) (among_cons m);
        ended = λ y v m is. ⊎_elim (λ e. absurd (z (ap (λ (i : Interruption). i.stop.why) (sym e) ∙ is))) (λ i. absurd (among_nil i)) (among_cons m);
      }
      placed_plain vs cs (stale there) a z = placed_none

      -- one that was set, or found, as stream k had failed, which had closed its root so
      pub placed_fault : {x : ℕ} {w : Stop} (vs cs : List Interruption) → Marks x w vs cs → w.why ≡ why.Fault → (k : StreamNo) → FailedSo t k → ClosedAs b p (λ n. n < w.at) k → ArePlaced bounds b p t [] vs
      placed_fault {x = x} {w = w} vs cs fresh cause k f h = record {
        obeyed = λ j v m. absurd (among_nil m);
        failed = λ y v m is. ⊎_elim (λ e. (k, f, subst (λ (i : Interruption). ClosedAs b p (λ n. n < i.stop.at) k) (sym e) h)) (λ i. absurd (among_nil i)) (among_cons m);
        ended = λ y v m is. ⊎_elim (λ e. absurd (apart (sym cause ∙ (ap (λ (i : Interruption). i.stop.why) (sym e) ∙ is)))) (λ i. absurd (among_nil i)) (among_cons m);
      }
        where
          apart : why.Fault ≡ why.Until → ⊥
          apart e = cc
      placed_fault vs cs (stale there) cause k f h = placed_none

      -- those that were set as stream j had ended, which had closed its root so
      pub placed_until : (j : ℕ) (vs : List Interruption) → ((x : ℕ) (w : Stop) → IsAmong (interruption x w) vs → (w.why ≡ why.Until) × ((i : ℕ) × (x ≡ suc i) × (bounds.until i ≡ Some j)) × ClosedAs b p (λ n. n < w.at) (Inner j)) → ArePlaced bounds b p t [] vs
      placed_until j vs h = record {
        obeyed = λ k v m. absurd (among_nil m);
        failed = λ x w m is. absurd (apart (sym (h x w m).0 ∙ is));
        ended = λ x w m is. let z = h x w m in (z.1.0, j, z.1.1, z.1.2, z.2);
      }
        where
          apart : why.Until ≡ why.Fault → ⊥
          apart e = cc

      -- The tree y of stream k came back, which ended so, and this is its seat.
      module _ (y : Seen V) (back : IsAmong y p.back) (k : ℕ) (by : y.seat.by ≡ Inner k) (h : How) (came : Came t k h) (seat : View V) (seat_is : seat ≡ y.seat) where
        pub closed_so : (is : ℕ → Type 0) → ((e : Event) (x : Exit) → IsAmong e seat.events → e.what ≡ Close 0 x → is e.stamp) → ClosedAs b p is (Inner k)
        closed_so is all = (y, back, by, λ e x m w. all e x (subst (λ (v : View V). IsAmong e v.events) (sym seat_is) m) w)

        module _ (old new : SeatSeen) (places : HasPlaces k seat new.view h) (learned : HasLearned k old new (Some h)) where
          -- what its seat at the board has set
          set_fault : (w : Stop) (x : ℕ) → IsAmong (interruption x w) new.view.set → w.why ≡ why.Fault → FailedSo t (Inner k)
          set_fault w x m is = by_how h learned.set came
            where
              none : {A : Type 0} → new.view.set ≡ [] → A
              none e = absurd (among_nil (subst (λ l. IsAmong (interruption x w) l) e m))

              by_how : (g : How) → HasSetFor k new.view (Some g) → Came t k g → FailedSo t (Inner k)
              by_how how.Done s c = none s
              by_how how.Halted s c = none s.none
              by_how (how.Fault f) s c = (f, c)
              by_how how.Memory s c = absurd (let z : why.Memory ≡ why.Fault = sym (s.only (interruption x w) m).1 ∙ is in cc)

          set_no_until : (w : Stop) (x : ℕ) → IsAmong (interruption x w) new.view.set → w.why ≡ why.Until → ⊥
          set_no_until w x m is = by_how h learned.set
            where
              none : new.view.set ≡ [] → ⊥
              none e = among_nil (subst (λ l. IsAmong (interruption x w) l) e m)

              by_how : (g : How) → HasSetFor k new.view (Some g) → ⊥
              by_how how.Done s = none s
              by_how how.Halted s = none s.none
              by_how (how.Fault f) s = let z : why.Fault ≡ why.Until = sym (s.only (interruption x w) m).1 ∙ is in cc
              by_how how.Memory s = let z : why.Memory ≡ why.Until = sym (s.only (interruption x w) m).1 ∙ is in cc

          pub placed_job : ArePlaced bounds b p t [] new.view.set
          placed_job = record {
            obeyed = λ j v m. absurd (among_nil m);
            failed = λ x w m is. (Inner k, set_fault w x m is, closed_so (λ n. n < w.at) (λ e z i what. places.named (interruption x w) m e i));
            ended = λ x w m is. absurd (set_no_until w x m is);
          }

          -- and what it obeyed
          pub placed_heed : ArePlaced bounds b p t (heed k seat new.view h places) []
          placed_heed = by_how h places
            where
              by_how : (g : How) (q : HasPlaces k seat new.view g) → ArePlaced bounds b p t (heed k seat new.view g q) []
              by_how how.Done q = placed_none
              by_how how.Halted q = let o = q.obeyed refl in placed_heeded (Inner k) o.0 (closed_so (λ n. o.0.at ≤ n) o.2)
              by_how (how.Fault c) q = placed_none
              by_how how.Memory q = placed_none
