-- What the collector's seat learns.
use Rattle.std.proofs.Common.{◌≡◌, ◌⊎◌, ℕ, Bool, true, false, List, [], ◌∷◌, ◌++◌, Option, Some, None, is_some, inl, inr, refl, sym, ap, ◌∙◌, subst, ⊎_elim, arith, append-nil, append_assoc}
use Rattle.std.specs.Bool.{OnTrue, OnFalse}
use Rattle.std.specs.Option.{option_or}
use Rattle.chunk_core.specs.Lists.{IsAmong}
use Rattle.chunk_core.specs.Lists.IsAmong.{here}
use Rattle.chunk_core.proofs.Members.{among_left, among_nil, among_snoc}
use Rattle.interrupt_ctx.specs.Ends.{HasFound, HasSet, SeatSeen, first_seat}
use Rattle.interrupt_ctx.specs.Views.{FindsKnown, HasSetAll, IsOwn, after_look, first_view, interruption, joined, noted, with_seen, with_set}
use Rattle.interrupt_ctx.specs.declared.view.Interruption.{Interruption}
use Rattle.interrupt_ctx.specs.declared.view.View.{View}
use Rattle.interrupt_ctx.specs.declared.why.Stop.{Stop}
use Rattle.join_tale.specs.Records.{IsSettled}
use Rattle.join_tale.specs.Steps.{learned}
use Rattle.join_tale.specs.Steps.Marks.{fresh, stale}
use Rattle.join_tale.specs.Tales.{IsKnown, Tale}
use Rattle.join_report.specs.Stopping.{Finds, Interrupts, IsSeated, IsUnknown, Learns, Looks, TellsKnown, view_of, with_seat_in, with_seat_out}
use Rattle.join_report.specs.declared.stops.Stops.{Stops}

-- the same board, and this seat
abbrev pub seated : Stops → SeatSeen → Stops
seated s seat = record s { seat = seat }

-- this view of it
abbrev pub viewed : Stops → View → Stops
viewed s v = seated s (record s.seat { view = v })

-- nothing is known in the first view
pub first_settled : HasSetAll first_view
first_settled d w k = ⊎_elim (λ m. m) (λ m. absurd (among_nil m)) k

module _ (s : Stops) (context : ℕ) (i : IsSeated s) where
  set_settled : (w : Stop) → IsSeated (viewed s (with_set (view_of s) context w))
  set_settled w = record {
    fits = i.fits;
    first = i.first;
    settled = λ z d u k. ⊎_elim (λ m. m) (λ m. among_left (interruption context w ∷ []) (i.settled z d u (inr m))) k;
  }

  found_settled : (there : Stop) → IsOwn (view_of s) context (Some there) → IsSeated (viewed s (with_seen (view_of s) context (Some there)))
  found_settled there own = record {
    fits = i.fits;
    first = i.first;
    settled = λ z d u k. ⊎_elim
        (λ m. m)
        (λ m. ⊎_elim
        (λ o. i.settled z d u (inr o))
        (λ e. subst (λ (x : Interruption). IsAmong x (view_of s).set) (sym e) (own i.first z there refl))
        (among_snoc (view_of s).seen (interruption d u) (interruption context there) m))
        k;
  }

  set_marks : (w : Stop) → Interrupts s (viewed s (with_set (view_of s) context w)) context w
  set_marks w = (interruption context w ∷ [], [], fresh, record { board = refl; set = refl; seen = sym (append-nil (view_of s).seen); out = refl })

  found_marks : (w there : Stop) → Interrupts s (viewed s (with_seen (view_of s) context (Some there))) context w
  found_marks w there = ([], interruption context there ∷ [], stale there, record { board = refl; set = sym (append-nil (view_of s).set); seen = refl; out = refl })

  -- a context was interrupted, or it was before
  pub marks : (b : Bool) (w : Stop) (seat : SeatSeen) → OnTrue b (HasSet s.seat seat context w) → OnFalse b ((there : Stop) × HasFound s.seat seat context there × IsOwn (view_of s) context (Some there)) → Interrupts s (seated s seat) context w
  marks true w seat h f = subst (λ q. Interrupts s (seated s q) context w) (sym h) (set_marks w)
  marks false w seat h f = subst (λ q. Interrupts s (seated s q) context w) (sym f.1) (found_marks w f.0)

  pub marks_seated : (b : Bool) (w : Stop) (seat : SeatSeen) → OnTrue b (HasSet s.seat seat context w) → OnFalse b ((there : Stop) × HasFound s.seat seat context there × IsOwn (view_of s) context (Some there)) → IsSeated (seated s seat)
  marks_seated true w seat h f = subst (λ q. IsSeated (seated s q)) (sym h) (set_settled w)
  marks_seated false w seat h f = subst (λ q. IsSeated (seated s q)) (sym f.1) (found_settled f.0 f.2)

-- what is noted
noted_by : ℕ → Option Stop → List Interruption
noted_by context None = []
noted_by context (Some w) = interruption context w ∷ []

-- it stood there, or it was found
noted_among : (seen : List Interruption) (context : ℕ) (o : Option Stop) (x : Interruption) → IsAmong x (noted seen context o) → IsAmong x seen ⊎ ((w : Stop) × (o ≡ Some w) × (x ≡ interruption context w))
noted_among seen context None x m = inl m
noted_among seen context (Some w) x m = ⊎_elim (λ o. inl o) (λ e. inr (w, refl, e)) (among_snoc seen x (interruption context w) m)

module _ (s : Stops) (context : ℕ) (i : IsSeated s) where
  -- a look keeps what is known settled
  pub look_seated : (own root : Option Stop) (seat : SeatSeen) → seat ≡ record s.seat { view = after_look (view_of s) context own root } → IsOwn (view_of s) context own → IsOwn (view_of s) 0 root → IsSeated (seated s seat)
  look_seated own root seat e a b =
      let v = view_of s in
      subst (λ q. IsSeated (seated s q)) (sym e) (record {
        fits = i.fits;
        first = i.first;
        settled = λ z d u k. ⊎_elim
            (λ m. m)
            (λ m. ⊎_elim
            (λ n. ⊎_elim
            (λ o. i.settled z d u (inr o))
            (λ f. subst (λ (x : Interruption). IsAmong x v.set) (sym f.2) (a i.first z f.0 f.1))
            (noted_among v.seen context own (interruption d u) n))
            (λ f. subst (λ (x : Interruption). IsAmong x v.set) (sym f.2) (b i.first z f.0 f.1))
            (noted_among (noted v.seen context own) 0 root (interruption d u) m))
            k;
      })

  finds : (own root : Option Stop) → FindsKnown (view_of s) context own → FindsKnown (view_of s) 0 root → Finds s (viewed s (after_look (view_of s) context own root)) context (option_or own root)
  finds (Some w) None a b = (interruption context w ∷ [], record { board = refl; set = sym (append-nil (view_of s).set); seen = refl; out = refl }, inl (here []))
  finds (Some w) (Some u) a b = (interruption context w ∷ interruption 0 u ∷ [], record { board = refl; set = sym (append-nil (view_of s).set); seen = append_assoc (view_of s).seen (interruption context w ∷ []) (interruption 0 u ∷ []); out = refl }, inl (here (interruption 0 u ∷ [])))
  finds None (Some u) a b = (interruption 0 u ∷ [], record { board = refl; set = sym (append-nil (view_of s).set); seen = refl; out = refl }, inr (here []))
  finds None None a b = (record { board = refl; set = sym (append-nil (view_of s).set); seen = sym (append-nil (view_of s).seen); out = refl }, (λ w k. let q : None ≡ Some w = b w k in cc), (λ w k. let q : None ≡ Some w = a w k in cc))

  -- what a look tells
  pub looks_up : (own root : Option Stop) (seat : SeatSeen) (answer : Option Stop) → seat ≡ record s.seat { view = after_look (view_of s) context own root } → answer ≡ option_or own root → FindsKnown (view_of s) context own → FindsKnown (view_of s) 0 root → Finds s (seated s seat) context answer
  looks_up own root seat answer e is a b =
      subst (λ q. Finds s (seated s seat) context q) (sym is) (subst (λ q. Finds s (seated s q) context (option_or own root)) (sym e) (finds own root a b))

  -- one seat more is out
  pub out_seated : IsSeated (with_seat_out s)
  out_seated = record { fits = i.fits; first = i.first; settled = λ z. absurd (omega arith) }

  -- a seat was taken in
  pub in_seated : (other : SeatSeen) → ((joined (view_of s) other.view).out ≡ 0 → HasSetAll (joined (view_of s) other.view)) → IsSeated (with_seat_in s other)
  in_seated other all = record { fits = i.fits; first = i.first; settled = all }

-- what was found is set
pub looks : (old new : Stops) (context : ℕ) (answer : Option Stop) → Finds old new context answer → Looks old new context (is_some answer)
looks old new context None f = f
looks old new context (Some w) f = (f.0, f.1, ⊎_elim (λ m. inl (w, m)) (λ m. inr (w, m)) f.2)

-- the first seat of a board
pub first_seated : (s : Stops) → s.seat ≡ first_seat s.board.id → IsSeated s
first_seated s e = record {
  fits = ap (λ (q : SeatSeen). q.board) e;
  first = ap (λ (q : SeatSeen). q.view.first) e;
  settled = subst (λ (q : SeatSeen). q.view.out ≡ 0 → HasSetAll q.view) (sym e) (λ z. first_settled);
}

-- what was learned stands in the tale
pub learns_known : (t : Tale) (old new : Stops) (vs cs : List Interruption) → TellsKnown t old → Learns old new vs cs → TellsKnown (learned t vs cs) new
learns_known t old new vs cs k l = record { set = ap (λ x. x ++ vs) k.set ∙ sym l.set; seen = ap (λ x. x ++ cs) k.seen ∙ sym l.seen }

pub unknown_is : (t : Tale) (s : Stops) (context : ℕ) → TellsKnown t s → IsUnknown (view_of s) context → ¬ (IsKnown t context)
unknown_is t s context k n = λ known. ⊎_elim
    (λ m. n m.0 (inl (subst (λ l. IsAmong (interruption context m.0) l) k.set m.1)))
    (λ m. n m.0 (inr (subst (λ l. IsAmong (interruption context m.0) l) k.seen m.1)))
    known

pub settles : (t : Tale) (s : Stops) → TellsKnown t s → IsSeated s → (view_of s).out ≡ 0 → IsSettled t
settles t s k i z context w m = subst (λ l. IsAmong (interruption context w) l) (sym k.set) (i.settled z context w (inr (subst (λ l. IsAmong (interruption context w) l) k.seen m)))
