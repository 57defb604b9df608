-- How streams that ran side by side ended, and what their finalizers were told.
use Rattle.std.proofs.Common.{◌≡◌, ℕ, zero, suc, ◌+◌, ◌-◌, ◌<◌, ◌≤◌, ◌⊎◌, true, List, [], ◌∷◌, inl, inr, map, length, Option, Some, None, is_some, IfSome, refl, sym, ◌∙◌, ap, subst, ⊎_elim, arith}
use Rattle.std.proofs.lemmas.Bool.{false≢true, true_from_ne_false}
use Rattle.std.specs.List.{AllByRecursion}
use Rattle.chunk_core.specs.Elements.{Element}
use Rattle.chunk_core.specs.Lists.{IsAmong}
use Rattle.chunk_core.specs.Lists.IsAmong.{here}
use Rattle.chunk_core.specs.Outcomes.{End, Cut, Done, Fault, Outcomes}
use Rattle.chunk_core.specs.Tables.{Values}
use Rattle.chunk_core.specs.Texts.{Frame}
use Rattle.chunk_core.specs.declared.code.Code.{Code}
use Rattle.chunk_core.specs.declared.code.How.{How}
use Rattle.chunk_core.specs.declared.code.How.TheVariants as how
use Rattle.chunk_core.proofs.Each.{each_among}
use Rattle.chunk_core.proofs.Members.{among_nil}
use Rattle.res_ledger.specs.declared.event.StreamNo.{StreamNo}
use Rattle.res_ledger.specs.declared.event.StreamNo.TheVariants.{Inner, Outer}
use Rattle.res_ledger.specs.declared.event.What.{What}
use Rattle.res_ledger.specs.declared.event.What.TheVariants.{Cancel, Close}
use Rattle.res_ledger.specs.declared.event.Event.{Event}
use Rattle.res_ledger.specs.Streams.{by_stream}
use Rattle.res_ledger.proofs.Ledgers.{by_in, by_none, inner_is}
use Rattle.device_port.specs.Device.{DeviceTold, Place}
use Rattle.run_rules.specs.declared.end.EndOf.{EndOf}
use Rattle.run_rules.specs.Devices.{came_back}
use Rattle.run_rules.specs.Ends.{EndIsCaused, HasCauseToHalt, HaveEnds, IsShown, IsSilenced, act_count}
use Rattle.run_rules.specs.Exits.{HasExit, HasOneExit, HaveExits, IsExitHidden}
use Rattle.run_rules.specs.Facts.{IsOver, at}
use Rattle.run_rules.specs.Opening.{HasOuterEnd, OuterHasRun}
use Rattle.run_rules.specs.Outputs.{IsReported, elements_in_pieces}
use Rattle.run_rules.specs.Work.{Opener, RunRecord, Stream, first_row_of, opener_places}
use Rattle.join_tale.specs.Ended.{Ended}
use Rattle.join_tale.specs.Ended.Ended.{told, wanting, whole, halted, unmade, skipped}
use Rattle.join_tale.specs.Records.{EndedSo, bare}
use Rattle.join_tale.specs.Tales.{Fate, end_of}
use Rattle.join_tale.specs.Tales.Fate.{Begun, Skipped, Unmade}
use Rattle.join_tale.proofs.Endings.{come_begun}
use Rattle.join_tale.proofs.Places.{none_some}
use Rattle.plan_work.specs.Joined.{places_in}
use Rattle.joined_runs.specs.Shares.{IsOuterNote, IsShare}
use Rattle.joined_runs.specs.Together.{RunsTogether}
use Rattle.joined_runs.proofs.Covered.{AreCovered, CoversList, RefusesTables}
use Rattle.joined_runs.proofs.JoinedRules.{not_outer}
use Rattle.joined_runs.proofs.MadeRows.{IsCountedRow, at_below, at_some, place_found, shown}
use Rattle.joined_runs.proofs.SharesKept.{silent}
use Rattle.joined_runs.proofs.StreamOutputs.{NotRan, Ran, bounds, ended_as, follows, left_undone, outputs_law, work}
use Rattle.joined_runs.proofs.StreamRows.{place_of}
use Rattle.joined_runs.proofs.OuterFaults.{outer_shown}

-- Ends as they are reported.

same_fate : (f g : Fate) → Some f ≡ Some g → f ≡ g
same_fate f g e = cc

pub reported_fault : (e : End) (f : Code) → IsReported e (how.Fault f) → e ≡ Fault f
reported_fault Done f h = let x : how.Fault f ≡ how.Done = h in cc
reported_fault (Fault k) f h = let x : how.Fault f ≡ how.Fault k = h in cc
reported_fault Cut f h = absurd (⊎_elim (λ e. let x : how.Fault f ≡ how.Halted = e in let y : ⊥ = cc in y) (λ e. let x : how.Fault f ≡ how.Memory = e in let y : ⊥ = cc in y) h)

pub reported_done : (e : End) → IsReported e how.Done → e ≡ Done
reported_done Done h = refl
reported_done (Fault k) h = let x : how.Done ≡ how.Fault k = h in cc
reported_done Cut h = absurd (⊎_elim (λ e. let x : how.Done ≡ how.Halted = e in let y : ⊥ = cc in y) (λ e. let x : how.Done ≡ how.Memory = e in let y : ⊥ = cc in y) h)

-- what was left isn't over, and needs no device that shows it
not_over : (g h : How) → h ≡ g → (g ≡ how.Done → ⊥) → ((f : Code) → g ≡ how.Fault f → ⊥) → IsOver h → ⊥
not_over g h is n m o = ⊎_elim (λ e. n (sym is ∙ e)) (λ f. m f.0 (sym is ∙ f.1)) o

cut_not_over : (h : How) → IsReported Cut h → IsOver h → ⊥
cut_not_over h is o = ⊎_elim (λ e. not_over how.Halted h e (λ q. cc) (λ f q. cc) o) (λ e. not_over how.Memory h e (λ q. cc) (λ f q. cc) o) is

cut_shown : (h : How) (ds : List DeviceTold) (ps : List Place) → IsReported Cut h → IsShown ds ps h
cut_shown h ds ps is = ⊎_elim (λ e. subst (IsShown ds ps) (sym e) tt) (λ e. subst (IsShown ds ps) (sym e) tt) is

same_how : (g h : How) → Some g ≡ Some h → g ≡ h
same_how g h e = cc

-- What the finalizers were told.

module _ (t n : ℕ) (h : How) where
  outer_exit : (v : What) → IsOuterNote t n h v → HasExit (record { who = Outer; how = h }) v
  outer_exit (Close zero x) w = w
  outer_exit (Close (suc s) x) w = w
  outer_exit (Cancel j x) w = w
  outer_exit v w = tt

  outer_exits : (L : List Event) → ((e : Event) → IsAmong e L → e.by ≡ Outer → IsOuterNote t n h e.what) → AllByRecursion (λ e. HasExit (record { who = Outer; how = h }) e.what) (by_stream Outer L)
  outer_exits L outer_notes = each_among (λ (e : Event). HasExit (record { who = Outer; how = h }) e.what) (by_stream Outer L) (λ e m. let i = by_in Outer L e m in outer_exit e.what (outer_notes e i.0 i.1))

module _ (k from to scopes : ℕ) (w : ℕ → DeviceTold) (h : How) (L : List Event) (a : IsShare k from to scopes w h L) where
  share_exit : (e : Event) → IsAmong e L → e.by ≡ Inner k → (v : What) → e.what ≡ v → HasExit (record { who = Inner k; how = h }) v
  share_exit e i b (Close zero x) is = a.exits x (e, i, b, is)
  share_exit e i b (Close (suc s) x) is = tt
  share_exit e i b (Cancel j x) is = (a.leaves e j x i b is).1
  share_exit e i b v is = tt

  share_exits : AllByRecursion (λ e. HasExit (record { who = Inner k; how = h }) e.what) (by_stream (Inner k) L)
  share_exits = each_among (λ (e : Event). HasExit (record { who = Inner k; how = h }) e.what) (by_stream (Inner k) L) (λ e m. let i = by_in (Inner k) L e m in share_exit e i.0 i.1 e.what refl)

module _ (opener : Opener) (ss : List Stream) (runs ideal : ℕ → Values → (ℕ → DeviceTold) → Outcomes) (listing ideal_listing : DeviceTold → Outcomes) (c : RunRecord) (r : RunsTogether opener ss runs listing c) where
  -- the end of the outer stream is the one that it has
  pub outer_so : (h : How) → r.tale.outer ≡ Some h → r.outer ≡ h
  outer_so h e = same_how r.outer h (sym r.outer_is ∙ e)

  -- a stream that has an end is one of the streams
  fate_of : (k : ℕ) (h : How) → Ended r.tale k h → (f : Fate) × (at r.tale.fates k ≡ Some f)
  fate_of k h (told m) = (Begun, come_begun (bounds opener ss runs ideal listing ideal_listing c r) r.tale k r.is_tale h (inl m))
  fate_of k h (wanting m q) = (Begun, come_begun (bounds opener ss runs ideal listing ideal_listing c r) r.tale k r.is_tale how.Memory (inr m))
  fate_of k h (whole m n q) = (Begun, come_begun (bounds opener ss runs ideal listing ideal_listing c r) r.tale k r.is_tale how.Done (inr m))
  fate_of k h (halted e m n l q) = (Begun, come_begun (bounds opener ss runs ideal listing ideal_listing c r) r.tale k r.is_tale e (inr m))
  fate_of k h (unmade e q) = (Unmade, e)
  fate_of k h (skipped e q) = (Skipped, e)

  pub stream_of_end : (k : ℕ) (h : How) → Ended r.tale k h → (s : Stream) × (at ss k ≡ Some s)
  stream_of_end k h e = let f = fate_of k h e in let l = at_below r.tale.fates k f.0 f.1 in let n = r.recorded.count in at_some ss k (omega (arith, l, n))

  -- a fault that is told is one of the run
  pub fault_run : (k : ℕ) (s : Stream) (x : Ran opener ss runs ideal listing ideal_listing c r k s) (f : Code) → Ended r.tale k (how.Fault f) → runs k r.values r.home (elements_in_pieces x.pieces) (Fault f)
  fault_run k s x f e =
      ⊎_elim
      (λ m. subst (λ g. runs k r.values r.home (elements_in_pieces x.pieces) g) (reported_fault x.end f (subst (λ h. IsReported x.end h) (ended_as opener ss runs ideal listing ideal_listing c r k s x (how.Fault f) m) x.reported)) x.run)
      (λ u. absurd (let q : how.Fault f ≡ how.Memory = u.1 in let y : ⊥ = cc in y))
      ((outputs_law opener ss runs ideal listing ideal_listing c r).told r.tale k (how.Fault f) r.is_tale e (λ q. cc))

  -- of a stream that wasn't begun no fault is told
  pub no_fault_undone : (k : ℕ) (s : Stream) → NotRan opener ss runs ideal listing ideal_listing c r k s → (f : Code) → Ended r.tale k (how.Fault f) → ⊥
  no_fault_undone k s u f e = ⊎_elim (λ q. let x : how.Fault f ≡ how.Halted = q in cc) (λ q. let x : how.Fault f ≡ how.Memory = q in cc) (left_undone opener ss runs ideal listing ideal_listing c r k s u (how.Fault f) e)

  module _ (refuses : RefusesTables opener) (covers : AreCovered opener ss runs ideal r.values r.home) (covers_list : CoversList opener listing ideal_listing r.home) where
    -- a row of the stream whose device counted so
    counted_row : (k : ℕ) (s : Stream) → at ss k ≡ Some s → (a : Option (DeviceTold → ℕ)) → IfSome a (λ n. (q : ℕ) × (first_row_of (bare (Some opener) ss) k ≤ q) × (q < first_row_of (bare (Some opener) ss) k + length s.places) × (0 < n (r.home q)))
        → IfSome a (IsCountedRow (places_in opener ss) c.depot_old c.depot_new r.home r.devices s.places)
    counted_row k s is None h = tt
    counted_row k s is (Some n) (q, l, u, h) =
        let p = at_some s.places (q - first_row_of (bare (Some opener) ss) k) (omega (arith, l, u)) in
        (q, p.0, place_of opener ss k s is q l u ∙ p.1, place_found s.places (q - first_row_of (bare (Some opener) ss) k) p.0 p.1, h)

    -- a fault of a stream has a device of its rows that shows it
    stream_shown : (k : ℕ) (s : Stream) → at ss k ≡ Some s → Ran opener ss runs ideal listing ideal_listing c r k s → (h : How) → Ended r.tale k h → IsShown (came_back c.depot_old c.depot_new) s.places h
    stream_shown k s is x h e =
        shown (places_in opener ss) c.depot_old c.depot_new r.home r.devices s.places h
        (λ f q. counted_row k s is (act_count f) ((covers k s is).shown (elements_in_pieces x.pieces) f (fault_run k s x f (subst (λ g. Ended r.tale k g) q e))))

    -- the same by the places that the work has for it
    by_places : (k : ℕ) (s : Stream) → at ss k ≡ Some s → (h : How) → IsShown (came_back c.depot_old c.depot_new) s.places h → IsShown (came_back c.depot_old c.depot_new) (elim (at ss k) [ Some t ↦ t.places | None ↦ [] ]) h
    by_places k s is h e = subst (λ (o : Option Stream). IsShown (came_back c.depot_old c.depot_new) (elim o [ Some t ↦ t.places | None ↦ [] ]) h) (sym is) e

    caused_by : (q : StreamNo) (h : How) → EndedSo r.tale q h → (h ≡ how.Halted → HasCauseToHalt (work opener ss runs ideal listing ideal_listing c r) c q) → EndIsCaused (work opener ss runs ideal listing ideal_listing c r) c (record { who = q; how = h })
    caused_by Outer h e cause = record {
      halted = cause;
      fault = subst (λ g. IsShown (came_back c.depot_old c.depot_new) (opener_places opener) g) (outer_so h e) (outer_shown opener ss listing ideal_listing c r.home r.devices refuses covers_list r.outer r.came.end);
      root = λ b. r.account.root;
    }
    caused_by (Inner k) h e cause =
        let s = stream_of_end k h e in
        ⊎_elim
        (λ x. record { halted = cause; fault = by_places k s.0 s.1 h (stream_shown k s.0 s.1 x h e); root = λ b. x.share.closed })
        (λ u.
        let cut = left_undone opener ss runs ideal listing ideal_listing c r k s.0 u h e in
        record {
          halted = cause;
          fault = by_places k s.0 s.1 h (cut_shown h (came_back c.depot_old c.depot_new) s.0.places cut);
          root = λ b. absurd (⊎_elim (λ o. cut_not_over h cut o) (λ o. ⊎_elim (λ a. silent opener ss runs listing c r k s.0 u a.0 a.1 a.2) (λ q. not_outer k (sym q)) o) b);
        })
        (r.each k s.0 s.1)

    outer_first : (es : List EndOf) (names : List StreamNo) → c.ends ≡ es → map (λ e. e.who) es ≡ Outer ∷ names → HasOuterEnd (Some opener) listing (length ss) c r.home es
    outer_first [] names is n = cc
    outer_first (e ∷ es) names is n =
        let who : e.who ≡ Outer = cc in
        subst (λ h. OuterHasRun opener listing (length ss) c r.home h) (outer_so e.how (subst (λ q. EndedSo r.tale q e.how) who (r.recorded.told e (subst (λ l. IsAmong e l) (sym is) (here es))))) r.came

    pub stream_ends : HaveEnds (work opener ss runs ideal listing ideal_listing c r) c r.home
    stream_ends =
        let f = follows opener ss runs ideal listing ideal_listing c r in
        record {
          named = r.recorded.named;
          caused = each_among (EndIsCaused (work opener ss runs ideal listing ideal_listing c r) c) c.ends (λ e i. caused_by e.who e.how (r.recorded.told e i) (f.halted e i));
          outer = outer_first c.ends _ refl r.recorded.named;
          stopped = record { failed = f.stopped.failed; silenced = f.stopped.silenced; ended = f.stopped.ended; halted = f.stopped.halted; nobody = f.stopped.nobody };
          begins = record { room = f.begins.room; passed = f.begins.passed };
          memory = f.memory;
        }

  -- where frames had ceased, a halted stream's exit may be hidden
  ceased_hides : r.tale.ceased ≡ true → IsSilenced (work opener ss runs ideal listing ideal_listing c r) c ⊎ (c.memory ≡ true)
  ceased_hides t =
      ⊎_elim
      (λ m. inl (inr (m ∙ ap (λ (F : List Frame). Some (length F)) (sym r.recorded.frames))))
      (λ x. ⊎_elim (λ u. inl (inl (λ z. false≢true (ap is_some (sym z ∙ r.recorded.cut) ∙ u)))) (λ m. inr (r.recorded.memory ∙ m)) x)
      (r.is_tale.frames.ceased t)

  -- the end of a stream that was begun is the one that is reported, unless that is hidden
  told_so : (k : ℕ) (s : Stream) (x : Ran opener ss runs ideal listing ideal_listing c r k s) (h : How) → Ended r.tale k h → (x.how ≡ h) ⊎ IsExitHidden (work opener ss runs ideal listing ideal_listing c r) c (record { who = Inner k; how = h })
  told_so k s x h (told m) = inl (ended_as opener ss runs ideal listing ideal_listing c r k s x h (inl m))
  told_so k s x h (wanting m q) = inl (ended_as opener ss runs ideal listing ideal_listing c r k s x how.Memory (inr m) ∙ sym q)
  told_so k s x h (whole m n q) = inl (ended_as opener ss runs ideal listing ideal_listing c r k s x how.Done (inr m) ∙ sym q)
  told_so k s x h (halted e m n l q) =
      let late : r.tale.late ≡ [] → ⊥ = λ z. among_nil (subst (λ ms. IsAmong (end_of k e) ms) z m) in
      inr (record {
        beside = λ z. none_some (sym z);
        inner = λ z. not_outer k (sym z);
        halted = q;
        ceased = ceased_hides (true_from_ne_false r.tale.ceased (λ f. late (r.is_tale.frames.quiet f).0));
      })
  told_so k s x h (unmade e q) = absurd (let b : Begun ≡ Unmade = same_fate Begun Unmade (sym x.begun ∙ e) in let y : ⊥ = cc in y)
  told_so k s x h (skipped e q) = absurd (let b : Begun ≡ Skipped = same_fate Begun Skipped (sym x.begun ∙ e) in let y : ⊥ = cc in y)

  module _ (covers : AreCovered opener ss runs ideal r.values r.home) where
    -- stream k has a run over these devices whose end is reported so
    abbrev HasRunTo : How → ℕ → Type 0
    HasRunTo h k = (ys : List Element) × (g : End) × runs k r.values r.home ys g × IsReported g h

    exits_by : (q : StreamNo) (h : How) → EndedSo r.tale q h → HasOneExit (work opener ss runs ideal listing ideal_listing c r) c r.values r.home (record { who = q; how = h })
    exits_by Outer h e = record {
      how = h;
      same = inl refl;
      told = outer_exits (length (opener_places opener)) (length ss) h c.events (subst (λ g. (x : Event) → IsAmong x c.events → x.by ≡ Outer → IsOuterNote (length (opener_places opener)) (length ss) g x.what) (outer_so h e) r.account.outer_notes);
      ran = λ j q. absurd (not_outer j q);
    }
    exits_by (Inner k) h e =
        let s = stream_of_end k h e in
        ⊎_elim
        (λ x. record {
          how = x.how;
          same = told_so k s.0 x h e;
          told = share_exits k (first_row_of (bare (Some opener) ss) k) (first_row_of (bare (Some opener) ss) k + length s.0.places) s.0.scopes r.home x.how c.events x.share;
          ran = λ j q. subst (HasRunTo x.how) (inner_is k j q) (elements_in_pieces x.pieces, x.end, x.run, x.reported);
        })
        (λ u. record {
          how = h;
          same = inl refl;
          told = subst (λ l. AllByRecursion (λ (y : Event). HasExit (record { who = Inner k; how = h }) y.what) l) (sym (by_none (Inner k) c.events (silent opener ss runs listing c r k s.0 u))) tt;
          ran = λ j q. subst (HasRunTo h) (inner_is k j q) ([], Cut, (covers k s.0 s.1).idle u.untouched, left_undone opener ss runs ideal listing ideal_listing c r k s.0 u h e);
        })
        (r.each k s.0 s.1)

    pub stream_exits : HaveExits (work opener ss runs ideal listing ideal_listing c r) c r.values r.home
    stream_exits = each_among (HasOneExit (work opener ss runs ideal listing ideal_listing c r) c r.values r.home) c.ends (λ e i. exits_by e.who e.how (r.recorded.told e i))
