-- The tests of devices, rows and frames are exact.
use Rattle.std.proofs.Common.{◌≡◌, ℕ, ◌+◌, ◌<◌, ◌≤◌, Bool, true, false, ◌&&◌, ◌||◌, not, nat_eq, nat_le, List, [], ◌∷◌, ◌++◌, length, Option, Some, None, refl, sym, ap, ◌∙◌, subst, ⊎_elim}
use Rattle.std.specs.Bool.{Decides}
use Rattle.std.specs.List.{list_all as all, range_with_len, AllByRecursion}
use Rattle.std.proofs.lemmas.Bool.{false≢true, le-leb, leb-true}
use Rattle.chunk_core.specs.Lists.{IsAmong}
use Rattle.chunk_core.specs.Lists.IsAmong.{here, there}
use Rattle.chunk_core.specs.Texts.{Frame}
use Rattle.chunk_core.proofs.Bools.{all_at, and_true, both, each_passes, either, no, or_left, or_right, tested}
use Rattle.chunk_core.proofs.Cuts.{among_parts, cut}
use Rattle.chunk_core.proofs.Each.{among_each}
use Rattle.chunk_core.proofs.Members.{among_cons, among_mid, among_nil}
use Rattle.res_ledger.specs.declared.event.StreamNo.TheVariants.{Inner}
use Rattle.device_port.specs.declared.device.Mode.TheVariants as mode
use Rattle.device_port.specs.Device.{DeviceTold, Place, faults_of}
use Rattle.run_rules.specs.Devices.{IsShut, OpensWhatIsThere, ReadsWhatIsThere, came_back}
use Rattle.run_rules.specs.Facts.{Acts, acts, at, is_mode}
use Rattle.run_rules.specs.Homes.{AreLeftAlone, IsBack, IsUntouched}
use Rattle.run_rules.specs.Outputs.{NeverFall}
use Rattle.run_rules.specs.Work.{row_places, RunRecord, Stream, Work, first_row_of}
use Rattle.run_laws.specs.LedgerTests.{are_left_alone, is_absent, is_empty, is_left_alone, is_read_within, is_shut, is_untouched, never_fall}
use Rattle.run_laws.proofs.Deciding.{Decides-to, acts_so, and_so, at_below, at_most, below_so, first_so, if_so, if_some_so, same_mode, same_number}

empty_so : (w : List ℕ) → Decides (is_empty w) (w ≡ [])
empty_so [] = (λ h. refl, λ e. refl)
empty_so (b ∷ bs) = (λ h. absurd (false≢true h), λ e. let n : ⊥ = cc in absurd n)

absent_so : (o : Option Bool) → Decides (is_absent o) (o ≡ Some false)
absent_so None = (λ h. absurd (false≢true h), λ e. let n : ⊥ = cc in absurd n)
absent_so (Some true) = (λ h. absurd (false≢true h), λ e. let n : ⊥ = cc in absurd n)
absent_so (Some false) = (λ h. refl, λ e. refl)

unset_so : (b : Bool) → Decides (not b) (b ≡ false)
unset_so true = (λ h. absurd (false≢true h), λ e. absurd (false≢true (sym e)))
unset_so false = (λ h. refl, λ e. refl)

-- a path that isn't there was never opened to be read
there_so : (d : DeviceTold) → Decides (not (is_mode d.place.mode mode.Read && is_absent d.present) || nat_eq d.opens 0) (OpensWhatIsThere d)
there_so d = Decides-to (not (is_mode d.place.mode mode.Read && is_absent d.present) || nat_eq d.opens 0) (λ f m a. f (m, a)) (λ f b. f b.0 b.1)
    (if_so (is_mode d.place.mode mode.Read && is_absent d.present) (nat_eq d.opens 0) (and_so (is_mode d.place.mode mode.Read) (is_absent d.present) (same_mode d.place.mode mode.Read) (absent_so d.present)) (same_number d.opens 0))

-- no more was read than there is
within_so : (d : DeviceTold) → Decides (is_read_within d) (ReadsWhatIsThere d)
within_so d = if_some_so d.content (λ bytes. nat_le d.at (length bytes)) (λ bytes. d.at ≤ length bytes) (λ bytes. at_most d.at (length bytes))

pub shut_so : (d : DeviceTold) → Decides (is_shut d) (IsShut d)
shut_so d =
    let there : Bool = not (is_mode d.place.mode mode.Read && is_absent d.present) || nat_eq d.opens 0 in
    Decides-to (is_shut d) (λ t. record { shut = t.0; closes = t.1.0; once = t.1.1.0; there = t.1.1.1.0; within = t.1.1.1.1 }) (λ r. (r.shut, (r.closes, (r.once, (r.there, r.within)))))
    (and_so (not d.is_open) (nat_eq d.closes d.opens && (nat_le d.opens 1 && (there && is_read_within d))) (unset_so d.is_open)
    (and_so (nat_eq d.closes d.opens) (nat_le d.opens 1 && (there && is_read_within d)) (same_number d.closes d.opens)
    (and_so (nat_le d.opens 1) (there && is_read_within d) (at_most d.opens 1)
    (and_so there (is_read_within d) (there_so d) (within_so d)))))

pub untouched_so : (d : DeviceTold) → Decides (is_untouched d) (IsUntouched d)
untouched_so d =
    let kept : Bool = elim d.written [ Some w ↦ is_empty w | None ↦ true ] in
    Decides-to (is_untouched d) (λ t. record { opens = t.0; at = t.1.0; written = t.1.1.0; faults = t.1.1.1 }) (λ r. (r.opens, (r.at, (r.written, r.faults))))
    (and_so (nat_eq d.opens 0) (nat_eq d.at 0 && (kept && nat_eq (faults_of d) 0)) (same_number d.opens 0)
    (and_so (nat_eq d.at 0) (kept && nat_eq (faults_of d) 0) (same_number d.at 0)
    (and_so kept (nat_eq (faults_of d) 0) (if_some_so d.written is_empty (λ w. w ≡ []) empty_so) (same_number (faults_of d) 0))))

module _ (work : Work) (c : RunRecord) (w : ℕ → DeviceTold) where
  -- stream k noted something, or nothing was done on its devices
  abbrev IsLeftAlone : ℕ → Type 0
  IsLeftAlone k = (r : ℕ) (s : Stream) → at work.streams k ≡ Some s → ¬ (Acts (Inner k) c.events) → first_row_of work k ≤ r → r < first_row_of work k + length s.places → IsUntouched (w r)

  abbrev row_count : Option Stream → ℕ
  row_count o = length (elim o as (λ p. List Place) [ Some s ↦ s.places | None ↦ [] ])

  -- the devices of its rows are untouched
  rows_so : (k n : ℕ) → Decides (all (λ r. is_untouched (w r)) (range_with_len (first_row_of work k) n)) ((r : ℕ) → first_row_of work k ≤ r → r < first_row_of work k + n → IsUntouched (w r))
  rows_so k n = below_so (λ r. is_untouched (w r)) (λ r. IsUntouched (w r)) (λ r. untouched_so (w r)) (first_row_of work k) n

  -- where it noted nothing
  quiet : (k : ℕ) (o : Option Stream) → at work.streams k ≡ o → ¬ (Acts (Inner k) c.events) → IsLeftAlone k → all (λ r. is_untouched (w r)) (range_with_len (first_row_of work k) (row_count o)) ≡ true
  quiet k None e n f = refl
  quiet k (Some s) e n f = (rows_so k (length s.places)).1 (λ r l m. f r s e n l m)

  left_so : (k : ℕ) → Decides (is_left_alone work c w k) (IsLeftAlone k)
  left_so k =
      let o : Option Stream = at work.streams k in
      let untouched : Bool = all (λ r. is_untouched (w r)) (range_with_len (first_row_of work k) (row_count o)) in (
        λ h r s e n l m. ⊎_elim
            (λ a. absurd (n ((acts_so (Inner k) c.events).0 a)))
            (λ u. (rows_so k (row_count o)).0 u r l (subst (λ p. r < first_row_of work k + row_count p) (sym e) m))
            (either (acts (Inner k) c.events) untouched h),
        λ f. ⊎_elim
            (λ a. or_left (acts (Inner k) c.events) untouched a)
            (λ n. or_right (acts (Inner k) c.events) untouched (quiet k o refl (λ a. no (acts (Inner k) c.events) n ((acts_so (Inner k) c.events).1 a)) f))
            (tested (acts (Inner k) c.events)),
      )

  pub left_alone_so : Decides (are_left_alone work c w) (AreLeftAlone work c w)
  left_alone_so = Decides-to (are_left_alone work c w) (λ f k r s e n l m. f k (at_below work.streams k s e) r s e n l m) (λ f k b r s e n l m. f k r s e n l m)
      (first_so (is_left_alone work c w) IsLeftAlone left_so (length work.streams))

-- each device that came back is a row's home, where each stands at one
pub housed_by : (work : Work) (c : RunRecord) (w : ℕ → DeviceTold) → AllByRecursion (λ (d : DeviceTold). (r : ℕ) × (r < length (row_places work)) × (d ≡ w r)) (came_back c.depot_old c.depot_new) → (d : DeviceTold) → IsBack c d → (r : ℕ) × (r < length (row_places work)) × (d ≡ w r)
housed_by work c w each d m = among_each (λ (x : DeviceTold). (r : ℕ) × (r < length (row_places work)) × (x ≡ w r)) d (came_back c.depot_old c.depot_new) each m

-- Frames.

falls_not : (F : List Frame) → never_fall F ≡ true → NeverFall F
falls_not [] h [] B f g e m = absurd (among_nil m)
falls_not [] h (a ∷ A) B f g e m = let n : ⊥ = cc in absurd n
falls_not (x ∷ F) h [] B f g e m = absurd (among_nil m)
falls_not (x ∷ F) h (a ∷ A) B f g e m =
    let b = both (all (λ y. nat_le x.stream y.stream) F) (never_fall F) h in
    let t = cut x F (A ++ g ∷ B) a e in
    ⊎_elim
    (λ i. subst (λ y. y.stream ≤ g.stream) (t.0 ∙ sym i) (leb-true x.stream g.stream (all_at (λ y. nat_le x.stream y.stream) g F (subst (λ l. IsAmong g l) (sym t.1) (among_mid A B g)) b.0)))
    (λ i. falls_not F b.1 A B f g t.1 i)
    (among_cons m)

fall_not : (F : List Frame) → NeverFall F → never_fall F ≡ true
fall_not [] h = refl
fall_not (x ∷ F) h = and_true (all (λ y. nat_le x.stream y.stream) F) (never_fall F)
    (each_passes (λ y. nat_le x.stream y.stream) F (λ g m. let p = among_parts g F m in le-leb x.stream g.stream (h (x ∷ p.0) p.1 x g (ap (λ l. x ∷ l) p.2) (here p.0))))
    (fall_not F (λ A B f g e m. h (x ∷ A) B f g (ap (λ l. x ∷ l) e) (there x m)))

pub never_fall_so : (F : List Frame) → Decides (never_fall F) (NeverFall F)
never_fall_so F = (falls_not F, fall_not F)
