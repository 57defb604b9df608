-- The run that is written out is one of streams that ran side by side.
use Rattle.std.proofs.Common.{◌≡◌, ◌⊎◌, ℕ, zero, suc, ◌+◌, ◌<◌, ◌≤◌, ◌^◌, true, false, List, [], ◌∷◌, take, inl, inr, Some, refl, sym, ap, ◌∙◌, subst, ⊎_elim, arith}
use Rattle.std.specs.Prelude.{codes}
use Rattle.std.proofs.lemmas.List.Sorted.{IsPermutation-middle}
use Rattle.chunk_core.specs.Elements.{Byte}
use Rattle.chunk_core.specs.Lists.{IsAmong}
use Rattle.chunk_core.specs.Lists.IsAmong.{here, there}
use Rattle.chunk_core.specs.Outcomes.{Cut, Done}
use Rattle.chunk_core.specs.Tables.{no_values}
use Rattle.chunk_core.specs.declared.code.Exit.TheVariants.{Canceled, Succeeded}
use Rattle.chunk_core.specs.declared.code.How.TheVariants as how
use Rattle.chunk_core.proofs.Bools.{any_found}
use Rattle.chunk_core.proofs.Distinct.{test_distinct}
use Rattle.chunk_core.proofs.Each.{among_each}
use Rattle.chunk_core.proofs.Members.{among_cons, among_mid, among_nil}
use Rattle.interrupt_ctx.specs.Views.{interruption}
use Rattle.interrupt_ctx.specs.declared.view.Interruption.{Interruption}
use Rattle.interrupt_ctx.specs.declared.why.Stop.{Stop}
use Rattle.interrupt_ctx.specs.declared.why.Why.{Why}
use Rattle.interrupt_ctx.specs.declared.why.Why.TheVariants as why
use Rattle.res_ledger.specs.declared.event.StreamNo.{StreamNo}
use Rattle.res_ledger.specs.declared.event.StreamNo.TheVariants.{Inner, Outer}
use Rattle.res_ledger.specs.declared.event.What.TheVariants.{Acquire, Cancel, Close, Final, Lease}
use Rattle.res_ledger.specs.declared.event.Event.{Event}
use Rattle.res_ledger.specs.Streams.{by_stream}
use Rattle.res_ledger.specs.Whole.{is_cancel}
use Rattle.res_ledger.proofs.Ledgers.{by_in, inner_is}
use Rattle.device_port.specs.declared.device.Mode.TheVariants as mode
use Rattle.device_port.specs.Device.{Place, to_read}
use Rattle.run_rules.specs.declared.end.EndOf.{EndOf}
use Rattle.run_rules.specs.Ends.{IsTurn}
use Rattle.run_rules.specs.Facts.{at, has_left, leased_stream}
use Rattle.run_rules.specs.Opening.{AreTablesRead}
use Rattle.run_rules.specs.Work.{Stream, all_parts, first_row_of, rows_up_to}
use Rattle.join_tale.specs.Bounds.{bounds_of}
use Rattle.join_tale.specs.Records.{EndedSo, IsRecordOf, bare}
use Rattle.join_tale.specs.Tales.{HasCome, IsBegun}
use Rattle.join_tale.proofs.Endings.{come_begun}
use Rattle.join_tale.proofs.Places.{none_some, some_is}
use Rattle.joined_runs.specs.Devices.{MadeComeBack}
use Rattle.plan_work.specs.Joined.{places_in}
use Rattle.joined_runs.specs.Shares.{AreTablesKept, IsJoinedLedger, IsOuterNote, IsShare}
use Rattle.joined_runs.specs.Together.{HasNotRun, HasRun}
use Rattle.joined_runs.specs.Worked.{IsWorked, both_ran, file_runs, full_depot, noted, one_frame, read_depot, reads_file, two_files, worked_home, worked_run}
use Rattle.joined_runs.proofs.WorkedTale.{came_0, came_1, come_of, ended_0, ended_1, others, worked_is_tale, worked_settled, worked_tale}
use Rattle.joined_runs.proofs.WrittenOut.{account_of, share_of}

-- The devices.

read_write : mode.Read ≡ mode.Write → ⊥
read_write e = cc

-- both files are there
there_not : Some true ≡ Some false → ⊥
there_not e = cc

no_third : (r : ℕ) (p : Place) → at (places_in one_frame two_files) r ≡ Some p → (IsAmong r (0 ∷ 1 ∷ []) → ⊥) → ⊥
no_third zero p e n = n (here (1 ∷ []))
no_third (suc zero) p e n = n (there 0 (here []))
no_third (suc (suc r)) p e n = none_some e

devices_back : MadeComeBack full_depot read_depot (places_in one_frame two_files) worked_home
devices_back = record {
  rows = 0 ∷ 1 ∷ [];
  apart = test_distinct (0 ∷ 1 ∷ []) refl;
  made = refl;
  back = worked_home 1 ∷ worked_home 0 ∷ [];
  retired = refl;
  each = IsPermutation-middle (worked_home 0 ∷ []) (worked_home 1) [];
  devices = (
    (to_read (codes "a"), refl, record { number_is = refl; place_is = refl; content_is = refl; rest = record { shut = refl; stage = inr (refl, refl) } }),
    ((to_read (codes "b"), refl, record { number_is = refl; place_is = refl; content_is = refl; rest = record { shut = refl; stage = inr (refl, refl) } }), tt),
  );
  others = λ r p e n. absurd (no_third r p e n);
  files = λ path. inr refl;
  stored = ((λ w. absurd (read_write w)), ((λ w. absurd (read_write w)), tt));
  there = (((λ m p. absurd (there_not p)), omega arith), (((λ m p. absurd (there_not p)), omega arith), tt));
}

read_within : (r : ℕ) → (worked_home r).at ≤ 2 ^ 40
read_within zero = omega arith
read_within (suc r) = omega arith

-- The ledger.

abbrev L : List Event
L = worked_run.events

not_inner : (k : ℕ) → Outer ≡ Inner k → ⊥
not_inner k e = cc

not_outer : (k : ℕ) → Inner k ≡ Outer → ⊥
not_outer k e = cc

zero_one : Inner 0 ≡ Inner 1 → ⊥
zero_one e = let f = inner_is 0 1 e in omega (arith, f)

one_zero : Inner 1 ≡ Inner 0 → ⊥
one_zero e = let f = inner_is 1 0 e in omega (arith, f)

by_0 : (Inner 0 ≡ Outer) ⊎ ((k : ℕ) × (k < 2) × (Inner 0 ≡ Inner k))
by_0 = inr (0, omega arith, refl)

by_1 : (Inner 1 ≡ Outer) ⊎ ((k : ℕ) × (k < 2) × (Inner 1 ≡ Inner k))
by_1 = inr (1, omega arith, refl)

account : IsJoinedLedger one_frame 2 how.Done L
account = account_of one_frame 2 how.Done L (omega arith)
    (inl refl, (inl refl, (inl refl, (by_0, (by_1, (by_0, (by_1, (by_0, (by_1, (by_0, (by_1, tt)))))))))))
    ((λ q. omega arith), ((λ q. omega arith), ((λ q. refl), ((λ q. absurd (not_outer 0 q)), ((λ q. absurd (not_outer 1 q)), ((λ q. absurd (not_outer 0 q)), ((λ q. absurd (not_outer 1 q)), ((λ q. absurd (not_outer 0 q)), ((λ q. absurd (not_outer 1 q)), ((λ q. absurd (not_outer 0 q)), ((λ q. absurd (not_outer 1 q)), tt)))))))))))
    (Succeeded, (noted 2 Outer (Close 0 Succeeded), there (noted 0 Outer (Lease 0 0)) (there (noted 1 Outer (Lease 1 0)) (here both_ran)), refl, refl))
    ([], refl) refl refl refl refl refl refl

-- an outer stream without tables keeps none
tables : AreTablesKept 0 worked_home L
tables = record {
  acquired = λ r s m. let x : IsOuterNote 0 2 how.Done (Acquire r s) = subst (λ v. IsOuterNote 0 2 how.Done v) m.3 (account.outer_notes m.0 m.1 m.2) in absurd (omega (arith, x));
  each = λ r l o. absurd (omega (arith, l));
  ended = λ r x ok m. let y : IsOuterNote 0 2 how.Done (Final r x ok) = subst (λ v. IsOuterNote 0 2 how.Done v) m.3 (account.outer_notes m.0 m.1 m.2) in absurd (omega (arith, y));
}

-- the events stand in the ledger
behind : (e : Event) → IsAmong e both_ran → IsAmong e L
behind e m = there (noted 0 Outer (Lease 0 0)) (there (noted 1 Outer (Lease 1 0)) (there (noted 2 Outer (Close 0 Succeeded)) m))

abbrev acquires_0 : Event
acquires_0 = noted 3 (Inner 0) (Acquire 0 0)

abbrev acquires_1 : Event
acquires_1 = noted 4 (Inner 1) (Acquire 1 0)

abbrev closes_0 : Event
closes_0 = noted 5 (Inner 0) (Close 0 Succeeded)

abbrev closes_1 : Event
closes_1 = noted 6 (Inner 1) (Close 0 Canceled)

abbrev last_four : List Event
last_four = noted 7 (Inner 0) (Final 0 Succeeded true) ∷ noted 8 (Inner 1) (Final 1 Canceled true) ∷ noted 9 (Inner 0) (Cancel 0 Succeeded) ∷ noted 10 (Inner 1) (Cancel 1 Canceled) ∷ []

acquired_0 : IsAmong acquires_0 L
acquired_0 = behind acquires_0 (here (acquires_1 ∷ closes_0 ∷ closes_1 ∷ last_four))

acquired_1 : IsAmong acquires_1 L
acquired_1 = behind acquires_1 (there acquires_0 (here (closes_0 ∷ closes_1 ∷ last_four)))

closed_0 : IsAmong closes_0 L
closed_0 = behind closes_0 (there acquires_0 (there acquires_1 (here (closes_1 ∷ last_four))))

closed_1 : IsAmong closes_1 L
closed_1 = behind closes_1 (there acquires_0 (there acquires_1 (there closes_0 (here last_four))))

share_0 : IsShare 0 0 1 0 worked_home how.Done L
share_0 = share_of 0 0 1 0 worked_home how.Done L (omega arith)
    ((λ q. absurd (not_inner 0 q)), ((λ q. absurd (not_inner 0 q)), ((λ q. absurd (not_inner 0 q)), ((λ q. (omega arith, omega arith, refl)), ((λ q. absurd (one_zero q)), ((λ q. refl), ((λ q. absurd (one_zero q)), ((λ q. (refl, refl)), ((λ q. absurd (one_zero q)), ((λ q. (refl, refl, (closes_0, Succeeded, closed_0, refl, refl, omega arith))), ((λ q. absurd (one_zero q)), tt)))))))))))
    (λ r l m o. let z : r ≡ 0 = omega arith in (0, (acquires_0, acquired_0, refl, ap (λ k. Acquire k 0) (sym z)))) (Succeeded, (closes_0, closed_0, refl, refl))

share_1 : IsShare 1 1 2 0 worked_home how.Halted L
share_1 = share_of 1 1 2 0 worked_home how.Halted L (omega arith)
    ((λ q. absurd (not_inner 1 q)), ((λ q. absurd (not_inner 1 q)), ((λ q. absurd (not_inner 1 q)), ((λ q. absurd (zero_one q)), ((λ q. (omega arith, omega arith, refl)), ((λ q. absurd (zero_one q)), ((λ q. refl), ((λ q. absurd (zero_one q)), ((λ q. (refl, refl)), ((λ q. absurd (zero_one q)), ((λ q. (refl, refl, (closes_1, Canceled, closed_1, refl, refl, omega arith))), tt)))))))))))
    (λ r l m o. let z : r ≡ 1 = omega arith in (0, (acquires_1, acquired_1, refl, ap (λ k. Acquire k 0) (sym z)))) (Canceled, (closes_1, closed_1, refl, refl))

-- What the record tells.

begun_by : (e : Event) → IsAmong e L → (k : ℕ) → e.by ≡ Inner k → IsBegun worked_tale k
begun_by e m k b = ⊎_elim (λ o. absurd (not_inner k (sym o ∙ b))) (λ x. by_number x.0 x.1 (inner_is x.0 k (sym x.2 ∙ b))) (account.names e m)
  where
    by_number : (i : ℕ) → i < 2 → i ≡ k → IsBegun worked_tale k
    by_number zero l is = subst (λ j. IsBegun worked_tale j) is refl
    by_number (suc zero) l is = subst (λ j. IsBegun worked_tale j) is refl
    by_number (suc (suc i)) l is = absurd (omega (arith, l))

left_come : (j : ℕ) → has_left j L ≡ true → HasCome worked_tale j
left_come j t =
    let f = any_found (λ (e : Event). is_cancel j e.what) (by_stream (Inner j) L) t in
    let i = by_in (Inner j) L f.0 f.1 in
    come_of j (begun_by f.0 i.0 j i.1)

come_left : (j : ℕ) → IsBegun worked_tale j → has_left j L ≡ true
come_left zero b = refl
come_left (suc zero) b = refl
come_left (suc (suc j)) b = absurd (none_some b)

-- of what is leased for
abbrev LeasesLow : Event → Type 0
LeasesLow e = (j : ℕ) → leased_stream e.what ≡ Some j → j ≤ 1

leases_low : (e : Event) → IsAmong e L → LeasesLow e
leases_low e m = among_each LeasesLow e L
    ((λ j q. let z = some_is 0 j q in omega (arith, z)), ((λ j q. let z = some_is 1 j q in omega (arith, z)), ((λ j q. absurd (none_some q)), ((λ j q. absurd (none_some q)), ((λ j q. absurd (none_some q)), ((λ j q. absurd (none_some q)), ((λ j q. absurd (none_some q)), ((λ j q. absurd (none_some q)), ((λ j q. absurd (none_some q)), ((λ j q. absurd (none_some q)), ((λ j q. absurd (none_some q)), tt)))))))))))
    m

-- no other stream had its turn
turn_low : (k : ℕ) (e : Event) → IsAmong e L → IsTurn L k e → k ≤ 1
turn_low k e m t = ⊎_elim
    (λ by. ⊎_elim (λ o. absurd (not_inner k (sym o ∙ by))) (λ x. let l = x.1 in let q = inner_is x.0 k (sym x.2 ∙ by) in omega (arith, l, q)) (account.names e m))
    (λ s. ⊎_elim (λ l. let z = leases_low e m (k + 1) l in omega (arith, z)) (λ q. let n = q.2.2 in leases_low n.0 n.1 k (ap leased_stream n.3)) s)
    t

low_begun : (k : ℕ) → k ≤ 1 → IsBegun worked_tale k
low_begun zero l = refl
low_begun (suc zero) l = refl
low_begun (suc (suc k)) l = absurd (omega (arith, l))

low_told : (k i : ℕ) → i < k → k ≤ 1 → IsAmong i (others k)
low_told zero i l m = absurd (omega (arith, l))
low_told (suc k) i l m = let z : i ≡ 0 = omega (arith, l, m) in subst (λ j. IsAmong j (0 ∷ [])) (sym z) (here [])

-- the only code was set since enough was printed, and it names no front
for_take : (d : ℕ) (w : Stop) → IsAmong (interruption d w) worked_tale.set → (v : Why) → w.why ≡ v → (why.Take ≡ v → ⊥) → ⊥
for_take d w m v is other = ⊎_elim (λ z. other (sym (ap (λ (y : Interruption). y.stop.why) z) ∙ is)) (λ n. among_nil n) (among_cons m)

behind_none : {n m : ℕ} → n ≡ 0 → n ≤ m
behind_none e = omega (arith, e)

recorded : IsRecordOf (bare (Some one_frame) two_files) worked_tale worked_run
recorded = record {
  frames = refl;
  cut = refl;
  memory = refl;
  opener = refl;
  named = refl;
  told = λ e m. among_each (λ (x : EndOf). EndedSo worked_tale x.who x.how) e worked_run.ends (refl, (ended_0, (ended_1, tt))) m;
  count = omega arith;
  begun = λ e k m b. begun_by e m k b;
  left = left_come;
  leaves = λ j c. come_left j (come_begun (bounds_of one_frame two_files) worked_tale j worked_is_tale c.0 c.1);
  turns = λ k h. inl (low_begun k (turn_low k h.0 h.1 h.2));
  room = λ k i l w. low_told k i l (turn_low k w.2 (subst (λ E. IsAmong w.2 E) (sym w.3) (among_mid w.0 w.1 w.2)) w.4);
  stamped = account.stamped;
  behind = λ k w m e x i b q. behind_none (⊎_elim (λ z. ap (λ (y : StreamNo × Stop). y.1.at) z) (λ n. absurd (among_nil n)) (among_cons m));
  failed = λ d w m is. absurd (for_take d w m why.Fault is (λ e. cc));
  ended = λ d w m is. absurd (for_take d w m why.Until is (λ e. cc));
}

-- The streams.

ran_0 : HasRun (file_runs 0 no_values worked_home) worked_home worked_tale L 0 0 (reads_file (codes "a"))
ran_0 = record {
  how = how.Done;
  begun = refl;
  came = came_0;
  share = share_0;
  pieces = (Byte 120 ∷ []) ∷ [];
  received = refl;
  end = Done;
  run = inl (inl (refl, refl, inl (refl, (refl, omega arith, refl, refl))));
  reported = refl;
}

ran_1 : HasRun (file_runs 1 no_values worked_home) worked_home worked_tale L 1 1 (reads_file (codes "b"))
ran_1 = record {
  how = how.Halted;
  begun = refl;
  came = came_1;
  share = share_1;
  pieces = (Byte 120 ∷ []) ∷ [];
  received = refl;
  end = Cut;
  run = inl (inl (refl, refl, inl (refl, tt)));
  reported = inl refl;
}

each_ran : (k : ℕ) (s : Stream) → at two_files k ≡ Some s → HasRun (file_runs k no_values worked_home) worked_home worked_tale L k (first_row_of (bare (Some one_frame) two_files) k) s ⊎ HasNotRun worked_home worked_tale k (first_row_of (bare (Some one_frame) two_files) k) s
each_ran zero s e = let same : reads_file (codes "a") ≡ s = cc in inl (subst (λ t. HasRun (file_runs 0 no_values worked_home) worked_home worked_tale L 0 0 t) same ran_0)
each_ran (suc zero) s e = let same : reads_file (codes "b") ≡ s = cc in inl (subst (λ t. HasRun (file_runs 1 no_values worked_home) worked_home worked_tale L 1 1 t) same ran_1)
each_ran (suc (suc k)) s e = absurd (none_some e)

-- an outer stream without tables has read them
none_read : (n : ℕ) → AreTablesRead one_frame worked_run worked_home 0 (take n [])
none_read zero = tt
none_read (suc n) = tt

pub is_worked : IsWorked
is_worked = record {
  together = record {
    home = worked_home;
    values = no_values;
    outer = how.Done;
    tale = worked_tale;
    devices = devices_back;
    valued = λ t key l. absurd (omega (arith, l));
    within = λ r m l. read_within r;
    account = account;
    tables = tables;
    came = record {
      end = (tt, refl, tt);
      gives = λ j s m. none_read (rows_up_to 0 0 (all_parts one_frame 2) j);
      turns = λ q j l. absurd (omega (arith, l));
      behind = tt;
      listed = tt;
      nobody = λ e. absurd (let f = some_is 1 0 e in omega (arith, f));
    };
    is_tale = worked_is_tale;
    settled = worked_settled;
    recorded = recorded;
    outer_is = refl;
    each = each_ran;
    rest = refl;
  };
}
