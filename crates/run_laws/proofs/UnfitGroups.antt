-- Each run of groups with one thing wrong is refused.
use Rattle.std.proofs.Common.{◌≡◌, ◌⊎◌, ℕ, zero, suc, ◌+◌, ◌<◌, true, [], ◌∷◌, refl, sym, ap, ◌∙◌, inl, inr, arith, ⊎_elim}
use Rattle.std.specs.List.{list_any as any}
use Rattle.std.proofs.lemmas.Bool.{false≢true, lt-ltb}
use Rattle.chunk_core.specs.Lists.IsAmong.{here, there}
use Rattle.device_port.specs.Device.{DeviceTold, to_read}
use Rattle.res_ledger.specs.Judge.{is_of}
use Rattle.res_ledger.specs.Ledger.{IsAcquired}
use Rattle.res_ledger.specs.declared.event.What.TheVariants.{Acquire}
use Rattle.res_ledger.specs.Own.{acquires_of}
use Rattle.res_ledger.proofs.Noted.{noted_at}
use Rattle.run_rules.specs.Homes.{is_tried}
use Rattle.run_rules.specs.Opening.{AreUntried}
use Rattle.run_rules.specs.Run.{Performs, Ran}
use Rattle.run_laws.specs.Groups.{b_csv, group_work, grouped_opener, pair_work, part}
use Rattle.run_laws.specs.Others.{u_csv}
use Rattle.run_laws.specs.Tables.{a_csv, t_csv}
use Rattle.run_laws.specs.UnfitGroups.{AreUnfitGroups, acquired_in_the_root, apart_work, closed_otherwise, closed_too_early, covers_another_group, halted_by_halves, halves_work, leased_behind_another, leased_on_the_root, left_to_the_root, tried_before_its_turn}
use Rattle.run_laws.specs.Written.{missing_device}
use Rattle.run_laws.proofs.GivingTested.{all_given_so, lends_so}
use Rattle.run_laws.proofs.Judging.{by_giving, failing, no_nil, ran}
use Rattle.run_laws.proofs.Tested.{leased_so}
use Rattle.run_laws.proofs.Housed.{first_byte, moved, path_byte}

left_to_the_root_refused : ¬ (Performs group_work left_to_the_root)
left_to_the_root_refused h =
    let r = ran group_work left_to_the_root (no_nil _ _) h in
    failing (all_given_so (grouped_opener (t_csv ∷ []) (part 1 1 ∷ [])) 1 left_to_the_root.events) refl r.ends.outer.end.1

-- the lease covers more than it may
covers_another_refused : ¬ (Performs apart_work covers_another_group)
covers_another_refused h = failing (lends_so (grouped_opener (t_csv ∷ u_csv ∷ []) (part 1 1 ∷ part 1 1 ∷ [])) 2 covers_another_group.events h.ledger.legal) refl h.ledger.given.tables

-- the rows of four
below_four : (r : ℕ) → r < 4 → (r ≡ 0) ⊎ ((r ≡ 1) ⊎ ((r ≡ 2) ⊎ (r ≡ 3)))
below_four zero l = inl refl
below_four (suc zero) l = inr (inl refl)
below_four (suc (suc zero)) l = inr (inr (inl refl))
below_four (suc (suc (suc zero))) l = inr (inr (inr refl))
below_four (suc (suc (suc (suc r)))) l = absurd (omega (arith, l))

before_its_turn_so : Ran apart_work tried_before_its_turn → ⊥
before_its_turn_so r =
    let d : DeviceTold = missing_device 1 u_csv in
    let at = r.rows.housed d (there _ (here _)) in
    let first : (r.home 0).place ≡ to_read t_csv = r.rows.at_home.0 in
    let third : (r.home 2).place ≡ to_read a_csv = r.rows.at_home.3.3.0 in
    let fourth : (r.home 3).place ≡ to_read b_csv = r.rows.at_home.3.3.3.0 in
    ⊎_elim
    (λ z. let b = ap first_byte (moved r.home d at.0 0 at.2 z) ∙ path_byte (r.home 0) (to_read t_csv) first in omega (arith, b))
    (λ y. ⊎_elim
    (λ z.
    let same : d ≡ r.home 1 = moved r.home d at.0 1 at.2 z in
    let tried : is_tried (r.home 1) ≡ true = ap is_tried (sym same) in
    failing (leased_so tried_before_its_turn.events 0) refl (r.ends.outer.turns 1 0 (omega arith) tried (omega arith)))
    (λ x. ⊎_elim
    (λ z. let b = ap first_byte (moved r.home d at.0 2 at.2 z) ∙ path_byte (r.home 2) (to_read a_csv) third in omega (arith, b))
    (λ z. let b = ap first_byte (moved r.home d at.0 3 at.2 z) ∙ path_byte (r.home 3) (to_read b_csv) fourth in omega (arith, b))
    x)
    y)
    (below_four at.0 at.1)

-- no event acquires the second row
second_unacquired : IsAcquired halted_by_halves.events 1 → ⊥
second_unacquired a = false≢true (noted_at (λ w. any (is_of 1) (acquires_of w)) halted_by_halves.events a.0 (Acquire 1 a.1) a.2 refl)

by_halves_so : Ran halves_work halted_by_halves → ⊥
by_halves_so r =
    let opened : (r.home 0).opens ≡ 1 = r.rows.tied.1.1.1.0 in
    let untried : AreUntried r.home 0 (to_read t_csv ∷ to_read u_csv ∷ []) → ⊥ = λ u. false≢true (sym u.0 ∙ lt-ltb 0 ((r.home 0).opens + (r.home 0).open_faults) (omega (arith, opened))) in
    ⊎_elim untried (λ t. ⊎_elim untried (λ q. second_unacquired q.0.1.0.acquired) t.1) r.ends.outer.end.0

pub unfit_groups : AreUnfitGroups
unfit_groups = record {
  on_the_root = by_giving group_work leased_on_the_root refl;
  in_the_root = by_giving group_work acquired_in_the_root refl;
  to_the_root = left_to_the_root_refused;
  otherwise = by_giving group_work closed_otherwise refl;
  too_early = by_giving pair_work closed_too_early refl;
  behind_another = by_giving apart_work leased_behind_another refl;
  covers_another = covers_another_refused;
  before_its_turn = λ h. before_its_turn_so (ran apart_work tried_before_its_turn (no_nil _ _) h);
  by_halves = λ h. by_halves_so (ran halves_work halted_by_halves (no_nil _ _) h);
}
