-- A fault of a table shows on its device, and comes of a device that failed or of what the table holds.
use Rattle.std.proofs.Common.{◌≡◌, ℕ, suc, ◌+◌, ◌<◌, ◌≤◌, List, [], ◌∷◌, inl, inr, flat_map, length, Option, Some, None, IfSome, refl, sym, ◌∙◌, ap, subst, ⊎_elim, arith}
use Rattle.std.specs.List.{AllByRecursion}
use Rattle.chunk_core.specs.declared.code.Code.{Code}
use Rattle.chunk_core.specs.declared.code.Code.TheVariants as code
use Rattle.device_port.specs.Device.{DeviceTold, Place, faults_of}
use Rattle.device_port.specs.Depot.{content_at}
use Rattle.run_rules.specs.Ends.{act_count}
use Rattle.run_rules.specs.Facts.{at}
use Rattle.run_rules.specs.Opening.{AreTablesFailed, IsRefusedBy, IsTableFailed, IsTableFault}
use Rattle.run_rules.specs.Work.{Opener, RunRecord, Stream, list_places, opener_places}
use Rattle.joined_runs.specs.Devices.{MadeComeBack}
use Rattle.plan_work.specs.Joined.{places_in}
use Rattle.joined_runs.proofs.Covered.{RefusesTables}
use Rattle.joined_runs.proofs.MadeRows.{at_below, placed_at}
use Rattle.joined_runs.proofs.RowPlaces.{at_left}

-- a fault of what a table holds names no act of a device
no_act : (d : DeviceTold) (c : Code) → IsTableFault c → IfSome (act_count c) (λ n. 0 < n d)
no_act d code.Open h = absurd h
no_act d code.Read h = absurd h
no_act d code.Write h = absurd h
no_act d c h = tt

module _ (opener : Opener) (refuses : RefusesTables opener) (c : RunRecord) (w : ℕ → DeviceTold) (f : Code) where
  refused : (o : Option (List ℕ)) → IsRefusedBy opener o f → IsTableFault f
  refused None h = h
  refused (Some bytes) h = refuses bytes f h

  -- the device of a table that failed shows its fault
  table_shows : (d : DeviceTold) → IsTableFailed opener c d f → IfSome (act_count f) (λ n. 0 < n d)
  table_shows d (back, inl (o, t, is)) = subst (λ k. IfSome (act_count k) (λ n. 0 < n d)) (sym is) (omega (arith, t))
  table_shows d (back, inr (o, inl (t, is))) = subst (λ k. IfSome (act_count k) (λ n. 0 < n d)) (sym is) (omega (arith, t))
  table_shows d (back, inr (o, inr (t, r))) = no_act d f (refused d.content r)

  row_shows : (o : Option (DeviceTold → ℕ)) (i m : ℕ) → 0 < m → IfSome o (λ n. 0 < n (w i)) → IfSome o (λ n. (r : ℕ) × (i ≤ r) × (r < i + m) × (0 < n (w r)))
  row_shows None i m l h = tt
  row_shows (Some n) i m l h = (i, omega arith, omega (arith, l), h)

  row_behind : (o : Option (DeviceTold → ℕ)) (i m : ℕ) → IfSome o (λ n. (r : ℕ) × (i + 1 ≤ r) × (r < i + 1 + m) × (0 < n (w r))) → IfSome o (λ n. (r : ℕ) × (i ≤ r) × (r < i + suc m) × (0 < n (w r)))
  row_behind None i m h = tt
  row_behind (Some n) i m (r, l, u, h) = (r, omega (arith, l), omega (arith, u), h)

  -- so has one of the tables
  pub tables_show : (i : ℕ) (ps : List Place) → AreTablesFailed opener c w i ps f → IfSome (act_count f) (λ n. (r : ℕ) × (i ≤ r) × (r < i + length ps) × (0 < n (w r)))
  tables_show i [] h = absurd h
  tables_show i (p ∷ ps) (inl h) = row_shows (act_count f) i (suc (length ps)) (omega arith) (table_shows (w i) h.0)
  tables_show i (p ∷ ps) (inr h) = row_behind (act_count f) i (length ps) (tables_show (i + 1) ps h.1)

module _ (opener : Opener) (ss : List Stream) (c : RunRecord) (w : ℕ → DeviceTold) (d : MadeComeBack c.depot_old c.depot_new (places_in opener ss) w) where
  -- the rows of the outer stream come first
  pub outer_stands : (q : ℕ) (p : Place) → at (opener_places opener) q ≡ Some p → at (places_in opener ss) q ≡ Some p
  outer_stands q p is = at_left (opener_places opener) (flat_map (λ (s : Stream). s.places) ss) q (at_below (opener_places opener) q p is) ∙ is

  -- and those of the tables first of all
  pub table_stands : (q : ℕ) (p : Place) → at opener.tables q ≡ Some p → at (opener_places opener) q ≡ Some p
  table_stands q p is = at_left opener.tables (list_places opener.list) q (at_below opener.tables q p is) ∙ is

  module _ (calm : (r : ℕ) → r < length (places_in opener ss) → faults_of (w r) ≡ 0) where
    -- a table whose content is told and isn't refused has not failed
    not_refused : (f : Code) (content : Option (List ℕ)) (bytes : List ℕ) → content ≡ Some bytes → opener.fault_of bytes ≡ None → IsRefusedBy opener content f → ⊥
    not_refused f content bytes is good h = let x : opener.fault_of bytes ≡ Some f = subst (λ z. IsRefusedBy opener z f) is h in let y = sym x ∙ good in cc

    table_well : (f : Code) (i : ℕ) (p : Place) → at (places_in opener ss) i ≡ Some p → (bytes : List ℕ) → content_at c.depot_old.files p.path ≡ Some bytes → opener.fault_of bytes ≡ None → IsTableFailed opener c (w i) f → ⊥
    table_well f i p is bytes told good (back, why) =
        let quiet = calm i (at_below (places_in opener ss) i p is) in
        ⊎_elim
        (λ x. let t = x.1 in omega (arith, quiet, t))
        (λ x. ⊎_elim (λ y. let t = y.0 in omega (arith, quiet, t)) (λ y. not_refused f (w i).content bytes ((placed_at (places_in opener ss) c.depot_old c.depot_new w d i p is).1 ∙ told) good y.1) x.1)
        why

    tables_from : (f : Code) (i : ℕ) (ps : List Place) → ((q : ℕ) (p : Place) → at ps q ≡ Some p → at (places_in opener ss) (i + q) ≡ Some p)
        → AllByRecursion (λ p. (bytes : List ℕ) × (content_at c.depot_old.files p.path ≡ Some bytes) × (opener.fault_of bytes ≡ None)) ps → AreTablesFailed opener c w i ps f → ⊥
    tables_from f i [] stand good h = h
    tables_from f i (p ∷ ps) stand good (inl h) = let same : i + 0 ≡ i = omega arith in table_well f i p (ap (at (places_in opener ss)) (sym same) ∙ stand 0 p refl) good.0.0 good.0.1 good.0.2 h.0
    tables_from f i (p ∷ ps) stand good (inr h) = tables_from f (i + 1) ps (λ q t is. let same : i + 1 + q ≡ i + suc q = omega arith in ap (at (places_in opener ss)) same ∙ stand (suc q) t is) good.1 h.1

    -- none failed where each is told and isn't refused
    pub tables_well : (f : Code) → AllByRecursion (λ p. (bytes : List ℕ) × (content_at c.depot_old.files p.path ≡ Some bytes) × (opener.fault_of bytes ≡ None)) opener.tables → AreTablesFailed opener c w 0 opener.tables f → ⊥
    tables_well f good h = tables_from f 0 opener.tables (λ q p is. let same : 0 + q ≡ q = omega arith in ap (at (places_in opener ss)) same ∙ outer_stands q p (table_stands q p is)) good h
