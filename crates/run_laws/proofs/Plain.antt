-- What the rules say of an outer stream without groups and a list.
use Rattle.std.proofs.Common.{◌≡◌, ◌⊎◌, ℕ, ◌+◌, Bool, true, false, cond, nat_lt, List, [], ◌∷◌, length, inl, inr, refl, ap, ◌∙◌, subst, ⊎_elim, arith, length-append}
use Rattle.std.specs.Prelude.{take}
use Rattle.std.specs.List.{sum_by}
use Rattle.std.proofs.lemmas.Bool.{lt-ltb}
use Rattle.std.proofs.lemmas.List.{take_all}
use Rattle.chunk_core.specs.declared.code.How.{How}
use Rattle.chunk_core.specs.declared.code.How.TheVariants as how
use Rattle.chunk_core.proofs.Bools.{or_left}
use Rattle.device_port.specs.Device.{DeviceTold}
use Rattle.res_ledger.specs.Ledger.{Notes}
use Rattle.res_ledger.specs.declared.event.Event.{Event}
use Rattle.res_ledger.specs.declared.event.StreamNo.TheVariants.{Outer}
use Rattle.res_ledger.specs.declared.event.What.TheVariants.{Lease}
use Rattle.run_rules.specs.Opening.{AreTablesRead, AreUntried, OuterHasRun}
use Rattle.run_rules.specs.Rules.{LendsTables}
use Rattle.run_rules.specs.Work.{Opener, Part, RunRecord, are_together, all_parts, list_places, parts_of, rows_up_to, top_of}
use Rattle.run_laws.specs.Laws.{IsPlain, TablesCovered}
use Rattle.run_laws.specs.Streams.{no_listing}

-- all tables are the top's
top_tables : (o : Opener) (n : ℕ) → IsPlain o → (top_of o n).tables ≡ length o.tables
top_tables o n plain = let none : sum_by (λ (p : Part). p.tables) o.groups ≡ 0 = ap (λ gs. sum_by (λ (p : Part). p.tables) gs) plain.0 in omega (arith, none)

no_parts : (o : Opener) → IsPlain o → parts_of o ≡ []
no_parts o plain = ap (λ gs. parts_of (record o { groups = gs })) plain.0 ∙ ap (λ l. parts_of (record o { groups = []; list = l })) plain.1

take_top : (o : Opener) (n : ℕ) → IsPlain o → take (top_of o n).tables o.tables ≡ o.tables
take_top o n plain = let e = top_tables o n plain in take_all (top_of o n).tables o.tables (omega (arith, e))

pub plain_halts : (o : Opener) (n : ℕ) (c : RunRecord) (w : ℕ → DeviceTold) → IsPlain o → OuterHasRun o no_listing n c w how.Halted → AreTablesRead o c w 0 o.tables ⊎ AreUntried w 0 o.tables
plain_halts o n c w plain h = ⊎_elim (λ u. inr u) (λ r. inl (subst (λ l. AreTablesRead o c w 0 l) (take_top o n plain) r.0)) h.end.0

one_way : (b : Bool) (x : ℕ) → cond b x x ≡ x
one_way true x = refl
one_way false x = refl

-- one part has all rows
rows_of_one : (p : Part) (ps : List Part) (j : ℕ) → ps ≡ [] → rows_up_to 0 0 (p ∷ ps) j ≡ p.tables
rows_of_one p ps j e = ap (λ l. rows_up_to 0 0 (p ∷ l) j) e ∙ (one_way (nat_lt j (0 + p.streams)) (0 + p.tables) ∙ omega arith)

pub plain_gives : (o : Opener) (n : ℕ) (c : RunRecord) (w : ℕ → DeviceTold) (h : How) → IsPlain o → OuterHasRun o no_listing n c w h → (j s : ℕ) → Notes c.events Outer (Lease j s) → AreTablesRead o c w 0 o.tables
plain_gives o n c w h plain r j s m =
    subst (λ l. AreTablesRead o c w 0 l) (ap (λ t. take t o.tables) (rows_of_one (top_of o n) (parts_of o) j (no_parts o plain)) ∙ take_top o n plain) (r.gives j s m)

pub plain_lends : (o : Opener) (n : ℕ) (L : List Event) → IsPlain o → LendsTables o n L → TablesCovered (length o.tables) L
plain_lends o n L plain lends j s r m l =
    let e = top_tables o n plain in
    let a = length-append o.tables (list_places o.list) in
    lends.covers j s r m (omega (arith, l, a)) (or_left (nat_lt r (top_of o n).tables) (are_together 0 0 (all_parts o n) r j) (lt-ltb r (top_of o n).tables (omega (arith, l, e))))
