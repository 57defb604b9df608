-- Each acquired row of a legal ledger has a standing.
use Rattle.std.proofs.Common.{◌≡◌, ℕ, Bool, true, false, cond, ◌&&◌, ◌||◌, not, List, [], ◌∷◌, refl, sym, ◌∙◌}
use Rattle.std.proofs.lemmas.Bool.{false≢true}
use Rattle.chunk_core.specs.Lists.{IsAmong, has}
use Rattle.std.specs.List.{list_all as all}
use Rattle.chunk_core.specs.Lists.IsAmong.{here, there}
use Rattle.res_ledger.specs.declared.event.StreamNo.{StreamNo}
use Rattle.res_ledger.specs.declared.event.Event.{Event}
use Rattle.res_ledger.specs.Ledger.{IsFinalized, IsCanceled, Covers, IsLegal}
use Rattle.res_ledger.specs.Own.{leased_of}
use Rattle.res_ledger.specs.Order.{covered_by}
use Rattle.res_ledger.specs.Whole.{is_final, is_cancel}
use Rattle.res_ledger.specs.Judge.{is_noted, is_row_closed, is_released}
use Rattle.res_ledger.specs.Standing.{Stands, StandingIsExact}
use Rattle.res_ledger.specs.Standing.Standing.{Open, Awaiting, Handed, Finalized}
use Rattle.chunk_core.proofs.Bools.{has_in}
use Rattle.res_ledger.proofs.Judged.{canceled_found, final_in, final_found, row_closed_sound, row_closed_found, released_sound}
use Rattle.res_ledger.proofs.Leases.{covered_by_sound}

fails_at : {A : Type 0} (p : A → Bool) (x : A) (xs : List A) (b : Bool) → p x ≡ b → (b && all p xs) ≡ false → (all p xs ≡ false → (y : A) × IsAmong y xs × (p y ≡ false)) → (y : A) × IsAmong y (x ∷ xs) × (p y ≡ false)
fails_at p x xs true e h rest = let f = rest h in (f.0, there x f.1, f.2)
fails_at p x xs false e h rest = (x, here xs, e)

-- where not each element passes one fails
all_fails : {A : Type 0} (p : A → Bool) (xs : List A) → all p xs ≡ false → (x : A) × IsAmong x xs × (p x ≡ false)
all_fails p [] h = absurd (false≢true (sym h))
all_fails p (x ∷ xs) h = fails_at p x xs (p x) refl h (all_fails p xs)

neither : (a b : Bool) → (a || not b) ≡ false → (a ≡ false) × (b ≡ true)
neither true b h = absurd (false≢true (sym h))
neither false true h = (refl, refl)
neither false false h = absurd (false≢true (sym h))

-- a row that isn't released is covered by a lease without a Cancel
held : (L : List Event) → IsLegal L → (r : ℕ) → is_released L L r ≡ false → (j : ℕ) × (k : StreamNo) × Covers L j k r × ¬ (IsCanceled L j)
held L l r h =
    let e = all_fails (λ e. all (λ l. is_noted (is_cancel l.0) L || not (has r (covered_by L l.0))) (leased_of e.what)) L h in
    let x = all_fails (λ l. is_noted (is_cancel l.0) L || not (has r (covered_by L l.0))) (leased_of e.0.what) e.2 in
    let j = x.0.0 in
    let n = neither (is_noted (is_cancel j) L) (has r (covered_by L j)) x.2 in
    let c = covered_by_sound L l j r (has_in r (covered_by L j) n.1) in
    (j, c.0, c.1, λ d. false≢true (sym n.0 ∙ canceled_found L j d))

unfinal : (L : List Event) (r : ℕ) → is_noted (is_final r) L ≡ false → ¬ (IsFinalized L r)
unfinal L r h f = false≢true (sym h ∙ final_found L r f)

stands_by : (L : List Event) → IsLegal L → (r : ℕ) (f c d : Bool) → is_noted (is_final r) L ≡ f → is_row_closed L r ≡ c → is_released L L r ≡ d → Stands L r (cond f Finalized (cond c (cond d Handed Awaiting) Open))
stands_by L l r true c d x y z = final_in L r x
stands_by L l r false false d x y z = (unfinal L r x, λ q. false≢true (sym y ∙ row_closed_found L l r q))
stands_by L l r false true true x y z = (unfinal L r x, row_closed_sound L r y, released_sound L l L r z)
stands_by L l r false true false x y z = (unfinal L r x, row_closed_sound L r y, held L l r z)

pub standing_is_exact : StandingIsExact
standing_is_exact L l r a = (a, stands_by L l r (is_noted (is_final r) L) (is_row_closed L r) (is_released L L r) refl refl refl)
