-- What a stream noted, as a list and as a fact.
use Rattle.std.proofs.Common.{◌≡◌, ℕ, ◌+◌, ◌<◌, ◌⊎◌, zero, suc, cond, List, [], ◌∷◌, ◌++◌, length, slice_index_or, inl, inr, refl, sym, ap, ◌∙◌, subst, ⊎_elim, arith}
use Rattle.res_ledger.specs.declared.event.StreamNo.{StreamNo}
use Rattle.res_ledger.specs.declared.event.What.{What}
use Rattle.res_ledger.specs.declared.event.What.TheVariants.{Open, Acquire}
use Rattle.res_ledger.specs.declared.event.Event.{Event}
use Rattle.chunk_core.specs.Lists.{IsAmong}
use Rattle.res_ledger.specs.Ledger.{Notes, LiesWithin}
use Rattle.res_ledger.specs.Ledger.LiesWithin.{same, below}
use Rattle.chunk_core.specs.Lists.IsAmong.{here, there}
use Rattle.chunk_core.proofs.Members.{among_nil, among_cons}
use Rattle.res_ledger.specs.Own.{own, opens, opens_of, rows, acquires_of, closes, closes_of}
use Rattle.res_ledger.specs.Streams.{same_stream}
use Rattle.scope_tree.specs.declared.branch.Branch.{Branch}
use Rattle.scope_tree.specs.Kept.{marks}
use Rattle.std.proofs.lemmas.Grind.{flat_map-append}
use Rattle.res_ledger.proofs.Tests.{named}
use Rattle.res_ledger.proofs.Scopes.{own_append}
use Rattle.res_ledger.proofs.Noted.{own_notes, notes_own, flat_found, flat_holds, opens_shape, rows_shape}

pub own_snoc : (k : StreamNo) (L : List Event) (e : Event) → e.by ≡ k → own k (L ++ e ∷ []) ≡ own k L ++ e.what ∷ []
own_snoc k L e h = own_append k L (e ∷ []) ∙ ap (λ b. own k L ++ cond b (e.what ∷ []) []) (ap (λ a. same_stream a k) h ∙ named k)

pub noted_in : (k : StreamNo) (w : What) (L : List Event) → Notes L k w → IsAmong w (own k L)
noted_in k w L n = notes_own L k w n

pub in_noted : (k : StreamNo) (w : What) (L : List Event) → IsAmong w (own k L) → Notes L k w
in_noted k w L m = own_notes L k w m

pub opens_append : (E F : List What) → opens (E ++ F) ≡ opens E ++ opens F
opens_append E F = flat_map-append opens_of E F

pub rows_append : (E F : List What) → rows (E ++ F) ≡ rows E ++ rows F
rows_append E F = flat_map-append acquires_of E F

pub closes_append : (E F : List What) → closes (E ++ F) ≡ closes E ++ closes F
closes_append E F = flat_map-append closes_of E F

pub in_opens : (s p : ℕ) (E : List What) → IsAmong (s, p) (opens E) → IsAmong (Open s p) E
in_opens s p E m = let f = flat_found opens_of E (s, p) m in subst (λ w. IsAmong w E) (opens_shape f.0 (s, p) f.2) f.1

pub opens_in : (s p : ℕ) (E : List What) → IsAmong (Open s p) E → IsAmong (s, p) (opens E)
opens_in s p E m = flat_holds opens_of (Open s p) E (s, p) m (here [])

pub in_rows : (r s : ℕ) (E : List What) → IsAmong (r, s) (rows E) → IsAmong (Acquire r s) E
in_rows r s E m = let f = flat_found acquires_of E (r, s) m in subst (λ w. IsAmong w E) (rows_shape f.0 (r, s) f.2) f.1

pub rows_in : (r s : ℕ) (E : List What) → IsAmong (Acquire r s) E → IsAmong (r, s) (rows E)
rows_in r s E m = flat_holds acquires_of (Acquire r s) E (r, s) m (here [])

pub marks_at : (bs : List Branch) (n i : ℕ) (d : Branch) → i < length bs → IsAmong (i + n, (slice_index_or bs i d).parent) (marks n bs)
marks_at [] n i d l = absurd (omega arith)
marks_at (b ∷ bs) n zero d l = let e : zero + n ≡ n = omega arith in subst (λ m. IsAmong (m, b.parent) (marks n (b ∷ bs))) (sym e) (here (marks (suc n) bs))
marks_at (b ∷ bs) n (suc i) d l = let e : i + suc n ≡ suc i + n = omega arith in let y : ℕ × ℕ = (n, b.parent) in there y (subst (λ m. IsAmong (m, (slice_index_or bs i d).parent) (marks (suc n) bs)) e (marks_at bs (suc n) i d (omega arith)))

pub marks_in : (bs : List Branch) (n s p : ℕ) → IsAmong (s, p) (marks n bs) → (i : ℕ) × (i < length bs) × (s ≡ i + n) × ((d : Branch) → (slice_index_or bs i d).parent ≡ p)
marks_in [] n s p m = absurd (among_nil m)
marks_in (b ∷ bs) n s p m =
    ⊎_elim
    (λ e. let q : s ≡ n = ap (λ y. y.0) e in let c : p ≡ b.parent = ap (λ y. y.1) e in (zero, (omega arith), (omega arith), λ d. sym c))
    (λ k. let t = marks_in bs (suc n) s p k in let l = t.1 in let q = t.2 in (suc t.0, (omega arith), (omega arith), t.3))
    (among_cons m)

pub within_cases : {L : List Event} {k : StreamNo} {s a : ℕ} → LiesWithin L k s a → (s ≡ a) ⊎ ((p : ℕ) × Notes L k (Open s p) × LiesWithin L k p a)
within_cases (same s) = inl refl
within_cases (below s p a n w) = inr (p, n, w)
