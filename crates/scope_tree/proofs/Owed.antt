-- Where the root is closed no event is owed.
use Rattle.std.proofs.Common.{◌≡◌, ℕ, ◌<◌, suc, true, cond, List, [], ◌∷◌, length, sym, ap, refl, ◌∙◌, subst, ⊎_elim, arith}
use Rattle.chunk_core.specs.Lists.{IsAmong}
use Rattle.chunk_core.specs.Lists.IsAmong.{here, there}
use Rattle.chunk_core.proofs.Members.{among_cons, among_nil}
use Rattle.res_ledger.specs.declared.event.What.{What}
use Rattle.res_ledger.specs.declared.event.What.TheVariants.{Open}
use Rattle.res_ledger.specs.Ledger.{IsClosed}
use Rattle.res_ledger.specs.Own.{is_closed, opens}
use Rattle.row_seat.specs.declared.view.View.{View}
use Rattle.scope_tree.specs.declared.branch.Branch.{Branch}
use Rattle.scope_tree.specs.declared.branch.AcquiredRow.{AcquiredRow}
use Rattle.scope_tree.specs.Kept.{Kept}
use Rattle.scope_tree.specs.Trace.{numbers, open_of, open_scopes, owed, trace}
use Rattle.scope_tree.proofs.Beneath.{noted_scope}
use Rattle.scope_tree.proofs.Bridge.{in_noted, in_opens}
use Rattle.scope_tree.proofs.Covered.{closed_complete}
use Rattle.scope_tree.proofs.Keeps.{nothing_open, root_closes}

pub number_among : (s : ℕ) (os : List (ℕ × ℕ)) → IsAmong s (numbers os) → (p : ℕ) × IsAmong (s, p) os
number_among s [] m = absurd (among_nil m)
number_among s (o ∷ os) m = ⊎_elim (λ e. (o.1, subst (λ z. IsAmong (z, o.1) (o ∷ os)) (sym e) (here os))) (λ n. let t = number_among s os n in (t.0, there o t.1)) (among_cons m)

none_open : (E : List What) (xs : List ℕ) → ((s : ℕ) → IsAmong s xs → is_closed E s ≡ true) → open_of E xs ≡ 0
none_open E [] h = refl
none_open E (x ∷ xs) h = ap (λ b. cond b (open_of E xs) (suc (open_of E xs))) (h x (here xs)) ∙ none_open E xs (λ s m. h s (there x m))

pub nothing_owed : {P : Type 0} (v : View P) (bs : List Branch) (hs : List AcquiredRow) → Kept v bs hs → IsClosed v.events v.by 0 → owed v ≡ 0
nothing_owed v bs hs k c =
    let shut : (s : ℕ) → s < length bs → is_closed (trace v) s ≡ true = λ s l. closed_complete v bs hs k s l (root_closes v bs hs k s l c) in
    let a : open_scopes (trace v) ≡ 0 = none_open (trace v) (0 ∷ numbers (opens (trace v))) (λ s m. ⊎_elim
    (λ e. shut s (let z = k.mirrors.size in omega (e, z, arith)))
    (λ n. let t = number_among s (opens (trace v)) n in shut s (noted_scope v bs hs k s t.0 (in_noted v.by (Open s t.0) v.events (in_opens s t.0 (trace v) t.1))).1)
    (among_cons m)) in
    let b : length v.opened ≡ 0 = ap length (nothing_open v bs hs k c) in omega (a, b, arith)
