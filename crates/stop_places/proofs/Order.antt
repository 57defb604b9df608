-- The order of a ledger, by stamps.
use Rattle.std.proofs.Common.{◌≡◌, ℕ, ◌<◌, ◌≤◌, List, [], ◌∷◌, ◌++◌, cond, length, refl, sym, ap, ◌∙◌, subst, ⊎_elim, arith, length-append}
use Rattle.chunk_core.specs.Lists.{IsAmong}
use Rattle.chunk_core.proofs.Cuts.{among_parts, append_assoc, two_places}
use Rattle.chunk_core.proofs.Members.{among_mid}
use Rattle.res_ledger.specs.Ledger.{IsStamped}
use Rattle.res_ledger.specs.Streams.{by_stream}
use Rattle.res_ledger.specs.declared.event.Event.{Event}
use Rattle.res_ledger.specs.declared.event.StreamNo.{StreamNo}
use Rattle.res_ledger.specs.declared.event.What.{What}
use Rattle.res_ledger.proofs.Ledgers.{by_both, stream_cases}
use Rattle.row_seat.specs.Fronts.{StandsBehind, sight_of}
use Rattle.row_seat.specs.declared.front.Sight.{Sight}
use Rattle.row_seat.specs.declared.view.View.{View}
use Rattle.run_rules.specs.Ends.{ClosesBefore}
use Rattle.stop_places.specs.Places.{ClosedWithin, ClosesBehind}

pub closes_follow : (L : List Event) (j k : StreamNo) (at : ℕ) → IsStamped L → ClosedWithin L j at → ClosesBehind L k at → ClosesBefore L j k
closes_follow L j k at stamped within behind P Q e x is by what =
    let d = within.0 in
    let late : at ≤ e.stamp = behind e x (subst (λ l. IsAmong e l) (sym is) (among_mid P Q e)) by what in
    let early : d.stamp < at = within.5 in
    let t = among_parts d L within.2 in
    let here : d.stamp ≡ length t.0 = stamped t.0 t.1 d t.2 in
    ⊎_elim
    (λ s. absurd (let q = ap (λ (z : Event). z.stamp) s.0 in omega arith))
    (λ s. ⊎_elim
    (λ m. (within.1, (d, m, within.3, within.4)))
    (λ m.
    let r = among_parts e t.0 m in
    let first : e.stamp ≡ length r.0 = stamped r.0 (r.1 ++ d ∷ t.1) e (t.2 ∙ (ap (λ l. l ++ d ∷ t.1) r.2 ∙ append_assoc r.0 (e ∷ r.1) (d ∷ t.1))) in
    let n = ap length r.2 in let l = length-append r.0 (e ∷ r.1) in absurd (omega arith))
    s)
    (two_places t.0 t.1 P Q d e (sym t.2 ∙ is))

by_here : (k : StreamNo) (B : List Event) (e : Event) → e.by ≡ k → by_stream k (e ∷ B) ≡ e ∷ by_stream k B
by_here k B e by = ⊎_elim (λ t. subst (λ b. cond b (e ∷ by_stream k B) (by_stream k B) ≡ e ∷ by_stream k B) (sym t.1) refl) (λ t. absurd (t.0 by)) (stream_cases e.by k)

-- what is noted next stands behind what was seen
pub note_behind : {P : Type 0} (v : View P) (x : Sight) (n : ℕ) (w : What) → x ≡ sight_of v x.front → (let e : Event = record { stamp = n; by = v.by; what = w } in StandsBehind x (v.events ++ e ∷ [])) → x.front ≤ n
note_behind v x n w is h =
    let e : Event = record { stamp = n; by = v.by; what = w } in
    let by : x.by ≡ v.by = ap (λ (z : Sight). z.by) is in
    let all : by_stream x.by (v.events ++ e ∷ []) ≡ by_stream x.by v.events ++ e ∷ [] = by_both x.by v.events (e ∷ []) ∙ ap (λ l. by_stream x.by v.events ++ l) (by_here x.by [] e (sym by)) in
    h (by_stream x.by v.events) [] e all (subst (λ k. x.count ≤ length (by_stream k v.events)) (sym by) (let c = ap (λ (z : Sight). z.count) is in omega arith))

-- what was seen, in the words of a view that is the same
pub sight_again : {P : Type 0} (v w : View P) (x : Sight) (n : ℕ) → x ≡ sight_of v n → v ≡ w → x ≡ sight_of w x.front
sight_again {P = P} v w x n is same = is ∙ (ap (λ (u : View P). sight_of u n) same ∙ ap (λ (k : ℕ). sight_of w k) (sym (ap (λ (z : Sight). z.front) is)))
