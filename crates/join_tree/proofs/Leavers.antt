-- In which order streams leave.
use Rattle.std.proofs.Common.{◌≡◌, ◌<◌, List, ◌∷◌, ◌++◌, length, length-append, sym, ap, ◌∙◌, subst, ⊎_elim, append_assoc, arith}
use Rattle.chunk_core.specs.Lists.{IsAmong}
use Rattle.chunk_core.proofs.Cuts.{among_parts}
use Rattle.chunk_core.proofs.Filters.{among_append}
use Rattle.chunk_core.proofs.Members.{among_cons, among_mid}
use Rattle.res_ledger.specs.declared.event.Event.{Event}
use Rattle.res_ledger.specs.declared.event.StreamNo.TheVariants.{Inner, Outer}
use Rattle.res_ledger.specs.Ledger.{IsStamped}
use Rattle.join_tree.specs.Laws.{StreamsLeaveLast}

-- what has a lesser stamp than the event behind P stands in P
earlier : (L P Q : List Event) (e x : Event) → IsStamped L → L ≡ P ++ e ∷ Q → IsAmong x L → x.stamp < length P → IsAmong x P
earlier L P Q e x stamped is m l = ⊎_elim
    (λ o. o)
    (λ o. ⊎_elim
    (λ i. absurd (let s = stamped P Q e is in let t : x.stamp ≡ e.stamp = ap (λ (z : Event). z.stamp) i in omega (s, t, l, arith)))
    (λ i.
    let t = among_parts x Q i in
    let s = stamped (P ++ e ∷ t.0) t.1 x (is ∙ (ap (λ l. P ++ e ∷ l) t.2 ∙ sym (append_assoc P (e ∷ t.0) (x ∷ t.1)))) in
    let k = length-append P (e ∷ t.0) in
    absurd (omega (s, k, l, arith)))
    (among_cons o))
    (among_append x P (e ∷ Q) (subst (λ l. IsAmong x l) is m))

pub streams_leave_last : (P : Type 0) → StreamsLeaveLast P
streams_leave_last P width n b p L s last R Q e j x is by what =
    let m : IsAmong e L = subst (λ l. IsAmong e l) (sym is) (among_mid R Q e) in
    ⊎_elim
    (λ k. absurd (let z : Inner j ≡ Outer = sym by ∙ k in cc))
    (λ t.
    let y = t.0 in
    let mine : IsAmong e y.seat.events = (s.told.own y t.1 e t.2).0 m in
    let c = last y t.1 e j x mine t.2 what in
    let n = c.1 in
    let here' : IsAmong n.0 L = (s.told.own y t.1 n.0 n.2).1 n.1 in
    let stamp = s.ledger.stamped R Q e is in
    let less = n.4 in
    (c.0, (n.0, earlier L R Q e n.0 s.ledger.stamped is here' (omega (stamp, less, arith)), n.2 ∙ (sym t.2 ∙ by), n.3)))
    (s.told.whose e m)
