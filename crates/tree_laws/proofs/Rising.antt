-- The events of a stream in a finished ledger.
use Rattle.std.proofs.Common.{◌≡◌, ◌↔◌, Bool, true, false, cond, filter, List, [], ◌∷◌, ◌++◌, length-append, refl, sym, ap, ◌∙◌, subst, ⊎_elim, arith, append_assoc}
use Rattle.chunk_core.specs.Lists.{IsAmong}
use Rattle.chunk_core.specs.Lists.IsAmong.{here, there}
use Rattle.chunk_core.proofs.Cuts.{among_parts}
use Rattle.chunk_core.proofs.Filters.{among_filter}
use Rattle.chunk_core.proofs.Members.{among_cons, among_nil}
use Rattle.res_ledger.specs.declared.event.Event.{Event}
use Rattle.res_ledger.specs.declared.event.StreamNo.{StreamNo}
use Rattle.res_ledger.specs.Ledger.{IsStamped}
use Rattle.res_ledger.specs.Streams.{by_stream, same_stream}
use Rattle.res_ledger.proofs.Ledgers.{by_in, by_out}
use Rattle.res_ledger.specs.Rising.{Rises}

-- rising lists with the same events are one
rises_same : (L M : List Event) → Rises L → Rises M → ((x : Event) → IsAmong x L ↔ IsAmong x M) → L ≡ M
rises_same [] [] r s b = refl
rises_same [] (m ∷ M) r s b = absurd (among_nil ((b m).1 (here M)))
rises_same (e ∷ L) [] r s b = absurd (among_nil ((b e).0 (here L)))
rises_same (e ∷ L) (m ∷ M) r s b =
    let is : e ≡ m = ⊎_elim (λ i. i) (λ n. ⊎_elim (λ i. sym i) (λ o. let p = s.0 e n in let q = r.0 m o in absurd (omega (p, q, arith))) (among_cons ((b m).1 (here M)))) (among_cons ((b e).0 (here L))) in
    let stamp : e.stamp ≡ m.stamp = ap (λ (z : Event). z.stamp) is in
    ap (λ y. y ∷ L) is ∙ ap (λ l. m ∷ l) (rises_same L M r.1 s.1 (λ x. (
      (λ n. ⊎_elim (λ i. let p = r.0 x n in let q : x.stamp ≡ m.stamp = ap (λ (z : Event). z.stamp) i in absurd (omega (p, q, stamp, arith))) (λ o. o) (among_cons ((b x).0 (there e n)))),
      (λ n. ⊎_elim (λ i. let p = s.0 x n in let q : x.stamp ≡ e.stamp = ap (λ (z : Event). z.stamp) i in absurd (omega (p, q, stamp, arith))) (λ o. o) (among_cons ((b x).1 (there m n)))),
    )))

rises_filter : (f : Event → Bool) (L : List Event) → Rises L → Rises (filter f L)
rises_filter f [] r = tt
rises_filter f (e ∷ L) r = elim (f e) as (λ b. Rises (cond b (e ∷ filter f L) (filter f L))) [ true ↦ ((λ x m. r.0 x (among_filter f x L m).0), rises_filter f L r.1) | false ↦ rises_filter f L r.1 ]

-- what stands behind L in a stamped list rises
stamped_rises : (L M : List Event) → IsStamped (L ++ M) → Rises M
stamped_rises L [] h = tt
stamped_rises L (e ∷ M) h = (
  (λ x m. let t = among_parts x M m in
      let a = h L M e refl in let b = h (L ++ e ∷ t.0) t.1 x (ap (λ l. L ++ e ∷ l) t.2 ∙ sym (append_assoc L (e ∷ t.0) (x ∷ t.1))) in let c = length-append L (e ∷ t.0) in omega (a, b, c, arith)),
  stamped_rises (L ++ e ∷ []) M (subst IsStamped (sym (append_assoc L (e ∷ []) M)) h),
)

-- a stamped list with the same events of k as a list whose events of k rise has them in that order
pub stamped_by : (L M : List Event) (k : StreamNo) → IsStamped L → Rises (by_stream k M) → ((e : Event) → e.by ≡ k → IsAmong e L ↔ IsAmong e M) → by_stream k L ≡ by_stream k M
stamped_by L M k stamped rises both = rises_same (by_stream k L) (by_stream k M) (rises_filter (λ e. same_stream e.by k) L (stamped_rises [] L stamped)) rises
    (λ x. (
      (λ m. let t = by_in k L x m in by_out k M x ((both x t.1).0 t.0) t.1),
      (λ m. let t = by_in k M x m in by_out k L x ((both x t.1).1 t.0) t.1),
    ))
