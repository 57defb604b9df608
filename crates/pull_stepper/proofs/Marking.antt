-- A root that is closed since a mark is closed behind it; and a mark leaves a stepper as it was.
use Rattle.std.proofs.Common.{◌≡◌, ◌≤◌, ◌+◌, ℕ, Bool, List, [], ◌∷◌, ◌++◌, cond, length, refl, sym, ap, ◌∙◌, subst, ⊎_elim, arith, length-append}
use Rattle.chunk_core.specs.declared.code.Exit.{Exit}
use Rattle.chunk_core.specs.Lists.{IsAmong}
use Rattle.chunk_core.proofs.Cuts.{among_parts, append_assoc}
use Rattle.chunk_core.proofs.Filters.{among_append}
use Rattle.res_ledger.specs.declared.event.Event.{Event}
use Rattle.res_ledger.specs.declared.event.StreamNo.{StreamNo}
use Rattle.res_ledger.specs.Ledger.LiesWithin.{same}
use Rattle.res_ledger.specs.Streams.{by_stream}
use Rattle.res_ledger.proofs.Ledgers.{by_both, stream_cases}
use Rattle.row_seat.specs.Fronts.{StandsBehind, sight_of}
use Rattle.row_seat.specs.declared.front.Sight.{Sight}
use Rattle.scope_tree.specs.Calls.{IsOpenScope, Seen}
use Rattle.tree_laws.specs.Called.{Called}
use Rattle.tree_laws.proofs.Along.{called_after}
use Rattle.pull_stepper.specs.Behind.{ClosesRootBehind}

by_here : (k : StreamNo) (B : List Event) (e : Event) → e.by ≡ k → by_stream k (e ∷ B) ≡ e ∷ by_stream k B
by_here k B e by = ⊎_elim (λ t. subst (λ b. cond b (e ∷ by_stream k B) (by_stream k B) ≡ e ∷ by_stream k B) (sym t.1) refl) (λ t. absurd (t.0 by)) (stream_cases e.by k)

-- what is noted behind so much stands there, among the events of the stream
by_placed : (k : StreamNo) (L A B : List Event) (e : Event) → e.by ≡ k → by_stream k (L ++ (A ++ e ∷ B)) ≡ (by_stream k L ++ by_stream k A) ++ e ∷ by_stream k B
by_placed k L A B e by =
    by_both k L (A ++ e ∷ B)
    ∙ (ap (λ l. by_stream k L ++ l) (by_both k A (e ∷ B) ∙ ap (λ l. by_stream k A ++ l) (by_here k B e by))
    ∙ sym (append_assoc (by_stream k L) (by_stream k A) (e ∷ by_stream k B)))

no_less : (n : ℕ) (X Y : List Event) → n ≡ length X → n ≤ length (X ++ Y)
no_less n X Y is = let l = length-append X Y in omega (arith, is, l)

module _ {P : Type 0} {ends : P → Exit → Bool → P → Type 0} {a b : Seen P} {Cs : List (ℕ × List ℕ)} (calls : Called ends a Cs b) (x : Sight) (is : x ≡ sight_of a.seat x.front) (behind : StandsBehind x b.seat.events) where
  -- the root was open at the mark, and each Close of it that stands there now was noted since
  pub closed_behind : IsOpenScope a 0 → ClosesRootBehind b.seat x.front
  closed_behind root e y m by what =
      let f = called_after calls in
      let own : e.by ≡ a.seat.by = by ∙ f.by in
      let k : x.by ≡ a.seat.by = ap (λ (z : Sight). z.by) is in
      ⊎_elim
      (λ i. absurd (root.1 (0, same 0, (y, (e, i, own, what)))))
      (λ i.
      let t = among_parts e f.more i in
      let all : by_stream x.by b.seat.events ≡ (by_stream x.by a.seat.events ++ by_stream x.by t.0) ++ e ∷ by_stream x.by t.1 =
      ap (λ L. by_stream x.by L) (f.events ∙ ap (λ l. a.seat.events ++ l) t.2) ∙ by_placed x.by a.seat.events t.0 t.1 e (own ∙ sym k) in
      let count : x.count ≡ length (by_stream x.by a.seat.events) = subst (λ j. x.count ≡ length (by_stream j a.seat.events)) (sym k) (ap (λ (z : Sight). z.count) is) in
      behind (by_stream x.by a.seat.events ++ by_stream x.by t.0) (by_stream x.by t.1) e all (no_less x.count (by_stream x.by a.seat.events) (by_stream x.by t.0) count))
      (among_append e a.seat.events f.more (subst (λ L. IsAmong e L) f.events m))
