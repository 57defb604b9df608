-- What a seat noted by one event.
use Rattle.std.proofs.Common.{◌≡◌, ◌⊎◌, true, [], ◌∷◌, ◌++◌, inl, inr, subst, ⊎_elim}
use Rattle.chunk_core.specs.Lists.{IsAmong}
use Rattle.chunk_core.proofs.Filters.{among_append}
use Rattle.chunk_core.proofs.Members.{among_snoc}
use Rattle.res_ledger.specs.declared.event.Event.{Event}
use Rattle.row_seat.specs.declared.view.View.{View}
use Rattle.row_seat.specs.Views.{noted}
use Rattle.scope_tree.proofs.Follows.{Follows, is_end}

module _ {P : Type 0} where
  -- what a seat noted by x and what followed it
  pub follows_cases : (v w : View P) (x : Event) → Follows (noted v x) w → (e : Event) → IsAmong e w.events → IsAmong e v.events ⊎ ((e ≡ x) ⊎ ((e.by ≡ v.by) × (is_end e.what ≡ true)))
  follows_cases v w x f e m = ⊎_elim
      (λ o. ⊎_elim (λ i. inl i) (λ i. inr (inl i)) (among_snoc v.events e x o))
      (λ o. inr (inr (f.events.2 e o)))
      (among_append e (v.events ++ x ∷ []) f.events.0 (subst (λ l. IsAmong e l) f.events.1 m))
