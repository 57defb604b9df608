-- What a look at the board tells of the next stream.
use Rattle.std.proofs.Common.{◌≡◌, ℕ, ◌+◌, Bool, true, false, List, [], inl, inr, sym, ◌∙◌, subst, ⊎_elim, append-nil}
use Rattle.std.specs.VecDeque.{deque_capacity}
use Rattle.chunk_core.specs.Lists.{IsAmong}
use Rattle.chunk_core.proofs.Filters.{among_right}
use Rattle.interrupt_ctx.specs.Views.{HasSetAll, interruption}
use Rattle.interrupt_ctx.specs.declared.view.Interruption.{Interruption}
use Rattle.interrupt_ctx.specs.declared.why.Stop.{Stop}
use Rattle.join_report.specs.Stopping.{IsUnknown, Learns, Looks, Reaches, view_of}
use Rattle.join_report.specs.declared.stops.Stops.{Stops}
use Rattle.collector.specs.declared.collector.Collector.{Collector}
use Rattle.collector.specs.Starting.{MayBegin, MaySkip}

module _ (old new : Stops) (context : ℕ) (b : Bool) (looks : Looks old new context b) where
  -- a code was found
  pub found : b ≡ true → (cs : List Interruption) × Learns old new [] cs × Reaches context cs
  found e = subst (λ x. Looks old new context x) e looks

  -- none was
  pub unfound : b ≡ false → Learns old new [] [] × IsUnknown (view_of old) 0 × IsUnknown (view_of old) context
  unfound e = subst (λ x. Looks old new context x) e looks

-- what was unknown and not found is unknown
pub unknown_still : (old new : Stops) (context : ℕ) → Learns old new [] [] → IsUnknown (view_of old) context → IsUnknown (view_of new) context
unknown_still old new context l n w k = n w (⊎_elim
    (λ m. inl (subst (λ xs. IsAmong (interruption context w) xs) (l.set ∙ append-nil (view_of old).set) m))
    (λ m. inr (subst (λ xs. IsAmong (interruption context w) xs) (l.seen ∙ append-nil (view_of old).seen) m))
    k)

module _ {S V F D T : Type 0} (c : Collector S V F D T) (old : Stops) where
  -- the next stream may be skipped, where a code of its own or of the whole run was found, and all that is known is set where there is room for one job alone
  pub may_skip : (cs : List Interruption) → Learns old c.stops [] cs → Reaches (1 + c.next) cs → (deque_capacity c.jobs ≡ 1 → HasSetAll (view_of c.stops)) → MaySkip c
  may_skip cs l r all = ⊎_elim (λ f. inr (inl (f.0, seen (1 + c.next) f.0 f.1, λ one. all one (1 + c.next) f.0 (inr (seen (1 + c.next) f.0 f.1))))) (λ f. inl (f.0, seen 0 f.0 f.1)) r
    where
      seen : (context : ℕ) (w : Stop) → IsAmong (interruption context w) cs → IsAmong (interruption context w) (view_of c.stops).seen
      seen context w m = subst (λ xs. IsAmong (interruption context w) xs) (sym l.seen) (among_right (interruption context w) (view_of old).seen cs m)

  -- it may begin, where none was
  pub may_begin : Learns old c.stops [] [] → IsUnknown (view_of old) 0 → IsUnknown (view_of old) (1 + c.next) → MayBegin c
  may_begin l root own = (unknown_still old c.stops 0 l root, unknown_still old c.stops (1 + c.next) l own)
