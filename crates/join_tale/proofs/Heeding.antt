-- What keeps a tale where streams obey what they found.
use Rattle.std.proofs.Common.{ℕ, List, inl, inr, ⊎_elim}
use Rattle.chunk_core.proofs.Members.{among_left}
use Rattle.interrupt_ctx.specs.declared.why.Stop.{Stop}
use Rattle.interrupt_ctx.specs.declared.why.Why.{Why}
use Rattle.interrupt_ctx.specs.declared.why.Why.TheVariants as why
use Rattle.res_ledger.specs.declared.event.StreamNo.{StreamNo}
use Rattle.join_tale.specs.Bounds.{Bounds}
use Rattle.join_tale.specs.Keeping.{HasLacked, IsTale, KeepsEnds, KeepsFates, KeepsFrames, KeepsRoom}
use Rattle.join_tale.specs.Steps.{heeded}
use Rattle.join_tale.specs.Tales.{IsCaused, Tale}

module _ (bounds : Bounds) (t : Tale) (i : IsTale bounds t) (os : List (StreamNo × Stop)) where
  heeded_frames : KeepsFrames bounds (heeded t os)
  heeded_frames = let f = i.frames in record { quiet = f.quiet; ceased = f.ceased; met = f.met; few = f.few; cut = f.cut; in_turn = f.in_turn; last = f.last; whole = f.whole; ours = f.ours }

  heeded_ends : KeepsEnds bounds (heeded t os)
  heeded_ends = let e = i.ends in record { halted = λ k c. (let q = e.halted k c in (q.0, among_left os q.1, q.2)); fault = e.fault; memory = e.memory; until = e.until; late = e.late; in_turn = e.in_turn; once = e.once; apart = e.apart }

  heeded_fates : KeepsFates bounds (heeded t os)
  heeded_fates = let f = i.fates in record { skipped = f.skipped; unmade = f.unmade; nobody = f.nobody; outer_halted = λ e. (let q = f.outer_halted e in (q.0, among_left os q.1, q.2)); outer_fault = f.outer_fault; outer_memory = f.outer_memory }

  heeded_room : KeepsRoom bounds (heeded t os)
  heeded_room = record { had = i.room.had; now = i.room.now; next = i.room.next }

  heeded_cause : (c : ℕ) (w : Why) → IsCaused bounds t c w → IsCaused bounds (heeded t os) c w
  heeded_cause c why.Take h = h
  heeded_cause c why.Until h = h
  heeded_cause c why.Sink h = h
  heeded_cause c why.Memory h = h
  heeded_cause c why.Fault h = h

  heeded_lacked : HasLacked bounds t → HasLacked bounds (heeded t os)
  heeded_lacked h = ⊎_elim
      (λ m. inl m)
      (λ y. inr (⊎_elim (λ o. inl o) (λ z. inr (⊎_elim (λ f. inl f) (λ l. inr (l.0, record { load = l.1.load; others = l.1.others; late = l.1.late; uncut = l.1.uncut; unmet = l.1.unmet })) z)) y))
      h

  pub heeds : IsTale bounds (heeded t os)
  heeds = record { frames = heeded_frames; ends = heeded_ends; fates = heeded_fates; room = heeded_room; caused = λ c w m. heeded_cause c w.why (i.caused c w m); lacked = λ m. heeded_lacked (i.lacked m); stop = i.stop }
