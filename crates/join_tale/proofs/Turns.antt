-- What keeps a tale where a stream has its turn.
use Rattle.std.proofs.Common.{◌≡◌, ℕ, ◌<◌, nat_eq, if◌then◌else◌, List, ◌∷◌, length, inl, inr, refl, sym, ap, subst, ⊎_elim, arith}
use Rattle.chunk_core.specs.Lists.{IsAmong, has}
use Rattle.chunk_core.proofs.Bools.{fails as isnt, has_in, in_has, itself, no, not_so as is_no, number, tested}
use Rattle.interrupt_ctx.specs.declared.why.Why.{Why}
use Rattle.interrupt_ctx.specs.declared.why.Why.TheVariants as why
use Rattle.join_tale.specs.Bounds.{Bounds}
use Rattle.join_tale.specs.Keeping.{HadTurn, HasLacked, HasRoom, IsTale, KeepsEnds, KeepsFates, KeepsFrames, KeepsRoom}
use Rattle.join_tale.specs.Steps.{AreFewOpen, MakesRoom, housed, pulled}
use Rattle.join_tale.specs.Tales.{IsCaused, IsKnown, Tale}
use Rattle.join_tale.specs.Tales.Fate.{Begun}
use Rattle.join_tale.proofs.Ceasing.{memory_ceased}
use Rattle.join_tale.proofs.Places.{at_below}
use Rattle.join_tale.proofs.Room.{pulled_room}
use Rattle.join_tale.proofs.Steps.{outer_known}

-- It is told anew for one number which streams were open.

abbrev told_for : ℕ → List ℕ → (ℕ → List ℕ) → ℕ → List ℕ
told_for n others room k = if nat_eq k n then others else room k

told_there : (n : ℕ) (others : List ℕ) (room : ℕ → List ℕ) → told_for n others room n ≡ others
told_there n others room = ap (λ b. if b then others else room n) (itself n)

told_apart : (n : ℕ) (others : List ℕ) (room : ℕ → List ℕ) (k : ℕ) → (k ≡ n → ⊥) → told_for n others room k ≡ room k
told_apart n others room k ne = ap (λ b. if b then others else room k) (is_no (nat_eq k n) (isnt (nat_eq k n) (λ e. ne (number k n e))))

-- Nothing but the turns is told otherwise.

module _ (bounds : Bounds) (t : Tale) (i : IsTale bounds t) where
  module _ (ps : List ℕ) (room : ℕ → List ℕ) where
    abbrev turned : Tale
    turned = record t { pulled = ps; room = room }

    turned_frames : KeepsFrames bounds turned
    turned_frames = let f = i.frames in record { quiet = f.quiet; ceased = f.ceased; met = f.met; few = f.few; cut = f.cut; in_turn = f.in_turn; last = f.last; whole = f.whole; ours = f.ours }

    turned_ends : KeepsEnds bounds turned
    turned_ends = let e = i.ends in record { halted = e.halted; fault = e.fault; memory = e.memory; until = e.until; late = e.late; in_turn = e.in_turn; once = e.once; apart = e.apart }

    turned_cause : (c : ℕ) (w : Why) → IsCaused bounds t c w → IsCaused bounds turned c w
    turned_cause c why.Take h = h
    turned_cause c why.Until h = h
    turned_cause c why.Sink h = h
    turned_cause c why.Memory h = h
    turned_cause c why.Fault h = h

    turned_lacked : HasLacked bounds t → HasLacked bounds turned
    turned_lacked h = ⊎_elim
        (λ m. inl m)
        (λ y. inr (⊎_elim (λ o. inl o) (λ z. inr (⊎_elim (λ f. inl f) (λ l. inr (l.0, record { load = l.1.load; others = l.1.others; late = l.1.late; uncut = l.1.uncut; unmet = l.1.unmet })) z)) y))
        h

    turned_tale : KeepsFates bounds turned → KeepsRoom bounds turned → IsTale bounds turned
    turned_tale fates kept = record { frames = turned_frames; ends = turned_ends; fates = fates; room = kept; caused = λ c w m. turned_cause c w.why (i.caused c w m); lacked = λ m. turned_lacked (i.lacked m); stop = i.stop }

  -- the outer stream is pulled
  pub pulls : ¬ (IsKnown t 0) → HasRoom bounds t → IsTale bounds (pulled t)
  pulls unknown room = turned_tale (length t.fates ∷ t.pulled) t.room
      (record {
        skipped = λ k e. ⊎_elim (λ f. inl f) (λ f. absurd (unknown (⊎_elim (λ a. inr a) (λ s. outer_known bounds t i s) f.0))) (i.fates.skipped k e);
        unmade = λ k e. absurd (unknown (i.stop (memory_ceased bounds t i (i.fates.unmade k e).0)));
        nobody = λ m. absurd (unknown (i.fates.nobody m).0);
        outer_halted = i.fates.outer_halted;
        outer_fault = i.fates.outer_fault;
        outer_memory = i.fates.outer_memory;
      })
      (pulled_room bounds t i unknown room)

  module _ (room : ℕ → List ℕ) (same : (k : ℕ) → HadTurn t k → room k ≡ t.room k) where
    housed_fates : KeepsFates bounds (housed t room)
    housed_fates = let f = i.fates in record { skipped = f.skipped; unmade = f.unmade; nobody = f.nobody; outer_halted = f.outer_halted; outer_fault = f.outer_fault; outer_memory = f.outer_memory }

    -- what was told of those that had their turn is told still
    housed_room : KeepsRoom bounds (housed t room)
    housed_room = record {
      had = λ k h. let o = i.room.had k h in (subst (λ l. length l < bounds.max_open) (sym (same k h)) o.0, λ j l w. subst (λ y. IsAmong j y) (sym (same k h)) (o.1 j l w));
      now = λ m j o. subst (λ y. IsAmong j y) (sym (same (length t.fates) (inr m))) (i.room.now m j o);
      next = i.room.next;
    }

    pub housed_makes : HasRoom bounds (housed t room) → MakesRoom bounds t room
    housed_makes has = record { is_tale = turned_tale t.pulled room housed_fates housed_room; has = has; same = same }

  module _ (few : AreFewOpen bounds.max_open t) where
    -- the outer stream was pulled in its turn
    stays_housed : IsAmong (length t.fates) t.pulled → MakesRoom bounds t t.room
    stays_housed m = housed_makes t.room (λ k h. refl) ((i.room.had (length t.fates) (inr m)).0, i.room.now m)

    abbrev anew : ℕ → List ℕ
    anew = told_for (length t.fates) few.0 t.room

    -- it wasn't, and the streams that are open are told
    becomes_housed : (IsAmong (length t.fates) t.pulled → ⊥) → MakesRoom bounds t anew
    becomes_housed never =
        let there : anew (length t.fates) ≡ few.0 = told_there (length t.fates) few.0 t.room in
        let other : (k : ℕ) → HadTurn t k → k ≡ length t.fates → ⊥ = λ k h e. ⊎_elim (λ b. (let l = at_below t.fates k Begun b in omega (arith, l, e))) (λ m. never (subst (λ n. IsAmong n t.pulled) e m)) h in
        housed_makes anew (λ k h. told_apart (length t.fates) few.0 t.room k (other k h))
        (subst (λ l. length l < bounds.max_open) (sym there) few.1, λ j o. subst (λ l. IsAmong j l) (sym there) (few.2 j o))

    pub houses : (room : ℕ → List ℕ) × MakesRoom bounds t room
    houses = ⊎_elim
        (λ h. (t.room, stays_housed (has_in (length t.fates) t.pulled h)))
        (λ h. (anew, becomes_housed (λ m. no (has (length t.fates) t.pulled) h (in_has (length t.fates) t.pulled m))))
        (tested (has (length t.fates) t.pulled))
