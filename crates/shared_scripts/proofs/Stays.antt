-- The stay of a stream, call by call.
use Rattle.std.proofs.Common.{◌≡◌, ◌≢◌, ℕ, suc, ◌+◌, ◌-◌, ◌*◌, ◌<◌, ◌≤◌, ◌⊎◌, Bool, true, false, [], ◌∷◌, ◌++◌, inl, inr, refl, sym, ap, ◌∙◌, subst, ⊎_elim, arith}
use Rattle.chunk_core.specs.declared.code.Exit.TheVariants.{Succeeded}
use Rattle.chunk_core.specs.Lists.{IsAmong}
use Rattle.chunk_core.specs.Lists.IsAmong.{here}
use Rattle.chunk_core.proofs.Filters.{bool_not}
use Rattle.chunk_core.proofs.Members.{among_last, among_nil}
use Rattle.res_ledger.specs.declared.event.Event.{Event}
use Rattle.res_ledger.specs.declared.event.What.{What}
use Rattle.res_ledger.specs.declared.event.What.TheVariants.{Acquire, Cancel, Close, Final, Open}
use Rattle.res_ledger.specs.Ledger.{IsAcquired, IsFinalized, Notes}
use Rattle.row_seat.specs.declared.view.Left.TheVariants.{Stays, Yours}
use Rattle.row_seat.specs.declared.view.View.{View}
use Rattle.row_seat.specs.Views.{CanLeave, ClosesRow, LeavesRow, MayNote, gone, handed_over, shut, took, without, without_pair, without_row}
use Rattle.row_seat.proofs.Members.{among_kept, among_without}
use Rattle.shared_scripts.specs.Crowds.{IsFreshBelow, IsLiving, IsQuitting, IsRested, lent}
use Rattle.shared_scripts.specs.Rows.{AllPast, CanOpenRow, CanShutRow, EndsFrom, IsPast, QuitsRow, ShutsRow, with_note, with_row_open}
use Rattle.shared_scripts.proofs.Lendings.{lent_below, lent_without, no_row, none_left}
use Rattle.shared_scripts.proofs.Noted.{acquired_before, finalized_more, note_before, note_cases}
use Rattle.res_ledger.proofs.Ledgers.{acquire_row}
use Rattle.shared_scripts.proofs.Pasts.{grow, more_notes, not_closed}
use Rattle.shared_scripts.proofs.RowSteps.{last_note}

module _ {P : Type 0} where
  module _ (v : View P) (j n : ℕ) (lt : n < 64 * j + 8) (i : IsLiving v j n) where
    pub own_opens : CanOpenRow v n
    own_opens = let room = i.room in (0, i.past, i.empty n (omega arith) lt, omega arith)

    module _ (p : P) (s t : ℕ) where
      abbrev opened : View P
      opened = with_row_open v n p s t

      abbrev opening : View P
      opening = with_note v s (Open (n + 1) 0)

      past_open : AllPast opening (n + 1) n 0 n
      past_open = grow v.events i.past (n + 1) n 0 n (omega arith) (omega arith) (omega arith) (omega arith) (record { stamp = s; by = v.by; what = Open (n + 1) 0 }) (omega arith, omega arith, refl)

      past_acquire : AllPast opened (n + 1) (n + 1) 0 n
      past_acquire = grow opening.events past_open (n + 1) (n + 1) 0 n (omega arith) (omega arith) (omega arith) (omega arith) (record { stamp = t; by = v.by; what = Acquire n (n + 1) }) (omega arith, refl)

      pub own_shuts : CanShutRow opened n
      own_shuts = let room = i.room in let from = i.from in (
        (p, among_last v.opened (n, p)),
        last_note opening t (Acquire n (n + 1)),
        (inr (0, more_notes _ (last_note v s (Open (n + 1) 0))), not_closed opened.events past_acquire v.by (n + 1) (omega arith)),
        (λ k m. let b = (lent_below j 0 8 k n (subst (λ l. IsAmong (k, n) l) i.pairs m)).2 in absurd (omega arith)),
        (λ m. among_nil (subst (λ l. IsAmong n l) i.taken m)),
        omega arith,
      )

      module _ (k : ℕ) (q : P) (m : ℕ) (ok : Bool) where
        abbrev closing : View P
        closing = with_note opened k (Close (n + 1) Succeeded)

        abbrev ended : View P
        ended = with_note (took (handed_over (shut closing n q) n q) n) m (Final n Succeeded ok)

        past_close : AllPast closing (n + 1) (n + 1) 0 (n + 1)
        past_close = grow opened.events past_acquire (n + 1) (n + 1) 0 (n + 1) (omega arith) (omega arith) (omega arith) (omega arith) (record { stamp = k; by = v.by; what = Close (n + 1) Succeeded }) (omega arith, omega arith)

        not_again : (r : ℕ) → r ≢ n → IsAcquired ended.events r → IsAcquired v.events r
        not_again r ne a =
            let b = acquired_before closing.events _ r a refl in
            let c = acquired_before opened.events _ r b refl in
            let d : IsAcquired opening.events r = ⊎_elim (λ o. (c.0, c.1, o)) (λ e. absurd (ne (sym (acquire_row n (n + 1) r c.1 e)))) (note_cases opening.events _ c.0 (Acquire r c.1) c.2) in
            acquired_before v.events _ r d refl

        all_final : (r s' : ℕ) → Notes ended.events v.by (Acquire r s') → IsFinalized ended.events r
        all_final r s' a =
            let b = note_before closing.events _ v.by (Acquire r s') a refl in
            let c = note_before opened.events _ v.by (Acquire r s') b refl in
            ⊎_elim
            (λ d. finalized_more closing.events _ r (finalized_more opened.events _ r (finalized_more opening.events _ r (finalized_more v.events _ r (i.final r s' (note_before v.events _ v.by (Acquire r s') d refl))))))
            (λ e. subst (λ z. IsFinalized ended.events z) (acquire_row n (n + 1) r s' e) (v.by, ok, (Succeeded, last_note (took (handed_over (shut closing n q) n q) n) m (Final n Succeeded ok))))
            (note_cases opening.events _ v.by (Acquire r s') c)

        lived : IsLiving ended j (n + 1)
        lived = let room = i.room in let from = i.from in record {
          from = omega arith;
          side = i.side;
          by = i.by;
          past = grow closing.events past_close (n + 1) (n + 1) 0 (n + 1) (omega arith) (omega arith) (omega arith) (omega arith) (record { stamp = m; by = v.by; what = Final n Succeeded ok }) tt;
          opened = ap (λ l. without_row n (l ++ (n, p) ∷ [])) i.opened ∙ no_row n p;
          pairs = i.pairs;
          kept = i.kept;
          handed = ap (λ l. without n (l ++ n ∷ [])) i.handed ∙ none_left n;
          taken = ap (λ l. without n (l ++ n ∷ [])) i.taken ∙ none_left n;
          fresh = λ r a b. let w = among_without n v.empty r a in i.fresh r w.0 (not_again r w.1 b);
          empty = λ r a b. among_kept n v.empty r (i.empty r (omega arith) b) (λ e. omega arith);
          final = all_final;
          room = omega arith;
        }

      pub lives_on : (w : View P) → ShutsRow opened n w → IsLiving w j (n + 1)
      lives_on w x = ⊎_elim
          (λ stays. absurd (bool_not (sym stays.3.0 ∙ i.side)))
          (λ ends. let y = ends.1 in let z = ends.2 in
          let f : View P → View P = λ u. with_note (took u n) z.1.0 (Final n Succeeded z.0) in
          subst (λ u. IsLiving u j (n + 1)) (sym (z.1.1 ∙ ap f y.2)) (lived x.0 y.0 z.1.0 z.0))
          x.1

  module _ (v : View P) (j n : ℕ) (most : n ≤ 64 * j + 8) (i : IsLiving v j n) (s : ℕ) where
    pub may_cancel : MayNote v (Cancel j Succeeded) × (1 ≤ v.spare)
    may_cancel = let room = i.room in ((subst (λ l. IsAmong j l) (sym i.kept) (here []), λ b. i.final), omega arith)

    pub quits_now : IsQuitting (with_note v s (Cancel j Succeeded)) j 0
    quits_now = let room = i.room in record {
      side = i.side;
      by = i.by;
      opened = i.opened;
      pairs = i.pairs;
      kept = ap (λ l. without j l) i.kept ∙ none_left j;
      handed = i.handed;
      taken = i.taken;
      fresh = λ r a b. i.fresh r a (acquired_before v.events _ r b refl);
      canceled = (Succeeded, last_note v s (Cancel j Succeeded));
      room = omega arith;
    }

  module _ (v : View P) (j m : ℕ) (lt : m < 8) (i : IsQuitting v j m) where
    pairs_are : v.pairs ≡ lent j m (suc (8 - (m + 1)))
    pairs_are = i.pairs ∙ ap (λ k. lent j m k) (let e : 8 - m ≡ suc (8 - (m + 1)) = omega arith in e)

    pub can_quit : CanLeave v j m
    can_quit = (subst (λ l. IsAmong (j, m) l) (sym pairs_are) (here (lent j (suc m) (8 - (m + 1)))), i.canceled)

    pub none_taken : ¬ (IsAmong m v.taken)
    none_taken a = among_nil (subst (λ l. IsAmong m l) i.taken a)

    pub room_left : 1 ≤ v.spare
    room_left = let room = i.room in omega arith

    pairs_left : without_pair j m v.pairs ≡ lent j (m + 1) (8 - (m + 1))
    pairs_left = ap (λ l. without_pair j m l) pairs_are ∙ (lent_without j m (8 - (m + 1)) ∙ ap (λ k. lent j k (8 - (m + 1))) (let e : suc m ≡ m + 1 = omega arith in e))

    quit_stays : IsQuitting (gone v j m) j (m + 1)
    quit_stays = let room = i.room in record {
      side = i.side;
      by = i.by;
      opened = i.opened;
      pairs = pairs_left;
      kept = i.kept;
      handed = i.handed;
      taken = i.taken;
      fresh = i.fresh;
      canceled = i.canceled;
      room = omega arith;
    }

    quit_ends : (q : P) (s : ℕ) (ok : Bool) → IsQuitting (with_note (took (handed_over (gone v j m) m q) m) s (Final m Succeeded ok)) j (m + 1)
    quit_ends q s ok = let room = i.room in record {
      side = i.side;
      by = i.by;
      opened = i.opened;
      pairs = pairs_left;
      kept = i.kept;
      handed = ap (λ l. without m (l ++ m ∷ [])) i.handed ∙ none_left m;
      taken = ap (λ l. without m (l ++ m ∷ [])) i.taken ∙ none_left m;
      fresh = λ r a b. i.fresh r a (acquired_before v.events _ r b refl);
      canceled = (i.canceled.0, more_notes _ i.canceled.1);
      room = omega arith;
    }

    pub quits_on : (w : View P) → QuitsRow v j m w → IsQuitting w j (m + 1)
    quits_on w x = ⊎_elim
        (λ stays. subst (λ u. IsQuitting u j (m + 1)) (sym stays.0) quit_stays)
        (λ ends. let y = ends.1 in let z = ends.2 in
        let f : View P → View P = λ u. with_note (took u m) z.1.0 (Final m Succeeded z.0) in
        subst (λ u. IsQuitting u j (m + 1)) (sym (z.1.1 ∙ ap f y.1)) (quit_ends y.0 z.1.0 z.0))
        x

  pub rests_now : (v : View P) (j : ℕ) → IsQuitting v j 8 → IsRested v j
  rests_now v j i = record { side = i.side; by = i.by; rest = (i.opened, i.fresh, i.pairs, i.kept, i.handed, i.taken) }
