-- Each step keeps the rule of the queue.
use Rattle.std.proofs.Common.{◌≡◌, ◌≢◌, ℕ, zero, suc, ◌⊎◌, true, false, cond, true≢false, List, [], ◌∷◌, ◌++◌, length, sym, refl, ap, ◌∙◌, subst, ⊎_elim, append_assoc, eq-eqb, ne_eqb}
use Rattle.std.specs.Prelude.{◌==◌}
use mathlib.Core.Option.{some-injective, some-ne-none}
use Rattle.crossbeam_queue.specs.Fifo.{Pushes, Pops, Forks, Merges, Learns}
use Rattle.chunk_core.specs.Lists.{IsAmong}
use Rattle.chunk_core.specs.Totals.{IsAt}
use Rattle.chunk_core.proofs.Members.{among_last, among_left, among_nil, among_snoc}
use Rattle.chunk_core.proofs.Changes.{each_more, each_two}
use Rattle.chunk_core.proofs.Places.{at_set}
use Rattle.chunk_core.proofs.Totals.{each}
use Rattle.channel_bounded.specs.declared.message.Msg.{Msg}
use Rattle.channel_bounded.specs.declared.rule.View.{View}
use Rattle.channel_bounded.specs.Streams.{of_stream, IsWhole}
use Rattle.channel_bounded.specs.Queue.{blank_view, first_view, sender_view, with_sent, with_got, with_made, with_closed, Accounts, Books, FitsSender, FitsReceiver, Fits, QueueRule, SenderFinds, ReceiverFinds, KeptBySend, KeptByGet, Got}
use Rattle.channel_bounded.proofs.Streams.{of_stream-append, of_stream-none, whole_sent, whole_beside, whole_got}

off : false ≡ true → ⊥
off e = true≢false (sym e)

-- what the rule tells an end of the books
accounts_known : (b : Books) (p : ℕ) (v : View) (queued : List Msg) → FitsReceiver b p v → Accounts b.made b.closed b.got queued → Accounts v.made v.closed v.got queued
accounts_known b p v queued f a = record {
  joined = λ k sent h. subst (λ g. IsWhole k sent g queued) (sym f.got) (a.joined k sent (subst (λ c. IsAmong (k, sent) c) f.closed h));
  senders = λ m h. subst (λ l. IsAmong m.stream l) (sym f.made) (a.senders m (subst (λ g. IsAmong m (g ++ queued)) f.got h));
}

fits_sent : (b : Books) (queued : List Msg) (m : Msg) (p : ℕ) (v : View) → m.stream ≡ v.stream → FitsSender b queued p v → FitsSender b (queued ++ m ∷ []) p (with_sent v m)
fits_sent b queued m p v e f = record { seat = f.seat; whole = whole_sent v.stream v.sent b.got queued m e f.whole; made = f.made; unjoined = f.unjoined }

fits_beside : (b : Books) (queued : List Msg) (m : Msg) (p : ℕ) (v : View) → m.stream ≢ v.stream → FitsSender b queued p v → FitsSender b (queued ++ m ∷ []) p v
fits_beside b queued m p v n f = record { seat = f.seat; whole = whole_beside v.stream v.sent b.got queued m n f.whole; made = f.made; unjoined = f.unjoined }

abbrev got_books : Books → Msg → Books
got_books b m = record b { got = b.got ++ m ∷ [] }

fits_got : (b : Books) (queued : List Msg) (m : Msg) (p : ℕ) (v w : View) → w.stream ≡ v.stream → w.sent ≡ v.sent → FitsSender b (m ∷ queued) p v → FitsSender (got_books b m) queued p w
fits_got b queued m p v w stream sent f = record {
  seat = f.seat ∙ ap b.seat (sym stream);
  whole = subst (λ (x : ℕ × List Msg). IsWhole x.0 x.1 (b.got ++ m ∷ []) queued) (λ i. (sym stream i, sym sent i)) (whole_got v.stream v.sent b.got queued m f.whole);
  made = subst (λ k. IsAmong k b.made) (sym stream) f.made;
  unjoined = λ s a. f.unjoined s (subst (λ k. IsAmong (k, s) b.closed) stream a);
}

fits_reader : (b : Books) (p : ℕ) (v w : View) → w.got ≡ v.got → w.made ≡ v.made → w.closed ≡ v.closed → FitsReceiver b p v → FitsReceiver b p w
fits_reader b p v w got made closed f = record { reader = f.reader; got = got ∙ f.got; made = made ∙ f.made; closed = closed ∙ f.closed }

module _ (may : List Msg → List Msg → Type 0) where
  pub begins : may [] [] → QueueRule may [] (first_view ∷ [])
  begins h = record {
    books = record { reader = 0; seat = λ _. 0; got = []; made = []; closed = [] };
    holds = h;
    accounts = record { joined = λ k sent a. absurd (among_nil a); senders = λ m a. absurd (among_nil a) };
    were_made = λ k sent a. absurd (among_nil a);
    fits = one;
  }
    where
      one : (p : ℕ) (v : View) → IsAt (first_view ∷ []) p v → Fits (record { reader = 0; seat = λ _. 0; got = []; made = []; closed = [] }) [] p v
      one zero v e = subst (Fits (record { reader = 0; seat = λ _. 0; got = []; made = []; closed = [] }) [] 0) (some-injective _ _ e)
          ((λ s. absurd (off s)), (λ _. record { reader = refl; got = refl; made = refl; closed = refl }))
      one (suc p) v e = absurd (some-ne-none v (sym e))

  pub sends : (n p : ℕ) (v : View) (m : Msg) → v.sends ≡ true → m.stream ≡ v.stream → KeptBySend may n v.stream v.sent m → Pushes (QueueRule may) n p v m (λ w. w ≡ with_sent v m)
  sends n p v m s e keep queued views room h at =
      let b = h.books in
      let w = with_sent v m in
      let mine = (h.fits p v at).0 s in
      let longer : (b.got ++ queued) ++ m ∷ [] ≡ b.got ++ (queued ++ m ∷ []) = append_assoc b.got queued (m ∷ []) in (
        w,
        record {
          books = b;
          holds = keep b.got queued room mine.whole h.holds;
          accounts = record {
            joined = λ k sent a. whole_beside k sent b.got queued m (λ is. mine.unjoined sent (subst (λ i. IsAmong (i, sent) b.closed) (sym is ∙ e) a)) (h.accounts.joined k sent a);
            senders = λ x a. ⊎_elim (λ old. h.accounts.senders x old) (λ is. subst (λ i. IsAmong i b.made) (sym (ap (λ (y : Msg). y.stream) is ∙ e)) mine.made)
                (among_snoc (b.got ++ queued) x m (subst (λ l. IsAmong x l) (sym longer) a));
          };
          were_made = h.were_made;
          fits = each views p w (Fits b (queued ++ m ∷ [])) ((λ _. fits_sent b queued m p v e mine), (λ g. fits_reader b p v w refl refl refl ((h.fits p v at).1 g)))
              (λ j u other i. ((λ t. let f = (h.fits j u i).0 t in fits_beside b queued m j u (λ is. other (f.seat ∙ ap b.seat (sym is ∙ e) ∙ sym mine.seat)) f), (h.fits j u i).1));
        },
        refl,
      )

  pub sender_learns : (p : ℕ) (v : View) → v.sends ≡ true → Learns (QueueRule may) p v (λ queued. SenderFinds may v.stream v.sent queued)
  sender_learns p v s queued views h at = (h.books.got, ((h.fits p v at).0 s).whole, h.holds)

  pub receiver_learns : (p : ℕ) (v : View) → v.gets ≡ true → Learns (QueueRule may) p v (λ queued. ReceiverFinds may v.got v.made v.closed queued)
  receiver_learns p v g queued views h at =
      let mine = (h.fits p v at).1 g in
      (accounts_known h.books p v queued mine h.accounts, subst (λ l. may l queued) (sym mine.got) h.holds)

  pub gets : (p : ℕ) (v : View) → v.gets ≡ true → KeptByGet may v.got v.made v.closed → Pops (QueueRule may) p v (Got may v)
  gets p v g keep m queued views h at =
      let b = h.books in
      let w = with_got v m in
      let mine = (h.fits p v at).1 g in
      let found = receiver_learns p v g (m ∷ queued) views h at in
      let same : (b.got ++ m ∷ []) ++ queued ≡ b.got ++ m ∷ queued = append_assoc b.got (m ∷ []) queued in (
        w,
        record {
          books = got_books b m;
          holds = subst (λ l. may (l ++ m ∷ []) queued) mine.got (keep m queued found);
          accounts = record {
            joined = λ k sent a. whole_got k sent b.got queued m (h.accounts.joined k sent a);
            senders = λ x a. h.accounts.senders x (subst (λ l. IsAmong x l) same a);
          };
          were_made = h.were_made;
          fits = each views p w (Fits (got_books b m) queued)
              ((λ s. fits_got b queued m p v w refl refl ((h.fits p v at).0 s)), (λ _. record { reader = mine.reader; got = ap (λ l. l ++ m ∷ []) mine.got; made = mine.made; closed = mine.closed }))
              (λ j u other i. ((λ s. fits_got b queued m j u u refl refl ((h.fits j u i).0 s)), (λ t. absurd (other (((h.fits j u i).1 t).reader ∙ sym mine.reader)))));
        },
        (refl, (queued, found)),
      )

  pub splits : (p : ℕ) (v : View) (k : ℕ) → v.gets ≡ true → v.sends ≡ false → ¬ IsAmong k v.made → Forks (QueueRule may) p v (with_made v k) (sender_view k)
  splits p v k g idle fresh queued views h at =
      let b = h.books in
      let mine = (h.fits p v at).1 g in
      let unmade : ¬ IsAmong k b.made = λ a. fresh (subst (λ l. IsAmong k l) (sym mine.made) a) in
      let seat : ℕ → ℕ = λ j. cond (j == k) (length views) (b.seat j) in
      let now : Books = record b { seat = seat; made = b.made ++ k ∷ [] } in
      let apart : (j : ℕ) → IsAmong j b.made → j ≢ k = λ j a is. unmade (subst (λ i. IsAmong i b.made) is a) in
      let none : (l : List Msg) → ((m : Msg) → IsAmong m l → IsAmong m.stream b.made) → of_stream k l ≡ [] = λ l f. of_stream-none k l (λ m a is. unmade (subst (λ i. IsAmong i b.made) is (f m a))) in
      record {
        books = now;
        holds = h.holds;
        accounts = record { joined = h.accounts.joined; senders = λ m a. among_left (k ∷ []) (h.accounts.senders m a) };
        were_made = λ i sent a. among_left (k ∷ []) (h.were_made i sent a);
        fits = each_more views p v (with_made v k) (sender_view k) at (Fits now queued)
            ((λ s. absurd (true≢false (sym s ∙ idle))), (λ _. record { reader = mine.reader; got = mine.got; made = ap (λ l. l ++ k ∷ []) mine.made; closed = mine.closed }))
            (λ j u other i. (
              (λ s. let f = (h.fits j u i).0 s in record {
                seat = f.seat ∙ sym (ap (λ t. cond t (length views) (b.seat u.stream)) (ne_eqb u.stream k (apart u.stream f.made)));
                whole = f.whole;
                made = among_left (k ∷ []) f.made;
                unjoined = f.unjoined;
              }),
              (λ t. absurd (other (((h.fits j u i).1 t).reader ∙ sym mine.reader))),
            )) (
              (λ _. record {
                seat = sym (ap (λ t. cond t (length views) (b.seat k)) (eq-eqb k k refl));
                whole = sym (of_stream-append k b.got queued) ∙ none (b.got ++ queued) h.accounts.senders;
                made = among_last b.made k;
                unjoined = λ sent a. unmade (h.were_made k sent a);
              }),
              (λ t. absurd (off t)),
            );
      }

  pub joins : (p : ℕ) (v : View) (other : ℕ) (u : View) → v.gets ≡ true → v.sends ≡ false → u.sends ≡ true → Merges (QueueRule may) p v other u (with_closed v u.stream u.sent) blank_view
  joins p v other u g idle s queued views h at two at' =
      let b = h.books in
      let w = with_closed v u.stream u.sent in
      let mine = (h.fits p v at).1 g in
      let closed = b.closed ++ (u.stream, u.sent) ∷ [] in
      let now : Books = record b { closed = closed } in
      let was : IsAt views other u = ⊎_elim (λ x. absurd (two x.0)) (λ x. x.1) (at_set views p other w u at') in
      let theirs = (h.fits other u was).0 s in
      let old : (k : ℕ) (sent : List Msg) → IsAmong (k, sent) closed → IsAmong (k, sent) b.closed ⊎ ((k, sent) ≡ (u.stream, u.sent)) = λ k sent a. among_snoc b.closed (k, sent) (u.stream, u.sent) a in
      record {
        books = now;
        holds = h.holds;
        accounts = record {
          joined = λ k sent a. ⊎_elim (λ o. h.accounts.joined k sent o) (λ is. subst (λ (x : ℕ × List Msg). IsWhole x.0 x.1 b.got queued) (sym is) theirs.whole) (old k sent a);
          senders = h.accounts.senders;
        };
        were_made = λ k sent a. ⊎_elim (λ o. h.were_made k sent o) (λ is. subst (λ (x : ℕ × List Msg). IsAmong x.0 b.made) (sym is) theirs.made) (old k sent a);
        fits = each_two views p other v u w blank_view at was (λ e. two (sym e)) (Fits now queued)
            ((λ t. absurd (true≢false (sym t ∙ idle))), (λ _. record { reader = mine.reader; got = mine.got; made = mine.made; closed = ap (λ l. l ++ (u.stream, u.sent) ∷ []) mine.closed }))
            ((λ t. absurd (off t)), (λ t. absurd (off t)))
            (λ j y far far' i. (
              (λ t. let f = (h.fits j y i).0 t in record {
                seat = f.seat;
                whole = f.whole;
                made = f.made;
                unjoined = λ sent a. ⊎_elim (f.unjoined sent) (λ is. far' (f.seat ∙ ap (λ (x : ℕ × List Msg). b.seat x.0) is ∙ sym theirs.seat)) (old y.stream sent a);
              }),
              (λ t. absurd (far (((h.fits j y i).1 t).reader ∙ sym mine.reader))),
            ));
      }

  -- what a join tells
  pub told : (v u a n : View) (queued : List Msg) → a ≡ with_closed v u.stream u.sent → n ≡ a → ReceiverFinds may a.got a.made a.closed queued → IsWhole u.stream u.sent v.got queued × ReceiverFinds may n.got n.made n.closed queued
  told v u a n queued e f h = (
    subst (λ g. IsWhole u.stream u.sent g queued) (ap (λ (x : View). x.got) e) (h.0.joined u.stream u.sent (subst (λ (x : View). IsAmong (u.stream, u.sent) x.closed) (sym e) (among_last v.closed (u.stream, u.sent)))),
    subst (λ (x : View). ReceiverFinds may x.got x.made x.closed queued) (sym f) h,
  )
