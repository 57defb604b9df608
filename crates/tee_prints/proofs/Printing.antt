-- One message more is printed, or its end is kept.
use Rattle.std.proofs.Common.{◌≡◌, ◌⊎◌, ℕ, zero, suc, ◌+◌, ◌<◌, Bool, true, false, List, [], ◌∷◌, ◌++◌, inl, inr, length, take, drop, slice_set, Option, Some, Result, Ok, Err, refl, sym, ap, ◌∙◌, subst, ⊎_elim, append-nil, append_assoc, arith, length-drop}
use Rattle.chunk_core.proofs.Places.{at_set}
use Rattle.std.specs.Result.{is_err}
use Rattle.std.proofs.lemmas.Bool.{cases_eq, false≢true}
use Rattle.std.proofs.lemmas.Grind.{flat_map-append}
use Rattle.std.proofs.lemmas.List.{length-set, take-append-drop}
use Rattle.chunk_core.specs.Lists.{IsAmong}
use Rattle.chunk_core.proofs.Members.{among_last, among_left, among_snoc}
use Rattle.chunk_core.specs.Texts.{Frame, frame_text, frames_text}
use Rattle.chunk_core.specs.Totals.{IsAt}
use Rattle.chunk_core.specs.declared.code.How.{How}
use Rattle.chunk_core.specs.declared.load.Load.TheVariants as load
use Rattle.channel_bounded.specs.declared.message.Body.TheVariants as body
use Rattle.channel_bounded.specs.declared.message.Msg.{Msg}
use Rattle.device_port.specs.Sink.{BreaksOff, Puts, SinkTold, with_bytes}
use Rattle.device_port.specs.declared.Failed.{Failed}
use Rattle.device_port.proofs.Puts.{with_bytes_twice}
use Rattle.tee_prints.specs.Printed.{IsBroken, IsToldEnd, Prints, Writes, told_end}
use Rattle.tee_texts.specs.Texts.{end_message, frames_in, frames_in_body}

frames_snoc : (ms : List Msg) (m : Msg) → frames_in (ms ++ m ∷ []) ≡ frames_in ms ++ frames_in (m ∷ [])
frames_snoc ms m = flat_map-append (λ (x : Msg). frames_in_body x.stream x.body) ms (m ∷ [])

text_snoc : (F G : List Frame) → frames_text (F ++ G) ≡ frames_text F ++ frames_text G
text_snoc F G = flat_map-append (λ (f : Frame). frame_text f.stream f.payload) F G

some_is : (a b : How) → Some a ≡ Some b → b ≡ a
some_is a b e = cc

at_here : (ends : List (Option How)) (k i : ℕ) (told h : How) → IsAt (slice_set ends k (Some told)) i (Some h) → ((k ≡ i) × (h ≡ told)) ⊎ IsAt ends i (Some h)
at_here ends k i told h t = ⊎_elim (λ s. inl (sym s.0, some_is told h s.1)) (λ o. inr o.1) (at_set ends k i (Some told) (Some h) t)

module _ {A : Type 0} where
  set_here : (l : List A) (i : ℕ) (a : A) → i < length l → IsAt (slice_set l i a) i a
  set_here [] i a h = absurd (omega (arith, h))
  set_here (x ∷ xs) zero a h = refl
  set_here (x ∷ xs) (suc i) a h = set_here xs i a (omega (arith, h))

  set_else : (l : List A) (i j : ℕ) (a b : A) → (j ≡ i → ⊥) → IsAt l j b → IsAt (slice_set l i a) j b
  set_else [] i j a b n e = e
  set_else (x ∷ xs) zero zero a b n e = absurd (n refl)
  set_else (x ∷ xs) zero (suc j) a b n e = e
  set_else (x ∷ xs) (suc i) zero a b n e = e
  set_else (x ∷ xs) (suc i) (suc j) a b n e = set_else xs i j a b (λ h. n (ap suc h)) e

at_k : (ends : List (Option How)) (k : ℕ) (told : How) → k < length ends → IsAt (slice_set ends k (Some told)) k (Some told)
at_k ends k told l = set_here ends k (Some told) l

-- a told end stays told
still : (ends : List (Option How)) (k i : ℕ) (told : How) → k < length ends → (t : How) × IsAt ends i (Some t) → (t : How) × IsAt (slice_set ends k (Some told)) i (Some t)
still ends k i told l t =
    ⊎_elim (λ e. (told, subst (λ j. IsAt (slice_set ends k (Some told)) j (Some told)) (sym e) (at_k ends k told l))) (λ o. (t.0, set_else ends k i (Some told) (Some t.0) o t.1)) (cases_eq i k)

not_text : (i k : ℕ) (h : How) (bytes : List ℕ) → end_message i h ≡ record { stream = k; body = body.Load (load.Bytes bytes) } → ⊥
not_text i k h bytes e = let b : body.End h ≡ body.Load (load.Bytes bytes) = ap (λ (m : Msg). m.body) e in cc

module _ (n : ℕ) (start now : SinkTold) (got : List Msg) (ends : List (Option How)) where
  -- a message behind others that came
  later : (printed : List Msg) (m : Msg) (i : ℕ) (h : How) → IsToldEnd got printed i h → IsToldEnd (got ++ m ∷ []) printed i h
  later printed m i h (inl t) = inl t
  later printed m i h (inr t) = inr (t.0, among_left (m ∷ []) t.1, t.2)

  both : (printed : List Msg) (m : Msg) (i : ℕ) (h : How) → IsToldEnd got printed i h → IsToldEnd (got ++ m ∷ []) (printed ++ m ∷ []) i h
  both printed m i h (inl t) = inl (among_left (m ∷ []) t)
  both printed m i h (inr t) = inr (t.0, among_left (m ∷ []) t.1, t.2)

  broken_later : (printed : List Msg) (m : Msg) → IsBroken start now got printed → IsBroken start now (got ++ m ∷ []) printed
  broken_later printed m b = record {
    message = b.message;
    after = b.after ++ m ∷ [];
    got_is = ap (λ l. l ++ m ∷ []) b.got_is ∙ append_assoc printed (b.message ∷ b.after) (m ∷ []);
    frame = b.frame;
    frame_is = b.frame_is;
    rest = b.rest;
    front = b.front;
    wrote = b.wrote;
  }

  -- one that has no frame is printed at once
  written : (printed : List Msg) (m : Msg) → frames_in (m ∷ []) ≡ [] → Writes start now got printed false → Writes start now (got ++ m ∷ []) (printed ++ m ∷ []) false
  written printed m none w = (ap (λ l. l ++ m ∷ []) w.0, w.1 ∙ ap (λ F. with_bytes start (frames_text F)) (sym (frames_snoc printed m ∙ (ap (λ l. frames_in printed ++ l) none ∙ append-nil (frames_in printed)))))

  abbrev Kept : List Msg → List (Option How) → Type 0
  Kept came told = (i : ℕ) (h : How) → i < n → IsAmong (end_message i h) came → (t : How) × IsAt told i (Some t)

  text_kept : (k : ℕ) (bytes : List ℕ) → Kept got ends → Kept (got ++ (record { stream = k; body = body.Load (load.Bytes bytes) }) ∷ []) ends
  text_kept k bytes q i h l m = ⊎_elim (λ o. q i h l o) (λ e. absurd (not_text i k h bytes e)) (among_snoc got (end_message i h) (record { stream = k; body = body.Load (load.Bytes bytes) }) m)

  end_kept : (k : ℕ) (how told : How) → k < length ends → Kept got ends → Kept (got ++ end_message k how ∷ []) (slice_set ends k (Some told))
  end_kept k how told b q i h l m =
      ⊎_elim (λ o. still ends k i told b (q i h l o)) (λ e. let is : k ≡ i = sym (ap (λ (m : Msg). m.stream) e) in (told, subst (λ j. IsAt (slice_set ends k (Some told)) j (Some told)) is (at_k ends k told b)))
      (among_snoc got (end_message i h) (end_message k how) m)

  -- a text comes where a write failed
  pub unprinted : (k : ℕ) (bytes : List ℕ) → Prints n start now got ends true → Prints n start now (got ++ (record { stream = k; body = body.Load (load.Bytes bytes) }) ∷ []) ends true
  unprinted k bytes p = let m : Msg = record { stream = k; body = body.Load (load.Bytes bytes) } in record { printed = p.printed; writes = broken_later p.printed m p.writes; branches = p.branches; told = λ i h t. later p.printed m i h (p.told i h t); plain = λ e. absurd (false≢true (sym e)); kept = text_kept k bytes p.kept }

  module _ (k : ℕ) (how : How) where
    abbrev its_end : Msg
    its_end = end_message k how

    end_here : (printed : List Msg) (told : How) (i : ℕ) (h : How) → k ≡ i → h ≡ told → IsAmong (end_message i h) (printed ++ end_message k told ∷ [])
    end_here printed told i h s t = subst (λ j. IsAmong (end_message j h) (printed ++ end_message k told ∷ [])) s (subst (λ x. IsAmong (end_message k x) (printed ++ end_message k told ∷ [])) (sym t) (among_last printed (end_message k told)))

    -- the end is kept
    pub kept : (b : Bool) → k < length ends → Prints n start now got ends b → Prints n start now (got ++ its_end ∷ []) (slice_set ends k (Some (told_end b how))) b
    kept true l p = record {
      printed = p.printed;
      writes = broken_later p.printed its_end p.writes;
      branches = length-set ends k (Some (told_end true how)) ∙ p.branches;
      told = λ i h t. ⊎_elim (λ s. inr (how, subst (λ j. IsAmong (end_message j how) (got ++ its_end ∷ [])) s.0 (among_last got its_end), s.1)) (λ o. later p.printed its_end i h (p.told i h o)) (at_here ends k i (told_end true how) h t);
      plain = λ e. absurd (false≢true (sym e));
      kept = end_kept k how (told_end true how) l p.kept;
    }
    kept false l p = record {
      printed = p.printed ++ its_end ∷ [];
      writes = written p.printed its_end refl p.writes;
      branches = length-set ends k (Some (told_end false how)) ∙ p.branches;
      told = λ i h t. ⊎_elim (λ s. inl (end_here p.printed how i h s.0 s.1)) (λ o. both p.printed its_end i h (p.told i h o)) (at_here ends k i (told_end false how) h t);
      plain = λ e i h t. ⊎_elim (λ s. end_here p.printed how i h s.0 s.1) (λ o. among_left (its_end ∷ []) (p.plain e i h o)) (at_here ends k i (told_end false how) h t);
      kept = end_kept k how (told_end false how) l p.kept;
    }

  -- a text is printed where no write failed before, or the write of its frame fails
  module _ (k : ℕ) (bytes : List ℕ) where
    abbrev its_text : Msg
    its_text = record { stream = k; body = body.Load (load.Bytes bytes) }

    pub printed_on : (new : SinkTold) → new ≡ with_bytes now (frame_text k bytes) → Prints n start now got ends false → Prints n start new (got ++ its_text ∷ []) ends false
    printed_on new w p = record {
      printed = p.printed ++ its_text ∷ [];
      writes = (
        ap (λ l. l ++ its_text ∷ []) p.writes.0,
        w ∙ (ap (λ s. with_bytes s (frame_text k bytes)) p.writes.1 ∙ (with_bytes_twice start (frames_text (frames_in p.printed)) (frame_text k bytes) ∙ ap (λ b. with_bytes start b) (sym (whole_text p.printed)))),
      );
      branches = p.branches;
      told = λ i h t. both p.printed its_text i h (p.told i h t);
      plain = λ e i h t. among_left (its_text ∷ []) (p.plain e i h t);
      kept = text_kept k bytes p.kept;
    }
      where
        whole_text : (ms : List Msg) → frames_text (frames_in (ms ++ its_text ∷ [])) ≡ frames_text (frames_in ms) ++ frame_text k bytes
        whole_text ms = ap frames_text (frames_snoc ms its_text) ∙ (text_snoc (frames_in ms) (record { stream = k; payload = bytes } ∷ []) ∙ ap (λ b. frames_text (frames_in ms) ++ b) (append-nil (frame_text k bytes)))

    pub broken_off : (new : SinkTold) → BreaksOff now new (frame_text k bytes) → Prints n start now got ends false → Prints n start new (got ++ its_text ∷ []) ends true
    broken_off new b p =
        let text : List ℕ = frame_text k bytes in
        record {
          printed = p.printed;
          writes = record {
            message = its_text;
            after = [];
            got_is = ap (λ l. l ++ its_text ∷ []) p.writes.0;
            frame = record { stream = k; payload = bytes };
            frame_is = refl;
            rest = take b.count text;
            front = (drop b.count text, omega (arith, length-drop b.count text, b.front), take-append-drop b.count text);
            wrote = b.told ∙ (ap (λ (x : SinkTold). let y : SinkTold = record (with_bytes x (take b.count text)) { faults = x.faults + 1 } in y) p.writes.1
                ∙ ap (λ (x : SinkTold). let y : SinkTold = record x { faults = start.faults + 1 } in y) (with_bytes_twice start (frames_text (frames_in p.printed)) (take b.count text)));
          };
          branches = p.branches;
          told = λ i h t. later p.printed its_text i h (p.told i h t);
          plain = λ e. absurd (false≢true (sym e));
          kept = text_kept k bytes p.kept;
        }

    -- where no write failed before
    pub put_text : (new : SinkTold) (r : Result (Unit {0}) Failed) (b : Bool) → b ≡ is_err r → Puts now new (frame_text k bytes) r → Prints n start now got ends false → Prints n start new (got ++ its_text ∷ []) ends b
    put_text new (Ok x) b e w p = subst (λ c. Prints n start new (got ++ its_text ∷ []) ends c) (sym e) (printed_on new w p)
    put_text new (Err x) b e w p = subst (λ c. Prints n start new (got ++ its_text ∷ []) ends c) (sym e) (broken_off new w p)
