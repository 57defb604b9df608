-- What a pump leaves at its end.
use Rattle.std.proofs.Common.{◌≡◌, ◌⊎◌, ℕ, ◌+◌, ◌<◌, Bool, true, false, cond, List, [], ◌∷◌, ◌++◌, map, length, is_some, Option, Some, None, inl, inr, refl, sym, ap, ◌∙◌, subst, ⊎_elim, append-nil, append_assoc, arith}
use Rattle.std.specs.Prelude.{IfSome, option_to_list}
use Rattle.std.specs.List.{AllByRecursion}
use Rattle.std.proofs.lemmas.Grind.{flat_map-append}
use Rattle.chunk_core.proofs.Each.{among_each, each_among}
use Rattle.chunk_core.proofs.Members.{among_left}
use Rattle.chunk_core.proofs.Totals.{one_at}
use Rattle.chunk_core.specs.Elements.{elements_of}
use Rattle.chunk_core.specs.Feed.{Meaning}
use Rattle.chunk_core.specs.Lists.{IsAmong}
use Rattle.chunk_core.specs.Texts.{Frame, IsRestOf, frames_text}
use Rattle.chunk_core.specs.Totals.{IsAt}
use Rattle.chunk_core.specs.declared.code.How.{How}
use Rattle.chunk_core.specs.declared.code.How.TheVariants as how
use Rattle.chunk_core.specs.declared.load.Load.{Load}
use Rattle.chunk_core.specs.declared.load.Load.TheVariants as load
use Rattle.channel_bounded.specs.declared.message.Body.{Body}
use Rattle.channel_bounded.specs.declared.message.Body.TheVariants as body
use Rattle.channel_bounded.specs.declared.message.Msg.{Msg}
use Rattle.device_port.specs.Sink.{SinkTold, with_bytes}
use Rattle.interrupt_ctx.specs.Views.{HasSetAll, interruption}
use Rattle.interrupt_ctx.specs.declared.view.View.{View}
use Rattle.interrupt_ctx.specs.declared.why.Stop.{Stop}
use Rattle.pull_nodes.specs.Plain.{IsFront}
use Rattle.run_rules.specs.Facts.{IsOver}
use Rattle.tee_prints.specs.Printed.{IsStop, Prints, Writes}
use Rattle.tee_texts.specs.Texts.{IsText, end_message, frames_in, frames_in_body}
use Rattle.tee_pump.specs.declared.ended.TeeEnd.{TeeEnd}
use Rattle.tee_pump.specs.Finished.{IsCause, IsFinished, IsPrintedOf}
use Rattle.tee_pump.specs.Printing.{numbers}
use Rattle.tee_pump.specs.Settled.{AreSettledFrom, HasTexts}
use Rattle.tee_pump.specs.Stopping.{IsEarly}
use Rattle.tee_pump.proofs.Finishing.{halted_told, not_over_at_cut, own_end, printed_told}
use Rattle.tee_pump.proofs.Fronts.{cons_head, cons_nil, front_among}
use Rattle.tee_pump.proofs.Places.{at_below, at_some}
use Rattle.tee_pump.proofs.Printing.{numbers_below}
use Rattle.tee_pump.proofs.Streams.{frames_numbered}

same_told : (a b : How) → Some a ≡ Some b → a ≡ b
same_told a b e = cc

-- what was begun to be printed, with the frame whose write failed
record IsBegun (start now : SinkTold) (got printed : List Msg) (broken : Bool) : Type 0 where
  cut : Option Frame
  rest : List ℕ
  begun : List Msg
  front : IsFront begun got
  within : IsFront printed begun
  frames : frames_in begun ≡ frames_in printed ++ option_to_list cut
  broke : is_some cut ≡ broken
  rest_is : IsRestOf cut rest
  wrote : now ≡ record (with_bytes start (frames_text (frames_in printed) ++ rest)) { faults = cond broken (start.faults + 1) start.faults }
  cut_at : IfSome cut (λ f. (x : Msg) × (after : List Msg) × (got ≡ printed ++ x ∷ after) × (x.stream ≡ f.stream))

frame_stream : (k : ℕ) (b : Body) (f : Frame) → frames_in_body k b ++ [] ≡ f ∷ [] → k ≡ f.stream
frame_stream k (body.Load (load.Bytes bytes)) f e = ap (λ (x : Frame). x.stream) (cons_head (record { stream = k; payload = bytes }) f [] [] e)
frame_stream k (body.Load (load.Lines l)) f e = absurd (cons_nil f [] (sym e))
frame_stream k (body.Load (load.Rows l)) f e = absurd (cons_nil f [] (sym e))
frame_stream k (body.End h) f e = absurd (cons_nil f [] (sym e))

begun_of : (start now : SinkTold) (got printed : List Msg) (broken : Bool) → Writes start now got printed broken → IsBegun start now got printed broken
begun_of start now got printed false w = record {
  cut = None;
  rest = [];
  begun = printed;
  front = ([], w.0 ∙ sym (append-nil printed));
  within = ([], sym (append-nil printed));
  frames = sym (append-nil (frames_in printed));
  broke = refl;
  rest_is = refl;
  wrote = w.1 ∙ ap (λ l. with_bytes start l) (sym (append-nil (frames_text (frames_in printed))));
  cut_at = tt;
}
begun_of start now got printed true w = record {
  cut = Some w.frame;
  rest = w.rest;
  begun = printed ++ w.message ∷ [];
  front = (w.after, w.got_is ∙ sym (append_assoc printed (w.message ∷ []) w.after));
  within = (w.message ∷ [], refl);
  frames = flat_map-append (λ (x : Msg). frames_in_body x.stream x.body) printed (w.message ∷ []) ∙ ap (λ l. frames_in printed ++ l) w.frame_is;
  broke = refl;
  rest_is = w.front;
  wrote = w.wrote;
  cut_at = (w.message, w.after, w.got_is, frame_stream w.message.stream w.message.body w.frame w.frame_is);
}

module _ (ms : List Meaning) (loads : List Load) (reader : How) (start now : SinkTold) (got : List Msg) (view : View) (ends : List (Option How)) (broken : Bool) (t : TeeEnd)
    (prints : Prints (length ms) start now got ends broken) (settled : AreSettledFrom 0 ms (map body.Load loads ++ body.End reader ∷ []) got view) (is_broken : t.broken ≡ broken)
    (count : length t.ends.items ≡ length ends) (each : (i : ℕ) (h : How) → IsAt t.ends.items i h → IsAt ends i (Some h)) where
  -- a cause that was received is told
  pub cause_told : (broken ≡ true) ⊎ ((i : ℕ) × (h : How) × (i < length ms) × IsStop h × IsAmong (end_message i h) got) → IsCause t
  cause_told (inl e) = inl (is_broken ∙ e)
  cause_told (inr c) = by broken refl
    where
      told : (x : How) × IsAt ends c.0 (Some x)
      told = prints.kept c.0 c.1 c.2 c.4

      meaning : (m : Meaning) × IsAt ms c.0 m
      meaning = at_some ms c.0 c.2

      mine : (h : How) → IsAmong (end_message c.0 h) got → h ≡ (settled c.0 meaning.0 (omega arith) meaning.1).how
      mine h a = own_end c.0 meaning.0 loads reader got view (settled c.0 meaning.0 (omega arith) meaning.1) h a

      at_end : (y : How) × IsAt t.ends.items c.0 y
      at_end = at_some t.ends.items c.0 (let b = at_below ends c.0 (Some told.0) told.1 in omega (arith, b, count))

      by : (b : Bool) → broken ≡ b → IsCause t
      by true e = inl (is_broken ∙ e)
      by false e =
          let w = subst (λ b. Writes start now got prints.printed b) e prints.writes in
          let a : IsAmong (end_message c.0 told.0) got = subst (λ l. IsAmong (end_message c.0 told.0) l) (sym w.0) (prints.plain e c.0 told.0 told.1) in
          let same : told.0 ≡ c.1 = mine told.0 a ∙ sym (mine c.1 c.4) in
          let y : at_end.0 ≡ told.0 = same_told at_end.0 told.0 (one_at ends c.0 (Some at_end.0) (Some told.0) (each c.0 at_end.0 at_end.1) told.1) in
          inr (c.0, at_end.0, at_end.1, subst IsStop (sym (y ∙ same)) c.3)

  module _ (texts : HasTexts (numbers (length ms)) got) (set : HasSetAll view) (caused : (stop : Stop) → IsAmong (interruption 0 stop) view.set → ((broken ≡ true) ⊎ ((i : ℕ) × (h : How) × (i < length ms) × IsStop h × IsAmong (end_message i h) got)) ⊎ IsEarly reader) where
    begun : IsBegun start now got prints.printed broken
    begun = begun_of start now got prints.printed broken prints.writes

    text_of : (x : Msg) → IsAmong x got → (x.stream < length ms) × IsText x.body
    text_of x a = (numbers_below (length ms) x.stream (texts.accounts.senders x (among_left texts.queued a)), among_each (λ (y : Msg). IsText y.body) x (got ++ texts.queued) texts.texts (among_left texts.queued a))

    cut_told : (c : Option Frame) → IfSome c (λ f. (x : Msg) × (after : List Msg) × (got ≡ prints.printed ++ x ∷ after) × (x.stream ≡ f.stream)) → IfSome c (λ f. (h : How) → IsAt t.ends.items f.stream h → IsOver h → ⊥)
    cut_told None h = tt
    cut_told (Some f) h = λ e at.
        let below = at_below ends f.stream (Some e) (each f.stream e at) in
        let b = prints.branches in
        let m = at_some ms f.stream (omega (arith, below, b)) in
        not_over_at_cut f.stream m.0 loads reader got view (settled f.stream m.0 (omega arith) m.1) prints.printed h.1 h.0 e h.2 h.3 (prints.told f.stream e (each f.stream e at))

    halted : (i : ℕ) → IsAt t.ends.items i how.Halted → IsCause t ⊎ IsEarly reader
    halted i at = by broken refl
      where
        by : (b : Bool) → broken ≡ b → IsCause t ⊎ IsEarly reader
        by true e = inl (inl (is_broken ∙ e))
        by false e =
            let told = each i how.Halted at in
            let below = at_below ends i (Some how.Halted) told in
            let b = prints.branches in
            let m = at_some ms i (omega (arith, below, b)) in
            let w = subst (λ b. Writes start now got prints.printed b) e prints.writes in
            let a : IsAmong (end_message i how.Halted) got = subst (λ l. IsAmong (end_message i how.Halted) l) (sym w.0) (prints.plain e i how.Halted told) in
            let c = halted_told i m.0 loads reader got view (settled i m.0 (omega arith) m.1) (((broken ≡ true) ⊎ ((i : ℕ) × (h : How) × (i < length ms) × IsStop h × IsAmong (end_message i h) got)) ⊎ IsEarly reader) a set caused in
            ⊎_elim (λ x. ⊎_elim (λ y. inl (cause_told y)) (λ y. inr y) x) (λ x. inr x) c

    pub finished : IsFinished ms (elements_of loads) reader start now t
    finished = record {
      frames = frames_in prints.printed;
      cut = begun.cut;
      rest = begun.rest;
      broke = begun.broke ∙ sym is_broken;
      front = begun.rest_is;
      wrote = begun.wrote ∙ ap (λ b. let x : SinkTold = record (with_bytes start (frames_text (frames_in prints.printed) ++ begun.rest)) { faults = cond b (start.faults + 1) start.faults } in x) (sym is_broken);
      numbers = subst (AllByRecursion (λ (f : Frame). (f.stream < length ms) × (0 < length f.payload))) begun.frames
          (frames_numbered (length ms) begun.begun (each_among (λ (x : Msg). (x.stream < length ms) × IsText x.body) begun.begun (λ x a. text_of x (front_among begun.begun got x begun.front a))));
      count = count ∙ prints.branches;
      branches = λ i m h at told. subst (λ F. IsPrintedOf (elements_of loads) reader F i m h) begun.frames
          (printed_told i m loads reader got view (settled i m (omega arith) at) begun.begun prints.printed h begun.front begun.within (prints.told i h (each i h told)));
      cut_branch = cut_told begun.cut begun.cut_at;
      halted = halted;
    }
