-- What each branch has printed, once all are taken in.
use Rattle.std.proofs.Common.{◌≡◌, ◌⊎◌, ℕ, List, [], ◌∷◌, ◌++◌, map, inl, inr, refl, sym, ap, ◌∙◌, subst, ⊎_elim, append-nil, append_assoc}
use Rattle.chunk_core.specs.Elements.{Element, elements, elements_of, rendering_of}
use Rattle.chunk_core.specs.Feed.{Given, Meaning}
use Rattle.chunk_core.specs.Lists.{IsAmong}
use Rattle.chunk_core.specs.Outcomes.{Cut, Done, End, Fault}
use Rattle.chunk_core.specs.declared.code.How.{How}
use Rattle.chunk_core.specs.declared.code.How.TheVariants as how
use Rattle.chunk_core.specs.declared.load.Load.{Load}
use Rattle.chunk_core.specs.Lists.IsAmong.{here}
use Rattle.chunk_core.proofs.Members.{among_last, among_nil}
use Rattle.channel_bounded.specs.Streams.{of_stream}
use Rattle.channel_bounded.specs.declared.message.Body.{Body}
use Rattle.channel_bounded.specs.declared.message.Body.TheVariants as body
use Rattle.channel_bounded.specs.declared.message.Msg.{Msg}
use Rattle.interrupt_ctx.specs.Views.{HasSetAll, interruption}
use Rattle.interrupt_ctx.specs.declared.view.View.{View}
use Rattle.interrupt_ctx.specs.declared.why.Stop.{Stop}
use Rattle.pull_nodes.specs.Plain.{IsFront}
use Rattle.run_rules.specs.Facts.{IsOver}
use Rattle.run_rules.specs.Outputs.{elements_in_pieces, payloads_by}
use Rattle.tee_branches.specs.Messages.{AreReceived, IsReceived, IsSaidOf, IsStoppedBefore, gives, text_message, text_messages}
use Rattle.tee_prints.specs.Printed.{IsToldEnd, hidden}
use Rattle.tee_texts.specs.Texts.{end_message, frames_in}
use Rattle.tee_pump.specs.Finished.{IsInputOf, IsPrintedOf}
use Rattle.tee_pump.specs.Settled.{IsSettled}
use Rattle.tee_pump.specs.Stopping.{IsEarly}
use Rattle.tee_pump.proofs.Fronts.{IsCutOf, cut_of, front_among, front_made, front_then, nils, not_mapped, same_mapped, snoc_same}
use Rattle.tee_pump.proofs.Streams.{end_said, no_end_said, payloads_and_end, payloads_in, payloads_of_stream, payloads_of_texts, stream_among, stream_append}

not_load : (h : How) (l : Load) → body.End h ≡ body.Load l → ⊥
not_load h l e = cc

same_load_body : (a b : Load) → body.Load a ≡ body.Load b → a ≡ b
same_load_body a b e = cc

end_body : (h g : How) → body.End h ≡ body.End g → h ≡ g
end_body h g e = cc

-- the loads at the front of what was published
loads_front : (loads p q : List Load) → p ++ q ≡ loads → IsFront (elements_of p) (elements_of loads)
loads_front loads p q e = front_made elements p q loads e

module _ (loads : List Load) (reader : How) where
  abbrev all : List Body
  all = map body.Load loads ++ body.End reader ∷ []

  -- an end that was received is the one that was published, behind all loads
  end_received : (got before : List Body) (h : How) → IsFront got all → got ≡ before ++ body.End h ∷ [] → (before ≡ map body.Load loads) × (h ≡ reader)
  end_received got before h f e = of_cut (cut_of body.Load (body.End reader) loads got f.0 (sym f.1))
    where
      of_cut : IsCutOf body.Load (body.End reader) loads got f.0 → (before ≡ map body.Load loads) × (h ≡ reader)
      of_cut (inl t) = let x = snoc_same before (map body.Load loads) (body.End h) (body.End reader) (sym e ∙ t.0) in (x.0, end_body h reader x.1)
      of_cut (inr t) = absurd (not_mapped body.Load (body.End h) (not_load h) t.0 (subst (λ l. IsAmong (body.End h) l) (sym e ∙ t.3) (among_last before (body.End h))))

  -- loads that were received stand at the front of those that were published
  loads_received : (before : List Body) (xs : List Element) → IsFront before all → AreReceived before xs → IsFront xs (elements_of loads)
  loads_received before xs f r = of_cut (cut_of body.Load (body.End reader) loads before f.0 (sym f.1))
    where
      of_cut : IsCutOf body.Load (body.End reader) loads before f.0 → IsFront xs (elements_of loads)
      of_cut (inl t) = absurd (not_mapped body.Load (body.End reader) (not_load reader) r.loads (subst (λ l. IsAmong (body.End reader) l) (sym t.0 ∙ r.got_is) (among_last (map body.Load loads) (body.End reader))))
      of_cut (inr t) =
          let same : t.0 ≡ r.loads = same_mapped body.Load same_load_body t.0 r.loads (sym t.3 ∙ r.got_is) in
          subst (λ y. IsFront y (elements_of loads)) (ap elements_of same ∙ sym r.all) (loads_front loads t.0 t.1 t.2)

  pub input_of : (got : List Body) (xs : List Element) (e : End) → IsFront got all → IsReceived got xs e → IsInputOf (elements_of loads) reader xs e
  input_of got xs Cut f r = record { front = loads_received r.0 xs (front_then r.0 got all (r.1, r.2) f) r.3; ended = inl refl }
  input_of got xs Done f r =
      let x = end_received got r.0 how.Done f r.1 in
      let same : r.2.loads ≡ loads = same_mapped body.Load same_load_body r.2.loads loads (sym r.2.got_is ∙ x.0) in
      let is : xs ≡ elements_of loads = r.2.all ∙ ap elements_of same in
      record { front = ([], sym is ∙ sym (append-nil xs)); ended = inr (refl, sym x.1, is) }
  input_of got xs (Fault c) f r = absurd r

  not_done : (h : How) → (h ≡ how.Done → ⊥) → IsEarly h
  not_done how.Done n = absurd (n refl)
  not_done (how.Fault c) n = tt
  not_done how.Halted n = tt
  not_done how.Memory n = tt

  -- an end that isn't a whole one was published by a reader that wasn't done
  pub stopped_before : (got : List Body) → IsFront got all → IsStoppedBefore got → IsEarly reader
  stopped_before got f r = let x = end_received got r.0 r.1 f r.2 in subst IsEarly x.1 (not_done r.1 r.3)

-- what is told of a branch whose frames weren't printed any more is a front of what it said
hidden_said : (h : How) (e : End) (g : Given) (ys zs : List Element) → IsSaidOf h e g ys → IsFront zs ys → IsSaidOf (hidden h) e g zs
hidden_said how.Done e g ys zs s f = subst (IsFront zs) s.2 f
hidden_said (how.Fault c) e g ys zs s f = subst (IsFront zs) s.1 f
hidden_said how.Halted e g ys zs s f = front_then zs ys g.list f s
hidden_said how.Memory e g ys zs s f = front_then zs ys g.list f s

halted_not_over : IsOver how.Halted → ⊥
halted_not_over (inl e) = let x : how.Halted ≡ how.Done = e in cc
halted_not_over (inr f) = let x : how.Halted ≡ how.Fault f.0 = f.1 in cc

-- and isn't the end of one that ended by itself
hidden_not_over : (h : How) → IsOver (hidden h) → ⊥
hidden_not_over how.Done o = halted_not_over o
hidden_not_over (how.Fault c) o = halted_not_over o
hidden_not_over how.Halted o = halted_not_over o
hidden_not_over how.Memory (inl e) = let x : how.Memory ≡ how.Done = e in cc
hidden_not_over how.Memory (inr f) = let x : how.Memory ≡ how.Fault f.0 = f.1 in cc

module _ (i : ℕ) (m : Meaning) (loads : List Load) (reader : How) (got : List Msg) (view : View) (t : IsSettled i m (map body.Load loads ++ body.End reader ∷ []) got view) where
  abbrev sent : List Msg
  sent = t.said ++ end_message i t.how ∷ []

  abbrev pieces : List (List Element)
  pieces = t.ended.says.pieces

  sent_is : sent ≡ text_messages i pieces ++ end_message i t.how ∷ []
  sent_is = ap (λ l. l ++ end_message i t.how ∷ []) t.ended.says.messages

  -- what came of it stands at the front of what it said
  came_front : (ms : List Msg) → (f : IsFront ms got) → of_stream i ms ++ (of_stream i f.0 ++ of_stream i t.queued) ≡ text_messages i pieces ++ end_message i t.how ∷ []
  came_front ms f = sym (append_assoc (of_stream i ms) (of_stream i f.0) (of_stream i t.queued)) ∙ (ap (λ l. l ++ of_stream i t.queued) (sym (ap (of_stream i) f.1 ∙ stream_append i ms f.0)) ∙ (t.whole ∙ sent_is))

  -- these came at first: all that it said, or texts alone
  came_cut : (ms : List Msg) (f : IsFront ms got) → IsCutOf (text_message i) (end_message i t.how) pieces (of_stream i ms) (of_stream i f.0 ++ of_stream i t.queued)
  came_cut ms f = cut_of (text_message i) (end_message i t.how) pieces (of_stream i ms) (of_stream i f.0 ++ of_stream i t.queued) (came_front ms f)

  -- an end that came is its own
  pub own_end : (h : How) → IsAmong (end_message i h) got → h ≡ t.how
  own_end h a = end_said i h t.how pieces (front_among (of_stream i got) (text_messages i pieces ++ end_message i t.how ∷ []) (end_message i h) (of_stream i t.queued, sym (t.whole ∙ sent_is)) (stream_among i (end_message i h) got refl a))

  input : IsInputOf (elements_of loads) reader t.ended.input t.ended.end
  input = input_of loads reader t.received t.ended.input t.ended.end t.front t.ended.received

  -- all that it said was printed
  printed_all : (begun : List Msg) (h : How) → h ≡ t.how → of_stream i begun ≡ text_messages i pieces ++ end_message i t.how ∷ [] → IsPrintedOf (elements_of loads) reader (frames_in begun) i m h
  printed_all begun h e c = record {
    input = t.ended.input;
    end = t.ended.end;
    is_input = input;
    pieces = pieces;
    frames = payloads_of_stream i begun ∙ (ap payloads_in c ∙ payloads_and_end i pieces t.how);
    printed = subst (λ k. IsSaidOf k t.ended.end (gives m t.ended.input t.ended.end) (elements_in_pieces pieces)) (sym e) (subst (λ l. IsSaidOf t.how t.ended.end (gives m t.ended.input t.ended.end) l) (sym t.ended.says.all) t.ended.printed);
  }

  -- a front of it was printed, and it is told as hidden
  printed_some : (begun : List Msg) (h : How) (p q : List (List Element)) → h ≡ hidden t.how → p ++ q ≡ pieces → payloads_by i (frames_in begun) ≡ map rendering_of p → IsPrintedOf (elements_of loads) reader (frames_in begun) i m h
  printed_some begun h p q e c frames = record {
    input = t.ended.input;
    end = t.ended.end;
    is_input = input;
    pieces = p;
    frames = frames;
    printed = subst (λ k. IsSaidOf k t.ended.end (gives m t.ended.input t.ended.end) (elements_in_pieces p)) (sym e)
        (hidden_said t.how t.ended.end (gives m t.ended.input t.ended.end) t.ended.given (elements_in_pieces p) t.ended.printed (subst (IsFront (elements_in_pieces p)) t.ended.says.all (front_made (λ (x : List Element). x) p q pieces c)));
  }

  -- the end that is told is that of what was printed
  pub printed_told : (begun printed : List Msg) (h : How) → IsFront begun got → IsFront printed begun → IsToldEnd got printed i h → IsPrintedOf (elements_of loads) reader (frames_in begun) i m h
  printed_told begun printed h f w (inl a) = of_cut (came_cut begun f)
    where
      mine : h ≡ t.how
      mine = own_end h (front_among begun got (end_message i h) f (front_among printed begun (end_message i h) w a))

      of_cut : IsCutOf (text_message i) (end_message i t.how) pieces (of_stream i begun) (of_stream i f.0 ++ of_stream i t.queued) → IsPrintedOf (elements_of loads) reader (frames_in begun) i m h
      of_cut (inl x) = printed_all begun h mine x.0
      of_cut (inr x) = absurd (no_end_said i h x.0 (subst (λ l. IsAmong (end_message i h) l) x.3 (stream_among i (end_message i h) begun refl (front_among printed begun (end_message i h) w a))))
  printed_told begun printed h f w (inr o) = of_cut (came_cut begun f)
    where
      mine : h ≡ hidden t.how
      mine = o.2 ∙ ap hidden (own_end o.0 o.1)

      of_cut : IsCutOf (text_message i) (end_message i t.how) pieces (of_stream i begun) (of_stream i f.0 ++ of_stream i t.queued) → IsPrintedOf (elements_of loads) reader (frames_in begun) i m h
      of_cut (inl x) = printed_some begun h pieces [] mine (append-nil pieces) (payloads_of_stream i begun ∙ (ap payloads_in x.0 ∙ payloads_and_end i pieces t.how))
      of_cut (inr x) = printed_some begun h x.0 x.1 mine x.2 (payloads_of_stream i begun ∙ (ap payloads_in x.3 ∙ payloads_of_texts i x.0))

  -- the branch of a frame whose write failed isn't told as one that ended by itself
  pub not_over_at_cut : (printed after : List Msg) (x : Msg) (h : How) → got ≡ printed ++ x ∷ after → x.stream ≡ i → IsToldEnd got printed i h → IsOver h → ⊥
  not_over_at_cut printed after x h e own (inl a) over = of_cut (came_cut printed (x ∷ after, e))
    where
      of_cut : IsCutOf (text_message i) (end_message i t.how) pieces (of_stream i printed) (of_stream i (x ∷ after) ++ of_stream i t.queued) → ⊥
      of_cut (inl y) = among_nil (subst (λ l. IsAmong x l) (nils (of_stream i (x ∷ after)) (of_stream i t.queued) y.1).0 (stream_among i x (x ∷ after) own (here after)))
      of_cut (inr y) = no_end_said i h y.0 (subst (λ l. IsAmong (end_message i h) l) y.3 (stream_among i (end_message i h) printed refl a))
  not_over_at_cut printed after x h e own (inr o) over = hidden_not_over o.0 (subst IsOver o.2 over)

  -- a branch is halted since the run was interrupted, or by an end that isn't a whole one
  pub halted_told : (C : Type 0) → IsAmong (end_message i how.Halted) got → HasSetAll view → ((stop : Stop) → IsAmong (interruption 0 stop) view.set → C) → C ⊎ IsEarly reader
  halted_told C a set caused = ⊎_elim (λ k. inl (caused k.0 (set 0 k.0 (t.knows k.0 k.1)))) (λ r. inr (stopped_before loads reader t.received t.front r)) (t.ended.halted (sym (own_end how.Halted a)))
