-- Printing a stream, turn by turn.
use Rattle.std.proofs.Common.{◌≡◌, ◌≢◌, ℕ, ◌+◌, ◌<◌, ◌≤◌, false, List, [], ◌∷◌, ◌++◌, inl, inr, map, length, take, drop, Some, Err, refl, sym, ◌∙◌, ap, subst, arith, append-nil, length-drop}
use Rattle.std.proofs.lemmas.Bool.{false≢true}
use Rattle.std.proofs.lemmas.Grind.{flat_map-append}
use Rattle.std.proofs.lemmas.List.{map-append, take-append-drop}
use Rattle.std.specs.List.{AllByRecursion}
use Rattle.chunk_core.specs.Elements.{Bytes, Element, elements, kind_of, rendering_of}
use Rattle.chunk_core.specs.Elements.Element.{Byte, Line, Row}
use Rattle.chunk_core.specs.Outcomes.{Done, Fault, Cut}
use Rattle.chunk_core.specs.Texts.{Frame, frame_text, frames_text}
use Rattle.chunk_core.specs.declared.load.Load.{Load}
use Rattle.chunk_core.specs.declared.load.Load.TheVariants as load
use Rattle.chunk_core.specs.declared.code.Code.{Code}
use Rattle.chunk_core.specs.declared.code.How.TheVariants as how
use Rattle.device_port.specs.Device.{DeviceTold}
use Rattle.device_port.specs.Sink.{SinkTold, with_bytes, BreaksOff}
use Rattle.device_port.proofs.Puts.{with_bytes_none, with_bytes_twice}
use Rattle.pull_turns.specs.Around.{Around}
use Rattle.pull_turns.specs.Led.{CanBeCut, Led, TouchesOnly, Turns}
use Rattle.pull_turns.specs.Turned.{Over}
use Rattle.pull_turns.specs.Piping.{StateMeaning}
use Rattle.pull_turns.specs.Failures.{IsToldRunOfRest}
use Rattle.pull_turns.specs.Sizes.{HasNoPipe, Sized, widest}
use Rattle.pull_turns.specs.declared.rest.Rest.{Rest}
use Rattle.pull_turns.specs.declared.rest.Rest.TheVariants.{Nil}
use Rattle.pull_turns.specs.declared.turn.Turn.TheVariants as turn
use Rattle.pull_turns.proofs.Leads.{left_earlier}
use Rattle.pull_turns.proofs.Led.{cut_unwritten, led_start, led_chunk, led_quiet, led_done, led_ends, led_fault, over_now, tells_same}
use Rattle.run_rules.specs.Outputs.{elements_in_pieces}
use Rattle.cat_run.specs.declared.stopped.Stopped.{Stopped}
use Rattle.cat_run.specs.declared.stopped.Stopped.TheVariants as stopped
use Rattle.cat_run.specs.Alone.{AreSmall, frame_of, IsByte, IsSmallPiece, PrintsPieces}
use Rattle.cat_run.specs.Printing.{PrintsOne, PrintsRun}
use Rattle.chunk_core.proofs.Each.{each_snoc}

-- no pipe is in what is left, pieces stay as small, and so small were those that came
pub record StaysSmall {F : Type 0} (n : ℕ) (start rest : Rest F) (pieces : List (List Element)) : Type 0 where
  pub plain : HasNoPipe rest
  pub wide : widest n rest ≤ widest n start
  pub fits : AllByRecursion (λ xs. length xs ≤ widest n start) pieces

-- so far turns gave these pieces, and each was printed as a frame of stream k
pub record PrintsOn {F : Type 0} (P : StateMeaning F) (first now : ℕ → DeviceTold) (n : ℕ) (start rest : Rest F) (k : ℕ) (old new : SinkTold) : Type 0 where
  pub pieces : List (List Element)
  pub some : AllByRecursion IsSmallPiece pieces
  pub small : HasNoPipe start → StaysSmall n start rest pieces
  pub led : Led P first now start rest (elements_in_pieces pieces)
  pub wrote : new ≡ with_bytes old (frames_text (map (frame_of k) pieces))

-- a load of another kind has other elements
unlike_bytes : (l : Load) → kind_of l ≢ Bytes → 0 < length (elements l) → ¬ (AllByRecursion IsByte (elements l))
unlike_bytes (load.Bytes bytes) n s h = n refl
unlike_bytes (load.Lines []) n s h = omega (arith, s)
unlike_bytes (load.Lines (x ∷ xs)) n s h = let e : Line x ≡ Byte h.0.0 = h.0.1 in cc
unlike_bytes (load.Rows []) n s h = omega (arith, s)
unlike_bytes (load.Rows (x ∷ xs)) n s h = let e : Row x ≡ Byte h.0.0 = h.0.1 in cc

elements_snoc : (pieces : List (List Element)) (xs : List Element) → elements_in_pieces (pieces ++ xs ∷ []) ≡ elements_in_pieces pieces ++ xs
elements_snoc pieces xs = flat_map-append (λ (ys : List Element). ys) pieces (xs ∷ []) ∙ ap (λ b. elements_in_pieces pieces ++ b) (append-nil xs)

frames_snoc : (k : ℕ) (pieces : List (List Element)) (xs : List Element) → frames_text (map (frame_of k) (pieces ++ xs ∷ [])) ≡ frames_text (map (frame_of k) pieces) ++ frame_text k (rendering_of xs)
frames_snoc k pieces xs =
    ap (λ F. frames_text F) (map-append (frame_of k) pieces (xs ∷ []))
    ∙ (flat_map-append (λ (f : Frame). frame_text f.stream f.payload) (map (frame_of k) pieces) (frame_of k xs ∷ []) ∙ ap (λ b. frames_text (map (frame_of k) pieces) ++ b) (append-nil (frame_text k (rendering_of xs))))

-- a front of a text that isn't all of it, and the rest
rest_of : (xs : List ℕ) (k : ℕ) → k < length xs → (0 < length (drop k xs)) × (take k xs ++ drop k xs ≡ xs)
rest_of xs k l = (omega (arith, length-drop k xs), take-append-drop k xs)

pub prints_start : {F : Type 0} (P : StateMeaning F) (now : ℕ → DeviceTold) (n : ℕ) (start : Rest F) (k : ℕ) (old : SinkTold) → PrintsOn P now now n start start k old old
prints_start P now n start k old = record { pieces = []; some = tt; small = λ f. record { plain = f; wide = omega arith; fits = tt }; led = led_start P now start; wrote = sym (with_bytes_none old) }

-- what happens to the devices later is no more than their closes
over_later : {F : Type 0} (now last : ℕ → DeviceTold) (r : Rest F) → TouchesOnly {F = F} now last Nil → Over now last r
over_later now last r t = record { over = λ p l. t.others p (λ m. m); goes = t.goes }

-- what was printed is a front of a run, where what was left may be left, whatever the devices come to tell by their closes
cut_later : {F : Type 0} (P : StateMeaning F) (first before now last : ℕ → DeviceTold) (start rest : Rest F) (xs : List Element) → Led P first before start rest xs → TouchesOnly before now rest → CanBeCut P now rest → TouchesOnly {F = F} now last Nil
    → IsToldRunOfRest P last start xs Cut
cut_later P first before now last start rest xs h t cut closes = led_ends P first before now start rest xs Cut h t cut last (over_later now last start closes)

module _ {F : Type 0} (P : StateMeaning F) (first before : ℕ → DeviceTold) (n : ℕ) (start rest : Rest F) (k : ℕ) (old mid : SinkTold) (p : PrintsOn P first before n start rest k old mid) where
  -- nothing was cut
  abbrev whole : PrintsPieces k old mid false
  whole = record {
    pieces = p.pieces;
    some = p.some;
    next = [];
    rest = [];
    cut = (refl, refl);
    wrote = p.wrote ∙ ap (λ b. with_bytes old b) (sym (append-nil (frames_text (map (frame_of k) p.pieces))));
  }

  whole_small : HasNoPipe start → AreSmall (widest n start) p.pieces []
  whole_small f = record { fits = (p.small f).fits; next_fits = omega arith }

  -- memory was wanting in a turn
  pub prints_wanting : (now last : ℕ → DeviceTold) → TouchesOnly before now rest → CanBeCut P now rest → TouchesOnly {F = F} now last Nil → PrintsRun (IsToldRunOfRest P last start) (HasNoPipe start) (widest n start) k old mid (Some how.Memory) stopped.Memory
  prints_wanting now last h cut t = record {
    how = how.Memory;
    ended_is = refl;
    ends = inr refl;
    printed = whole;
    small = whole_small;
    run = record {
      end = Cut;
      run = cut_later P first before now last start rest (elements_in_pieces p.pieces) p.led h cut t;
      goes_on = λ e. absurd (false≢true e);
      reported = inr refl;
      silenced = λ e. absurd (false≢true e);
      halted = λ e. absurd (false≢true e);
      remembered = λ e. refl;
      wanting = λ e. (refl, inl refl);
    };
  }

module _ {F : Type 0} (P : StateMeaning F) (first : ℕ → DeviceTold) (before now : Around) (n : ℕ) (start rest next : Rest F) (k : ℕ) (old mid : SinkTold) (p : PrintsOn P first before.told n start rest k old mid) where
  small_next : (xs : List Element) → (HasNoPipe rest → Sized n rest next xs) → (f : HasNoPipe start) → length xs ≤ widest n start
  small_next xs s f = let i = p.small f in let h = s i.plain in omega (arith, h.piece, i.wide)

  more_written : (new : SinkTold) (xs : List Element) → new ≡ with_bytes mid (frame_text k (rendering_of xs)) → new ≡ with_bytes old (frames_text (map (frame_of k) (p.pieces ++ xs ∷ [])))
  more_written new xs w =
      w ∙ (ap (λ s. with_bytes s (frame_text k (rendering_of xs))) p.wrote
      ∙ (with_bytes_twice old (frames_text (map (frame_of k) p.pieces)) (frame_text k (rendering_of xs)) ∙ ap (λ b. with_bytes old b) (sym (frames_snoc k p.pieces xs))))

  more_fit : (xs : List Element) → (HasNoPipe rest → Sized n rest next xs) → (f : HasNoPipe start) → AllByRecursion (λ ys. length ys ≤ widest n start) (p.pieces ++ xs ∷ [])
  more_fit xs s f = each_snoc (λ ys. length ys ≤ widest n start) p.pieces xs (p.small f).fits (small_next xs s f)

  pub prints_chunk : (new : SinkTold) (l : Load) → Turns P before now n rest next (turn.Chunk l) → (HasNoPipe rest → Sized n rest next (elements l)) → new ≡ with_bytes mid (frame_text k (rendering_of (elements l)))
      → PrintsOn P first now.told n start next k old new
  prints_chunk new l h s w = record {
    pieces = p.pieces ++ elements l ∷ [];
    some = each_snoc IsSmallPiece p.pieces (elements l) p.some h.gave.0;
    small = λ f. let i = p.small f in let z = s i.plain in record { plain = z.plain; wide = omega (arith, z.pieces, i.wide); fits = more_fit (elements l) s f };
    led = subst (λ xs. Led P first now.told start next xs) (sym (elements_snoc p.pieces (elements l))) (led_chunk P first before now n start rest next (elements_in_pieces p.pieces) p.led l h);
    wrote = more_written new (elements l) w;
  }

  pub prints_quiet : Turns P before now n rest next turn.Quiet → (HasNoPipe rest → Sized n rest next []) → PrintsOn P first now.told n start next k old mid
  prints_quiet h s = record {
    pieces = p.pieces;
    some = p.some;
    small = λ f. let i = p.small f in let z = s i.plain in record { plain = z.plain; wide = omega (arith, z.pieces, i.wide); fits = i.fits };
    led = led_quiet P first before now n start rest next (elements_in_pieces p.pieces) p.led h;
    wrote = p.wrote;
  }

  pub prints_done : Turns P before now n rest next turn.Done → PrintsRun (IsToldRunOfRest P now.told start) (HasNoPipe start) (widest n start) k old mid (Some how.Done) stopped.Ended
  prints_done h = record {
    how = how.Done;
    ended_is = refl;
    ends = refl;
    printed = whole P first before.told n start rest k old mid p;
    small = whole_small P first before.told n start rest k old mid p;
    run = record {
      end = Done;
      run = led_done P first before now n start rest next (elements_in_pieces p.pieces) p.led h now.told (over_now now.told start);
      goes_on = λ e. absurd (false≢true e);
      reported = refl;
      silenced = λ e. absurd (false≢true e);
      halted = λ e. absurd (false≢true e);
      remembered = λ e. absurd (false≢true e);
      wanting = λ e. absurd (false≢true e);
    };
  }

  pub prints_fault : (c : Code) → Turns P before now n rest next (turn.Fault c) → PrintsRun (IsToldRunOfRest P now.told start) (HasNoPipe start) (widest n start) k old mid (Some (how.Fault c)) stopped.Ended
  prints_fault c h = record {
    how = how.Fault c;
    ended_is = refl;
    ends = refl;
    printed = whole P first before.told n start rest k old mid p;
    small = whole_small P first before.told n start rest k old mid p;
    run = record {
      end = Fault c;
      run = led_fault P first before now n start rest next (elements_in_pieces p.pieces) p.led c h now.told (over_now now.told start);
      goes_on = λ e. absurd (false≢true e);
      reported = refl;
      silenced = λ e. absurd (false≢true e);
      halted = λ e. absurd (false≢true e);
      remembered = λ e. absurd (false≢true e);
      wanting = λ e. absurd (false≢true e);
    };
  }

  module _ (last : ℕ → DeviceTold) (t : TouchesOnly {F = F} now.told last Nil) where
    -- the stream may be left behind the piece that came, and behind those before it
    left_behind : (l : Load) → Turns P before now n rest next (turn.Chunk l) → IsToldRunOfRest P last start (elements_in_pieces p.pieces ++ elements l) Cut
    left_behind l h =
        cut_later P first now.told now.told last start next (elements_in_pieces p.pieces ++ elements l) (led_chunk P first before now n start rest next (elements_in_pieces p.pieces) p.led l h) (tells_same now.told next)
        (cut_unwritten P now now 0 next (h.can tt) (λ q. (refl, refl, refl, refl))) t

    left_before : (l : Load) → Turns P before now n rest next (turn.Chunk l) → IsToldRunOfRest P last start (elements_in_pieces p.pieces) Cut
    left_before l h = let r = left_behind l h in (left_earlier P last start (elements_in_pieces p.pieces) (elements l) Cut r.0, r.1)

    -- what was printed of a stream that was halted
    abbrev Halts : SinkTold → Stopped → Type 0
    Halts new r = PrintsRun (IsToldRunOfRest P last start) (HasNoPipe start) (widest n start) k old new (Some how.Halted) r

    -- memory was wanting for the text of a piece
    prints_unrendered : (new : SinkTold) (l : Load) → Turns P before now n rest next (turn.Chunk l) → new ≡ mid → kind_of l ≢ Bytes → Halts new stopped.Memory
    prints_unrendered new l h e other = subst (λ s. Halts s stopped.Memory) (sym e) (record {
      how = how.Halted;
      ended_is = refl;
      ends = inl refl;
      printed = whole P first before.told n start rest k old mid p;
      small = whole_small P first before.told n start rest k old mid p;
      run = record {
        end = Cut;
        run = left_before l h;
        goes_on = λ e. absurd (false≢true e);
        reported = inl refl;
        silenced = λ e. refl;
        halted = λ e. inr refl;
        remembered = λ e. absurd (false≢true e);
        wanting = λ e. (refl, inr (refl, record { lost = elements l; some = h.gave.0; unlike = unlike_bytes l other h.gave.0; run = left_behind l h }));
      };
    })

    -- a write failed
    prints_broken : (new : SinkTold) (l : Load) → Turns P before now n rest next (turn.Chunk l) → (HasNoPipe rest → Sized n rest next (elements l)) → BreaksOff mid new (frame_text k (rendering_of (elements l))) → Halts new stopped.Unwritten
    prints_broken new l h s b =
        let text : List ℕ = frame_text k (rendering_of (elements l)) in
        let parts = rest_of text b.count b.front in
        record {
          how = how.Halted;
          ended_is = refl;
          ends = refl;
          printed = record {
            pieces = p.pieces;
            some = p.some;
            next = elements l;
            rest = take b.count text;
            cut = (h.gave.0, drop b.count text, parts.0, parts.1);
            wrote = b.told ∙ (ap (λ (x : SinkTold). let y : SinkTold = record (with_bytes x (take b.count text)) { faults = x.faults + 1 } in y) p.wrote
                ∙ ap (λ (x : SinkTold). let y : SinkTold = record x { faults = old.faults + 1 } in y) (with_bytes_twice old (frames_text (map (frame_of k) p.pieces)) (take b.count text)));
          };
          small = λ f. record { fits = (p.small f).fits; next_fits = small_next (elements l) s f };
          run = record {
            end = Cut;
            run = left_before l h;
            goes_on = λ e. left_behind l h;
            reported = inl refl;
            silenced = λ e. refl;
            halted = λ e. inl refl;
            remembered = λ e. absurd (false≢true e);
            wanting = λ e. absurd (false≢true e);
          };
        }

    -- a piece wasn't printed whole
    pub prints_put : (new : SinkTold) (l : Load) (cause : Stopped) → Turns P before now n rest next (turn.Chunk l) → (HasNoPipe rest → Sized n rest next (elements l)) → PrintsOne {T = Unit {0}} mid new k l (Err cause) → Halts new cause
    prints_put new l stopped.Unwritten h s w = prints_broken new l h s w
    prints_put new l stopped.Memory h s w = prints_unrendered new l h w.0 w.1
    prints_put new l stopped.Ended h s w = absurd w
