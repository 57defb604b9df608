-- Results that are printed one after another.
use Rattle.std.proofs.Common.{◌≡◌, ℕ, ◌<◌, List, [], ◌∷◌, ◌++◌, length, Option, Some, None, Result, Ok, Err, refl, sym, ap, ◌∙◌, subst, append-nil, append_assoc, arith}
use Rattle.std.proofs.lemmas.Grind.{flat_map-append}
use Rattle.chunk_core.specs.Elements.{elements, rendering_of}
use Rattle.chunk_core.specs.Texts.{Frame, frame_text, frames_text}
use Rattle.chunk_core.specs.declared.load.Load.{Load}
use Rattle.chunk_core.specs.declared.code.How.TheVariants as how
use Rattle.chunk_core.proofs.Each.{each_snoc}
use Rattle.device_port.specs.Sink.{SinkTold, with_bytes}
use Rattle.device_port.proofs.Puts.{with_bytes_none, with_bytes_twice}
use Rattle.eval_rules.specs.Answers.{framed}
use Rattle.frames.proofs.Rendered.{rendering_some}
use Rattle.par_eval.specs.declared.work.Worked.{Worked}
use Rattle.eval_run.specs.declared.stop.Stop.{Stop}
use Rattle.eval_run.specs.declared.stop.Stop.TheVariants as stop
use Rattle.eval_run.specs.Printing.{BreaksFrame, Printed, PrintsResult, StopsAt, frames_by, frames_in, stop_of}

framed_some : (text : List ℕ) → 0 < length text → frames_text (framed text) ≡ frame_text 0 text
framed_some [] some = absurd (omega arith)
framed_some (b ∷ text) some = append-nil (frame_text 0 (b ∷ text))

-- the frame of a load that isn't empty
pub by_some : (load : Load) → 0 < length (elements load) → frames_text (frames_by load) ≡ frame_text 0 (rendering_of (elements load))
by_some load some = framed_some (rendering_of (elements load)) (rendering_some (elements load) some)

-- a sink to which bytes were written failed no more often than before
pub room_left : (first now : SinkTold) (ws : List Worked) (s : Option Stop) (most : ℕ) → Printed first now ws s → s ≡ None → first.faults < most → now.faults < most
room_left first now ws s most p none room = let e = left s none p.front p.rest p.stops in omega (arith, e, room)
  where
    left : (z : Option Stop) → z ≡ None → (front rest : List Worked) → StopsAt first now front rest z → now.faults ≡ first.faults
    left None is front rest h = ap (λ (x : SinkTold). x.faults) h.1
    left (Some z) is front rest h = cc

pub printed_none : (s : SinkTold) → Printed s s [] None
printed_none s = record { front = []; rest = []; whole = refl; done = tt; stops = (refl, sym (with_bytes_none s)) }

-- memory was wanting behind results that were printed
pub printed_wanting : (old new : SinkTold) (ws : List Worked) → Printed old new ws None → Printed old new ws (Some stop.Memory)
printed_wanting old new ws p = record { front = p.front; rest = p.rest; whole = p.whole; done = p.done; stops = p.stops.1 }

frames_more : (F G : List Frame) → frames_text (F ++ G) ≡ frames_text F ++ frames_text G
frames_more F G = flat_map-append (λ (f : Frame). frame_text f.stream f.payload) F G

in_more : (ws : List Worked) (w : Worked) → frames_in (ws ++ w ∷ []) ≡ frames_in ws ++ frames_by w.out
in_more ws w = flat_map-append (λ (x : Worked). frames_by x.out) ws (w ∷ []) ∙ ap (λ F. frames_in ws ++ F) (append-nil (frames_by w.out))

both_written : (old mid new : SinkTold) (F G : List Frame) → mid ≡ with_bytes old (frames_text F) → new ≡ with_bytes mid (frames_text G) → new ≡ with_bytes old (frames_text (F ++ G))
both_written old mid new F G a b = b ∙ (ap (λ s. with_bytes s (frames_text G)) a ∙ (with_bytes_twice old (frames_text F) (frames_text G) ∙ ap (λ t. with_bytes old t) (sym (frames_more F G))))

-- a result more that isn't printed
pub printed_more : (old new : SinkTold) (ws : List Worked) (w : Worked) (s : Stop) → Printed old new ws (Some s) → Printed old new (ws ++ w ∷ []) (Some s)
printed_more old new ws w s p = record {
  front = p.front;
  rest = p.rest ++ w ∷ [];
  whole = ap (λ xs. xs ++ w ∷ []) p.whole ∙ append_assoc p.front p.rest (w ∷ []);
  done = p.done;
  stops = longer s p.rest p.stops;
}
  where
    longer : (z : Stop) (rest : List Worked) → StopsAt old new p.front rest (Some z) → StopsAt old new p.front (rest ++ w ∷ []) (Some z)
    longer stop.Memory rest h = h
    longer (stop.Fault c) [] h = absurd h
    longer (stop.Fault c) (x ∷ rest) h = h
    longer stop.Unwritten [] h = absurd h
    longer stop.Unwritten (x ∷ rest) h = h

-- a result is printed behind those before it
pub printed_next : (old mid new : SinkTold) (ws : List Worked) (w : Worked) (r : Result (Unit {0}) Stop) → Printed old mid ws None → PrintsResult mid new w r → Printed old new (ws ++ w ∷ []) (stop_of r)
printed_next old mid new ws w r p h = by r h
  where
    all : ws ≡ p.front
    all = p.whole ∙ (ap (λ xs. p.front ++ xs) p.stops.0 ∙ append-nil p.front)

    behind : ws ++ w ∷ [] ≡ p.front ++ w ∷ []
    behind = ap (λ xs. xs ++ w ∷ []) all

    by : (z : Result (Unit {0}) Stop) → PrintsResult mid new w z → Printed old new (ws ++ w ∷ []) (stop_of z)
    by (Ok _) k = record {
      front = p.front ++ w ∷ [];
      rest = [];
      whole = behind ∙ sym (append-nil (p.front ++ w ∷ []));
      done = each_snoc (λ x. x.how ≡ how.Done) p.front w p.done k.0;
      stops = (refl, both_written old mid new (frames_in p.front) (frames_by w.out) p.stops.1 k.1 ∙ ap (λ F. with_bytes old (frames_text F)) (sym (in_more p.front w)));
    }
    by (Err (stop.Fault c)) k = record { front = p.front; rest = w ∷ []; whole = behind; done = p.done; stops = (k.0, both_written old mid new (frames_in p.front) (frames_by w.out) p.stops.1 k.1) }
    by (Err stop.Unwritten) k = record { front = p.front; rest = w ∷ []; whole = behind; done = p.done; stops = (k.0, subst (λ s. BreaksFrame s new w.out) p.stops.1 k.1) }
    by (Err stop.Memory) k = record { front = p.front; rest = w ∷ []; whole = behind; done = p.done; stops = k ∙ p.stops.1 }
