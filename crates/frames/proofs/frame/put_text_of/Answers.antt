-- Bytes are their own text, and another load is rendered.
use Rattle.std.proofs.Common.{◌<◌, ℕ, List, length, Result, Ok, Err, sym, ap, subst, ◌∙◌}
use Rattle.chunk_core.specs.Texts.{frame_text}
use Rattle.chunk_core.specs.declared.load.Load.TheVariants as load
use Rattle.chunk_core.proofs.Rendering.{bytes_rendering}
use Rattle.device_port.specs.Sink.{SinkTold, with_bytes, BreaksOff}
use Rattle.frames.specs.declared.frame.NotPut.{NotPut}
use Rattle.frames.specs.declared.frame.NotPut.TheVariants as why
use Rattle.frames.specs.Frame.{PutsLoad, PutsText}
use Rattle.frames.proofs.Rendered.{rendering_some}
use Rattle.frames.proofs.frame.put_text_of.Goals as goal

puts_bytes : {T : Type 0} (old new : SinkTold) (k : ℕ) (bytes : List ℕ) (r : Result T NotPut) → PutsText old new (frame_text k bytes) r → PutsLoad old new k (load.Bytes bytes) r
puts_bytes old new k bytes (Ok u) h = h ∙ ap (λ xs. with_bytes old (frame_text k xs)) (bytes_rendering bytes)
puts_bytes old new k bytes (Err why.Unwritten) h = subst (λ xs. BreaksOff old new (frame_text k xs)) (bytes_rendering bytes) h
puts_bytes old new k bytes (Err why.Memory) h = absurd h

pub put_text-requires-in-Ok : goal.put_text-requires-in-Ok
put_text-requires-in-Ok g c = record {
  some = subst (λ xs. 0 < length xs) (sym (c.as_slice-in-Ok.ensures ∙ c.in-Ok.ensures)) (rendering_some _ c.requires.some);
  room = c.requires.room;
}

pub returns-in-Bytes : goal.returns-in-Bytes
returns-in-Bytes g c =
    let puts = subst (λ xs. PutsText (g.K.Sink.told c.args.out.now) (g.K.Sink.told c.put_text.new.out) (frame_text c.args.stream xs) c.put_text.result) c.as_slice.ensures c.put_text.ensures in
    subst (λ l. PutsLoad (g.K.Sink.told c.args.out.now) (g.K.Sink.told c.put_text.new.out) c.args.stream l c.put_text.result) (sym c.in-Bytes.is) (puts_bytes _ _ c.args.stream _ c.put_text.result puts)
