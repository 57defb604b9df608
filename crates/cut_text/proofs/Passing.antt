-- What is passed on, piece after piece.
use Rattle.std.proofs.Common.{◌≡◌, ◌≢◌, ℕ, ◌+◌, ◌-◌, ◌*◌, ◌<◌, ◌≤◌, List, [], ◌++◌, length, take, drop, Option, None, Some, Result, Ok, Err, inl, refl, sym, ap, ◌∙◌, subst, arith, append_assoc, length-append, length-drop}
use Rattle.std.specs.Prelude.{IfSome, IsErrAnd}
use Rattle.std.proofs.lemmas.List.{append-nil, length-take-le, take-append-drop}
use Rattle.std.proofs.Math.Seq.{take-append-add}
use Rattle.device_port.proofs.Puts.{with_bytes_none, with_bytes_twice}
use Rattle.device_port.specs.Sink.{SinkTold, with_bytes, BreaksOff}
use Rattle.device_port.specs.Source.{SourceTold, without_front}
use Rattle.source_input.proofs.Inputs.{IsFront, one_piece_more}
use Rattle.cut_frames.specs.declared.cutter.Cutter.{Cutter}
use Rattle.cut_frames.specs.declared.cutter.Fed.{Fed}
use Rattle.cut_frames.specs.declared.step.Place.TheVariants.{Between}
use Rattle.cut_frames.specs.Frames.{IsHeld, IsWrong, IsBetween, Stands, chosen}
use Rattle.cut_frames.specs.Taken.{IsFed, StopsAt}
use Rattle.cut_text.specs.declared.run.CutEnd.{CutEnd}
use Rattle.cut_text.specs.declared.run.CutEnd.TheVariants as end
use Rattle.cut_text.specs.Cuttings.{FailsToPass, Gave, IsCutting, Passes, PassesAll, PassesPiece, Tells, most_pieces, most_read}

-- what is read and passed on so far
pub record UnderWay (wanted : Option ℕ) (s t : SourceTold) (o p : SinkTold) (c : Cutter) (passed pieces : ℕ) : Type 0 where
  pub text : List ℕ
  pub same : c.wanted ≡ wanted
  pub read : IsFront most_read s t text
  pub passes : Passes wanted o p text c.place c.held.items
  pub count : passed + length c.held.items ≡ length text
  pub many : pieces ≤ length text
  pub few : length text ≤ 4096 * pieces
  pub held : IsHeld c.place c.held.items

-- the parts of a text to which a piece is put, of which so much is taken
cut_again : (text front held piece : List ℕ) (n : ℕ) → text ≡ front ++ held → text ++ piece ≡ (front ++ take n (held ++ piece)) ++ drop n (held ++ piece)
cut_again text front held piece n is =
    ap (λ l. l ++ piece) is ∙ append_assoc front held piece ∙ ap (λ l. front ++ l) (sym (take-append-drop n (held ++ piece))) ∙ sym (append_assoc front (take n (held ++ piece)) (drop n (held ++ piece)))

-- a piece was fed, and what it gives was passed on
pub passed_on : (wanted : Option ℕ) (o p q : SinkTold) (text piece : List ℕ) (old new : Cutter) (fed : Fed) → old.wanted ≡ wanted → Passes wanted o p text old.place old.held.items → IsFed old new piece fed → q ≡ with_bytes p fed.given.items
    → Passes wanted o q (text ++ piece) new.place new.held.items
passed_on wanted o p q text piece old new fed same s f out = record {
  front = s.front ++ take fed.taken (old.held.items ++ piece);
  given = s.given ++ fed.given.items;
  is = cut_again text s.front old.held.items piece fed.taken s.is ∙ ap (λ l. (s.front ++ take fed.taken (old.held.items ++ piece)) ++ l) (sym f.held);
  stands = subst (λ w. Stands w new.place (s.front ++ take fed.taken (old.held.items ++ piece)) (s.given ++ fed.given.items)) same (f.taken.onward s.front s.given (subst (λ w. Stands w old.place s.front s.given) (sym same) s.stands));
  out = out ∙ ap (λ t. with_bytes t fed.given.items) s.out ∙ with_bytes_twice o s.given fed.given.items;
}

-- the same where the write failed
pub failed_on : (wanted : Option ℕ) (o p q : SinkTold) (text piece : List ℕ) (old new : Cutter) (fed : Fed) → old.wanted ≡ wanted → Passes wanted o p text old.place old.held.items → IsFed old new piece fed → BreaksOff p q fed.given.items
    → FailsToPass wanted o q (text ++ piece)
failed_on wanted o p q text piece old new fed same s f b = record {
  front = s.front ++ take fed.taken (old.held.items ++ piece);
  given = s.given ++ fed.given.items;
  rest = drop fed.taken (old.held.items ++ piece);
  place = new.place;
  is = cut_again text s.front old.held.items piece fed.taken s.is;
  stands = subst (λ w. Stands w new.place (s.front ++ take fed.taken (old.held.items ++ piece)) (s.given ++ fed.given.items)) same (f.taken.onward s.front s.given (subst (λ w. Stands w old.place s.front s.given) (sym same) s.stands));
  out = record {
    count = length s.given + b.count;
    front = omega (arith, b.front, length-append s.given fed.given.items);
    told = b.told ∙ ap (λ (t : SinkTold). let u : SinkTold = record (with_bytes t (take b.count fed.given.items)) { faults = t.faults + 1 } in u) s.out
        ∙ ap (λ (t : SinkTold). let u : SinkTold = record t { faults = o.faults + 1 } in u) (with_bytes_twice o s.given (take b.count fed.given.items) ∙ ap (λ l. with_bytes o l) (sym (take-append-add s.given fed.given.items b.count)));
  };
}

pub held_count : (held piece : List ℕ) (taken passed count : ℕ) → taken ≤ length (held ++ piece) → passed + length held ≡ count → (passed + taken) + length (drop taken (held ++ piece)) ≡ count + length piece
held_count held piece taken passed count few is = omega (arith, few, is, length-append held piece, length-drop taken (held ++ piece))

-- at the begin
pub begun : (wanted : Option ℕ) (o : SinkTold) (c : Cutter) → c.wanted ≡ wanted → c.place ≡ Between → c.held.items ≡ [] → Passes wanted o o [] c.place c.held.items
begun wanted o c same place held = record {
  front = [];
  given = [];
  is = sym held;
  stands = subst (λ p. Stands wanted p [] []) (sym place) (none wanted);
  out = sym (with_bytes_none o);
}
  where
    nothing : (wanted : Option ℕ) → [] ≡ chosen wanted []
    nothing None = refl
    nothing (Some k) = refl

    none : (wanted : Option ℕ) → IsBetween wanted [] []
    none wanted = record { frames = []; small = tt; text = refl; out = nothing wanted }

pub held_begun : (c : Cutter) → c.place ≡ Between → c.held.items ≡ [] → IsHeld c.place c.held.items
held_begun c place held = subst (λ p. IsHeld p c.held.items) (sym place) (subst (λ l. IsHeld Between l) (sym held) (inl (λ d. omega (arith, d.0))))

pub gave : (s t : SourceTold) (text : List ℕ) → IsFront most_read s t text → Gave s t text
gave s t text f = record { told = f.told; given = f.given }

-- one read more, to the front of a buffer
pub read_more : (s m t : SourceTold) (text buffer : List ℕ) (n : ℕ) → IsFront most_read s m text → n ≢ 0 → n ≤ length buffer → length text + n ≤ most_read → t ≡ without_front n m → IfSome m.left (λ left. take n buffer ≡ take n left)
    → IsFront most_read s t (text ++ take n buffer)
read_more s m t text buffer n f some fits few told given = one_piece_more most_read s m t text buffer [] (text ++ take n buffer) n f some fits few told given (ap (λ l. text ++ take n l) (sym (append-nil buffer)))

-- the numbers behind one piece more
more_pieces : (most left size n : ℕ) → 0 < left → left ≤ most → n ≢ 0 → n ≤ 4096 → most - left ≤ size → size ≤ 4096 * (most - left) → (most - (left - 1) ≤ size + n) × (size + n ≤ 4096 * (most - (left - 1)))
more_pieces most left size n some few not fits a b = (omega (arith, some, few, not, fits, a, b), omega (arith, some, few, not, fits, a, b))

within_all : (most left size n : ℕ) → 0 < left → left ≤ most → n ≤ 4096 → size ≤ 4096 * (most - left) → size + n ≤ 4096 * most
within_all most left size n some few fits b = omega (arith, some, few, fits, b)

pub short_of_all : (most left size : ℕ) → 0 < left → left ≤ most → size ≤ 4096 * (most - left) → size < 4096 * most
short_of_all most left size some few b = omega (arith, some, few, b)

module _ (wanted : Option ℕ) (s m t : SourceTold) (o p q : SinkTold) (old new : Cutter) (buffer : List ℕ) (n passed left : ℕ) (way : UnderWay wanted s m o p old passed (most_pieces - left)) (some : 0 < left) (few : left ≤ most_pieces)
    (not : n ≢ 0) (fits : n ≤ length buffer) (size : length buffer ≡ 4096) (told : t ≡ without_front n m) (given : IfSome m.left (λ left. take n buffer ≡ take n left)) where
  piece_size : length (take n buffer) ≡ n
  piece_size = length-take-le n buffer fits

  pub read_on : IsFront most_read s t (way.text ++ take n buffer)
  read_on = read_more s m t way.text buffer n way.read not fits (within_all most_pieces left (length way.text) n some few (omega (arith, fits, size)) way.few) told given

  -- a piece was passed on
  pub passed_more : (taken : ℕ) → PassesPiece old new (take n buffer) passed p q (Ok taken) → UnderWay wanted s t o q new (passed + taken) (most_pieces - (left - 1))
  passed_more taken h =
      let f = h.1 in
      let numbers = more_pieces most_pieces left (length way.text) n some few not (omega (arith, fits, size)) way.many way.few in
      let long : length way.text + n ≡ length (way.text ++ take n buffer) = omega (arith, length-append way.text (take n buffer), piece_size) in
      record {
        text = way.text ++ take n buffer;
        same = f.wanted ∙ way.same;
        read = read_on;
        passes = passed_on wanted o p q way.text (take n buffer) old new h.0 way.same way.passes f h.4;
        count = omega (arith, h.3, ap (λ l. length l) f.held, held_count old.held.items (take n buffer) h.0.taken passed (length way.text) f.taken.few way.count, long, piece_size);
        many = omega (arith, numbers.0, long);
        few = omega (arith, numbers.1, long);
        held = subst (λ l. IsHeld new.place l) (sym f.held) (subst (λ b. StopsAt b new.place (drop h.0.taken (old.held.items ++ take n buffer))) h.2 f.taken.why);
      }

  -- or not, and why
  pub not_passed : (c : Cutter) (e : CutEnd) → PassesPiece old new (take n buffer) passed p q (Err e) → PassesAll wanted s t o q c (Err e)
  not_passed c (end.Tail e) h = absurd h
  not_passed c end.CutFrame h = absurd h
  not_passed c end.NotTold h = absurd h
  not_passed c end.Unread h = absurd h
  not_passed c end.TooLong h = absurd h
  not_passed c (end.BadByte at) h = λ r.
      let f = h.1 in
      let rest : List ℕ = new.held.items in
      let wrong = subst (λ l. IsWrong new.place l) (sym f.held) (subst (λ b. StopsAt b new.place (drop h.0.taken (old.held.items ++ take n buffer))) h.2 f.taken.why) in
      let on = passed_on wanted o p q way.text (take n buffer) old new h.0 way.same way.passes f h.4 in
      let count : at + length rest ≡ length (way.text ++ take n buffer) =
      omega (arith, h.3, ap (λ l. length l) f.held, held_count old.held.items (take n buffer) h.0.taken passed (length way.text) f.taken.few way.count, length-append way.text (take n buffer)) in
      (way.text ++ take n buffer, gave s t (way.text ++ take n buffer) read_on, (new.place, rest, on, wrong, count), refl)
  not_passed c end.NotWritten h = λ r. (way.text ++ take n buffer, gave s t (way.text ++ take n buffer) read_on, failed_on wanted o p q way.text (take n buffer) old new h.0 way.same way.passes h.1 h.2, refl)
  not_passed c end.Memory h = λ r. (
    way.text ++ take n buffer,
    old.held.items ++ take n buffer,
    old.place,
    gave s t (way.text ++ take n buffer) read_on,
    record {
      front = way.passes.front;
      given = way.passes.given;
      is = ap (λ l. l ++ take n buffer) way.passes.is ∙ append_assoc way.passes.front old.held.items (take n buffer);
      stands = way.passes.stands;
      out = h ∙ way.passes.out;
    },
    refl,
  )

module _ (wanted : Option ℕ) (s t : SourceTold) (o p : SinkTold) (c : Cutter) where
  -- the error that is handed on
  pub stopped_by : (r : Result Unit CutEnd) (e : CutEnd) → IsErrAnd r (λ d. d ≡ e) → PassesAll wanted s t o p c (Err e) → PassesAll wanted s t o p c r
  stopped_by (Ok u) e is h = absurd is
  stopped_by (Err d) e is h = subst (λ x. PassesAll wanted s t o p c (Err x)) (sym is) h

  -- how the whole ends, where not all was passed on
  pub ended_early : (e : CutEnd) → PassesAll wanted s t o p c (Err e) → (q : SinkTold) → IsCutting wanted s t o p q q e
  ended_early (end.Tail e) h q = absurd h
  ended_early end.CutFrame h q = absurd h
  ended_early end.NotTold h q = absurd h
  ended_early (end.BadByte at) h q = h q
  ended_early end.Unread h q = h q
  ended_early end.NotWritten h q = h q
  ended_early end.TooLong h q = h q
  ended_early end.Memory h q = h q

  -- and where all was
  pub ended_late : (u : Unit) (e : CutEnd) → PassesAll wanted s t o p c (Ok u) → (q r : SinkTold) → Tells c.place c.held.items q r e → IsCutting wanted s t o p q r e
  ended_late u (end.Tail e) h q r k = (h.0, c.held.items, h.1, subst (λ x. Passes wanted o p h.0 x c.held.items) k.0 h.2, k.1, k.2, k.3)
  ended_late u end.CutFrame h q r k = (h.0, c.held.items, c.place, h.1, h.2, k.0, k.1)
  ended_late u end.NotTold h q r k = (h.0, c.held.items, h.1, subst (λ x. Passes wanted o p h.0 x c.held.items) k.0 h.2, k.1)
  ended_late u (end.BadByte at) h q r k = absurd k
  ended_late u end.Unread h q r k = absurd k
  ended_late u end.NotWritten h q r k = absurd k
  ended_late u end.TooLong h q r k = absurd k
  ended_late u end.Memory h q r k = absurd k
