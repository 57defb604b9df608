-- A text is frames and a rest behind them in one way.
use Rattle.std.proofs.Common.{◌≡◌, ◌≢◌, ◌⊎◌, ℕ, ◌+◌, ◌<◌, ◌≤◌, ◌^◌, List, [], ◌∷◌, ◌++◌, All, flat_map, length, get_or, take, drop, Option, inl, inr, ⊎_elim, decimal, refl, sym, ap, ◌∙◌, subst, arith, append_assoc, length-append}
use Rattle.std.specs.Prelude.{IfSome}
use Rattle.std.specs.List.{AllByRecursion}
use Rattle.std.proofs.lemmas.Bool.{cases_lt}
use Rattle.std.proofs.lemmas.List.{append-nil, take-append-drop, take-append-le, take_all}
use Rattle.std.proofs.lemmas.List.Elements.{All-append, All-cons, All-take}
use Rattle.std.proofs.lemmas.Fmt.{decimal_injective, digits_decimal, decimal_nonempty, length-decimal-le}
use Rattle.std.proofs.lemmas.Str.Parse.{digit_at}
use Rattle.std.proofs.Math.Seq.{take-append_seam, drop-append_seam}
use Rattle.chunk_core.specs.Texts.{Frame, frame_text, frames_text}
use Rattle.device_port.specs.Sink.{SinkTold, with_bytes}
use Rattle.device_port.specs.Source.{SourceTold}
use Rattle.source_input.specs.Input.{IsRead}
use Rattle.res_ledger.specs.declared.event.Event.{Event}
use Rattle.res_ledger.specs.Limits.{IsLedger}
use Rattle.res_ledger.specs.Texts.{ledger_text}
use Rattle.res_ledger.proofs.Words.{cut_once, lacks_none, own}
use Rattle.ledger_text.specs.declared.reading.LedgerRefused.{LedgerRefused}
use Rattle.ledger_text.specs.declared.reading.LedgerRefused.TheVariants.{Memory, BadLine, BadCount}
use Rattle.ledger_text.proofs.Readings.{text_is_not_refused}
use Rattle.cut_frames.proofs.Fronts.{lacks_end}
use Rattle.cut_frames.specs.Heads.{HasNoHead, head_text}
use Rattle.cut_frames.specs.Frames.{IsDigit, IsSmallFrame, IsWrong, chosen}
use Rattle.cut_frames.specs.declared.step.Place.{Place}
use Rattle.cut_frames.specs.declared.step.Place.TheVariants.{Between, Within}
use Rattle.cut_text.specs.declared.tail.TailEnd.{TailEnd}
use Rattle.cut_text.specs.declared.tail.TailEnd.TheVariants as kind
use Rattle.cut_text.specs.Cuttings.{IsCutFrame, Passes, most_read}
use Rattle.cut_text.specs.Tails.{HasNoEnd, IsEndLike, IsJudged, IsJudgedLedger}
use Rattle.cut_text.specs.Whole.{GivesBack, IsNotRefused, IsWhole, TailIsWhole}

-- what stands behind a frame's numbers
behind : (k : ℕ) (p rest : List ℕ) → frame_text k p ++ rest ≡ decimal k ++ 32 ∷ (decimal (length p) ++ 10 ∷ (p ++ 10 ∷ rest))
behind k p rest =
    append_assoc (decimal k) (32 ∷ (decimal (length p) ++ 10 ∷ (p ++ 10 ∷ []))) rest
    ∙ ap (λ l. decimal k ++ 32 ∷ l) (append_assoc (decimal (length p)) (10 ∷ (p ++ 10 ∷ [])) rest ∙ ap (λ l. decimal (length p) ++ 10 ∷ l) (append_assoc p (10 ∷ []) rest))

first_of : (xs ys : List ℕ) → 0 < length xs → get_or (xs ++ ys) 0 0 ≡ get_or xs 0 0
first_of [] ys h = absurd (omega (arith, h))
first_of (x ∷ xs) ys h = refl

begins_with_digit : (f : Frame) → IsSmallFrame f → (rest : List ℕ) → IsDigit (get_or (frame_text f.stream f.payload ++ rest) 0 0)
begins_with_digit f small rest =
    let some = decimal_nonempty f.stream small.0 in
    let d = digit_at (decimal f.stream) 0 (digits_decimal own f.stream small.0) some in
    subst (λ c. IsDigit c) (sym (ap (λ l. get_or l 0 0) (behind f.stream f.payload rest) ∙ first_of (decimal f.stream) _ some)) (d.0, d.1)

frame_is : (f g : Frame) → f.stream ≡ g.stream → f.payload ≡ g.payload → f ≡ g
frame_is f g a b = ap (λ k. let h : Frame = record { stream = k; payload = f.payload } in h) a ∙ ap (λ p. let h : Frame = record { stream = g.stream; payload = p } in h) b

same_length : (p q u v : List ℕ) → length p ≡ length q → p ++ 10 ∷ u ≡ q ++ 10 ∷ v → (p ≡ q) × (u ≡ v)
same_length p q u v is e = (
  sym (take-append_seam p (10 ∷ u)) ∙ ap (λ l. take (length p) l) e ∙ ap (λ n. take n (q ++ 10 ∷ v)) is ∙ take-append_seam q (10 ∷ v),
  ap (λ l. drop 1 l) (sym (drop-append_seam p (10 ∷ u)) ∙ ap (λ l. drop (length p) l) e ∙ ap (λ n. drop n (q ++ 10 ∷ v)) is ∙ drop-append_seam q (10 ∷ v)),
)

-- the first frame, and what stands behind it
frame_once : (f g : Frame) → IsSmallFrame f → IsSmallFrame g → (u v : List ℕ) → frame_text f.stream f.payload ++ u ≡ frame_text g.stream g.payload ++ v → (f ≡ g) × (u ≡ v)
frame_once f g sf sg u v e =
    let a = cut_once 32 (decimal f.stream) (decimal g.stream) _ _ (lacks_end 32 (omega arith) f.stream sf.0) (lacks_end 32 (omega arith) g.stream sg.0) (sym (behind f.stream f.payload u) ∙ e ∙ behind g.stream g.payload v) in
    let b = cut_once 10 (decimal (length f.payload)) (decimal (length g.payload)) _ _ (lacks_end 10 (omega arith) (length f.payload) sf.1) (lacks_end 10 (omega arith) (length g.payload) sg.1) a.1 in
    let c = same_length f.payload g.payload u v (decimal_injective (length f.payload) (length g.payload) sf.1 sg.1 b.0) b.1 in
    (frame_is f g (decimal_injective f.stream g.stream sf.0 sg.0 a.0) c.0, c.1)

pub frames_once : (F G : List Frame) (u v : List ℕ) → AllByRecursion IsSmallFrame F → AllByRecursion IsSmallFrame G → ¬ (IsDigit (get_or u 0 0)) → ¬ (IsDigit (get_or v 0 0)) → frames_text F ++ u ≡ frames_text G ++ v → (F ≡ G) × (u ≡ v)
frames_once [] [] u v sf sg nu nv e = (refl, e)
frames_once [] (g ∷ G) u v sf sg nu nv e =
    absurd (nu (subst (λ l. IsDigit (get_or l 0 0)) (sym (e ∙ append_assoc (frame_text g.stream g.payload) (frames_text G) v)) (begins_with_digit g sg.0 (frames_text G ++ v))))
frames_once (f ∷ F) [] u v sf sg nu nv e =
    absurd (nv (subst (λ l. IsDigit (get_or l 0 0)) (sym (append_assoc (frame_text f.stream f.payload) (frames_text F) u) ∙ e) (begins_with_digit f sf.0 (frames_text F ++ u))))
frames_once (f ∷ F) (g ∷ G) u v sf sg nu nv e =
    let a = frame_once f g sf.0 sg.0 (frames_text F ++ u) (frames_text G ++ v) (sym (append_assoc (frame_text f.stream f.payload) (frames_text F) u) ∙ e ∙ append_assoc (frame_text g.stream g.payload) (frames_text G) v) in
    let b = frames_once F G u v sf.1 sg.1 nu nv a.1 in
    (ap (λ h. h ∷ F) a.0 ∙ ap (λ H. g ∷ H) b.0, b.1)

-- what stands behind frames that a text of frames begins with is frames, and the same rest
frames_front : (F G : List Frame) (u v : List ℕ) → AllByRecursion IsSmallFrame F → AllByRecursion IsSmallFrame G → ¬ (IsDigit (get_or v 0 0)) → frames_text G ++ u ≡ frames_text F ++ v → (H : List Frame) × AllByRecursion IsSmallFrame H × (u ≡ frames_text H ++ v)
frames_front F [] u v sf sg nv e = (F, sf, e)
frames_front [] (g ∷ G) u v sf sg nv e =
    absurd (nv (subst (λ l. IsDigit (get_or l 0 0)) (sym (append_assoc (frame_text g.stream g.payload) (frames_text G) u) ∙ e) (begins_with_digit g sg.0 (frames_text G ++ u))))
frames_front (f ∷ F) (g ∷ G) u v sf sg nv e =
    let a = frame_once g f sg.0 sf.0 (frames_text G ++ u) (frames_text F ++ v) (sym (append_assoc (frame_text g.stream g.payload) (frames_text G) u) ∙ e ∙ append_assoc (frame_text f.stream f.payload) (frames_text F) v) in
    frames_front F G u v sf.1 sg.1 nv a.1

-- frames begin with an LF behind their first numbers
ends_first_line : (H : List Frame) (rest tail : List ℕ) → ¬ (IsDigit (get_or tail 0 0)) → IsDigit (get_or rest 0 0) → All (λ c. c ≢ 10) rest → rest ≡ frames_text H ++ tail → ⊥
ends_first_line [] rest tail nt d clear e = nt (subst (λ l. IsDigit (get_or l 0 0)) e d)
ends_first_line (h ∷ H) rest tail nt d clear e =
    lacks_none 10 rest (decimal h.stream ++ 32 ∷ decimal (length h.payload)) (h.payload ++ 10 ∷ (frames_text H ++ tail)) clear
    (e ∙ append_assoc (frame_text h.stream h.payload) (frames_text H) tail ∙ behind h.stream h.payload (frames_text H ++ tail)
    ∙ sym (append_assoc (decimal h.stream) (32 ∷ decimal (length h.payload)) (10 ∷ (h.payload ++ 10 ∷ (frames_text H ++ tail)))))

head_is : (k n : ℕ) (rest : List ℕ) → head_text k n ++ rest ≡ decimal k ++ 32 ∷ (decimal n ++ 10 ∷ rest)
head_is k n rest =
    append_assoc (decimal k ++ 32 ∷ []) (decimal n ++ 10 ∷ []) rest ∙ ap (λ l. (decimal k ++ 32 ∷ []) ++ l) (append_assoc (decimal n) (10 ∷ []) rest) ∙ append_assoc (decimal k) (32 ∷ []) (decimal n ++ 10 ∷ rest)

-- behind a head stand as many bytes as it says, and an LF
after_head : (H : List Frame) (k n : ℕ) (text tail : List ℕ) → AllByRecursion IsSmallFrame H → k < 2 ^ 64 → n < 2 ^ 64 → ¬ (IsDigit (get_or tail 0 0)) → head_text k n ++ text ≡ frames_text H ++ tail
    → (p more : List ℕ) × (n ≡ length p) × (text ≡ p ++ 10 ∷ more)
after_head [] k n text tail small low fits nt e =
    let some = decimal_nonempty k low in
    let d = digit_at (decimal k) 0 (digits_decimal own k low) some in
    absurd (nt (subst (λ c. IsDigit c) (sym (ap (λ l. get_or l 0 0) (sym e ∙ head_is k n text) ∙ first_of (decimal k) (32 ∷ (decimal n ++ 10 ∷ text)) some)) (d.0, d.1)))
after_head (h ∷ H) k n text tail small low fits nt e =
    let a = cut_once 32 (decimal k) (decimal h.stream) _ _ (lacks_end 32 (omega arith) k low) (lacks_end 32 (omega arith) h.stream small.0.0)
    (sym (head_is k n text) ∙ e ∙ append_assoc (frame_text h.stream h.payload) (frames_text H) tail ∙ behind h.stream h.payload (frames_text H ++ tail)) in
    let b = cut_once 10 (decimal n) (decimal (length h.payload)) text (h.payload ++ 10 ∷ (frames_text H ++ tail)) (lacks_end 10 (omega arith) n fits) (lacks_end 10 (omega arith) (length h.payload) small.0.1) a.1 in
    (h.payload, frames_text H ++ tail, decimal_injective n (length h.payload) fits small.0.1 b.0, b.1)

goes_on : (H : List Frame) (k n : ℕ) (text tail : List ℕ) → AllByRecursion IsSmallFrame H → k < 2 ^ 64 → n < 2 ^ 64 → ¬ (IsDigit (get_or tail 0 0)) → head_text k n ++ text ≡ frames_text H ++ tail → n < length text
goes_on H k n text tail small low fits nt e =
    let a = after_head H k n text tail small low fits nt e in
    omega (arith, a.2, ap (λ l. length l) a.3, length-append a.0 (10 ∷ a.1))

-- a head is short, and one line
head_length : (k n : ℕ) → k < 2 ^ 64 → n < 2 ^ 64 → length (head_text k n) ≤ 42
head_length k n low fits = omega (
  arith,
  length-append (decimal k ++ 32 ∷ []) (decimal n ++ 10 ∷ []),
  length-append (decimal k) (32 ∷ []),
  length-append (decimal n) (10 ∷ []),
  length-decimal-le 20 k (omega arith) (omega arith) low,
  length-decimal-le 20 n (omega arith) (omega arith) fits,
)

head_is_line : (k n : ℕ) → head_text k n ≡ (decimal k ++ 32 ∷ decimal n) ++ 10 ∷ []
head_is_line k n = append_assoc (decimal k) (32 ∷ []) (decimal n ++ 10 ∷ []) ∙ sym (append_assoc (decimal k) (32 ∷ decimal n) (10 ∷ []))

line_clear : (k n : ℕ) → k < 2 ^ 64 → n < 2 ^ 64 → All (λ c. c ≢ 10) (decimal k ++ 32 ∷ decimal n)
line_clear k n low fits =
    All-append (λ c. c ≢ 10) (decimal k) (32 ∷ decimal n) (lacks_end 10 (omega arith) k low) (All-cons (λ c. c ≢ 10) 32 (decimal n) (λ e. omega (arith, e)) (lacks_end 10 (omega arith) n fits))

-- the part of a text that is as long as a head, or has an LF, has the head whole
head_inside : (k n : ℕ) (rest after more : List ℕ) → k < 2 ^ 64 → n < 2 ^ 64 → rest ++ after ≡ head_text k n ++ more → (42 ≤ length rest) ⊎ ¬ (All (λ c. c ≢ 10) rest) → length (head_text k n) ≤ length rest
head_inside k n rest after more low fits e (inl long) = omega (arith, long, head_length k n low fits)
head_inside k n rest after more low fits e (inr lf) =
    ⊎_elim (λ short. absurd (lf (clear short))) (λ (h : length (head_text k n) ≤ length rest). h) (cases_lt (length rest) (length (head_text k n)))
  where
    core : List ℕ
    core = decimal k ++ 32 ∷ decimal n

    is : length rest ≤ length core → rest ≡ take (length rest) core
    is le =
        sym (take-append_seam rest after) ∙ ap (λ l. take (length rest) l) (e ∙ ap (λ l. l ++ more) (head_is_line k n) ∙ append_assoc core (10 ∷ []) more)
        ∙ take-append-le (length rest) core (10 ∷ more) le

    clear : length rest < length (head_text k n) → All (λ c. c ≢ 10) rest
    clear short =
        let le : length rest ≤ length core = omega (arith, short, ap (λ l. length l) (head_is_line k n), length-append core (10 ∷ [])) in
        subst (λ l. All (λ c. c ≢ 10) l) (sym (is le)) (All-take (λ c. c ≢ 10) (length rest) core (line_clear k n low fits))

has_some : (rest : List ℕ) → IsDigit (get_or rest 0 0) → 0 < length rest
has_some [] d = absurd (omega (arith, d.0))
has_some (x ∷ rest) d = omega arith

-- a part of frames that begins with a digit, and is long enough, begins with a head
begins_with_head : (H : List Frame) (rest after tail : List ℕ) → AllByRecursion IsSmallFrame H → ¬ (IsDigit (get_or tail 0 0)) → IsDigit (get_or rest 0 0) → HasNoHead rest → (42 ≤ length rest) ⊎ ¬ (All (λ c. c ≢ 10) rest)
    → rest ++ after ≡ frames_text H ++ tail → ⊥
begins_with_head [] rest after tail small nt d never long e = nt (subst (λ c. IsDigit c) (sym (ap (λ l. get_or l 0 0) (sym e) ∙ first_of rest after (has_some rest d))) d)
begins_with_head (h ∷ H) rest after tail small nt d never long e =
    let k = h.stream in
    let n = length h.payload in
    let more : List ℕ = h.payload ++ 10 ∷ (frames_text H ++ tail) in
    let is : rest ++ after ≡ head_text k n ++ more = e ∙ append_assoc (frame_text h.stream h.payload) (frames_text H) tail ∙ behind h.stream h.payload (frames_text H ++ tail) ∙ sym (head_is k n more) in
    let le = head_inside k n rest after more small.0.0 small.0.1 is long in
    let front : take (length (head_text k n)) rest ≡ head_text k n = sym (take-append-le (length (head_text k n)) rest after le) ∙ ap (λ l. take (length (head_text k n)) l) is ∙ take-append_seam (head_text k n) more in
    never k n (drop (length (head_text k n)) rest) small.0.0 small.0.1 (sym (take-append-drop (length (head_text k n)) rest) ∙ ap (λ l. l ++ drop (length (head_text k n)) rest) front)

-- behind a whole payload stands an LF
lf_behind : (H : List Frame) (k n : ℕ) (taken rest after tail : List ℕ) → AllByRecursion IsSmallFrame H → k < 2 ^ 64 → n < 2 ^ 64 → ¬ (IsDigit (get_or tail 0 0)) → n ≡ length taken → 0 < length rest → get_or rest 0 0 ≢ 10
    → head_text k n ++ (taken ++ (rest ++ after)) ≡ frames_text H ++ tail → ⊥
lf_behind H k n taken rest after tail small low fits nt is some other e =
    let a = after_head H k n (taken ++ (rest ++ after)) tail small low fits nt e in
    let size : length taken ≡ length a.0 = omega (arith, is, a.2) in
    let b : rest ++ after ≡ 10 ∷ a.1 = sym (drop-append_seam taken (rest ++ after)) ∙ ap (λ l. drop (length taken) l) a.3 ∙ ap (λ m. drop m (a.0 ++ 10 ∷ a.1)) size ∙ drop-append_seam a.0 (10 ∷ a.1) in
    other (sym (first_of rest after some) ∙ ap (λ l. get_or l 0 0) b)

-- all that the source had
whole_text : (s t : SourceTold) (F : List Frame) (tail text : List ℕ) → IsWhole s F tail → IsRead most_read s t text → text ≡ frames_text F ++ tail
whole_text s t F tail text w read = subst (λ l. IfSome l (λ left. text ≡ take most_read left)) w.left read.given ∙ take_all most_read (frames_text F ++ tail) w.few

no_cut_at : (wanted : Option ℕ) (F : List Frame) (o p : SinkTold) (tail text rest : List ℕ) (place : Place) → AllByRecursion IsSmallFrame F → ¬ (IsDigit (get_or tail 0 0)) → text ≡ frames_text F ++ tail → Passes wanted o p text place rest → IsCutFrame place rest → ⊥
no_cut_at wanted F o p tail text rest Between small nt is m (d, inl other) = other d
no_cut_at wanted F o p tail text rest Between small nt is m (d, inr (few, clear)) =
    let f = frames_front F m.stands.frames rest tail small m.stands.small nt (ap (λ l. l ++ rest) (sym m.stands.text) ∙ sym m.is ∙ is) in
    ends_first_line f.0 rest tail nt d clear f.2
no_cut_at wanted F o p tail text rest (Within left gives) small nt is m none =
    let s = m.stands in
    let here : text ≡ frames_text s.frames ++ (head_text s.stream (length s.taken + left) ++ s.taken) = m.is ∙ ap (λ l. m.front ++ l) none ∙ append-nil m.front ∙ s.text in
    let f = frames_front F s.frames (head_text s.stream (length s.taken + left) ++ s.taken) tail small s.small nt (sym here ∙ is) in
    let more : length s.taken + left < length s.taken = goes_on f.0 s.stream (length s.taken + left) s.taken tail f.1 s.fits.0 s.fits.1 nt f.2 in
    omega (arith, more)

no_bad_byte : (wanted : Option ℕ) (F : List Frame) (o p : SinkTold) (tail text rest after : List ℕ) (place : Place) → AllByRecursion IsSmallFrame F → ¬ (IsDigit (get_or tail 0 0)) → text ++ after ≡ frames_text F ++ tail → Passes wanted o p text place rest
    → IsWrong place rest → ⊥
no_bad_byte wanted F o p tail text rest after Between small nt is m (d, never, long) =
    let here : m.front ++ (rest ++ after) ≡ frames_text F ++ tail = sym (append_assoc m.front rest after) ∙ ap (λ l. l ++ after) (sym m.is) ∙ is in
    let f = frames_front F m.stands.frames (rest ++ after) tail small m.stands.small nt (ap (λ l. l ++ (rest ++ after)) (sym m.stands.text) ∙ here) in
    begins_with_head f.0 rest after tail f.1 nt d never long f.2
no_bad_byte wanted F o p tail text rest after (Within left gives) small nt is m (zero_left, some, other) =
    let s = m.stands in
    let n = length s.taken + left in
    let here : m.front ++ (rest ++ after) ≡ frames_text F ++ tail = sym (append_assoc m.front rest after) ∙ ap (λ l. l ++ after) (sym m.is) ∙ is in
    let apart : frames_text s.frames ++ (head_text s.stream n ++ (s.taken ++ (rest ++ after))) ≡ frames_text F ++ tail =
    ap (λ l. frames_text s.frames ++ l) (sym (append_assoc (head_text s.stream n) s.taken (rest ++ after))) ∙ sym (append_assoc (frames_text s.frames) (head_text s.stream n ++ s.taken) (rest ++ after))
    ∙ ap (λ l. l ++ (rest ++ after)) (sym s.text) ∙ here in
    let f = frames_front F s.frames (head_text s.stream n ++ (s.taken ++ (rest ++ after))) tail small s.small nt apart in
    lf_behind f.0 s.stream n s.taken rest after tail f.1 s.fits.0 s.fits.1 nt (omega (arith, zero_left)) some other f.2

-- what the source gave so far, and what it still had
front_given : (s : SourceTold) (F : List Frame) (tail text : List ℕ) → IsWhole s F tail → IfSome s.left (λ left. text ≡ take (length text) left) → text ++ drop (length text) (frames_text F ++ tail) ≡ frames_text F ++ tail
front_given s F tail text w given =
    let is : text ≡ take (length text) (frames_text F ++ tail) = subst (λ l. IfSome l (λ left. text ≡ take (length text) left)) w.left given in
    ap (λ l. l ++ drop (length text) (frames_text F ++ tail)) is ∙ take-append-drop (length text) (frames_text F ++ tail)

pub is_not_refused : IsNotRefused
is_not_refused wanted s t o p q r F tail w = (
  λ c. no_cut_at wanted F o p tail c.0 c.1 c.2 w.small w.behind (whole_text s t F tail c.0 w c.3) c.4 c.5,
  λ at c. let g = c.2 in no_bad_byte wanted F o p tail c.0 g.1 (drop (length c.0) (frames_text F ++ tail)) g.0 w.small w.behind (front_given s F tail c.0 w c.1.given) g.2 g.3,
)

-- lines of ends are cut off in one way
lines_once : (A B : List (List ℕ)) (u v : List ℕ) → AllByRecursion IsEndLike A → AllByRecursion IsEndLike B → HasNoEnd u → HasNoEnd v → flat_map (λ l. l) A ++ u ≡ flat_map (λ l. l) B ++ v → u ≡ v
lines_once [] [] u v a b nu nv e = e
lines_once [] (m ∷ B) u v a b nu nv e = absurd (nu m (flat_map (λ l. l) B ++ v) b.0 (e ∙ append_assoc m (flat_map (λ l. l) B) v))
lines_once (l ∷ A) [] u v a b nu nv e = absurd (nv l (flat_map (λ l. l) A ++ u) a.0 (sym e ∙ append_assoc l (flat_map (λ l. l) A) u))
lines_once (l ∷ A) (m ∷ B) u v a b nu nv e = lines_once A B u v a.1 b.1 nu nv (cut_once 10 a.0.0 b.0.0 _ _ a.0.1 b.0.1 (sym (line l A u a.0) ∙ e ∙ line m B v b.0)).1
  where
    line : (x : List ℕ) (C : List (List ℕ)) (y : List ℕ) → (h : IsEndLike x) → (x ++ flat_map (λ l. l) C) ++ y ≡ h.0 ++ 10 ∷ (flat_map (λ l. l) C ++ y)
    line x C y h = append_assoc x (flat_map (λ l. l) C) y ∙ ap (λ z. z ++ (flat_map (λ l. l) C ++ y)) h.2 ∙ append_assoc h.0 (10 ∷ []) (flat_map (λ l. l) C ++ y)

ledger_has_no_end : (L : List Event) → HasNoEnd (ledger_text L)
ledger_has_no_end L line rest h e =
    let q : 108 ≡ 101 = ap (λ l. get_or l 0 0) (e ∙ ap (λ l. l ++ rest) (h.2 ∙ ap (λ l. l ++ 10 ∷ []) h.3.1)) in
    omega (arith, q)

not_memory_line : (i : ℕ) → ◌≡◌ {A = LedgerRefused} (BadLine i) Memory → ⊥
not_memory_line i e = cc

not_memory_count : (m n : ℕ) → ◌≡◌ {A = LedgerRefused} (BadCount m n) Memory → ⊥
not_memory_count m n e = cc

judged_whole : (L : List Event) (e : TailEnd) → IsLedger L → IsJudgedLedger (ledger_text L) e → (e ≡ kind.Whole) ⊎ (e ≡ kind.Memory)
judged_whole L kind.Whole small h = inl refl
judged_whole L kind.Memory small h = inr refl
judged_whole L kind.Cut small (inl bad) = absurd (not_memory_line _ (text_is_not_refused L small (BadLine _) bad))
judged_whole L kind.Cut small (inr (said, found, spelled, less)) = absurd (not_memory_count said found (text_is_not_refused L small (BadCount said found) (spelled, λ is. omega (arith, is, less))))
judged_whole L (kind.BadLine i) small h = absurd (not_memory_line i (text_is_not_refused L small (BadLine i) h.0))
judged_whole L (kind.BadCount said found) small h = absurd (not_memory_count said found (text_is_not_refused L small (BadCount said found) (h.0, λ is. omega (arith, is, h.1))))

pub tail_is_whole : TailIsWhole
tail_is_whole text lines L e is j =
    let one = lines_once j.0 lines j.1 (ledger_text L) j.2 is.ends j.4 (ledger_has_no_end L) (sym j.3 ∙ is.is) in
    judged_whole L e is.ledger (subst (λ l. IsJudgedLedger l e) one j.5)

pub gives_back : GivesBack
gives_back wanted s t o p q r F tail e w c =
    let text = whole_text s t F tail c.0 w c.2 in
    let m = c.3 in
    let is = frames_once F m.stands.frames tail c.1 w.small m.stands.small w.behind c.4 (sym text ∙ m.is ∙ ap (λ l. l ++ c.1) m.stands.text) in (
      m.out ∙ ap (λ l. with_bytes o l) (m.stands.out ∙ ap (chosen wanted) (sym is.0)),
      c.6 ∙ ap (λ l. with_bytes q l) (sym is.1),
      subst (λ l. IsJudged l e) (sym is.1) c.5,
    )
