-- The text of what a pipe gives, load by load.
use Rattle.std.proofs.Common.{◌≡◌, ℕ, ◌<◌, false, true, length, take, drop, arith, length-append, List, [], ◌∷◌, ◌++◌, inl, map, Option, Some, None, refl, sym, ap, ◌∙◌, subst, append-nil, append_assoc}
use Rattle.std.specs.Prelude.{is_some}
use Rattle.std.proofs.lemmas.Bool.{false≢true}
use Rattle.std.proofs.lemmas.Grind.{flat_map-append}
use Rattle.std.proofs.lemmas.List.{flat_map_more, map-append, take-append-drop}
use Rattle.std.proofs.lemmas.List.Elements.{All-nil}
use Rattle.chunk_core.specs.Elements.{Byte, Element, LoadKind, element_text, elements, elements_of, kind_of, rendering_of}
use Rattle.chunk_core.specs.Feed.{Continues, Feeds, Finishes, Meaning}
use Rattle.chunk_core.specs.declared.code.Code.{Code}
use Rattle.chunk_core.specs.declared.feed.Fed.{Fed}
use Rattle.chunk_core.specs.declared.feed.Fed.TheVariants as fed
use Rattle.chunk_core.specs.declared.load.Load.{Load}
use Rattle.chunk_core.specs.declared.load.Load.TheVariants as load
use Rattle.any_pipe.specs.Pouring.{FeedsAll}
use Rattle.any_pipe.proofs.Ending.{Goes, Left, answered, failed, goes_on}
use Rattle.any_pipe.proofs.Feeding.{broken_off, fed_more}
use Rattle.any_pipe.proofs.Whole.{poured_early, poured_late}
use Rattle.frames.proofs.Rendered.{rendering_some}
use Rattle.eval_work.specs.Texts.{AppendsAnswer, FeedsText, FinishesText, PoursText}
use Rattle.eval_work.specs.declared.text.Came.TheVariants as came

-- a list that is cut in two
pub parts_of : (n : ℕ) (left piece rest : List ℕ) → piece ≡ take n left → rest ≡ drop n left → piece ++ rest ≡ left
parts_of n left piece rest front behind = ap (λ xs. xs ++ rest) front ∙ (ap (λ xs. take n left ++ xs) behind ∙ take-append-drop n left)

-- the text of loads with one more
told_more : (given : List Load) (out : Load) → rendering_of (elements_of (given ++ out ∷ [])) ≡ rendering_of (elements_of given) ++ rendering_of (elements out)
told_more given out = ap rendering_of (sym (flat_map_more elements [] given out)) ∙ flat_map-append element_text (elements_of given) (elements out)

-- some of the bytes were fed, no fault came, and this is the text of what came
pub record FedSoFar (m : Meaning) (bytes left text : List ℕ) (Stands : List Element → Type 0) : Type 0 where
  pub loads : List Load
  pub given : List Load
  pub whole : elements_of loads ++ map Byte left ≡ map Byte bytes
  pub told : text ≡ rendering_of (elements_of given)
  pub feeds : FeedsAll m [] loads given None Stands

module _ (m : Meaning) (bytes : List ℕ) where
  pub none_fed : (text : List ℕ) (Stands : List Element → Type 0) → text ≡ [] → (m.part []).fault ≡ None → Stands [] → FedSoFar m bytes bytes text Stands
  none_fed text Stands blank sound s = record {
    loads = [];
    given = [];
    whole = refl;
    told = blank;
    feeds = (record { kinds = All-nil (λ l. kind_of l ≡ m.gives); list = append-nil (m.part []).list; fault = sym sound }, s);
  }

  module _ (left piece rest text new : List ℕ) (Now New : List Element → Type 0) (h : FedSoFar m bytes left text Now) (parts : piece ++ rest ≡ left) where
    abbrev fed_piece : Load
    fed_piece = load.Bytes piece

    told_then : (out : Load) → new ≡ text ++ rendering_of (elements out) → new ≡ rendering_of (elements_of (h.given ++ out ∷ []))
    told_then out more = more ∙ (ap (λ t. t ++ rendering_of (elements out)) h.told ∙ sym (told_more h.given out))

    whole_then : elements_of (h.loads ++ fed_piece ∷ []) ++ map Byte rest ≡ map Byte bytes
    whole_then =
        ap (λ l. l ++ map Byte rest) (sym (flat_map_more elements [] h.loads fed_piece))
        ∙ (append_assoc (elements_of h.loads) (map Byte piece) (map Byte rest)
        ∙ (ap (λ l. elements_of h.loads ++ l) (sym (map-append Byte piece rest) ∙ ap (λ l. map Byte l) parts) ∙ h.whole))

    -- a piece more was fed
    pub piece_fed : (answer : Fed) → AppendsAnswer text new answer came.More → Feeds m (elements_of h.loads) (map Byte piece) answer New → FedSoFar m bytes rest new New
    piece_fed (fed.Out out) more f = record {
      loads = h.loads ++ fed_piece ∷ [];
      given = h.given ++ out ∷ [];
      whole = whole_then;
      told = told_then out more;
      feeds = fed_more m [] h.loads h.given fed_piece out Now New h.feeds f;
    }
    piece_fed fed.End more f = absurd more
    piece_fed (fed.Fault out c) more f = absurd more

    -- a pipe that is fed answers no end
    pub piece_ended : (answer : Fed) → AppendsAnswer text new answer came.End → Feeds m (elements_of h.loads) (map Byte piece) answer New → ⊥
    piece_ended (fed.Out out) more f = more
    piece_ended fed.End more f = f
    piece_ended (fed.Fault out c) more f = more

    -- a fault came behind it
    pub piece_broke : (answer : Fed) (d : Code) → AppendsAnswer text new answer (came.Fault d) → Feeds m (elements_of h.loads) (map Byte piece) answer New → FeedsText m bytes new (Some d) New
    piece_broke (fed.Out out) d more f = absurd more
    piece_broke fed.End d more f = absurd more
    piece_broke (fed.Fault out c) d more f =
        let loads : List Load = (h.loads ++ fed_piece ∷ []) ++ load.Bytes rest ∷ [] in
        subst (λ z. FeedsText m bytes new (Some z) New) (sym more.1) (record {
          loads = loads;
          given = h.given ++ out ∷ [];
          whole = flat_map-append elements (h.loads ++ fed_piece ∷ []) (load.Bytes rest ∷ []) ∙ (ap (λ l. elements_of (h.loads ++ fed_piece ∷ []) ++ l) (append-nil (map Byte rest)) ∙ whole_then);
          told = told_then out more.0;
          feeds = broken_off m [] loads h.loads h.given (h.given ++ out ∷ []) fed_piece out c Now New h.feeds f (load.Bytes rest ∷ []) refl refl;
        })

  -- all bytes were fed
  pub all_fed : (left text : List ℕ) (Stands : List Element → Type 0) → FedSoFar m bytes left text Stands → left ≡ [] → FeedsText m bytes text None Stands
  all_fed left text Stands h none = record {
    loads = h.loads;
    given = h.given;
    whole = sym (append-nil (elements_of h.loads)) ∙ (ap (λ (bs : List ℕ). elements_of h.loads ++ map Byte bs) (sym none) ∙ h.whole);
    told = h.told;
    feeds = h.feeds;
  }

-- the end was told, and this is the text of what came since
pub record GoesText (m : Meaning) (xs : List Element) (before text : List ℕ) (Stands : Type 0) (Comes : LoadKind → List Element → Option Code → Type 0) : Type 0 where
  pub given : List Load
  pub told : text ≡ before ++ rendering_of (elements_of given)
  pub goes : Goes m xs [] given Stands Comes

module _ (m : Meaning) (xs : List Element) (before : List ℕ) where
  pub none_came : (Stands : Type 0) (Comes : LoadKind → List Element → Option Code → Type 0) → Stands → GoesText m xs before before Stands Comes
  none_came Stands Comes s = record { given = []; told = sym (append-nil before); goes = inl (s, refl) }

  module _ (text new : List ℕ) (Stands NewStands : Type 0) (Comes NewComes : LoadKind → List Element → Option Code → Type 0) (h : GoesText m xs before text Stands Comes) where
    told_on : (out : Load) → new ≡ text ++ rendering_of (elements out) → new ≡ before ++ rendering_of (elements_of (h.given ++ out ∷ []))
    told_on out more = more ∙ (ap (λ t. t ++ rendering_of (elements out)) h.told ∙ (append_assoc before (rendering_of (elements_of h.given)) (rendering_of (elements out)) ∙ ap (λ t. before ++ t) (sym (told_more h.given out))))

    module _ (answer : Fed) (first : Stands → Finishes m xs answer (NewComes m.gives)) (next : (kind : LoadKind) (ys : List Element) (c : Option Code) → Comes kind ys c → Continues kind ys c answer (NewComes kind)) where
      now : Left m xs [] h.given (λ ys. Continues m.gives ys (m.all xs).fault answer (NewComes m.gives))
      now = answered m xs [] h.given Stands Comes NewComes answer first next h.goes

    pub load_came : (answer : Fed) → AppendsAnswer text new answer came.More → (Stands → Finishes m xs answer (NewComes m.gives)) → ((kind : LoadKind) (ys : List Element) (c : Option Code) → Comes kind ys c → Continues kind ys c answer (NewComes kind)) → GoesText m xs before new NewStands NewComes
    load_came (fed.Out out) more first next = record { given = h.given ++ out ∷ []; told = told_on out more; goes = goes_on m xs [] h.given (h.given ++ out ∷ []) out NewStands NewComes (now (fed.Out out) first next) refl }
    load_came fed.End more first next = absurd more
    load_came (fed.Fault out c) more first next = absurd more

    -- what comes before the end isn't empty, and so is its text
    pub some_came : (answer : Fed) → AppendsAnswer text new answer came.More → (Stands → Finishes m xs answer (NewComes m.gives)) → ((kind : LoadKind) (ys : List Element) (c : Option Code) → Comes kind ys c → Continues kind ys c answer (NewComes kind)) → length text < length new
    some_came (fed.Out out) more first next =
        let l = now (fed.Out out) first next in
        let some = rendering_some (elements out) l.holds.1 in let n = ap length more in let a = length-append text (rendering_of (elements out)) in omega (arith, some, n, a)
    some_came fed.End more first next = absurd more
    some_came (fed.Fault out c) more first next = absurd more

    pub fault_came : (answer : Fed) (d : Code) → AppendsAnswer text new answer (came.Fault d) → (Stands → Finishes m xs answer (NewComes m.gives)) → ((kind : LoadKind) (ys : List Element) (c : Option Code) → Comes kind ys c → Continues kind ys c answer (NewComes kind)) → FinishesText m xs before new (Some d)
    fault_came (fed.Out out) d more first next = absurd more
    fault_came fed.End d more first next = absurd more
    fault_came (fed.Fault out c) d more first next =
        let f = failed m xs [] h.given (h.given ++ out ∷ []) out c NewComes (now (fed.Fault out c) first next) refl in
        subst (λ z. FinishesText m xs before new (Some z)) (sym more.1) (record { rest = f.rest; told = told_on out more.0 ∙ ap (λ ls. before ++ rendering_of (elements_of ls)) f.whole; made = f.made })

    pub end_came : (answer : Fed) → AppendsAnswer text new answer came.End → (Stands → Finishes m xs answer (NewComes m.gives)) → ((kind : LoadKind) (ys : List Element) (c : Option Code) → Comes kind ys c → Continues kind ys c answer (NewComes kind)) → FinishesText m xs before new None
    end_came (fed.Out out) more first next = absurd more
    end_came fed.End more first next =
        let l = now fed.End first next in
        record {
          rest = l.rest;
          told = more ∙ (h.told ∙ ap (λ ls. before ++ rendering_of (elements_of ls)) l.whole);
          made = record {
            kinds = l.kinds;
            list = ap (λ ys. (m.part xs).list ++ ys) (sym (append-nil (elements_of l.rest)) ∙ ap (λ ys. elements_of l.rest ++ ys) (sym l.holds.0)) ∙ l.list;
            fault = sym l.holds.1;
          };
        }
    end_came (fed.Fault out c) more first next = absurd more

module _ (m : Meaning) (bytes text : List ℕ) (Stands : List Element → Type 0) where
  -- a fault came before the end
  pub text_early : (c : Option Code) → FeedsText m bytes text c Stands → is_some c ≡ true → PoursText m bytes text c
  text_early c f some = record { loads = f.loads; given = f.given; whole = f.whole; told = f.told; pours = poured_early m [] f.loads f.given c Stands f.feeds some }

  -- the pipe stands for all bytes where no fault came
  pub stands_for_all : (c : Option Code) → is_some c ≡ false → (f : FeedsText m bytes text c Stands) → Stands (elements_of f.loads)
  stands_for_all None none f = f.feeds.1
  stands_for_all (Some c) none f = absurd (false≢true (sym none))

  -- no fault came before the end
  pub text_late : (b : Option Code) (new : List ℕ) (c : Option Code) → FeedsText m bytes text b Stands → is_some b ≡ false → ((xs : List Element) → Stands xs → FinishesText m xs text new c) → PoursText m bytes new c
  text_late None new c f none finish =
      let e = finish (elements_of f.loads) f.feeds.1 in
      record {
        loads = f.loads;
        given = f.given ++ e.rest;
        whole = f.whole;
        told = e.told ∙ (ap (λ t. t ++ rendering_of (elements_of e.rest)) f.told ∙ sym (ap rendering_of (flat_map-append elements f.given e.rest) ∙ flat_map-append element_text (elements_of f.given) (elements_of e.rest)));
        pours = poured_late m [] f.loads f.given (f.given ++ e.rest) None c Stands f.feeds refl (λ s. record { rest = e.rest; whole = refl; made = e.made });
      }
  text_late (Some d) new c f none finish = absurd (false≢true (sym none))
