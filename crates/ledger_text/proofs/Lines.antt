-- The lines of a text.
use Rattle.std.proofs.Common.{◌≡◌, ◌≢◌, ℕ, ◌+◌, ◌<◌, ◌^◌, List, [], ◌∷◌, ◌++◌, All, length, map, codes, decimal, refl, sym, ap, ◌∙◌, append_assoc, add-one, ⊎_elim}
use Rattle.std.specs.List.{flat_map, onto_first, AllByRecursion}
use Rattle.std.proofs.lemmas.Bool.{ne_eqb}
use Rattle.std.proofs.lemmas.Bool.Decides.{eqb_tells}
use Rattle.std.proofs.lemmas.List.{append-nil, length-map, flat_map_more}
use Rattle.std.proofs.lemmas.List.Elements.{All-head, All-tail}
use Rattle.res_ledger.specs.declared.event.Event.{Event}
use Rattle.res_ledger.specs.Texts.{event_line, ledger_text}
use Rattle.res_ledger.specs.Limits.{IsSmallEvent}
use Rattle.ledger_text.specs.Reading.{IsEventLine, IsFirstBadLine, IsSpelled, cut_of, lines_of, head_line}
use Rattle.ledger_text.proofs.Spelled.{body, body_lacks, head_lacks}
use Rattle.chunk_core.proofs.Each.{each_last}

-- a text is cut at its first LF
pub cut_at : (xs ys : List ℕ) → All (λ x. x ≢ 10) xs → cut_of (xs ++ 10 ∷ ys) ≡ (xs ++ 10 ∷ []) ∷ cut_of ys
cut_at [] ys h = refl
cut_at (x ∷ xs) ys h = rw (ne_eqb x 10 (All-head (λ x. x ≢ 10) x xs h)) (ap (onto_first x) (cut_at xs ys (All-tail (λ x. x ≢ 10) x xs h)))

lines_at : (xs ys : List ℕ) → All (λ x. x ≢ 10) xs → lines_of (xs ++ 10 ∷ ys) ≡ (xs ++ 10 ∷ []) ∷ cut_of ys
lines_at [] ys h = refl
lines_at (x ∷ xs) ys h = cut_at (x ∷ xs) ys h

onto_whole : (c : ℕ) (lines : List (List ℕ)) → flat_map (λ l. l) (onto_first c lines) ≡ c ∷ flat_map (λ l. l) lines
onto_whole c [] = refl
onto_whole c (l ∷ lines) = refl

-- the pieces are the text
pub cut_whole : (text : List ℕ) → flat_map (λ l. l) (cut_of text) ≡ text
cut_whole [] = refl
cut_whole (c ∷ cs) = ⊎_elim
    (λ e. rw (e.0) (ap (λ l. c ∷ l) (cut_whole cs)))
    (λ e. rw (e.0) (onto_whole c (cut_of cs) ∙ ap (λ l. c ∷ l) (cut_whole cs)))
    (eqb_tells c 10)

pub lines_whole : (text : List ℕ) → flat_map (λ l. l) (lines_of text) ≡ text
lines_whole [] = refl
lines_whole (c ∷ cs) = cut_whole (c ∷ cs)

-- a text that isn't empty has a first piece
first_of : (text : List ℕ) (lines : List (List ℕ)) → text ≢ [] → flat_map (λ l. l) lines ≡ text → (line : List ℕ) × (more : List (List ℕ)) × (lines ≡ line ∷ more)
first_of text [] full e = absurd (full (sym e))
first_of text (l ∷ lines) full e = (l, lines, refl)

pub cut_first : (text : List ℕ) → text ≢ [] → (line : List ℕ) × (more : List (List ℕ)) × (cut_of text ≡ line ∷ more)
cut_first text full = first_of text (cut_of text) full (cut_whole text)

pub lines_first : (text : List ℕ) → (line : List ℕ) × (more : List (List ℕ)) × (lines_of text ≡ line ∷ more)
lines_first [] = ([], [], refl)
lines_first (c ∷ cs) = cut_first (c ∷ cs) (λ e. cc)

-- the line of an event is one piece, and the head another
pub event_cut : (e : Event) (ys : List ℕ) → IsSmallEvent e → cut_of (event_line e ++ ys) ≡ event_line e ∷ cut_of ys
event_cut e ys h = ap cut_of (append_assoc (body e) (10 ∷ []) ys) ∙ cut_at (body e) ys (body_lacks e h)

pub head_cut : (n : ℕ) (ys : List ℕ) → n < 2 ^ 64 → lines_of (head_line n ++ ys) ≡ head_line n ∷ cut_of ys
head_cut n ys h = ap lines_of (append_assoc (codes "ledger " ++ decimal n) (10 ∷ []) ys) ∙ lines_at (codes "ledger " ++ decimal n) ys (head_lacks n h)

pub events_cut : (L : List Event) (ys : List ℕ) → AllByRecursion IsSmallEvent L → cut_of (flat_map event_line L ++ ys) ≡ map event_line L ++ cut_of ys
events_cut [] ys h = refl
events_cut (e ∷ L) ys h =
    ap cut_of (append_assoc (event_line e) (flat_map event_line L) ys) ∙ event_cut e (flat_map event_line L ++ ys) h.0 ∙ ap (λ l. event_line e ∷ l) (events_cut L ys h.1)

pub event_lines : (L : List Event) → AllByRecursion IsSmallEvent L → AllByRecursion IsEventLine (map event_line L)
event_lines [] h = tt
event_lines (e ∷ L) h = ((e, h.0, refl), event_lines L h.1)

-- a head and the lines of events, and what follows them
pub lines_are : (n : ℕ) (L : List Event) (ys : List ℕ) → n < 2 ^ 64 → AllByRecursion IsSmallEvent L → lines_of (head_line n ++ (flat_map event_line L ++ ys)) ≡ head_line n ∷ (map event_line L ++ cut_of ys)
lines_are n L ys small h = head_cut n (flat_map event_line L ++ ys) small ∙ ap (λ l. head_line n ∷ l) (events_cut L ys h)

-- a text that begins with no head has a bad head
pub bad_head : (text : List ℕ) → ((n : ℕ) (rest : List ℕ) → n < 2 ^ 64 → text ≢ head_line n ++ rest) → IsFirstBadLine text 0
bad_head text never =
    let f = lines_first text in
    ([], f.1, f.0, f.2, refl, tt, λ s. never s.0.0 (flat_map (λ l. l) f.1) s.0.1 (sym (lines_whole text) ∙ ap (flat_map (λ l. l)) f.2 ∙ ap (λ l. l ++ flat_map (λ l. l) f.1) s.0.2))

module _ (text rest : List ℕ) (n : ℕ) (L : List Event) (is : text ≡ head_line n ++ (flat_map event_line L ++ rest)) (fits : n < 2 ^ 64) (small : AllByRecursion IsSmallEvent L) where
  lines : lines_of text ≡ head_line n ∷ (map event_line L ++ cut_of rest)
  lines = ap lines_of is ∙ lines_are n L rest fits small

  -- where no event's line follows them, the next line is bad
  pub bad_line : rest ≢ [] → ((e : Event) (more : List ℕ) → IsSmallEvent e × (e.stamp ≡ length L) → rest ≢ event_line e ++ more) → IsFirstBadLine text (length L + 1)
  bad_line full never =
      let f = cut_first rest full in (
        head_line n ∷ map event_line L,
        f.1,
        f.0,
        lines ∙ ap (λ l. head_line n ∷ (map event_line L ++ l)) f.2,
        rw (length-map L event_line) (sym (add-one (length L))),
        ((n, fits, refl), event_lines L small),
        λ s. let w = each_last IsEventLine (map event_line L) f.0 s.1 in
            never (record { stamp = length L; by = w.0.by; what = w.0.what }) (flat_map (λ l. l) f.1) (w.1, refl)
            (sym (cut_whole rest) ∙ ap (flat_map (λ l. l)) f.2 ∙ ap (λ l. l ++ flat_map (λ l. l) f.1) w.2),
      )

  -- where nothing follows them, each line is well spelled
  pub spelled : rest ≡ [] → IsSpelled text n (length L)
  spelled none = (map event_line L, lines ∙ ap (λ l. head_line n ∷ (map event_line L ++ cut_of l)) none ∙ ap (λ l. head_line n ∷ l) (append-nil (map event_line L)), fits, event_lines L small, length-map L event_line)

-- a text whose numbers agree is that of the ledger
pub whole : (text rest : List ℕ) (L : List Event) → text ≡ head_line (length L) ++ (flat_map event_line L ++ rest) → rest ≡ [] → ledger_text L ≡ text
whole text rest L is none = sym (is ∙ ap (λ l. head_line (length L) ++ (flat_map event_line L ++ l)) none ∙ ap (λ l. head_line (length L) ++ l) (append-nil (flat_map event_line L)))

-- one more event is read
pub read_on : (text rest more : List ℕ) (n : ℕ) (L : List Event) (e : Event) → text ≡ head_line n ++ (flat_map event_line L ++ rest) → rest ≡ event_line e ++ more → text ≡ head_line n ++ (flat_map event_line (L ++ e ∷ []) ++ more)
read_on text rest more n L e is next =
    is ∙ ap (λ l. head_line n ++ l) (ap (λ l. flat_map event_line L ++ l) next ∙ sym (append_assoc (flat_map event_line L) (event_line e) more) ∙ ap (λ l. l ++ more) (flat_map_more event_line [] L e))
