-- A seat sees the front of the ledger, a mark keeps that, and it is taken in.
use Rattle.std.proofs.Common.{◌≡◌, ◌≢◌, ℕ, ◌⊎◌, true, map, List, [], ◌∷◌, length, slice_set, inl, inr, refl, sym, ap, ◌∙◌, subst, ⊎_elim, arith}
use Rattle.std.specs.Prelude.{slice_index, Option}
use lib.ListN.{get_elem?}
use mathlib.Core.Option.{some}
use Rattle.atomic_table.specs.Table.{State, Allows, Joins, Splits, keeps}
use Rattle.chunk_core.specs.Lists.{IsAmong}
use Rattle.chunk_core.specs.Lists.IsAmong.{here}
use Rattle.chunk_core.proofs.Members.{among_cons, among_nil}
use Rattle.chunk_core.proofs.Places.{at_map, at_set, set_again}
use Rattle.res_ledger.specs.Streams.{by_stream}
use Rattle.res_ledger.proofs.Ledgers.{stamp_below}
use Rattle.row_seat.specs.Fronts.{IsSight, StandsBehind, sight_of}
use Rattle.row_seat.specs.Rule.{RuleHolds, book, view_of}
use Rattle.row_seat.specs.Totals.{IsAt}
use Rattle.row_seat.specs.declared.front.Sight.{Sight}
use Rattle.row_seat.specs.declared.token.Token.{Token}
use Rattle.row_seat.proofs.Changes.{each_more, each_two, map_more, map_two, some_more, some_two}
use Rattle.row_seat.proofs.Ticked.{at_book}
use Rattle.row_shared.specs.declared.table.Place.{Place}
use Rattle.row_shared.specs.declared.table.Start.{Start}
use Rattle.row_shared.specs.Places.{IsRows, Seated, at_rest, idle, marking, nobody, row_slot, row_word, seeing, token_of}
use Rattle.row_shared.specs.Told.{IsMarked, Recalled, Saw}
use Rattle.row_shared.proofs.Guests.{guest_keeps}
use Rattle.row_shared.proofs.Keeping.{homes_keep, rows_put, seated, set_same}
use Rattle.row_shared.proofs.Seeing.{sight_now, sight_tells}

module _ {P : Type 0} (k : Start) (id : ℕ) (t : Token P) (live : t.live ≡ true) where
  -- a look at the table, from which the seat has these sights
  look_sees : (xs ys : List Sight) (s : State (Option P) (Place P)) (h : IsRows k s) → get_elem? s.views id ≡ some (seeing t xs) → ((x : Sight) → IsAmong x ys → IsSight h.log x)
      → (let z : State (Option P) (Place P) = record { words = slice_set s.words 0 (slice_index s.words 0); homes = s.homes; views = slice_set s.views id (seeing t ys) } in IsRows k z)
  look_sees xs ys s h at sees =
      let seat = seated h id at live in
      let rule = subst (λ l. RuleHolds k.rows k.events (row_word s.words) (row_slot s.homes) h.log l) (sym (set_again (map token_of s.views) id t seat.at)) h.rule in
      subst (λ ws. let z : State (Option P) (Place P) = record { words = ws; homes = s.homes; views = slice_set s.views id (seeing t ys) } in IsRows k z) (sym (set_same s.words 0))
      (rows_put h id at live (seeing t ys) s.words s.homes h.log refl refl h.stamp rule (homes_keep h id at live (seeing t ys) refl) (λ q m. absurd (among_nil m)) (λ x g. g) sees)

  pub see_allows : (rows : ℕ) → Allows (λ s. IsRows k s) rows id (idle t) 0 (λ n. n) (λ n after. Saw rows t n after)
  see_allows rows s h len at fits =
      let seat = seated h id at live in let n = slice_index s.words 0 in let x = sight_of (view_of t []) n in
      let b = at_book h.rule seat in let books = h.rule.books in let st = h.stamp in let floor = books.floor id (book t) b in
      let now : IsSight h.log x = sight_now h.log x h.stamp (ap length (books.own id (book t) b live)) in (
        seeing t (x ∷ []),
        keeps,
        tt,
        look_sees [] (x ∷ []) s h at (λ y m. ⊎_elim (λ e. subst (λ z. IsSight h.log z) (sym e) now) (λ z. absurd (among_nil z)) (among_cons m)),
        (refl, (omega arith, λ d a. let l = stamp_below h.log d books.stamped (books.inside id (book t) d b a) in omega arith), let sum = books.sum in let sm = h.small in omega arith),
      )

  pub recall_allows : (rows : ℕ) (xs : List Sight) → (let me : Seated P = (seeing t xs, []) in Allows (λ s. IsRows k s) rows id me 0 (λ n. n) (λ _ after. Recalled t xs after))
  recall_allows rows xs s h len at fits =
      let seat = seated h id at live in let b = at_book h.rule seat in let books = h.rule.books in (
        at_rest t,
        keeps,
        tt,
        look_sees xs [] s h at (λ y m. absurd (among_nil m)),
        (refl, λ x m by. sight_tells h.log t.events x books.stamped (subst (λ q. by_stream q t.events ≡ by_stream q h.log) (sym by) (books.own id (book t) b live)) (h.sights id (seeing t xs) x at m)),
      )

  -- what the seat saw goes to a mark
  pub marks_off : (xs : List Sight) → Splits (λ s. IsRows k s) id (seeing t xs) (at_rest t) (seeing nobody xs)
  marks_off xs s h at = let v = seeing t xs in let left = at_rest t in let right : Place P = seeing nobody xs in record {
    log = h.log;
    small = h.small;
    words = h.words;
    slots = h.slots;
    stamp = h.stamp;
    rule = subst (λ l. RuleHolds k.rows k.events (row_word s.words) (row_slot s.homes) h.log l) (sym (map_more token_of s.views id left right)) (guest_keeps h.rule (seated h id at live));
    homes = λ r l. ⊎_elim (λ o. inl o) (λ o. inr (some_more s.views id v left right at (λ (u : Place P). IsAmong r u.lifted) (λ m. inl m) o)) (h.homes r l);
    lifts = λ i r u. each_more s.views id v left right at (λ i u. IsAmong r u.lifted → IsAmong r u.token.opened ⊎ IsAmong r u.token.handed) (λ m. absurd (among_nil m)) (λ i u ne g. h.lifts i r u g) (λ m. absurd (among_nil m)) i u;
    sights = λ i u x. each_more s.views id v left right at (λ i u. IsAmong x u.sights → IsSight h.log x) (λ m. absurd (among_nil m)) (λ i u ne g. h.sights i u x g) (h.sights id v x at) i u;
  }

  -- a mark is taken in
  pub unmarks : (jd : ℕ) (xs : List Sight) → Joins (λ s. IsRows k s) id (at_rest t) jd (seeing nobody xs) (seeing t xs) (seeing nobody [])
  unmarks jd xs s h at ne at1 =
      let v = at_rest t in let w : Place P = seeing nobody xs in let a = seeing t xs in let b : Place P = seeing nobody [] in
      let at' : IsAt s.views jd w = ⊎_elim (λ t. absurd (ne t.0)) (λ t. t.1) (at_set s.views id jd a w at1) in
      let apart : id ≢ jd = λ e. ne (sym e) in let ts = map token_of s.views in
      let same : slice_set (slice_set ts id t) jd nobody ≡ ts = ap (λ l. slice_set l jd nobody) (set_again ts id t (at_map token_of s.views id v at)) ∙ set_again ts jd nobody (at_map token_of s.views jd w at') in record {
        log = h.log;
        small = h.small;
        words = h.words;
        slots = h.slots;
        stamp = h.stamp;
        rule = subst (λ l. RuleHolds k.rows k.events (row_word s.words) (row_slot s.homes) h.log l) (sym (map_two token_of s.views id jd a b ∙ same)) h.rule;
        homes = λ r l. ⊎_elim (λ o. inl o) (λ o. inr (some_two s.views id jd v w a b at at' apart (λ (u : Place P). IsAmong r u.lifted) (λ m. m) (λ m. absurd (among_nil m)) o)) (h.homes r l);
        lifts = λ i r u. each_two s.views id jd v w a b at at' apart (λ i u. IsAmong r u.lifted → IsAmong r u.token.opened ⊎ IsAmong r u.token.handed) (λ m. absurd (among_nil m)) (λ m. absurd (among_nil m)) (λ i u ne ne' g. h.lifts i r u g) i u;
        sights = λ i u x. each_two s.views id jd v w a b at at' apart (λ i u. IsAmong x u.sights → IsSight h.log x) (h.sights jd w x at') (λ m. absurd (among_nil m)) (λ i u ne ne' g. h.sights i u x g) i u;
      }

module _ {P : Type 0} (t : Token P) (x : Sight) (me : Seated P) where
  -- what is left of a seat with this sight, and what its mark has
  pub seat_left : IsMarked t x me → (let w : Seated P = (at_rest t, me.1) in w ≡ idle t)
  seat_left e = ap (λ (m : Seated P). let w : Seated P = (at_rest t, m.1) in w) e

  pub marked_is : IsMarked t x me → (let w : Seated P = (seeing nobody me.0.sights, []) in w ≡ marking x)
  marked_is e = ap (λ (m : Seated P). let w : Seated P = (seeing nobody m.0.sights, []) in w) e

  -- in the words of what it knows itself
  pub marked_here : IsMarked t x me → IsMarked me.0.token x me
  marked_here e = e ∙ ap (λ (z : Token P). let w : Seated P = (seeing z (x ∷ []), []) in w) (sym (ap (λ (m : Seated P). m.0.token) e))

  -- what a look behind that tells
  pub recalled_told : (after : Seated P) → IsMarked t x me → Recalled me.0.token me.0.sights after → (after ≡ idle t) × (x.by ≡ t.by → StandsBehind x t.events)
  recalled_told after e told = let f : me.0.token ≡ t = ap (λ (m : Seated P). m.0.token) e in (
    told.0 ∙ ap idle f,
    λ by. subst (λ (z : Token P). StandsBehind x z.events) f (told.1 x (subst (λ l. IsAmong x l) (sym (ap (λ (m : Seated P). m.0.sights) e)) (here [])) (by ∙ sym (ap (λ (z : Token P). z.by) f))),
  )

  -- a seat at rest that took this mark in
  pub took_mark : (other : Seated P) → me ≡ idle t → other ≡ marking x → (let w : Seated P = (seeing t other.0.sights, me.1) in IsMarked t x w)
  took_mark other e f = ap (λ (m : Seated P). let w : Seated P = (seeing t other.0.sights, m.1) in w) e ∙ ap (λ (m : Seated P). let w : Seated P = (seeing t m.0.sights, []) in w) f
