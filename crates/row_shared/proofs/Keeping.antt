-- The rule of the table after a step of one seat.
use Rattle.std.proofs.Common.{◌≡◌, ◌≢◌, ℕ, zero, suc, ◌+◌, ◌<◌, ◌⊎◌, true, map, List, [], ◌∷◌, length, slice_set, inl, inr, refl, sym, ap, ◌∙◌, subst, ⊎_elim, arith}
use Rattle.std.specs.Prelude.{slice_index, Option}
use Rattle.std.proofs.lemmas.List.{get_or-set_same, get_or-set_other, length-set}
use Rattle.std.proofs.lemmas.Bool.{cases_eq}
use lib.ListN.{get_elem?}
use mathlib.Core.Option.{some, none}
use Rattle.atomic_table.specs.Table.{State}
use Rattle.atomic_table.proofs.Lists.{set_here, set_else}
use Rattle.chunk_core.specs.Lists.{IsAmong}
use Rattle.chunk_core.specs.Lists.IsAmong.{here}
use Rattle.chunk_core.proofs.Members.{among_cons, among_nil}
use Rattle.chunk_core.proofs.Places.{at_map}
use Rattle.res_ledger.specs.declared.event.Event.{Event}
use Rattle.row_seat.specs.Fronts.{IsSight}
use Rattle.row_seat.specs.declared.front.Sight.{Sight}
use Rattle.row_seat.specs.declared.token.Token.{Token}
use Rattle.row_seat.specs.Rule.{IsInside, IsSeated, RuleHolds}
use Rattle.row_seat.specs.Totals.{IsAt}
use Rattle.row_seat.proofs.Inside.{alone_at, inside}
use Rattle.row_seat.proofs.Totals.{each, map_put, one_at, put_here, some_put}
use Rattle.row_shared.specs.declared.table.Place.{Place}
use Rattle.row_shared.specs.declared.table.Start.{Start}
use Rattle.row_shared.specs.Places.{HomesAgree, IsRows, at_rest, row_slot, row_word, token_of}

-- a load leaves the words as they are
pub set_same : (ws : List ℕ) (i : ℕ) → slice_set ws i (slice_index ws i) ≡ ws
set_same [] i = refl
set_same (x ∷ xs) zero = refl
set_same (x ∷ xs) (suc i) = ap (λ l. x ∷ l) (set_same xs i)

module _ {P : Type 0} {k : Start} {s : State (Option P) (Place P)} (h : IsRows k s) where
  -- the words, where that of the row r becomes m
  module _ (r m : ℕ) where
    pub word_here : r < k.rows → row_word (slice_set s.words (r + 1) m) r ≡ m
    word_here l = get_or-set_same s.words (r + 1) m 0 (let a = h.words in omega arith)

    pub word_else : (q : ℕ) → q ≢ r → row_word (slice_set s.words (r + 1) m) q ≡ row_word s.words q
    word_else q ne = get_or-set_other s.words (r + 1) (q + 1) m 0 (λ e. ne (omega arith))

    pub stamp_else : slice_index (slice_set s.words (r + 1) m) 0 ≡ length h.log
    stamp_else = get_or-set_other s.words (r + 1) 0 m 0 (λ e. omega arith) ∙ h.stamp

  module _ (id : ℕ) {v : Place P} (at : IsAt s.views id v) (live : v.token.live ≡ true) where
    pub seated : IsSeated (map token_of s.views) id v.token
    seated = record { at = at_map token_of s.views id v at; live = live }

    pub rows_put : (w : Place P) (ws : List ℕ) (hs : List (mathlib.Core.Option.Option (Option P))) (log : List Event) → length ws ≡ length s.words → length hs ≡ length s.homes → slice_index ws 0 ≡ length log
        → RuleHolds k.rows k.events (row_word ws) (row_slot hs) log (slice_set (map token_of s.views) id w.token)
        → HomesAgree k.rows hs (slice_set s.views id w) → ((r : ℕ) → IsAmong r w.lifted → IsAmong r w.token.opened ⊎ IsAmong r w.token.handed)
        → ((x : Sight) → IsSight h.log x → IsSight log x) → ((x : Sight) → IsAmong x w.sights → IsSight log x)
        → (let t : State (Option P) (Place P) = record { words = ws; homes = hs; views = slice_set s.views id w } in IsRows k t)
    rows_put w ws hs log lw lh stamp rule homes lifts grows sees = record {
      log = log;
      small = h.small;
      words = lw ∙ h.words;
      slots = lh ∙ h.slots;
      stamp = stamp;
      rule = subst (λ l. RuleHolds k.rows k.events (row_word ws) (row_slot hs) log l) (sym (map_put token_of s.views id w)) rule;
      homes = homes;
      lifts = λ i r u. each s.views id w (λ i u. IsAmong r u.lifted → IsAmong r u.token.opened ⊎ IsAmong r u.token.handed) (lifts r) (λ i u ne g m. h.lifts i r u g m) i u;
      sights = λ i u x. each s.views id w (λ i u. IsAmong x u.sights → IsSight log x) (sees x) (λ i u ne g m. grows x (h.sights i u x g m)) i u;
    }

    pub inside_after : {word : ℕ → ℕ} {slot : ℕ → Option P} {log : List Event} (w : Token P) → RuleHolds k.rows k.events word slot log (slice_set (map token_of s.views) id w) → w.live ≡ true → (n : ℕ) → length s.homes ≡ n → IsInside n w
    inside_after w rule live' n len = subst (λ m. IsInside m w) (sym h.slots ∙ len) (inside rule (record { at = put_here (map token_of s.views) id v.token w seated.at; live = live' }))

    -- the slots stay where they are
    pub homes_keep : (w : Place P) → w.lifted ≡ v.lifted → HomesAgree k.rows s.homes (slice_set s.views id w)
    homes_keep w e r l = ⊎_elim (λ o. inl o) (λ o. inr (some_put s.views id v w at (λ (u : Place P). IsAmong r u.lifted) (λ m. subst (λ l. IsAmong r l) (sym e) m) o)) (h.homes r l)

    -- the slot r is taken
    pub homes_take : (r : ℕ) (w : Place P) → v.lifted ≡ [] → w.lifted ≡ r ∷ [] → HomesAgree k.rows (slice_set s.homes r none) (slice_set s.views id w)
    homes_take r w rest e q l = ⊎_elim
        (λ same. inr (id, w, put_here s.views id v w at, subst (λ l. IsAmong q l) (sym e) (subst (λ n. IsAmong n (r ∷ [])) (sym same) (here []))))
        (λ ne. ⊎_elim (λ o. inl (o.0, set_else s.homes r q none ne ∙ o.1))
        (λ o. inr (some_put s.views id v w at (λ (u : Place P). IsAmong q u.lifted) (λ m. absurd (among_nil (subst (λ l. IsAmong q l) rest m))) o)) (h.homes q l))
        (cases_eq q r)

    -- the slot r comes back
    pub homes_give : (r : ℕ) (y : Option P) (w : Place P) → v.lifted ≡ r ∷ [] → HomesAgree k.rows (slice_set s.homes r (some y)) (slice_set s.views id w)
    homes_give r y w e q l = ⊎_elim
        (λ same. inl (y, subst (λ n. get_elem? (slice_set s.homes r (some y)) n ≡ some (some y)) (sym same) (set_here s.homes r (some y) (let a = h.slots in omega arith))))
        (λ ne. ⊎_elim (λ o. inl (o.0, set_else s.homes r q (some y) ne ∙ o.1))
        (λ o. inr (some_put s.views id v w at (λ (u : Place P). IsAmong q u.lifted) (λ m. absurd (⊎_elim (λ d. ne d) (λ n. among_nil n) (among_cons (subst (λ l. IsAmong q l) e m)))) o)) (h.homes q l))
        (cases_eq q r)

    -- the slot of a row that the seat has is at home
    pub slot_home : (r : ℕ) → v.lifted ≡ [] → IsAmong r v.token.opened ⊎ IsAmong r v.token.handed → (x : Option P) × (get_elem? s.homes r ≡ some (some x))
    slot_home r rest mine = let b = inside h.rule seated in
        ⊎_elim (λ o. o) (λ o. let e = alone_at h.rule seated r o.0 o.1.token mine (at_map token_of s.views o.0 o.1 o.2) (h.lifts o.0 r o.1 o.2 o.3) in
        absurd (among_nil (subst (λ l. IsAmong r l) rest (subst (λ (z : Place P). IsAmong r z.lifted) (one_at s.views id o.1 v (subst (λ n. IsAt s.views n o.1) e o.2) at) o.3))))
        (h.homes r (⊎_elim (b.opened r) (b.handed r) mine))

  -- the word of the row r becomes m, and a seat that holds no slot knows t
  pub word_put : (id : ℕ) {v : Token P} (at : IsAt s.views id (at_rest v)) (live : v.live ≡ true) (r m : ℕ) (t : Token P) → RuleHolds k.rows k.events (row_word (slice_set s.words (r + 1) m)) (row_slot s.homes) h.log (slice_set (map token_of s.views) id t)
      → (let z : State (Option P) (Place P) = record { words = slice_set s.words (r + 1) m; homes = s.homes; views = slice_set s.views id (at_rest t) } in IsRows k z)
  word_put id at live r m t rule = rows_put id at live (at_rest t) (slice_set s.words (r + 1) m) s.homes h.log (length-set s.words (r + 1) m) refl (stamp_else r m) rule (homes_keep id at live (at_rest t) refl) (λ q a. absurd (among_nil a)) (λ x g. g) (λ x m. absurd (among_nil m))
