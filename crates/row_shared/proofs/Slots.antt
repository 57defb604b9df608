-- Each step that takes a slot or gives one back keeps the rule of the table.
use Rattle.std.proofs.Common.{◌≡◌, ◌≢◌, ℕ, ◌+◌, ◌*◌, ◌^◌, true, List, [], ◌∷◌, slice_set, inl, inr, refl, sym, ap, ◌∙◌, subst, ⊎_elim, arith, map}
use Rattle.std.specs.Prelude.{Option, Some, bit_or}
use Rattle.std.proofs.lemmas.List.{length-set}
use Rattle.std.proofs.lemmas.Bool.{cases_eq}
use Rattle.std.proofs.lemmas.Nat.{or_block}
use Rattle.std.specs.Int.Bits.{or_zero_r}
use mathlib.Core.Option.{some, none}
use Rattle.atomic_table.specs.Table.{State, Allows, takes, gives}
use Rattle.atomic_table.proofs.Lists.{set_here, set_else}
use Rattle.chunk_core.specs.Lists.{IsAmong}
use Rattle.chunk_core.proofs.Members.{among_cons, among_nil}
use Rattle.chunk_core.proofs.Places.{set_again}
use Rattle.res_ledger.specs.declared.event.What.TheVariants.{Acquire, Lease}
use Rattle.res_ledger.specs.Ledger.{IsClosed, Notes}
use Rattle.row_seat.specs.declared.token.Token.{Token}
use Rattle.row_seat.specs.Rule.{Purse, RuleHolds, leases, purse, work}
use Rattle.row_seat.specs.Steps.{handed_over, shut, took}
use Rattle.row_seat.specs.Totals.{IsAt}
use Rattle.row_seat.proofs.Ends.{close_cause, given_one}
use Rattle.row_seat.proofs.Inside.{with_slot}
use Rattle.row_seat.proofs.Moves.{close_stays, close_yours, not_handed, one_hand, row_handed, row_leased, row_open, take_keeps}
use Rattle.row_seat.proofs.Ticked.{at_purse}
use Rattle.row_seat.proofs.Totals.{one_at}
use Rattle.row_shared.specs.declared.table.Place.{Place}
use Rattle.row_shared.specs.declared.table.Start.{Start}
use Rattle.row_shared.specs.Places.{IsRows, at_home, at_rest, holding, idle, row_slot, row_word, token_of}
use Rattle.row_shared.specs.Told.{Fetched, Lifted, Shut}
use Rattle.row_shared.proofs.Keeping.{homes_give, homes_take, inside_after, rows_put, seated, set_same, slot_home, stamp_else, word_else, word_here}

or_two : (n : ℕ) → bit_or (1 + 4 * n) 2 ≡ 3 + 4 * n
or_two n = let e : 1 + 4 * n ≡ n * 2 ^ 2 + 1 = omega arith in ap (λ (a : ℕ). bit_or a 2) e ∙ (or_block 2 n 0 1 2 (omega arith) (omega arith) ∙ (ap (λ (a : ℕ). a * 2 ^ 2 + bit_or 1 2) (or_zero_r n) ∙ (let z : bit_or 1 2 ≡ 3 = refl in omega arith)))

only_row : (r q : ℕ) → IsAmong q (r ∷ []) → q ≡ r
only_row r q m = ⊎_elim (λ e. e) (λ z. absurd (among_nil z)) (among_cons m)

module _ {P : Type 0} (k : Start) (rows id : ℕ) (t : Token P) (live : t.live ≡ true) where
  -- what a seat with the slot of the row r has
  abbrev pub keeper : Token P → ℕ → Place P
  keeper w r = record { token = w; lifted = r ∷ []; sights = [] }

  -- a look at the row's word that takes or gives its slot
  seen_words : (r : ℕ) (s : State (Option P) (Place P)) (hs : List (mathlib.Core.Option.Option (Option P))) (w : Place P) → (let z : State (Option P) (Place P) = record { words = s.words; homes = hs; views = slice_set s.views id w } in IsRows k z)
      → (let z : State (Option P) (Place P) = record { words = slice_set s.words (r + 1) (row_word s.words r); homes = hs; views = slice_set s.views id w } in IsRows k z)
  seen_words r s hs w h = subst (λ l. let z : State (Option P) (Place P) = record { words = l; homes = hs; views = slice_set s.views id w } in IsRows k z) (sym (set_same s.words (r + 1))) h

  -- the slot of an open row is taken
  pub lift_allows : (r q : ℕ) → q ≡ r → IsAmong r t.opened → Allows (λ s. IsRows k s) rows id (idle t) (r + 1) (λ n. n) (λ _ after. Lifted q t after)
  lift_allows r q is mine s h len at fits =
      let seat = seated h id at live in let ts = map token_of s.views in let hs = slice_set s.homes r none in
      let b = (row_open h.rule seat r mine).1 in
      let x = slot_home h id at live r refl (inl mine) in
      let rule = with_slot h.rule r (row_slot hs) (λ q ne. ap at_home (set_else s.homes r q none ne)) (λ n e l. omega arith)
      (λ i p g m. absurd (not_handed h.rule seat r (leases r (map work ts)) b i p g m)) in
      let put = rows_put h id at live (keeper t r) s.words hs h.log refl (length-set s.homes r none) h.stamp (subst (λ l. RuleHolds k.rows k.events (row_word s.words) (row_slot hs) h.log l) (sym (set_again ts id t seat.at)) rule)
      (homes_take h id at live r (keeper t r) refl refl) (λ q m. inl (subst (λ a. IsAmong a t.opened) (sym (only_row r q m)) mine)) (λ x g. g) (λ x m. absurd (among_nil m)) in (
        keeper t r,
        takes r x.0,
        x.1,
        seen_words r s hs (keeper t r) put,
        subst (λ a. Lifted a t (holding t r x.0)) (sym is) (x.0, refl),
      )

  -- the slot of a handed row is taken, and the row counts as taken
  pub fetch_allows : (r q : ℕ) → q ≡ r → IsAmong r t.handed → ¬ (IsAmong r t.taken) → Allows (λ s. IsRows k s) rows id (idle t) (r + 1) (λ n. n) (λ _ after. Fetched q t after)
  fetch_allows r q is mine new s h len at fits =
      let seat = seated h id at live in let hs = slice_set s.homes r none in let w = took t r in
      let x = slot_home h id at live r refl (inr mine) in
      let g = h.rule.pays.handed id r (purse t) (at_purse h.rule seat) mine in
      let lies : x.0 ≡ Some g.0 = sym (ap at_home x.1) ∙ g.2 new in
      let rule = take_keeps h.rule seat (row_slot hs) r (λ q ne. ap at_home (set_else s.homes r q none ne)) mine in
      let put = rows_put h id at live (keeper w r) s.words hs h.log refl (length-set s.homes r none) h.stamp rule
      (homes_take h id at live r (keeper w r) refl refl) (λ q m. inr (subst (λ a. IsAmong a t.handed) (sym (only_row r q m)) mine)) (λ x g. g) (λ x m. absurd (among_nil m)) in (
        keeper w r,
        takes r x.0,
        x.1,
        seen_words r s hs (keeper w r) put,
        subst (λ a. Fetched a t (holding w r x.0)) (sym is) (g.0, ap (λ (y : Option P). holding w r y) lies, (g.1, λ q m. given_one h.rule seat r q g.0 m g.1)),
      )

  -- the slot of a taken row is given back
  pub return_allows : (r : ℕ) (y : Option P) → IsAmong r t.handed → IsAmong r t.taken → Allows (λ s. IsRows k s) rows id (holding t r y) (r + 1) (λ n. n) (λ _ after. after ≡ idle t)
  return_allows r y mine taken s h len at fits =
      let seat = seated h id at live in let ts = map token_of s.views in let hs = slice_set s.homes r (some y) in
      let b = (row_handed h.rule seat r mine).1 in
      let rule = with_slot h.rule r (row_slot hs) (λ q ne. ap at_home (set_else s.homes r q (some y) ne)) (λ n e l. omega arith)
      (λ i p g m. let e = one_hand h.rule seat r i p g mine m in
      subst (λ (z : Purse P). IsAmong r z.taken) (one_at (map purse ts) id (purse t) p (at_purse h.rule seat) (subst (λ (a : ℕ). IsAt (map purse ts) a p) e g)) taken) in
      let put = rows_put h id at live (at_rest t) s.words hs h.log refl (length-set s.homes r (some y)) h.stamp (subst (λ l. RuleHolds k.rows k.events (row_word s.words) (row_slot hs) h.log l) (sym (set_again ts id t seat.at)) rule)
      (homes_give h id at live r y (at_rest t) refl) (λ q m. absurd (among_nil m)) (λ x g. g) (λ x m. absurd (among_nil m)) in (at_rest t, gives, tt, seen_words r s hs (at_rest t) put, refl)

  -- the row is closed, and its slot given back with the payload in it
  pub shut_allows : (r q c : ℕ) (p : P) → q ≡ r → Notes t.events t.by (Acquire r c) → IsClosed t.events t.by c → IsAmong r t.opened → ((j : ℕ) → IsAmong (j, r) t.pairs → (z : ℕ) × Notes t.events t.by (Lease j z))
      → Allows (λ s. IsRows k s) rows id (holding t r (Some p)) (r + 1) (λ n. bit_or n 2) (λ n after. Shut rows q (holding t r (Some p)) n after)
  shut_allows r q c p is acquired closed mine named s h len at fits =
      let seat = seated h id at live in let ts = map token_of s.views in let n = row_word s.words r in let m = bit_or n 2 in let hs = slice_set s.homes r (some (Some p)) in let ws = slice_set s.words (r + 1) m in
      let b = row_open h.rule seat r mine in
      let up : m ≡ n + 2 = ap (λ (a : ℕ). bit_or a 2) b.1 ∙ (or_two (leases r (map work ts)) ∙ (let z = b.1 in omega arith)) in
      let now : row_word ws r ≡ n + 2 = word_here h r m b.0 ∙ up in
      let elsewhere : (q : ℕ) → q ≢ r → row_slot hs q ≡ row_slot s.homes q = λ q ne. ap at_home (set_else s.homes r q (some (Some p)) ne) in
      let there : row_slot hs r ≡ Some p = ap at_home (set_here s.homes r (some (Some p)) (let a = h.slots in let l = b.0 in omega arith)) in
      let put : (w : Token P) → RuleHolds k.rows k.events (row_word ws) (row_slot hs) h.log (slice_set ts id w) → (let z : State (Option P) (Place P) = record { words = ws; homes = hs; views = slice_set s.views id (at_rest w) } in IsRows k z)
      = λ w rule. rows_put h id at live (at_rest w) ws hs h.log (length-set s.words (r + 1) m) (length-set s.homes r (some (Some p))) (stamp_else h r m) rule (homes_give h id at live r (Some p) (at_rest w) refl) (λ q m. absurd (among_nil m)) (λ x g. g) (λ x m. absurd (among_nil m)) in
      ⊎_elim
      (λ e. let w = handed_over (shut t r p) r p in
      let rule = close_yours h.rule seat (row_word ws) r (word_else h r m) (row_slot hs) p elsewhere there c acquired closed mine named now (omega arith) in (
        at_rest w,
        gives,
        tt,
        put w rule,
        subst (λ a. Shut rows a (holding t r (Some p)) n (idle w)) (sym is)
            (p, refl, (λ i. ((refl, inside_after h id at live w rule live rows len), λ j pair. let l = (row_leased h.rule seat j r pair).1 in absurd (omega arith))), (λ ne. absurd (ne e))),
      ))
      (λ ne. let w = shut t r p in
      let rule = close_stays h.rule seat (row_word ws) r (word_else h r m) (row_slot hs) p elsewhere there c acquired closed mine named now (λ z. ne (omega arith)) in (
        at_rest w,
        gives,
        tt,
        put w rule,
        subst (λ a. Shut rows a (holding t r (Some p)) n (idle w)) (sym is)
            (p, refl, (λ i. absurd (ne i)), (λ i. ((refl, inside_after h id at live w rule live rows len), close_cause h.rule seat r mine ne named))),
      ))
      (cases_eq n 1)
