-- Each step of a seat that holds no slot keeps the rule of the table.
use Rattle.std.proofs.Common.{◌≡◌, ℕ, ◌+◌, ◌-◌, ◌*◌, ◌%◌, ◌^◌, ◌<◌, ◌≤◌, true, List, [], ◌∷◌, ◌++◌, length, slice_set, refl, sym, ap, ◌∙◌, subst, ⊎_elim, arith, map}
use Rattle.std.specs.Prelude.{slice_index, Option}
use Rattle.std.proofs.lemmas.List.{get_or-set_same, get_or-set_other, length-set, length_push}
use Rattle.std.proofs.lemmas.Bool.{cases_eq}
use lib.ListN.{get_elem?}
use mathlib.Core.Option.{some}
use Rattle.atomic_table.specs.Table.{State, Allows, keeps}
use Rattle.chunk_core.specs.Lists.{IsAmong}
use Rattle.chunk_core.proofs.Members.{among_nil}
use Rattle.chunk_core.proofs.Places.{set_again}
use Rattle.res_ledger.specs.declared.event.Event.{Event}
use Rattle.res_ledger.specs.declared.event.What.{What}
use Rattle.res_ledger.specs.declared.event.What.TheVariants.{Acquire}
use Rattle.res_ledger.specs.Ledger.{IsAcquired, IsLeased, Notes, NotesCancel}
use Rattle.res_ledger.proofs.Ledgers.{stamp_below}
use Rattle.row_seat.specs.declared.token.Token.{Token}
use Rattle.row_seat.specs.Rule.{Book, IsInside, RuleHolds, book, view_of}
use Rattle.row_seat.specs.Steps.{gone, handed_over, leased, noted, placed}
use Rattle.row_seat.specs.Totals.{IsAt, stamp_times}
use Rattle.row_seat.specs.Views.{MayNote}
use Rattle.row_seat.proofs.Ends.{all_canceled, all_events, all_final, all_payloads}
use Rattle.row_seat.proofs.Inside.{inside}
use Rattle.row_seat.proofs.Moves.{lease_keeps, leave_keeps, leave_last, no_pair_on, place_keeps, row_empty, row_leased, row_open}
use Rattle.row_seat.proofs.Rejoined.{were_apart}
use Rattle.row_seat.proofs.Stayed.{all_names, leave_cause}
use Rattle.row_seat.proofs.Tells.{leases_below, tally, told_last}
use Rattle.row_seat.proofs.Ticked.{at_book, tick_keeps}
use Rattle.row_seat.proofs.Totals.{total_at}
use Rattle.row_shared.specs.declared.table.Place.{Place}
use Rattle.row_shared.specs.declared.table.Start.{Start}
use Rattle.row_shared.specs.Places.{IsRows, at_rest, idle, row_slot, row_word, token_of}
use Rattle.row_shared.specs.Told.{Ended, Leased, Met, Placed, Quit, Ticked}
use Rattle.row_shared.proofs.Itself.{names_kept}
use Rattle.row_shared.proofs.Seeing.{sight_grows}
use Rattle.row_shared.proofs.Keeping.{homes_keep, inside_after, rows_put, seated, set_same, word_else, word_here, word_put}

mod_below : (a b : ℕ) → a < b → a % b ≡ a
mod_below a b h = search (arith)

less_four : (n : ℕ) → 4 ≤ n → n < 2 ^ 64 → (n + (2 ^ 64 - 4)) % 2 ^ 64 + 4 ≡ n
less_four n low high =
    let e : n + (2 ^ 64 - 4) ≡ 2 ^ 64 + (n - 4) = omega arith in
    subst (λ (a : ℕ). a % 2 ^ 64 + 4 ≡ n) (sym e) (let f : (2 ^ 64 + (n - 4)) % 2 ^ 64 ≡ n - 4 = search (arith) in omega arith)

module _ {P : Type 0} (k : Start) (rows id : ℕ) (t : Token P) (live : t.live ≡ true) where
  -- an event is noted: the stamp is the word found, so it is the next in the ledger
  pub tick_allows : (x : What) (hands : List (ℕ × P)) (room : ℕ) → k.events ≡ room → MayNote (view_of t hands) x → 1 ≤ t.spare → Allows (λ s. IsRows k s) rows id (idle t) 0 (λ n. (n + 1) % 2 ^ 64) (λ n after. Ticked rows x room t n after)
  tick_allows x hands room all may sp s h len at fits =
      let n = slice_index s.words 0 in let e : Event = record { stamp = n; by = t.by; what = x } in let m = (n + 1) % 2 ^ 64 in let ws = slice_set s.words 0 m in
      let seat = seated h id at live in let ts = map token_of s.views in let b = at_book h.rule seat in let books = h.rule.books in
      let sum = books.sum in let st = h.stamp in let sm = h.small in
      let one = total_at (λ (u : Book). u.spare) (map book ts) id (book t) b in
      let mine = total_at (λ (u : Book). length u.events + u.spare) (map book ts) id (book t) b in let tl = tally h.rule in
      let floor = books.floor id (book t) b in
      let next : m ≡ n + 1 = mod_below (n + 1) (2 ^ 64) (omega arith) in
      let kept = subst (λ (a : ℕ). RuleHolds k.rows k.events (row_word s.words) (row_slot s.homes) (h.log ++ record { stamp = a; by = t.by; what = x } ∷ []) (slice_set ts id (noted t (record { stamp = a; by = t.by; what = x })))) (sym h.stamp)
      (tick_keeps h.rule seat sp hands x may) in
      let same : (r : ℕ) → row_word s.words r ≡ row_word ws r = λ r. sym (get_or-set_other s.words 0 (r + 1) m 0 (λ q. omega arith)) in
      let rule = subst (λ (f : ℕ → ℕ). RuleHolds k.rows k.events f (row_slot s.homes) (h.log ++ e ∷ []) (slice_set ts id (noted t e))) (λ i r. same r i) kept in (
        at_rest (noted t e),
        keeps,
        tt,
        rows_put h id at live (at_rest (noted t e)) ws s.homes (h.log ++ e ∷ []) (length-set s.words 0 m) refl
            (get_or-set_same s.words 0 m 0 (let a = h.words in omega arith) ∙ (next ∙ (ap (λ (a : ℕ). a + 1) h.stamp ∙ sym (length_push h.log e))))
            rule (homes_keep h id at live (at_rest (noted t e)) refl) (λ q a. absurd (among_nil a)) (sight_grows h.log e) (λ x m. absurd (among_nil m)),
        (
          (refl, inside_after h id at live (noted t e) rule live rows len),
          (omega arith, λ d a. let l = stamp_below h.log d books.stamped (books.inside id (book t) d b a) in omega arith),
          omega arith,
        ),
      )

  pub place_allows : (r q c : ℕ) → q ≡ r → IsAmong r t.empty → Notes t.events t.by (Acquire r c) → Allows (λ s. IsRows k s) rows id (idle t) (r + 1) (λ _. 1) (λ _ after. Placed rows q t after)
  place_allows r q c is can note s h len at fits =
      let seat = seated h id at live in let w = placed t r in
      let rule = place_keeps h.rule seat (row_word (slice_set s.words (r + 1) 1)) r (word_else h r 1) (word_here h r 1 (row_empty h.rule seat r can).0) can c note in (
        at_rest w,
        keeps,
        tt,
        word_put h id at live r 1 w rule,
        subst (λ a. Placed rows a t (idle w)) (sym is) ((refl, inside_after h id at live w rule live rows len), λ j m. no_pair_on h.rule seat r can id t seat.at j m),
      )

  pub lease_allows : (j r q : ℕ) → q ≡ r → j < 2 ^ 32 → t.main ≡ true → IsAmong r t.opened → ¬ (IsAmong (j, r) t.pairs) → ¬ (IsLeased t.events j) → ¬ (IsAmong j t.had) → Allows (λ s. IsRows k s) rows id (idle t) (r + 1) (λ n. (n + 4) % 2 ^ 64) (λ _ after. Leased rows j q t after)
  lease_allows j r q is small main mine no_pair no_lease no_seat s h len at fits =
      let seat = seated h id at live in let w = leased t j r in let n = row_word s.words r in let m = (n + 4) % 2 ^ 64 in
      let b = row_open h.rule seat r mine in let b1 = b.1 in let few = leases_below h.rule r in
      let next : m ≡ n + 4 = mod_below (n + 4) (2 ^ 64) (omega arith) in
      let rule = lease_keeps h.rule seat (row_word (slice_set s.words (r + 1) m)) r (word_else h r m) (word_here h r m b.0 ∙ next) j small main mine no_pair no_lease no_seat in (
        at_rest w,
        keeps,
        tt,
        word_put h id at live r m w rule,
        subst (λ a. Leased rows j a t (idle w)) (sym is) (refl, inside_after h id at live w rule live rows len),
      )

  -- the payload of a row that is handed over is read off the slot, where its closer left it
  pub quit_allows : (j r q : ℕ) → q ≡ r → IsAmong (j, r) t.pairs → NotesCancel t.events t.by j → Allows (λ s. IsRows k s) rows id (idle t) (r + 1) (λ n. (n + (2 ^ 64 - 4)) % 2 ^ 64) (λ n after. Quit rows j q t n after)
  quit_allows j r q is pair cancel s h len at fits =
      let seat = seated h id at live in let n = row_word s.words r in let m = (n + (2 ^ 64 - 4)) % 2 ^ 64 in let word' = row_word (slice_set s.words (r + 1) m) in
      let b = row_leased h.rule seat j r pair in
      let now : word' r ≡ m = word_here h r m b.0 in
      let down : word' r + 4 ≡ n = ap (λ (a : ℕ). a + 4) now ∙ less_four n b.1 fits in
      ⊎_elim
      (λ e. let x = h.rule.pays.waits r 1 (let a : 7 ≡ 3 + 4 * 1 = refl in e ∙ a) (omega arith) in let p = x.0 in let w = handed_over (gone t j r) r p in
      let rule = leave_last h.rule seat word' r (word_else h r m) j p pair cancel down (omega arith) x.2 in (
        at_rest w,
        keeps,
        tt,
        word_put h id at live r m w rule,
        subst (λ a. Quit rows j a t n (idle w)) (sym is) ((λ i. (p, (refl, inside_after h id at live w rule live rows len), λ hands held. told_last h.rule seat j r p hands held pair e x.2)), (λ ne. absurd (ne e))),
      ))
      (λ ne. let w = gone t j r in
      let rule = leave_keeps h.rule seat word' r (word_else h r m) j pair cancel down (λ z. ne (omega arith)) in (
        at_rest w,
        keeps,
        tt,
        word_put h id at live r m w rule,
        subst (λ a. Quit rows j a t n (idle w)) (sym is) ((λ e. absurd (ne e)), (λ i. ((refl, inside_after h id at live w rule live rows len), λ main hands held. leave_cause h.rule seat main j r pair ne hands held))),
      ))
      (cases_eq n 7)

  -- a look at the table leaves it as it is
  pub look_put : (i : ℕ) (s : State (Option P) (Place P)) → IsRows k s → get_elem? s.views id ≡ some (at_rest t)
      → (let z : State (Option P) (Place P) = record { words = slice_set s.words i (slice_index s.words i); homes = s.homes; views = slice_set s.views id (at_rest t) } in IsRows k z)
  look_put i s h at = subst (λ l. let z : State (Option P) (Place P) = record { words = slice_set s.words i (slice_index s.words i); homes = s.homes; views = l } in IsRows k z) (sym (set_again s.views id (at_rest t) at))
      (subst (λ l. let z : State (Option P) (Place P) = record { words = l; homes = s.homes; views = s.views } in IsRows k z) (sym (set_same s.words i)) h)

  pub met_allows : (room : ℕ) → k.events ≡ room → Allows (λ s. IsRows k s) rows id (idle t) 0 (λ n. n) (λ _ after. Met rows room t after)
  met_allows room all s h len at fits =
      let seat = seated h id at live in
      let mine = total_at (λ (u : Book). length u.events + u.spare) (map book (map token_of s.views)) id (book t) (at_book h.rule seat) in let tl = tally h.rule in (
        at_rest t,
        keeps,
        tt,
        look_put 0 s h at,
        (
          (refl, subst (λ m. IsInside m t) (sym h.slots ∙ len) (inside h.rule seat)),
          omega arith,
          λ v w two hands theirs. were_apart h.rule id v w (subst (λ (z : Token P). IsAt (map token_of s.views) id z) two.is seat.at) two.name two.by two.out (two.mine.outs two.name two.out).1 (names_kept v two.mine)
              (two.theirs.pure two.side) two.mine.rows two.theirs.rows two.shut two.unused hands theirs,
        ),
      )

  -- the ledger of all seats, where none is out and this one is at rest
  pub end_allows : t.main ≡ true → t.out ≡ [] → ((r : ℕ) → IsAmong r t.empty → ¬ (IsAcquired t.events r)) → t.opened ≡ [] → t.pairs ≡ [] → t.kept ≡ [] → t.handed ≡ [] → Allows (λ s. IsRows k s) rows id (idle t) 0 (λ n. n) (λ _ after. Ended t after)
  end_allows main no_out unused no_open no_pair no_kept no_hand s h len at fits =
      let seat = seated h id at live in (
        at_rest t,
        keeps,
        tt,
        look_put 0 s h at,
        (
          refl,
          (
            h.log,
            record {
              stamped = h.rule.books.stamped;
              whole = all_events h.rule seat main no_out;
              legal = h.rule.books.legal;
              ended = all_final h.rule seat main no_out no_open no_pair no_hand unused;
              canceled = all_canceled h.rule seat main no_out no_kept;
              names = all_names h.rule seat main;
              payloads = all_payloads h.rule seat main no_out;
            },
            λ n. let o = h.rule.books.once n in let l = total_at (λ (u : Book). stamp_times n u.events) (map book (map token_of s.views)) id (book t) (at_book h.rule seat) in omega arith,
          ),
        ),
      )
