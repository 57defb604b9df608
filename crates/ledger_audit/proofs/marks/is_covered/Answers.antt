use Rattle.std.proofs.Common.{◌≡◌, ℕ, Bool, true, List, [], ◌∷◌, not, nat_eq, sym, arith, length, ap, ◌∙◌, refl}
use Rattle.std.specs.Vec.{vec_len}
use Rattle.chunk_core.specs.Lists.{IsAmong, has}
use Rattle.chunk_core.specs.Lists.IsAmong.{here}
use Rattle.chunk_core.proofs.Bools.{fails, not_so, number, has_in, in_has}
use Rattle.chunk_core.proofs.Members.{among_nil}
use Rattle.res_ledger.specs.declared.event.Event.{Event}
use Rattle.res_ledger.specs.Ledger.{IsLegal}
use Rattle.res_ledger.specs.Order.{covered}
use Rattle.res_ledger.proofs.Leases.{covered_sound, covered_found}
use Rattle.res_ledger.proofs.Ledgers.{covers_acquired}
use Rattle.ledger_books.specs.Keyed.{IsSomeCover}
use Rattle.ledger_audit.proofs.Standing.{same}
use Rattle.ledger_audit.proofs.marks.is_covered.Goals as goal

pub returns-in_default : goal.returns-in_default
returns-in_default c = sym (not_so (has c.args.row (covered c.args.past.now)) (fails (has c.args.row (covered c.args.past.now)) (λ h.
    let s = covered_sound c.args.past.now c.requires.legal c.args.row (has_in c.args.row (covered c.args.past.now) h) in
    let a = covers_acquired c.args.past.now s.0 c.args.row s.1 s.2 in
    c.in_default.ensures (s.1, a.0, a.1))))

some_found : (xs : List ℕ) (b h : Bool) → ((j : ℕ) → IsAmong j xs → h ≡ true) → (h ≡ true → (j : ℕ) × IsAmong j xs) → (length xs ≡ 0 → b ≡ true) → (b ≡ true → length xs ≡ 0) → not b ≡ h
some_found [] b h f g z w = ap not (z refl) ∙ sym (not_so h (fails h (λ e. among_nil (g e).1)))
some_found (x ∷ xs) b h f g z w = fails b (λ e. let l = w e in absurd (omega (arith, l))) ∙ sym (f x (here xs))

lent : (L : List Event) → IsLegal L → (r j : ℕ) → IsSomeCover L j r → true ≡ has r (covered L)
lent L legal r j k = sym (in_has r (covered L) (covered_found L legal j r k.0 k.1))

pub returns-then-is_lent_at : goal.returns-then-is_lent_at
returns-then-is_lent_at c = let k = c.is_lent_at.ensures c.if-is_lent_at.true in lent c.args.past.now c.requires.legal c.args.row k.0 k.1

pub returns-then-is_lent_at-2 : goal.returns-then-is_lent_at-2
returns-then-is_lent_at-2 c = let k = c.is_lent_at-2.ensures c.if-is_lent_at-2.true in lent c.args.past.now c.requires.legal c.args.row k.0 k.1

pub returns : goal.returns
returns c =
    let L = c.args.past.now in
    let r = c.args.row in
    let e : vec_len c.in_ok-streams.streams ≡ length c.in_ok-streams.streams.items = omega arith in
    let is : c.is_empty.result ≡ nat_eq (length c.in_ok-streams.streams.items) 0 = c.is_empty.ensures ∙ ap (λ n. nat_eq n 0) e in
    some_found c.in_ok-streams.streams.items c.is_empty.result (has r (covered L))
    (λ j m. let k = (c.in_ok-streams.ensures j).0 m in in_has r (covered L) (covered_found L c.requires.legal j r k.0 k.1))
    (λ h. let s = covered_sound L c.requires.legal r (has_in r (covered L) h) in (s.0, (c.in_ok-streams.ensures s.0).1 (s.1, s.2)))
    (λ e. is ∙ same (length c.in_ok-streams.streams.items) 0 e)
    (λ e. number (length c.in_ok-streams.streams.items) 0 (sym is ∙ e))
