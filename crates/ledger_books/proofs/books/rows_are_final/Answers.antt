use Rattle.std.proofs.Common.{◌≡◌, ◌<◌, ◌-◌, ◌+◌, ℕ, suc, List, length, subst, get_or, sym, ◌∙◌, ap, refl, arith, Some, None, inr, slice_get}
use Rattle.std.proofs.lemmas.Bool.{false≢true}
use Rattle.std.proofs.lemmas.Option.{slice_get-get_or}
use Rattle.res_ledger.specs.declared.event.StreamNo.TheVariants.{Inner}
use Rattle.ledger_books.specs.Key.{place_of}
use Rattle.ledger_books.specs.declared.index.Key.TheVariants.{Begun}
use Rattle.ledger_books.specs.Keyed.{number_of}
use Rattle.ledger_books.proofs.Placed.{at_among}
use Rattle.ledger_books.proofs.Following.{nothing_so}
use Rattle.ledger_books.proofs.Walking.{Ended, ended_start, ended_more, ended_all, below_first}
use Rattle.ledger_books.proofs.books.rows_are_final.Goals as goal

here : (xs : List ℕ) (n i : ℕ) → n < length xs → i ≡ get_or xs n i → slice_get xs n ≡ Some i
here xs n i l e = slice_get-get_or xs n i l ∙ ap Some (sym e)

pub returns-in_default : goal.returns-in_default
returns-in_default c =
    let e : c.from.result + 1 ≡ suc c.args.stream = omega arith in
    let q : place_of c.args.books.now.index (Begun (suc c.args.stream)) ≡ None = ap (λ k. place_of c.args.books.now.index (Begun k)) (sym e) ∙ sym c.find.ensures ∙ c.in_default.is in
    ((λ h r s n. absurd (c.requires.index.missing (Begun (suc c.args.stream)) q n.0 n.1 (inr (ap (λ k. Begun (number_of k)) n.2)))), (λ f. refl))

pub loop-n-init : goal.loop-n-init
loop-n-init c = record { keeps = c.requires; within = omega arith; ended = ended_start c.args.past.now c.args.books.now.rows.items (Inner c.args.stream) c.len-n.result (omega arith) }

pub returns-then-place-first : goal.returns-then-place-first
returns-then-place-first c =
    let P = c.args.past.now in
    let xs = c.args.books.now.rows.items in
    let n = c.loop-n.n - 1 in
    let a : slice_get xs n ≡ Some c.index-place.result.now = here xs n c.index-place.result.now (let w = c.loop-n.invariant.within in omega arith) c.index-place.ensures in
    let m : c.loop-n.n ≡ suc n = omega arith in
    let q : place_of c.args.books.now.index (Begun (suc c.args.stream)) ≡ Some c.in-Some.first = (let e : c.from.result + 1 ≡ suc c.args.stream = omega arith in ap (λ k. place_of c.args.books.now.index (Begun k)) (sym e) ∙ sym c.find.ensures ∙ c.in-Some.is) in (
      (λ h. ended_all P xs c.requires.rows (Inner c.args.stream) c.in-Some.first (suc n) (λ k f b y. c.requires.first (Inner c.args.stream) c.in-Some.first k f q b y)
          (below_first P xs c.requires.rows n c.index-place.result.now c.in-Some.first a c.if-place-first.true)
          (subst (Ended P xs (Inner c.args.stream)) m c.loop-n.invariant.ended)),
      (λ f. refl),
    )

pub returns-then-not-row_is_final : goal.returns-then-not-row_is_final
returns-then-not-row_is_final c = nothing_so (λ f. false≢true (sym c.if-not-row_is_final.true ∙ c.row_is_final.ensures.1 (λ r s n. f r s (n.0, at_among c.args.past.now _ n.0 n.1, n.2, n.3))))

pub loop-n-preserved : goal.loop-n-preserved
loop-n-preserved c =
    let xs = c.args.books.now.rows.items in
    let n = c.loop-n.n - 1 in
    let a : slice_get xs n ≡ Some c.index-place.result.now = here xs n c.index-place.result.now (let w = c.loop-n.invariant.within in omega arith) c.index-place.ensures in
    let m : c.loop-n.n ≡ suc n = omega arith in
    record {
      keeps = c.requires;
      within = (let w = c.loop-n.invariant.within in omega arith);
      ended = ended_more c.args.past.now xs (Inner c.args.stream) c.loop-n.n n c.index-place.result.now m a (c.row_is_final.ensures.0 c.if-not-row_is_final.false) c.loop-n.invariant.ended;
    }

pub returns : goal.returns
returns c =
    let q : place_of c.args.books.now.index (Begun (suc c.args.stream)) ≡ Some c.in-Some.first = (let e : c.from.result + 1 ≡ suc c.args.stream = omega arith in ap (λ k. place_of c.args.books.now.index (Begun k)) (sym e) ∙ sym c.find.ensures ∙ c.in-Some.is) in
    ((λ h. ended_all c.args.past.now c.args.books.now.rows.items c.requires.rows (Inner c.args.stream) c.in-Some.first c.loop-n.n (λ k f b y. c.requires.first (Inner c.args.stream) c.in-Some.first k f q b y) (λ k i a l. absurd (omega arith)) c.loop-n.invariant.ended), (λ f. refl))
