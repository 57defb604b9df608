use Rattle.std.proofs.Common.{[], refl, sym, ◌∙◌, subst}
use Rattle.chunk_core.proofs.Members.{among_nil}
use Rattle.ledger_books.specs.Keyed.{Listed, is_acquire, is_lease}
use Rattle.ledger_books.proofs.Jumping.{leads_none}
use Rattle.ledger_books.proofs.Noting.{listed_none}
use Rattle.ledger_books.proofs.books.Books.of.Goals as goal

pub returns : goal.returns
returns c = (
  record {
    index = record { found = λ q i h. (let u = sym (c.new.ensures q) ∙ h in cc); missing = λ q h e m k. among_nil m };
    jumps = leads_none c.new-2.result c.new-2.ensures;
    ends = (c.args.events.now, c.args.events.now, refl, c.in_ok-ends.ensures);
    lasts = λ k r s n. absurd (among_nil n.1);
    waits = c.in_ok-waits.ensures;
    first = λ k i m f h g b. cc;
    leases = subst (λ xs. Listed is_lease xs []) (sym c.new-4.ensures.items) (listed_none is_lease);
    rows = subst (λ xs. Listed is_acquire xs []) (sym c.new-5.ensures.items) (listed_none is_acquire);
  },
  c.in_ok-ends.ensures,
)
