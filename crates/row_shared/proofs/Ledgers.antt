-- The ledger of all seats at a table is never behind the rows' words.
use Rattle.std.proofs.Common.{map, length, ◌∙◌, sym, subst}
use Rattle.chunk_core.specs.Lists.{IsAmong}
use Rattle.chunk_core.proofs.Places.{at_map}
use Rattle.row_seat.specs.declared.token.Token.{Token}
use Rattle.row_seat.specs.Rule.{Book, book}
use Rattle.row_seat.proofs.Standings.{word_tells}
use Rattle.row_seat.proofs.Tells.{all_told}
use Rattle.row_seat.proofs.Totals.{map_back, total_map}
use Rattle.row_shared.specs.Laws.{LedgerIsNeverBehind}
use Rattle.row_shared.specs.Places.{token_of}

pub never_behind : {P : Type 0} → LedgerIsNeverBehind P
never_behind {P = P} k s h = let ts = map token_of s.views in let books = h.rule.books in (
  h.log,
  record {
    stamped = books.stamped;
    stamp = h.stamp;
    whole = λ e. (
      (λ m. let w = books.whole e m in let x = map_back book ts w.0 w.1 w.2 in let y = map_back token_of s.views w.0 x.0 x.1 in
          (w.0, y.0, y.1, subst (λ (z : Token P). IsAmong e z.events) (sym y.2) (subst (λ (z : Book). IsAmong e z.events) (sym x.2) w.3))),
      (λ o. books.inside o.0 (book o.1.token) e (at_map book ts o.0 o.1.token (at_map token_of s.views o.0 o.1 o.2)) o.3),
    );
    once = sym (total_map book (λ (b : Book). length b.events) ts ∙ total_map token_of (λ (t : Token P). length t.events) s.views) ∙ all_told h.rule;
  },
  books.legal,
  word_tells h.rule,
)
