use Rattle.std.proofs.Common.{ap, sym, ◌∙◌, subst, Result, Ok, Err, cond, ◌++◌, ◌∷◌, [], append_assoc}
use Rattle.std.specs.Prelude.{OnOk}
use Rattle.ledger_books.specs.Keyed.{Listed, is_lease, is_acquire}
use Rattle.ledger_books.proofs.Lasting.{lasts_same}
use Rattle.ledger_books.proofs.Noting.{listed_more}
use Rattle.ledger_books.proofs.books.Books.note.Goals as goal

on_ok : {T E A B : Type 0} (r : Result T E) → (A → B) → OnOk r A → OnOk r B
on_ok (Ok x) f a = f a
on_ok (Err e) f a = tt

pub returns : goal.returns
returns c = on_ok c.add_place-2.result
    (λ b L P Q n l legal f.
    let k = f.0 in
    let ahead = c.in_ok-note-2.ensures.foresees L P Q l legal f.1 in (
      record {
        index = c.in_ok-add_keys.ensures.index P n k.index;
        jumps = c.in_ok-note.ensures P k.jumps;
        ends = (L, Q, l ∙ sym (append_assoc P (c.args.event ∷ []) Q), ahead);
        lasts = c.in_ok-add_last.ensures P (lasts_same c.args.self.now.lasts c.args.self.now.ends c.note-2.new.self P c.in_ok-note-2.ensures.firsts k.lasts);
        waits = c.in_ok-note-3.ensures P n legal k.waits;
        first = c.in_ok-add_keys.ensures.first P n k.index k.first;
        leases = subst (λ l. Listed is_lease l (P ++ c.args.event ∷ [])) (sym (c.in_ok-add_place.ensures ∙ ap (λ m. cond c.is_lease.result (c.args.self.now.leases.items ++ m ∷ []) c.args.self.now.leases.items) (sym n))) (listed_more is_lease c.args.self.now.leases.items P c.args.event c.is_lease.result (sym c.is_lease.ensures) k.leases);
        rows = subst (λ l. Listed is_acquire l (P ++ c.args.event ∷ [])) (sym (b ∙ ap (λ m. cond c.is_acquire.result (c.args.self.now.rows.items ++ m ∷ []) c.args.self.now.rows.items) (sym n))) (listed_more is_acquire c.args.self.now.rows.items P c.args.event c.is_acquire.result (sym c.is_acquire.ensures) k.rows);
      },
      ahead,
    ))
    c.add_place-2.ensures
