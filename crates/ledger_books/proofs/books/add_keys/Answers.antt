use Rattle.std.proofs.Common.{ap, sym, ◌∙◌, subst, Result, Ok, Err, cond, Some, List, length, ⊎_elim, ◌++◌, ◌∷◌, []}
use Rattle.std.specs.Prelude.{OnOk}
use Rattle.res_ledger.specs.declared.event.Event.{Event}
use Rattle.ledger_books.specs.declared.index.Key.TheVariants.{Begun}
use Rattle.ledger_books.specs.Key.{place_of, same_key}
use Rattle.ledger_books.specs.declared.index.Index.{Index}
use Rattle.ledger_books.specs.Keyed.{Indexes, IsFirst, KeepsFirst, key_of, number_of}
use Rattle.ledger_books.proofs.Noting.{IsAdded, indexes_more, indexes_kept, first_kept, first_more}
use Rattle.ledger_books.proofs.books.add_keys.Goals as goal

on_ok : {T E A B : Type 0} (r : Result T E) → (A → B) → OnOk r A → OnOk r B
on_ok (Ok x) f a = f a
on_ok (Err e) f a = tt

both_keys : (x y z : Index) (P : List Event) (e : Event) → Indexes x P → IsAdded x (key_of e.by e.what) (length P) y → KeepsFirst y z (Begun (number_of e.by)) (length P) → Indexes z (P ++ e ∷ [])
both_keys x y z P e i a b = ⊎_elim (λ k. subst (λ w. Indexes w (P ++ e ∷ [])) (sym k.0) (indexes_kept x y P e i a k.1)) (λ k. indexes_more x y z P e i a k.1) b

first_keys : (x y z : Index) (P : List Event) (e : Event) → Indexes x P → IsFirst x P → IsAdded x (key_of e.by e.what) (length P) y → KeepsFirst y z (Begun (number_of e.by)) (length P) → IsFirst z (P ++ e ∷ [])
first_keys x y z P e i f a b = ⊎_elim (λ k. subst (λ w. IsFirst w (P ++ e ∷ [])) (sym k.0) (first_kept x y P e i a f)) (λ k. first_more x y z P e i a k.0 k.1 f) b

pub returns-clause-index : goal.returns-clause-index
returns-clause-index c = on_ok c.add_first.result
    (λ b P n i. both_keys c.args.index.now c.add.new.self c.add_first.new.self P c.args.event i
    (λ q. c.in_ok-add.ensures q ∙ ap (λ k. cond (same_key k q) (Some c.args.place) (place_of c.args.index.now q)) c.key_for.ensures ∙ ap (λ m. cond (same_key (key_of c.args.event.by c.args.event.what) q) (Some m) (place_of c.args.index.now q)) (sym n))
    (subst (λ m. KeepsFirst c.add.new.self c.add_first.new.self (Begun m) (length P)) c.number.ensures (subst (KeepsFirst c.add.new.self c.add_first.new.self (Begun c.number.result)) (sym n) b)))
    c.add_first.ensures

pub returns-clause-first : goal.returns-clause-first
returns-clause-first c = on_ok c.add_first.result
    (λ b P n i f. first_keys c.args.index.now c.add.new.self c.add_first.new.self P c.args.event i f
    (λ q. c.in_ok-add.ensures q ∙ ap (λ k. cond (same_key k q) (Some c.args.place) (place_of c.args.index.now q)) c.key_for.ensures ∙ ap (λ m. cond (same_key (key_of c.args.event.by c.args.event.what) q) (Some m) (place_of c.args.index.now q)) (sym n))
    (subst (λ m. KeepsFirst c.add.new.self c.add_first.new.self (Begun m) (length P)) c.number.ensures (subst (KeepsFirst c.add.new.self c.add_first.new.self (Begun c.number.result)) (sym n) b)))
    c.add_first.ensures
