-- What a tree ends as, where a payload is lent.
use Rattle.std.specs.Prelude.{ℕ}
use Rattle.std.specs.Borrow.{Lends, MutBor, Fml, RattleType}
use Rattle.scope_tree.specs.declared.tree.Tree.{Tree}
use Rattle.scope_tree.specs.contracts.tree.Tree.{the_row}

-- the tree with another payload in an open row, by its seat's
abbrev pub lent_tree : {S P D : Type 0} → (S → ℕ → P → S) → Tree S P D → ℕ → P → Tree S P D
lent_tree with_pay t r w = record t { seat = with_pay t.seat r w }

-- once the borrow r ends, the row has the last payload written through r
abbrev pub lends_pay : (S P D : RattleType) → (S.Denot → ℕ → P.Denot → S.Denot) → MutBor (Tree S.Denot P.Denot D.Denot) → ℕ → MutBor P.Denot → Fml
lends_pay S P D with_pay t row r = Lends (the_row S P D) P t r (lent_tree with_pay t.now row)
