-- What a hot swap ends as, where a payload is lent.
use Rattle.std.specs.Prelude.{ℕ}
use Rattle.std.specs.Borrow.{Lends, MutBor, Fml, RattleType}
use Rattle.scope_tree.specs.Lending.{lent_tree}
use Rattle.hot_swap.specs.declared.swap.Hotswap.{Hotswap}
use Rattle.hot_swap.specs.contracts.swap.Hotswap.{the_row}

-- the same with another payload in an open row, by its tree's
abbrev pub lent_swap : {S P D : Type 0} → (S → ℕ → P → S) → Hotswap S P D → ℕ → P → Hotswap S P D
lent_swap with_pay h r w = record h { tree = lent_tree with_pay h.tree r w }

-- once the borrow r ends, the row has the last payload written through r
abbrev pub lends_pay : (S P D : RattleType) → (S.Denot → ℕ → P.Denot → S.Denot) → MutBor (Hotswap S.Denot P.Denot D.Denot) → ℕ → MutBor P.Denot → Fml
lends_pay S P D with_pay h row r = Lends (the_row S P D) P h r (lent_swap with_pay h.now row)
