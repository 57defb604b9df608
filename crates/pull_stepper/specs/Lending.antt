-- What a held device ends as, where it is lent.
use Rattle.std.specs.Borrow.{Lends, MutBor, Fml, RattleType}
use Rattle.pull_stepper.specs.contracts.held.Held.{the_row}

-- once the borrow r ends, it is the last device written through r
abbrev pub lends_device : (V : RattleType) → MutBor V.Denot → MutBor V.Denot → Fml
lends_device V held r = Lends (the_row V) V held r (λ w. w)
