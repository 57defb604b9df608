-- What is known may go to another thread.
use Rattle.std.proofs.Common.{ℕ, List}
use Rattle.std.specs.Prelude.{Option, Some, None}
use base.Fml.{Fml}
use base.Shift.{Keyless}
use denote.RattleType.{RattleType}
use denote.Param.Send.{IsSend, sendable}
use denote.Struct.Field.{unit-field}
use Rattle.logbook.specs.Kept.{offer_owns}
use Rattle.logbook.specs.contracts.tokens.Offer as Offer
use Rattle.logbook.specs.declared.tokens.Rule as rule
use Rattle.logbook.specs.declared.tokens.Gain as gain
use Rattle.known.specs.contracts.Known as Known
use Rattle.known.specs.contracts.Blank as Blank
use Rattle.known.specs.contracts.BlankRuleUnit.TheImpl as BlankRule
use Rattle.known.specs.contracts.BlankGainUnit.TheImpl as BlankGain

module _ {E A : Type 0} (kept : List E → Fml) (moves : List E → List E → A → Type 0) (g : A → Fml) (k : (xs : List E) → Keyless (kept xs)) (l : (r : A) → Keyless (g r)) where
  offer_keyless : (s : Option A) → Keyless (offer_owns kept moves g s)
  offer_keyless None = λ t _. (k t.0, (k t.1, l t.2))
  offer_keyless (Some r) = l r

pub offer_send : (E A P G : RattleType) (p : rule.Ghosts P.Denot E.Denot A.Denot) (g : gain.Ghosts G.Denot E.Denot A.Denot) → ((ns : List ℕ) (xs : List E.Denot) → Keyless (p.keeps ns xs)) → ((ns : List ℕ) (xs : List E.Denot) (r : A.Denot) → Keyless (g.after ns xs r)) → IsSend (Offer.the_row E A P G p g)
offer_send E A P G p g k l = record { owned = λ d vs. ((λ vss. (tt, ((λ uss. (tt, tt)), tt))), offer_keyless (p.keeps d.names) (p.moves d.ask) (g.after d.names d.about) (k d.names) (l d.names d.about) d.state); leaving = λ k f vs. tt }

inside_send : (V : RattleType) → IsSend (Known.TheInside.the_row V)
inside_send V = let a = offer_send V unit-field.row Blank.the_row Blank.the_row (BlankRule.ghosts V) (BlankGain.ghosts V) (λ ns xs. tt) (λ ns xs r. tt) in search sendable depth 8

pub known_send : (V : RattleType) → IsSend (Known.the_row V)
known_send V = let a = inside_send V in search sendable depth 8
