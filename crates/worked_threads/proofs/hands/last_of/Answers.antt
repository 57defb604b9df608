use Rattle.std.proofs.Common.{◌≡◌, ℕ, List, ◌++◌, Option, Some, None, false, length, option_to_list, refl, sym, subst, IfSome}
use Rattle.chunk_core.specs.Totals.{IsAt}
use Rattle.chunk_core.proofs.Places.{at_last, at_longer}
use Rattle.par_eval.specs.Hands.{HandSeen, IsHandAt}
use Rattle.worked_threads.proofs.hands.last_of.Goals as goal

popped : (P : HandSeen → Type 0) (old new : List HandSeen) (last : Option HandSeen) → old ≡ new ++ option_to_list last → ((i : ℕ) (hand : HandSeen) → IsAt old i hand → P hand) → IfSome last P
popped P old new (Some hand) e each = each (length new) hand (subst (λ (hs : List HandSeen). IsAt hs (length new) hand) (sym e) (at_last new hand (length new) refl))
popped P old new None e each = tt

pub returns-clause-last : goal.returns-clause-last
returns-clause-last c = popped (λ hand. IsHandAt c.args.lanes.now hand × (hand.over ≡ false)) c.args.hands.now.items c.pop.new.self.items c.pop.result c.pop.ensures.items c.requires.each

pub returns-clause-each : goal.returns-clause-each
returns-clause-each c = λ i hand at. c.requires.each i hand (subst (λ (hs : List HandSeen). IsAt hs i hand) (sym c.pop.ensures.items) (at_longer c.pop.new.self.items (option_to_list c.pop.result) i hand at))
