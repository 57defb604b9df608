-- What a turn does to scopes.
use Rattle.std.specs.Prelude.{◌⊎◌, ◌≡◌, ℕ, ◌<◌, if◌then◌else◌, List, Option, None, IfSome, Box}
use Rattle.std.specs.Global.{Global}
use Rattle.chunk_core.specs.Outcomes.{exit_of}
use Rattle.chunk_core.specs.declared.load.Load.{Load}
use Rattle.pull_nodes.specs.declared.node.Node.{Node}
use Rattle.pull_nodes.specs.declared.node.Node.TheVariants as node
use Rattle.pull_turns.specs.Around.{Around, IsClosedWith}
use Rattle.pull_turns.specs.Groups.{GroupedOf}
use Rattle.pull_turns.specs.Moves.{IntoTurn, MergeTurn, TakenOf, ZipTurn, begins, how_of, side_left, turn_of_first}
use Rattle.pull_turns.specs.Passing.{Passes, after_pipe}
use Rattle.pull_turns.specs.Piping.{StateMeaning}
use Rattle.pull_turns.specs.declared.piping.After.{After}
use Rattle.stream_sides.specs.Sides.{IsNeeded, Sides}
use Rattle.stream_sides.specs.MergeTurns.{MergeTurns}
use Rattle.stream_sides.specs.declared.side.Side.TheVariants.{Left, Right}
use Rattle.pull_turns.specs.declared.rest.Rest.{Rest}
use Rattle.pull_turns.specs.declared.rest.Rest.TheVariants.{Nil, Start, Read, Within', Then', Through', Finishing, Faulty, Groups', Take', Into', Zip', Merge'}
use Rattle.pull_turns.specs.declared.turn.Turn.{Turn}
use Rattle.pull_turns.specs.declared.turn.Turn.TheVariants as turn

-- where the turn ends what ran in the scope c, the scope was closed with the exit of that end
abbrev pub ClosesAtEnd : Around → ℕ → Turn → Type 0
ClosesAtEnd now c t = IfSome (how_of t) (λ h. IsClosedWith now c (exit_of h))

module _ {F : Type 0} (before now : Around) where
  -- a node was entered in the scope s: for a Scope another one was opened within s, in which its part will run, and the device of a Weak that was opened is held by s
  abbrev pub EntersIn : ℕ → Node → Rest F → Turn → Type 0
  EntersIn s (node.Scope' _ n) y t =
      (c : ℕ) × (q : Box (Unit {0}) Global) × (y ≡ Within' c q (Start n)) × (t ≡ turn.Quiet)
      × now.within c s × (now.within s c → ⊥) × now.opened c × (before.opened c → ⊥)
  EntersIn s (node.Weak' p _ n) y t = t ≡ turn.Quiet → now.holds p s
  EntersIn s n y t = Unit {0}

module _ {F : Type 0} where
  -- a part made a turn, by which this came
  abbrev pub ComesOf : (Rest F → Turn → Type 0) → (Box (Unit {0}) Global → Rest F → Turn → Type 0) → Type 0
  ComesOf Part Whole = (q : Box (Unit {0}) Global) × (b : Rest F) × (u : Turn) × Part b u × Whole q b u

module _ {F : Type 0} (P : StateMeaning F) (before now : Around) where
  -- a turn in the scope s opened a scope for each Scope that it entered, and closed that scope where what ran in it has ended, with the exit of that end
  abbrev pub Scoped : ℕ → Rest F → Rest F → Turn → Type 0
  Scoped s Nil y t = Unit {0}
  Scoped s (Start n) y t = EntersIn before now s n y t
  Scoped s (Read p from) y t = Unit {0}
  Scoped s (Within' c _ a) y t = ComesOf (Scoped c a) (λ q b u. (y ≡ Within' c q b) × (t ≡ u) × ClosesAtEnd now c u)
  Scoped s (Then' w _ a m) y t = ComesOf (Scoped s a) (λ q b u. (y ≡ (if begins w u then Start m.value else Then' w q b m)) × (t ≡ turn_of_first w u))
  Scoped s (Through' _ a x) y t = ComesOf (Scoped s a) (λ q b u. (z : F) × (k : After) × Passes P x z u t k × (y ≡ after_pipe k (Through' q b z)))
  Scoped s (Finishing x) y t = Unit {0}
  Scoped s (Faulty c) y t = Unit {0}
  Scoped s (Groups' n f _ a) y t = f ≡ None → ComesOf (Scoped s a) (λ q b u. (g : Option Load) × GroupedOf n None g u t × (y ≡ Groups' n g q b))
  Scoped s (Into' p v _ a) y t = ComesOf (Scoped s a) (λ q b u. (z : Option (List ℕ)) × IntoTurn u t × (y ≡ Into' p z q b))
  Scoped s (Zip' z _ a _ b) y t =
      (IsNeeded z Left → ComesOf (Scoped s a) (λ q x u. (v : Sides) × (r : Box (Unit {0}) Global) × ZipTurn z Left v u t × (y ≡ Zip' v q x r b)))
      × (IsNeeded z Right → ComesOf (Scoped s b) (λ q x u. (v : Sides) × (r : Box (Unit {0}) Global) × ZipTurn z Right v u t × (y ≡ Zip' v r a q x)))
  Scoped s (Merge' m _ a _ b) y t =
      ComesOf (Scoped s a) (λ q x u. (n : MergeTurns) × (r : Box (Unit {0}) Global) × MergeTurn m Left n u t × (y ≡ Merge' n q (side_left u x) r b))
      ⊎ ComesOf (Scoped s b) (λ q x u. (n : MergeTurns) × (r : Box (Unit {0}) Global) × MergeTurn m Right n u t × (y ≡ Merge' n r a q (side_left u x)))
  Scoped s (Take' n _ a) y t = 0 < n → ComesOf (Scoped s a) (λ q b u. (m : ℕ) × TakenOf n m u t × (y ≡ Take' m q b))
