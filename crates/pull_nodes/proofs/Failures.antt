-- What the end of a node tells of failures, by what the devices of its places tell.
use Rattle.std.proofs.Common.{◌≡◌, inl, inr, ℕ, sym, subst}
use Rattle.chunk_core.specs.declared.code.Code.{Code}
use Rattle.chunk_core.specs.declared.code.Code.TheVariants as code
use Rattle.chunk_core.specs.Outcomes.{End, Cut}
use Rattle.device_port.specs.Device.{DeviceTold}
use Rattle.pull_nodes.specs.Failures.{FailsOnce, HasNoFailure, TellsFailures, TellsInTurn, TellsOfOne}
use Rattle.pull_nodes.specs.Runs.{IsFault}
use Rattle.pull_nodes.specs.Shape.{EachPlace, acquired_place, used_place}
use Rattle.pull_nodes.specs.declared.node.Node.{Node}
use Rattle.pull_nodes.specs.declared.node.Node.TheVariants.{Nil, Emit, Raise, Read, Weak', Scope', Append', OnFault', Through', Take', Zip', Merge', Into'}

-- where the end g, which is no fault, tells of all, so does any other
module _ (g e : End) (never : IsFault g → ⊥) where
  pub once_any : (n : ℕ) (c : Code) (A : End → Type 0) (O : Type 0) → (A g → A e) → FailsOnce n c A O g → FailsOnce n c A O e
  once_any n c A O f = elim [ inl h ↦ inl (h.0, f h.1) | inr h ↦ absurd (never (subst IsFault (sym h.1) tt)) ]

  pub turn_any : (Begins A B : End → Type 0) (Un : Type 0) → (A g → A e) → (B g → B e) → TellsInTurn Begins A B Un g → TellsInTurn Begins A B Un e
  turn_any Begins A B Un f k = elim [ inl h ↦ inl (f h.0, h.1) | inr h ↦ inr (h.0, h.1, h.2, k h.3) ]

  pub one_any : (A B : End → Type 0) → (A g → A e) → (B g → B e) → TellsOfOne A B g → TellsOfOne A B e
  one_any A B f k = elim [ inl h ↦ inl (f h.0, h.1) | inr h ↦ inr (h.0, k h.1) ]

  pub node_any : (w : ℕ → DeviceTold) (n : Node) → TellsFailures w n g → TellsFailures w n e
  node_any w Nil h = tt
  node_any w (Emit l) h = tt
  node_any w (Raise c) h = tt
  node_any w (Read p) h = once_any (w p).read_faults code.Read (λ x. Unit {0}) (Unit {0}) (λ i. i) h
  node_any w (Weak' p _ n) h = once_any (w p).open_faults code.Open (TellsFailures w n) (HasNoFailure w n) (node_any w n) h
  node_any w (Scope' _ n) h = node_any w n h
  node_any w (Append' _ n _ m) h = turn_any _ (TellsFailures w n) (TellsFailures w m) (HasNoFailure w m) (node_any w n) (node_any w m) h
  node_any w (OnFault' _ n _ m) h = turn_any _ (TellsFailures w n) (TellsFailures w m) (HasNoFailure w m) (node_any w n) (node_any w m) h
  node_any w (Through' _ n q) h = node_any w n h
  node_any w (Take' k _ n) h = node_any w n h
  node_any w (Zip' _ n _ m) h = one_any (TellsFailures w n) (TellsFailures w m) (node_any w n) (node_any w m) h
  node_any w (Merge' _ n _ m) h = one_any (TellsFailures w n) (TellsFailures w m) (node_any w n) (node_any w m) h
  node_any w (Into' p _ n) h = once_any (w p).write_faults code.Write (TellsFailures w n) (TellsFailures w n Cut) (node_any w n) h

-- where nothing failed each end tells of it
pub node_tells : (w : ℕ → DeviceTold) (n : Node) (e : End) → HasNoFailure w n → TellsFailures w n e
node_tells w Nil e h = tt
node_tells w (Emit l) e h = tt
node_tells w (Raise c) e h = tt
node_tells w (Read p) e h = inl (h, tt)
node_tells w (Weak' p _ n) e h = inl (h.0, node_tells w n e h.1)
node_tells w (Scope' _ n) e h = node_tells w n e h
node_tells w (Append' _ n _ m) e h = inl (node_tells w n e h.0, h.1)
node_tells w (OnFault' _ n _ m) e h = inl (node_tells w n e h.0, h.1)
node_tells w (Through' _ n q) e h = node_tells w n e h
node_tells w (Take' k _ n) e h = node_tells w n e h
node_tells w (Zip' _ n _ m) e h = inl (node_tells w n e h.0, node_tells w m Cut h.1)
node_tells w (Merge' _ n _ m) e h = inl (node_tells w n e h.0, node_tells w m Cut h.1)
node_tells w (Into' p _ n) e h = inl (h.0, node_tells w n e h.1)

-- no act on the device failed
pub record IsWell (d : DeviceTold) : Type 0 where
  pub opening : d.open_faults ≡ 0
  pub reading : d.read_faults ≡ 0
  pub writing : d.write_faults ≡ 0

-- nothing failed where no act on a device of a place did
pub no_failure : (w : ℕ → DeviceTold) (n : Node) → EachPlace acquired_place (λ p. IsWell (w p)) n → EachPlace used_place (λ p. IsWell (w p)) n → HasNoFailure w n
no_failure w Nil a u = tt
no_failure w (Emit l) a u = tt
no_failure w (Raise c) a u = tt
no_failure w (Read p) a u = u.0.reading
no_failure w (Weak' p _ n) a u = (a.0.opening, no_failure w n a.1 u)
no_failure w (Scope' _ n) a u = no_failure w n a u
no_failure w (Append' _ n _ m) a u = (no_failure w n a.0 u.0, no_failure w m a.1 u.1)
no_failure w (OnFault' _ n _ m) a u = (no_failure w n a.0 u.0, no_failure w m a.1 u.1)
no_failure w (Through' _ n q) a u = no_failure w n a u
no_failure w (Take' k _ n) a u = no_failure w n a u
no_failure w (Zip' _ n _ m) a u = (no_failure w n a.0 u.0, no_failure w m a.1 u.1)
no_failure w (Merge' _ n _ m) a u = (no_failure w n a.0 u.0, no_failure w m a.1 u.1)
no_failure w (Into' p _ n) a u = (u.0.writing, no_failure w n a u.1)

-- What is told rests on the devices of the node's places alone.
module _ (v w : ℕ → DeviceTold) where
  -- the same of an act
  once_same : (f : DeviceTold → ℕ) (p : ℕ) (c : Code) (A B : End → Type 0) (O U : Type 0) (e : End) → v p ≡ w p → (A e → B e) → (O → U) → FailsOnce (f (v p)) c A O e → FailsOnce (f (w p)) c B U e
  once_same f p c A B O U e same g k h = subst (λ d. FailsOnce (f d) c B U e) same (elim h [ inl i ↦ inl (i.0, g i.1) | inr i ↦ inr (i.0, i.1, k i.2) ])

  turn_same : (Begins A B C D : End → Type 0) (O U : Type 0) (e : End) → ((g : End) → A g → C g) → ((g : End) → B g → D g) → (O → U) → TellsInTurn Begins A B O e → TellsInTurn Begins C D U e
  turn_same Begins A B C D O U e f g k = elim [ inl i ↦ inl (f e i.0, k i.1) | inr i ↦ inr (i.0, i.1, f i.0 i.2, g e i.3) ]

  one_same : (A B C D : End → Type 0) (e : End) → ((g : End) → A g → C g) → ((g : End) → B g → D g) → TellsOfOne A B e → TellsOfOne C D e
  one_same A B C D e f g = elim [ inl i ↦ inl (f e i.0, g Cut i.1) | inr i ↦ inr (f Cut i.0, g e i.1) ]

  unfailed_agrees : (n : Node) → EachPlace acquired_place (λ p. v p ≡ w p) n → EachPlace used_place (λ p. v p ≡ w p) n → HasNoFailure v n → HasNoFailure w n
  unfailed_agrees Nil a u h = tt
  unfailed_agrees (Emit l) a u h = tt
  unfailed_agrees (Raise c) a u h = tt
  unfailed_agrees (Read p) a u h = subst (λ (d : DeviceTold). d.read_faults ≡ 0) u.0 h
  unfailed_agrees (Weak' p _ n) a u h = (subst (λ (d : DeviceTold). d.open_faults ≡ 0) a.0 h.0, unfailed_agrees n a.1 u h.1)
  unfailed_agrees (Scope' _ n) a u h = unfailed_agrees n a u h
  unfailed_agrees (Append' _ n _ m) a u h = (unfailed_agrees n a.0 u.0 h.0, unfailed_agrees m a.1 u.1 h.1)
  unfailed_agrees (OnFault' _ n _ m) a u h = (unfailed_agrees n a.0 u.0 h.0, unfailed_agrees m a.1 u.1 h.1)
  unfailed_agrees (Through' _ n q) a u h = unfailed_agrees n a u h
  unfailed_agrees (Take' k _ n) a u h = unfailed_agrees n a u h
  unfailed_agrees (Zip' _ n _ m) a u h = (unfailed_agrees n a.0 u.0 h.0, unfailed_agrees m a.1 u.1 h.1)
  unfailed_agrees (Merge' _ n _ m) a u h = (unfailed_agrees n a.0 u.0 h.0, unfailed_agrees m a.1 u.1 h.1)
  unfailed_agrees (Into' p _ n) a u h = (subst (λ (d : DeviceTold). d.write_faults ≡ 0) u.0 h.0, unfailed_agrees n a u.1 h.1)

  pub tells_agrees : (n : Node) → EachPlace acquired_place (λ p. v p ≡ w p) n → EachPlace used_place (λ p. v p ≡ w p) n → (e : End) → TellsFailures v n e → TellsFailures w n e
  tells_agrees Nil a u e h = tt
  tells_agrees (Emit l) a u e h = tt
  tells_agrees (Raise c) a u e h = tt
  tells_agrees (Read p) a u e h = once_same (λ d. d.read_faults) p code.Read (λ g. Unit {0}) (λ g. Unit {0}) (Unit {0}) (Unit {0}) e u.0 (λ i. i) (λ i. i) h
  tells_agrees (Weak' p _ n) a u e h = once_same (λ d. d.open_faults) p code.Open (TellsFailures v n) (TellsFailures w n) (HasNoFailure v n) (HasNoFailure w n) e a.0 (tells_agrees n a.1 u e) (unfailed_agrees n a.1 u) h
  tells_agrees (Scope' _ n) a u e h = tells_agrees n a u e h
  tells_agrees (Append' _ n _ m) a u e h =
      turn_same _ (TellsFailures v n) (TellsFailures v m) (TellsFailures w n) (TellsFailures w m) (HasNoFailure v m) (HasNoFailure w m) e (tells_agrees n a.0 u.0) (tells_agrees m a.1 u.1) (unfailed_agrees m a.1 u.1) h
  tells_agrees (OnFault' _ n _ m) a u e h =
      turn_same _ (TellsFailures v n) (TellsFailures v m) (TellsFailures w n) (TellsFailures w m) (HasNoFailure v m) (HasNoFailure w m) e (tells_agrees n a.0 u.0) (tells_agrees m a.1 u.1) (unfailed_agrees m a.1 u.1) h
  tells_agrees (Through' _ n q) a u e h = tells_agrees n a u e h
  tells_agrees (Take' k _ n) a u e h = tells_agrees n a u e h
  tells_agrees (Zip' _ n _ m) a u e h = one_same (TellsFailures v n) (TellsFailures v m) (TellsFailures w n) (TellsFailures w m) e (tells_agrees n a.0 u.0) (tells_agrees m a.1 u.1) h
  tells_agrees (Merge' _ n _ m) a u e h = one_same (TellsFailures v n) (TellsFailures v m) (TellsFailures w n) (TellsFailures w m) e (tells_agrees n a.0 u.0) (tells_agrees m a.1 u.1) h
  tells_agrees (Into' p _ n) a u e h =
      once_same (λ d. d.write_faults) p code.Write (TellsFailures v n) (TellsFailures w n) (TellsFailures v n Cut) (TellsFailures w n Cut) e u.0 (tells_agrees n a u.1 e) (tells_agrees n a u.1 Cut) h
