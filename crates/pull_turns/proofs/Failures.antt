-- What an end tells of failures: where nothing failed each end tells of it, and where what is left may run on nothing has failed that isn't told.
use Rattle.std.proofs.Common.{◌≡◌, ◌⊎◌, inl, inr, ℕ, refl, ◌∙◌}
use Rattle.chunk_core.specs.declared.code.Code.TheVariants as code
use Rattle.chunk_core.specs.Outcomes.{End, Cut}
use Rattle.device_port.specs.Device.{DeviceTold}
use Rattle.pull_nodes.specs.Failures.{HasNoFailure, TellsFailures}
use Rattle.pull_nodes.proofs.Failures.{node_any, node_tells, once_any, one_any, turn_any}
use Rattle.pull_nodes.specs.Runs.{IsFault}
use Rattle.pull_nodes.specs.declared.node.Node.{Node}
use Rattle.pull_nodes.specs.declared.node.Node.TheVariants as node
use Rattle.pull_turns.specs.Around.{Around, StaysWell}
use Rattle.pull_turns.specs.Failures.{RestTells, TellsOn}
use Rattle.pull_turns.specs.Rest.{Begins, IsAsked, IsFresh, IsIn, IsLive, IsReady, NoPlace}
use Rattle.pull_turns.specs.Turned.{Over}
use Rattle.pull_turns.specs.declared.rest.Rest.{Rest}
use Rattle.pull_turns.specs.declared.rest.Rest.TheVariants.{Nil, Start, Read, Within', Then', Through', Finishing, Faulty, Groups', Take', Into', Zip', Merge'}
use Rattle.pull_turns.proofs.Kept.{asked_in}
use Rattle.pull_turns.proofs.Unwritten.{stays_well}

-- where the end g, which is no fault, tells of it, so does any other
module _ (g e : End) (never : IsFault g → ⊥) where
  pub rest_any : {F : Type 0} (w : ℕ → DeviceTold) (r : Rest F) → RestTells w r g → RestTells w r e
  rest_any w Nil h = tt
  rest_any w (Start n) h = node_any g e never w n h
  rest_any w (Read p from) h = once_any g e never (w p).read_faults code.Read (λ x. Unit {0}) (Unit {0}) (λ i. i) h
  rest_any w (Within' s _ a) h = rest_any w a h
  rest_any w (Then' v _ a b) h = turn_any g e never (Begins v) (RestTells w a) (TellsFailures w b.value) (HasNoFailure w b.value) (rest_any w a) (node_any g e never w b.value) h
  rest_any w (Through' _ a q) h = rest_any w a h
  rest_any w (Finishing q) h = tt
  rest_any w (Faulty c) h = tt
  rest_any w (Groups' n f _ a) h = rest_any w a h
  rest_any w (Take' n _ a) h = λ some. rest_any w a (h some)
  rest_any w (Into' p v _ a) h = once_any g e never (w p).write_faults code.Write (RestTells w a) (RestTells w a Cut) (rest_any w a) h
  rest_any w (Zip' z _ a _ b) h = one_any g e never (RestTells w a) (RestTells w b) (rest_any w a) (rest_any w b) h
  rest_any w (Merge' m _ a _ b) h = one_any g e never (RestTells w a) (RestTells w b) (rest_any w a) (rest_any w b) h

module _ (a : Around) (w : ℕ → DeviceTold) where
  -- nothing failed in a node that wasn't entered, where no read and no write failed since, and no open of what it acquires
  pub unfailed_by : (P : ℕ → Type 0) (s : ℕ) (n : Node) → IsFresh a P s n → ((p : ℕ) → IsIn p n → ((w p).write_faults ≡ (a.told p).write_faults) × ((w p).read_faults ≡ (a.told p).read_faults))
      → ((p : ℕ) → IsAsked p n → (w p).open_faults ≡ (a.told p).open_faults) → HasNoFailure w n
  unfailed_by P s node.Nil h f g = tt
  unfailed_by P s (node.Emit l) h f g = tt
  unfailed_by P s (node.Raise c) h f g = tt
  unfailed_by P s (node.Read p) h f g = (f p refl).1 ∙ h.0.faults
  unfailed_by P s (node.Weak' p _ n) h f g = (g p (inl refl) ∙ h.3.open_faults, unfailed_by (λ q. (q ≡ p) ⊎ P q) s n h.2 (λ q i. f q (inr i)) (λ q i. g q (inr i)))
  unfailed_by P s (node.Scope' _ n) h f g = unfailed_by P s n h f g
  unfailed_by P s (node.Append' _ n _ m) h f g = (unfailed_by P s n h.1.0 (λ p i. f p (inl i)) (λ p i. g p (inl i)), unfailed_by P s m h.1.1 (λ p i. f p (inr i)) (λ p i. g p (inr i)))
  unfailed_by P s (node.OnFault' _ n _ m) h f g = (unfailed_by P s n h.1.0 (λ p i. f p (inl i)) (λ p i. g p (inl i)), unfailed_by P s m h.1.1 (λ p i. f p (inr i)) (λ p i. g p (inr i)))
  unfailed_by P s (node.Through' _ n q) h f g = unfailed_by P s n h f g
  unfailed_by P s (node.Take' k _ n) h f g = unfailed_by P s n h f g
  unfailed_by P s (node.Into' p _ n) h f g = ((f p (inl refl)).0 ∙ h.0.faults, unfailed_by P s n h.3 (λ q i. f q (inr i)) g)
  unfailed_by P s (node.Zip' _ n _ m) h f g = (unfailed_by P s n h.1.0 (λ p i. f p (inl i)) (λ p i. g p (inl i)), unfailed_by P s m h.1.1 (λ p i. f p (inr i)) (λ p i. g p (inr i)))
  unfailed_by P s (node.Merge' _ n _ m) h f g = (unfailed_by P s n h.1.0 (λ p i. f p (inl i)) (λ p i. g p (inl i)), unfailed_by P s m h.1.1 (λ p i. f p (inr i)) (λ p i. g p (inr i)))

  pub unfailed_fresh : (P : ℕ → Type 0) (s : ℕ) (n : Node) → IsFresh a P s n → ((p : ℕ) → IsIn p n → StaysWell (a.told p) (w p)) → HasNoFailure w n
  unfailed_fresh P s n h f = unfailed_by P s n h (λ p i. let k = f p i in (k.1, k.2)) (λ p i. (f p (asked_in p n i)).3)

  -- what is left that may run on may be left, where nothing failed since
  pub rest_left : {F : Type 0} (s : ℕ) (r : Rest F) → IsReady a s r → ((p : ℕ) → IsLive p r → StaysWell (a.told p) (w p)) → RestTells w r Cut
  rest_left s Nil h f = tt
  rest_left s (Start n) h f = node_tells w n Cut (unfailed_fresh NoPlace s n h f)
  rest_left s (Read p from) h f = inl ((f p refl).2 ∙ h.1, tt)
  rest_left s (Within' c _ r) h f = rest_left c r h.3 f
  rest_left s (Then' v _ r m) h f = inl (rest_left s r h.1 (λ p i. f p (inl i)), unfailed_fresh NoPlace s m.value h.2 (λ p i. f p (inr i)))
  rest_left s (Through' _ r q) h f = rest_left s r h.0 f
  rest_left s (Finishing q) h f = tt
  rest_left s (Faulty c) h f = tt
  rest_left s (Groups' n g _ r) h f = rest_left s r h.2 f
  rest_left s (Take' n _ r) h f = λ some. rest_left s r (h.0 some) (λ p i. f p (some, i))
  rest_left s (Into' p v _ r) h f = inl ((f p (inl refl)).1 ∙ h.0.faults, rest_left s r h.3 (λ q i. f q (inr i)))
  rest_left s (Zip' z _ x _ y) h f = inl (rest_left s x h.1 (λ p i. f p (inl i)), rest_left s y h.2 (λ p i. f p (inr i)))
  rest_left s (Merge' m _ x _ y) h f = inl (rest_left s x h.1 (λ p i. f p (inl i)), rest_left s y h.2 (λ p i. f p (inr i)))

-- after a turn that goes on what was left before may be left, or end by what is no failure of its own
pub tells_stopped : {F : Type 0} (b : Around) (s : ℕ) (x new : Rest F) → TellsOn b.told x new → IsReady b s new → ((k : ℕ) → IsLive k new → IsLive k x) → (w : ℕ → DeviceTold) → Over b.told w x → (e : End) → RestTells w x e
tells_stopped b s x new tells ready live w o e =
    tells w (record { over = λ k i n. o.over k i; goes = o.goes }) e (rest_any Cut e (λ i. i) w new (rest_left b w s new ready (λ k i. stays_well (b.told k) (w k) (o.over k (live k i)))))
