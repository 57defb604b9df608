-- Where nothing was written, what is left wrote no more.
use Rattle.std.proofs.Common.{◌≡◌, ◌⊎◌, inl, inr, ℕ, ◌<◌, refl, sym, ◌∙◌, ap, subst}
use Rattle.device_port.specs.Device.{DeviceTold}
use Rattle.pull_nodes.specs.Runs.{IsIdle, IsUnwritten}
use Rattle.std.specs.Prelude.{List, Option, IfSome, []}
use Rattle.pull_nodes.specs.declared.node.Node.{Node}
use Rattle.pull_nodes.specs.declared.node.Node.TheVariants as node
use Rattle.pull_turns.specs.Around.{Around, StaysWell, gist}
use Rattle.pull_turns.specs.Rest.{IsFresh, IsIn, IsLive, IsReady, NoPlace, WritesNoMore}
use Rattle.pull_turns.specs.declared.rest.Rest.{Rest}
use Rattle.pull_turns.specs.declared.rest.Rest.TheVariants.{Nil, Start, Read, Within', Then', Through', Finishing, Faulty, Groups', Take', Into', Zip', Merge'}

-- what a device tells as written
pub written_same : (d e : DeviceTold) → gist e ≡ gist d → e.written ≡ d.written
written_same d e h = ap (λ (x : DeviceTold). x.written) h

-- and how many acts on it failed
pub stays_well : (d e : DeviceTold) → gist e ≡ gist d → StaysWell d e
stays_well d e h = (written_same d e h, ap (λ (x : DeviceTold). x.write_faults) h, ap (λ (x : DeviceTold). x.read_faults) h, ap (λ (x : DeviceTold). x.open_faults) h)

pub well_then : (d e f : DeviceTold) → StaysWell d e → StaysWell e f → StaysWell d f
well_then d e f h k = (k.0 ∙ h.0, k.1 ∙ h.1, k.2 ∙ h.2, k.3 ∙ h.3)

module _ (a : Around) (w : ℕ → DeviceTold) where
  -- a node that wasn't entered
  pub idle_fresh : (P : ℕ → Type 0) (s : ℕ) (n : Node) → IsFresh a P s n → ((p : ℕ) → IsIn p n → (w p).written ≡ (a.told p).written) → IsIdle w n
  idle_fresh P s node.Nil h f = tt
  idle_fresh P s (node.Emit l) h f = tt
  idle_fresh P s (node.Raise c) h f = tt
  idle_fresh P s (node.Read p) h f = tt
  idle_fresh P s (node.Weak' p _ n) h f = idle_fresh (λ q. (q ≡ p) ⊎ P q) s n h.2 (λ q i. f q (inr i))
  idle_fresh P s (node.Scope' _ n) h f = idle_fresh P s n h f
  idle_fresh P s (node.Append' _ n _ m) h f = (idle_fresh P s n h.1.0 (λ p i. f p (inl i)), idle_fresh P s m h.1.1 (λ p i. f p (inr i)))
  idle_fresh P s (node.OnFault' _ n _ m) h f = (idle_fresh P s n h.1.0 (λ p i. f p (inl i)), idle_fresh P s m h.1.1 (λ p i. f p (inr i)))
  idle_fresh P s (node.Through' _ n q) h f = idle_fresh P s n h f
  idle_fresh P s (node.Take' k _ n) h f = idle_fresh P s n h f
  idle_fresh P s (node.Into' p _ n) h f = (subst (λ o. IfSome o (λ bytes. bytes ≡ [])) (sym (f p (inl refl))) h.0.written, idle_fresh P s n h.3 (λ q i. f q (inr i)))
  idle_fresh P s (node.Zip' _ n _ m) h f = (idle_fresh P s n h.1.0 (λ p i. f p (inl i)), idle_fresh P s m h.1.1 (λ p i. f p (inr i)))
  idle_fresh P s (node.Merge' _ n _ m) h f = (idle_fresh P s n h.1.0 (λ p i. f p (inl i)), idle_fresh P s m h.1.1 (λ p i. f p (inr i)))

  pub writes_no_more : {F : Type 0} (s : ℕ) (r : Rest F) → IsReady a s r → ((p : ℕ) → IsLive p r → StaysWell (a.told p) (w p)) → WritesNoMore w r
  writes_no_more s Nil h f = tt
  writes_no_more s (Start n) h f = idle_fresh NoPlace s n h (λ p i. (f p i).0)
  writes_no_more s (Read p from) h f = tt
  writes_no_more s (Within' c _ r) h f = writes_no_more c r h.3 f
  writes_no_more s (Then' v _ r m) h f = (writes_no_more s r h.1 (λ p i. f p (inl i)), idle_fresh NoPlace s m.value h.2 (λ p i. (f p (inr i)).0))
  writes_no_more s (Through' _ r q) h f = writes_no_more s r h.0 f
  writes_no_more s (Finishing q) h f = tt
  writes_no_more s (Faulty c) h f = tt
  writes_no_more s (Groups' n g _ r) h f = writes_no_more s r h.2 f
  writes_no_more s (Take' n _ r) h f = λ some. writes_no_more s r (h.0 some) (λ p i. f p (some, i))
  writes_no_more s (Into' p v _ r) h f = ((f p (inl refl)).0 ∙ h.0.written, (f p (inl refl)).1 ∙ h.0.faults, writes_no_more s r h.3 (λ q i. f q (inr i)))
  writes_no_more s (Zip' z _ x _ y) h f = (writes_no_more s x h.1 (λ p i. f p (inl i)), writes_no_more s y h.2 (λ p i. f p (inr i)))
  writes_no_more s (Merge' m _ x _ y) h f = (writes_no_more s x h.1 (λ p i. f p (inl i)), writes_no_more s y h.2 (λ p i. f p (inr i)))
