-- An ideal run takes from a device its content and what was written to it alone.
use Rattle.std.proofs.Common.{◌≡◌, inl, inr, subst, sym, ℕ, List, [], ◌++◌}
use Rattle.std.specs.Prelude.{IfSome}
use Rattle.chunk_core.specs.Elements.{Element, rendering_of}
use Rattle.chunk_core.specs.Outcomes.{End, Outcomes}
use Rattle.device_port.specs.Device.{DeviceTold}
use Rattle.pull_nodes.specs.Runs.{IsIdealRun, IsIdle, IsUnwritten, OrLeft, ReadsWhole, ReadsWholeBy, Follows, Beside, Merged}
use Rattle.node_laws.specs.Laws.{TellSame, TellSameOf, TellWrittenSame}
use Rattle.pull_nodes.proofs.Folds.{each_of_two}
use Rattle.pull_nodes.specs.Shape.{written_place}
use Rattle.chunk_core.specs.Tables.{Values}
use Rattle.pull_nodes.specs.declared.node.Node.{Node}
use Rattle.pull_nodes.specs.declared.node.Node.TheVariants.{Nil, Emit, Raise, Read, Weak', Scope', Append', OnFault', Through', Take', Zip', Merge', Into'}

-- what A gives, B gives
abbrev Passes : Outcomes → Outcomes → Type 0
Passes A B = (ys : List Element) (e : End) → A ys e → B ys e

read_same : (d f : DeviceTold) → TellSame d f → Passes (ReadsWhole d) (ReadsWhole f)
read_same d f same ys e r = subst (λ o. ReadsWholeBy o f ys e) (sym same.2) (subst (λ o. ReadsWholeBy o d ys e) same.1 r)

follows : (Begins : End → Type 0) (A B C D : Outcomes) (P Q : Type 0) → (P → Q) → Passes A C → Passes B D → Passes (Follows Begins A B P) (Follows Begins C D Q)
follows Begins A B C D P Q i f g zs e (inl r) = inl (f zs e r.0, r.1, i r.2)
follows Begins A B C D P Q i f g zs e (inr r) = inr (r.0, r.1, r.2, f r.0 r.2 r.3, r.4, g r.1 e r.5, r.6)

or_left : (A B : Outcomes) (P Q : Type 0) → (P → Q) → Passes A B → Passes (OrLeft P A) (OrLeft Q B)
or_left A B P Q i f ys e (inl r) = inl (f ys e r)
or_left A B P Q i f ys e (inr (is, inl (none, idle))) = inr (is, inl (none, i idle))
or_left A B P Q i f ys e (inr (is, inr (more, g, r))) = inr (is, inr (more, g, f (ys ++ more) g r))

beside : (g : End) (A B : Outcomes) (P Q : Type 0) → (P → Q) → Passes A B → Passes (Beside g A P) (Beside g B Q)
beside g A B P Q i f ys e (inl r) = inl (f ys e r)
beside g A B P Q i f ys e (inr (is, r)) = inr (is, or_left A B P Q i f ys e r)

merged : (A B C D : Outcomes) (P Q R S : Type 0) → (P → R) → (Q → S) → Passes A C → Passes B D → Passes (Merged A P B Q) (Merged C R D S)
merged A B C D P Q R S i j f g zs h r =
    (r.0, r.1, r.2, r.3, beside r.3 A C P R i f r.0 r.2 r.4, beside r.2 B D Q S j g r.1 r.3 r.5, r.6, r.7)

-- where the same was written, nothing was
idle_same : (v w : ℕ → DeviceTold) (n : Node) → TellWrittenSame v w n → IsIdle v n → IsIdle w n
idle_same v w n =
    each_of_two (λ p. (v p).written ≡ (w p).written) (λ p. IsUnwritten (v p)) (λ p. IsUnwritten (w p)) (λ p is none. subst (λ o. IfSome o (λ bytes. bytes ≡ [])) is none) written_place n

module _ (t : Values) (v w : ℕ → DeviceTold) where
  pub told : (n : Node) → TellSameOf v w n → TellWrittenSame v w n → Passes (IsIdealRun t v n) (IsIdealRun t w n)
  told Nil c s ys e r = r
  told (Emit l) c s ys e r = r
  told (Raise m) c s ys e r = r
  told (Read p) c s ys e r = read_same (v p) (w p) c.0 ys e r
  told (Weak' p _ a) c s ys e r = told a c s ys e r
  told (Scope' _ a) c s ys e r = told a c s ys e r
  told (Append' _ a _ b) c s ys e r = follows _ _ _ _ _ _ _ (idle_same v w b s.1) (told a c.0 s.0) (told b c.1 s.1) ys e r
  told (OnFault' _ a _ b) c s ys e r = follows _ _ _ _ _ _ _ (idle_same v w b s.1) (told a c.0 s.0) (told b c.1 s.1) ys e r
  told (Through' _ a q) c s ys e r = (r.0, r.1, told a c s r.0 r.1 r.2, r.3)
  told (Take' n _ a) c s ys e r = (r.0, r.1, told a c s r.0 r.1 r.2, r.3)
  told (Zip' _ a _ b) c s ys e r = (r.0, r.1, r.2, r.3, told a c.0 s.0 r.0 r.2 r.4, told b c.1 s.1 r.1 r.3 r.5, r.6, r.7)
  told (Merge' _ a _ b) c s ys e r = merged _ _ _ _ _ _ _ _ (idle_same v w a s.0) (idle_same v w b s.1) (told a c.0 s.0) (told b c.1 s.1) ys e r
  told (Into' p _ a) c s ys e r = (r.0, told a c s.1 r.0 e r.1, r.2, subst (λ o. IfSome o (λ bytes. bytes ≡ rendering_of r.0)) s.0 r.3)
