-- What a node may give rests on the devices of its places alone.
use Rattle.std.proofs.Common.{◌≡◌, ℕ, List, refl, ◌∙◌, ap, subst}
use Rattle.chunk_core.specs.Elements.{Element}
use Rattle.chunk_core.specs.Outcomes.{End, Done, Outcomes}
use Rattle.chunk_core.specs.Tables.{Values}
use Rattle.device_port.specs.Device.{DeviceTold}
use Rattle.pull_nodes.specs.Pipes.{all_of, part_of}
use Rattle.pull_nodes.specs.Runs.{Follows, Gives, IsFault, IsIdle, IsRun, IsUnwritten, Leeway, Merged, Piped, Taken, Zipped, any_leeway}
use Rattle.pull_nodes.specs.Shape.{EachPlace, EachWrite, acquired_place, used_place}
use Rattle.pull_nodes.specs.declared.node.Node.{Node}
use Rattle.pull_nodes.specs.declared.node.Node.TheVariants.{Nil, Emit, Raise, Read, Weak', Scope', Append', OnFault', Through', Take', Zip', Merge', Into'}

module _ (v w : ℕ → DeviceTold) where
  -- both have the same device at a place
  abbrev pub Agrees : ℕ → Type 0
  Agrees p = v p ≡ w p

  idle_is : (n : Node) → EachWrite Agrees n → IsIdle v n ≡ IsIdle w n
  idle_is Nil s = refl
  idle_is (Emit l) s = refl
  idle_is (Raise m) s = refl
  idle_is (Read p) s = refl
  idle_is (Weak' p _ a) s = idle_is a s
  idle_is (Scope' _ a) s = idle_is a s
  idle_is (Append' _ a _ b) s = ap (λ A. A × IsIdle v b) (idle_is a s.0) ∙ ap (λ B. IsIdle w a × B) (idle_is b s.1)
  idle_is (OnFault' _ a _ b) s = ap (λ A. A × IsIdle v b) (idle_is a s.0) ∙ ap (λ B. IsIdle w a × B) (idle_is b s.1)
  idle_is (Through' _ a q) s = idle_is a s
  idle_is (Take' n _ a) s = idle_is a s
  idle_is (Zip' _ a _ b) s = ap (λ A. A × IsIdle v b) (idle_is a s.0) ∙ ap (λ B. IsIdle w a × B) (idle_is b s.1)
  idle_is (Merge' _ a _ b) s = ap (λ A. A × IsIdle v b) (idle_is a s.0) ∙ ap (λ B. IsIdle w a × B) (idle_is b s.1)
  idle_is (Into' p _ a) s = ap (λ d. IsUnwritten d × IsIdle v a) s.0 ∙ ap (λ A. IsUnwritten (w p) × A) (idle_is a s.1)

  module _ (l : Leeway) (t : Values) where
    -- a part, which may be left
    left_by : (n : Node) → IsIdle v n ≡ IsIdle w n → Gives l t v n ≡ Gives l t w n → l.left (IsIdle v n) (Gives l t v n) ≡ l.left (IsIdle w n) (Gives l t w n)
    left_by n i g = ap (λ I. l.left I (Gives l t v n)) i ∙ ap (λ A. l.left (IsIdle w n) A) g

    gives_is : (n : Node) → EachPlace acquired_place Agrees n → EachPlace used_place Agrees n → EachWrite Agrees n → Gives l t v n ≡ Gives l t w n
    gives_is Nil c u s = refl
    gives_is (Emit x) c u s = refl
    gives_is (Raise m) c u s = refl
    gives_is (Read p) c u s = ap l.reads u.0
    gives_is (Weak' p _ a) c u s =
        ap (λ d. l.opens d (l.left (IsIdle v a) (Gives l t v a)) (IsIdle v a)) c.0 ∙ (ap (λ A. l.opens (w p) A (IsIdle v a)) (left_by a (idle_is a s) (gives_is a c.1 u s)) ∙ ap (λ I. l.opens (w p) (l.left (IsIdle w a) (Gives l t w a)) I) (idle_is a s))
    gives_is (Scope' _ a) c u s = left_by a (idle_is a s) (gives_is a c u s)
    gives_is (Append' _ a _ b) c u s =
        ap (λ A. Follows (λ g. g ≡ Done) A (l.left (IsIdle v b) (Gives l t v b)) (IsIdle v b)) (left_by a (idle_is a s.0) (gives_is a c.0 u.0 s.0))
        ∙ (ap (λ B. Follows (λ g. g ≡ Done) (l.left (IsIdle w a) (Gives l t w a)) B (IsIdle v b)) (left_by b (idle_is b s.1) (gives_is b c.1 u.1 s.1))
        ∙ ap (λ I. Follows (λ g. g ≡ Done) (l.left (IsIdle w a) (Gives l t w a)) (l.left (IsIdle w b) (Gives l t w b)) I) (idle_is b s.1))
    gives_is (OnFault' _ a _ b) c u s =
        ap (λ A. Follows IsFault A (l.left (IsIdle v b) (Gives l t v b)) (IsIdle v b)) (left_by a (idle_is a s.0) (gives_is a c.0 u.0 s.0))
        ∙ (ap (λ B. Follows IsFault (l.left (IsIdle w a) (Gives l t w a)) B (IsIdle v b)) (left_by b (idle_is b s.1) (gives_is b c.1 u.1 s.1))
        ∙ ap (λ I. Follows IsFault (l.left (IsIdle w a) (Gives l t w a)) (l.left (IsIdle w b) (Gives l t w b)) I) (idle_is b s.1))
    gives_is (Through' _ a q) c u s = ap (λ A. Piped (part_of t q) (all_of t q) A) (left_by a (idle_is a s) (gives_is a c u s))
    gives_is (Take' n _ a) c u s = ap (λ A. Taken n A) (left_by a (idle_is a s) (gives_is a c u s))
    gives_is (Zip' _ a _ b) c u s = ap (λ A. Zipped A (l.left (IsIdle v b) (Gives l t v b))) (left_by a (idle_is a s.0) (gives_is a c.0 u.0 s.0)) ∙ ap (λ B. Zipped (l.left (IsIdle w a) (Gives l t w a)) B) (left_by b (idle_is b s.1) (gives_is b c.1 u.1 s.1))
    gives_is (Merge' _ a _ b) c u s =
        ap (λ A. Merged A (IsIdle v a) (l.left (IsIdle v b) (Gives l t v b)) (IsIdle v b)) (left_by a (idle_is a s.0) (gives_is a c.0 u.0 s.0))
        ∙ (ap (λ I. Merged (l.left (IsIdle w a) (Gives l t w a)) I (l.left (IsIdle v b) (Gives l t v b)) (IsIdle v b)) (idle_is a s.0)
        ∙ (ap (λ B. Merged (l.left (IsIdle w a) (Gives l t w a)) (IsIdle w a) B (IsIdle v b)) (left_by b (idle_is b s.1) (gives_is b c.1 u.1 s.1))
        ∙ ap (λ I. Merged (l.left (IsIdle w a) (Gives l t w a)) (IsIdle w a) (l.left (IsIdle w b) (Gives l t w b)) I) (idle_is b s.1)))
    gives_is (Into' p _ a) c u s = ap (λ d. l.writes d (l.left (IsIdle v a) (Gives l t v a))) u.0 ∙ ap (λ A. l.writes (w p) A) (left_by a (idle_is a s.1) (gives_is a c u.1 s.1))

  -- a run over the one is one over the other
  pub run_agrees : (t : Values) (n : Node) → EachPlace acquired_place Agrees n → EachPlace used_place Agrees n → EachWrite Agrees n → (ys : List Element) (e : End) → IsRun t v n ys e → IsRun t w n ys e
  run_agrees t n c u s ys e r = subst (λ (O : Outcomes). O ys e) (left_by any_leeway t n (idle_is n s) (gives_is any_leeway t n c u s)) r
