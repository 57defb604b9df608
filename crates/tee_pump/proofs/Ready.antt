-- A branch at its queues is ready for a worker.
use Rattle.std.proofs.Common.{◌≡◌, ℕ, ◌⊎◌, inl, inr, List, [], ◌∷◌, ◌++◌, length, slice_set, Option, sym, ◌∙◌, subst, append_assoc, arith}
use Rattle.std.specs.List.{AllByRecursion}
use Rattle.chunk_core.proofs.Each.{among_each, each_snoc}
use Rattle.chunk_core.proofs.Members.{among_mid}
use Rattle.chunk_core.proofs.Totals.{each}
use Rattle.chunk_core.specs.Elements.{Element, LoadKind}
use Rattle.chunk_core.specs.Feed.{Meaning}
use Rattle.chunk_core.specs.Totals.{IsAt}
use Rattle.chunk_core.specs.declared.code.Code.{Code}
use Rattle.channel_bounded.specs.declared.message.Msg.{Msg}
use Rattle.topic_hub.specs.Subscribers.{SubscriberSeen}
use Rattle.tee_branches.specs.declared.branch.Branch.{Branch}
use Rattle.tee_branches.specs.Branches.{IsOfBytes, MayReceiveAll, MaySendAll}
use Rattle.tee_texts.specs.Texts.{AreTexts, IsText}
use Rattle.tee_workers.specs.Hiring.{IsHired}
use Rattle.tee_workers.specs.Returns.{IsReady}
use Rattle.tee_workers.specs.declared.hired.Hired.{Hired}
use Rattle.tee_pump.specs.Branches.{AreBranches, AreHired, AreHiredFirst, IsBranch, IsHiredAs, SharedSeen}
use Rattle.tee_pump.specs.Pieces.{ArePieces}
use Rattle.tee_pump.proofs.Places.{at_below, at_some, at_snoc}

pub may_receive : (s : SubscriberSeen) → MayReceiveAll ArePieces s
may_receive s = record {
  keeps = λ got m rest f. subst (AllByRecursion (λ x. IsOfBytes x.body)) (sym (append_assoc got (m ∷ []) rest)) f.1;
  bytes = λ got m rest f. among_each (λ (x : Msg). IsOfBytes x.body) m (got ++ m ∷ rest) f.1 (among_mid got rest m);
}

pub may_send : (capacity k : ℕ) → MaySendAll AreTexts capacity k
may_send capacity k sent m t got queued l w a = subst (AllByRecursion (λ x. IsText x.body)) (append_assoc got queued (m ∷ [])) (each_snoc (λ (x : Msg). IsText x.body) (got ++ queued) m a t.1)

module _ {F : Type 0} (StandsFor : F → Meaning → List Element → Type 0) (Comes : F → LoadKind → List Element → Option Code → Type 0) (s : SharedSeen) where
  pub is_ready : (i : ℕ) (m : Meaning) (b : Branch F) → IsBranch StandsFor Comes s i m b → IsReady StandsFor Comes ArePieces AreTexts b s.topic s.hub s.board
  is_ready i m b h = record {
    branch = (m, h.branch);
    at = h.at;
    may_receive = may_receive b.source;
    may_send_all = may_send s.hub.capacity b.number;
  }

  pub branch_ready : (ms : List Meaning) (bs : List (Branch F)) (i : ℕ) (b : Branch F) → AreBranches StandsFor Comes s ms bs → IsAt bs i b → IsReady StandsFor Comes ArePieces AreTexts b s.topic s.hub s.board
  branch_ready ms bs i b a at =
      let l = at_below bs i b at in
      let c = a.count in
      let m = at_some ms i (omega (arith, l, c)) in
      is_ready i m.0 b (a.each i m.0 b m.1 at)

  -- so is the branch at each place
  pub hired_ready : (ms : List Meaning) (hs : List (Hired F)) (i : ℕ) (h : Hired F) → AreHired StandsFor Comes s ms hs → IsAt hs i h → (first : Branch F) × IsHired StandsFor Comes first h × IsReady StandsFor Comes ArePieces AreTexts first s.topic s.hub s.board
  hired_ready ms hs i h a at =
      let l = at_below hs i h at in
      let c = a.count in
      let m = at_some ms i (omega (arith, l, c)) in
      let x = a.each i m.0 h m.1 at in
      (x.0, x.2, is_ready i m.0 x.0 x.1)

  -- one of them was given a turn
  pub hired_turned : (ms : List Meaning) (hs : List (Hired F)) (i : ℕ) (old new : Hired F) → AreHired StandsFor Comes s ms hs → IsAt hs i old → ((first : Branch F) → IsHired StandsFor Comes first old → IsHired StandsFor Comes first new) → length (slice_set hs i new) ≡ length hs → AreHired StandsFor Comes s ms (slice_set hs i new)
  hired_turned ms hs i old new a at keeps same = record {
    count = same ∙ a.count;
    each = λ j m h q g. each hs i new (λ k x. IsAt ms k m → IsHiredAs StandsFor Comes s k m x) (λ p. let t = a.each i m old p at in (t.0, t.1, keeps t.0 t.2)) (λ k x ne y p. a.each k m x p y) j h g q;
  }

  -- one more was begun
  pub hired_more : (ms : List Meaning) (hs : List (Hired F)) (b : Branch F) (h : Hired F) (n : ℕ) → length hs ≡ n → AreHiredFirst StandsFor Comes s ms hs → ((m : Meaning) → IsAt ms n m → IsBranch StandsFor Comes s n m b) → IsHired StandsFor Comes b h → AreHiredFirst StandsFor Comes s ms (hs ++ h ∷ [])
  hired_more ms hs b h n c a is begun i m x q g = more (at_snoc hs h x i g)
    where
      more : IsAt hs i x ⊎ ((i ≡ length hs) × (x ≡ h)) → IsHiredAs StandsFor Comes s i m x
      more (inl o) = a i m x q o
      more (inr t) = let e = t.0 ∙ c in subst (λ y. IsHiredAs StandsFor Comes s i m y) (sym t.1) (b, subst (λ k. IsBranch StandsFor Comes s k m b) (sym e) (is m (subst (λ k. IsAt ms k m) e q)), begun)
