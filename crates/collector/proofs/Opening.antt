-- The stream of a message that came is open.
use Rattle.std.proofs.Common.{◌≡◌, ℕ, zero, suc, List, [], ◌∷◌, map, Some, option_map, sym, ◌∙◌, ap, subst, inl, ⊎_elim}
use Rattle.chunk_core.specs.Lists.{IsAmong}
use Rattle.chunk_core.proofs.Members.{among_cons, among_mid, among_nil}
use Rattle.channel_bounded.specs.Ends.{HubSeen, ReceiverSeen}
use Rattle.channel_bounded.specs.Streams.{of_stream}
use Rattle.channel_bounded.specs.declared.message.Msg.{Msg}
use Rattle.interrupt_ctx.specs.Ends.{BoardSeen}
use Rattle.join_tale.specs.Tales as tales
use Rattle.join_tale.specs.Tales.{Fate, IsOpen, Tale}
use Rattle.join_tree.specs.Progress.{Progress}
use Rattle.run_rules.specs.Facts.{at}
use Rattle.scope_tree.specs.Calls.{Seen}
use Rattle.stream_jobs.specs.declared.job.Job.{Job}
use Rattle.dealt_streams.specs.declared.leftover.Leftover.{Leftover}
use Rattle.dealt_streams.specs.Kept.{AreKept, Gone, IsKept, number_of}
use Rattle.collector.specs.Members.{Members}
use Rattle.collector.specs.Streams.{KeepsStreams}
use Rattle.dealt_streams.specs.Kept.Gone.{Came, Missed}
use Rattle.dealt_streams.specs.Parts.{Part, fate_of}
use Rattle.dealt_streams.specs.Parts.Part.{Unmade}
use Rattle.collector.specs.Receiving.{HasGot}
use Rattle.collector.proofs.OneStream.{no_cons, none_more, of_own}

pub at_map : {A B : Type 0} (f : A → B) (xs : List A) (k : ℕ) (x : A) → at xs k ≡ Some x → at (map f xs) k ≡ Some (f x)
at_map f [] k x e = cc
at_map f (y ∷ ys) zero x e = ap (option_map f) e
at_map f (y ∷ ys) (suc k) x e = at_map f ys k x e

-- a stream that was begun wasn't unmade
pub begun_made : {V F : Type 0} (parts : List (Part V F)) (k : ℕ) (ds : List V) → at (map fate_of parts) k ≡ Some tales.Fate.Begun → at parts k ≡ Some (Unmade ds) → ⊥
begun_made parts k ds b u = let e : Some tales.Fate.Begun ≡ Some tales.Fate.Unmade = sym b ∙ at_map fate_of parts k (Unmade ds) u in cc

module _ {S V F D T : Type 0} (M : Members S V F D T) (parts : List (Part V F)) (progress : Progress V) (r : ReceiverSeen) (tale : Tale) where
  -- what is kept of a stream by its number
  pub kept_at : (k : ℕ) (xs : List (Leftover V)) (gs : List (Gone S V F)) → AreKept M.view M.told M.stands parts progress r tale xs gs → IsAmong k (map number_of gs) → (x : Leftover V) × (g : Gone S V F) × IsKept M.view M.told M.stands parts progress r tale x g × (number_of g ≡ k)
  kept_at k [] [] kept m = absurd (among_nil m)
  kept_at k [] (g ∷ gs) kept m = absurd kept
  kept_at k (x ∷ xs) [] kept m = absurd kept
  kept_at k (x ∷ xs) (g ∷ gs) kept m = ⊎_elim (λ e. (x, g, kept.0, sym e)) (λ n. kept_at k xs gs kept.1 n) (among_cons m)

  -- the stream of a message that was queued hasn't ended
  not_kept : (m : Msg) (now : ReceiverSeen) (h : HasGot r m now) (x : Leftover V) (g : Gone S V F) → IsKept M.view M.told M.stands parts progress r tale x g → number_of g ≡ m.stream → at (map fate_of parts) m.stream ≡ Some tales.Fate.Begun → ⊥
  not_kept m now h x (Came n ds w e) kept is begun =
      let whole = h.sees.0.joined w.stream e.sender.sent kept.closed in
      let none = none_more (of_stream w.stream r.got) (of_stream w.stream (m ∷ h.rest)) (whole ∙ sym kept.got) in
      no_cons m (of_stream w.stream h.rest) (sym (of_own m w.stream h.rest (sym is)) ∙ none)
  not_kept m now h x (Missed k ds) kept is begun = begun_made parts m.stream ds begun (subst (λ i. at parts i ≡ Some (Unmade ds)) is kept.0)

module _ {S V F D T : Type 0} (M : Members S V F D T) (hub : HubSeen) (board : BoardSeen) (d : D) (b : Seen V) (js : List (Job S V F V D T)) (left : List (Leftover V)) (had : ReceiverSeen) (parts : List (Part V F)) (progress : Progress V) (tale : Tale) (s : KeepsStreams M hub board d b js left had parts progress tale) (fates : tale.fates ≡ map fate_of parts) (m : Msg) (now : ReceiverSeen) (h : HasGot had m now) where
  pub is_open : IsOpen tale m.stream
  is_open =
      let begun = (s.made m.stream).0 (h.sees.0.senders m (among_mid had.got h.rest m)) in
      let there = subst (λ fs. at fs m.stream ≡ Some tales.Fate.Begun) fates begun in
      (begun, λ come. let k = kept_at M parts progress had tale m.stream left s.gone s.kept ((s.numbers m.stream).1 (inl come)) in not_kept M parts progress had tale m now h k.0 k.1 k.2 k.3 there)
