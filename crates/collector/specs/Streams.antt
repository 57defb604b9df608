-- The open streams of a collector, and those that are open no longer.
use Rattle.std.specs.Prelude.{◌≡◌, ◌⊎◌, ◌↔◌, ℕ, nat_eq, List, [], ◌∷◌, ◌++◌, map, Some}
use Rattle.std.specs.List.{IsDistinct}
use Rattle.channel_bounded.specs.Ends.{HubSeen, ReceiverSeen}
use Rattle.channel_bounded.specs.declared.message.Msg.{Msg}
use Rattle.chunk_core.specs.Lists.{IsAmong}
use Rattle.interrupt_ctx.specs.Ends.{BoardSeen}
use Rattle.join_tale.specs.Tales as tales
use Rattle.join_tale.specs.Tales.{HasCome, IsOpen, Tale}
use Rattle.join_tree.specs.Guests.{AreOut, Guest}
use Rattle.join_tree.specs.Progress.{Progress}
use Rattle.pull_nodes.specs.declared.node.Node.{Node}
use Rattle.run_rules.specs.Facts.{at}
use Rattle.scope_tree.specs.Calls.{Seen}
use Rattle.stream_jobs.specs.declared.job.Job.{Job}
use Rattle.stream_jobs.specs.declared.job.JobEnd.{JobEnd}
use Rattle.stream_jobs.specs.Jobs.{FitsJob, IsAt, IsJob, seen_job}
use Rattle.stream_jobs.specs.Running.{Origin}
use Rattle.tree_families.specs.Families.{Split}
use Rattle.dealt_streams.specs.declared.leftover.Leftover.{Leftover}
use Rattle.dealt_streams.specs.Parts.{Part}
use Rattle.dealt_streams.specs.Parts.Part.{Begun}
use Rattle.dealt_streams.specs.Kept.{told_message, Gone, number_of, AreKept}
use Rattle.dealt_streams.specs.Kept.Gone.{Came}
use Rattle.collector.specs.Members.{Members}

-- a stream that is open, as a guest of the main tree
abbrev pub guest_of : {V F : Type 0} → Origin V F → Guest
guest_of w = record { stream = w.stream; floor = w.start.site.tree.seat.floor; rows = w.leased }

module _ {S V F D T : Type 0} (M : Members S V F D T) where
  -- the job of an open stream, which is of this origin, fits the desk, and is at the hub and at the board
  pub record IsJobOf (hub : HubSeen) (board : BoardSeen) (d : D) (parts : List (Part V F)) (j : Job S V F V D T) (w : Origin V F) : Type 0 where
    pub node : Node
    pub devices : List V
    pub begun : at parts w.stream ≡ Some (Begun node devices w)
    pub job : IsJob M.view M.values M.told M.stands w j
    pub fits_desk : FitsJob M.view M.told M.fits j d
    pub place : IsAt (seen_job M.view M.values j) hub board

  -- the open jobs are those of these origins
  abbrev pub AreJobs : HubSeen → BoardSeen → D → List (Part V F) → List (Job S V F V D T) → List (Origin V F) → Type 0
  AreJobs hub board d parts [] [] = Unit {0}
  AreJobs hub board d parts (j ∷ js) (w ∷ ws) = IsJobOf hub board d parts j w × AreJobs hub board d parts js ws
  AreJobs hub board d parts _ _ = ⊥

  -- The open streams, whose seats are out, and what is kept of those that are open no longer. What came through the channel is what the tale tells, and a stream that was begun has or had a sender.
  pub record KeepsStreams (hub : HubSeen) (board : BoardSeen) (d : D) (b : Seen V) (jobs : List (Job S V F V D T)) (left : List (Leftover V)) (receiver : ReceiverSeen) (parts : List (Part V F)) (progress : Progress V) (tale : Tale) : Type 0 where
    pub origins : List (Origin V F)
    pub jobs_are : AreJobs hub board d parts jobs origins
    pub out : AreOut b progress.splits (map guest_of origins)
    pub opens : (k : ℕ) → IsAmong k (map (λ w. w.stream) origins) ↔ IsOpen tale k
    pub begun : (k : ℕ) → tales.IsBegun tale k ↔ ((m : Split) × IsAmong m progress.splits × (m.stream ≡ k))
    pub gone : List (Gone S V F)
    pub kept : AreKept M.view M.told M.stands parts progress receiver tale left gone
    pub apart : IsDistinct nat_eq (map number_of gone)
    pub numbers : (k : ℕ) → IsAmong k (map number_of gone) ↔ (HasCome tale k ⊎ (at tale.fates k ≡ Some tales.Fate.Unmade))
    pub given : (y : Seen V) → IsAmong y progress.back → (z : ℕ × V) → IsAmong z y.seat.given → IsAmong z b.seat.given
    pub home : (y : Seen V) → IsAmong y progress.back → (n : Node) × (ds : List V) × (w : Origin V F) × (e : JobEnd S V) × IsAmong (Came n ds w e) gone × (y.seat ≡ M.view e.seat)
    pub hub_is : receiver.hub ≡ hub.id
    pub got : map told_message receiver.got ≡ tale.front ++ tale.late
    pub made : (k : ℕ) → IsAmong k receiver.made ↔ tales.IsBegun tale k
    pub closed : (k : ℕ) (sent : List Msg) → IsAmong (k, sent) receiver.closed → HasCome tale k
