-- The tree over the seat has room for the node, and the job is at the hub and at the board.
use Rattle.std.proofs.Common.{None, ap, subst, sym, ◌∙◌, []}
use Rattle.interrupt_ctx.specs.Ends.{SeatSeen}
use Rattle.pull_stepper.specs.Stepping.{Stepping, begun}
use Rattle.pull_turns.specs.Piping.{standing}
use Rattle.scope_tree.specs.Trees.{Fits, seen}
use Rattle.scope_tree.specs.declared.tree.Tree.{Tree}
use Rattle.channel_bounded.specs.Ends.{HubSeen, SenderSeen}
use Rattle.stream_jobs.specs.Jobs.{IsAt, IsJob, JobSeen}
use Rattle.collector.proofs.Beginning.{guest_room, is_of, job_at, unmade_so}
use Rattle.collector.proofs.collector.Collector.job_of.Goals as goal

pub new-requires-clause-tree : goal.new-requires-clause-tree
new-requires-clause-tree g c = (c.new-tree.ensures.fits c.args.desk.now c.requires.fits).sound

pub new-requires-clause-room : goal.new-requires-clause-room
new-requires-clause-room g c =
    let n = c.new-tree.ensures in
    guest_room c.args.made.parts.node (g.S.RowSeat.view c.args.seat) c.args.made.parts.room (seen g.S.RowSeat.view c.new-tree.result) n.seen n.root n.owed n.used c.requires.guest.start.opened c.args.lease.rows.items c.requires.room

pub unmade-requires-clause-fits : goal.unmade-requires-clause-fits
unmade-requires-clause-fits g c = subst (λ t. Fits g.S.RowSeat.view g.S.RowSeat.fits t c.args.desk.now) (sym c.in-Err.ensures.unmade.0) (c.new-tree.ensures.fits c.args.desk.now c.requires.fits)

pub unmade-requires-clause-unmade : goal.unmade-requires-clause-unmade
unmade-requires-clause-unmade g c =
    let n = c.new-tree.ensures in
    let view = g.S.RowSeat.view in
    let a = seen view c.new-tree.result in (
      _,
      unmade_so c.args.made.parts.node (view c.args.seat) c.args.made.parts.room a n.seen n.root n.owed n.used c.requires.guest.start.opened c.args.lease.rows.items c.requires.room g.V.Device.told c.args.self.now.next c.args.chunk c.args.made.parts.devices
          (g.F.PipeState.values c.args.made.tables) c.seat_for-board.result (seen view c.in-Err.field-0.tree) c.in-Err.field-0.devices (ap (λ (x : Tree _ _ _). seen view x) c.in-Err.ensures.unmade.0) c.in-Err.ensures.unmade.1 c.requires.guest c.requires.supplied c.requires.chunk,
    )

pub returns-in-Ok-clause-makes : goal.returns-in-Ok-clause-makes
returns-in-Ok-clause-makes g c =
    let n = c.new-tree.ensures in
    let view = g.S.RowSeat.view in
    let told = g.V.Device.told in
    let P = standing g.F.Feed.stands g.F.Feed.comes in
    let values = g.F.PipeState.values in
    let node = c.args.made.parts.node in
    let T = c.args.lease.rows.items in
    let k = c.args.self.now.next in
    let seat = c.seat_for-board.result in
    let ds = c.args.made.parts.devices in
    let t = values c.args.made.tables in
    let a = seen view c.new-tree.result in
    let j = c.new-in-Ok.result in
    let first = begun node a ds t c.args.chunk in
    let other = c.seat_for-board.ensures.other in
    let job = subst (λ (s : Stepping _ _). IsJob view values told P (record { stream = k; leased = T; start = s; board = seat }) j) c.in-Ok.ensures.begun c.new-in-Ok.ensures.job in
    record {
      site = a;
      seat = ap (λ x. x.seat) n.seen;
      scopes = ap (λ x. x.scopes) n.seen ∙ c.requires.room.scopes;
      is_of = is_of node (view c.args.seat) c.args.made.parts.room a n.seen n.root n.owed n.used c.requires.guest.start.opened T c.requires.room told k c.args.chunk ds t _ c.requires.guest c.requires.supplied c.requires.chunk;
      job = subst (λ (b : SeatSeen). IsJob view values told P (record { stream = k; leased = T; start = first; board = b }) j) other job;
      fits_desk = c.new-in-Ok.ensures.fits c.args.desk.now (c.in-Ok.ensures.fits c.args.desk.now (n.fits c.args.desk.now c.requires.fits));
      place = subst (λ (x : JobSeen _ _). IsAt x c.args.self.now.hub c.args.self.now.stops.board) (sym c.new-in-Ok.ensures.seen)
          (job_at _ seat c.split-sender.result None k c.args.self.now.hub c.args.self.now.stops.board (ap (λ (x : SeatSeen). x.board) other ∙ c.requires.seated.fits) (c.split-sender.ensures.sender ∙ ap (λ (h : HubSeen). let y : SenderSeen = record { hub = h.id; stream = c.args.self.now.next; sent = [] } in y) c.get.ensures) c.requires.context c.requires.number);
    }

pub returns-in-Err-clause-makes : goal.returns-in-Err-clause-makes
returns-in-Err-clause-makes g c =
    let n = c.new-tree.ensures in
    let view = g.S.RowSeat.view in
    let told = g.V.Device.told in
    let P = standing g.F.Feed.stands g.F.Feed.comes in
    let values = g.F.PipeState.values in
    let node = c.args.made.parts.node in
    let T = c.args.lease.rows.items in
    let k = c.args.self.now.next in
    let seat = c.seat_for-board.result in
    let ds = c.args.made.parts.devices in
    let t = values c.args.made.tables in
    let a = seen view c.new-tree.result in
    let j = c.unmade.result in
    let other = c.seat_for-board.ensures.other in
    let job = c.unmade.ensures.job _
    (unmade_so node (view c.args.seat) c.args.made.parts.room a n.seen n.root n.owed n.used c.requires.guest.start.opened T c.requires.room told k c.args.chunk ds t seat (seen view c.in-Err.field-0.tree) c.in-Err.field-0.devices
    (ap (λ (x : Tree _ _ _). seen view x) c.in-Err.ensures.unmade.0) c.in-Err.ensures.unmade.1 c.requires.guest c.requires.supplied c.requires.chunk) in
    record {
      site = a;
      seat = ap (λ x. x.seat) n.seen;
      scopes = ap (λ x. x.scopes) n.seen ∙ c.requires.room.scopes;
      is_of = is_of node (view c.args.seat) c.args.made.parts.room a n.seen n.root n.owed n.used c.requires.guest.start.opened T c.requires.room told k c.args.chunk ds t _ c.requires.guest c.requires.supplied c.requires.chunk;
      job = subst (λ (b : SeatSeen). IsJob view values told P (record { stream = k; leased = T; start = begun node a ds t c.args.chunk; board = b }) j) other job;
      fits_desk = c.unmade.ensures.fits;
      place = job_at _ j.board j.sender j.waiting k c.args.self.now.hub c.args.self.now.stops.board (job.learned.board ∙ (ap (λ (x : SeatSeen). x.board) other ∙ c.requires.seated.fits)) (c.unmade.ensures.sender ∙ (c.split-sender.ensures.sender ∙ ap (λ (h : HubSeen). let y : SenderSeen = record { hub = h.id; stream = c.args.self.now.next; sent = [] } in y) c.get.ensures)) c.requires.context c.requires.number;
    }
