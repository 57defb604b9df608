-- Each group is dealt once way was made for it, and the reading stops where that can't be.
use Rattle.std.proofs.Common.{[], ◌∷◌, ◌++◌, List, refl, arith}
use Rattle.chunk_core.specs.Elements.{Element}
use Rattle.eval_reader.specs.Reading.{seen_reader}
use Rattle.pull_stepper.specs.Steppers.{stepping}
use Rattle.pull_turns.specs.Piping.{standing}
use Rattle.eval_run.proofs.Pumped.{dealt_before, dealt_more, dealt_wanting, dealt_whole, nothing_dealt}
use Rattle.eval_run.proofs.pump.deal_all.Goals as goal

pub groups-init : goal.groups-init
groups-init g c = record {
  works = c.requires.fits;
  pumps = ([], [], nothing_dealt g.W.Work.result_of c.args.place.now.work.now c.args.place.now.lanes.now (g.K.Sink.told c.args.out.now) [] [] c.args.crew.now c.requires.crew, omega arith, ([], refl, c.requires.reading));
}

pub next_group-requires : goal.next_group-requires
next_group-requires g c =
    let i = c.groups.invariant in record { works = i.works; size = c.requires.size; grouping = (stepping g.S.RowSeat.view g.F.PipeState.values c.args.reader.now.stepper, i.pumps.4.0, i.pumps.4.2) }

pub make_way-requires : goal.make_way-requires
make_way-requires g c =
    let i = c.groups.invariant.pumps in record { some = c.requires.some.0; pumping = (g.K.Sink.told c.args.out.now, i.0, i.1, i.2, i.3, c.requires.sink) }

pub halt-requires : goal.halt-requires
halt-requires g c =
    let i = c.groups.invariant.pumps in
    let a = stepping g.S.RowSeat.view g.F.PipeState.values c.args.reader.now.stepper in
    let gives = rw c.in-Ok-Some.field-0-is at c.in-Ok-Some.ensures.gives in
    let given = gives a i.4.0 i.4.2 in
    record { works = c.in-Ok-Some.ensures.works; grouping = (a, c.args.size, i.4.0 ++ given.0 ∷ [], given.2) }

pub returns-in-Some-make_way-clause-deals : goal.returns-in-Some-make_way-clause-deals
returns-in-Some-make_way-clause-deals g c =
    let i = c.groups.invariant.pumps in
    let view = g.S.RowSeat.view in
    let values = g.F.PipeState.values in
    let first = g.K.Sink.told c.args.out.now in
    let a = stepping view values c.args.reader.now.stepper in
    let gives = rw c.in-Ok-Some.field-0-is at c.in-Ok-Some.ensures.gives in
    let given = gives a i.4.0 i.4.2 in
    let groups : List (List Element) = i.4.0 ++ given.0 ∷ [] in
    dealt_before (standing g.F.Feed.stands g.F.Feed.comes) g.V.Device.told g.W.Work.result_of c.args.place.now.work.now c.args.place.now.lanes.now c.args.size a first (g.K.Sink.told c.make_way.new.out) i.0 i.4.0 i.4.1 (stepping view values c.halt.new.self.stepper) c.make_way.new.crew
    (seen_reader view values c.halt.new.self) refl given.0 c.args.jobs c.make_way.result c.in-Some-make_way.stop c.in-Some-make_way.is (c.make_way.ensures first i.0 i.1 i.2 i.3) (c.halt.ensures.stopped a c.args.size groups given.2)

pub put-requires : goal.put-requires
put-requires g c =
    let i = c.groups.invariant.pumps in
    let m = c.make_way.ensures (g.K.Sink.told c.args.out.now) i.0 i.1 i.2 i.3 in
    let less = m.2 in let jobs = c.requires.some.1 in record { crew = (i.0, m.0, m.1.crew, omega (arith, less, jobs)) }

pub groups-preserved : goal.groups-preserved
groups-preserved g c =
    let i = c.groups.invariant.pumps in
    let view = g.S.RowSeat.view in
    let values = g.F.PipeState.values in
    let first = g.K.Sink.told c.args.out.now in
    let a = stepping view values c.args.reader.now.stepper in
    let load = c.in-Ok-Some.load in
    let gives = rw c.in-Ok-Some.field-0-is at c.in-Ok-Some.ensures.gives in
    let given = gives a i.4.0 i.4.2 in
    let m = c.make_way.ensures first i.0 i.1 i.2 i.3 in
    record {
      works = c.in-Ok-Some.ensures.works;
      pumps = dealt_more (standing g.F.Feed.stands g.F.Feed.comes) g.V.Device.told g.W.Work.result_of c.args.place.now.work.now c.args.place.now.lanes.now c.args.size a first (g.K.Sink.told c.make_way.new.out) i.0 i.4.0 i.4.1 c.make_way.new.crew c.put.new.self
          (seen_reader view values c.next_group.new.self) load given.0 given.1 c.args.jobs c.make_way.result c.in_default.is m (c.put.ensures i.0 m.0 m.1.crew) given.2;
    }

pub returns-in-Ok-None-clause-deals : goal.returns-in-Ok-None-clause-deals
returns-in-Ok-None-clause-deals g c =
    let i = c.groups.invariant.pumps in
    let view = g.S.RowSeat.view in
    let values = g.F.PipeState.values in
    let a = stepping view values c.args.reader.now.stepper in
    let gives = rw c.in-Ok-None.field-0-is at c.in-Ok-None.ensures.gives in
    dealt_whole (standing g.F.Feed.stands g.F.Feed.comes) g.V.Device.told g.W.Work.result_of c.args.place.now.work.now c.args.place.now.lanes.now c.args.size a (g.K.Sink.told c.args.out.now) (g.K.Sink.told c.groups.out) i.0 i.4.0 i.4.1 (stepping view values c.next_group.new.self.stepper) c.groups.crew
    (seen_reader view values c.next_group.new.self) refl i.1 i.2 (gives a i.4.0 i.4.2)

pub returns-in-Err-clause-deals : goal.returns-in-Err-clause-deals
returns-in-Err-clause-deals g c =
    let i = c.groups.invariant.pumps in
    let view = g.S.RowSeat.view in
    let values = g.F.PipeState.values in
    let a = stepping view values c.args.reader.now.stepper in
    dealt_wanting (standing g.F.Feed.stands g.F.Feed.comes) g.V.Device.told g.W.Work.result_of c.args.place.now.work.now c.args.place.now.lanes.now c.args.size a (g.K.Sink.told c.args.out.now) (g.K.Sink.told c.groups.out) i.0 i.4.0 i.4.1 (stepping view values c.next_group.new.self.stepper) c.groups.crew
    (seen_reader view values c.next_group.new.self) refl i.1 i.2 (c.in-Err.ensures.gives a i.4.0 i.4.2)
