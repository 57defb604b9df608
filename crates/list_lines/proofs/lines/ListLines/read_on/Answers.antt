use Rattle.std.proofs.Common.{◌≡◌, ◌≤◌, length, refl, subst, arith, rules}
use Rattle.std.proofs.lemmas.List.{take-append-le}
use Rattle.device_port.specs.Device.{moved}
use Rattle.list_lines.proofs.Reading.{below_limit, cut_at_end, cut_short, err_always, goes_fed, ok_then, r, stops_at_end, stops_endless, stops_failed, up_to_limit}
use Rattle.list_lines.proofs.lines.ListLines.read_on.Goals as goal

pub returns-then-self-eq-LIMIT-clause-at : goal.returns-then-self-eq-LIMIT-clause-at
returns-then-self-eq-LIMIT-clause-at g c m given lines h = stops_endless g.F.Feed.stands g.met.F.Feed.sound m lines (g.V.Device.told c.args.device.now) given c.args.self.now c.requires.lacks h _ refl refl c.if-self-eq-LIMIT.true

pub returns-in_default-clause-at : goal.returns-in_default-clause-at
returns-in_default-clause-at g c m given lines h = stops_failed g.F.Feed.stands g.met.F.Feed.sound m lines (g.V.Device.told c.args.device.now) given c.args.self.now c.requires.lacks h (g.V.Device.told c.read.new.self) _ refl refl c.in_default.ensures.failed

pub returns-then-count-eq0-clause-at : goal.returns-then-count-eq0-clause-at
returns-then-count-eq0-clause-at g c =
    let told = g.V.Device.told in
    let old = told c.args.device.now in
    let new = told c.read.new.self in
    let x = c.args.self.now in
    ok_then c.take_rest.result
    (λ last m given lines h.
    let q = r g.F.Feed.stands g.met.F.Feed.sound m lines old given x c.requires.lacks h in
    stops_at_end g.F.Feed.stands g.met.F.Feed.sound m lines old given x c.requires.lacks h new
    (subst (λ n. new ≡ moved n old) c.if-count-eq0.true c.in-Ok.ensures.ok)
    (c.in-Ok.ensures.end c.if-count-eq0.true)
    (below_limit g.F.Feed.stands g.met.F.Feed.sound m lines old given x c.requires.lacks h c.if-self-eq-LIMIT.false)
    c.take_rest.new.self
    (last m q.xs lines q.stands))
    c.take_rest.ensures

pub returns-then-count-eq0-clause-cut : goal.returns-then-count-eq0-clause-cut
returns-then-count-eq0-clause-cut g c =
    let told = g.V.Device.told in
    let old = told c.args.device.now in
    let new = told c.read.new.self in
    let x = c.args.self.now in
    err_always c.take_rest.result (λ m given lines h.
    cut_at_end g.F.Feed.stands g.met.F.Feed.sound m lines old given x c.requires.lacks h new
    (subst (λ n. new ≡ moved n old) c.if-count-eq0.true c.in-Ok.ensures.ok)
    (c.in-Ok.ensures.end c.if-count-eq0.true)
    (below_limit g.F.Feed.stands g.met.F.Feed.sound m lines old given x c.requires.lacks h c.if-self-eq-LIMIT.false))

pub returns-clause-at : goal.returns-clause-at
returns-clause-at g c =
    let told = g.V.Device.told in
    let old = told c.args.device.now in
    let new = told c.read.new.self in
    let x = c.args.self.now in
    let buffer = c.read.new.buf in
    let n = c.in-Ok.count in
    let fits : n ≤ length buffer = c.in-Ok.ensures.count in
    let len : length buffer ≡ c.min-room.result = search rules in
    let room = c.min-room.ensures in
    let few : n ≤ 4096 = omega (fits, len, room, arith) in
    ok_then c.take_in.result
    (λ t m given lines h.
    let q = r g.F.Feed.stands g.met.F.Feed.sound m lines old given x c.requires.lacks h in
    let most = up_to_limit g.F.Feed.stands g.met.F.Feed.sound m lines old given x c.requires.lacks h in
    goes_fed g.F.Feed.stands g.met.F.Feed.sound m lines old given x c.requires.lacks h new n buffer c.in-Ok.ensures.ok fits c.in-Ok.ensures.bytes few
    (omega (fits, len, room, most, arith))
    _ _ c.take_in.new.self
    (t m q.xs lines q.stands)
    refl
    (take-append-le n buffer _ fits))
    c.take_in.ensures

pub returns-clause-cut : goal.returns-clause-cut
returns-clause-cut g c =
    let told = g.V.Device.told in
    let old = told c.args.device.now in
    let new = told c.read.new.self in
    let x = c.args.self.now in
    let buffer = c.read.new.buf in
    let n = c.in-Ok.count in
    let fits : n ≤ length buffer = c.in-Ok.ensures.count in
    let len : length buffer ≡ c.min-room.result = search rules in
    let room = c.min-room.ensures in
    let few : n ≤ 4096 = omega (fits, len, room, arith) in
    err_always c.take_in.result (λ m given lines h.
    let most = up_to_limit g.F.Feed.stands g.met.F.Feed.sound m lines old given x c.requires.lacks h in
    cut_short g.F.Feed.stands g.met.F.Feed.sound m lines old given x c.requires.lacks h new n buffer c.in-Ok.ensures.ok fits c.in-Ok.ensures.bytes few
    (omega (fits, len, room, most, arith)))
