use Rattle.std.proofs.Common.{arith, refl}
use Rattle.pull_turns.proofs.Into.{can_write}
use Rattle.pull_turns.proofs.Led.{stays_open}
use Rattle.pull_turns.proofs.Passed.{can_pass}
use Rattle.pull_turns.proofs.Steps.{can_within}
use Rattle.pull_turns.proofs.Stepping.{after_broken, both_err, by_err, groups_broken, groups_stepped, into_broken, into_stepped, merge_left_broken, merge_left_stepped, merge_right_broken, merge_right_stepped, on_err, on_ok, same_broken, take_broken, take_over_stepped, take_stepped, then_broken, then_stepped, through_broken, through_stepped, waited_stepped, within_broken, within_stepped, zip_left_broken, zip_left_stepped, zip_right_broken, zip_right_stepped}
use Rattle.pull_turns.proofs.Zipping.{gives_lines, needs_right}
use Rattle.pull_turns.proofs.step.+step.Goals as goal

pub leave_at_end-requires-clause-scope : goal.leave_at_end-requires-clause-scope
leave_at_end-requires-clause-scope g t c =
    let can = can_within _ _ _ _ _ _ (rw c.in-Within.is at c.requires.ready) in
    stays_open _ _ _ _ can.nested can.opened can.ready (rw c.deref_mut.ensures.value at c.in_ok-turn-in-Within.ensures.stepped).turned.moved

pub returns-in_err-turn-in-Within-clause-broken : goal.returns-in_err-turn-in-Within-clause-broken
returns-in_err-turn-in-Within-clause-broken g t c =
    rw c.in-Within.is (on_err c.from_residual.result (within_broken _ _ _ _ _ (rw c.deref_mut.ensures.value at c.in_err-turn-in-Within.ensures.broken)))

pub returns-in_ok-turn-in-Within-clause-stepped : goal.returns-in_ok-turn-in-Within-clause-stepped
returns-in_ok-turn-in-Within-clause-stepped g t c =
    rw c.in-Within.is
    (within_stepped _ _ g.O.Outside.seen _ _ _ _ _ _ _ _ _ _ _ c.in_ok-turn-in-Within.turn (rw c.in-Within.is at c.requires.ready) c.leave_at_end.ensures.ends (rw c.deref_mut.ensures.value at c.in_ok-turn-in-Within.ensures.stepped))

pub returns-in_err-turn-in-Then-clause-broken : goal.returns-in_err-turn-in-Then-clause-broken
returns-in_err-turn-in-Then-clause-broken g t c =
    rw c.in-Then.is (on_err c.from_residual-in_err-turn-in-Then.result (then_broken _ _ _ _ _ _ (rw c.deref_mut-in-Then.ensures.value at c.in_err-turn-in-Then.ensures.broken)))

pub returns-in_ok-turn-in-Then-clause-stepped : goal.returns-in_ok-turn-in-Then-clause-stepped
returns-in_ok-turn-in-Then-clause-stepped g t c =
    rw (c.after_first.ensures.rest, c.after_first.ensures.turn, c.in-Then.is)
    (then_stepped _ _ _ _ _ _ _ _ _ _ _ _ _ c.in_ok-turn-in-Then.turn (rw c.in-Then.is at c.requires.ready) (rw c.deref_mut-in-Then.ensures.value at c.in_ok-turn-in-Then.ensures.stepped))

pub pass-requires : goal.pass-requires
pass-requires g t c =
    let ready = rw c.in-Through.is at c.requires.ready in
    can_pass _ _ _ _ _ _ _ _ ready.pipes.1 c.in_ok-below-in-Through.below (rw c.deref_mut-in-Through.ensures.value at c.in_ok-below-in-Through.ensures.stepped).turned

pub returns-in_err-below-in-Through-clause-broken : goal.returns-in_err-below-in-Through-clause-broken
returns-in_err-below-in-Through-clause-broken g t c =
    rw c.in-Through.is (on_err c.from_residual-in_err-below-in-Through.result (through_broken _ _ _ _ _ (rw c.deref_mut-in-Through.ensures.value at c.in_err-below-in-Through.ensures.broken)))

pub returns-in_err-turn-in-Through-clause-broken : goal.returns-in_err-turn-in-Through-clause-broken
returns-in_err-turn-in-Through-clause-broken g t c =
    let below = rw c.deref_mut-in-Through.ensures.value at c.in_ok-below-in-Through.ensures.stepped in
    rw c.in-Through.is (on_err c.from_residual-in_err-turn-in-Through.result (through_broken _ _ _ _ _ (after_broken _ _ _ _ _ _ _ c.in_ok-below-in-Through.below c.in_err-turn-in-Through.ensures.wants below.turned)))

pub returns-in_ok-turn-in-Through-clause-stepped : goal.returns-in_ok-turn-in-Through-clause-stepped
returns-in_ok-turn-in-Through-clause-stepped g t c =
    rw (c.go_through.ensures, c.in-Through.is)
    (through_stepped _ _ g.met.F.PipeState.dues g.met.F.Feed.sound _ _ _ _ _ _ _ _ _ _ _ c.in_ok-below-in-Through.below c.in_ok-turn-in-Through.turn c.in_ok-turn-in-Through.after (rw c.in-Through.is at c.requires.ready)
    (c.in_ok-turn-in-Through.ensures.passes (g.F.PipeState.values c.args.tables.now)) (rw c.deref_mut-in-Through.ensures.value at c.in_ok-below-in-Through.ensures.stepped))

pub returns-in-Some-clause-stepped : goal.returns-in-Some-clause-stepped
returns-in-Some-clause-stepped g t c =
    let ready = rw (c.in-Groups.is, ← c.in-Some.ensures.value) at c.requires.ready in
    let plain = rw c.in-Groups.is at c.requires.whole in
    rw (c.in-Groups.is, ← c.in-Some.ensures.value) (on_ok c.grouped.result c.grouped.ensures.groups (λ t h. waited_stepped _ _ _ _ _ _ _ _ _ _ c.in-Some.load _ t ready plain h))

pub returns-in-Some-clause-broken : goal.returns-in-Some-clause-broken
returns-in-Some-clause-broken g t c =
    by_err c.grouped.result c.grouped.ensures.wants (λ h. same_broken _ _)

pub returns-in_err-turn-in-Groups-clause-broken : goal.returns-in_err-turn-in-Groups-clause-broken
returns-in_err-turn-in-Groups-clause-broken g t c =
    rw (c.in-Groups.is, ← c.in_default-take.ensures.value) (on_err c.from_residual-in_err-turn-in-Groups.result (groups_broken _ _ _ _ _ _ (rw c.deref_mut-in-Groups.ensures.value at c.in_err-turn-in-Groups.ensures.broken)))

pub returns-in_ok-turn-in-Groups-clause-stepped : goal.returns-in_ok-turn-in-Groups-clause-stepped
returns-in_ok-turn-in-Groups-clause-stepped g t c =
    let ready = rw (c.in-Groups.is, ← c.in_default-take.ensures.value) at c.requires.ready in
    let plain = rw c.in-Groups.is at c.requires.whole in
    let groups = rw c.in_default-take.ensures.after at c.grouped-in-Groups.ensures.groups in
    let part = rw c.deref_mut-in-Groups.ensures.value at c.in_ok-turn-in-Groups.ensures.stepped in
    rw (c.in-Groups.is, ← c.in_default-take.ensures.value) (on_ok c.grouped-in-Groups.result groups (λ t h. groups_stepped _ _ _ _ _ _ _ _ _ _ _ _ _ c.in_ok-turn-in-Groups.turn t ready plain h part))

pub returns-in_ok-turn-in-Groups-clause-broken : goal.returns-in_ok-turn-in-Groups-clause-broken
returns-in_ok-turn-in-Groups-clause-broken g t c =
    let part = rw c.deref_mut-in-Groups.ensures.value at c.in_ok-turn-in-Groups.ensures.stepped in
    rw (c.in-Groups.is, ← c.in_default-take.ensures.value) (by_err c.grouped-in-Groups.result c.grouped-in-Groups.ensures.wants (λ h. groups_broken _ _ _ _ _ _ (after_broken _ _ _ _ _ _ _ c.in_ok-turn-in-Groups.turn h part.turned)))

pub returns-then-wanted-eq0-clause-stepped : goal.returns-then-wanted-eq0-clause-stepped
returns-then-wanted-eq0-clause-stepped g t c =
    rw c.in-Take.is (take_over_stepped _ _ _ _ _ _ _ _ _ (rw c.in-Take.is at c.requires.ready) c.if-wanted-eq0.true)

pub returns-in_err-turn-in-Take-clause-broken : goal.returns-in_err-turn-in-Take-clause-broken
returns-in_err-turn-in-Take-clause-broken g t c =
    let zero_no = c.if-wanted-eq0.false in
    rw c.in-Take.is (on_err c.from_residual-in_err-turn-in-Take.result (take_broken _ _ _ _ _ (omega (arith, zero_no)) (rw c.deref_mut-in-Take.ensures.value at c.in_err-turn-in-Take.ensures.broken)))

pub returns-in_ok-turn-in-Take-clause-stepped : goal.returns-in_ok-turn-in-Take-clause-stepped
returns-in_ok-turn-in-Take-clause-stepped g t c =
    let zero_no = c.if-wanted-eq0.false in
    let ready = rw c.in-Take.is at c.requires.ready in
    let part = rw c.deref_mut-in-Take.ensures.value at c.in_ok-turn-in-Take.ensures.stepped in
    rw c.in-Take.is (on_ok c.taken.result c.taken.ensures.taken (λ t h. take_stepped _ _ _ _ _ _ _ _ _ _ _ _ _ c.in_ok-turn-in-Take.turn t ready (omega (arith, zero_no)) h part))

pub returns-in_ok-turn-in-Take-clause-broken : goal.returns-in_ok-turn-in-Take-clause-broken
returns-in_ok-turn-in-Take-clause-broken g t c =
    let zero_no = c.if-wanted-eq0.false in
    let part = rw c.deref_mut-in-Take.ensures.value at c.in_ok-turn-in-Take.ensures.stepped in
    rw c.in-Take.is (by_err c.taken.result c.taken.ensures.wants (λ h. take_broken _ _ _ _ _ (omega (arith, zero_no)) (after_broken _ _ _ _ _ _ _ c.in_ok-turn-in-Take.turn h part.turned)))

pub write_load-requires-clause-can : goal.write_load-requires-clause-can
write_load-requires-clause-can g t c =
    let ready = rw c.in-Into.is at c.requires.ready in
    can_write _ _ _ _ _ _ _ _ _ _ ready c.in_ok-below-in-Into.below (rw c.deref_mut-in-Into.ensures.value at c.in_ok-below-in-Into.ensures.stepped).turned

pub returns-in_err-below-in-Into-clause-broken : goal.returns-in_err-below-in-Into-clause-broken
returns-in_err-below-in-Into-clause-broken g t c =
    rw c.in-Into.is (on_err c.from_residual-in_err-below-in-Into.result (into_broken _ _ _ _ _ _ (rw c.deref_mut-in-Into.ensures.value at c.in_err-below-in-Into.ensures.broken)))

pub returns-in_ok-below-in-Into-clause-stepped : goal.returns-in_ok-below-in-Into-clause-stepped
returns-in_ok-below-in-Into-clause-stepped g t c =
    let ready = rw c.in-Into.is at c.requires.ready in
    let part = rw c.deref_mut-in-Into.ensures.value at c.in_ok-below-in-Into.ensures.stepped in
    rw c.in-Into.is (on_ok c.write_load.result c.write_load.ensures.turn (λ t h. into_stepped _ _ g.O.Outside.seen _ _ _ _ _ _ _ _ _ _ _ _ _ c.in_ok-below-in-Into.below t ready h part))

pub returns-in_ok-below-in-Into-clause-broken : goal.returns-in_ok-below-in-Into-clause-broken
returns-in_ok-below-in-Into-clause-broken g t c =
    let part = rw c.deref_mut-in-Into.ensures.value at c.in_ok-below-in-Into.ensures.stepped in
    let same = both_err _ _ c.write_load.result c.write_load.ensures.same c.write_load.ensures.wants in
    rw c.in-Into.is (by_err c.write_load.result same (λ h. rw h.0 (into_broken _ _ _ _ _ _ (after_broken _ _ _ _ _ _ _ c.in_ok-below-in-Into.below h.1 part.turned))))

pub zipped-requires-clause-lines : goal.zipped-requires-clause-lines
zipped-requires-clause-lines g t c =
    let ready = rw c.in-Zip.is at c.requires.ready in
    gives_lines _ _ _ _ _ _ _ c.in_ok-below-in-Left.below ready.pipes.1 (rw c.deref_mut-in-Left.ensures.value at c.in_ok-below-in-Left.ensures.stepped).turned

pub returns-in_err-below-in-Left-clause-broken : goal.returns-in_err-below-in-Left-clause-broken
returns-in_err-below-in-Left-clause-broken g t c =
    rw c.in-Zip.is (on_err c.from_residual-in_err-below-in-Left.result (zip_left_broken _ _ _ _ _ _ _ (rw c.deref_mut-in-Left.ensures.value at c.in_err-below-in-Left.ensures.broken)))

pub returns-in_ok-below-in-Left-clause-stepped : goal.returns-in_ok-below-in-Left-clause-stepped
returns-in_ok-below-in-Left-clause-stepped g t c =
    let ready = rw c.in-Zip.is at c.requires.ready in
    let part = rw c.deref_mut-in-Left.ensures.value at c.in_ok-below-in-Left.ensures.stepped in
    rw c.in-Zip.is (on_ok c.zipped.result c.zipped.ensures.turn (λ t h. zip_left_stepped _ _ _ _ _ _ _ c.in-Zip.state _ _ _ _ _ _ _ _ c.in_ok-below-in-Left.below t ready ((rw c.in-Left.is at c.need.ensures.left).0 refl) h part))

pub returns-in_ok-below-in-Left-clause-broken : goal.returns-in_ok-below-in-Left-clause-broken
returns-in_ok-below-in-Left-clause-broken g t c =
    let part = rw c.deref_mut-in-Left.ensures.value at c.in_ok-below-in-Left.ensures.stepped in
    rw c.in-Zip.is (by_err c.zipped.result c.zipped.ensures.wants (λ h. zip_left_broken _ _ _ _ _ _ _ (after_broken _ _ _ _ _ _ _ c.in_ok-below-in-Left.below h part.turned)))

pub zipped-requires-in-Right-clause-lines : goal.zipped-requires-in-Right-clause-lines
zipped-requires-in-Right-clause-lines g t c =
    let ready = rw c.in-Zip.is at c.requires.ready in
    gives_lines _ _ _ _ _ _ _ c.in_ok-below-in-Right.below ready.pipes.2 (rw c.deref_mut-in-Right.ensures.value at c.in_ok-below-in-Right.ensures.stepped).turned

pub returns-in_err-below-in-Right-clause-broken : goal.returns-in_err-below-in-Right-clause-broken
returns-in_err-below-in-Right-clause-broken g t c =
    rw c.in-Zip.is (on_err c.from_residual-in_err-below-in-Right.result (zip_right_broken _ _ _ _ _ _ _ (rw c.deref_mut-in-Right.ensures.value at c.in_err-below-in-Right.ensures.broken)))

pub returns-in_ok-below-in-Right-clause-stepped : goal.returns-in_ok-below-in-Right-clause-stepped
returns-in_ok-below-in-Right-clause-stepped g t c =
    let ready = rw c.in-Zip.is at c.requires.ready in
    let part = rw c.deref_mut-in-Right.ensures.value at c.in_ok-below-in-Right.ensures.stepped in
    rw c.in-Zip.is (on_ok c.zipped-in-Right.result c.zipped-in-Right.ensures.turn (λ t h. zip_right_stepped _ _ _ _ _ _ _ c.in-Zip.state _ _ _ _ _ _ _ _ c.in_ok-below-in-Right.below t ready (needs_right c.in-Zip.state (rw c.in-Right.is at c.need.ensures.left)) (rw c.in-Right.is at c.need.ensures.none) h part))

pub returns-in_ok-below-in-Right-clause-broken : goal.returns-in_ok-below-in-Right-clause-broken
returns-in_ok-below-in-Right-clause-broken g t c =
    let part = rw c.deref_mut-in-Right.ensures.value at c.in_ok-below-in-Right.ensures.stepped in
    rw c.in-Zip.is (by_err c.zipped-in-Right.result c.zipped-in-Right.ensures.wants (λ h. zip_right_broken _ _ _ _ _ _ _ (after_broken _ _ _ _ _ _ _ c.in_ok-below-in-Right.below h part.turned)))

pub returns-in_err-below-in-Left-next-clause-broken : goal.returns-in_err-below-in-Left-next-clause-broken
returns-in_err-below-in-Left-next-clause-broken g t c =
    rw c.in-Merge.is (on_err c.from_residual-in_err-below-in-Left-next.result (merge_left_broken _ _ _ _ _ _ _ (rw c.deref_mut-in-Left-next.ensures.value at c.in_err-below-in-Left-next.ensures.broken)))

pub returns-in_ok-below-in-Left-next-clause-stepped : goal.returns-in_ok-below-in-Left-next-clause-stepped
returns-in_ok-below-in-Left-next-clause-stepped g t c =
    let ready = rw c.in-Merge.is at c.requires.ready in
    let plain = rw c.in-Merge.is at c.requires.whole in
    rw (c.in-Merge.is, c.merged.ensures.part, c.deref_mut-in-Left-next-2.ensures.value)
    (merge_left_stepped _ _ _ _ _ _ _ _ _ _ _ _ _ _ _ _ c.in_ok-below-in-Left-next.below _ ready plain (rw c.in-Left-next.is at c.next.ensures.going) c.merged.ensures.turn (rw c.deref_mut-in-Left-next.ensures.value at c.in_ok-below-in-Left-next.ensures.stepped))

pub returns-in_err-below-in-Right-next-clause-broken : goal.returns-in_err-below-in-Right-next-clause-broken
returns-in_err-below-in-Right-next-clause-broken g t c =
    rw c.in-Merge.is (on_err c.from_residual-in_err-below-in-Right-next.result (merge_right_broken _ _ _ _ _ _ _ (rw c.deref_mut-in-Right-next.ensures.value at c.in_err-below-in-Right-next.ensures.broken)))

pub returns-in_ok-below-in-Right-next-clause-stepped : goal.returns-in_ok-below-in-Right-next-clause-stepped
returns-in_ok-below-in-Right-next-clause-stepped g t c =
    let ready = rw c.in-Merge.is at c.requires.ready in
    let plain = rw c.in-Merge.is at c.requires.whole in
    rw (c.in-Merge.is, c.merged-in-Right-next.ensures.part, c.deref_mut-in-Right-next-2.ensures.value)
    (merge_right_stepped _ _ _ _ _ _ _ _ _ _ _ _ _ _ _ _ c.in_ok-below-in-Right-next.below _ ready plain (rw c.in-Right-next.is at c.next.ensures.going) c.merged-in-Right-next.ensures.turn (rw c.deref_mut-in-Right-next.ensures.value at c.in_ok-below-in-Right-next.ensures.stepped))
