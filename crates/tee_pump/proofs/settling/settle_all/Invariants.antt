use Rattle.std.proofs.Common.{◌≡◌, ◌<◌, true, List, length}
use Rattle.chunk_core.specs.Feed.{Meaning}
use Rattle.channel_bounded.specs.declared.message.Body.{Body}
use Rattle.interrupt_ctx.specs.Views.{HasSetAll}
use Rattle.tee_pump.specs.Branches.{AreHired}
use Rattle.tee_pump.specs.Publishing.{IsPublishing}
use Rattle.tee_pump.specs.Settled.{HasTexts}
use Rattle.tee_pump.proofs.Joined.{IsSettling}
use Rattle.tee_pump.proofs.settling.settle_all.Given as goal

-- those behind the ones that are left were taken in
abbrev pub invariant-loop-last : goal.invariant-loop-last
invariant-loop-last g l = record {
  settling : (ms : List Meaning) (all : List Body) → AreHired g.F.Feed.stands g.F.Feed.comes (record { topic = l.site.topic.now; hub = l.site.hub.now; board = l.site.board.now }) ms l.fn.hired.items → IsPublishing l.site.topic.now (length ms) all l.fn.publisher → IsSettling g.F.Feed.stands g.F.Feed.comes (record { topic = l.site.topic.now; hub = l.site.hub.now; board = l.site.board.now }) ms all l.fn.receiver.got l.left.items l.publisher l.seat.view;
  hub : l.receiver.hub ≡ l.fn.receiver.hub;
  got : l.receiver.got ≡ l.fn.receiver.got;
  made : l.receiver.made ≡ l.fn.receiver.made;
  board_is : l.seat.board ≡ l.fn.seat.board;
  first : l.seat.view.first ≡ true;
  out : l.seat.view.out ≡ length l.left.items;
  set : l.seat.view.set ≡ l.fn.seat.view.set;
  behind : length l.left.items < length l.fn.hired.items → (l.seat.view.out ≡ 0 → HasSetAll l.seat.view) × HasTexts l.fn.receiver.made l.fn.receiver.got;
}

abbrev pub decreases-loop-last : goal.decreases-loop-last
decreases-loop-last g l = goal.left-loop-last g l
