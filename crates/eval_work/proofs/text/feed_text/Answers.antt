-- Each piece that is fed is shorter than what is left, up to a fault.
use Rattle.std.proofs.Common.{◌∙◌, ap, arith, length, length-drop, sym}
use Rattle.std.proofs.lemmas.Bool.{eqb-false}
use Rattle.chunk_core.specs.Elements.{elements_of}
use Rattle.eval_work.proofs.Texts.{none_fed, parts_of, piece_broke, piece_fed}
use Rattle.eval_work.proofs.text.feed_text.Goals as goal

pub pieces-init : goal.pieces-init
pieces-init g c m s takes = none_fed m c.args.bytes _ (g.F.Feed.stands c.args.pipe.now m) c.in_ok-text.ensures.items (g.met.F.Feed.sound c.args.pipe.now m _ s) s

pub pieces-smaller : goal.pieces-smaller
pieces-smaller g c =
    let some = eqb-false (length c.pieces.left) 0 (sym c.is_empty.ensures ∙ c.pieces-test.true) in
    let rest = ap length c.in_ok-piece.ensures.rest in let cut = length-drop 1024 c.pieces.left in
    omega (arith, some, rest, cut)

pub pieces-preserved : goal.pieces-preserved
pieces-preserved g c m s takes =
    let h = c.pieces.invariant m s takes in
    let more = rw c.in-More.is at c.in_ok-push_answer.ensures in
    let cut = c.in_ok-piece.ensures in
    piece_fed m c.args.bytes c.pieces.left c.in_ok-piece.piece c.split.new.self c.pieces.text.items c.push_answer.new.text.items (g.F.Feed.stands c.pieces.pipe m) (g.F.Feed.stands c.feed.new.self m) h (parts_of 1024 _ _ _ cut.front cut.rest) c.in_ok-answer.answer more
    (c.in_ok-answer.ensures m (elements_of h.loads) h.feeds.1 takes)

pub returns-in-Fault : goal.returns-in-Fault
returns-in-Fault g c m s takes =
    let h = c.pieces.invariant m s takes in
    let more = rw c.in-Fault.is at c.in_ok-push_answer.ensures in
    let cut = c.in_ok-piece.ensures in
    piece_broke m c.args.bytes c.pieces.left c.in_ok-piece.piece c.split.new.self c.pieces.text.items c.push_answer.new.text.items (g.F.Feed.stands c.pieces.pipe m) (g.F.Feed.stands c.feed.new.self m) h (parts_of 1024 _ _ _ cut.front cut.rest) c.in_ok-answer.answer c.in-Fault.code more
    (c.in_ok-answer.ensures m (elements_of h.loads) h.feeds.1 takes)
