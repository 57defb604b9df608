-- What runs a node may go to another thread.
use denote.RattleType.{RattleType}
use denote.Hole.{as_row}
use denote.Hole.FixSend.{Sends, fix_send}
use denote.Param.Send.{IsSend, sendable}
use denote.Param.SendFields.{as_row_send, declared_send, variants_send}
use denote.Struct.Field.{bool-field, row_field, u32-field, u64-field}
use Rattle.std.proofs.Crossing.{Box-send, send as heap}
use Rattle.std.specs.contracts.option.Option as Option'
use Rattle.chunk_core.specs.contracts.code.How as How
use Rattle.chunk_core.specs.contracts.load.Load as Load
use Rattle.chunk_core.proofs.code.Code.TheSendSync as code
use Rattle.chunk_core.proofs.code.How.TheSendSync as how
use Rattle.chunk_core.proofs.load.Load.TheSendSync as load
use Rattle.known.proofs.Threads.{known_send}
use Rattle.pull_nodes.specs.contracts.node.Node as Node
use Rattle.pull_nodes.proofs.Threads.{node_send}
use Rattle.stream_sides.proofs.merge_state.MergeState.TheSendSync as merge
use Rattle.stream_sides.proofs.zip_state.ZipState.TheSendSync as zip
use Rattle.pull_turns.specs.contracts.rest.Rest as Rest
use Rattle.pull_turns.specs.contracts.runner.Runner as Runner
use Rattle.pull_turns.specs.contracts.writing.Written as Written
use Rattle.pull_turns.proofs.reading.SparePiece.TheSendSync as piece
use Rattle.pull_turns.proofs.rest.When.TheSendSync as when

by_row : (R : RattleType) → IsSend R → IsSend (as_row (row_field R))
by_row R s = as_row_send (row_field R) s

u32s : IsSend (as_row u32-field)
u32s = as_row_send u32-field (search sendable depth 6)

u64s : IsSend (as_row u64-field)
u64s = as_row_send u64-field (search sendable depth 6)

option_send : IsSend (Option'.the_row Load.the_row)
option_send = let a = load.the_send in search sendable depth 12

rest_layer : (T : RattleType) → IsSend T → (h : RattleType) → IsSend h → IsSend (Rest.TheKnot.layer-Rest T h h h h h h h h h h)
rest_layer T s h a =
    let b = by_row _ (Box-send h a) in
    let n = by_row _ node_send in
    let t = by_row _ (by_row T s) in
    let u = by_row _ u32s in
    let v = by_row _ u64s in
    variants_send (Rest.TheKnot.type-Rest T h h h h h h h h h h) (tt, ((n, tt), ((u, (v, tt)), ((u, (b, tt)), ((by_row _ when.the_send, (b, (by_row _ (Box-send Node.the_row node_send), tt))), ((b, (t, tt)), ((t, tt), ((by_row _ code.the_send, tt), ((u, (by_row _ option_send, (b, tt))), ((v, (b, tt)), ((u, (by_row _ (known_send Written.the_row), (b, tt))), ((by_row _ zip.the_send, (b, (b, tt))), ((by_row _ merge.the_send, (b, (b, tt))), tt)))))))))))))

rest_step : (T : RattleType) → IsSend T → (i : Rest.TheKnot.the_members T) → Sends (Rest.the_ring T) i
rest_step T s i = Rest.by_members T (λ j. Sends (Rest.the_ring T) j) (record { send = λ h all. rest_layer T s (h (Rest.the_member T)) (all (Rest.the_member T)) }) i

pub rest_send : (T : RattleType) → IsSend T → IsSend (Rest.the_row T)
rest_send T s =
    let b = Box-send (Rest.the_hole T) (fix_send (Rest.the_ring T) (rest_step T s) (Rest.the_member T)) in
    let t = by_row T s in
    variants_send (Rest.enum T) (tt, ((node_send, tt), ((u32s, (u64s, tt)), ((u32s, (b, tt)), ((when.the_send, (b, (Box-send Node.the_row node_send, tt))), ((b, (t, tt)), ((t, tt), ((code.the_send, tt), ((u32s, (option_send, (b, tt))), ((u64s, (b, tt)), ((u32s, (known_send Written.the_row, (b, tt))), ((zip.the_send, (b, (b, tt))), ((merge.the_send, (b, (b, tt))), tt)))))))))))))

how_send : IsSend (Option'.the_row How.the_row)
how_send = let a = how.the_send in search sendable depth 12

pub runner_send : (O F : RattleType) → IsSend O → IsSend F → IsSend (Runner.the_row O F)
runner_send O F o f = declared_send (Runner.the_type O F) (heap, (rest_send F f, (by_row O o, (u32s, (piece.the_send, (how_send, (as_row_send bool-field (search sendable depth 6), tt)))))))
