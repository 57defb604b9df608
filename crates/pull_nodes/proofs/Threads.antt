-- A node may go to another thread.
use denote.RattleType.{RattleType}
use denote.Hole.{as_row}
use denote.Hole.FixSend.{Sends, fix_send}
use denote.Param.Send.{IsSend, sendable}
use denote.Param.SendFields.{as_row_send, variants_send}
use denote.Struct.Field.{row_field, u16-field, u32-field, u64-field}
use Rattle.std.proofs.Crossing.{Box-send}
use Rattle.chunk_core.proofs.load.Load.TheSendSync as load
use Rattle.pull_nodes.proofs.pipe.Pipe.TheSendSync as pipe
use Rattle.pull_nodes.specs.contracts.node.Node as Node

by_row : (R : RattleType) → IsSend R → IsSend (as_row (row_field R))
by_row R s = as_row_send (row_field R) s

u16s : IsSend (as_row u16-field)
u16s = as_row_send u16-field (search sendable depth 6)

u32s : IsSend (as_row u32-field)
u32s = as_row_send u32-field (search sendable depth 6)

u64s : IsSend (as_row u64-field)
u64s = as_row_send u64-field (search sendable depth 6)

node_layer : (h : RattleType) → IsSend h → IsSend (Node.TheKnot.layer-Node h h h h h h h h h h h h h)
node_layer h a =
    let b = by_row _ (Box-send h a) in
    let l = by_row _ load.the_send in
    let u = by_row _ u32s in
    variants_send (Node.TheKnot.type-Node h h h h h h h h h h h h h) (tt, ((l, tt), ((by_row _ u16s, tt), ((u, tt), ((u, (b, tt)), ((b, tt), ((b, (b, tt)), ((b, (b, tt)), ((b, (by_row _ pipe.the_send, tt)), ((by_row _ u64s, (b, tt)), ((b, (b, tt)), ((b, (b, tt)), ((u, (b, tt)), tt)))))))))))))

node_step : (i : Node.TheKnot.the_members) → Sends Node.the_ring i
node_step i = Node.by_members (λ j. Sends Node.the_ring j) (record { send = λ h all. node_layer (h Node.the_member) (all Node.the_member) }) i

pub node_send : IsSend Node.the_row
node_send = let b = Box-send Node.the_hole (fix_send Node.the_ring node_step Node.the_member) in variants_send Node.enum (tt, ((load.the_send, tt), ((u16s, tt), ((u32s, tt), ((u32s, (b, tt)), ((b, tt), ((b, (b, tt)), ((b, (b, tt)), ((b, (pipe.the_send, tt)), ((u64s, (b, tt)), ((b, (b, tt)), ((b, (b, tt)), ((u32s, (b, tt)), tt)))))))))))))
