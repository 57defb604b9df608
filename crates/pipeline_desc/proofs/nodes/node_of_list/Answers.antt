use Rattle.std.proofs.Common.{[], length, subst}
use Rattle.std.specs.Prelude.{IfOk, IfSome}
use Rattle.pipeline_desc.specs.Meant.{listed_stream, setting_at}
use Rattle.pipeline_desc.specs.Nodes.{IsMade, IsStreamNode}
use Rattle.pipeline_desc.specs.Places.{first_row}
use Rattle.pipeline_desc.specs.Sound.{IsSoundList}
use Rattle.pipeline_desc.proofs.NodeLaws.{few_listed, of_given, shape_listed}
use Rattle.pipeline_desc.proofs.nodes.node_of_list.Goals as goal

pub listed_node-requires : goal.listed_node-requires
listed_node-requires c =
    let p = c.args.plan.now in
    let sound = subst (λ o. IfSome o (IsSoundList (setting_at p.tables p.groups (length p.streams) (length p.streams)) (length p.streams))) c.listed-list.ensures c.limits.ensures.list in
    (length p.streams, sound.kinds)

pub returns : goal.returns
returns c =
    let p = c.args.plan.now in
    let k = c.args.k in
    let l = c.listed-list.result.now in
    let s = listed_stream l [] in
    let r = c.listed_node.result in
    let sound = subst (λ o. IfSome o (IsSoundList (setting_at p.tables p.groups (length p.streams) (length p.streams)) (length p.streams))) c.listed-list.ensures c.limits.ensures.list in
    let given = subst (λ q. IfOk r (IsStreamNode q s)) c.first_row-place.ensures.row c.listed_node.ensures in
    of_given (IsStreamNode (first_row p k) s) (IsMade p k) r given (λ n h. (s, shape_listed p [] k l c.requires.behind c.listed-list.ensures, h, few_listed l sound.few))
