use Rattle.std.proofs.Common.{◌≡◌, ◌∙◌, true, ap, sym, arith}
use Rattle.std.proofs.lemmas.Option.{slice_get_within}
use Rattle.pipeline_desc.specs.Outputs.{is_alone}
use Rattle.pipeline_desc.specs.Places.{all_places}
use Rattle.pipeline_desc.specs.declared.stream.StreamSpec.{StreamSpec}
use Rattle.pipeline_desc.proofs.Written.{alone_next, alone_up_to}
use Rattle.pipeline_desc.proofs.outputs.check_outputs.Goals as goal

pub loop-k-preserved : goal.loop-k-preserved
loop-k-preserved c =
    let places = all_places c.args.tables.now c.args.list.now c.args.streams.now in
    let s = c.index-streams-k.result in
    let alone : is_alone places s.to ≡ true = ap (λ (x : StreamSpec). is_alone places x.to) c.index-streams-k.is ∙ (sym c.is_alone.ensures ∙ c.if-not-is_alone.false) in
    record {
      read = alone_next places c.args.streams.now c.loop-k.k s (omega arith) c.index-streams-k.is _ c.loop-k.invariant.read alone;
      alone = alone_up_to places c.args.streams.now c.loop-k.k s (omega arith) c.index-streams-k.is c.loop-k.invariant.alone alone;
    }

pub returns-clause-alone : goal.returns-clause-alone
returns-clause-alone c = λ i s is. let within = slice_get_within c.args.streams.now i s is in c.loop-k.invariant.alone i s (omega (arith, within)) is
