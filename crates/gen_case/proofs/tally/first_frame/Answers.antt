use Rattle.std.proofs.Common.{◌<◌, ◌^◌, length, ◌++◌, ◌∷◌, ◌∙◌, arith}
use Rattle.std.proofs.lemmas.Option.{IfSome_then}
use Rattle.gen_case.proofs.Frames.{frame_front, payload_shorter}
use Rattle.gen_case.proofs.tally.first_frame.Goals as goal

pub returns-in_err-size-clause-parts : goal.returns-in_err-size-clause-parts
returns-in_err-size-clause-parts c = λ f back h e.
    let wide : f.stream < 2 ^ 64 = omega arith in
    let fits : length f.payload < 2 ^ 64 = omega (arith, payload_shorter f.stream f.payload back c.args.text.now e) in
    absurd (c.in_err-size.ensures.parts f.stream (length f.payload) (f.payload ++ 10 ∷ back) wide fits (e ∙ frame_front f.stream f.payload back))

pub returns-clause-parts : goal.returns-clause-parts
returns-clause-parts c = λ f back h e.
    let wide : f.stream < 2 ^ 64 = omega arith in
    let fits : length f.payload < 2 ^ 64 = omega (arith, payload_shorter f.stream f.payload back c.args.text.now e) in
    let head = c.in_ok-size.ensures.parts f.stream (length f.payload) (f.payload ++ 10 ∷ back) wide fits (e ∙ frame_front f.stream f.payload back) in
    c.payload_of.ensures.parts f.payload back head.0 head.1

pub returns-clause-shorter : goal.returns-clause-shorter
returns-clause-shorter c = IfSome_then c.payload_of.result c.payload_of.ensures.shorter (λ x h. let all : length c.in_ok-size.rest.now < length c.args.text.now = c.in_ok-size.ensures.shorter in omega arith)
