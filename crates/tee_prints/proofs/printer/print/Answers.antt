use Rattle.std.proofs.Common.{◌≡◌, [], ◌∷◌, ◌++◌, sym, ap, ◌∙◌, subst}
use Rattle.channel_bounded.specs.declared.message.Body.TheVariants as body
use Rattle.chunk_core.specs.declared.load.Load.TheVariants as load
use Rattle.tee_prints.specs.Printed.{Prints}
use Rattle.tee_prints.proofs.Printing.{kept, put_text, unprinted}
use Rattle.tee_texts.specs.Texts.{end_message}
use Rattle.tee_prints.proofs.printer.print.Goals as goal

pub returns-in-End-clause-prints : goal.returns-in-End-clause-prints
returns-in-End-clause-prints g c = λ n start got p.
    let sink = g.K.Sink.told c.args.out.now in
    let k = c.args.message.stream in
    subst (λ b. Prints n start sink (got ++ (record { stream = k; body = b }) ∷ []) c.keep.new.ends.items c.args.broken.now) (sym c.in-End.is)
    (subst (λ e. Prints n start sink (got ++ end_message k c.in-End.how ∷ []) e c.args.broken.now) (sym c.keep.ensures)
    (kept n start sink got c.args.ends.now.items k c.in-End.how c.args.broken.now c.requires.branch p))

pub returns-then-not-broken-clause-prints : goal.returns-then-not-broken-clause-prints
returns-then-not-broken-clause-prints g c = λ n start got p.
    let old = g.K.Sink.told c.args.out.now in
    let new = g.K.Sink.told c.put_frame.new.out in
    let k = c.args.message.stream in
    let ends = c.args.ends.now.items in
    let unbroken = subst (λ b. Prints n start old got ends b) c.if-not-broken.true p in
    let bytes = c.as_slice.result.now in
    let is : c.args.message.body ≡ body.Load (load.Bytes bytes) = c.in-Load-Bytes.is ∙ ap body.Load (c.in-Load-Bytes.field-0-is ∙ ap load.Bytes (sym c.as_slice.ensures)) in
    subst (λ b. Prints n start new (got ++ (record { stream = k; body = b }) ∷ []) ends c.is_err.result) (sym is)
    (put_text n start old got ends k bytes new c.put_frame.result c.is_err.result c.is_err.ensures.value c.put_frame.ensures unbroken)

pub returns-in-Load-Bytes-clause-prints : goal.returns-in-Load-Bytes-clause-prints
returns-in-Load-Bytes-clause-prints g c = λ n start got p.
    let old = g.K.Sink.told c.args.out.now in
    let k = c.args.message.stream in
    let ends = c.args.ends.now.items in
    let closed = subst (λ b. Prints n start old got ends b) c.if-not-broken.false p in
    let is : c.args.message.body ≡ body.Load (load.Bytes c.in-Load-Bytes.bytes) = c.in-Load-Bytes.is ∙ ap body.Load c.in-Load-Bytes.field-0-is in
    subst (λ b. Prints n start old (got ++ (record { stream = k; body = b }) ∷ []) ends c.args.broken.now) (sym is)
    (subst (λ b. Prints n start old (got ++ (record { stream = k; body = body.Load (load.Bytes c.in-Load-Bytes.bytes) }) ∷ []) ends b) (sym c.if-not-broken.false) (unprinted n start old got ends k c.in-Load-Bytes.bytes closed))
