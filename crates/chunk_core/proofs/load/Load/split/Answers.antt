use Rattle.std.proofs.Common.{ap, sym, ◌∙◌, map}
use Rattle.std.proofs.lemmas.List.{take-map, drop-map}
use Rattle.chunk_core.specs.Elements.{Byte, Line, Row}
use Rattle.chunk_core.proofs.load.Load.split.Goals as goal

pub returns-in_ok-split-in-Bytes-clause-front : goal.returns-in_ok-split-in-Bytes-clause-front
returns-in_ok-split-in-Bytes-clause-front c = rw c.in-Bytes.is (ap (λ xs. map Byte xs) c.in_ok-split-in-Bytes.ensures.front ∙ sym (take-map Byte _ _))

pub returns-in_ok-split-in-Bytes-clause-rest : goal.returns-in_ok-split-in-Bytes-clause-rest
returns-in_ok-split-in-Bytes-clause-rest c = rw c.in-Bytes.is (ap (λ xs. map Byte xs) c.in_ok-split-in-Bytes.ensures.rest ∙ sym (drop-map Byte c.args.n c.in-Bytes.bytes))

pub returns-in_ok-split-in-Lines-clause-front : goal.returns-in_ok-split-in-Lines-clause-front
returns-in_ok-split-in-Lines-clause-front c = rw c.in-Lines.is (ap (λ xs. map Line xs) c.in_ok-split-in-Lines.ensures.front ∙ sym (take-map Line _ _))

pub returns-in_ok-split-in-Lines-clause-rest : goal.returns-in_ok-split-in-Lines-clause-rest
returns-in_ok-split-in-Lines-clause-rest c = rw c.in-Lines.is (ap (λ xs. map Line xs) c.in_ok-split-in-Lines.ensures.rest ∙ sym (drop-map Line c.args.n c.in-Lines.lines))

pub returns-in_ok-split-in-Rows-clause-front : goal.returns-in_ok-split-in-Rows-clause-front
returns-in_ok-split-in-Rows-clause-front c = rw c.in-Rows.is (ap (λ xs. map Row xs) c.in_ok-split-in-Rows.ensures.front ∙ sym (take-map Row _ _))

pub returns-in_ok-split-in-Rows-clause-rest : goal.returns-in_ok-split-in-Rows-clause-rest
returns-in_ok-split-in-Rows-clause-rest c = rw c.in-Rows.is (ap (λ xs. map Row xs) c.in_ok-split-in-Rows.ensures.rest ∙ sym (drop-map Row c.args.n c.in-Rows.rows))
