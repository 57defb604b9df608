use Rattle.std.proofs.Common.{◌∙◌, ap, inr, subst, sym}
use Rattle.std.specs.Prelude.{option_map}
use Rattle.csv.specs.Machine.{ends_at_end}
use Rattle.csv.specs.Reading.{strip_bom}
use Rattle.csv_pipes.specs.Left.{IsReading, records_at, records_behind}
use Rattle.csv_pipes.proofs.records.Records.new.Goals as goal

pub invariant_of-result : goal.invariant_of-result
invariant_of-result g c =
    let made = c.from_reader-reader.ensures in
    let flexible = c.flexible.ensures in
    let headers = c.has_headers.ensures in
    subst (IsReading g.R.Read.remaining) (sym c.in_ok-new.ensures.ok) (record {
      plain = rw (flexible, headers) at made.trim ∙ c.new.ensures.trim;
      ready = inr (inr (rw (flexible, headers) at made.has_headers, made.headers));
      config = rw (flexible, headers) at made.config ∙ c.new.ensures.config;
      between = ap ends_at_end made.state;
      known = (strip_bom c.requires.known.0, made.source ∙ ap (option_map strip_bom) c.requires.known.1);
    })

pub returns : goal.returns
returns g c = λ xs known.
    let made = c.from_reader-reader.ensures in
    ap (records_at g.R.Read.remaining) c.in_ok-new.ensures.ok
    ∙ (λ i. records_behind (made.state i) ((made.source ∙ ap (option_map strip_bom) known) i))
