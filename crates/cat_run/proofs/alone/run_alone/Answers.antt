-- What is told of the stream.
use Rattle.std.proofs.Common.{subst, sym}
use Rattle.chunk_core.specs.Tables.{no_values}
use Rattle.pull_nodes.specs.Failures.{IsToldRun}
use Rattle.lone_stream.proofs.Begun.{same_how}
use Rattle.cat_run.specs.Alone.{IsRunIn}
use Rattle.cat_run.specs.Printing.{is_unwritten, is_wanting}
use Rattle.cat_run.proofs.alone.run_alone.Goals as goal

pub returns : goal.returns
returns g c =
    let r = c.print_node-ran.ensures in
    let s = c.print_node-ran.result.1 in
    let h = c.print_node-ran.result.0.how in
    rw (c.is_unwritten.ensures, c.is_wanting.ensures)
    (record {
      home = r.home;
      how = h;
      comes = r.comes;
      printed = r.prints.printed;
      small = r.prints.small;
      run = subst (λ k. IsRunIn (IsToldRun no_values r.home c.args.node) r.prints.printed.pieces r.prints.printed.next (is_unwritten s) (is_wanting s) k) (same_how r.prints.how h (sym r.prints.ended_is)) r.prints.run;
      ends = c.ends_of.ensures;
    })
