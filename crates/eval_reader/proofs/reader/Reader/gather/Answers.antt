-- Some of the lines that wait were gathered, or it was halted as it stood.
use Rattle.std.proofs.Common.{◌∙◌, arith, refl}
use Rattle.eval_reader.proofs.Grouping.{gathers, itself_still, none_waits, small_enough, stopped}
use Rattle.eval_reader.proofs.reader.Reader.gather.Goals as goal

pub gather-requires : goal.gather-requires
gather-requires g c = let r = c.requires.grouping in record { small = small_enough _ _ c.args.size r.0 _ r.1 r.2 }

pub returns-in-Ok-clause-grouping : goal.returns-in-Ok-clause-grouping
returns-in-Ok-clause-grouping g c a groups k =
    let e = c.in-Ok.ensures in
    let s = small_enough _ _ c.args.size a _ groups k in gathers _ _ c.args.size a _ groups k _ _ (omega (arith, s)) refl e.text e.count e.lines

pub returns-in-Ok-clause-none : goal.returns-in-Ok-clause-none
returns-in-Ok-clause-none g c less =
    let e = c.in-Ok.ensures in
    let r = c.requires.grouping in
    let s = small_enough _ _ c.args.size r.0 _ r.1 r.2 in e.lines ∙ none_waits _ _ c.args.size r.0 _ r.1 r.2 _ _ (omega (arith, s)) e.count less

pub returns-in-Err-clause-stopped : goal.returns-in-Err-clause-stopped
returns-in-Err-clause-stopped g c a groups k = stopped _ _ c.args.size a _ groups k _ _ (c.stop.ensures.reading a k.given k.reading) c.stop.ensures.how (itself_still _)
