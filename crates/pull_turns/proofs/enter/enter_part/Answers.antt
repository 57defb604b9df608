use Rattle.pull_turns.proofs.Entered.{append_entered, emit_entered, guard_entered, into_entered, merge_entered, nil_entered, raise_entered, read_entered, take_entered, through_entered, zip_entered}
use Rattle.pull_turns.proofs.enter.enter_part.Goals as goal

pub returns-in-Nil : goal.returns-in-Nil
returns-in-Nil g c n = rw c.in-Nil.is (nil_entered _ _ _ _ n _)

pub returns-in-Emit : goal.returns-in-Emit
returns-in-Emit g c n = rw (c.in-Emit.is, c.give.ensures) (emit_entered _ _ _ _ n _ _)

pub returns-in-Raise : goal.returns-in-Raise
returns-in-Raise g c n = rw c.in-Raise.is (raise_entered _ _ _ _ n _ _)

pub returns-in-Read : goal.returns-in-Read
returns-in-Read g c n = rw c.in-Read.is (read_entered _ _ _ _ n _ _ (rw c.in-Read.is at c.requires.ready))

pub returns-in_ok-a-in-Append : goal.returns-in_ok-a-in-Append
returns-in_ok-a-in-Append g c n = rw (c.in-Append.is, c.in_ok-a-in-Append.ensures) (append_entered _ _ _ _ n _ _ _ _ _ _ (rw c.in-Append.is at c.requires.ready))

pub returns-in_ok-a-in-OnFault : goal.returns-in_ok-a-in-OnFault
returns-in_ok-a-in-OnFault g c n = rw (c.in-OnFault.is, c.in_ok-a-in-OnFault.ensures) (guard_entered _ _ _ _ n _ _ _ _ _ _ (rw c.in-OnFault.is at c.requires.ready))

pub returns-in_ok-a-in-Take : goal.returns-in_ok-a-in-Take
returns-in_ok-a-in-Take g c n = rw (c.in-Take.is, c.in_ok-a-in-Take.ensures) (take_entered _ _ _ _ n _ _ _ _ _ (rw c.in-Take.is at c.requires.ready))

pub returns-in_ok-a-in-Into : goal.returns-in_ok-a-in-Into
returns-in_ok-a-in-Into g c n = rw (c.in-Into.is, c.in_ok-a-in-Into.ensures) (into_entered _ _ _ _ n _ _ _ _ _ _ c.written_at-written.ensures (rw c.in-Into.is at c.requires.ready))

pub returns-in_ok-rest-in-Through : goal.returns-in_ok-rest-in-Through
returns-in_ok-rest-in-Through g c n =
    let made = rw (c.in_ok-a-in-Through.ensures, c.group_size-size.ensures) at c.in_ok-rest-in-Through.ensures in
    rw c.in-Through.is (through_entered _ _ g.met.F.Feed.sound _ _ n _ _ _ _ _ _ _ (rw c.in-Through.is at c.requires.ready) c.in_ok-state-in-Through.ensures made)

pub returns-in_ok-b-in-Zip : goal.returns-in_ok-b-in-Zip
returns-in_ok-b-in-Zip g c n = rw (c.in-Zip.is, c.in_ok-a-in-Zip.ensures, c.in_ok-b-in-Zip.ensures, c.new.ensures) (zip_entered _ _ _ _ n _ _ _ _ _ _ _ (rw c.in-Zip.is at c.requires.ready))

pub returns-in_ok-b-in-Merge : goal.returns-in_ok-b-in-Merge
returns-in_ok-b-in-Merge g c n = rw (c.in-Merge.is, c.in_ok-a-in-Merge.ensures, c.in_ok-b-in-Merge.ensures, c.new-in-Merge.ensures) (merge_entered _ _ _ _ n _ _ _ _ _ _ _ (rw c.in-Merge.is at c.requires.ready))
