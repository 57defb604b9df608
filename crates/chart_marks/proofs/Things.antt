-- Things are compared as their derived test does.
use Rattle.std.proofs.Common.{◌≡◌, refl}
use Rattle.chart_marks.specs.Marks.{same_thing}
use Rattle.chart_marks.specs.declared.marks.Thing.{Thing}
use Rattle.chart_marks.specs.declared.marks.Thing.TheVariants.{Row, Lease, Close}
use Rattle.chart_marks.specs.contracts.marks.ThingPartialEq as derived

same_at : (k q : Thing) → derived.TheImpl.ghosts.eq k q ≡ same_thing k q
same_at (Row r) (Row q) = refl
same_at (Row r) (Lease q) = refl
same_at (Row r) (Close q) = refl
same_at (Lease r) (Row q) = refl
same_at (Lease r) (Lease q) = refl
same_at (Lease r) (Close q) = refl
same_at (Close r) (Row q) = refl
same_at (Close r) (Lease q) = refl
same_at (Close r) (Close q) = refl

pub same_is : derived.TheImpl.ghosts.eq ≡ same_thing
same_is = λ i k r. same_at k r i
