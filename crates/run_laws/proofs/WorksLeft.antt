-- The streams of these works may be left at any time.
use Rattle.std.proofs.Common.{ℕ, ◌+◌, List, ◌++◌, Option, length}
use Rattle.chunk_core.specs.Elements.{Element}
use Rattle.chunk_core.specs.Outcomes.{Cut, End, Outcomes}
use Rattle.device_port.specs.Device.{DeviceTold}
use Rattle.pull_nodes.specs.Runs.{IsUnwritten, Merged, OpensThen, OrLeft, Reads, Written, Zipped}
use Rattle.pull_nodes.proofs.Left.{left}
use Rattle.run_rules.specs.Work.{Lister, Opener, Part, Values, Work}
use Rattle.run_laws.specs.FiveFiles.{five_work}
use Rattle.run_laws.specs.Groups.{two_lookups}
use Rattle.run_laws.specs.Lists.{listing_work}
use Rattle.run_laws.specs.OneStream.{one_stream_work}
use Rattle.run_laws.specs.Others.{copy_work, silent_work}
use Rattle.run_laws.specs.Sides.{LinesIn, merge_work, pairs_work}
use Rattle.run_laws.specs.Streams.{Gathered, InFile, Leaves, two_files}
use Rattle.run_laws.specs.Tables.{looked_up, looked_up_in, lookup_work}

-- whoever runs may be left, wherever it goes on to
abbrev pub MayBeLeft : Work → Type 0
MayBeLeft work = (v : Values) (w : ℕ → DeviceTold) (k : ℕ) (ys more : List Element) (e : End) → work.runs k v w (ys ++ more) e → work.runs k v w ys Cut

-- one that runs over a file
file_left : (d : DeviceTold) (A : Outcomes) (ys more : List Element) (e : End) → InFile d A (ys ++ more) e → InFile d A ys Cut
file_left d A = left (Unit {0}) (OpensThen d (Leaves A) (Unit {0}))

pub one_left : (most : Option ℕ) → MayBeLeft (one_stream_work most)
one_left most v w k = file_left (w 0) (Reads (w 0))

pub two_left : (o : Opener) (until : Option ℕ) → MayBeLeft (two_files o until)
two_left o until v w k = file_left (w k) (Reads (w k))

pub silent_left : MayBeLeft silent_work
silent_left v w k = file_left (w (k + 1)) (Reads (w (k + 1)))

pub five_left : MayBeLeft five_work
five_left v w k = file_left (w k) (Reads (w k))

pub listing_left : (tables : List (List ℕ)) (l : Lister) → MayBeLeft (listing_work tables l)
listing_left tables l v w k = file_left (w (length tables + 1 + k)) (Reads (w (length tables + 1 + k)))

pub lookup_left : MayBeLeft lookup_work
lookup_left v w k = file_left (w 1) (Gathered (Leaves (Reads (w 1))) (looked_up v))

pub lookups_left : (groups : List Part) → MayBeLeft (two_lookups groups)
lookups_left groups v w k = file_left (w (2 + k)) (Gathered (Leaves (Reads (w (2 + k)))) (looked_up_in k v))

pub copy_left : MayBeLeft copy_work
copy_left v w k = left (IsUnwritten (w 0)) (OpensThen (w 0) (OrLeft (IsUnwritten (w 0)) (Written (w 0) (InFile (w 1) (Reads (w 1))))) (IsUnwritten (w 0)))

pub pairs_left : MayBeLeft pairs_work
pairs_left v w k = left (Unit {0}) (Zipped (LinesIn (w 0)) (LinesIn (w 1)))

pub merge_left : MayBeLeft merge_work
merge_left v w k = left (Unit {0}) (Merged (LinesIn (w 0)) (Unit {0}) (LinesIn (w 1)) (Unit {0}))
