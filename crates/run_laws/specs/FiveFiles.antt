-- A run of five files of different sizes, one after another.
use Rattle.std.specs.Prelude.{ℕ, zero, suc, List, [], ◌∷◌, ◌++◌, true, None, Some, codes}
use Rattle.chunk_core.specs.Texts.{Frame}
use Rattle.chunk_core.specs.declared.code.Exit.TheVariants.{Succeeded}
use Rattle.chunk_core.specs.declared.code.How.TheVariants as how
use Rattle.res_ledger.specs.declared.event.StreamNo.{StreamNo}
use Rattle.res_ledger.specs.declared.event.StreamNo.TheVariants.{Outer, Inner}
use Rattle.res_ledger.specs.declared.event.What.{What}
use Rattle.res_ledger.specs.declared.event.What.TheVariants.{Acquire, Lease, Cancel, Close, Final}
use Rattle.device_port.specs.Device.{DeviceTold}
use Rattle.pull_nodes.specs.Runs.{Reads, ReadsWhole}
use Rattle.run_rules.specs.Work.{RunRecord, Work}
use Rattle.run_laws.specs.Streams.{InFile, file_stream, no_listing, opener}
use Rattle.run_laws.specs.Written.{Listing, ends_of, frame, read_device, run_of}

-- so many letters c
abbrev pub letters : ℕ → ℕ → List ℕ
letters c zero = []
letters c (suc n) = c ∷ letters c n

-- as many bytes c as one read gives at most
abbrev pub block : ℕ → List ℕ
block c = letters c 4096

-- five files with these bytes
abbrev pub five_files : List ℕ → List ℕ → List ℕ → List ℕ → List ℕ → Listing
five_files a b c d e = (codes "a", a) ∷ (codes "b", b) ∷ (codes "c", c) ∷ (codes "d", d) ∷ (codes "e", e) ∷ []

-- five files as they are, of which one is open at a time
abbrev pub five_work : Work
five_work = record {
  opener = Some (opener [] 1 None);
  streams = file_stream (codes "a") ∷ file_stream (codes "b") ∷ file_stream (codes "c") ∷ file_stream (codes "d") ∷ file_stream (codes "e") ∷ [];
  runs = λ k v w. InFile (w k) (Reads (w k));
  ideal_runs = λ k v w. ReadsWhole (w k);
  listing = no_listing;
  ideal_listing = no_listing;
}

-- stream k acquires its file, and ends
abbrev pub visit : ℕ → List (StreamNo × What)
visit k = (Inner k, Acquire k 0) ∷ (Inner k, Close 0 Succeeded) ∷ (Inner k, Final k Succeeded true) ∷ (Inner k, Cancel k Succeeded) ∷ []

-- a stream begins once the one before it has left, and the next one is leased for
abbrev pub five_events : List (StreamNo × What)
five_events =
    (Outer, Lease 0 0) ∷ (Outer, Lease 1 0) ∷ (visit 0 ++ ((Outer, Lease 2 0) ∷ (visit 1 ++ ((Outer, Lease 3 0) ∷ (visit 2 ++ ((Outer, Lease 4 0) ∷ (visit 3 ++ ((Outer, Close 0 Succeeded) ∷ visit 4))))))))

-- the devices of five files, each read to its end
abbrev pub five_devices : List ℕ → List ℕ → List ℕ → List ℕ → List ℕ → List DeviceTold
five_devices a b c d e = read_device 0 (codes "a") a Succeeded ∷ read_device 1 (codes "b") b Succeeded ∷ read_device 2 (codes "c") c Succeeded ∷ read_device 3 (codes "d") d Succeeded ∷ read_device 4 (codes "e") e Succeeded ∷ []

-- a run of five files, in which all streams are done
abbrev pub five_run : List ℕ → List ℕ → List ℕ → List ℕ → List ℕ → List Frame → RunRecord
five_run a b c d e frames = run_of (five_files a b c d e) (five_files a b c d e) (five_devices a b c d e) (ends_of how.Done (how.Done ∷ how.Done ∷ how.Done ∷ how.Done ∷ how.Done ∷ [])) five_events frames

-- 4,097 and 10,000 bytes
abbrev pub file_d : List ℕ
file_d = block 100 ++ codes "d"

abbrev pub file_e : List ℕ
file_e = block 101 ++ (block 101 ++ letters 101 1808)

abbrev pub five_frames : List Frame
five_frames = frame 0 (codes "a") ∷ frame 2 (block 99) ∷ frame 3 (block 100) ∷ frame 3 (codes "d") ∷ frame 4 (block 101) ∷ frame 4 (block 101) ∷ frame 4 (letters 101 1808) ∷ []

-- files of 1, 0, 4,096, 4,097 and 10,000 bytes
abbrev pub five : RunRecord
five = five_run (codes "a") [] (block 99) file_d file_e five_frames

abbrev pub five_frames_text : List ℕ
five_frames_text =
    codes "0 1\na\n2 4096\n" ++ (block 99 ++ (codes "\n3 4096\n" ++ (block 100 ++ (codes "\n3 1\nd\n4 4096\n" ++ (block 101 ++ (codes "\n4 4096\n" ++ (block 101 ++ (codes "\n4 1808\n" ++ (letters 101 1808 ++ codes "\n")))))))))

abbrev pub five_tail_text : List ℕ
five_tail_text =
    codes "end outer done\nend 0 done\nend 1 done\nend 2 done\nend 3 done\nend 4 done\nledger 26\nouter lease 0 0\nouter lease 1 0\n0 acquire 0 0\n0 close 0 succeeded\n0 final 0 succeeded ok\n0 cancel 0 succeeded\nouter lease 2 0\n1 acquire 1 0\n1 close 0 succeeded\n1 final 1 succeeded ok\n1 cancel 1 succeeded\nouter lease 3 0\n2 acquire 2 0\n2 close 0 succeeded\n2 final 2 succeeded ok\n2 cancel 2 succeeded\nouter lease 4 0\n3 acquire 3 0\n3 close 0 succeeded\n3 final 3 succeeded ok\n3 cancel 3 succeeded\nouter close 0 succeeded\n4 acquire 4 0\n4 close 0 succeeded\n4 final 4 succeeded ok\n4 cancel 4 succeeded\n"

abbrev pub five_text : List ℕ
five_text = five_frames_text ++ five_tail_text
