-- Descriptions that are written out, and what may be wrong with them.
use Rattle.std.specs.Prelude.{◌≡◌, ℕ, List, [], ◌∷◌, ◌++◌, codes}
use Rattle.desc_laws.specs.Flaws.{Flaw, Key, Part}
use Rattle.desc_laws.specs.Flaws.Flaw.{TooLong, NotUtf8, NotToml, OtherKey, OtherType, OutOfLimits, OtherStep, OtherArgument, OtherTable, HalfJoined, ManySteps, TwoBetween, OtherKind, OtherPath, ManyTables, ManyStreams, OtherListKey, ManyListed}
use Rattle.desc_laws.specs.Flaws.Key.{Version, MaxOpen, Queue, Chunk, Take, Tables, Streams, Groups, Listing, Name, Path, Steps, With, Join, After, OnFault, To, Until, Max}
use Rattle.desc_laws.specs.Flaws.Part.{Top, Group, Table, Stream}
use Rattle.desc_laws.specs.Has.{HasFlaw, flaws_of}

-- the type and the limits of a value
abbrev pub of_value : Part → Key → List Flaw
of_value at k = OtherType at k ∷ OutOfLimits at k ∷ []

-- what may be wrong above all streams, where there is no table
abbrev pub of_front : List Flaw
of_front =
    (TooLong ∷ NotUtf8 ∷ NotToml ∷ OtherKey Top ∷ [])
    ++ of_value Top Version ++ of_value Top MaxOpen ++ of_value Top Queue ++ of_value Top Chunk ++ of_value Top Take ++ of_value Top Tables ++ of_value Top Streams
    ++ of_value Top Groups ++ of_value Top Listing ++ ManyTables ∷ ManyStreams ∷ []

-- what may be wrong with step i of stream k
abbrev pub of_word : ℕ → ℕ → List Flaw
of_word k i = OtherStep k i ∷ OtherArgument k i ∷ OtherTable k i ∷ []

-- one stream of a file, with these further keys
abbrev pub one_stream : List ℕ → List ℕ
one_stream keys = codes "[[stream]]\npath = 'a'\n" ++ keys

-- one stream of two steps, and one whose two sides go through a step and are joined, with another step behind the join
abbrev pub FlawsFollow : Type 0
FlawsFollow =
    (flaws_of (one_stream (codes "steps = ['lines', 'utf8']\n"))
    ≡ of_front
    ++ (OtherKey (Stream 0) ∷ []) ++ of_value (Stream 0) Path ++ (OtherType (Stream 0) Steps ∷ []) ++ of_word 0 0 ++ of_word 0 1 ++ of_value (Stream 0) With ++ of_value (Stream 0) Join ++ (OtherType (Stream 0) After ∷ [])
    ++ of_value (Stream 0) OnFault ++ of_value (Stream 0) To ++ of_value (Stream 0) Until
    ++ (HalfJoined 0 ∷ ManySteps 0 ∷ TwoBetween 0 ∷ OtherKind 0 0 ∷ OtherKind 0 1 ∷ OtherKind 0 2 ∷ OtherPath 0 ∷ []))
    × (flaws_of (one_stream (codes "steps = ['lines']\nwith = 'b'\njoin = 'zip'\nafter = ['field 0']\n"))
    ≡ of_front
    ++ (OtherKey (Stream 0) ∷ []) ++ of_value (Stream 0) Path ++ (OtherType (Stream 0) Steps ∷ []) ++ of_word 0 0 ++ of_value (Stream 0) With ++ of_value (Stream 0) Join ++ (OtherType (Stream 0) After ∷ []) ++ of_word 0 2
    ++ of_value (Stream 0) OnFault ++ of_value (Stream 0) To ++ of_value (Stream 0) Until
    ++ (HalfJoined 0 ∷ ManySteps 0 ∷ TwoBetween 0 ∷ OtherKind 0 0 ∷ OtherKind 0 1 ∷ OtherKind 0 2 ∷ OtherPath 0 ∷ []))

-- a step that doesn't take lines; a word that is no step, behind a join that isn't there; an argument that is no number; a table that isn't there; the
-- number of the stream itself; and a file that is written and read
abbrev pub FlawsAreThere : Type 0
FlawsAreThere =
    HasFlaw (one_stream (codes "steps = ['lines', 'utf8']\n")) (OtherKind 0 1)
    × HasFlaw (one_stream (codes "steps = ['lines']\nafter = ['shout']\n")) (OtherStep 0 2)
    × HasFlaw (one_stream (codes "steps = ['take ten']\n")) (OtherArgument 0 0)
    × HasFlaw (one_stream (codes "steps = ['csv', 'lookup price 0']\n")) (OtherTable 0 1)
    × HasFlaw (one_stream (codes "with = 'b'\n")) (HalfJoined 0)
    × HasFlaw (one_stream (codes "until = 0\n")) (OutOfLimits (Stream 0) Until)
    × HasFlaw (one_stream (codes "to = 'a'\n")) (OtherPath 0)

-- a group with a table and no stream, and a list behind it
abbrev pub a_group_and_a_list : List ℕ
a_group_and_a_list = codes "version = 2\n[[group]]\ntable = [{name = 't', path = 'a'}]\n[list]\npath = 'l'\n"

-- the keys of each group are looked at behind the top's, and how many there are in all behind these; then come all tables, and the list behind the streams
abbrev pub PartsFollow : Type 0
PartsFollow =
    flaws_of a_group_and_a_list
    ≡ (TooLong ∷ NotUtf8 ∷ NotToml ∷ OtherKey Top ∷ [])
    ++ of_value Top Version ++ of_value Top MaxOpen ++ of_value Top Queue ++ of_value Top Chunk ++ of_value Top Take ++ of_value Top Tables ++ of_value Top Streams
    ++ of_value Top Groups ++ of_value Top Listing
    ++ (OtherKey (Group 0) ∷ OtherType (Group 0) Tables ∷ OtherType (Group 0) Streams ∷ ManyTables ∷ ManyStreams ∷ OtherKey (Table 0) ∷ [])
    ++ of_value (Table 0) Name ++ of_value (Table 0) Path
    ++ (OtherListKey 0 ∷ []) ++ of_value (Stream 0) Path ++ (OtherType (Stream 0) Steps ∷ []) ++ of_value (Stream 0) OnFault ++ of_value (Stream 0) Max
    ++ (ManyListed 0 ∷ ManySteps 0 ∷ TwoBetween 0 ∷ OtherKind 0 0 ∷ [])

-- a key of the second version in a description of the first, a list of another key, and a table that another group has
abbrev pub PartsHaveFlaws : Type 0
PartsHaveFlaws =
    HasFlaw (codes "list = {path = 'l'}\n") (OtherKey Top)
    × HasFlaw (codes "version = 2\nlist = {path = 'l', to = 'a'}\n") (OtherListKey 0)
    × HasFlaw (codes "version = 2\n[[group]]\ntable = [{name = 't', path = 'a'}]\n[[group]]\nstream = [{path = 'b', steps = ['csv', 'lookup t 0']}]\n") (OtherTable 0 1)
