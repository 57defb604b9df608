-- What a description has of all that may be wrong, and the order in which it is looked at.
use Rattle.std.specs.Prelude.{◌≡◌, ◌⊎◌, ℕ, ◌+◌, ◌<◌, List, [], ◌∷◌, ◌++◌, length, map, None, IsUtf8}
use Rattle.toml.specs.Data.{Members, no_members, member}
use Rattle.toml.specs.Parse.{parse_document}
use Rattle.chunk_core.specs.Lists.{IsAmong}
use Rattle.pipeline_desc.specs.Limits.{most_bytes, most_streams, most_tables}
use Rattle.pipeline_desc.specs.Plans.{is_second, top_keys}
use Rattle.pipeline_desc.specs.declared.refusal.RefusalKind.TheVariants as refused
use Rattle.desc_laws.specs.Flaws.{Flaw, Key, key_text, Part}
use Rattle.desc_laws.specs.Flaws.Flaw.{TooLong, NotUtf8, NotToml, OtherKey, OtherType, OutOfLimits, OtherStep, OtherArgument, OtherTable, HalfJoined, ManySteps, TwoBetween, OtherKind, OtherPath, ManyTables, ManyStreams, OtherListKey, ManyListed}
use Rattle.desc_laws.specs.Flaws.Key.{Version, MaxOpen, Queue, Chunk, Take, Tables, Streams, Groups, Listing, Name, Path, Steps, With, Join, After, OnFault, To, Until, Max}
use Rattle.desc_laws.specs.Flaws.Part.{Top, Group, Table, Stream}
use Rattle.desc_laws.specs.Places.{document_in, groups_in, list_in, part_in, streams_in, tables_in, value_at, words_at}
use Rattle.desc_laws.specs.Says.{SaysNumber}
use Rattle.desc_laws.specs.Stages.{HasManySteps, HasOtherKind, HasOtherPath, HasTwoBetween, IsHalfJoined, IsWrongWord, stages_of}
use Rattle.desc_laws.specs.Values.{IsMistyped, IsOutside}

-- the keys of a part, in their order
abbrev pub keys_of : Part → List Key
keys_of Top = Version ∷ MaxOpen ∷ Queue ∷ Chunk ∷ Take ∷ Tables ∷ Streams ∷ Groups ∷ Listing ∷ []
keys_of (Group g) = Tables ∷ Streams ∷ []
keys_of (Table i) = Name ∷ Path ∷ []
keys_of (Stream k) = Path ∷ Steps ∷ With ∷ Join ∷ After ∷ OnFault ∷ To ∷ Until ∷ []

-- those of the list
abbrev pub keys_of_list : List Key
keys_of_list = Path ∷ Steps ∷ OnFault ∷ Max ∷ []

-- those that may stand in a part: the keys of groups and of the list do at the top where the version is the integer 2 alone
abbrev pub keys_known : List ℕ → Part → List (List ℕ)
keys_known bytes Top = top_keys (is_second (document_in bytes))
keys_known bytes at = map key_text (keys_of at)

-- one of the keys is none of these
abbrev pub HasOther : List (List ℕ) → Members → Type 0
HasOther names no_members = ⊥
HasOther names (member k d ms) = (IsAmong k names → ⊥) ⊎ HasOther names ms

-- the description has the flaw
abbrev pub HasFlaw : List ℕ → Flaw → Type 0
HasFlaw bytes TooLong = most_bytes < length bytes
HasFlaw bytes NotUtf8 = IsUtf8 bytes → ⊥
HasFlaw bytes NotToml = parse_document bytes ≡ None
HasFlaw bytes (OtherKey at) = HasOther (keys_known bytes at) (part_in bytes at)
HasFlaw bytes (OtherType at k) = IsMistyped k (value_at bytes at k)
HasFlaw bytes (OutOfLimits at k) = IsOutside bytes at k (value_at bytes at k)
HasFlaw bytes (OtherStep k i) = IsWrongWord bytes k i refused.UnknownStep
HasFlaw bytes (OtherArgument k i) = IsWrongWord bytes k i refused.OutOfRange
HasFlaw bytes (OtherTable k i) = IsWrongWord bytes k i refused.UnknownTable
HasFlaw bytes (HalfJoined k) = IsHalfJoined bytes k
HasFlaw bytes (ManySteps k) = HasManySteps bytes k
HasFlaw bytes (TwoBetween k) = HasTwoBetween bytes k
HasFlaw bytes (OtherKind k i) = HasOtherKind bytes k i
HasFlaw bytes (OtherPath k) = HasOtherPath bytes k
HasFlaw bytes ManyTables = most_tables < length (tables_in bytes)
HasFlaw bytes ManyStreams = most_streams < length (streams_in bytes)
HasFlaw bytes (OtherListKey k) = HasOther (map key_text keys_of_list) (part_in bytes (Stream k))
HasFlaw bytes (ManyListed k) = (n : ℕ) × SaysNumber (value_at bytes (Stream k) Max) 64 n × (most_streams < k + n)

-- of the bytes: their number, their encoding, and whether they are a document
abbrev pub flaws_of_bytes : List Flaw
flaws_of_bytes = TooLong ∷ NotUtf8 ∷ NotToml ∷ []

-- of each of so many, from number i on
abbrev pub flaws_from : {A : Type 0} → (ℕ → List Flaw) → ℕ → List A → List Flaw
flaws_from of i [] = []
flaws_from of i (x ∷ xs) = of i ++ flaws_from of (i + 1) xs

-- of the value at a key the type comes before the limits
abbrev pub flaws_at : Part → Key → List Flaw
flaws_at at k = OtherType at k ∷ OutOfLimits at k ∷ []

-- of step i of stream k
abbrev pub flaws_of_step : ℕ → ℕ → List Flaw
flaws_of_step k i = OtherStep k i ∷ OtherArgument k i ∷ OtherTable k i ∷ []

-- of words at a key of stream k the type comes before the words, which are steps from number i on
abbrev pub flaws_of_words : ℕ → Key → ℕ → List (List ℕ) → List Flaw
flaws_of_words k key i words = OtherType (Stream k) key ∷ flaws_from (flaws_of_step k) i words

-- of the value at a key; the steps behind a join are numbered behind it, and how many tables and streams a group has is looked at behind all groups
abbrev pub flaws_of_key : List ℕ → Part → Key → List Flaw
flaws_of_key bytes (Stream k) Steps = flaws_of_words k Steps 0 (words_at bytes k Steps)
flaws_of_key bytes (Stream k) After = flaws_of_words k After (length (words_at bytes k Steps) + 1) (words_at bytes k After)
flaws_of_key bytes (Group g) k = OtherType (Group g) k ∷ []
flaws_of_key bytes at k = flaws_at at k

-- of several keys in order
abbrev pub flaws_of_keys : List ℕ → Part → List Key → List Flaw
flaws_of_keys bytes at [] = []
flaws_of_keys bytes at (k ∷ ks) = flaws_of_key bytes at k ++ flaws_of_keys bytes at ks

-- of a part: first another key, and then the values of its keys in order
abbrev pub flaws_of_part : List ℕ → Part → List Flaw
flaws_of_part bytes at = OtherKey at ∷ flaws_of_keys bytes at (keys_of at)

-- of the groups in order, and then of all tables and of all streams together
abbrev pub flaws_of_groups : List ℕ → List Flaw
flaws_of_groups bytes = flaws_from (λ g. flaws_of_part bytes (Group g)) 0 (groups_in bytes) ++ ManyTables ∷ ManyStreams ∷ []

-- of the tables in order
abbrev pub flaws_of_tables : List ℕ → List Flaw
flaws_of_tables bytes = flaws_from (λ i. flaws_of_part bytes (Table i)) 0 (tables_in bytes)

-- of a stream: its keys, then what holds of several of them, and then the kind that comes to each of its steps and to its join
abbrev pub flaws_of_stream : List ℕ → ℕ → List Flaw
flaws_of_stream bytes k = flaws_of_part bytes (Stream k) ++ HalfJoined k ∷ ManySteps k ∷ TwoBetween k ∷ flaws_from (λ i. OtherKind k i ∷ []) 0 (stages_of bytes k)

-- of the streams in order
abbrev pub flaws_of_streams : List ℕ → List Flaw
flaws_of_streams bytes = flaws_from (flaws_of_stream bytes) 0 (streams_in bytes)

-- of the list behind k streams: its keys, how many streams it may have, its steps, and the kind that comes to each
abbrev pub flaws_of_list : List ℕ → ℕ → List Flaw
flaws_of_list bytes k =
    OtherListKey k ∷ flaws_of_keys bytes (Stream k) keys_of_list ++ ManyListed k ∷ ManySteps k ∷ TwoBetween k ∷ flaws_from (λ i. OtherKind k i ∷ []) 0 (stages_of bytes k)

-- of the list, where there is one
abbrev pub flaws_of_lists : List ℕ → List Flaw
flaws_of_lists bytes = flaws_from (flaws_of_list bytes) (length (streams_in bytes)) (list_in bytes)

-- of what the streams write to, in order
abbrev pub flaws_of_outputs : List ℕ → List Flaw
flaws_of_outputs bytes = flaws_from (λ k. OtherPath k ∷ []) 0 (streams_in bytes)

-- of all of it, in order
abbrev pub flaws_of : List ℕ → List Flaw
flaws_of bytes =
    flaws_of_bytes ++ (flaws_of_part bytes Top ++ (flaws_of_groups bytes ++ (flaws_of_tables bytes ++ (flaws_of_streams bytes ++ (flaws_of_lists bytes ++ flaws_of_outputs bytes)))))
