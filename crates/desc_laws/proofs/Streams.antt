-- A stream of a description.
use Rattle.std.proofs.Common.{◌≡◌, ℕ, suc, ◌+◌, List, [], ◌∷◌, ◌++◌, length, Option, Some, None, Ok, refl, ap, ◌∙◌, sym, subst, arith, append_assoc}
use Rattle.std.specs.Prelude.{slice_get, unwrap_or}
use Rattle.toml.specs.Data.{Members, no_members}
use Rattle.pipeline_desc.specs.Limits.{is_path, is_short}
use Rattle.pipeline_desc.specs.Reading.{Reading, ◌>>=◌, each_from}
use Rattle.pipeline_desc.specs.Steps.{are_fitting, kind_given, steps_at, steps_behind}
use Rattle.pipeline_desc.specs.Streams.{join_meant, second_meant, stream_keys, stream_meant, until_meant}
use Rattle.pipeline_desc.specs.Values.{known_keys, required, text_that, where_given}
use Rattle.pipeline_desc.specs.declared.join.Join.{Join}
use Rattle.pipeline_desc.specs.declared.step.Step.{Step}
use Rattle.pipeline_desc.specs.declared.stream.Second.{Second}
use Rattle.pipeline_desc.specs.declared.stream.StreamSpec.{StreamSpec}
use Rattle.desc_laws.specs.Flaws.{Flaw, Key}
use Rattle.desc_laws.specs.Flaws.Flaw.{OtherKey, HalfJoined, ManySteps, TwoBetween, OtherKind}
use Rattle.desc_laws.specs.Flaws.Key.{Path, Steps, With, Join as JoinKey, After, OnFault, To, Until}
use Rattle.desc_laws.specs.Flaws.Part.{Stream}
use Rattle.desc_laws.specs.Has.{HasFlaw, flaws_from, flaws_of_key, flaws_of_keys, flaws_of_stream, flaws_of_streams, flaws_of_words, keys_of}
use Rattle.desc_laws.specs.Places.{list_in, part_in, streams_in, value_at, words_at}
use Rattle.desc_laws.specs.Says.{SaysGiven, SaysStream, SaysStreams, SaysSteps, SaysText}
use Rattle.desc_laws.specs.Stages.{names_in, stages_of}
use Rattle.desc_laws.proofs.Agree.{Agrees, made_agrees, then_agrees}
use Rattle.desc_laws.proofs.Between.{fitting_agrees}
use Rattle.desc_laws.proofs.Numbers.{says_until}
use Rattle.desc_laws.proofs.Positions.{at_stream}
use Rattle.desc_laws.proofs.Said.{says_text}
use Rattle.desc_laws.proofs.Several.{five_read, four_read, last_read}
use Rattle.desc_laws.proofs.Sides.{AreRead, IsJoinGiven, SecondIs, join_agrees, join_given, says_given, second_agrees, second_is, second_said, second_stands, until_agrees}
use Rattle.desc_laws.proofs.Steps.{after_stand, get_front, said_append, said_length, steps_stand, words_agree, words_said}
use Rattle.desc_laws.proofs.Tables.{text_read}
use Rattle.desc_laws.proofs.Takes.{kinds_agree}
use Rattle.desc_laws.proofs.Texts.{bind_ok, given_text_agrees, needed_text_agrees, that_decides}
use Rattle.desc_laws.proofs.Top.{keys_agree}
use Rattle.desc_laws.proofs.Words.{setting_in}

module _ (bytes : List ℕ) (k : ℕ) where
  -- what may be wrong behind the keys
  abbrev kinds : List Flaw
  kinds = flaws_from (λ i. OtherKind k i ∷ []) 0 (stages_of bytes k)

  abbrev behind : List Flaw
  behind = HalfJoined k ∷ ManySteps k ∷ TwoBetween k ∷ kinds

  key_before : {A B : Type 0} (key : Key) (keys : List Key) (m : Reading A) (f : A → Reading B) → Agrees (HasFlaw bytes) (flaws_of_key bytes (Stream k) key) m
      → ((x : A) → m ≡ Ok x → Agrees (HasFlaw bytes) (flaws_of_keys bytes (Stream k) keys ++ behind) (f x)) → Agrees (HasFlaw bytes) (flaws_of_keys bytes (Stream k) (key ∷ keys) ++ behind) (m >>= f)
  key_before key keys m f h rest =
      subst (λ l. Agrees (HasFlaw bytes) l (m >>= f)) (sym (append_assoc (flaws_of_key bytes (Stream k) key) (flaws_of_keys bytes (Stream k) keys) behind))
      (then_agrees (HasFlaw bytes) (flaws_of_key bytes (Stream k) key) (flaws_of_keys bytes (Stream k) keys ++ behind) m f h rest)

  -- what is made of the values of all keys
  abbrev made : List ℕ → List Step → Option (List ℕ) → Option (List ℕ) → Option ℕ → Option Second → Reading StreamSpec
  made path steps on_fault to until second = Ok (record { path = path; steps = steps; second = second; on_fault = on_fault; to = to; until = until })

  abbrev whole : List ℕ → List Step → Option (List ℕ) → Option (List ℕ) → Option ℕ → Option Second → Reading StreamSpec
  whole path steps on_fault to until second =
      are_fitting k (steps ++ steps_behind second) >>= (λ _. kind_given k steps second >>= (λ _. made path steps on_fault to until second))

  same_behind : (side : Option (List ℕ)) (joined : Option Join) (after : List Step) (second : Option Second) → SecondIs side joined after second → steps_behind second ≡ after
  same_behind side joined after None h = sym h.2
  same_behind side joined after (Some x) h = h.2

  behind_agrees : (path : List ℕ) (steps : List Step) (side : Option (List ℕ)) (joined : Option Join) (after : List Step) (on_fault to : Option (List ℕ)) (until : Option ℕ) → SaysSteps (names_in bytes k) (words_at bytes k Steps) steps → AreRead bytes k side joined after
      → Agrees (HasFlaw bytes) behind (second_meant (at_stream k).0 side joined after >>= whole path steps on_fault to until)
  behind_agrees path steps side joined after on_fault to until said are =
      then_agrees (HasFlaw bytes) (HalfJoined k ∷ []) (ManySteps k ∷ TwoBetween k ∷ kinds) (second_meant (at_stream k).0 side joined after) (whole path steps on_fault to until)
      (second_agrees bytes k side joined after are)
      (λ second is. let of = second_is k side joined after second is in
      then_agrees (HasFlaw bytes) (ManySteps k ∷ TwoBetween k ∷ []) kinds (are_fitting k (steps ++ steps_behind second)) (λ _. kind_given k steps second >>= (λ _. made path steps on_fault to until second))
      (fitting_agrees bytes k (steps ++ steps_behind second)
      (said_append (names_in bytes k) (words_at bytes k Steps) (words_at bytes k After) steps (steps_behind second) said
      (subst (SaysSteps (names_in bytes k) (words_at bytes k After)) (sym (same_behind side joined after second of)) are.after_is)))
      (λ u fit. made_agrees (HasFlaw bytes) kinds (kind_given k steps second) (λ _. made path steps on_fault to until second) (kinds_agree bytes k steps second said (second_stands bytes k side joined after are second of)) (λ j fits. tt)))

  after_agrees : (steps : List Step) → SaysSteps (names_in bytes k) (words_at bytes k Steps) steps → Agrees (HasFlaw bytes) (flaws_of_key bytes (Stream k) After) (steps_at (setting_in bytes k) k (length steps + 1) (value_at bytes (Stream k) After))
  after_agrees steps said =
      let same : length steps + 1 ≡ length (words_at bytes k Steps) + 1 = ap (λ n. n + 1) (said_length (names_in bytes k) (words_at bytes k Steps) steps said) in
      subst (λ n. Agrees (HasFlaw bytes) (flaws_of_words k After n (words_at bytes k After)) (steps_at (setting_in bytes k) k (length steps + 1) (value_at bytes (Stream k) After))) same
      (words_agree bytes k After (length steps + 1) (λ d. refl) refl (λ j word e. after_stand bytes k (length steps + 1) j word same e))

  pub stream_agrees : Agrees (HasFlaw bytes) (flaws_of_stream bytes k) (stream_meant (setting_in bytes k) k (part_in bytes (Stream k)))
  stream_agrees =
      then_agrees (HasFlaw bytes) (OtherKey (Stream k) ∷ []) (flaws_of_keys bytes (Stream k) (keys_of (Stream k)) ++ behind) _ _ (keys_agree bytes (Stream k)) (λ u known.
      key_before Path (Steps ∷ With ∷ JoinKey ∷ After ∷ OnFault ∷ To ∷ Until ∷ []) _ _ (needed_text_agrees bytes (Stream k) Path (at_stream k).0 refl refl is_path (λ d. refl) (that_decides bytes (Stream k) Path is_path (λ d. refl)) refl) (λ path at.
      key_before Steps (With ∷ JoinKey ∷ After ∷ OnFault ∷ To ∷ Until ∷ []) _ _ (words_agree bytes k Steps 0 (λ d. refl) refl (steps_stand bytes k)) (λ steps are.
      let said = words_said bytes k Steps 0 steps are in
      key_before With (JoinKey ∷ After ∷ OnFault ∷ To ∷ Until ∷ []) _ _ (given_text_agrees bytes (Stream k) With (at_stream k).0 refl refl is_path (λ d. refl) (that_decides bytes (Stream k) With is_path (λ d. refl)) refl) (λ side beside.
      key_before JoinKey (After ∷ OnFault ∷ To ∷ Until ∷ []) _ _ (join_agrees bytes k) (λ joined named.
      key_before After (OnFault ∷ To ∷ Until ∷ []) _ _ (after_agrees steps said) (λ after follow.
      key_before OnFault (To ∷ Until ∷ []) _ _ (given_text_agrees bytes (Stream k) OnFault (at_stream k).0 refl refl is_short (λ d. refl) (that_decides bytes (Stream k) OnFault is_short (λ d. refl)) refl) (λ on_fault given.
      key_before To (Until ∷ []) _ _ (given_text_agrees bytes (Stream k) To (at_stream k).0 refl refl is_path (λ d. refl) (that_decides bytes (Stream k) To is_path (λ d. refl)) refl) (λ to written.
      key_before Until [] _ _ (until_agrees bytes k) (λ until ends.
      behind_agrees path steps side joined after on_fault to until said
      (record {
        side_is = says_given k (value_at bytes (Stream k) With) is_path side beside;
        join_is = join_given k (value_at bytes (Stream k) JoinKey) joined named;
        after_is = words_said bytes k After (length steps + 1) after follow;
      }))))))))))

  -- what is read behind `join`
  abbrev rest : List ℕ → List Step → Option (List ℕ) → Option Join → Reading StreamSpec
  rest path steps side joined =
      steps_at (setting_in bytes k) k (length steps + 1) (value_at bytes (Stream k) After) >>= (λ after.
      where_given (text_that is_short (at_stream k).0) (value_at bytes (Stream k) OnFault) >>= (λ on_fault.
      where_given (text_that is_path (at_stream k).0) (value_at bytes (Stream k) To) >>= (λ to.
      where_given (until_meant (length (streams_in bytes)) k) (value_at bytes (Stream k) Until) >>= (λ until. second_meant (at_stream k).0 side joined after >>= whole path steps on_fault to until))))

  abbrev spec : List ℕ → List Step → Option (List ℕ) → Option (List ℕ) → Option ℕ → Option Second → StreamSpec
  spec path steps on_fault to until second = record { path = path; steps = steps; second = second; on_fault = on_fault; to = to; until = until }

  behind_said : (path : List ℕ) (steps : List Step) (side : Option (List ℕ)) (joined : Option Join) (s : StreamSpec) → SaysText (value_at bytes (Stream k) Path) path → SaysSteps (names_in bytes k) (words_at bytes k Steps) steps
      → SaysGiven (value_at bytes (Stream k) With) side → IsJoinGiven (value_at bytes (Stream k) JoinKey) joined → rest path steps side joined ≡ Ok s → SaysStream bytes k s
  behind_said path steps side joined s at are beside named e =
      let (after, on_fault, to, until, follow, given, written, ends, more) =
      four_read (steps_at (setting_in bytes k) k (length steps + 1) (value_at bytes (Stream k) After)) (where_given (text_that is_short (at_stream k).0) (value_at bytes (Stream k) OnFault))
      (where_given (text_that is_path (at_stream k).0) (value_at bytes (Stream k) To)) (where_given (until_meant (length (streams_in bytes)) k) (value_at bytes (Stream k) Until))
      (λ after on_fault to until. second_meant (at_stream k).0 side joined after >>= whole path steps on_fault to until) s e in
      let (second, is, same) = last_read (second_meant (at_stream k).0 side joined after) (λ x. are_fitting k (steps ++ steps_behind x)) (λ x. kind_given k steps x) (spec path steps on_fault to until) s more in
      subst (SaysStream bytes k) {x = spec path steps on_fault to until second} same (record {
        path = at;
        steps = are;
        second = second_said bytes k side joined after (record { side_is = beside; join_is = named; after_is = words_said bytes k After (length steps + 1) after follow }) second (second_is k side joined after second is);
        on_fault = says_given k (value_at bytes (Stream k) OnFault) is_short on_fault given;
        to = says_given k (value_at bytes (Stream k) To) is_path to written;
        until = says_until k (value_at bytes (Stream k) Until) (length (streams_in bytes)) until ends;
      })

  -- a stream that was read is what stands there
  pub stream_said : (s : StreamSpec) → stream_meant (setting_in bytes k) k (part_in bytes (Stream k)) ≡ Ok s → SaysStream bytes k s
  stream_said s e =
      let (path, steps, side, joined, at, are, beside, named, more) =
      five_read (known_keys stream_keys (at_stream k).0 (part_in bytes (Stream k))) (required (text_that is_path (at_stream k).0) (at_stream k).0 (value_at bytes (Stream k) Path)) (steps_at (setting_in bytes k) k 0 (value_at bytes (Stream k) Steps))
      (where_given (text_that is_path (at_stream k).0) (value_at bytes (Stream k) With)) (where_given (join_meant (at_stream k).0) (value_at bytes (Stream k) JoinKey)) rest s e in
      let (d, there, seen) = text_read (value_at bytes (Stream k) Path) is_path (at_stream k).0 path at in
      behind_said path steps side joined s (says_text (value_at bytes (Stream k) Path) d path there seen) (words_said bytes k Steps 0 steps are) (says_given k (value_at bytes (Stream k) With) is_path side beside)
      (join_given k (value_at bytes (Stream k) JoinKey) joined named) more

-- what is read of stream k
abbrev pub stream_of : List ℕ → ℕ → Members → Reading StreamSpec
stream_of bytes k ms = stream_meant (setting_in bytes k) k ms

-- the streams from number k on
module _ (bytes : List ℕ) where
  -- these stand from number k on
  abbrev Stand : ℕ → List Members → Type 0
  Stand k xs = (j : ℕ) (x : Members) → slice_get xs j ≡ Some x → part_in bytes (Stream (k + j)) ≡ x

  stand_first : (k : ℕ) (x : Members) (xs : List Members) → Stand k (x ∷ xs) → part_in bytes (Stream k) ≡ x
  stand_first k x xs stand = let zero_more : k ≡ k + 0 = omega arith in ap (λ n. part_in bytes (Stream n)) zero_more ∙ stand 0 x refl

  stand_next : (k : ℕ) (x : Members) (xs : List Members) → Stand k (x ∷ xs) → Stand (k + 1) xs
  stand_next k x xs stand j y e = let next : k + 1 + j ≡ k + suc j = omega arith in ap (λ n. part_in bytes (Stream n)) next ∙ stand (suc j) y e

  streams_follow : (k : ℕ) (xs : List Members) → Stand k xs → Agrees (HasFlaw bytes) (flaws_from (flaws_of_stream bytes) k xs) (each_from (stream_of bytes) k xs)
  streams_follow k [] stand = tt
  streams_follow k (x ∷ xs) stand =
      then_agrees (HasFlaw bytes) (flaws_of_stream bytes k) (flaws_from (flaws_of_stream bytes) (k + 1) xs) (stream_of bytes k x) (λ y. each_from (stream_of bytes) (k + 1) xs >>= (λ ys. Ok (y ∷ ys)))
      (subst (λ ms. Agrees (HasFlaw bytes) (flaws_of_stream bytes k) (stream_of bytes k ms)) (stand_first k x xs stand) (stream_agrees bytes k))
      (λ y is. made_agrees (HasFlaw bytes) (flaws_from (flaws_of_stream bytes) (k + 1) xs) (each_from (stream_of bytes) (k + 1) xs) (λ ys. Ok (y ∷ ys)) (streams_follow (k + 1) xs (stand_next k x xs stand)) (λ ys are. tt))

  streams_read : (k : ℕ) (xs : List Members) (streams : List StreamSpec) → Stand k xs → each_from (stream_of bytes) k xs ≡ Ok streams → (length streams ≡ length xs) × SaysStreams bytes k streams
  streams_read k [] streams stand e = let none : [] ≡ streams = cc in subst (λ l. (length l ≡ 0) × SaysStreams bytes k l) none (refl, tt)
  streams_read k (x ∷ xs) streams stand e =
      let (s, is, more) = bind_ok (stream_of bytes k x) (λ y. each_from (stream_of bytes) (k + 1) xs >>= (λ ys. Ok (y ∷ ys))) streams e in
      let (others, are, last) = bind_ok (each_from (stream_of bytes) (k + 1) xs) (λ ys. Ok (s ∷ ys)) streams more in
      let whole : s ∷ others ≡ streams = cc in
      let (count, said) = streams_read (k + 1) xs others (stand_next k x xs stand) are in
      subst (λ l. (length l ≡ suc (length xs)) × SaysStreams bytes k l) whole (ap suc count, (stream_said bytes k s (ap (stream_of bytes k) (stand_first k x xs stand) ∙ is), said))

  all_stand : Stand 0 (streams_in bytes)
  all_stand j x e = let same : 0 + j ≡ j = omega arith in ap (λ n. part_in bytes (Stream n)) same ∙ ap (λ o. unwrap_or o no_members) (get_front (streams_in bytes) (list_in bytes) j x e)

  -- all streams
  pub streams_agree : Agrees (HasFlaw bytes) (flaws_of_streams bytes) (each_from (stream_of bytes) 0 (streams_in bytes))
  streams_agree = streams_follow 0 (streams_in bytes) all_stand

  pub streams_said : (streams : List StreamSpec) → each_from (stream_of bytes) 0 (streams_in bytes) ≡ Ok streams → (length streams ≡ length (streams_in bytes)) × SaysStreams bytes 0 streams
  streams_said streams e = streams_read 0 (streams_in bytes) streams all_stand e
