-- The list of a description.
use Rattle.std.proofs.Common.{◌≡◌, ℕ, ◌+◌, ◌<◌, Bool, true, false, List, [], ◌∷◌, ◌++◌, length, map, Option, Some, None, Ok, refl, ap, ◌∙◌, sym, subst, append_assoc, nat_le, leb-true, leb-false, arith}
use Rattle.std.specs.Prelude.{option_to_list, slice_get, unwrap_or}
use Rattle.toml.specs.Data.{Members, no_members, as_str}
use Rattle.pipeline_desc.specs.Limits.{is_path, is_short, listed_by_default, most_streams}
use Rattle.pipeline_desc.specs.Reading.{Reading, ◌>>=◌, passes}
use Rattle.pipeline_desc.specs.Steps.{are_fitting, kind_given, steps_at}
use Rattle.pipeline_desc.specs.Streams.{list_keys, list_meant, max_meant}
use Rattle.pipeline_desc.specs.Values.{all_known, known_keys, number_within, required, text_that, where_given}
use Rattle.pipeline_desc.specs.declared.listing.ListSpec.{ListSpec}
use Rattle.pipeline_desc.specs.declared.refusal.RefusalKind.TheVariants as refused
use Rattle.pipeline_desc.specs.declared.step.Step.{Step}
use Rattle.desc_laws.specs.Flaws.{Flaw, Key, key_text}
use Rattle.desc_laws.specs.Flaws.Flaw.{ManySteps, TwoBetween, OtherKind, OtherListKey, ManyListed}
use Rattle.desc_laws.specs.Flaws.Key.{Path, Steps, With, Join as JoinKey, After, OnFault, To, Max}
use Rattle.desc_laws.specs.Flaws.Part.{Stream}
use Rattle.desc_laws.specs.Has.{HasFlaw, flaws_at, flaws_from, flaws_of_key, flaws_of_keys, flaws_of_list, flaws_of_lists, keys_of_list}
use Rattle.desc_laws.specs.Places.{entries_in, list_in, part_in, streams_in, value_at, words_at}
use Rattle.desc_laws.specs.Says.{SaysGiven, SaysList, SaysListed, SaysNumber, SaysSteps}
use Rattle.desc_laws.specs.Stages.{names_in, stages_of}
use Rattle.desc_laws.proofs.Agree.{Agrees, made_agrees, test_agrees, then_agrees}
use Rattle.desc_laws.proofs.Between.{fitting_agrees}
use Rattle.desc_laws.proofs.Keys.{none_other, some_other, unknown_missing}
use Rattle.desc_laws.proofs.Numbers.{says_number_at, says_one}
use Rattle.desc_laws.proofs.Positions.{at_stream}
use Rattle.desc_laws.proofs.Said.{says_text}
use Rattle.desc_laws.proofs.Sides.{AreRead, IsJoinGiven, says_given, second_stands}
use Rattle.desc_laws.proofs.Steps.{get_behind, said_append, steps_stand, words_agree, words_said}
use Rattle.desc_laws.proofs.Tables.{text_read}
use Rattle.desc_laws.proofs.Takes.{kinds_agree}
use Rattle.desc_laws.proofs.Texts.{bind_ok, given_text_agrees, needed_text_agrees, that_decides}
use Rattle.desc_laws.proofs.Top.{number_agrees}
use Rattle.desc_laws.proofs.Words.{setting_in}

-- a list has no other keys than its own
passes_so : (b : Bool) (k : ℕ) (u : Unit {0}) → passes b refused.UnknownKey (at_stream k).0 ≡ Ok u → b ≡ true
passes_so true k u e = refl
passes_so false k u e = (cc)

module _ (bytes : List ℕ) (k : ℕ) where
  abbrev ms : Members
  ms = part_in bytes (Stream k)

  abbrev names : List (List ℕ)
  names = map key_text keys_of_list

  -- nothing stands at these keys of a stream
  record IsBare : Type 0 where
    pub side : value_at bytes (Stream k) With ≡ None
    pub join : value_at bytes (Stream k) JoinKey ≡ None
    pub after : value_at bytes (Stream k) After ≡ None
    pub to : value_at bytes (Stream k) To ≡ None

  bare : (u : Unit {0}) → known_keys list_keys (at_stream k).0 ms ≡ Ok u → IsBare
  bare u e =
      let known = passes_so (all_known list_keys ms) k u e in
      record {
        side = unknown_missing list_keys (key_text With) ms known refl;
        join = unknown_missing list_keys (key_text JoinKey) ms known refl;
        after = unknown_missing list_keys (key_text After) ms known refl;
        to = unknown_missing list_keys (key_text To) ms known refl;
      }

  -- what may be wrong behind the keys
  abbrev kinds : List Flaw
  kinds = flaws_from (λ i. OtherKind k i ∷ []) 0 (stages_of bytes k)

  abbrev behind : List Flaw
  behind = ManyListed k ∷ ManySteps k ∷ TwoBetween k ∷ kinds

  key_before : {A B : Type 0} (key : Key) (keys : List Key) (m : Reading A) (f : A → Reading B) → Agrees (HasFlaw bytes) (flaws_of_key bytes (Stream k) key) m
      → ((x : A) → m ≡ Ok x → Agrees (HasFlaw bytes) (flaws_of_keys bytes (Stream k) keys ++ behind) (f x)) → Agrees (HasFlaw bytes) (flaws_of_keys bytes (Stream k) (key ∷ keys) ++ behind) (m >>= f)
  key_before key keys m f h rest =
      subst (λ l. Agrees (HasFlaw bytes) l (m >>= f)) (sym (append_assoc (flaws_of_key bytes (Stream k) key) (flaws_of_keys bytes (Stream k) keys) behind))
      (then_agrees (HasFlaw bytes) (flaws_of_key bytes (Stream k) key) (flaws_of_keys bytes (Stream k) keys ++ behind) m f h rest)

  -- what is made of the values of all keys, and what is read before
  abbrev made : List ℕ → List Step → Option (List ℕ) → ℕ → Reading ListSpec
  made path steps on_fault max = Ok (record { path = path; steps = steps; on_fault = on_fault; max = max })

  abbrev behind_fitting : List ℕ → List Step → Option (List ℕ) → ℕ → Reading ListSpec
  behind_fitting path steps on_fault max = kind_given k steps None >>= (λ _. made path steps on_fault max)

  abbrev behind_max : List ℕ → List Step → Option (List ℕ) → ℕ → Reading ListSpec
  behind_max path steps on_fault max = are_fitting k (steps ++ []) >>= (λ _. behind_fitting path steps on_fault max)

  abbrev behind_fault : List ℕ → List Step → Option (List ℕ) → Reading ListSpec
  behind_fault path steps on_fault = max_meant k (value_at bytes (Stream k) Max) >>= behind_max path steps on_fault

  abbrev behind_steps : List ℕ → List Step → Reading ListSpec
  behind_steps path steps = where_given (text_that is_short (at_stream k).0) (value_at bytes (Stream k) OnFault) >>= behind_fault path steps

  abbrev behind_path : List ℕ → Reading ListSpec
  behind_path path = steps_at (setting_in bytes k) k 0 (value_at bytes (Stream k) Steps) >>= behind_steps path

  abbrev behind_keys : Reading ListSpec
  behind_keys = required (text_that is_path (at_stream k).0) (at_stream k).0 (value_at bytes (Stream k) Path) >>= behind_path

  -- how many streams the list may have
  abbrev few_of : Option ℕ → Reading ℕ
  few_of max = passes (nat_le (k + unwrap_or max listed_by_default) most_streams) refused.OutOfRange (at_stream k).0 >>= (λ _. Ok (unwrap_or max listed_by_default))

  max_agrees : Agrees (HasFlaw bytes) (flaws_at (Stream k) Max ++ ManyListed k ∷ []) (max_meant k (value_at bytes (Stream k) Max))
  max_agrees =
      then_agrees (HasFlaw bytes) (flaws_at (Stream k) Max) (ManyListed k ∷ []) (where_given (number_within 1 most_streams (at_stream k).0) (value_at bytes (Stream k) Max)) few_of
      (number_agrees bytes (Stream k) Max 1 most_streams (at_stream k).0 refl refl refl (λ d. refl) (λ d. refl))
      (λ max is.
      let n = unwrap_or max listed_by_default in
      let said = says_number_at k (value_at bytes (Stream k) Max) 1 most_streams 64 max is in
      made_agrees (HasFlaw bytes) (ManyListed k ∷ []) (passes (nat_le (k + n) most_streams) refused.OutOfRange (at_stream k).0) (λ _. Ok n)
      (test_agrees (HasFlaw bytes) (ManyListed k) (nat_le (k + n) most_streams)
      (λ e h. let (m, other, more) = h in let same = says_one (value_at bytes (Stream k) Max) 64 m n other said in omega (arith, more, same, leb-true (k + n) most_streams e))
      (λ e. (n, said, (let more = leb-false (k + n) most_streams e in omega (arith, more)))))
      (λ u few. tt))

  module _ (b : IsBare) where
    no_words : words_at bytes k After ≡ []
    no_words = ap (entries_in as_str) b.after

    none_read : AreRead bytes k None None []
    none_read = record {
      side_is = subst (λ o. SaysGiven o None) (sym b.side) refl;
      join_is = subst (λ o. IsJoinGiven o None) (sym b.join) refl;
      after_is = subst (λ ws. SaysSteps (names_in bytes k) ws []) (sym no_words) tt;
    }

    steps_agree : (path : List ℕ) (steps : List Step) (on_fault : Option (List ℕ)) (max : ℕ) → SaysSteps (names_in bytes k) (words_at bytes k Steps) steps
        → Agrees (HasFlaw bytes) (ManySteps k ∷ TwoBetween k ∷ kinds) (behind_max path steps on_fault max)
    steps_agree path steps on_fault max said =
        then_agrees (HasFlaw bytes) (ManySteps k ∷ TwoBetween k ∷ []) kinds (are_fitting k (steps ++ [])) (λ _. behind_fitting path steps on_fault max)
        (fitting_agrees bytes k (steps ++ []) (said_append (names_in bytes k) (words_at bytes k Steps) (words_at bytes k After) steps [] said none_read.after_is))
        (λ u fit. made_agrees (HasFlaw bytes) kinds (kind_given k steps None) (λ _. made path steps on_fault max) (kinds_agree bytes k steps None said (second_stands bytes k None None [] none_read None (refl, refl, refl))) (λ j fits. tt))

    max_then : (path : List ℕ) (steps : List Step) (on_fault : Option (List ℕ)) → SaysSteps (names_in bytes k) (words_at bytes k Steps) steps → Agrees (HasFlaw bytes) (flaws_of_keys bytes (Stream k) (Max ∷ []) ++ behind) (behind_fault path steps on_fault)
    max_then path steps on_fault said =
        then_agrees (HasFlaw bytes) (flaws_at (Stream k) Max ++ ManyListed k ∷ []) (ManySteps k ∷ TwoBetween k ∷ kinds) (max_meant k (value_at bytes (Stream k) Max)) (behind_max path steps on_fault) max_agrees (λ max is. steps_agree path steps on_fault max said)

    keys_then : Agrees (HasFlaw bytes) (flaws_of_keys bytes (Stream k) keys_of_list ++ behind) behind_keys
    keys_then =
        key_before Path (Steps ∷ OnFault ∷ Max ∷ []) _ _ (needed_text_agrees bytes (Stream k) Path (at_stream k).0 refl refl is_path (λ d. refl) (that_decides bytes (Stream k) Path is_path (λ d. refl)) refl) (λ path at.
        key_before Steps (OnFault ∷ Max ∷ []) _ _ (words_agree bytes k Steps 0 (λ d. refl) refl (steps_stand bytes k)) (λ steps are.
        let said = words_said bytes k Steps 0 steps are in
        key_before OnFault (Max ∷ []) _ _ (given_text_agrees bytes (Stream k) OnFault (at_stream k).0 refl refl is_short (λ d. refl) (that_decides bytes (Stream k) OnFault is_short (λ d. refl)) refl) (λ on_fault given.
        max_then path steps on_fault said)))

  pub list_agrees : Agrees (HasFlaw bytes) (flaws_of_list bytes k) (list_meant (setting_in bytes k) k ms)
  list_agrees =
      then_agrees (HasFlaw bytes) (OtherListKey k ∷ []) (flaws_of_keys bytes (Stream k) keys_of_list ++ behind) (known_keys list_keys (at_stream k).0 ms) (λ _. behind_keys)
      (test_agrees (HasFlaw bytes) (OtherListKey k) (all_known names ms) (none_other names ms) (some_other names ms))
      (λ u known. keys_then (bare u known))

  spec_same : (path : List ℕ) (steps : List Step) (on_fault : Option (List ℕ)) (max : ℕ) (l : ListSpec) → made path steps on_fault max ≡ Ok l → ◌≡◌ {A = ListSpec} (record { path = path; steps = steps; on_fault = on_fault; max = max }) l
  spec_same path steps on_fault max l e = cc

  max_said : (max : ℕ) → max_meant k (value_at bytes (Stream k) Max) ≡ Ok max → SaysNumber (value_at bytes (Stream k) Max) 64 max
  max_said max e =
      let (given, is, more) = bind_ok (where_given (number_within 1 most_streams (at_stream k).0) (value_at bytes (Stream k) Max)) few_of max e in
      let (u, few, last) = bind_ok (passes (nat_le (k + unwrap_or given listed_by_default) most_streams) refused.OutOfRange (at_stream k).0) (λ _. Ok (unwrap_or given listed_by_default)) max more in
      let same : unwrap_or given listed_by_default ≡ max = cc in
      subst (SaysNumber (value_at bytes (Stream k) Max) 64) same (says_number_at k (value_at bytes (Stream k) Max) 1 most_streams 64 given is)

  -- a list that was read is what stands there, and nothing stands at other keys
  pub record IsRead (l : ListSpec) : Type 0 where
    pub says : SaysList bytes k l
    pub side : value_at bytes (Stream k) With ≡ None
    pub to : value_at bytes (Stream k) To ≡ None

  pub list_said : (l : ListSpec) → list_meant (setting_in bytes k) k ms ≡ Ok l → IsRead l
  list_said l e =
      let (u, known, e1) = bind_ok (known_keys list_keys (at_stream k).0 ms) (λ _. behind_keys) l e in
      let (path, at, e2) = bind_ok (required (text_that is_path (at_stream k).0) (at_stream k).0 (value_at bytes (Stream k) Path)) behind_path l e1 in
      let (steps, are, e3) = bind_ok (steps_at (setting_in bytes k) k 0 (value_at bytes (Stream k) Steps)) (behind_steps path) l e2 in
      let (on_fault, given, e4) = bind_ok (where_given (text_that is_short (at_stream k).0) (value_at bytes (Stream k) OnFault)) (behind_fault path steps) l e3 in
      let (max, most, e5) = bind_ok (max_meant k (value_at bytes (Stream k) Max)) (behind_max path steps on_fault) l e4 in
      let (v, fit, e6) = bind_ok (are_fitting k (steps ++ [])) (λ _. behind_fitting path steps on_fault max) l e5 in
      let (j, fits, e7) = bind_ok (kind_given k steps None) (λ _. made path steps on_fault max) l e6 in
      let (d, there, seen) = text_read (value_at bytes (Stream k) Path) is_path (at_stream k).0 path at in
      let b = bare u known in
      record {
        says = subst (SaysList bytes k) (spec_same path steps on_fault max l e7) (record {
          path = says_text (value_at bytes (Stream k) Path) d path there seen;
          steps = words_said bytes k Steps 0 steps are;
          on_fault = says_given k (value_at bytes (Stream k) OnFault) is_short on_fault given;
          max = max_said max most;
        });
        side = b.side;
        to = b.to;
      }

-- the list, where there is one
module _ (bytes : List ℕ) where
  abbrev count : ℕ
  count = length (streams_in bytes)

  abbrev pub list_of : Option Members → Reading (Option ListSpec)
  list_of None = Ok None
  list_of (Some ms) = list_meant (setting_in bytes count) count ms >>= (λ l. Ok (Some l))

  stands : (ms : Members) → list_in bytes ≡ ms ∷ [] → part_in bytes (Stream count) ≡ ms
  stands ms e = ap (λ o. unwrap_or o no_members) (get_behind (streams_in bytes) (list_in bytes) count 0 (omega arith) ∙ ap (λ l. slice_get l 0) e)

  pub lists_agree : (o : Option Members) → list_in bytes ≡ option_to_list o → Agrees (HasFlaw bytes) (flaws_of_lists bytes) (list_of o)
  lists_agree None e = subst (λ l. Agrees (HasFlaw bytes) (flaws_from (flaws_of_list bytes) count l) (list_of None)) (sym e) tt
  lists_agree (Some ms) e =
      subst (λ l. Agrees (HasFlaw bytes) (flaws_from (flaws_of_list bytes) count l) (list_of (Some ms))) (sym e)
      (then_agrees (HasFlaw bytes) (flaws_of_list bytes count) [] (list_meant (setting_in bytes count) count ms) (λ l. Ok (Some l))
      (subst (λ m. Agrees (HasFlaw bytes) (flaws_of_list bytes count) (list_meant (setting_in bytes count) count m)) (stands ms e) (list_agrees bytes count)) (λ l is. tt))

  -- what was read of it
  pub record AreListed (list : Option ListSpec) : Type 0 where
    pub says : SaysListed bytes count (list_in bytes) list
    pub number : length (list_in bytes) ≡ length (option_to_list list)
    pub bare : 0 < length (list_in bytes) → (value_at bytes (Stream count) With ≡ None) × (value_at bytes (Stream count) To ≡ None)

  pub lists_said : (o : Option Members) (list : Option ListSpec) → list_in bytes ≡ option_to_list o → list_of o ≡ Ok list → AreListed list
  lists_said None list e h =
      let none : None ≡ list = cc in
      record {
        says = subst (λ l. SaysListed bytes count l list) (sym e) (sym none);
        number = ap (λ (l : List Members). length l) e ∙ ap (λ (l : Option ListSpec). length (option_to_list l)) none;
        bare = λ some. let no = ap (λ (l : List Members). length l) e in absurd (omega (arith, some, no));
      }
  lists_said (Some ms) list e h =
      let (l, is, last) = bind_ok (list_meant (setting_in bytes count) count ms) (λ l. Ok (Some l)) list h in
      let some : Some l ≡ list = cc in
      let read = list_said bytes count l (ap (list_meant (setting_in bytes count) count) (stands ms e) ∙ is) in
      record {
        says = subst (λ xs. SaysListed bytes count xs list) (sym e) (l, sym some, read.says);
        number = ap (λ (l : List Members). length l) e ∙ ap (λ (l : Option ListSpec). length (option_to_list l)) some;
        bare = λ there. (read.side, read.to);
      }
