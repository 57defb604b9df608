-- The words at a key of a stream, read as steps.
use Rattle.std.proofs.Common.{◌≡◌, ℕ, zero, suc, ◌+◌, false, List, [], ◌∷◌, ◌++◌, length, map, Option, Some, None, Ok, inl, refl, ap, ◌∙◌, sym, subst, arith, slice_get, option_map}
use Rattle.std.specs.Prelude.{unwrap_or}
use Rattle.std.proofs.lemmas.Bool.{false≢true}
use Rattle.std.proofs.lemmas.List.{length-map}
use Rattle.std.proofs.lemmas.Option.{slice_get-map}
use Rattle.toml.specs.Data.{Data, Items, no_items, as_array, as_str}
use Rattle.pipeline_desc.specs.Meant.{NamedTables}
use Rattle.pipeline_desc.specs.Reading.{Reading, ◌>>=◌, each_from, present}
use Rattle.pipeline_desc.specs.Steps.{step_meant, steps_at}
use Rattle.pipeline_desc.specs.Values.{each_as, list_at}
use Rattle.pipeline_desc.specs.declared.refusal.RefusalKind.TheVariants as refused
use Rattle.pipeline_desc.specs.declared.step.Step.{Step}
use Rattle.desc_laws.specs.First.{IsFirst}
use Rattle.desc_laws.specs.Flaws.{Key, of_stream}
use Rattle.desc_laws.specs.Flaws.Flaw.{OtherType}
use Rattle.desc_laws.specs.Flaws.Key.{Steps, Join, After}
use Rattle.desc_laws.specs.Flaws.Part.{Stream}
use Rattle.desc_laws.specs.Has.{HasFlaw, flaws_from, flaws_of_step, flaws_of_words}
use Rattle.desc_laws.specs.Places.{entries_in, text_in, value_at, words_at}
use Rattle.desc_laws.specs.Says.{SaysSteps}
use Rattle.desc_laws.specs.Stages.{names_in, stages_of}
use Rattle.desc_laws.specs.Stages.Stage.{Word, Joined}
use Rattle.desc_laws.specs.Values.{IsArrayOf, IsMistyped, IsOfType, is_required}
use Rattle.desc_laws.proofs.Agree.{Agrees, made_agrees, then_agrees}
use Rattle.desc_laws.proofs.Positions.{at_stream}
use Rattle.desc_laws.proofs.Texts.{bind_ok}
use Rattle.desc_laws.proofs.Words.{setting_in, step_agrees, step_said}

-- an element at a place of the front of a list, or behind it
pub get_front : {A : Type 0} (xs ys : List A) (j : ℕ) (x : A) → slice_get xs j ≡ Some x → slice_get (xs ++ ys) j ≡ Some x
get_front [] ys j x e = let no : None ≡ Some x = e in absurd (nothing no)
  where
    nothing : None ≡ Some x → ⊥
    nothing n = cc
get_front (y ∷ xs) ys zero x e = e
get_front (y ∷ xs) ys (suc j) x e = get_front xs ys j x e

pub get_behind : {A : Type 0} (xs ys : List A) (n j : ℕ) → n ≡ length xs + j → slice_get (xs ++ ys) n ≡ slice_get ys j
get_behind [] ys n j e = let same : n ≡ j = omega (arith, e) in ap (slice_get ys) same
get_behind (x ∷ xs) ys zero j e = absurd (omega (arith, e))
get_behind (x ∷ xs) ys (suc n) j e = get_behind xs ys n j (omega (arith, e))

-- the words at `steps` and at `after` are those of their stages
word_in : (words : List (List ℕ)) (j : ℕ) (word : List ℕ) → slice_get words j ≡ Some word → slice_get (map Word words) j ≡ Some (Word word)
word_in words j word e = slice_get-map Word words j ∙ ap (option_map Word) e

pub steps_stand : (bytes : List ℕ) (k j : ℕ) (word : List ℕ) → slice_get (words_at bytes k Steps) j ≡ Some word → slice_get (stages_of bytes k) (0 + j) ≡ Some (Word word)
steps_stand bytes k j word e =
    let same : 0 + j ≡ j = omega arith in
    ap (slice_get (stages_of bytes k)) same
    ∙ get_front (map Word (words_at bytes k Steps)) (Joined (text_in (value_at bytes (Stream k) Join)) ∷ map Word (words_at bytes k After)) j (Word word) (word_in (words_at bytes k Steps) j word e)

pub after_stand : (bytes : List ℕ) (k n j : ℕ) (word : List ℕ) → n ≡ length (words_at bytes k Steps) + 1 → slice_get (words_at bytes k After) j ≡ Some word → slice_get (stages_of bytes k) (n + j) ≡ Some (Word word)
after_stand bytes k n j word is e =
    let words = words_at bytes k Steps in
    get_behind (map Word words) (Joined (text_in (value_at bytes (Stream k) Join)) ∷ map Word (words_at bytes k After)) (n + j) (suc j) (omega (arith, is, length-map words Word))
    ∙ word_in (words_at bytes k After) j word e

module _ (bytes : List ℕ) (k : ℕ) where
  abbrev reads : ℕ → List (List ℕ) → Reading (List Step)
  reads i words = each_from (step_meant (setting_in bytes k) k) i words

  -- words that stand at these numbers
  abbrev Stand : ℕ → List (List ℕ) → Type 0
  Stand i words = (j : ℕ) (word : List ℕ) → slice_get words j ≡ Some word → slice_get (stages_of bytes k) (i + j) ≡ Some (Word word)

  each_agrees : (i : ℕ) (words : List (List ℕ)) → Stand i words → Agrees (HasFlaw bytes) (flaws_from (flaws_of_step k) i words) (reads i words)
  each_agrees i [] stand = tt
  each_agrees i (word ∷ words) stand =
      then_agrees (HasFlaw bytes) (flaws_of_step k i) (flaws_from (flaws_of_step k) (i + 1) words) (step_meant (setting_in bytes k) k i word) (λ y. reads (i + 1) words >>= (λ ys. Ok (y ∷ ys)))
      (step_agrees bytes k i word (let zero_more : i ≡ i + 0 = omega arith in ap (slice_get (stages_of bytes k)) zero_more ∙ stand 0 word refl))
      (λ y is. made_agrees (HasFlaw bytes) (flaws_from (flaws_of_step k) (i + 1) words) (reads (i + 1) words) (λ ys. Ok (y ∷ ys))
      (each_agrees (i + 1) words (λ j w e. ap (slice_get (stages_of bytes k)) (next j) ∙ stand (suc j) w e)) (λ ys are. tt))
    where
      next : (j : ℕ) → i + 1 + j ≡ i + suc j
      next j = omega arith

  -- steps that were read are what the words mean
  each_said : (i : ℕ) (words : List (List ℕ)) (steps : List Step) → reads i words ≡ Ok steps → SaysSteps (names_in bytes k) words steps
  each_said i [] steps e = let none : [] ≡ steps = cc in subst (SaysSteps (names_in bytes k) []) none tt
  each_said i (word ∷ words) steps e =
      let (s, is, more) = bind_ok (step_meant (setting_in bytes k) k i word) (λ y. reads (i + 1) words >>= (λ ys. Ok (y ∷ ys))) steps e in
      let (others, are, last) = bind_ok (reads (i + 1) words) (λ ys. Ok (s ∷ ys)) steps more in
      let whole : s ∷ others ≡ steps = cc in
      subst (SaysSteps (names_in bytes k) (word ∷ words)) whole (step_said bytes k i word s is, each_said (i + 1) words others are)

  module _ (key : Key) (type : (d : Data) → IsOfType key d ≡ IsArrayOf as_str d) (optional : is_required key ≡ false) where
    -- the array of words
    list_agrees : Agrees (HasFlaw bytes) (OtherType (Stream k) key ∷ []) (list_at as_str (at_stream k).0 (value_at bytes (Stream k) key))
    list_agrees = go (value_at bytes (Stream k) key) refl
      where
        go : (o : Option Data) → value_at bytes (Stream k) key ≡ o → Agrees (HasFlaw bytes) (OtherType (Stream k) key ∷ []) (list_at as_str (at_stream k).0 o)
        go None e = ((λ m. false≢true (sym optional ∙ subst (IsMistyped key) e m)), tt)
        go (Some d) e = array (as_array d) refl
          where
            wrong : (IsArrayOf as_str d → ⊥) → IsFirst (HasFlaw bytes) (OtherType (Stream k) key ∷ []) (of_stream k refused.WrongType)
            wrong h = inl (subst (IsMistyped key) (sym e) (λ t. h (subst (λ B. B) (type d) t)), refl)

            each : (items : Items) → as_array d ≡ Some items → (p : Option (List (List ℕ))) → each_as as_str items ≡ p → Agrees (HasFlaw bytes) (OtherType (Stream k) key ∷ []) (present p refused.WrongType (at_stream k).0)
            each items is None none = wrong (λ t. let (other, xs, that, seen) = t in let same : Some items ≡ Some other = sym is ∙ that in let one : other ≡ items = cc in let no : None ≡ Some xs = sym none ∙ (ap (each_as as_str) (sym one) ∙ seen) in cc)
            each items is (Some xs) some = ((λ m. subst (IsMistyped key) e m (subst (λ B. B) (sym (type d)) (items, xs, is, some))), tt)

            array : (p : Option Items) → as_array d ≡ p → Agrees (HasFlaw bytes) (OtherType (Stream k) key ∷ []) (present p refused.WrongType (at_stream k).0 >>= (λ ds. present (each_as as_str ds) refused.WrongType (at_stream k).0))
            array None is = wrong (λ t. let (items, xs, that, seen) = t in let no : None ≡ Some items = sym is ∙ that in cc)
            array (Some items) is = each items is (each_as as_str items) refl

  list_seen : (o : Option Data) (xs : List (List ℕ)) → list_at as_str (at_stream k).0 o ≡ Ok xs → entries_in as_str o ≡ xs
  list_seen None xs e = (cc)
  list_seen (Some d) xs e = array (as_array d) e
    where
      each : (p : Option (List (List ℕ))) → present p refused.WrongType (at_stream k).0 ≡ Ok xs → unwrap_or p [] ≡ xs
      each None e = (cc)
      each (Some ys) e = (cc)

      array : (p : Option Items) → (present p refused.WrongType (at_stream k).0 >>= (λ ds. present (each_as as_str ds) refused.WrongType (at_stream k).0)) ≡ Ok xs → unwrap_or (each_as as_str (unwrap_or p no_items)) [] ≡ xs
      array None e = (cc)
      array (Some items) e = each (each_as as_str items) e

  -- the words at a key, which are steps from number i on
  pub words_agree : (key : Key) (i : ℕ) → ((d : Data) → IsOfType key d ≡ IsArrayOf as_str d) → is_required key ≡ false → Stand i (words_at bytes k key)
      → Agrees (HasFlaw bytes) (flaws_of_words k key i (words_at bytes k key)) (steps_at (setting_in bytes k) k i (value_at bytes (Stream k) key))
  words_agree key i type optional stand =
      then_agrees (HasFlaw bytes) (OtherType (Stream k) key ∷ []) (flaws_from (flaws_of_step k) i (words_at bytes k key)) (list_at as_str (at_stream k).0 (value_at bytes (Stream k) key)) (reads i) (list_agrees key type optional)
      (λ xs is. subst (λ ys. Agrees (HasFlaw bytes) (flaws_from (flaws_of_step k) i (words_at bytes k key)) (reads i ys)) (list_seen (value_at bytes (Stream k) key) xs is) (each_agrees i (words_at bytes k key) stand))

  pub words_said : (key : Key) (i : ℕ) (steps : List Step) → steps_at (setting_in bytes k) k i (value_at bytes (Stream k) key) ≡ Ok steps → SaysSteps (names_in bytes k) (words_at bytes k key) steps
  words_said key i steps e =
      let (xs, is, more) = bind_ok (list_at as_str (at_stream k).0 (value_at bytes (Stream k) key)) (reads i) steps e in
      subst (λ ys. SaysSteps (names_in bytes k) ys steps) (sym (list_seen (value_at bytes (Stream k) key) xs is)) (each_said i xs steps more)

-- as many steps as words
pub said_length : (tables : NamedTables) (words : List (List ℕ)) (steps : List Step) → SaysSteps tables words steps → length steps ≡ length words
said_length tables [] [] h = refl
said_length tables (word ∷ words) (s ∷ steps) h = ap suc (said_length tables words steps h.1)
said_length tables [] (s ∷ steps) h = absurd h
said_length tables (word ∷ words) [] h = absurd h

pub said_append : (tables : NamedTables) (words more : List (List ℕ)) (steps others : List Step) → SaysSteps tables words steps → SaysSteps tables more others → SaysSteps tables (words ++ more) (steps ++ others)
said_append tables [] more [] others h k = k
said_append tables (word ∷ words) more (s ∷ steps) others h k = (h.0, said_append tables words more steps others h.1 k)
said_append tables [] more (s ∷ steps) others h k = absurd h
said_append tables (word ∷ words) more [] others h k = absurd h
