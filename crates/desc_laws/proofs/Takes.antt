-- The kinds of what comes to the stages of a stream.
use Rattle.std.proofs.Common.{◌≡◌, ℕ, ◌+◌, List, [], ◌∷◌, ◌++◌, length, map, take, Option, Some, None, Ok, Err, refl, ap, ◌∙◌, sym, subst, arith, slice_get, option_and_then, append_assoc}
use Rattle.std.proofs.lemmas.List.{length-append, length-map}
use Rattle.std.proofs.Math.Seq.{take-append_seam}
use Rattle.pull_nodes.specs.declared.kind.Kind.{Kind}
use Rattle.pull_nodes.specs.declared.kind.Kind.TheVariants as kind
use Rattle.pipeline_desc.specs.Meant.{NamedTables}
use Rattle.pipeline_desc.specs.Reading.{Reading, ◌>>=◌, present}
use Rattle.pipeline_desc.specs.Steps.{kind_behind_step, kind_from, kind_given, kind_joined, kind_of_second}
use Rattle.pipeline_desc.specs.Streams.{join_named}
use Rattle.pipeline_desc.specs.declared.refusal.RefusalKind.TheVariants as refused
use Rattle.pipeline_desc.specs.declared.step.Step.{Step}
use Rattle.pipeline_desc.specs.declared.stream.Second.{Second}
use Rattle.desc_laws.specs.Flaws.Flaw.{OtherKind}
use Rattle.desc_laws.specs.Flaws.Key.{Steps, Join as JoinKey, After}
use Rattle.desc_laws.specs.Flaws.Part.{Stream}
use Rattle.desc_laws.specs.Has.{HasFlaw, flaws_from}
use Rattle.desc_laws.specs.Places.{text_in, value_at, words_at}
use Rattle.desc_laws.specs.Says.{SaysSteps}
use Rattle.desc_laws.specs.Stages.{Stage, kind_behind, kind_behind_meant, kind_behind_stage, names_in, stages_of}
use Rattle.desc_laws.specs.Stages.Stage.{Word, Joined}
use Rattle.desc_laws.proofs.Agree.{Agrees, then_agrees, value_agrees}
use Rattle.desc_laws.proofs.Positions.{at_step}
use Rattle.desc_laws.proofs.Steps.{get_behind, said_length}

module _ (tables : NamedTables) (k : ℕ) where
  -- the kind behind these stages, the first of which has this number
  abbrev pub through : ℕ → List Stage → Kind → Reading Kind
  through i [] j = Ok j
  through i (s ∷ stages) j = present (kind_behind_stage tables s j) refused.KindClash (at_step k i).0 >>= through (i + 1) stages

  bind_assoc : {A B C : Type 0} (m : Reading A) (f : A → Reading B) (g : B → Reading C) → ((m >>= f) >>= g) ≡ (m >>= (λ x. f x >>= g))
  bind_assoc (Ok x) f g = refl
  bind_assoc (Err r) f g = refl

  bind_same : {A B : Type 0} (m : Reading A) (f g : A → Reading B) → ((x : A) → f x ≡ g x) → (m >>= f) ≡ (m >>= g)
  bind_same (Ok x) f g h = h x
  bind_same (Err r) f g h = refl

  through_append : (xs ys : List Stage) (i n : ℕ) (j : Kind) → n ≡ i + length xs → through i (xs ++ ys) j ≡ (through i xs j >>= through n ys)
  through_append [] ys i n j e = let same : i ≡ n = omega (arith, e) in ap (λ m. through m ys j) same
  through_append (s ∷ xs) ys i n j e =
      let rest : n ≡ i + 1 + length xs = omega (arith, e) in
      let first = present (kind_behind_stage tables s j) refused.KindClash (at_step k i).0 in
      bind_same first (through (i + 1) (xs ++ ys)) (λ x. through (i + 1) xs x >>= through n ys) (λ x. through_append xs ys (i + 1) n x rest) ∙ sym (bind_assoc first (through (i + 1) xs) (through n ys))

  -- of steps it is that behind the words that mean them
  through_words : (words : List (List ℕ)) (steps : List Step) (i : ℕ) (j : Kind) → SaysSteps tables words steps → through i (map Word words) j ≡ kind_from k i steps j
  through_words [] [] i j h = refl
  through_words (word ∷ words) (s ∷ steps) i j h =
      ap (λ o. present o refused.KindClash (at_step k i).0 >>= through (i + 1) (map Word words)) (ap (λ m. kind_behind_meant m j) h.0)
      ∙ bind_same (present (kind_behind_step s j) refused.KindClash (at_step k i).0) (through (i + 1) (map Word words)) (kind_from k (i + 1) steps) (λ x. through_words words steps (i + 1) x h.1)
  through_words [] (s ∷ steps) i j h = absurd h
  through_words (word ∷ words) [] i j h = absurd h

  -- a second side as it stands at `join` and `after`, where there is one
  abbrev pub IsSecond : Option (List ℕ) → List (List ℕ) → Option Second → Type 0
  IsSecond name words None = (name ≡ None) × (words ≡ [])
  IsSecond name words (Some second) = (text : List ℕ) × (name ≡ Some text) × (join_named text ≡ Some second.join) × SaysSteps tables words second.after

  through_second : (name : Option (List ℕ)) (words : List (List ℕ)) (second : Option Second) (i : ℕ) (j : Kind) → IsSecond name words second → through i (Joined name ∷ map Word words) j ≡ kind_of_second k i second j
  through_second name words None i j h = ap (λ o. through i (Joined o ∷ map Word words) j) h.0 ∙ ap (λ ws. through i (Joined None ∷ map Word ws) j) h.1
  through_second name words (Some second) i j h =
      let (text, is, named, said) = h in
      ap (λ o. through i (Joined o ∷ map Word words) j) is
      ∙ ap (λ o. present (option_and_then (λ join. kind_joined join j) o) refused.KindClash (at_step k i).0 >>= through (i + 1) (map Word words)) named
      ∙ bind_same (present (kind_joined second.join j) refused.KindClash (at_step k i).0) (through (i + 1) (map Word words)) (kind_from k (i + 1) second.after) (λ x. through_words words second.after (i + 1) x said)

kind_then : (tables : NamedTables) (xs ys : List Stage) (j : Kind) → kind_behind tables (xs ++ ys) j ≡ option_and_then (kind_behind tables ys) (kind_behind tables xs j)
kind_then tables [] ys j = refl
kind_then tables (s ∷ xs) ys j = go (kind_behind_stage tables s j) (λ x. kind_then tables xs ys x)
  where
    go : (o : Option Kind) → ((x : Kind) → kind_behind tables (xs ++ ys) x ≡ option_and_then (kind_behind tables ys) (kind_behind tables xs x)) → option_and_then (kind_behind tables (xs ++ ys)) o ≡ option_and_then (kind_behind tables ys) (option_and_then (kind_behind tables xs) o)
    go None h = refl
    go (Some x) h = h x

module _ (bytes : List ℕ) (k : ℕ) where
  -- a stage that doesn't take the kind that comes to it, behind those before it
  stage_agrees : (before stages : List Stage) (s : Stage) (j : Kind) → stages_of bytes k ≡ before ++ s ∷ stages → kind_behind (names_in bytes k) before kind.Bytes ≡ Some j
      → Agrees (HasFlaw bytes) (OtherKind k (length before) ∷ []) (present (kind_behind_stage (names_in bytes k) s j) refused.KindClash (at_step k (length before)).0)
  stage_agrees before stages s j all so_far =
      value_agrees (HasFlaw bytes) (OtherKind k (length before)) (kind_behind_stage (names_in bytes k) s j) refused.KindClash (at_step k (length before)).0 refl
      (λ x e h. let (other, kind, there, comes, none) = h in
      let one : Some s ≡ Some other = sym at ∙ there in
      let two : Some j ≡ Some kind = sym come ∙ comes in
      let no : Some x ≡ None = sym e ∙ (ap (λ o. get o) one ∙ ap (λ o. of other o) two ∙ none) in cc)
      (λ e. (s, j, at, come, e))
    where
      at : slice_get (stages_of bytes k) (length before) ≡ Some s
      at = ap (λ l. slice_get l (length before)) all ∙ get_behind before (s ∷ stages) (length before) 0 (omega arith)

      come : kind_behind (names_in bytes k) (take (length before) (stages_of bytes k)) kind.Bytes ≡ Some j
      come = ap (λ l. kind_behind (names_in bytes k) l kind.Bytes) (ap (take (length before)) all ∙ take-append_seam before (s ∷ stages)) ∙ so_far

      get : Option Stage → Option Kind
      get None = None
      get (Some t) = kind_behind_stage (names_in bytes k) t j

      of : Stage → Option Kind → Option Kind
      of t None = None
      of t (Some i) = kind_behind_stage (names_in bytes k) t i

  stages_agree : (before stages : List Stage) (j : Kind) (i : ℕ) → i ≡ length before → stages_of bytes k ≡ before ++ stages → kind_behind (names_in bytes k) before kind.Bytes ≡ Some j
      → Agrees (HasFlaw bytes) (flaws_from (λ n. OtherKind k n ∷ []) i stages) (through (names_in bytes k) k i stages j)
  stages_agree before [] j i number all so_far = tt
  stages_agree before (s ∷ stages) j i number all so_far =
      then_agrees (HasFlaw bytes) (OtherKind k i ∷ []) (flaws_from (λ n. OtherKind k n ∷ []) (i + 1) stages) (present (kind_behind_stage (names_in bytes k) s j) refused.KindClash (at_step k i).0) (through (names_in bytes k) k (i + 1) stages)
      (subst (λ n. Agrees (HasFlaw bytes) (OtherKind k n ∷ []) (present (kind_behind_stage (names_in bytes k) s j) refused.KindClash (at_step k n).0)) (sym number) (stage_agrees before stages s j all so_far))
      (λ x is. stages_agree (before ++ s ∷ []) stages x (i + 1) (omega (arith, number, length-append before (s ∷ []))) (all ∙ sym (append_assoc before (s ∷ []) stages))
      (kind_then (names_in bytes k) before (s ∷ []) kind.Bytes ∙ (ap (option_and_then (kind_behind (names_in bytes k) (s ∷ []))) so_far ∙ ap (option_and_then (kind_behind (names_in bytes k) [])) (taken (kind_behind_stage (names_in bytes k) s j) x is))))
    where
      taken : (o : Option Kind) (x : Kind) → present o refused.KindClash (at_step k i).0 ≡ Ok x → o ≡ Some x
      taken None x e = (cc)
      taken (Some y) x e = (cc)

  -- the kinds of a stream
  pub kinds_agree : (steps : List Step) (second : Option Second) → SaysSteps (names_in bytes k) (words_at bytes k Steps) steps → IsSecond (names_in bytes k) k (text_in (value_at bytes (Stream k) JoinKey)) (words_at bytes k After) second
      → Agrees (HasFlaw bytes) (flaws_from (λ n. OtherKind k n ∷ []) 0 (stages_of bytes k)) (kind_given k steps second)
  kinds_agree steps second said is =
      let tables = names_in bytes k in
      let words = words_at bytes k Steps in
      let behind = Joined (text_in (value_at bytes (Stream k) JoinKey)) ∷ map Word (words_at bytes k After) in
      subst (Agrees (HasFlaw bytes) (flaws_from (λ n. OtherKind k n ∷ []) 0 (stages_of bytes k)))
      (through_append tables k (map Word words) behind 0 (length steps) kind.Bytes (omega (arith, said_length tables words steps said, length-map words Word))
      ∙ (ap (λ m. m >>= through tables k (length steps) behind) (through_words tables k words steps 0 kind.Bytes said)
      ∙ bind_same tables k (kind_from k 0 steps kind.Bytes) (through tables k (length steps) behind) (kind_of_second k (length steps) second)
      (λ j. through_second tables k (text_in (value_at bytes (Stream k) JoinKey)) (words_at bytes k After) second (length steps) j is)))
      (stages_agree [] (stages_of bytes k) kind.Bytes 0 refl refl refl)
