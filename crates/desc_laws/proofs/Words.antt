-- A word is read as what it means, and what is refused of it names its place.
use Rattle.std.proofs.Common.{◌≡◌, ◌⊎◌, ℕ, Bool, true, false, List, length, Option, Some, None, Result, Ok, Err, if◌then◌else◌, inl, inr, ⊎_elim, refl, ap, ◌∙◌, sym, subst, codes, slice_get, drop}
use Rattle.std.specs.Str.{bytes_eq}
use Rattle.std.proofs.lemmas.Slice.Eq.{bytes_eq-Decides}
use Rattle.pull_nodes.specs.declared.pipe.Pipe.{Pipe}
use Rattle.pull_nodes.specs.declared.pipe.Pipe.TheVariants as pipe
use Rattle.pipeline_desc.specs.Limits.{is_between, is_sized}
use Rattle.pipeline_desc.specs.Meant.{NamedTables, SettingMeant}
use Rattle.pipeline_desc.specs.Reading.{Reading, refuse, ◌>>=◌, passes, present, refusal_of}
use Rattle.pipeline_desc.specs.Steps.{before_space, behind_space, lookup_argument, number_argument, step_meant, step_named, step_with, table_named, text_argument, written_number}
use Rattle.pipeline_desc.specs.declared.refusal.RefusalKind.{RefusalKind}
use Rattle.pipeline_desc.specs.declared.refusal.RefusalKind.TheVariants as refused
use Rattle.pipeline_desc.specs.declared.step.Step.{Step}
use Rattle.pipeline_desc.specs.declared.step.Step.TheVariants as step
use Rattle.desc_laws.specs.Flaws.{of_step}
use Rattle.desc_laws.specs.Has.{HasFlaw, flaws_of_step}
use Rattle.desc_laws.specs.Places.{streams_in}
use Rattle.desc_laws.specs.Stages.{IsWrongWord, names_in, stages_of}
use Rattle.desc_laws.specs.Stages.Stage.{Word}
use Rattle.desc_laws.specs.Words.{Form, Meant, form_of, number_in, of_field, of_form, of_lookup, of_name, of_number, of_table, step_forms, word_means}
use Rattle.desc_laws.specs.Words.Form.{Nothing}
use Rattle.desc_laws.proofs.Agree.{Agrees}
use Rattle.desc_laws.proofs.Positions.{at_step}

-- what may be wrong with a word
abbrev pub IsOfWord : RefusalKind → Type 0
IsOfWord kind = (kind ≡ refused.UnknownStep) ⊎ ((kind ≡ refused.OutOfRange) ⊎ (kind ≡ refused.UnknownTable))

unknown : IsOfWord refused.UnknownStep
unknown = inl refl

limit : IsOfWord refused.OutOfRange
limit = inr (inl refl)

table : IsOfWord refused.UnknownTable
table = inr (inr refl)

module _ (k at : ℕ) where
  -- what is read at this place is what is meant, and what is refused names the place
  abbrev pub Reads : {A : Type 0} → Result A RefusalKind → Reading A → Type 0
  Reads (Ok x) n = n ≡ Ok x
  Reads (Err kind) n = IsOfWord kind × (n ≡ Err (refusal_of kind (at_step k at).0))

  number_reads : (low high : ℕ) (text : List ℕ) (make : ℕ → Step) → Reads (of_number make (number_in low high (written_number text))) (number_argument low high (at_step k at).0 text >>= (λ n. Ok (make n)))
  number_reads low high text make = go (written_number text)
    where
      within : (b : Bool) (n : ℕ) → Reads (of_number make (if b then Some n else None)) (passes b refused.OutOfRange (at_step k at).0 >>= (λ _. Ok n) >>= (λ n. Ok (make n)))
      within true n = refl
      within false n = (limit, refl)

      go : (o : Option ℕ) → Reads (of_number make (number_in low high o)) (present o refused.OutOfRange (at_step k at).0 >>= (λ n. passes (is_between low high n) refused.OutOfRange (at_step k at).0 >>= (λ _. Ok n)) >>= (λ n. Ok (make n)))
      go None = (limit, refl)
      go (Some n) = within (is_between low high n) n

  text_reads : (low high : ℕ) (text : List ℕ) (make : List ℕ → Pipe) → Reads (if is_sized low high text then Ok (step.Pipe (make text)) else Err refused.OutOfRange) (text_argument low high (at_step k at).0 text >>= (λ t. Ok (step.Pipe (make t))))
  text_reads low high text make = go (is_sized low high text)
    where
      go : (b : Bool) → Reads (if b then Ok (step.Pipe (make text)) else Err refused.OutOfRange) (passes b refused.OutOfRange (at_step k at).0 >>= (λ _. Ok text) >>= (λ t. Ok (step.Pipe (make t))))
      go true = refl
      go false = (limit, refl)

  abbrev found : ℕ → Option ℕ → Reading Pipe
  found i o = present o refused.UnknownTable (at_step k at).0 >>= (λ t. Ok (pipe.Lookup t i))

  lookup_reads : (tables : NamedTables) (text : List ℕ) → Reads (of_table tables (before_space text) (behind_space text)) (lookup_argument tables (at_step k at).0 text >>= (λ p. Ok (step.Pipe p)))
  lookup_reads tables text = go (behind_space text)
    where
      named : (o : Option ℕ) (i : ℕ) → Reads (of_field o i) (found i o >>= (λ p. Ok (step.Pipe p)))
      named None i = (table, refl)
      named (Some t) i = refl

      within : (b : Bool) (o : Option ℕ) (i : ℕ) → Reads (of_lookup o (if b then Some i else None)) (passes b refused.OutOfRange (at_step k at).0 >>= (λ _. Ok i) >>= (λ i. found i o) >>= (λ p. Ok (step.Pipe p)))
      within true o i = named o i
      within false o i = (limit, refl)

      number : (n o : Option ℕ) → Reads (of_lookup o (number_in 0 999999999 n)) (present n refused.OutOfRange (at_step k at).0 >>= (λ i. passes (is_between 0 999999999 i) refused.OutOfRange (at_step k at).0 >>= (λ _. Ok i)) >>= (λ i. found i o) >>= (λ p. Ok (step.Pipe p)))
      number None o = (limit, refl)
      number (Some i) o = within (is_between 0 999999999 i) o i

      go : (o : Option (List ℕ)) → Reads (of_table tables (before_space text) o)
          (present o refused.OutOfRange (at_step k at).0 >>= (λ number. number_argument 0 999999999 (at_step k at).0 number >>= (λ i. found i (table_named (before_space text) tables))) >>= (λ p. Ok (step.Pipe p)))
      go None = (limit, refl)
      go (Some behind) = number (written_number behind) (table_named (before_space text) tables)

  module _ (tables : NamedTables) where
    -- the row of a step without an argument, where there is none, and where there is one
    alone_row : (b : Bool) (p : Pipe) (o : Option Form) (q : Option Pipe) → Reads (of_name tables o None) (present q refused.UnknownStep (at_step k at).0 >>= (λ p. Ok (step.Pipe p)))
        → Reads (of_name tables (if b then Some (Nothing p) else o) None) (present (if b then Some p else q) refused.UnknownStep (at_step k at).0 >>= (λ p. Ok (step.Pipe p)))
    alone_row true p o q h = refl
    alone_row false p o q h = h

    alone_given : (b : Bool) (p : Pipe) (o : Option Form) (text : List ℕ) (n : Reading Step) → (b ≡ true → n ≡ refuse refused.UnknownStep (at_step k at).0) → Reads (of_name tables o (Some text)) n → Reads (of_name tables (if b then Some (Nothing p) else o) (Some text)) n
    alone_given true p o text n h k = (unknown, h refl)
    alone_given false p o text n h k = k

    -- and that of a step with one
    with_none : (b : Bool) (form : Form) (o : Option Form) → of_form tables form None ≡ Err refused.UnknownStep → of_name tables o None ≡ Err refused.UnknownStep → of_name tables (if b then Some form else o) None ≡ Err refused.UnknownStep
    with_none true form o h k = h
    with_none false form o h k = k

    with_given : (b : Bool) (form : Form) (o : Option Form) (text : List ℕ) (x y : Reading Step) → Reads (of_form tables form (Some text)) x → Reads (of_name tables o (Some text)) y → Reads (of_name tables (if b then Some form else o) (Some text)) (if b then x else y)
    with_given true form o text x y h k = h
    with_given false form o text x y h k = k

    wanting : (name : List ℕ) → Reads (of_name tables (form_of step_forms name) None) (step_named tables (at_step k at).0 name None)
    wanting name =
        alone_row (bytes_eq name (codes "utf8")) pipe.Utf8 _ _ (alone_row (bytes_eq name (codes "lossy")) pipe.Lossy _ _ (alone_row (bytes_eq name (codes "upper")) pipe.Upper _ _
        (alone_row (bytes_eq name (codes "hex")) pipe.Hex _ _ (alone_row (bytes_eq name (codes "lines")) pipe.Lines _ _ (alone_row (bytes_eq name (codes "csv")) pipe.Csv _ _
        (alone_row (bytes_eq name (codes "changes")) pipe.Changes _ _ (alone_row (bytes_eq name (codes "number")) pipe.Number _ _ (alone_row (bytes_eq name (codes "count")) pipe.Count _ None
        (subst (λ m. Reads m (refuse refused.UnknownStep (at_step k at).0)) (sym others) (unknown, refl))))))))))
      where
        others : of_name tables (form_of (drop 9 step_forms) name) None ≡ Err refused.UnknownStep
        others =
            with_none (bytes_eq name (codes "take")) _ _ refl (with_none (bytes_eq name (codes "drop")) _ _ refl (with_none (bytes_eq name (codes "field")) _ _ refl (with_none (bytes_eq name (codes "lookup")) _ _ refl
            (with_none (bytes_eq name (codes "filter")) _ _ refl (with_none (bytes_eq name (codes "intersperse")) _ _ refl (with_none (bytes_eq name (codes "chunk")) _ None refl refl))))))

    -- a name alone takes no argument
    no_argument : (name text plain : List ℕ) → step_with tables (at_step k at).0 plain text ≡ refuse refused.UnknownStep (at_step k at).0 → bytes_eq name plain ≡ true → step_with tables (at_step k at).0 name text ≡ refuse refused.UnknownStep (at_step k at).0
    no_argument name text plain h e = ap (λ x. step_with tables (at_step k at).0 x text) ((bytes_eq-Decides name plain).0 e) ∙ h

    given : (name text : List ℕ) → Reads (of_name tables (form_of step_forms name) (Some text)) (step_with tables (at_step k at).0 name text)
    given name text =
        alone_given (bytes_eq name (codes "utf8")) pipe.Utf8 _ text _ (no_argument name text (codes "utf8") refl)
        (alone_given (bytes_eq name (codes "lossy")) pipe.Lossy _ text _ (no_argument name text (codes "lossy") refl)
        (alone_given (bytes_eq name (codes "upper")) pipe.Upper _ text _ (no_argument name text (codes "upper") refl)
        (alone_given (bytes_eq name (codes "hex")) pipe.Hex _ text _ (no_argument name text (codes "hex") refl)
        (alone_given (bytes_eq name (codes "lines")) pipe.Lines _ text _ (no_argument name text (codes "lines") refl)
        (alone_given (bytes_eq name (codes "csv")) pipe.Csv _ text _ (no_argument name text (codes "csv") refl)
        (alone_given (bytes_eq name (codes "changes")) pipe.Changes _ text _ (no_argument name text (codes "changes") refl)
        (alone_given (bytes_eq name (codes "number")) pipe.Number _ text _ (no_argument name text (codes "number") refl)
        (alone_given (bytes_eq name (codes "count")) pipe.Count _ text _ (no_argument name text (codes "count") refl) others))))))))
      where
        others : Reads (of_name tables (form_of (drop 9 step_forms) name) (Some text)) (step_with tables (at_step k at).0 name text)
        others =
            with_given (bytes_eq name (codes "take")) _ _ text _ _ (number_reads 0 999999999 text (λ n. step.Take n))
            (with_given (bytes_eq name (codes "drop")) _ _ text _ _ (number_reads 0 999999999 text (λ n. step.Pipe (pipe.Drop n)))
            (with_given (bytes_eq name (codes "field")) _ _ text _ _ (number_reads 0 999999999 text (λ i. step.Pipe (pipe.Field i)))
            (with_given (bytes_eq name (codes "lookup")) _ _ text _ _ (lookup_reads tables text)
            (with_given (bytes_eq name (codes "filter")) _ _ text _ _ (text_reads 1 1024 text (λ t. pipe.Filter t))
            (with_given (bytes_eq name (codes "intersperse")) _ _ text _ _ (text_reads 0 64 text (λ t. pipe.Intersperse t))
            (with_given (bytes_eq name (codes "chunk")) _ None text _ (refuse refused.UnknownStep (at_step k at).0) (number_reads 1 64 text (λ n. step.Pipe (pipe.ChunkN n))) (unknown, refl)))))))

    pub step_reads : (name : List ℕ) (argument : Option (List ℕ)) → Reads (of_name tables (form_of step_forms name) argument) (step_named tables (at_step k at).0 name argument)
    step_reads name None = wanting name
    step_reads name (Some text) = given name text

-- what the keys of a stream may name
abbrev pub setting_in : List ℕ → ℕ → SettingMeant
setting_in bytes k = record { tables = names_in bytes k; count = length (streams_in bytes) }

-- a word as it is read at its place
reads_word : (bytes : List ℕ) (k i : ℕ) (word : List ℕ) → Reads k i (word_means (names_in bytes k) word) (step_meant (setting_in bytes k) k i word)
reads_word bytes k i word = step_reads k i (names_in bytes k) (before_space word) (behind_space word)

-- a step that was read is what the word means
pub step_said : (bytes : List ℕ) (k i : ℕ) (word : List ℕ) (s : Step) → step_meant (setting_in bytes k) k i word ≡ Ok s → word_means (names_in bytes k) word ≡ Ok s
step_said bytes k i word s e = go (word_means (names_in bytes k) word) (reads_word bytes k i word)
  where
    go : (m : Meant) → Reads k i m (step_meant (setting_in bytes k) k i word) → m ≡ Ok s
    go (Ok x) h = let same : Ok s ≡ Ok x = sym e ∙ h in (cc)
    go (Err kind) h = let no : Ok s ≡ Err (of_step k i kind) = sym e ∙ h.1 in (cc)

module _ (bytes : List ℕ) (k i : ℕ) (word : List ℕ) (at : slice_get (stages_of bytes k) i ≡ Some (Word word)) where
  -- what is wrong at this place is wrong with this word
  only : (wrong : RefusalKind) → IsWrongWord bytes k i wrong → word_means (names_in bytes k) word ≡ Err wrong
  only wrong h = let (other, there, means) = h in let both : Some (Word word) ≡ Some (Word other) = sym at ∙ there in let same : other ≡ word = cc in subst (λ w. word_means (names_in bytes k) w ≡ Err wrong) same means

  differ : (a b : RefusalKind) → word_means (names_in bytes k) word ≡ Err a → word_means (names_in bytes k) word ≡ Err b → a ≡ b
  differ a b p q = let both : Err a ≡ Err b = sym p ∙ q in cc

  pub step_agrees : Agrees (HasFlaw bytes) (flaws_of_step k i) (step_meant (setting_in bytes k) k i word)
  step_agrees = go (word_means (names_in bytes k) word) refl (reads_word bytes k i word)
    where
      go : (m : Meant) → word_means (names_in bytes k) word ≡ m → Reads k i m (step_meant (setting_in bytes k) k i word) → Agrees (HasFlaw bytes) (flaws_of_step k i) (step_meant (setting_in bytes k) k i word)
      go (Ok s) is h = subst (Agrees (HasFlaw bytes) (flaws_of_step k i)) (sym h) (none refused.UnknownStep, (none refused.OutOfRange, (none refused.UnknownTable, tt)))
        where
          none : (wrong : RefusalKind) → IsWrongWord bytes k i wrong → ⊥
          none wrong w = let no : Err wrong ≡ Ok s = sym (only wrong w) ∙ is in cc
      go (Err kind) is h = subst (Agrees (HasFlaw bytes) (flaws_of_step k i)) (sym h.1) (⊎_elim
          (λ e. inl (wrong refused.UnknownStep e, ap (of_step k i) e))
          (λ more. ⊎_elim
          (λ e. inr ((λ w. let no : refused.UnknownStep ≡ refused.OutOfRange = differ refused.UnknownStep refused.OutOfRange (only refused.UnknownStep w) (means refused.OutOfRange e) in cc), inl (wrong refused.OutOfRange e, ap (of_step k i) e)))
          (λ e. inr (
            (λ w. let no : refused.UnknownStep ≡ refused.UnknownTable = differ refused.UnknownStep refused.UnknownTable (only refused.UnknownStep w) (means refused.UnknownTable e) in cc),
            inr ((λ w. let no : refused.OutOfRange ≡ refused.UnknownTable = differ refused.OutOfRange refused.UnknownTable (only refused.OutOfRange w) (means refused.UnknownTable e) in cc), inl (wrong refused.UnknownTable e, ap (of_step k i) e)),
          ))
          more)
          h.0)
        where
          means : (other : RefusalKind) → kind ≡ other → word_means (names_in bytes k) word ≡ Err other
          means other e = is ∙ ap (λ c. Err c) e

          wrong : (other : RefusalKind) → kind ≡ other → IsWrongWord bytes k i other
          wrong other e = (word, at, means other e)
