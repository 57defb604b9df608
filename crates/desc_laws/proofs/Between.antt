-- The words that put a line between each two.
use Rattle.std.proofs.Common.{◌≡◌, ℕ, Bool, true, false, cond, List, [], ◌∷◌, length, count_by, codes, Option, Some, None, Ok, Err, if◌then◌else◌, refl, ap, sym, subst, arith, leb-true, leb-false}
use Rattle.std.specs.Str.{bytes_eq}
use Rattle.std.proofs.lemmas.Bool.{true≢false}
use Rattle.std.proofs.lemmas.List.Sums.{sum_by-cons}
use Rattle.std.proofs.lemmas.Slice.Eq.{bytes_eq-Decides}
use Rattle.pull_nodes.specs.declared.pipe.Pipe.{Pipe}
use Rattle.pull_nodes.specs.declared.pipe.Pipe.TheVariants as pipe
use Rattle.pipeline_desc.specs.Limits.{is_sized, most_steps}
use Rattle.pipeline_desc.specs.Meant.{NamedTables}
use Rattle.pipeline_desc.specs.Reading.{passes}
use Rattle.pipeline_desc.specs.Steps.{are_few, are_fitting, before_space, behind_space, puts_between, put_one_between, table_named, written_number}
use Rattle.pipeline_desc.specs.declared.refusal.RefusalKind.TheVariants as refused
use Rattle.pipeline_desc.specs.declared.step.Step.{Step}
use Rattle.pipeline_desc.specs.declared.step.Step.TheVariants as step
use Rattle.desc_laws.specs.Flaws.Flaw.{ManySteps, TwoBetween}
use Rattle.desc_laws.specs.Has.{HasFlaw}
use Rattle.desc_laws.specs.Says.{SaysSteps}
use Rattle.desc_laws.specs.Stages.{is_between_word, names_in, words_of}
use Rattle.desc_laws.specs.Words.{Form, Meant, form_of, number_in, of_form, of_lookup, of_name, of_number, of_table, step_forms, word_means}
use Rattle.desc_laws.specs.Words.Form.{Nothing, Number, Text, OfTable}
use Rattle.desc_laws.proofs.Agree.{Agrees, test_agrees, then_agrees}
use Rattle.desc_laws.proofs.Positions.{at_stream}
use Rattle.desc_laws.proofs.Steps.{said_length}

-- what is meant is a step of this sort
abbrev Puts : Bool → Meant → Type 0
Puts b (Ok s) = puts_between s ≡ b
Puts b (Err wrong) = Unit {0}

puts_if : (b c : Bool) (x y : Meant) → Puts c x → Puts c y → Puts c (if b then x else y)
puts_if true c x y h k = h
puts_if false c x y h k = k

module _ (tables : NamedTables) where
  puts_number : (make : ℕ → Step) → ((n : ℕ) → puts_between (make n) ≡ false) → (o : Option ℕ) → Puts false (of_number make o)
  puts_number make h None = tt
  puts_number make h (Some n) = h n

  puts_lookup : (t i : Option ℕ) → Puts false (of_lookup t i)
  puts_lookup t None = tt
  puts_lookup None (Some i) = tt
  puts_lookup (Some t) (Some i) = refl

  puts_table : (name : List ℕ) (o : Option (List ℕ)) → Puts false (of_table tables name o)
  puts_table name None = tt
  puts_table name (Some text) = puts_lookup (table_named name tables) (number_in 0 999999999 (written_number text))

  -- no argument makes a step that puts a line between each two
  abbrev IsOther : Form → Type 0
  IsOther form = (argument : Option (List ℕ)) → Puts false (of_form tables form argument)

  plain_other : (p : Pipe) → puts_between (step.Pipe p) ≡ false → IsOther (Nothing p)
  plain_other p h None = h
  plain_other p h (Some text) = tt

  number_other : (low high : ℕ) (make : ℕ → Step) → ((n : ℕ) → puts_between (make n) ≡ false) → IsOther (Number low high make)
  number_other low high make h None = tt
  number_other low high make h (Some text) = puts_number make h (number_in low high (written_number text))

  text_other : (low high : ℕ) (make : List ℕ → Pipe) → ((text : List ℕ) → puts_between (step.Pipe (make text)) ≡ false) → IsOther (Text low high make)
  text_other low high make h None = tt
  text_other low high make h (Some text) = puts_if (is_sized low high text) false (Ok (step.Pipe (make text))) (Err refused.OutOfRange) (h text) tt

  table_other : IsOther OfTable
  table_other None = tt
  table_other (Some text) = puts_table (before_space text) (behind_space text)

  -- a row of another form, and one of another name
  row_other : (b : Bool) (form : Form) (o : Option Form) (argument : Option (List ℕ)) → IsOther form → Puts false (of_name tables o argument) → Puts false (of_name tables (if b then Some form else o) argument)
  row_other true form o argument h k = h argument
  row_other false form o argument h k = k

  row_unless : (b : Bool) (form : Form) (o : Option Form) (argument : Option (List ℕ)) → b ≡ false → Puts false (of_name tables o argument) → Puts false (of_name tables (if b then Some form else o) argument)
  row_unless true form o argument e k = let no : true ≡ false = e in absurd (true≢false no)
  row_unless false form o argument e k = k

  -- a word of another name puts no line between each two, and one of this name does
  puts_none : (name : List ℕ) (argument : Option (List ℕ)) → bytes_eq name (codes "intersperse") ≡ false → Puts false (of_name tables (form_of step_forms name) argument)
  puts_none name argument e =
      row_other (bytes_eq name (codes "utf8")) _ _ argument (plain_other pipe.Utf8 refl)
      (row_other (bytes_eq name (codes "lossy")) _ _ argument (plain_other pipe.Lossy refl)
      (row_other (bytes_eq name (codes "upper")) _ _ argument (plain_other pipe.Upper refl)
      (row_other (bytes_eq name (codes "hex")) _ _ argument (plain_other pipe.Hex refl)
      (row_other (bytes_eq name (codes "lines")) _ _ argument (plain_other pipe.Lines refl)
      (row_other (bytes_eq name (codes "csv")) _ _ argument (plain_other pipe.Csv refl)
      (row_other (bytes_eq name (codes "changes")) _ _ argument (plain_other pipe.Changes refl)
      (row_other (bytes_eq name (codes "number")) _ _ argument (plain_other pipe.Number refl)
      (row_other (bytes_eq name (codes "count")) _ _ argument (plain_other pipe.Count refl)
      (row_other (bytes_eq name (codes "take")) _ _ argument (number_other 0 999999999 (λ n. step.Take n) (λ n. refl))
      (row_other (bytes_eq name (codes "drop")) _ _ argument (number_other 0 999999999 (λ n. step.Pipe (pipe.Drop n)) (λ n. refl))
      (row_other (bytes_eq name (codes "field")) _ _ argument (number_other 0 999999999 (λ i. step.Pipe (pipe.Field i)) (λ i. refl))
      (row_other (bytes_eq name (codes "lookup")) _ _ argument table_other
      (row_other (bytes_eq name (codes "filter")) _ _ argument (text_other 1 1024 (λ text. pipe.Filter text) (λ text. refl))
      (row_unless (bytes_eq name (codes "intersperse")) _ _ argument e
      (row_other (bytes_eq name (codes "chunk")) _ None argument (number_other 1 64 (λ n. step.Pipe (pipe.ChunkN n)) (λ n. refl)) tt)))))))))))))))

  puts_one : (argument : Option (List ℕ)) → Puts true (of_name tables (form_of step_forms (codes "intersperse")) argument)
  puts_one None = tt
  puts_one (Some text) = puts_if (is_sized 0 64 text) true (Ok (step.Pipe (pipe.Intersperse text))) (Err refused.OutOfRange) refl tt

is_put : (b : Bool) (m : Meant) (s : Step) → Puts b m → m ≡ Ok s → puts_between s ≡ b
is_put b (Ok x) s h e = let same : x ≡ s = cc in subst (λ y. puts_between y ≡ b) same h
is_put b (Err wrong) s h e = (cc)

between_said : (tables : NamedTables) (word : List ℕ) (s : Step) → word_means tables word ≡ Ok s → puts_between s ≡ is_between_word word
between_said tables word s e = go (is_between_word word) refl
  where
    go : (b : Bool) → is_between_word word ≡ b → puts_between s ≡ b
    go true t = is_put true (word_means tables word) s
        (subst (λ name. Puts true (of_name tables (form_of step_forms name) (behind_space word))) (sym ((bytes_eq-Decides (before_space word) (codes "intersperse")).0 t)) (puts_one tables (behind_space word))) e
    go false t = is_put false (word_means tables word) s (puts_none tables (before_space word) (behind_space word) t) e

said_between : (tables : NamedTables) (words : List (List ℕ)) (steps : List Step) → SaysSteps tables words steps → count_by puts_between steps ≡ count_by is_between_word words
said_between tables [] [] h = refl
said_between tables (word ∷ words) (s ∷ steps) h =
    let one : cond {A = ℕ} (puts_between s) 1 0 ≡ cond (is_between_word word) 1 0 = ap (λ b. cond {A = ℕ} b 1 0) (between_said tables word s h.0) in
    omega (arith, one, said_between tables words steps h.1, sum_by-cons (λ y. cond (puts_between y) 1 0) s steps, sum_by-cons (λ y. cond (is_between_word y) 1 0) word words)
said_between tables [] (s ∷ steps) h = absurd h
said_between tables (word ∷ words) [] h = absurd h

-- the steps of a stream are few, and one of them at most puts a line between each two
pub fitting_agrees : (bytes : List ℕ) (k : ℕ) (steps : List Step) → SaysSteps (names_in bytes k) (words_of bytes k) steps → Agrees (HasFlaw bytes) (ManySteps k ∷ TwoBetween k ∷ []) (are_fitting k steps)
fitting_agrees bytes k steps said =
    then_agrees (HasFlaw bytes) (ManySteps k ∷ []) (TwoBetween k ∷ []) (passes (are_few steps) refused.OutOfRange (at_stream k).0) (λ _. passes (put_one_between steps) refused.OutOfRange (at_stream k).0)
    (test_agrees (HasFlaw bytes) (ManySteps k) (are_few steps)
    (λ e h. omega (arith, h, leb-true (length steps) most_steps e, said_length (names_in bytes k) (words_of bytes k) steps said))
    (λ e. let more = leb-false (length steps) most_steps e in omega (arith, more, said_length (names_in bytes k) (words_of bytes k) steps said)))
    (λ u is. test_agrees (HasFlaw bytes) (TwoBetween k) (put_one_between steps)
    (λ e h. omega (arith, h, leb-true (count_by puts_between steps) 1 e, said_between (names_in bytes k) (words_of bytes k) steps said))
    (λ e. let more = leb-false (count_by puts_between steps) 1 e in omega (arith, more, said_between (names_in bytes k) (words_of bytes k) steps said)))
