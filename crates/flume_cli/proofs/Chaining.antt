-- How the words of steps are read one after another.
use Rattle.std.proofs.Common.{◌≡◌, ℕ, ◌+◌, ◌≤◌, List, [], ◌∷◌, ◌++◌, drop, length, refl, sym, subst, Result, Ok, Err, IsErr, IsErrAnd}
use Rattle.pipeline_desc.specs.Reading.{Reading, each_from}
use Rattle.pipeline_desc.specs.declared.refusal.Refused.TheVariants as refused
use Rattle.pipeline_desc.specs.declared.step.Step.{Step}
use Rattle.pipeline_desc.proofs.Each.{after, each_ends, each_fails, each_next}
use Rattle.step_words.specs.Words.{steps_of}
use Rattle.flume_cli.specs.declared.status.Status.{Status}
use Rattle.flume_cli.specs.declared.status.Status.TheVariants as status
use Rattle.flume_cli.specs.Chains.{AreChains, GivesMeant, IsChain, chains_of}

abbrev meant_by : ℕ → List ℕ → Reading (List Step)
meant_by i word = steps_of word

module _ (words : List (List ℕ)) (found : List (List Step)) (i : ℕ) (so_far : chains_of words ≡ after found (each_from meant_by i (drop i words))) where
  -- a word that means no chain, or for which there was no memory
  pub word_fails : (word : List ℕ) → drop i words ≡ word ∷ drop (i + 1) words → (s : Status) → GivesMeant IsChain (steps_of word) (Err s) → GivesMeant AreChains (chains_of words) (Err s)
  word_fails word here status.BadWords h = go (steps_of word) refl h
    where
      go : (m : Reading (List Step)) → steps_of word ≡ m → IsErr m → IsErr (chains_of words)
      go (Ok x) is h = absurd (cc)
      go (Err e) is h = subst (λ r. IsErr r) (sym (each_fails meant_by words (chains_of words) found i i so_far word (refused.Desc e) here is)) refl
  word_fails word here status.Memory h = tt
  word_fails word here (status.Refused e) h = absurd h
  word_fails word here status.Unread h = absurd h
  word_fails word here status.Good h = absurd h
  word_fails word here status.Faulty h = absurd h
  word_fails word here status.NotWritten h = absurd h
  word_fails word here status.Unclean h = absurd h
  word_fails word here status.Broken h = absurd h
  word_fails word here (status.LedgerRefused e) h = absurd h
  word_fails word here status.LedgerUnread h = absurd h

  -- one more word
  pub word_read : (word : List ℕ) (steps : List Step) → drop i words ≡ word ∷ drop (i + 1) words → steps_of word ≡ Ok steps → chains_of words ≡ after (found ++ steps ∷ []) (each_from meant_by (i + 1) (drop (i + 1) words))
  word_read word steps here is = each_next meant_by words (chains_of words) found i i so_far word steps here is

  -- no word is left
  pub words_end : length words ≤ i → chains_of words ≡ Ok found
  words_end past = each_ends meant_by words (chains_of words) found i i so_far past

-- the status is handed on
pub handed_on : (answer : Result (List (List Step)) Status) (s : Status) (meant : Reading (List (List Step))) → IsErrAnd answer (λ d. d ≡ s) → GivesMeant AreChains meant (Err s) → GivesMeant AreChains meant answer
handed_on (Ok x) s meant is fails = absurd is
handed_on (Err d) s meant is fails = subst (λ y. GivesMeant AreChains meant (Err y)) (sym is) fails
