use Rattle.std.proofs.Common.{◌≡◌, drop, length}
use Rattle.pipeline_desc.specs.Reading.{each_from}
use Rattle.pipeline_desc.proofs.Each.{after}
use Rattle.step_words.specs.Words.{steps_of}
use Rattle.flume_cli.specs.Chains.{AreChains, chains_of}
use Rattle.flume_cli.proofs.chains.read_chains.Given as goal

-- the chains of the words so far, and what is left to be read
abbrev pub invariant-loop-word : goal.invariant-loop-word
invariant-loop-word l = record {
  read : chains_of l.fn.words ≡ after l.chains (each_from (λ i word. steps_of word) l.word-index (drop l.word-index l.fn.words));
  are : AreChains l.chains;
  count : length l.chains ≡ l.word-index;
}
