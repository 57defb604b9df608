use Rattle.std.proofs.Common.{◌≡◌, map, take}
use Rattle.command_words.proofs.teed.words_of.Given as goal

-- the words of the texts so far
abbrev pub invariant-loop-text : goal.invariant-loop-text
invariant-loop-text l = l.words ≡ map (λ text. text.now) (take l.text-index l.texts)
