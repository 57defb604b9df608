use Rattle.channel_bounded.proofs.receiver.Receiver.split.Given as goal

abbrev pub ghosts-split_at : goal.ghosts-split_at
ghosts-split_at g a = record { number = a.stream }
