use Rattle.std.proofs.Common.{map}
use Rattle.clap.specs.Words.{app_of}
use Rattle.command_words.proofs.Rows.{read_if_taken, simple_if_free}
use Rattle.command_words.proofs.reading.matches_in.Goals as goal

pub returns-in-Ok : goal.returns-in-Ok
returns-in-Ok c =
    let e = c.in-Ok.ensures in
    read_if_taken (app_of c.args.command) (map (λ word. word.now) c.args.words.now) _ (e.kinds c.requires) (e.matches (simple_if_free (app_of c.args.command) c.requires)).0
