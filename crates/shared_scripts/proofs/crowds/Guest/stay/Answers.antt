use Rattle.std.proofs.Common.{sym, ◌∙◌}
use Rattle.shared_scripts.proofs.Homes.{comes_home}
use Rattle.shared_scripts.proofs.Racing.{outer_inner}
use Rattle.shared_scripts.proofs.crowds.Guest.stay.Goals as goal

pub returns-clause-home : goal.returns-clause-home
returns-clause-home c = λ e g. let r = c.requires.ready in let x = c.stay.ensures in
    comes_home r.other c.args.self.seat c.stay.new.seat c.args.self.desk c.stay.new.desk e r.beside (x.others r.other (λ q. outer_inner c.args.self.stream (sym r.named ∙ q)) r.beside) r.fits x.fits x.rested.side g
