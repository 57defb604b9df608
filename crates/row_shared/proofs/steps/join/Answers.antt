use Rattle.row_seat.specs.Steps.{joined}
use Rattle.row_shared.proofs.Called.{idle_is, joined_told}
use Rattle.row_shared.proofs.steps.join.Goals as goal

pub meet-requires-clause-idle : goal.meet-requires-clause-idle
meet-requires-clause-idle g c = idle_is (joined c.args.pass.now.me.0.token c.args.other.me.0.token) c.join_as.new.pass.me c.join_as.ensures.told c.requires.idle.0.1

pub returns-clause-told : goal.returns-clause-told
returns-clause-told g c = joined_told c.args.table.now.table_id.slots c.args.table.now.key.events c.args.pass.now.me.0.token c.args.other.me.0.token c.join_as.new.pass.me c.meet.new.pass.me c.requires.two c.join_as.ensures.told c.meet.ensures.told
