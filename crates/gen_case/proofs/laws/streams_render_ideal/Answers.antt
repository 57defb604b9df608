use Rattle.gen_case.proofs.Rendering.{streams_render_ideal, table_is_read}
use Rattle.gen_case.proofs.laws.streams_render_ideal.Goals as goal

pub returns-clause-table : goal.returns-clause-table
returns-clause-table c = table_is_read

pub returns-clause-streams : goal.returns-clause-streams
returns-clause-streams c = streams_render_ideal
