-- What is known of the messages in the collector's channel.
use Rattle.std.specs.Prelude.{List, ◌++◌}
use Rattle.std.specs.List.{AllByRecursion}
use Rattle.channel_bounded.specs.declared.message.Msg.{Msg}
use Rattle.stream_jobs.specs.Messages.{IsFullMessage}

-- each load that was got or is queued has elements
abbrev pub AreFilled : List Msg → List Msg → Type 0
AreFilled got queued = AllByRecursion IsFullMessage (got ++ queued)
