-- Messages of one stream.
use Rattle.std.specs.Prelude.{◌≡◌, ℕ, ◌==◌, List, ◌++◌, filter}
use Rattle.channel_bounded.specs.declared.message.Msg.{Msg}

-- the messages of stream k, in order
abbrev pub of_stream : ℕ → List Msg → List Msg
of_stream k messages = filter (λ m. m.stream == k) messages

-- what was got of stream k, followed by what is queued of it, is what was sent
abbrev pub IsWhole : ℕ → List Msg → List Msg → List Msg → Type 0
IsWhole k sent got queued = of_stream k got ++ of_stream k queued ≡ sent
