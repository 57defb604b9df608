-- How much is still to come of a pipe whose input has ended.
use Rattle.std.proofs.Common.{◌≡◌, ℕ, ◌<◌, ◌^◌, Bool, true, false, List, [], ◌∷◌, length, Option, ap, ◌∙◌, refl, arith, if◌then◌else◌}
use Rattle.std.proofs.lemmas.List.{length-map}
use Rattle.chunk_core.specs.Elements.{Element, Line, Row, LoadKind}
use Rattle.chunk_core.specs.declared.code.Code.{Code}
use Rattle.csv_pipes.specs.CsvState as csv
use Rattle.pull_nodes.specs.Hex.{hex_line}
use Rattle.pull_nodes.specs.Plain.{if_any}
use Rattle.any_pipe.specs.AnyState.{Comes}
use Rattle.any_pipe.specs.declared.state.AnyPipe.{AnyPipe}
use Rattle.any_pipe.specs.declared.state.AnyPipe.TheVariants as any

-- a line where some bytes are held back, the rows that were gathered, the count where it was not told
abbrev pub due : AnyPipe → ℕ
due (any.Utf8 q) = 0
due (any.Lossy q) = 0
due (any.Lines q) = length (if_any q.held.items)
due (any.Hex q) = length (if_any (hex_line q.held.items))
due (any.Upper q) = 0
due (any.Csv q) = csv.due q
due (any.Field q) = 0
due (any.Lookup q) = 0
due (any.Drop q) = 0
due (any.Filter q) = 0
due (any.Changes q) = 0
due (any.Number q) = 0
due (any.Count q) = if q.told then 0 else 1
due (any.Intersperse q) = 0
due (any.ChunkN q) = 0

few : (xs : List ℕ) → length (if_any xs) < 2 ^ 64
few [] = omega arith
few (x ∷ xs) = omega arith

count_few : (told : Bool) (e : Element) → (length (if told then [] else (e ∷ [])) ≡ (if told then 0 else 1)) × ((if told then 0 else 1) < 2 ^ 64)
count_few true e = (refl, omega arith)
count_few false e = (refl, omega arith)

pub any_owes : (q : AnyPipe) (k : LoadKind) (ys : List Element) (c : Option Code) → Comes q k ys c → (length ys ≡ due q) × (due q < 2 ^ 64)
any_owes (any.Utf8 q) k ys c h = absurd h
any_owes (any.Lossy q) k ys c h = (ap length h.1, omega arith)
any_owes (any.Lines q) k ys c h = (ap length h.1 ∙ length-map (if_any q.held.items) Line, few q.held.items)
any_owes (any.Hex q) k ys c h = (ap length h.1 ∙ length-map (if_any (hex_line q.held.items)) Line, few (hex_line q.held.items))
any_owes (any.Upper q) k ys c h = (ap length h.0, omega arith)
any_owes (any.Csv q) k ys c h = let rows = ap length h.rows ∙ length-map (csv.rows_to_come q.stage) Row in (rows, omega (arith, rows, h.few))
any_owes (any.Field q) k ys c h = (ap length h.0, omega arith)
any_owes (any.Lookup q) k ys c h = (ap length h.0, omega arith)
any_owes (any.Drop q) k ys c h = (ap length h.0, omega arith)
any_owes (any.Filter q) k ys c h = (ap length h.0, omega arith)
any_owes (any.Changes q) k ys c h = (ap length h.0, omega arith)
any_owes (any.Number q) k ys c h = (ap length h.0, omega arith)
any_owes (any.Count q) k ys c h = let f = count_few q.told _ in (ap length h.1 ∙ f.0, f.1)
any_owes (any.Intersperse q) k ys c h = (ap length h.0, omega arith)
any_owes (any.ChunkN q) k ys c h = (ap length h.1, omega arith)
