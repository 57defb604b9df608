-- What a reading of lines is of the bytes of its file.
use Rattle.std.proofs.Common.{◌≡◌, ℕ, ◌<◌, ◌≤◌, ◌^◌, if◌then◌else◌, List, inl, inr, map, take, length, Option, Some, None, sym, ap, ◌∙◌, subst, arith}
use Rattle.std.proofs.lemmas.Bool.{le-ltb, lt-ltb}
use Rattle.chunk_core.specs.Elements.{Byte, Element}
use Rattle.chunk_core.specs.Feed.{Given}
use Rattle.chunk_core.specs.Outcomes.{Cut, Done, End, Fault, Outcomes}
use Rattle.chunk_core.specs.Tables.{no_values}
use Rattle.chunk_core.specs.declared.code.Code.{Code}
use Rattle.chunk_core.specs.declared.code.Code.TheVariants as code
use Rattle.chain_pipes.specs.Over.{Came, came, through}
use Rattle.device_port.specs.Device.{DeviceTold, faults_of}
use Rattle.eval_rules.specs.Answers.{file_over, lines_over}
use Rattle.eval_rules.specs.Evaluation.{IdealLineRuns, LinesComeOf}
use Rattle.joined_runs.proofs.Reading.{IsCounted, front_read, some_read, stops_shows, whole_is}
use Rattle.joined_runs.proofs.StepRuns.{Nears, left_nears, left_shows, opens_nears, opens_shows, piped_nears, piped_shows}
use Rattle.pull_nodes.specs.Pipes.{all_of, part_of}
use Rattle.pull_nodes.specs.Runs.{GivesBy, OrLeft, OpensThen, Piped, Reads, ReadsContent, ReadsWhole, ReadsWholeBy}
use Rattle.pull_nodes.specs.declared.pipe.Pipe.TheVariants as pipe
use Rattle.pull_nodes.proofs.PipeLaws.{lawful_pipe}

abbrev part : List Element → Given
part xs = part_of no_values pipe.Lines xs

abbrev all : List Element → Given
all xs = all_of no_values pipe.Lines xs

-- a reading, and the lines of it
abbrev reading : DeviceTold → Outcomes
reading d = OrLeft (Unit {0}) (Reads d)

-- a fault of the reading shows on its device
pub lines_shows : (d : DeviceTold) (ys : List Element) (c : Code) → LinesComeOf d ys (Fault c) → IsCounted d c
lines_shows d =
    let X : (DeviceTold → ℕ) → Type 0 = λ n. 0 < n d in
    left_shows X (OpensThen d (OrLeft (Unit {0}) (Piped part all (reading d))) (Unit {0}))
    (opens_shows X (OrLeft (Unit {0}) (Piped part all (reading d)))
    (left_shows X (Piped part all (reading d)) (piped_shows X (reading d) (left_shows X (Reads d) (λ ys c r. stops_shows d c r.1) (Unit {0})) part all (lawful_pipe no_values pipe.Lines).own) (Unit {0}))
    d (λ l. l) (Unit {0}))
    (Unit {0})

-- a reading of a device without a fault is near the one of all its bytes
pub lines_near : (d : DeviceTold) → faults_of d ≡ 0 → d.at ≤ 2 ^ 40 → Nears (LinesComeOf d) (IdealLineRuns d)
lines_near d calm within =
    let near : Nears (Reads d) (ReadsWhole d) = record { some = some_read d.content d within; whole = λ ys e r n. whole_is d ys e calm n r; front = λ ys e r. front_read d.content d ys within r.0 } in
    left_nears (Unit {0}) (OpensThen d (OrLeft (Unit {0}) (Piped part all (reading d))) (Unit {0})) (IdealLineRuns d)
    (opens_nears d (Unit {0}) (OrLeft (Unit {0}) (Piped part all (reading d))) (IdealLineRuns d) (omega (arith, calm))
    (left_nears (Unit {0}) (Piped part all (reading d)) (IdealLineRuns d) (piped_nears part all (lawful_pipe no_values pipe.Lines).steady (reading d) (ReadsWhole d) (left_nears (Unit {0}) (Reads d) (ReadsWhole d) near))))

-- Where the content is told, there is one such reading of all bytes.

came_of : (xs ys : List Element) (e g : End) → xs ≡ ys → e ≡ g → came xs e ≡ came ys g
came_of xs ys e g p q = ap (λ (zs : List Element). came zs e) p ∙ ap (λ (x : End). came ys x) q

gives_is : (o : Option Code) (xs ys : List Element) (g e : End) → GivesBy o part all xs g ys e → came ys e ≡ through o (part xs) (all xs) g
gives_is (Some c) xs ys g e r = came_of ys (part xs).list e (Fault c) r.0 r.1
gives_is None xs ys Done e r = came_of ys (all xs).list e _ r.0 r.1
gives_is None xs ys (Fault c) e r = came_of ys (part xs).list e (Fault c) r.0 r.1
gives_is None xs ys Cut e r = came_of ys (part xs).list e Cut r.0 r.1

content_is : (c : List ℕ) (xs : List Element) (g : End) → ReadsContent c xs g → came xs g ≡ file_over c
content_is c xs g (inl r) = came_of xs (map Byte c) g Done r.1 r.2 ∙ sym (ap (λ b. if b then came (map Byte c) Done else came (map Byte (take (2 ^ 40) c)) (Fault code.Endless)) (lt-ltb (length c) (2 ^ 40) r.0))
content_is c xs g (inr r) = came_of xs (map Byte (take (2 ^ 40) c)) g (Fault code.Endless) r.1 r.2 ∙ sym (ap (λ b. if b then came (map Byte c) Done else came (map Byte (take (2 ^ 40) c)) (Fault code.Endless)) (le-ltb (length c) (2 ^ 40) r.0))

-- of these bytes come these lines
pub ideal_is : (d : DeviceTold) (bytes : List ℕ) (ys : List Element) (e : End) → d.content ≡ Some bytes → IdealLineRuns d ys e → came ys e ≡ lines_over bytes
ideal_is d bytes ys e told (xs, g, r, q) =
    let read : came xs g ≡ file_over bytes = content_is bytes xs g (subst (λ o. ReadsWholeBy o d xs g) told r) in
    gives_is (part xs).fault xs ys g e q ∙ ap (λ (x : Came). through (part x.list).fault (part x.list) (all x.list) x.end) read
