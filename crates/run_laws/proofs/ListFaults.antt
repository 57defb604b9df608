-- What a reading of a list of whole lines may give, and how it may fail.
use Rattle.std.proofs.Common.{◌≡◌, ◌≢◌, ℕ, List, map, Option, Some, None, inl, inr, refl, sym, ap, ◌∙◌, subst, Bool, true, false}
use Rattle.chunk_core.specs.Elements.{Byte, Element}
use Rattle.chunk_core.specs.Feed.{Given}
use Rattle.chunk_core.specs.Outcomes.{Cut, Done, End, Fault, Outcomes}
use Rattle.chunk_core.specs.Tables.{no_values}
use Rattle.chunk_core.specs.declared.code.Code.{Code}
use Rattle.chunk_core.specs.declared.code.Code.TheVariants as code
use Rattle.device_port.specs.Device.{DeviceTold}
use Rattle.pull_nodes.specs.Pipes.{all_of, part_of}
use Rattle.pull_nodes.specs.Runs.{GivesAtEnd, GivesBy, OpensThen, Piped, Reads, end_by_fault}
use Rattle.pull_nodes.specs.declared.pipe.Pipe.TheVariants as pipe
use Rattle.pull_nodes.proofs.Lines.{lines_lawful}
use Rattle.pull_nodes.proofs.Steady.{SteadyBy}
use Rattle.pull_nodes.proofs.Utf8.{utf8_lawful}
use Rattle.run_laws.specs.Lists.{ListRuns}
use Rattle.run_laws.specs.Streams.{InFile, Leaves, ThroughPipe}
use Rattle.run_laws.proofs.ListRuns.{Spells}
use Rattle.run_laws.proofs.Within.{IsWithin, fault_done, file_within, left_within, none_some, piped_within, reads_within}

-- a fault of opening or reading a file
abbrev pub is_of_a_file : Code → Bool
is_of_a_file code.Open = true
is_of_a_file code.Read = true
is_of_a_file code.Endless = true
is_of_a_file c = false

-- R fails by its file alone
abbrev pub FailsByFile : Outcomes → Type 0
FailsByFile R = (ys : List Element) (c : Code) → R ys (Fault c) → is_of_a_file c ≡ true

fault_cut : (c : Code) → Fault c ≢ Cut
fault_cut c e = cc

same_fault : (c d : Code) → Fault c ≡ Fault d → c ≡ d
same_fault c d e = cc

reads_fail : (d : DeviceTold) → FailsByFile (Reads d)
reads_fail d ys code.Endless r = refl
reads_fail d ys code.Read r = refl
reads_fail d ys c r = absurd r.1

left_fails : (R : Outcomes) → FailsByFile R → FailsByFile (Leaves R)
left_fails R h ys c (inl r) = h ys c r
left_fails R h ys c (inr x) = absurd (fault_cut c x.0)

file_fails : (d : DeviceTold) (A : Outcomes) → FailsByFile A → FailsByFile (InFile d A)
file_fails d A h = left_fails (OpensThen d (Leaves A) (Unit {0})) opens
  where
    opens : FailsByFile (OpensThen d (Leaves A) (Unit {0}))
    opens ys c (inl o) = left_fails A h ys c o.2
    opens ys c (inr o) = subst (λ x. is_of_a_file x ≡ true) (sym (same_fault c code.Open o.3)) refl

-- a pipe that finds no fault in all of its input
module _ (part all : List Element → Given) (steady : SteadyBy part all) (ws : List Element) (good : (part ws).fault ≡ None) (whole : (all ws).fault ≡ None) (A : Outcomes) (within : IsWithin A ws) (fails : FailsByFile A) where
  at_end : (xs ys : List Element) (g : End) (c : Code) → A xs g → GivesAtEnd part all xs g ys (Fault c) → is_of_a_file c ≡ true
  at_end xs ys Done c r h =
      let e : Fault c ≡ Done = h.1 ∙ ap (λ (o : Option Code). end_by_fault o Done) (ap (λ l. (all l).fault) ((within xs Done r).1 refl) ∙ whole) in
      absurd (fault_done c e)
  at_end xs ys (Fault d) c r h = subst (λ x. is_of_a_file x ≡ true) (sym (same_fault c d h.1)) (fails xs d r)
  at_end xs ys Cut c r h = absurd (fault_cut c h.1)

  fails_by : (o : Option Code) (xs ys : List Element) (g : End) (c : Code) → (part xs).fault ≡ o → A xs g → GivesBy o part all xs g ys (Fault c) → is_of_a_file c ≡ true
  fails_by None xs ys g c n r h = at_end xs ys g c r h
  fails_by (Some d) xs ys g c n r h =
      let f = (within xs g r).0 in
      let same : part ws ≡ part xs = ap part f.1 ∙ (steady.stops xs f.0 d n).0 in
      absurd (none_some d (sym good ∙ (ap (λ (p : Given). p.fault) same ∙ n)))

  piped_fails : FailsByFile (Piped part all A)
  piped_fails ys c p = fails_by (part p.0).fault p.0 ys p.1 c refl p.2 p.3

module _ (bytes : List ℕ) (lines : List Element) (spelled : Spells bytes lines) (d : DeviceTold) (told : d.content ≡ Some bytes) where
  abbrev given : List Element
  given = map Byte bytes

  utf8_good : (part_of no_values pipe.Utf8 given).fault ≡ None
  utf8_good = ap (λ (g : Given). g.fault) spelled.utf8_part

  lines_good : (part_of no_values pipe.Lines given).fault ≡ None
  lines_good = ap (λ (g : Given). g.fault) spelled.lines_part

  bytes_within : IsWithin (Leaves (Reads d)) given
  bytes_within = left_within (Reads d) given (reads_within d bytes told)

  text_within : IsWithin (Leaves (ThroughPipe (Leaves (Reads d)) pipe.Utf8)) given
  text_within = left_within (ThroughPipe (Leaves (Reads d)) pipe.Utf8) given
      (subst (λ l. IsWithin (ThroughPipe (Leaves (Reads d)) pipe.Utf8) l) (ap (λ (g : Given). g.list) spelled.utf8_all)
      (piped_within (part_of no_values pipe.Utf8) (all_of no_values pipe.Utf8) utf8_lawful.steady given utf8_good (Leaves (Reads d)) bytes_within))

  pub list_within : IsWithin (ListRuns d) lines
  list_within = file_within d (ThroughPipe (Leaves (ThroughPipe (Leaves (Reads d)) pipe.Utf8)) pipe.Lines) lines
      (subst (λ l. IsWithin (ThroughPipe (Leaves (ThroughPipe (Leaves (Reads d)) pipe.Utf8)) pipe.Lines) l) (ap (λ (g : Given). g.list) spelled.lines_all)
      (piped_within (part_of no_values pipe.Lines) (all_of no_values pipe.Lines) lines_lawful.steady given lines_good (Leaves (ThroughPipe (Leaves (Reads d)) pipe.Utf8)) text_within))

  text_fails : FailsByFile (Leaves (ThroughPipe (Leaves (Reads d)) pipe.Utf8))
  text_fails = left_fails (ThroughPipe (Leaves (Reads d)) pipe.Utf8)
      (piped_fails (part_of no_values pipe.Utf8) (all_of no_values pipe.Utf8) utf8_lawful.steady given utf8_good (ap (λ (g : Given). g.fault) spelled.utf8_all) (Leaves (Reads d)) bytes_within (left_fails (Reads d) (reads_fail d)))

  pub list_fails : FailsByFile (ListRuns d)
  list_fails = file_fails d (ThroughPipe (Leaves (ThroughPipe (Leaves (Reads d)) pipe.Utf8)) pipe.Lines)
      (piped_fails (part_of no_values pipe.Lines) (all_of no_values pipe.Lines) lines_lawful.steady given lines_good (ap (λ (g : Given). g.fault) spelled.lines_all) (Leaves (ThroughPipe (Leaves (Reads d)) pipe.Utf8)) text_within text_fails)
