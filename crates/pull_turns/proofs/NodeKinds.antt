-- The pipes of a node that has a kind fit.
use Rattle.std.proofs.Common.{◌≡◌, ◌⊎◌, inl, inr, [], Option, Some, None, refl, sym, ap, subst}
use Rattle.chunk_core.specs.Elements.{LoadKind, kind_of}
use Rattle.chunk_core.specs.Elements.LoadKind.{Bytes, Lines, Rows}
use Rattle.chunk_core.specs.Feed.{Meaning}
use Rattle.chunk_core.specs.declared.load.Load.{Load}
use Rattle.chunk_core.specs.declared.load.Load.TheVariants as load
use Rattle.pull_nodes.specs.Kinds.{joined_kind, kind_behind, merged_kind, node_kind as kind_of_node, kind_of_sides, load_kind, paired_kind}
use Rattle.pull_nodes.specs.PipeKinds.{gives_of, kind_of_nothing, piped_kind, stream_kind}
use Rattle.pull_nodes.specs.Pipes.{IsMeaningOver, meaning_over}
use Rattle.chunk_core.specs.Tables.{Values, no_values}
use Rattle.std.specs.Prelude.{option_and_then, option_map}
use Rattle.pull_nodes.specs.declared.kind.Kind.{Kind}
use Rattle.pull_nodes.specs.declared.kind.Kind.TheVariants as kind
use Rattle.pull_nodes.specs.declared.node.Node.{Node}
use Rattle.pull_nodes.specs.declared.node.Node.TheVariants as node
use Rattle.pull_nodes.specs.declared.pipe.Pipe.{Pipe}
use Rattle.pull_nodes.specs.declared.pipe.Pipe.TheVariants as pipe
use Rattle.pull_nodes.specs.Rules.{rule_of}
use Rattle.pull_nodes.proofs.PipeLaws.{lawful_pipe}
use Rattle.pull_turns.specs.Piping.{HasKindOf, PipesFitOf}

-- a stream of this kind may give loads of that kind alone; a stream that gives nothing fits each
abbrev Admits : Kind → LoadKind → Type 0
Admits kind.Any k = Unit {0}
Admits kind.Bytes k = k ≡ Bytes
Admits kind.Lines k = k ≡ Lines
Admits kind.Rows k = k ≡ Rows

abbrev AdmitsBy : Option Kind → LoadKind → Type 0
AdmitsBy None k = ⊥
AdmitsBy (Some j) k = Admits j k

admits_load : (l : Load) (k : LoadKind) → Admits (load_kind l) k → kind_of l ≡ k
admits_load (load.Bytes b) k h = sym h
admits_load (load.Lines b) k h = sym h
admits_load (load.Rows b) k h = sym h

admits_joined : (i j : Kind) (k : LoadKind) → AdmitsBy (joined_kind i j) k → Admits i k × Admits j k
admits_joined kind.Any j k h = (tt, h)
admits_joined kind.Bytes kind.Any k h = (h, tt)
admits_joined kind.Bytes kind.Bytes k h = (h, h)
admits_joined kind.Bytes kind.Lines k h = absurd h
admits_joined kind.Bytes kind.Rows k h = absurd h
admits_joined kind.Lines kind.Any k h = (h, tt)
admits_joined kind.Lines kind.Bytes k h = absurd h
admits_joined kind.Lines kind.Lines k h = (h, h)
admits_joined kind.Lines kind.Rows k h = absurd h
admits_joined kind.Rows kind.Any k h = (h, tt)
admits_joined kind.Rows kind.Bytes k h = absurd h
admits_joined kind.Rows kind.Lines k h = absurd h
admits_joined kind.Rows kind.Rows k h = (h, h)

admits_sides : (a b : Option Kind) (k : LoadKind) → AdmitsBy (kind_of_sides a b) k → AdmitsBy a k × AdmitsBy b k
admits_sides None b k h = absurd h
admits_sides (Some i) None k h = absurd h
admits_sides (Some i) (Some j) k h = admits_joined i j k h

-- pairs are rows
admits_paired : (o : Option Kind) (k : LoadKind) → AdmitsBy (option_and_then paired_kind o) k → k ≡ Rows
admits_paired None k h = absurd h
admits_paired (Some kind.Any) k h = h
admits_paired (Some kind.Bytes) k h = absurd h
admits_paired (Some kind.Lines) k h = h
admits_paired (Some kind.Rows) k h = absurd h

-- a merge has the kind of its sides
admits_merged : (o : Option Kind) (k : LoadKind) → AdmitsBy (option_and_then merged_kind o) k → AdmitsBy o k
admits_merged None k h = absurd h
admits_merged (Some kind.Any) k h = h
admits_merged (Some kind.Bytes) k h = absurd h
admits_merged (Some kind.Lines) k h = h
admits_merged (Some kind.Rows) k h = h

-- what is paired is lines
takes_lines : (o : Option Kind) → (j : Kind) × (option_and_then paired_kind o ≡ Some j) → AdmitsBy o Lines
takes_lines None h = absurd (let e : None ≡ Some h.0 = h.1 in cc)
takes_lines (Some kind.Any) h = tt
takes_lines (Some kind.Bytes) h = absurd (let e : None ≡ Some h.0 = h.1 in cc)
takes_lines (Some kind.Lines) h = refl
takes_lines (Some kind.Rows) h = absurd (let e : None ≡ Some h.0 = h.1 in cc)

-- the kinds of a pipe don't depend on what the tables have
record HasFixedKinds (v : Values) (q : Pipe) : Type 0 where
  gives : (rule_of v q).gives ≡ (rule_of no_values q).gives
  of_nothing : (rule_of v q).of_nothing ≡ (rule_of no_values q).of_nothing

fixed_kinds : (v : Values) (q : Pipe) → HasFixedKinds v q
fixed_kinds v pipe.Utf8 = record { gives = refl; of_nothing = refl }
fixed_kinds v pipe.Lossy = record { gives = refl; of_nothing = refl }
fixed_kinds v pipe.Lines = record { gives = refl; of_nothing = refl }
fixed_kinds v pipe.Hex = record { gives = refl; of_nothing = refl }
fixed_kinds v pipe.Upper = record { gives = refl; of_nothing = refl }
fixed_kinds v pipe.Csv = record { gives = refl; of_nothing = refl }
fixed_kinds v (pipe.Field i) = record { gives = refl; of_nothing = refl }
fixed_kinds v (pipe.Lookup t i) = record { gives = refl; of_nothing = refl }
fixed_kinds v (pipe.Drop n) = record { gives = refl; of_nothing = refl }
fixed_kinds v (pipe.Filter text) = record { gives = refl; of_nothing = refl }
fixed_kinds v pipe.Changes = record { gives = refl; of_nothing = refl }
fixed_kinds v pipe.Number = record { gives = refl; of_nothing = refl }
fixed_kinds v pipe.Count = record { gives = refl; of_nothing = refl }
fixed_kinds v (pipe.Intersperse line) = record { gives = refl; of_nothing = refl }
fixed_kinds v (pipe.ChunkN n) = record { gives = refl; of_nothing = refl }

module _ (v : Values) where
  -- what a pipe makes of loads, or of nothing
  abbrev Behind : (LoadKind → Type 0) → Pipe → LoadKind → Type 0
  Behind Below q k =
      ((m : Meaning) × IsMeaningOver v q m × Below m.takes × (m.gives ≡ k))
      ⊎ (((j : LoadKind) → Below j) × ((m : Meaning) × IsMeaningOver v q m × ((m.all []).list ≡ [])))

  admits_stream : (g k : LoadKind) → Admits (stream_kind g) k → g ≡ k
  admits_stream Bytes k h = sym h
  admits_stream Lines k h = sym h
  admits_stream Rows k h = sym h

  takes_as : (q : Pipe) (takes gives : LoadKind) → (rule_of v q).gives takes ≡ Some gives → IsMeaningOver v q (meaning_over v q takes gives)
  takes_as q takes gives e = ap (option_map (meaning_over v q takes)) (subst (λ g. g takes ≡ Some gives) (fixed_kinds v q).gives e)

  behind_nothing : (Below : LoadKind → Type 0) (q : Pipe) (k : LoadKind) → ((j : LoadKind) → Below j) → Admits (kind_of_nothing q) k → Behind Below q k
  behind_nothing Below q k f h = elim (lawful_pipe v q).behind_nothing [
    | inl b ↦ inl (meaning_over v q b.0 b.1, takes_as q b.0 b.1 b.2, f b.0, admits_stream b.1 k (subst (λ i. Admits i k) (subst (λ i. i ≡ stream_kind b.1) (fixed_kinds v q).of_nothing b.3) h))
    | inr b ↦ inr (f, (meaning_over v q b.0 b.1, takes_as q b.0 b.1 b.2, b.3))
  ]

  behind_some : (Below : LoadKind → Type 0) (q : Pipe) (j k : LoadKind) (o : Option LoadKind) → gives_of q j ≡ o → Below j → AdmitsBy (option_map stream_kind o) k → Behind Below q k
  behind_some Below q j k None e b h = absurd h
  behind_some Below q j k (Some g) e b h = inl (meaning_over v q j g, ap (option_map (meaning_over v q j)) e, b, admits_stream g k h)

  behind : (Below : LoadKind → Type 0) (q : Pipe) (i : Kind) (k : LoadKind) → ((j : LoadKind) → Admits i j → Below j) → AdmitsBy (piped_kind q i) k → Behind Below q k
  behind Below q kind.Any k f h = behind_nothing Below q k (λ j. f j tt) h
  behind Below q kind.Bytes k f h = behind_some Below q Bytes k (gives_of q Bytes) refl (f Bytes refl) h
  behind Below q kind.Lines k f h = behind_some Below q Lines k (gives_of q Lines) refl (f Lines refl) h
  behind Below q kind.Rows k f h = behind_some Below q Rows k (gives_of q Rows) refl (f Rows refl) h

  behind_kind : (Below : LoadKind → Type 0) (q : Pipe) (o : Option Kind) (k : LoadKind) → ((j : LoadKind) → AdmitsBy o j → Below j) → AdmitsBy (kind_behind q o) k → Behind Below q k
  behind_kind Below q None k f h = absurd h
  behind_kind Below q (Some i) k f h = behind Below q i k f h

  -- a node of a kind gives loads of that kind
  has_kind : (n : Node) (k : LoadKind) → AdmitsBy (kind_of_node n) k → HasKindOf v k n
  has_kind node.Nil k h = tt
  has_kind (node.Emit l) k h = admits_load l k h
  has_kind (node.Raise c) k h = tt
  has_kind (node.Read p) k h = h
  has_kind (node.Weak' p _ a) k h = has_kind a k h
  has_kind (node.Scope' _ a) k h = has_kind a k h
  has_kind (node.Append' _ a _ b) k h = let s = admits_sides (kind_of_node a) (kind_of_node b) k h in (has_kind a k s.0, has_kind b k s.1)
  has_kind (node.OnFault' _ a _ b) k h = let s = admits_sides (kind_of_node a) (kind_of_node b) k h in (has_kind a k s.0, has_kind b k s.1)
  has_kind (node.Through' _ a q) k h = behind_kind (λ j. HasKindOf v j a) q (kind_of_node a) k (λ j i. has_kind a j i) h
  has_kind (node.Take' n _ a) k h = has_kind a k h
  has_kind (node.Into' p _ a) k h = tt
  has_kind (node.Zip' _ a _ b) k h = admits_paired (kind_of_sides (kind_of_node a) (kind_of_node b)) k h
  has_kind (node.Merge' _ a _ b) k h = let s = admits_sides (kind_of_node a) (kind_of_node b) k (admits_merged (kind_of_sides (kind_of_node a) (kind_of_node b)) k h) in (has_kind a k s.0, has_kind b k s.1)

  -- some kind of load is admitted
  admitted : (j : Kind) → (k : LoadKind) × Admits j k
  admitted kind.Any = (Bytes, tt)
  admitted kind.Bytes = (Bytes, refl)
  admitted kind.Lines = (Lines, refl)
  admitted kind.Rows = (Rows, refl)

  -- a pipe that gets what it takes has a meaning there
  taken_by : (Below : LoadKind → Type 0) (q : Pipe) (k : LoadKind) → Behind Below q k → (m : Meaning) × IsMeaningOver v q m × Below m.takes
  taken_by Below q k = elim [ inl h ↦ (h.0, h.1, h.2) | inr h ↦ (h.1.0, h.1.1, h.0 h.1.0.takes) ]

  -- a node that has a kind
  abbrev HasSome : Option Kind → Type 0
  HasSome o = (j : Kind) × (o ≡ Some j)

  some_sides : (a b : Option Kind) → HasSome (kind_of_sides a b) → HasSome a × HasSome b
  some_sides None b h = absurd (let e : None ≡ Some h.0 = h.1 in cc)
  some_sides (Some i) None h = absurd (let e : None ≡ Some h.0 = h.1 in cc)
  some_sides (Some i) (Some j) h = ((i, refl), (j, refl))

  some_mapped : (o : Option Kind) → HasSome (option_map (λ k. kind.Any) o) → HasSome o
  some_mapped None h = absurd (let e : None ≡ Some h.0 = h.1 in cc)
  some_mapped (Some i) h = (i, refl)

  some_then : (f : Kind → Option Kind) (o : Option Kind) → HasSome (option_and_then f o) → HasSome o
  some_then f None h = absurd (let e : None ≡ Some h.0 = h.1 in cc)
  some_then f (Some i) h = (i, refl)

  some_behind : (q : Pipe) (o : Option Kind) → HasSome (kind_behind q o) → HasSome o
  some_behind q None h = absurd (let e : None ≡ Some h.0 = h.1 in cc)
  some_behind q (Some i) h = (i, refl)

  fits : (n : Node) → HasSome (kind_of_node n) → PipesFitOf v n
  fits node.Nil h = tt
  fits (node.Emit l) h = tt
  fits (node.Raise c) h = tt
  fits (node.Read p) h = tt
  fits (node.Weak' p _ a) h = fits a h
  fits (node.Scope' _ a) h = fits a h
  fits (node.Append' _ a _ b) h = let s = some_sides (kind_of_node a) (kind_of_node b) h in (fits a s.0, fits b s.1)
  fits (node.OnFault' _ a _ b) h = let s = some_sides (kind_of_node a) (kind_of_node b) h in (fits a s.0, fits b s.1)
  fits (node.Through' _ a q) h =
      let some = admitted h.0 in
      let admits : AdmitsBy (kind_behind q (kind_of_node a)) some.0 = subst (λ o. AdmitsBy o some.0) (sym h.1) some.1 in
      (fits a (some_behind q (kind_of_node a) h), taken_by (λ j. HasKindOf v j a) q some.0 (behind_kind (λ j. HasKindOf v j a) q (kind_of_node a) some.0 (λ j i. has_kind a j i) admits))
  fits (node.Take' n _ a) h = fits a h
  fits (node.Into' p _ a) h = fits a (some_mapped (kind_of_node a) h)
  fits (node.Zip' _ a _ b) h =
      let sides = kind_of_sides (kind_of_node a) (kind_of_node b) in
      let s = some_sides (kind_of_node a) (kind_of_node b) (some_then paired_kind sides h) in
      let lines = admits_sides (kind_of_node a) (kind_of_node b) Lines (takes_lines sides h) in
      ((fits a s.0, fits b s.1), has_kind a Lines lines.0, has_kind b Lines lines.1)
  fits (node.Merge' _ a _ b) h =
      let s = some_sides (kind_of_node a) (kind_of_node b) (some_then merged_kind (kind_of_sides (kind_of_node a) (kind_of_node b)) h) in (fits a s.0, fits b s.1)

  -- the pipes of a node that has a kind fit, and each load is of that kind
  pub fits_kind : (n : Node) (j : Kind) → kind_of_node n ≡ Some j → PipesFitOf v n
  fits_kind n j e = fits n (j, e)

  pub loads_have_kind : (n : Node) (k : LoadKind) → kind_of_node n ≡ Some (stream_kind k) → HasKindOf v k n
  loads_have_kind n k e = has_kind n k (subst (λ o. AdmitsBy o k) (sym e) (self k))
    where
      self : (k : LoadKind) → Admits (stream_kind k) k
      self Bytes = refl
      self Lines = refl
      self Rows = refl
